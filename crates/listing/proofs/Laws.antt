-- This room's laws, proved: each by its name in specs/Laws.antt. Assumes nothing.
use mathlib.Core.Path.{ap, ◌∙◌}
use Rattle.listing.specs.Listing.{listed_policy, listed}
use Rattle.listing.specs.Laws as law
use Rattle.listing.proofs.PlanLaws.{plan_refused}

pub text_first : law.TextFirst
unfolding listed
text_first text m a b e = ap listed_policy e

pub planning_next : law.PlanningNext
unfolding listed
planning_next text p m a b e q = ap listed_policy e ∙ plan_refused p m a b q
