-- `adding::same_pair` meets its contract: two pairs are the same exactly where their numbers and years are.
-- Assumes nothing.
use mathlib.Core.Path.{ap, ◌∙◌}
use mathlib.Core.Bool.{◌&&◌}
use lib.Dec.{eqb}
use Rattle.adding.specs.declared.Pair.{Pair}
use Rattle.adding.specs.Adding.{same_pair}
use Rattle.adding.proofs.same_pair.Goals as goal

pub returns : goal.returns
unfolding same_pair
returns c = c.eq.ensures ∙ ap (λ (x : Pair). eqb c.args.new.number x.number && eqb c.args.new.year x.year) c.pair_in.ensures
