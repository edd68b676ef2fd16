-- Demand 1 of the other calls, proved: each statement by its name in specs/Readings.antt. Assumes nothing.
use mathlib.Core.List.{[], ◌∷◌, ◌++◌}
use Prim.Native.Nat.{◌+◌}
use Rattle.answer.proofs.WhichLaws.{refused-number}
use Rattle.block.specs.Layout.{front_words}
use Rattle.block.specs.Open.{block_lines}
use Rattle.pile.specs.Blocks.{blocks, rest_from}
use Rattle.pile.specs.Lines.{torn_pile, every_block}
use Rattle.reader.specs.Seeing.{opening_at, reading}
use Rattle.reader.proofs.SeeingLaws.{seeing-block}
use Rattle.policy.specs.Policy.{lines, policy_in, read_policy}
use Rattle.listing.specs.Listing.{listed_plan, listed}
use Rattle.listing.proofs.Laws.{text_first, planning_next}
use Rattle.demands.specs.Readings as demand
use Rattle.demands.proofs.LineLaws.{ends}

pub read_ends : demand.ReadEnds
unfolding read_policy
read_ends text = ends (demand.text_lines text) (policy_in (lines text))

pub read_refuses : demand.ReadRefuses
unfolding read_policy
read_refuses text = refused-number (demand.text_lines text) (policy_in (lines text))

pub list_ends : demand.ListEnds
unfolding listed listed_plan
list_ends text = (text_first text, planning_next text, λ p k e f. rw (e, f))

pub next_ends : demand.NextEnds
unfolding opening_at
next_ends pile n h = (seeing-block pile n h, ends (block_lines (rest_from pile (n + 1)) (n + 1)) (front_words (rest_from pile (n + 1))))

pub all_ends : demand.AllEnds
unfolding reading
all_ends pile = ends (every_block pile ++ torn_pile pile ∷ []) (blocks pile)
