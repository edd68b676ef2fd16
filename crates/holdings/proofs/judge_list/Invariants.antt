-- `holdings::judge_list` meets its contract: the groups passed are right.
-- Assumes nothing.
use mathlib.Core.Path.{◌≡◌}
use Prim.Native.Nat.{◌^◌, ◌≤◌}
use Rattle.lists.specs.Places.{first_in}
use Rattle.holdings.proofs.VerdictLaws.{wrong}
use Rattle.holdings.proofs.judge_list.Given as goal

abbrev pub invariant-loop-g : goal.invariant-loop-g
invariant-loop-g l =
    (1 ≤ l.g) × (first_in (wrong l.required l.sets l.list.pieces l.list.needed) 1 (2 ^ l.people) ≡ first_in (wrong l.required l.sets l.list.pieces l.list.needed) l.g (2 ^ l.people))
