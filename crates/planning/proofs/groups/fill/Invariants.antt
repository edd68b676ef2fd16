-- `planning::groups::fill` meets its contract: the maximal groups below g have their rows, and k counts them.
-- Assumes nothing.
use mathlib.Core.Path.{◌≡◌}
use Prim.Native.Nat.{◌^◌, ◌≤◌}
use Rattle.planning.specs.Groups.{maximal}
use Rattle.planning.proofs.RowLaws.{Filling}
use Rattle.planning.proofs.groups.fill.Given as goal

abbrev pub invariant-loop-g : goal.invariant-loop-g
invariant-loop-g l = (l.size ≡ 2 ^ l.people) × (l.size ≤ 256) × Filling (maximal l.people l.required) l.g l.k l.rows
