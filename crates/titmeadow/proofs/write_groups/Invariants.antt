-- `titmeadow::write_groups` meets its contract. The invariant: the groups of the first j rows are written.
-- Assumes nothing.
use mathlib.Core.Path.{◌≡◌}
use mathlib.Core.List.{map}
use Prim.Native.Nat.{◌≤◌}
use lib.ListN.{length, take}
use Rattle.lists.specs.Over.{over}
use Rattle.titmeadow.specs.Inner.{number_of}
use Rattle.titmeadow.proofs.write_groups.Given as goal

abbrev pub invariant-loop-j : goal.invariant-loop-j
invariant-loop-j l = (length l.groups ≡ 70) × (l.groups ≡ over (map number_of (take l.j l.rows)) l.initial.groups)
