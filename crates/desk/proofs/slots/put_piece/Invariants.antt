-- `desk::slots::put_piece` meets its contract. The invariant: the mark and the values before value i are written.
-- Assumes nothing.
use mathlib.Core.Path.{◌≡◌}
use Prim.Native.Nat.{◌-◌}
use lib.ListN.{length}
use Rattle.desk.specs.Slots.{over_at, kept}
use Rattle.desk.proofs.slots.put_piece.Given as goal

abbrev pub invariant-loop-i : goal.invariant-loop-i
invariant-loop-i l = (length l.slots ≡ 1190) × (l.slots ≡ over_at l.at (kept l.block (l.i - 1)) l.initial.slots)
