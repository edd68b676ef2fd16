-- `desk::slots::write_secret` meets its contract. The invariant: the first i words of the secret are written.
-- Assumes nothing.
use mathlib.Core.Path.{◌≡◌}
use lib.ListN.{length}
use Rattle.lists.specs.Over.{over}
use Rattle.lists.specs.Run.{run}
use Rattle.field.specs.Joined.{joined}
use Rattle.field.specs.Secret.{column}
use Rattle.desk.specs.Slots.{value_in}
use Rattle.desk.proofs.slots.write_secret.Given as goal

abbrev pub invariant-loop-i : goal.invariant-loop-i
invariant-loop-i l = (length l.values ≡ 70) × (l.out ≡ over (run (λ m. joined (column (value_in l.slots l.client) l.k m)) 1 l.i) l.initial.out)
