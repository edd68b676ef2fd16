-- `policy::read_members` meets its contract: the rest of the line, read on from the set so far, is the whole line.
-- Assumes nothing.
use mathlib.Core.Path.{◌≡◌}
use Prim.Native.Nat.{◌-◌, ◌*◌, ◌≤◌}
use lib.ListN.{length}
use Rattle.policy.specs.Policy.{members}
use Rattle.policy.proofs.read_members.Given as goal

abbrev pub invariant-loop-rest : goal.invariant-loop-rest
invariant-loop-rest l =
    (members l.last l.set l.rest ≡ members 48 0 l.line) × (48 ≤ l.last) × (l.last ≤ 57) × (l.set ≤ 256 * (l.last - 48))

abbrev pub decreases-loop-rest : goal.decreases-loop-rest
decreases-loop-rest l = length l.rest
