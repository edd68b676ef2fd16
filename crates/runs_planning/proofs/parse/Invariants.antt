-- `runs_planning::parse` is safe, and counts no more sets than its list has places. Assumes nothing.
use Rattle.std.proofs.Common.{◌≡◌, ◌≤◌, length}
use Rattle.runs_planning.proofs.parse.Given as goal

abbrev pub invariant-loop-c : goal.invariant-loop-c
invariant-loop-c l = (l.last ≤ 63) × (length l.list ≡ 64)
