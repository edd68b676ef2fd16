-- `joining::secret::write_column` meets its contract. The invariant: the values of pieces 1 to j stand in front. Assumes nothing.
use mathlib.Core.Path.{◌≡◌}
use Rattle.lists.specs.Run.{run}
use Rattle.lists.specs.Over.{over}
use Rattle.joining.specs.Pile.{value_at}
use Rattle.joining.proofs.secret.write_column.Given as goal

abbrev pub invariant-loop-j : goal.invariant-loop-j
invariant-loop-j l = l.values ≡ over (run (λ m. value_at l.pile m l.i) 1 l.j) l.initial.values
