-- `joining::places::fill_places` meets its contract. The invariant: the table is that of the blocks before block a. Assumes nothing.
use mathlib.Core.Path.{◌≡◌}
use Rattle.joining.specs.Pile.{has_piece}
use Rattle.joining.proofs.TableLaws.{table_to}
use Rattle.joining.proofs.places.fill_places.Given as goal

abbrev pub invariant-loop-a : goal.invariant-loop-a
invariant-loop-a l = l.table ≡ table_to (has_piece l.pile) 560 l.a
