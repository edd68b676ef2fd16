-- `joining::places::set_counts` meets its contract. The invariant: the table is what the first blocks say, of those before block a.
-- Assumes nothing.
use mathlib.Core.Path.{◌≡◌}
use mathlib.Core.List.{map}
use Rattle.joining.specs.Inner.{said}
use Rattle.joining.proofs.TableLaws.{table_to, in_set}
use Rattle.joining.proofs.places.set_counts.Given as goal

abbrev pub invariant-loop-a : goal.invariant-loop-a
invariant-loop-a l = l.table ≡ map (said l.pile) (table_to (in_set l.pile) 71 l.a)
