-- `block::reading::scan` meets its contract: the first word above 32748 is still to be found from word i on, and the words before it are in the sum.
-- Assumes nothing.
use Rattle.block.proofs.ScanLaws.{Scanning}
use Rattle.block.proofs.reading.scan.Given as goal

abbrev pub invariant-loop-i : goal.invariant-loop-i
invariant-loop-i l = Scanning l.b l.sum l.i
