-- `print::page::Page::write_bytes` meets its contract: the bytes are copied to where the page is written so far.
-- Assumes nothing.
use native.Mathlib.Omega.{arith}
use Rattle.print.proofs.WrittenLaws.{copied}
use Rattle.print.proofs.page.Page.write_bytes.Goals as goal

pub returns-clause-written : goal.returns-clause-written
returns-clause-written c =
    record { behind = omega arith; bytes = copied _ _ _ _ _ (omega arith) c.copy_from_slice.ensures.after }
