-- `listing::write_piece` meets its contract: the marks of the people are the row's. Assumes nothing.
use mathlib.Core.Path.{sym, subst}
use mathlib.Core.List.{List}
use native.Mathlib.Omega.{arith}
use Prim.Native.Nat.{ℕ}
use Rattle.print.specs.Inner.{Room}
use Rattle.print.proofs.WrittenLaws.{retold}
use Rattle.listing.proofs.ListingLaws.{row_line}
use Rattle.listing.proofs.write_piece.Goals as goal

pub write_line-requires : goal.write_line-requires
write_line-requires c =
    subst (λ (bytes : List ℕ). Room bytes c.args.page.now) (sym (row_line c.args.row.now c.args.people c.args.j (omega (arith, c.requires.few))))
    c.requires.room

pub returns-clause-written : goal.returns-clause-written
returns-clause-written c =
    retold (row_line c.args.row.now c.args.people c.args.j (omega (arith, c.requires.few))) c.write_line.ensures.written
