-- `print::page::Page::write_number` meets its contract: a space, and the digits that the library gives. Assumes nothing.
use mathlib.Core.Path.{◌≡◌, sym, ◌∙◌, subst}
use mathlib.Core.List.{List, [], ◌∷◌}
use Prim.Native.Nat.{ℕ}
use Rattle.print.specs.Inner.{Room}
use Rattle.print.specs.Decimal.{decimal}
use Rattle.print.specs.Lines.{spaced}
use Rattle.print.proofs.DecimalLaws.{as_the_library}
use Rattle.print.proofs.WrittenLaws.{◌then◌, room-first, room_next, retold}
use Rattle.print.proofs.page.Page.write_number.Goals as goal

pub write_bytes-requires : goal.write_bytes-requires
unfolding spaced
write_bytes-requires c = room-first (32 ∷ []) (decimal c.args.n) c.requires

pub write_bytes-requires-2 : goal.write_bytes-requires-2
unfolding spaced
write_bytes-requires-2 c =
    let same : decimal c.args.n ≡ c.as_bytes.result.now = as_the_library c.args.n c.ranges.n.fits ∙ sym c.format.ensures.text ∙ sym c.as_bytes.ensures.value in
    let next : Room (decimal c.args.n) c.write_bytes.new.self = room_next {new = 32 ∷ []} (decimal c.args.n) c.write_bytes.ensures.written c.requires in
    subst (λ (l : List ℕ). Room l c.write_bytes.new.self) same next

pub returns-clause-written : goal.returns-clause-written
unfolding spaced
returns-clause-written c =
    let same : decimal c.args.n ≡ c.as_bytes.result.now = as_the_library c.args.n c.ranges.n.fits ∙ sym c.format.ensures.text ∙ sym c.as_bytes.ensures.value in
    ◌then◌ {new = 32 ∷ []} {more = decimal c.args.n} c.write_bytes.ensures.written (retold (sym same) c.write_bytes-2.ensures.written) c.requires
