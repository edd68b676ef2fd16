-- `print::lines::refused_line` meets its contract: no refusal line is longer than 71 bytes.
-- Assumes nothing.
use mathlib.Core.Path.{◌≡◌, ap, ◌∙◌}
use mathlib.Core.List.{List}
use native.Mathlib.Omega.{arith}
use Prim.Native.Nat.{ℕ, ◌<◌}
use lib.ListN.{length}
use Rattle.answer.specs.declared.Kind.{Kind}
use Rattle.answer.specs.Outcome.{number}
use Rattle.print.specs.declared.page.Page.{Page}
use Rattle.print.specs.Inner.{Room}
use Rattle.print.specs.Lines.{refused_line}
use Rattle.print.proofs.WrittenLaws.{room_in_front, printed}
use Rattle.print.proofs.LineLaws.{refused-few}
use Rattle.print.proofs.lines.refused_line.Goals as goal

fits : (k : Kind) (a b : ℕ) → a < 18446744073709551616 → b < 18446744073709551616 → (page : Page) → page.at ≡ 0 → (lent : List ℕ)
    → page.out.now ≡ lent → length lent ≡ 128 → Room (refused_line (number k) a b) page
fits k a b p q page z lent e l =
    room_in_front _ z (omega (arith, refused-few k a b p q, ap length e ∙ l))

pub write_refusal-requires : goal.write_refusal-requires
write_refusal-requires c =
    let r = c.args.refusal in
    fits r.kind r.a r.b (omega arith) (omega arith) c.new-page.result c.new-page.ensures.front c.args.out.now c.new-page.ensures.bytes c.told-out

pub returns : goal.returns
returns c =
    let r = c.args.refusal in
    printed c.new-page.ensures.bytes c.new-page.ensures.front c.write_refusal.ensures.written
    (fits r.kind r.a r.b (omega arith) (omega arith) c.new-page.result c.new-page.ensures.front c.args.out.now c.new-page.ensures.bytes c.told-out)
