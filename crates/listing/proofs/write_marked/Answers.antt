-- `listing::write_marked` meets its contract: the numbers of the marks so far are written.
-- Assumes nothing.
use mathlib.Core.Path.{◌≡◌, refl, sym, subst, ◌∙◌}
use mathlib.Core.Bool.{Bool, true, false}
use mathlib.Core.List.{List}
use Prim.Native.Nat.{ℕ, ◌+◌, ◌-◌}
use lib.ListN.{length, get_or}
use Rattle.lists.specs.Places.{those}
use Rattle.print.specs.declared.page.Page.{Page}
use Rattle.print.specs.Inner.{Room, Writes}
use Rattle.print.specs.Lines.{spaced_all}
use Rattle.print.proofs.WrittenLaws.{nothing, retold, turn_room, turn_written}
use Rattle.print.proofs.LineLaws.{here}
use Rattle.listing.proofs.ListingLaws.{marked_part, marked_grows, marked_yes, marked_no}
use Rattle.listing.proofs.write_marked.Goals as goal
use Rattle.listing.proofs.write_marked.Goals.{then-mark, else-mark}

pub loop-i-init : goal.loop-i-init
unfolding those spaced_all
loop-i-init c = (refl, nothing _)

pub write_number-requires : goal.write_number-requires
write_number-requires c =
    let test : ℕ → Bool = λ n. get_or c.args.marks.now (n - 1) false in
    let whole : ℕ → List ℕ = λ i. spaced_all (those test 1 i) in
    let l = c.loop-i in
    let passed : test (l.i + 1) ≡ true = rw (here l.i) c.if-mark.true in
    subst (λ (bytes : List ℕ). Room bytes l.page) (marked_yes test l.i passed)
    (turn_room whole (marked_part test) (marked_grows test) l.i (length c.args.marks.now) c.loop-i-test.true c.requires l.invariant.1)

pub loop-i-preserved : goal.loop-i-preserved
loop-i-preserved c =
    let test : ℕ → Bool = λ n. get_or c.args.marks.now (n - 1) false in
    let whole : ℕ → List ℕ = λ i. spaced_all (those test 1 i) in
    let l = c.loop-i in
    let turn : (now : Page) → Writes (marked_part test l.i) l.page now → Writes (whole (l.i + 1)) c.args.page.now now =
    λ now w. turn_written whole (marked_part test) (marked_grows test) l.i (length c.args.marks.now) c.loop-i-test.true c.requires l.invariant.1 w
    in
    elim c.if-mark.branch [
      | then-mark w ↦
          let passed : test (l.i + 1) ≡ true = rw (here l.i) w.if-mark.true in
          rw w.page-is (
            w.write_number.ensures.same_buffer ∙ l.invariant.0,
            turn _ (retold (sym (marked_yes test l.i passed)) w.write_number.ensures.written),
          )
      | else-mark w ↦
          let passed : test (l.i + 1) ≡ false = rw (here l.i) w.if-mark.false in
          rw w.page-is (l.invariant.0, turn _ (retold (sym (marked_no test l.i passed)) (nothing l.page)))
    ]
