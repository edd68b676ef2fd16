-- `listing::write_holders` meets its contract: the lines so far are written.
-- Assumes nothing.
use mathlib.Core.Path.{refl, sym, subst, ◌∙◌}
use mathlib.Core.Bool.{not}
use mathlib.Core.List.{List}
use native.Mathlib.Omega.{arith}
use Prim.Native.Nat.{ℕ, ◌+◌}
use Rattle.planning.specs.Groups.{marked}
use Rattle.print.specs.Inner.{Room}
use Rattle.print.specs.Lines.{rising}
use Rattle.print.proofs.WrittenLaws.{nothing, retold, turn_room, turn_written}
use Rattle.print.proofs.LineLaws.{rising_grows}
use Rattle.listing.specs.Listing.{holder_line}
use Rattle.listing.proofs.ListingLaws.{column_line}
use Rattle.listing.proofs.write_holders.Goals as goal

pub loop-i-init : goal.loop-i-init
unfolding rising
loop-i-init c = (refl, nothing _)

pub write_line-requires : goal.write_line-requires
write_line-requires c =
    let line : ℕ → List ℕ = λ n. holder_line (λ m. not (marked c.args.plan.now.rows m n)) c.args.plan.now.pieces n in
    let l = c.loop-i in
    subst (λ (bytes : List ℕ). Room bytes l.page)
    (sym (column_line c.args.plan.now.rows c.unmarked-has.result c.args.plan.now.pieces l.i (omega arith) (omega (arith, c.requires.few)) c.unmarked-has.ensures))
    (turn_room (rising line) (λ n. line (n + 1)) (rising_grows line) l.i c.args.people c.loop-i-test.true c.requires.room l.invariant.1)

pub loop-i-preserved : goal.loop-i-preserved
loop-i-preserved c =
    let line : ℕ → List ℕ = λ n. holder_line (λ m. not (marked c.args.plan.now.rows m n)) c.args.plan.now.pieces n in
    let l = c.loop-i in (
      c.write_line.ensures.same_buffer ∙ l.invariant.0,
      turn_written (rising line) (λ n. line (n + 1)) (rising_grows line) l.i c.args.people c.loop-i-test.true c.requires.room l.invariant.1
          (retold
          (column_line c.args.plan.now.rows c.unmarked-has.result c.args.plan.now.pieces l.i (omega arith) (omega (arith, c.requires.few)) c.unmarked-has.ensures)
          c.write_line.ensures.written),
    )
