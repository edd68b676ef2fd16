-- `listing::write_pieces` meets its contract: the lines so far are written.
-- Assumes nothing.
use mathlib.Core.Path.{refl, sym, subst, ◌∙◌}
use mathlib.Core.Bool.{false}
use mathlib.Core.List.{List, []}
use Prim.Native.Nat.{ℕ, ◌+◌, ◌-◌}
use lib.ListN.{get_or}
use Rattle.planning.specs.Groups.{marked}
use Rattle.print.specs.Inner.{Room, Writes}
use Rattle.print.specs.Lines.{rising}
use Rattle.print.proofs.WrittenLaws.{nothing, turn_room, turn_written}
use Rattle.print.proofs.LineLaws.{here, rising_grows}
use Rattle.listing.specs.Listing.{piece_line}
use Rattle.listing.proofs.write_pieces.Goals as goal

pub loop-j-init : goal.loop-j-init
unfolding rising
loop-j-init c = (refl, nothing _)

pub write_piece-requires-clause-room : goal.write_piece-requires-clause-room
write_piece-requires-clause-room c =
    let line_of : ℕ → ℕ → List ℕ = λ index n. piece_line (λ i. get_or (get_or c.args.plan.now.rows index []) (i - 1) false) c.args.people n in
    let line : ℕ → List ℕ = λ n. piece_line (marked c.args.plan.now.rows n) c.args.people n in
    let l = c.loop-j in
    subst (λ (m : ℕ). Room (line_of m (l.j + 1)) l.page) (here l.j)
    (turn_room (rising line) (λ n. line (n + 1)) (rising_grows line) l.j c.args.plan.now.pieces c.loop-j-test.true c.requires.room l.invariant.1)

pub loop-j-preserved : goal.loop-j-preserved
loop-j-preserved c =
    let line_of : ℕ → ℕ → List ℕ = λ index n. piece_line (λ i. get_or (get_or c.args.plan.now.rows index []) (i - 1) false) c.args.people n in
    let line : ℕ → List ℕ = λ n. piece_line (marked c.args.plan.now.rows n) c.args.people n in
    let l = c.loop-j in (
      c.write_piece.ensures.same_buffer ∙ l.invariant.0,
      turn_written (rising line) (λ n. line (n + 1)) (rising_grows line) l.j c.args.plan.now.pieces c.loop-j-test.true c.requires.room l.invariant.1
          (subst (λ (m : ℕ). Writes (line_of m (l.j + 1)) l.page c.write_piece.new.page) (sym (here l.j)) c.write_piece.ensures.written),
    )
