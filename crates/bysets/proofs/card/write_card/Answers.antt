-- `bysets::card::write_card` meets its contract: the blocks of the first sets are laid over the front of what was lent, and their parts of the
-- randomness are used. Assumes nothing.
use Prim.Native.Nat.{ℕ, ◌+◌, ◌*◌, ◌≤◌, ◌<◌}
use mathlib.Core.Path.{◌≡◌, sym, ap, ◌∙◌}
use mathlib.Core.Bool.{true}
use mathlib.Core.List.{List, ◌++◌}
use native.Mathlib.Omega.{arith}
use lib.ListN.{length, get_or, take, drop}
use Rattle.lists.specs.Over.{over}
use Rattle.lists.specs.Places.{those}
use Rattle.answer.specs.Outcome.{done, outcome}
use Rattle.answer.proofs.LentLaws.{room-refused, room-given}
use Rattle.planning.specs.Sets.{member}
use Rattle.minimal.specs.Minimal.{sets_with}
use Rattle.minimal.proofs.CountLaws.{count-few}
use Rattle.dealing.proofs.LaidLaws.{Laid, laid_start, laid_skip, laid_take, laid_end, room-left}
use Rattle.bysets.specs.Cards.{sizes}
use Rattle.bysets.proofs.SizeLaws.{has, next_in, held-few}
use Rattle.bysets.proofs.CardLaws.{block_size, block-is, set_writable, none_used, size_in, few_words, used_next, used_in, cut_ready, piece_in_lem, cut_block}
use Rattle.bysets.proofs.card.write_card.Goals as goal
use Rattle.bysets.proofs.card.write_card.Goals.{then-has, else-has}

-- what was lent has room for every block
enough : (sets : List ℕ) (holder blocks : ℕ) (out : List ℕ) → blocks ≡ length (sets_with sets holder (length sets)) → 512 * blocks ≤ length out
    → 512 * length (those (has sets holder) 1 (length sets)) ≤ length out
unfolding sets_with
enough sets holder blocks out e h = rw e at h

-- and so for the next one
room : (sets : List ℕ) (holder : ℕ) {block : ℕ → List ℕ} {blocks at i : ℕ} {old out : List ℕ}
    → Laid block (has sets holder) (length sets) old out at i → ((s : ℕ) → length (block s) ≡ 512) → i < length sets
    → member holder (get_or sets i 0) ≡ true
    → blocks ≡ length (sets_with sets holder (length sets)) → 512 * blocks ≤ length old → at + 512 ≤ length out
room sets holder {blocks = blocks} {i = i} {old = old} w size h t e r = room-left w size h (next_in sets holder i t) (enough sets holder blocks old e r)

pub overflow_mul-blocks : goal.overflow_mul-blocks
overflow_mul-blocks c =
    omega (arith, c.held_count-blocks.ensures, held-few c.args.sets.now c.args.holder (length c.args.sets.now), c.requires.proper.count)

pub returns-then-out-blocks-clause-says : goal.returns-then-out-blocks-clause-says
returns-then-out-blocks-clause-says c =
    let h = c.held_count-blocks in
    rw (← h.ensures) (ap outcome c.refuse.ensures ∙ sym (room-refused (512 * h.result) h.result (length c.args.out.now) (done h.result) c.if-out-blocks.true))

pub loop-i-init : goal.loop-i-init
loop-i-init c =
    let a = c.args in
    (laid_start _ _ _ _, none_used (length a.deal.secret.now) (sizes a.sets.now))

pub overflow_sub-end : goal.overflow_sub-end
overflow_sub-end c =
    let l = c.loop-i in
    (size_in c.requires l.i c.members-pieces.result l.used c.loop-i-test.true c.members-pieces.ensures l.invariant.1).0

pub overflow_mul-end : goal.overflow_mul-end
overflow_mul-end c =
    let l = c.loop-i in
    omega (arith, few_words c.requires l.i c.members-pieces.result l.used c.loop-i-test.true c.members-pieces.ensures l.invariant.1)

pub overflow_add-end : goal.overflow_add-end
overflow_add-end c =
    let l = c.loop-i in
    omega (arith, used_in c.requires l.i c.members-pieces.result l.used c.loop-i-test.true c.members-pieces.ensures l.invariant.1)

pub offset_bounds-deal-used : goal.offset_bounds-deal-used
offset_bounds-deal-used c =
    let l = c.loop-i in
    omega (arith, used_in c.requires l.i c.members-pieces.result l.used c.loop-i-test.true c.members-pieces.ensures l.invariant.1)

pub slice_bounds-write_piece-end : goal.slice_bounds-write_piece-end
slice_bounds-write_piece-end c =
    let l = c.loop-i in
    omega (arith, used_in c.requires l.i c.members-pieces.result l.used c.loop-i-test.true c.members-pieces.ensures l.invariant.1)

pub overflow_cast-label : goal.overflow_cast-label
overflow_cast-label c =
    let l = c.loop-i in
    let size = size_in c.requires l.i c.members-pieces.result l.used c.loop-i-test.true c.members-pieces.ensures l.invariant.1 in
    record { fits = omega (arith, size.1, c.requires.few) }

pub overflow_cast-label-then-has : goal.overflow_cast-label-then-has
overflow_cast-label-then-has c = record { fits = omega (arith, c.members-piece.ensures, count-few (get_or c.args.sets.now c.loop-i.i 0) c.args.holder, c.requires.holder_in.1, c.requires.few) }

pub write_piece-requires : goal.write_piece-requires
write_piece-requires c =
    let a = c.args in
    let l = c.loop-i in
    let h = c.loop-i-test.true in
    let r = c.requires in
    let t = sym c.has.ensures ∙ c.if-has.true in
    let size = size_in r l.i c.members-pieces.result l.used h c.members-pieces.ensures l.invariant.1 in
    let piece = piece_in_lem r l.i c.members-pieces.result l.used h c.members-pieces.ensures l.invariant.1 c.members-piece.result c.members-piece.ensures (next_in a.sets.now a.holder l.i t) in
    record {
      at_in_bounds = room a.sets.now a.holder l.invariant.0 (block_size _ _ _ _) h t c.held_count-blocks.ensures c.if-out-blocks.false;
      writable =
          set_writable _ _ _ _ c.shared_label-shared.ensures c.members-piece.result (l.i + 1) (cut_ready r l.i c.members-pieces.result l.used h c.members-pieces.ensures l.invariant.1)
          piece.0 piece.1 size.1 (omega arith) (omega (arith, r.proper.count));
    }

pub overflow_add-at : goal.overflow_add-at
overflow_add-at c =
    omega (
      arith,
      room c.args.sets.now c.args.holder c.loop-i.invariant.0 (block_size _ _ _ _) c.loop-i-test.true (sym c.has.ensures ∙ c.if-has.true)
          c.held_count-blocks.ensures c.if-out-blocks.false,
    )

pub loop-i-preserved : goal.loop-i-preserved
loop-i-preserved c =
    let a = c.args in
    let l = c.loop-i in
    let h = c.loop-i-test.true in
    let r = c.requires in
    let e = sym c.has.ensures in
    let next = used_next r l.i c.members-pieces.result l.used h c.members-pieces.ensures l.invariant.1 in
    elim c.if-has.branch [
      | then-has w ↦ (
        rw w.at-is
            (laid_take l.invariant.0 (block_size _ _ _ _) h (next_in a.sets.now a.holder l.i (e ∙ w.if-has.true))
            (enough a.sets.now a.holder c.held_count-blocks.result a.out.now c.held_count-blocks.ensures c.if-out-blocks.false) c.if-has.out
            (w.out-is ∙ w.write_piece.ensures
            ∙ ap (λ (b : List ℕ). take l.at l.out ++ over b (drop l.at l.out))
            (block-is _ _ a.deal.secret.now _ c.shared_label-shared.ensures w.members-piece.result (l.i + 1)
            ∙ cut_block r l.i c.members-pieces.result l.used h c.members-pieces.ensures l.invariant.1 w.members-piece.result w.members-piece.ensures))),
        w.used-is ∙ next,
      )
      | else-has w ↦ (rw (w.out-is, w.at-is) (laid_skip l.invariant.0 h (next_in a.sets.now a.holder l.i (e ∙ w.if-has.false))), w.used-is ∙ next)
    ]

pub returns : goal.returns
unfolding sets_with
returns c =
    let h = c.held_count-blocks in
    record { says = rw (← h.ensures) (sym (room-given (512 * h.result) h.result (length c.args.out.now) (done h.result) c.if-out-blocks.false)); leaves = laid_end c.loop-i.invariant.0 c.loop-i-test.false }
