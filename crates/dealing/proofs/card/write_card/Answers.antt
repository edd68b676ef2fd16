-- `dealing::card::write_card` meets its contract: the blocks of the first rows are laid over the front of what was lent.
-- Assumes nothing.
use Prim.Native.Nat.{◌+◌, ◌-◌, ◌*◌, ◌≤◌, ◌<◌, ℕ}
use mathlib.Core.Path.{◌≡◌, sym, ap, ◌∙◌}
use mathlib.Core.Bool.{Bool, true, false, not}
use mathlib.Core.List.{List, [], ◌++◌}
use native.Mathlib.Omega.{arith}
use lib.ListN.{length, get_or, take, drop}
use Rattle.lists.specs.Over.{over}
use Rattle.lists.specs.Places.{those}
use Rattle.answer.specs.Outcome.{done, outcome}
use Rattle.answer.proofs.LentLaws.{room-refused, room-given}
use Rattle.dealing.specs.Inner.{held_in}
use Rattle.dealing.proofs.CardLaws.{unmarked, next-piece, held-few, block_size, block-is, ready_writable}
use Rattle.dealing.proofs.LaidLaws.{Laid, laid_start, laid_skip, laid_take, laid_end, room-left}
use Rattle.dealing.proofs.card.write_card.Goals as goal
use Rattle.dealing.proofs.card.write_card.Goals.{then-not-rows-row, else-not-rows-row}

-- what was lent has room for every block
enough : (rows : List (List Bool)) (holder k blocks : ℕ) (out : List ℕ) → blocks ≡ length (held_in rows holder k) → 512 * blocks ≤ length out
    → 512 * length (those (unmarked rows holder) 1 k) ≤ length out
unfolding held_in
enough rows holder k blocks out e h = rw e at h

-- and so for the next one
room : (rows : List (List Bool)) (holder : ℕ) {block : ℕ → List ℕ} {k blocks at row : ℕ} {old out : List ℕ}
    → Laid block (unmarked rows holder) k old out at row → ((j : ℕ) → length (block j) ≡ 512) → row < k
    → not (get_or (get_or rows row []) (holder - 1) false) ≡ true
    → blocks ≡ length (held_in rows holder k) → 512 * blocks ≤ length old → at + 512 ≤ length out
room rows holder {k = k} {blocks = blocks} {row = row} {old = old} w size h t e r = room-left w size h (next-piece rows holder row t) (enough rows holder k blocks old e r)

pub overflow_mul-blocks : goal.overflow_mul-blocks
overflow_mul-blocks c =
    omega (arith, c.held_count-blocks.ensures, held-few c.args.rows.now c.args.holder c.args.k, c.requires.most)

pub returns-then-out-blocks-clause-says : goal.returns-then-out-blocks-clause-says
returns-then-out-blocks-clause-says c =
    let h = c.held_count-blocks in
    rw (← h.ensures) (ap outcome c.refuse.ensures ∙ sym (room-refused (512 * h.result) h.result (length c.args.out.now) (done h.result) c.if-out-blocks.true))

pub loop-row-init : goal.loop-row-init
loop-row-init c = laid_start _ _ _ _

pub write_piece-requires : goal.write_piece-requires
write_piece-requires c =
    record {
      at_in_bounds = room c.args.rows.now c.args.holder c.loop-row.invariant (block_size _ _ _ _) c.loop-row-test.true (ap not c.if-not-rows-row.true) c.held_count-blocks.ensures c.if-out-blocks.false;
      writable = ready_writable _ _ _ _ c.shared_label-shared.ensures (c.loop-row.row + 1) c.requires (omega arith) (omega (arith, c.loop-row-test.true));
    }

pub overflow_add-at : goal.overflow_add-at
overflow_add-at c = omega (arith, room c.args.rows.now c.args.holder c.loop-row.invariant (block_size _ _ _ _) c.loop-row-test.true (ap not c.if-not-rows-row.true) c.held_count-blocks.ensures c.if-out-blocks.false)

pub loop-row-preserved : goal.loop-row-preserved
loop-row-preserved c =
    let a = c.args in
    let l = c.loop-row in
    let h = c.loop-row-test.true in
    elim c.if-not-rows-row.branch [
      | then-not-rows-row w ↦
          rw w.at-is
          (laid_take l.invariant (block_size _ _ _ _) h (next-piece a.rows.now a.holder l.row (ap not w.if-not-rows-row.true))
          (enough a.rows.now a.holder a.k c.held_count-blocks.result a.out.now c.held_count-blocks.ensures c.if-out-blocks.false) c.if-not-rows-row.out
          (w.out-is ∙ w.write_piece.ensures ∙ ap (λ (b : List ℕ). take l.at l.out ++ over b (drop l.at l.out)) (block-is _ _ c.args.deal.secret.now c.args.deal.random.now c.shared_label-shared.ensures (l.row + 1))))
      | else-not-rows-row w ↦ rw (w.out-is, w.at-is) (laid_skip l.invariant h (next-piece a.rows.now a.holder l.row (ap not w.if-not-rows-row.false)))
    ]

pub returns : goal.returns
unfolding held_in
returns c =
    let h = c.held_count-blocks in record { says = rw (← h.ensures) (sym (room-given (512 * h.result) h.result (length c.args.out.now) (done h.result) c.if-out-blocks.false)); leaves = laid_end c.loop-row.invariant c.loop-row-test.false }
