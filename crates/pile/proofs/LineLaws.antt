-- The blocks whose lines passed are true, and the lines of true blocks pass; and a pile's lines are its blocks', in order. Assumes nothing.
use mathlib.Core.Path.{◌≡◌, refl, ap₂}
use mathlib.Core.Logic.{⊎_elim}
use mathlib.Core.List.{List, ◌++◌, flat_map}
use Prim.Native.Nat.{ℕ, zero, suc, ◌+◌, ◌≤◌, ◌<◌}
use native.Mathlib.Nat.{le_refl, eq-or-lt_of_le}
use native.Mathlib.Numerals.{add-one}
use native.Mathlib.Omega.{arith}
use Rattle.lists.specs.Run.{run}
use Rattle.answer.specs.Checks.{Line}
use Rattle.answer.specs.Laws.{Passed}
use Rattle.answer.proofs.CheckLaws.{passed_none, passed-append, passed_both}
use Rattle.block.specs.Open.{TrueBlock, block_lines}
use Rattle.block.proofs.Laws.{true_means}
use Rattle.pile.specs.Blocks.{blocks, rest_from, TrueBlocks}
use Rattle.pile.specs.Lines.{lines_from, every_block}
use Rattle.pile.proofs.PileLaws.{rest_long}

lines_true : (pile : List ℕ) (n a : ℕ) → 1 ≤ a → a + n ≤ blocks pile + 1 → Passed (lines_from pile a n) → (b : ℕ) → a ≤ b → b < a + n → TrueBlock (rest_from pile b)
unfolding lines_from
lines_true pile zero a l f p b m h = absurd (omega arith)
lines_true pile (suc n) a l f p b m h =
    let r = passed-append (block_lines (rest_from pile a) a) p in
    ⊎_elim
    (λ (same : a ≡ b). rw (← same) ((true_means (rest_from pile a) a).1 (rest_long pile a l (omega arith)) r.0))
    (λ (less : a < b). lines_true pile n (a + 1) (omega arith) (omega arith) r.1 b (omega arith) (omega arith))
    (eq-or-lt_of_le m)

pub blocks_true : (pile : List ℕ) → Passed (every_block pile) → TrueBlocks pile
unfolding every_block
blocks_true pile p = record { block = λ a l h. lines_true pile (blocks pile) 1 (le_refl 1) (omega arith) p a l (omega arith) }

true_lines : (pile : List ℕ) (n a : ℕ) → ((b : ℕ) → a ≤ b → b < a + n → TrueBlock (rest_from pile b)) → Passed (lines_from pile a n)
unfolding lines_from
true_lines pile zero a h = passed_none
true_lines pile (suc n) a h =
    passed_both (block_lines (rest_from pile a) a) ((true_means (rest_from pile a) a).0 (h a (le_refl a) (omega arith)))
    (true_lines pile n (a + 1) (λ b l m. h b (omega arith) (omega arith)))

pub true_blocks : (pile : List ℕ) → TrueBlocks pile → Passed (every_block pile)
unfolding every_block
true_blocks pile t = true_lines pile (blocks pile) 1 (λ b l m. t.block b l (omega arith))

-- ---- blocks in pile order: the lines of n of them, one block after the other, whatever these lines are written as
pub in_order : (pile : List ℕ) (lines : ℕ → List Line) (n a : ℕ) → ((b : ℕ) → a ≤ b → b < a + n → block_lines (rest_from pile b) b ≡ lines b)
    → lines_from pile a n ≡ flat_map lines (run (λ b. b) a n)
unfolding lines_from flat_map run
in_order pile lines zero a h = refl
in_order pile lines (suc n) a h =
    ap₂ (λ (ls ms : List Line). ls ++ ms) (h a (le_refl a) (omega arith))
    (rw (add-one a) (in_order pile lines n (suc a) (λ b l m. h b (omega arith) (omega arith))))
