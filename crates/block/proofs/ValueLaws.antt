-- The value bytes: empty of a refused block, and words 8 to 7+w of a true one, within the pile.
-- Assumes nothing.
use mathlib.Core.Path.{◌≡◌, ap, ◌∙◌}
use mathlib.Core.List.{List, []}
use Prim.Native.Nat.{ℕ, ◌+◌, ◌-◌, ◌*◌, ◌≤◌, ◌<◌}
use native.Mathlib.Omega.{arith}
use lib.ListN.{length, get_or, take, drop, length-drop}
use lib.Seq.{get_or-take, get_or-drop, length-take-le}
use Rattle.lists.proofs.RunLaws.{run-same}
use Rattle.answer.specs.Outcome.{done, refused}
use Rattle.block.specs.declared.Words.{Words}
use Rattle.block.specs.Words.{word_at, bytes_of}
use Rattle.block.specs.Layout.{width_of, values_of}
use Rattle.block.specs.Open.{opening, value_bytes, value_start, words_of, TrueBlock}
use Rattle.block.proofs.WordLaws.{bytes_of_words}
use Rattle.block.proofs.RangeLaws.{true_ranges}
use Rattle.block.proofs.OpenLaws.{true_opens, opens_true}

-- a refused block has no value bytes
pub refused_empty : (pile : List ℕ) (m a b : ℕ) → opening pile ≡ refused m a b → (value_bytes pile ≡ []) × (value_start pile ≡ 0)
unfolding value_bytes value_start
refused_empty pile m a b e = (rw e, rw e)

-- a block that opens has them within the pile
pub values_head : (pile : List ℕ) (h : Words) → opening pile ≡ done (words_of h)
    → (14 + 2 * h.width ≤ length pile) × (take (2 * h.width) (drop 14 pile) ≡ value_bytes pile) × (value_start pile ≡ 14)
unfolding value_bytes value_start
values_head pile h e =
    let t = opens_true pile (words_of h) e in
    let w : h.width ≡ width_of pile = ap (λ (ws : List ℕ). get_or ws 5 0) t.1 in
    (omega (arith, t.0.long, (true_ranges t.0).width.1), rw (e, w), rw e)

-- word i past the 14 bytes of words 1 to 7 is word 7+i
word_past : (b : List ℕ) (i : ℕ) → 1 ≤ i → word_at (drop 14 b) i ≡ word_at b (7 + i)
unfolding word_at
word_past b i l =
    let x : 14 + 2 * (i - 1) ≡ 2 * (7 + i - 1) = omega arith in
    let y : 14 + (2 * (i - 1) + 1) ≡ 2 * (7 + i - 1) + 1 = omega arith in
    rw (get_or-drop 14 b (2 * (i - 1)) 0, get_or-drop 14 b (2 * (i - 1) + 1) 0, x, y)

-- the value bytes of a true block are its words 8 to 7+w
part_word : (b : List ℕ) (w i : ℕ) → 1 ≤ i → i ≤ w → word_at (take (2 * w) (drop 14 b)) i ≡ word_at b (7 + i)
unfolding word_at
part_word b w i l h =
    rw (get_or-take (2 * w) (drop 14 b) (2 * (i - 1)) 0 (omega arith), get_or-take (2 * w) (drop 14 b) (2 * (i - 1) + 1) 0 (omega arith)) (word_past b i l)

pub value-words : (pile : List ℕ) → TrueBlock pile
    → (length (value_bytes pile) ≡ 2 * width_of pile) × ((i : ℕ) → 1 ≤ i → i ≤ width_of pile → word_at (value_bytes pile) i ≡ word_at pile (7 + i))
unfolding value_bytes
value-words pile t =
    let n : 2 * width_of pile ≤ length (drop 14 pile) = simp length-drop (omega (arith, t.long, (true_ranges t).width.1)) in
    rw (true_opens pile t) (length-take-le (2 * width_of pile) (drop 14 pile) n, λ i l h. part_word pile (width_of pile) i l h)

-- and, each byte of the block being below 256, the bytes of its values
pub value-bytes : (b : List ℕ) → ((i : ℕ) → get_or b i 0 < 256) → TrueBlock b → value_bytes b ≡ bytes_of (values_of b)
unfolding value_bytes values_of word_at
value-bytes b low t =
    let n : 2 * width_of b ≤ length (drop 14 b) = simp length-drop (omega (arith, t.long, (true_ranges t).width.1)) in
    rw (true_opens b t)
    (bytes_of_words (drop 14 b) (λ i. rw (get_or-drop 14 b i 0) (low (14 + i))) (width_of b) n
    ∙ ap bytes_of (run-same (word_at (drop 14 b)) (λ i. word_at b (7 + i)) (width_of b) (λ i l h. word_past b i l)))
