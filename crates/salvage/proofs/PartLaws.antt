-- Mending looks at 512 bytes and changes no other; so the rest of a pile, lent from some byte on, comes back with one block mended.
-- Assumes nothing.
use mathlib.Core.Path.{◌≡◌, refl, sym, ap, ◌∙◌}
use mathlib.Core.Logic.{⊎_elim, ◌≢◌}
use mathlib.Core.List.{List, [], ◌++◌, append-nil}
use Prim.Native.Nat.{ℕ, ◌-◌, ◌≤◌}
use native.Mathlib.Nat.{le_of_eq}
use native.Mathlib.Omega.{arith}
use lib.Dec.{ltb}
use lib.ListN.{length, take, drop, length-drop, drop_of_length-le, take-append-drop}
use lib.Seq.{length-take-le}
use Rattle.lists.proofs.Truth.{same_or_not}
use Rattle.lists.proofs.ThoseLaws.{those-same}
use Rattle.block.specs.Words.{word_at, put_at}
use Rattle.block.specs.Layout.{first_wrong}
use Rattle.block.specs.Open.{above}
use Rattle.block.proofs.WordLaws.{length-put, word-front}
use Rattle.block.proofs.StoreLaws.{put_front}
use Rattle.block.proofs.SumLaws.{weighted-same}
use Rattle.block.proofs.OnlyLaws.{only_wrong}
use Rattle.pile.proofs.PileLaws.{part_rest}
use Rattle.salvage.specs.Mended.{dirty_words, sole, without, other_sum, value_for, filled_in, rebuilt, mended_block}
use Rattle.salvage.proofs.DirtyLaws.{sole_dirty}
use Rattle.salvage.proofs.MendLaws.{mended_none, mended_some, rebuilt-none, rebuilt-some, rebuilt-at, rebuilt_broken}

pub part_mended : (old part : List ℕ) (at : ℕ) → part ≡ mended_block (take (length old - at) (drop at old))
    → take at old ++ (part ++ drop (length old - at) (drop at old)) ≡ take at old ++ mended_block (drop at old)
part_mended old part at e =
    let none : drop (length old - at) (drop at old) ≡ [] = drop_of_length-le (drop at old) (le_of_eq (length-drop at old)) in
    rw (none, append-nil part, e, part_rest old at)

-- ---- bytes behind the block
module _ (xs ys : List ℕ) (long : 512 ≤ length xs) where
  word_same : (k : ℕ) → 1 ≤ k → k ≤ 256 → word_at (xs ++ ys) k ≡ word_at xs k
  word_same k l h = word-front xs ys k l (omega arith)

  dirty_front : dirty_words (xs ++ ys) ≡ dirty_words xs
  unfolding dirty_words
  dirty_front = those-same (above (xs ++ ys)) (above xs) 1 256 (λ k l h. ap (ltb 32748) (word_same k l (omega arith)))

  without-front : (i k : ℕ) → 1 ≤ k → k ≤ 256 → without (xs ++ ys) i k ≡ without xs i k
  unfolding without
  without-front i k l h = rw (word_same k l h)

  sum-front : (i : ℕ) → other_sum (xs ++ ys) i ≡ other_sum xs i
  unfolding other_sum
  sum-front i = weighted-same (without (xs ++ ys) i) (without xs i) 255 (λ k l h. without-front i k l (omega arith))

  value-front : (i : ℕ) → value_for (xs ++ ys) i ≡ value_for xs i
  unfolding value_for
  value-front i = rw (sum-front i, word_same 256 (omega arith) (omega arith))

  filled-front : (i : ℕ) → 1 ≤ i → i ≤ 256 → filled_in (xs ++ ys) i ≡ filled_in xs i ++ ys
  filled-front i l h = ap (put_at (xs ++ ys) i) (value-front i) ∙ put_front xs ys i (value_for xs i) l (omega arith)

  wrong_front : (i : ℕ) → 1 ≤ i → i ≤ 256 → first_wrong (filled_in (xs ++ ys) i) ≡ first_wrong (filled_in xs i)
  wrong_front i l h =
      ap first_wrong (filled-front i l h)
      ∙ only_wrong (filled_in xs i ++ ys) (filled_in xs i)
      (λ k m n. word-front (filled_in xs i) ys k m (omega (arith, length-put xs i (value_for xs i))))

  sole-front : sole (dirty_words (xs ++ ys)) ≡ sole (dirty_words xs)
  sole-front = ap sole dirty_front

  pub rebuilt-front : rebuilt (xs ++ ys) ≡ rebuilt xs
  rebuilt-front =
      let s = sole (dirty_words xs) in
      ⊎_elim (λ (z : s ≡ 0). rebuilt-none (xs ++ ys) (sole-front ∙ z) ∙ sym (rebuilt-none xs z))
      (λ (ne : s ≢ 0).
      let o = sole_dirty xs ne in
      let same = wrong_front s o.from o.to in
      ⊎_elim
      (λ (z : first_wrong (filled_in xs s) ≡ 0). rebuilt-at (xs ++ ys) s sole-front ne (same ∙ z) ∙ sym (rebuilt-at xs s refl ne z))
      (λ (w : first_wrong (filled_in xs s) ≢ 0). rebuilt_broken (xs ++ ys) s sole-front ne (λ z. w (sym same ∙ z)) ∙ sym (rebuilt_broken xs s refl ne w))
      (same_or_not (first_wrong (filled_in xs s)) 0))
      (same_or_not s 0)

  pub mended_front : mended_block (xs ++ ys) ≡ mended_block xs ++ ys
  mended_front =
      let i = rebuilt xs in
      ⊎_elim
      (λ (z : i ≡ 0). mended_none (xs ++ ys) (rebuilt-front ∙ z) ∙ ap (λ (l : List ℕ). l ++ ys) (sym (mended_none xs z)))
      (λ (ne : i ≢ 0).
      let o = (rebuilt-some xs ne).0 in
      mended_some (xs ++ ys) i rebuilt-front ne ∙ filled-front i o.from o.to ∙ ap (λ (l : List ℕ). l ++ ys) (sym (mended_some xs i refl ne)))
      (same_or_not i 0)

pub length_mended : (b : List ℕ) → length (mended_block b) ≡ length b
length_mended b =
    ⊎_elim (λ (z : rebuilt b ≡ 0). ap length (mended_none b z))
    (λ (ne : rebuilt b ≢ 0). ap length (mended_some b (rebuilt b) refl ne) ∙ length-put b (rebuilt b) (value_for b (rebuilt b)))
    (same_or_not (rebuilt b) 0)

pub front-only : (b : List ℕ) → 512 ≤ length b → (mended_block b ≡ mended_block (take 512 b) ++ drop 512 b) × (length (mended_block b) ≡ length b)
front-only b long =
    let n : 512 ≤ length (take 512 b) = le_of_eq (sym (length-take-le 512 b long)) in
    (ap mended_block (sym (take-append-drop 512 b)) ∙ mended_front (take 512 b) (drop 512 b) n, length_mended b)
