-- Opening looks at 512 bytes: what follows them changes no line and no value byte.
-- Assumes nothing.
use mathlib.Core.Path.{◌≡◌, refl, sym, ap, ◌∙◌}
use mathlib.Core.List.{List, [], ◌++◌}
use Prim.Native.Nat.{ℕ, ◌*◌, ◌≤◌}
use native.Mathlib.Decide.{dec_le}
use native.Mathlib.Omega.{arith}
use lib.ListN.{length, take, drop, length-append, length-drop, take-append-drop}
use lib.Seq.{take_all, take-append-le, drop-append-le, length-take-le}
use native.Mathlib.Nat.{le_refl}
use Rattle.answer.specs.Outcome.{Outcome, done, refused}
use Rattle.answer.specs.Checks.{first_fail}
use Rattle.block.specs.Words.{word_at}
use Rattle.block.specs.Layout.{front_words, width_of}
use Rattle.block.specs.Open.{block_lines, opening, by_outcome, value_bytes}
use Rattle.block.proofs.WordLaws.{word-front}
use Rattle.block.proofs.RangeLaws.{true_ranges}
use Rattle.block.proofs.OnlyLaws.{only-lines, only-header}
use Rattle.block.proofs.OpenLaws.{opening-block, opens_true}

module _ (xs ys : List ℕ) (long : 512 ≤ length xs) where
  word_same : (i : ℕ) → 1 ≤ i → i ≤ 256 → word_at (xs ++ ys) i ≡ word_at xs i
  word_same i l h = word-front xs ys i l (omega arith)

  opening-front : opening (xs ++ ys) ≡ opening xs
  opening-front =
      opening-block (xs ++ ys) (simp length-append (omega arith))
      ∙ ap (λ l. first_fail l (done (front_words (xs ++ ys)))) (only-lines (xs ++ ys) xs word_same 1)
      ∙ ap (λ (h : List ℕ). first_fail (block_lines xs 1) (done h)) (only-header (xs ++ ys) xs word_same)
      ∙ sym (opening-block xs long)

  -- the value bytes lie in the first 512
  values_by : (o : Outcome (List ℕ)) → opening xs ≡ o
      → by_outcome o (take (2 * width_of (xs ++ ys)) (drop 14 (xs ++ ys))) [] ≡ by_outcome o (take (2 * width_of xs) (drop 14 xs)) []
  values_by (done ws) e =
      let w : width_of xs ≤ 16 = (true_ranges (opens_true xs ws e).0).width.1 in
      let n : 2 * width_of xs ≤ length (drop 14 xs) = simp length-drop (omega arith) in
      rw (word_same 6 (omega arith) (omega arith), drop-append-le 14 xs ys (omega arith)) (take-append-le (2 * width_of xs) (drop 14 xs) ys n)
  values_by (refused m a b) e = refl

  pub values-front : value_bytes (xs ++ ys) ≡ value_bytes xs
  unfolding value_bytes
  values-front =
      ap (λ (o : Outcome (List ℕ)). by_outcome o (take (2 * width_of (xs ++ ys)) (drop 14 (xs ++ ys))) []) opening-front
      ∙ values_by (opening xs) refl

-- whatever the pile, its first 512 bytes alone count
pub first-bytes : (pile : List ℕ) → (opening (take 512 pile) ≡ opening pile) × (value_bytes (take 512 pile) ≡ value_bytes pile)
first-bytes pile = go (dec_le 512 (length pile))
  where
    go : Dec (512 ≤ length pile) → (opening (take 512 pile) ≡ opening pile) × (value_bytes (take 512 pile) ≡ value_bytes pile)
    go (yes h) =
        let n : 512 ≤ length (take 512 pile) = rw (length-take-le 512 pile h) (le_refl 512) in
        let e : take 512 pile ++ drop 512 pile ≡ pile = take-append-drop 512 pile in (
          sym (opening-front (take 512 pile) (drop 512 pile) n) ∙ ap opening e,
          sym (values-front (take 512 pile) (drop 512 pile) n) ∙ ap value_bytes e,
        )
    go (no f) = let e : take 512 pile ≡ pile = take_all 512 pile (omega arith) in (ap opening e, ap value_bytes e)
