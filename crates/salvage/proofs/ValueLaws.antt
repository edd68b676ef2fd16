-- The value that the check asks for: it is in range, it does, and no other does. Assumes nothing.
use mathlib.Core.Path.{◌≡◌, refl, sym, ap, ◌∙◌}
use mathlib.Core.Logic.{⊎_elim, ◌≢◌}
use mathlib.Core.List.{List}
use Prim.Native.Nat.{ℕ, ◌+◌, ◌-◌, ◌*◌, ◌%◌, ◌≤◌, ◌<◌}
use native.Mathlib.Nat.{eq-or-lt_of_le, le_of_lt, mul-le-mul}
use native.Mathlib.Omega.{arith}
use lib.ListN.{length}
use borrow.Author.Tests.{eq-eqb, ne_eqb}
use Rattle.prime.specs.Prime.{p}
use Rattle.prime.specs.Prime.{minus}
use Rattle.prime.specs.Inverse.{inverse}
use Rattle.prime.proofs.Mod.{◌≈◌, ◌then◌, from≡, add≈, mul≈, mod≈, small, same-small, minus≈}
use Rattle.prime.proofs.Prime.{inverse-right, cancel}
use Rattle.block.specs.Words.{word_at, put_at, weighted, check_of}
use Rattle.block.proofs.WordLaws.{word-put-same, word-put-other}
use Rattle.block.proofs.SumLaws.{weighted-same, one_differs}
use Rattle.salvage.specs.Mended.{without, other_sum, value_for, CleanBut}

pub without_at : (b : List ℕ) (i k : ℕ) → k ≡ i → without b i k ≡ 0
unfolding without
without_at b i k e = rw (eq-eqb k i e)

pub without_off : (b : List ℕ) (i k : ℕ) → k ≢ i → without b i k ≡ word_at b k
unfolding without
without_off b i k ne = rw (ne_eqb k i ne)

-- for word 256, and for the others
pub value_last : (b : List ℕ) (i : ℕ) → i ≡ 256 → value_for b i ≡ other_sum b i % 32749
unfolding value_for
value_last b i e = rw (eq-eqb i 256 e)

pub value-first : (b : List ℕ) (i : ℕ) → i ≢ 256 → value_for b i ≡ inverse i * minus (word_at b 256) (other_sum b i) % 32749
unfolding value_for
value-first b i ne = rw (ne_eqb i 256 ne)

-- as the code makes it
pub value_made : (b : List ℕ) (i u sum c : ℕ) → i ≢ 256 → u ≡ inverse i → sum ≡ other_sum b i % 32749 → c ≡ word_at b 256
    → u * ((c + (32749 - sum)) % 32749) % 32749 ≡ value_for b i
unfolding minus
value_made b i u sum c ne p q r = rw (p, q, r) (sym (value-first b i ne))

pub product_low : (a l : ℕ) → a < 32749 → l < 32749 → a * l ≤ 1072497001
product_low a l h k = mul-le-mul (le_of_lt h) (le_of_lt k)

-- ---- s + i · v = c mod p has one solution below p
solve : (s i c : ℕ) → 0 < i % p → c < p → (s + i * (inverse i * minus c s % p)) % p ≡ c
solve s i c n h =
    (add≈ (from≡ refl) (mul≈ i (mod≈ (inverse i * minus c s)))
    then add≈ (from≡ refl) (unit i (inverse i) (minus c s) (inverse-right i n))
    then add≈ (from≡ refl) (minus≈ c s)
    then back).same ∙ small h
  where
    unit : (a b x : ℕ) → a * b ≈ 1 → a * (b * x) ≈ x
    unit a b x e = omega (arith, mul≈ x e)

    back : s + (c + 32748 * s) ≈ c
    back = omega arith

solved : (s i u v : ℕ) → 0 < i % p → u < p → v < p → (s + i * u) % p ≡ (s + i * v) % p → u ≡ v
solved s i u v n h k e = same-small h k (cancel i n (go (i * u) (i * v) e))
  where
    go : (x y : ℕ) → (s + x) % p ≡ (s + y) % p → x ≈ y
    go x y q = omega arith

module _ (b : List ℕ) (i : ℕ) (long : 512 ≤ length b) (from : 1 ≤ i) (to : i ≤ 256) (c : CleanBut b i) where
  room : 2 * i ≤ length b
  room = omega arith

  -- ---- for words 1 to 255
  sum_in : i ≢ 256 → (v : ℕ) → weighted (word_at (put_at b i v)) 255 ≡ other_sum b i + i * v
  unfolding other_sum
  sum_in h v =
      go (weighted (word_at (put_at b i v)) 255) (weighted (without b i) 255) (without b i i) (word_at (put_at b i v) i)
      (one_differs (without b i) (word_at (put_at b i v)) i 255 from (omega arith)
      (λ k l m ne. word-put-other b i v from room k l ne ∙ sym (without_off b i k ne)))
      (without_at b i i refl) (word-put-same b i v from room)
    where
      go : (x y z w : ℕ) → x + i * z ≡ y + i * w → z ≡ 0 → w ≡ v → x ≡ y + i * v
      go x y z w e q r = let e' : x + i * 0 ≡ y + i * v = rw (q, r) at e in omega arith

  check_in : i ≢ 256 → (v : ℕ) → check_of (put_at b i v) ≡ (other_sum b i + i * v) % p
  unfolding check_of
  check_in h v = ap (λ (n : ℕ). n % 32749) (sum_in h v)

  last_in : i ≢ 256 → (v : ℕ) → word_at (put_at b i v) 256 ≡ word_at b 256
  last_in h v = word-put-other b i v from room 256 (omega arith) (λ e. h (sym e))

  low_last : i ≢ 256 → word_at b 256 < p
  low_last h = omega (arith, c.small 256 (omega arith) (omega arith) (λ e. h (sym e)))

  unit_i : 0 < i % p
  unit_i = omega arith

  right_in : i ≢ 256 → check_of (put_at b i (value_for b i)) ≡ word_at (put_at b i (value_for b i)) 256
  right_in h =
      check_in h (value_for b i)
      ∙ ap (λ (v : ℕ). (other_sum b i + i * v) % p) (value-first b i h)
      ∙ solve (other_sum b i) i (word_at b 256) unit_i (low_last h)
      ∙ sym (last_in h (value_for b i))

  -- ---- for word 256
  check_last : i ≡ 256 → (v : ℕ) → check_of (put_at b i v) ≡ other_sum b i % p
  unfolding check_of other_sum
  check_last e v =
      ap (λ (n : ℕ). n % 32749)
      (weighted-same (word_at (put_at b i v)) (without b i) 255
      (λ k l m. word-put-other b i v from room k l (λ q. omega arith) ∙ sym (without_off b i k (λ q. omega arith))))

  new_last : i ≡ 256 → (v : ℕ) → word_at (put_at b i v) 256 ≡ v
  new_last e v = ap (word_at (put_at b i v)) (sym e) ∙ word-put-same b i v from room

  right_last : i ≡ 256 → check_of (put_at b i (value_for b i)) ≡ word_at (put_at b i (value_for b i)) 256
  right_last e = check_last e (value_for b i) ∙ sym (value_last b i e) ∙ sym (new_last e (value_for b i))

  either : {A : Type 0} → (i ≡ 256 → A) → (i ≢ 256 → A) → A
  either f g = ⊎_elim f (λ less. g (λ e. omega arith)) (eq-or-lt_of_le to)

  pub value_low : value_for b i ≤ 32748
  value_low =
      either (λ e. rw (value_last b i e) (omega arith)) (λ h. rw (value-first b i h) (omega arith))

  pub value-right : check_of (put_at b i (value_for b i)) ≡ word_at (put_at b i (value_for b i)) 256
  value-right = either right_last right_in

  pub value-only : (v : ℕ) → v ≤ 32748 → check_of (put_at b i v) ≡ word_at (put_at b i v) 256 → v ≡ value_for b i
  value-only v l q =
      either (λ e. sym (new_last e v) ∙ sym q ∙ check_last e v ∙ sym (value_last b i e))
      (λ h. solved (other_sum b i) i v (value_for b i) unit_i (omega arith) (omega (arith, value_low))
      (sym (check_in h v) ∙ q ∙ last_in h v ∙ sym (last_in h (value_for b i)) ∙ sym (right_in h) ∙ check_in h (value_for b i)))
