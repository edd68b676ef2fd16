-- A number in decimal: how many digits it has, that the library writes them, and what they mean.
-- Assumes nothing.
use borrow.Author.Tests.{lt-ltb, le-ltb, ltb-true, ltb-false}
use mathlib.Core.Path.{◌≡◌, refl, ap, ◌∙◌}
use mathlib.Core.Bool.{Bool, true, false}
use mathlib.Core.Logic.{◌⊎◌, inl, inr, ⊎_elim}
use mathlib.Core.List.{List, [], ◌∷◌, ◌++◌}
use native.Mathlib.Nat.{not-suc-le-zero}
use native.Mathlib.Omega.{arith}
use Prim.Native.Nat.{ℕ, zero, suc, ◌+◌, ◌-◌, ◌*◌, ◌/◌, ◌%◌, ◌^◌, ◌≤◌, ◌<◌}
use lib.Dec.{ltb}
use lib.ListN.{length, get_or, length-append, get_or-append}
use lib.Seq.{get_or_at}
use Rattle.std.specs.Fmt.{decimal as std·decimal}
use Rattle.std.proofs.lemmas.Fmt.{AppendsLastDigit, decimal_from_appends, length-decimal-le}
use Rattle.print.specs.Decimal.{digit, digits, decimal, meaning}
use Rattle.print.specs.Laws.{Spells}

-- a number is below another or not
pub below : (a b : ℕ) → (a < b) ⊎ (b ≤ a)
below a b = go (ltb a b) refl
  where
    go : (t : Bool) → ltb a b ≡ t → (a < b) ⊎ (b ≤ a)
    go true e = inl (ltb-true a b e)
    go false e = inr (ltb-false a b e)

-- ---- by the number's size
digits_one : (most n : ℕ) → n < 10 → digits (suc most) n ≡ digit n ∷ []
unfolding digits
digits_one most n h = simp (lt-ltb n 10 h)

digits_more : (most n : ℕ) → 10 ≤ n → digits (suc most) n ≡ digits most (n / 10) ++ digit (n % 10) ∷ []
unfolding digits
digits_more most n h = simp (le-ltb n 10 h)

tenth : (most n : ℕ) → n < 10 ^ suc most → n / 10 < 10 ^ most
tenth most n h = omega arith

-- ---- how many digits
one_more : (most n : ℕ) → 10 ≤ n → length (digits (suc most) n) ≡ length (digits most (n / 10)) + 1
one_more most n h = ap length (digits_more most n h) ∙ length-append (digits most (n / 10)) (digit (n % 10) ∷ [])

some-digit : (most n : ℕ) → 1 ≤ length (digits (suc most) n)
some-digit most n =
    ⊎_elim (λ (h : n < 10). omega (arith, ap length (digits_one most n h))) (λ (h : 10 ≤ n). omega (arith, one_more most n h)) (below n 10)

-- a number below 10 ^ k has at most k digits, 1 ≤ k
pub few : (most k n : ℕ) → n < 10 ^ suc k → length (digits most n) ≤ suc k
unfolding digits
few zero k n h = omega arith
few (suc most) zero n h = omega (arith, ap length (digits_one most n h))
few (suc most) (suc k) n h =
    ⊎_elim (λ (l : n < 10). omega (arith, ap length (digits_one most n l)))
    (λ (l : 10 ≤ n). omega (arith, one_more most n l, few most k (n / 10) (tenth (suc k) n h))) (below n 10)

-- ---- they are those that the library writes
appends : AppendsLastDigit digits
appends = record { one = digits_one; more = digits_more }

pub as_the_library : (n : ℕ) → n < 2 ^ 64 → decimal n ≡ std·decimal n
as_the_library n h = decimal_from_appends digits appends 20 n h (length-decimal-le 20 n (omega arith) (omega arith) h)

-- ---- what they mean
meaning_end : (front d : ℕ) (ds : List ℕ) → meaning front (ds ++ d ∷ []) ≡ 10 * meaning front ds + (d - 48)
unfolding meaning
meaning_end front d [] = refl
meaning_end front d (e ∷ ds) = meaning_end (10 * front + (e - 48)) d ds

means : (most n : ℕ) → n < 10 ^ suc most → meaning 0 (digits (suc most) n) ≡ n
unfolding meaning
means zero n h = rw (digits_one zero n h) (omega arith)
means (suc most) n h =
    ⊎_elim (λ (l : n < 10). rw (digits_one (suc most) n l) (omega arith))
    (λ (l : 10 ≤ n).
    rw (digits_more (suc most) n l, meaning_end 0 (digit (n % 10)) (digits (suc most) (n / 10)), means most (n / 10) (tenth (suc most) n h)) (omega arith))
    (below n 10)

each-digit : (most n i : ℕ) → i < length (digits most n) → (digit 0 ≤ get_or (digits most n) i 0) × (get_or (digits most n) i 0 ≤ digit 9)
unfolding digits
each-digit zero n i h = absurd (not-suc-le-zero h)
each-digit (suc most) n i h =
    ⊎_elim
    (λ (l : n < 10).
    let z : i ≡ 0 = omega (arith, ap length (digits_one most n l)) in
    rw (digits_one most n l, z) (omega arith, omega arith))
    (λ (l : 10 ≤ n).
    let a = digits most (n / 10) in
    let b = digit (n % 10) ∷ [] in
    rw (digits_more most n l)
    (⊎_elim (λ (k : i < length a). rw (get_or-append a b 0 i k) (each-digit most (n / 10) i k))
    (λ (k : length a ≤ i).
    let z : length a ≡ i = omega (arith, one_more most n l) in
    rw (get_or_at a (digit (n % 10)) [] 0 i z) (omega arith, omega arith))
    (below i (length a))))
    (below n 10)

front : (most n : ℕ) → n < 10 ^ suc most → 1 ≤ n → digit 1 ≤ get_or (digits (suc most) n) 0 0
front zero n h p = rw (digits_one zero n h) (omega arith)
front (suc most) n h p =
    ⊎_elim (λ (l : n < 10). rw (digits_one (suc most) n l) (omega arith))
    (λ (l : 10 ≤ n).
    rw (digits_more (suc most) n l, get_or-append (digits (suc most) (n / 10)) (digit (n % 10) ∷ []) 0 0 (some-digit most (n / 10)))
    (front most (n / 10) (tenth (suc most) n h) (omega arith)))
    (below n 10)

pub decimal-means : (n : ℕ) → n < 10 ^ 20 → Spells n (decimal n)
decimal-means n h = record {
  means = means 19 n h;
  each-digit = each-digit 20 n;
  front = front 19 n h;
  nought = λ z. rw z (digits_one 19 0 (omega arith));
}
