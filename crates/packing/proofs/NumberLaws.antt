-- A number and its digits to a base: how large the number is, that enough digits make it again, and one turn of the loops that make it from
-- digits and cut it into them. Assumes nothing.
use mathlib.Core.Path.{◌≡◌, refl, sym, ap, ◌∙◌}
use mathlib.Core.List.{List, [], ◌∷◌, ◌++◌}
use Prim.Native.Nat.{ℕ, zero, suc, ◌+◌, ◌*◌, ◌/◌, ◌%◌, ◌^◌, ◌≤◌, ◌<◌}
use native.Mathlib.Nat.{add-zero, pow-zero, pow-suc, le_refl, mul-le-mul, mul-le-mul_right}
use native.Mathlib.Omega.{arith}
use lib.ListN.{length, get_or, set, drop}
use lib.Seq.{drop-cons, drop-set-add, append_snoc}
use Rattle.packing.specs.Digits.{number_from, number_of, digits}
use Rattle.packing.proofs.DigitLaws.{Below, none, one}

-- what a number of 128 bits is below
abbrev pub top : ℕ
top = 2 ^ 128

-- what is used of a base
pub record Base (base : ℕ) : Type 0 where
  pub some : 1 ≤ base
  pub below : (x : ℕ) → x % base < base
  pub whole : (x : ℕ) → x / base * base + x % base ≡ x
  pub less : (x y : ℕ) → x < y * base → x / base < y

pub of_bytes : Base 256
of_bytes = record { some = omega arith; below = λ x. omega arith; whole = λ x. omega arith; less = λ x y h. omega arith }

pub of_words : Base 8192
of_words = record { some = omega arith; below = λ x. omega arith; whole = λ x. omega arith; less = λ x y h. omega arith }

module _ {base : ℕ} (b : Base base) where
  -- ---- how large a number of n digits behind c is
  pub number-least : (c : ℕ) (ds : List ℕ) → c * base ^ length ds ≤ number_from base c ds
  unfolding number_from
  number-least c [] = let o : base ^ 0 ≡ 1 = pow-zero base in rw o (omega arith)
  number-least c (d ∷ ds) =
      let p = base ^ length ds in
      let h : c * base * p ≤ (c * base + d) * p = mul-le-mul_right p (omega arith) in
      let e : base ^ suc (length ds) ≡ p * base = pow-suc base (length ds) in
      rw e (omega (arith, h, number-least (c * base + d) ds))

  pub number-below : (c : ℕ) {ds : List ℕ} → Below base ds → number_from base c ds < (c + 1) * base ^ length ds
  unfolding number_from
  number-below c none = let o : base ^ 0 ≡ 1 = pow-zero base in rw o (omega arith)
  number-below c (one {d} {ds} h hs) =
      let p = base ^ length ds in
      let s : (c * base + d + 1) * p ≤ (c + 1) * base * p = mul-le-mul_right p (omega (arith, h)) in
      let e : base ^ suc (length ds) ≡ p * base = pow-suc base (length ds) in
      rw e (omega (arith, s, number-below (c * base + d) hs))

  -- what stands before digits is not more than the number with them
  pub number_grows : (c : ℕ) (ds : List ℕ) → c ≤ number_from base c ds
  unfolding number_from
  number_grows c [] = le_refl c
  number_grows c (d ∷ ds) =
      let h : c * 1 ≤ c * base = mul-le-mul (le_refl c) b.some in
      omega (arith, h, number_grows (c * base + d) ds)

  -- ---- digits make their number again, where there are enough of them
  number_more : (c : ℕ) (ds : List ℕ) (d : ℕ) → number_from base c (ds ++ d ∷ []) ≡ number_from base c ds * base + d
  unfolding number_from
  number_more c [] d = refl
  number_more c (e ∷ ds) d = number_more (c * base + e) ds d

  pub digits_number : (n x : ℕ) → x < base ^ n → number_of base (digits base n x) ≡ x
  unfolding number_of digits number_from
  digits_number zero x h = omega (arith, pow-zero base, h)
  digits_number (suc n) x h =
      number_more 0 (digits base n (x / base)) (x % base)
      ∙ ap (λ (y : ℕ). y * base + x % base) (digits_number n (x / base) (b.less x (base ^ n) (rw (pow-suc base n) at h)))
      ∙ b.whole x

  -- ---- one digit more is read: the number of all is still that of those read and those to come
  pub read_on : (l : List ℕ) (i c : ℕ) → i < length l → number_from base c (drop i l) ≡ number_of base l
      → (number_from base (c * base + get_or l i 0) (drop (suc i) l) ≡ number_of base l) × (c * base + get_or l i 0 ≤ number_of base l)
  unfolding number_from
  read_on l i c h e =
      let s : number_from base (c * base + get_or l i 0) (drop (suc i) l) ≡ number_of base l
      = ap (number_from base c) (sym (drop-cons l i 0 h)) ∙ e in
      (s, rw (← s) (number_grows (c * base + get_or l i 0) (drop (suc i) l)))

-- ---- one digit more is cut: those cut stand behind those to come
drop-written : (l : List ℕ) (c v : ℕ) → c < length l → drop c (set l c v) ≡ v ∷ drop (suc c) l
drop-written l c v h =
    ap (λ (k : ℕ). drop c (set l k v)) (sym (add-zero c)) ∙ drop-set-add c l 0 v ∙ ap (λ (r : List ℕ). set r 0 v) (drop-cons l c 0 h)

pub cut_on : (base x c : ℕ) (made all : List ℕ) → c < length made → digits base (suc c) x ++ drop (suc c) made ≡ all
    → digits base c (x / base) ++ drop c (set made c (x % base)) ≡ all
unfolding digits
cut_on base x c made all h e =
    ap (λ (l : List ℕ). digits base c (x / base) ++ l) (drop-written made c (x % base) h)
    ∙ sym (append_snoc (digits base c (x / base)) (x % base) (drop (suc c) made)) ∙ e

pub none_left : (base x c : ℕ) (made : List ℕ) → c ≡ 0 → made ≡ digits base c x ++ drop c made
unfolding digits
none_left base x c made e = rw e
