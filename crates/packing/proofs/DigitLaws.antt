-- Digits of a number: a list of digits below the base is the digits of its number; and a list read place by place.
-- Assumes nothing.
use mathlib.Core.Path.{◌≡◌, refl, sym, ap, ◌∙◌, subst}
use mathlib.Core.List.{List, [], ◌∷◌, ◌++◌, append-nil}
use Prim.Native.Nat.{ℕ, zero, suc, ◌+◌, ◌*◌, ◌/◌, ◌%◌, ◌<◌}
use native.Mathlib.Omega.{arith}
use native.Mathlib.Nat.{add-zero}
use lib.Arith.{digits_div, digits_mod}
use lib.ListN.{length, get_or, drop, drop_of_length-le, length-append}
use lib.Seq.{drop-cons, append_snoc}
use Rattle.packing.specs.Digits.{number_from, number_of, digits}

-- each number of the list is below the base
pub data Below (base : ℕ) : List ℕ → Type 0 where
  none : Below base []
  one : {d : ℕ} {ds : List ℕ} → d < base → Below base ds → Below base (d ∷ ds)

pub below_rest : (base : ℕ) {l : List ℕ} → Below base l → Below base (drop 1 l)
below_rest base none = none
below_rest base (one h hs) = hs

one_more : (base m c d : ℕ) → d < base → digits base (suc m) (c * base + d) ≡ digits base m c ++ d ∷ []
unfolding digits
one_more base m c d h = rw (digits_div c h, digits_mod c h)

pub digits_from : (base m c : ℕ) {ds : List ℕ} → Below base ds → digits base (m + length ds) (number_from base c ds) ≡ digits base m c ++ ds
unfolding number_from
digits_from base m c none = rw (add-zero m) (sym (append-nil (digits base m c)))
digits_from base m c (one {d} {ds} h hs) =
    let e : m + suc (length ds) ≡ suc m + length ds = omega arith in
    rw e (digits_from base (suc m) (c * base + d) hs ∙ ap (λ (x : List ℕ). x ++ ds) (one_more base m c d h) ∙ append_snoc (digits base m c) d ds)

-- the list l from place i on, n places
abbrev pub reads : List ℕ → ℕ → ℕ → List ℕ
reads l i zero = []
reads l i (suc n) = get_or l i 0 ∷ reads l (suc i) n

pub reads_drop : (l : List ℕ) (i n : ℕ) → i + n ≡ length l → drop i l ≡ reads l i n
reads_drop l i zero e = drop_of_length-le l {i = i} (omega arith)
reads_drop l i (suc n) e = drop-cons l i 0 (omega arith) ∙ ap {B = List ℕ} (λ r. get_or l i 0 ∷ r) (reads_drop l (suc i) n (omega arith))

-- a list of n numbers, place by place
pub reads_all : (l : List ℕ) (n : ℕ) → length l ≡ n → l ≡ reads l 0 n
reads_all l n e = reads_drop l 0 n (omega arith)

pub below_reads : (base : ℕ) (l : List ℕ) (i n : ℕ) → ((k : ℕ) → k < i + n → get_or l k 0 < base) → Below base (reads l i n)
below_reads base l i zero f = none
below_reads base l i (suc n) f = one (f i (omega arith)) (below_reads base l (suc i) n (λ k h. f k (omega arith)))

-- a list of n digits is the n digits of its number
pub digits-back : (base n : ℕ) (ds : List ℕ) → length ds ≡ n → Below base ds → digits base n (number_of base ds) ≡ ds
unfolding number_of digits
digits-back base n ds e h = let f : n ≡ 0 + length ds = omega arith in rw f (digits_from base 0 0 h)

pub below_list : (base n : ℕ) (l : List ℕ) → length l ≡ n → ((k : ℕ) → k < n → get_or l k 0 < base) → Below base l
below_list base n l e f = subst (λ (x : List ℕ). Below base x) (sym (reads_all l n e)) (below_reads base l 0 n (λ k h. f k (omega arith)))

pub below_at : (base : ℕ) {l : List ℕ} → Below base l → 0 < base → (i : ℕ) → get_or l i 0 < base
below_at base none p i = p
below_at base (one h hs) p zero = h
below_at base (one h hs) p (suc i) = below_at base hs p i

-- the digits of a number, whatever it is: so many, and each below the base
pub digits-count : (base n x : ℕ) → length (digits base n x) ≡ n
unfolding digits
digits-count base zero x = refl
digits-count base (suc n) x = length-append (digits base n (x / base)) (x % base ∷ []) ∙ omega (arith, digits-count base n (x / base))

below_last : {base d : ℕ} {ds : List ℕ} → Below base ds → d < base → Below base (ds ++ d ∷ [])
below_last none h = one h none
below_last (one g gs) h = one g (below_last gs h)

pub digits-below : (base n x : ℕ) → ((y : ℕ) → y % base < base) → Below base (digits base n x)
unfolding digits
digits-below base zero x h = none
digits-below base (suc n) x h = below_last (digits-below base n (x / base) h) (h x)
