-- The numbers with a test, in rising order: one turn, which numbers they are, that they rise, and how many they are; where none or one has it.
-- Assumes nothing.
use mathlib.Core.Path.{◌≡◌, refl, sym, ap, ap₂, ◌∙◌}
use mathlib.Core.Bool.{Bool, true, false, cond, false≢true}
use mathlib.Core.Logic.{⊎_elim, ◌≢◌}
use mathlib.Core.List.{List, [], ◌∷◌, ◌++◌, append-nil, append_assoc, Memᴰ}
use Prim.Native.Nat.{ℕ, zero, suc, ◌+◌, ◌≤◌, ◌<◌, suc-le-suc, zero-le}
use native.Mathlib.Nat.{le_refl, le_of_eq, eq-or-lt_of_le, not-suc-le-zero, le_of_suc-le-suc}
use native.Mathlib.Numerals.{add-one}
use native.Mathlib.Omega.{arith}
use lib.ListN.{length, get_or, length-append, get_or-append}
use lib.Seq.{get_or_at}
use Rattle.lists.specs.Places.{those}

-- ---- what stands in a list
pub at_in : {A : Type 0} (d : A) (l : List A) (j : ℕ) → j < length l → Memᴰ (get_or l j d) l
at_in d [] j h = absurd (not-suc-le-zero h)
at_in d (a ∷ l) zero h = mathlib.Core.List.Memᴰ.head refl
at_in d (a ∷ l) (suc j) h = mathlib.Core.List.Memᴰ.tail (at_in d l j (le_of_suc-le-suc h))

pub in_at : {A : Type 0} (d : A) (l : List A) (s : A) → Memᴰ s l → (j : ℕ) × (j < length l) × (get_or l j d ≡ s)
in_at d [] s m = absurd (mathlib.Core.List.Memᴰ.not-nil m)
in_at d (a ∷ l) s m =
    ⊎_elim (λ (e : s ≡ a). (zero, suc-le-suc zero-le, sym e)) (λ (k : Memᴰ s l). let r = in_at d l s k in (suc r.0, suc-le-suc r.1, r.2))
    (mathlib.Core.List.Memᴰ.cases_cons m)

module _ (test : ℕ → Bool) (i : ℕ) where
  -- ---- one number more
  pub those_miss : (n : ℕ) → test (i + n) ≡ false → those test i (n + 1) ≡ those test i n
  unfolding those
  those_miss n e = rw (add-one n, e) (append-nil (those test i n))

  pub those_hit : (n : ℕ) → test (i + n) ≡ true → those test i (n + 1) ≡ those test i n ++ (i + n) ∷ []
  unfolding those
  those_hit n e = rw (add-one n, e)

  pub count_miss : (n k : ℕ) → k ≡ length (those test i n) → test (i + n) ≡ false → k ≡ length (those test i (n + 1))
  count_miss n k h e = h ∙ ap length (sym (those_miss n e))

  pub count_hit : (n k : ℕ) → k ≡ length (those test i n) → test (i + n) ≡ true → k + 1 ≡ length (those test i (n + 1))
  count_hit n k h e = rw (those_hit n e) (omega (arith, length-append (those test i n) ((i + n) ∷ [])))

  -- ---- which they are
  in_one : (b : Bool) (c s : ℕ) → Memᴰ s (cond b (c ∷ []) []) → (s ≡ c) × (b ≡ true)
  in_one true c s m = (mathlib.Core.List.Memᴰ.eq_of_singleton m, refl)
  in_one false c s m = absurd (mathlib.Core.List.Memᴰ.not-nil m)

  one_in : (b : Bool) (c s : ℕ) → s ≡ c → b ≡ true → Memᴰ s (cond b (c ∷ []) [])
  one_in true c s e t = mathlib.Core.List.Memᴰ.head e
  one_in false c s e t = absurd (false≢true t)

  pub in_those : (n s : ℕ) → Memᴰ s (those test i n) → (i ≤ s) × (s < i + n) × (test s ≡ true)
  unfolding those
  in_those zero s m = absurd (mathlib.Core.List.Memᴰ.not-nil m)
  in_those (suc n) s m =
      ⊎_elim
      (λ (k : Memᴰ s (those test i n)). let r = in_those n s k in (r.0, omega arith, r.2))
      (λ (k : Memᴰ s (cond (test (i + n)) ((i + n) ∷ []) [])).
      let r = in_one (test (i + n)) (i + n) s k in
      (omega arith, omega arith, ap test r.0 ∙ r.1))
      (mathlib.Core.List.Memᴰ.append_cases (those test i n) m)

  pub those_in : (n s : ℕ) → i ≤ s → s < i + n → test s ≡ true → Memᴰ s (those test i n)
  unfolding those
  those_in zero s l h t = absurd (omega arith)
  those_in (suc n) s l h t =
      ⊎_elim
      (λ (e : s ≡ i + n). mathlib.Core.List.Memᴰ.append_right (those test i n) (one_in (test (i + n)) (i + n) s e (ap test (sym e) ∙ t)))
      (λ (less : s < i + n). mathlib.Core.List.Memᴰ.append_left (cond (test (i + n)) ((i + n) ∷ []) []) (those_in n s l less t))
      (eq-or-lt_of_le (omega arith))

  -- ---- how many they are
  at_most_one : (b : Bool) (c : ℕ) → length (cond b (c ∷ []) []) ≤ 1
  at_most_one true c = le_refl 1
  at_most_one false c = zero-le

  pub those-few : (n : ℕ) → length (those test i n) ≤ n
  unfolding those
  those-few zero = zero-le
  those-few (suc n) =
      omega (arith, those-few n, length-append (those test i n) (cond (test (i + n)) ((i + n) ∷ []) []), at_most_one (test (i + n)) (i + n))

  pub those_more : (n c : ℕ) → n ≤ c → length (those test i n) ≤ length (those test i c)
  unfolding those
  those_more n zero h = let e : n ≡ 0 = omega arith in le_of_eq (ap (λ (x : ℕ). length (those test i x)) e)
  those_more n (suc c) h =
      ⊎_elim (λ (e : n ≡ suc c). le_of_eq (ap (λ (x : ℕ). length (those test i x)) e))
      (λ (less : n < suc c).
      omega (arith, those_more n c (le_of_suc-le-suc less), length-append (those test i c) (cond (test (i + c)) ((i + c) ∷ []) [])))
      (eq-or-lt_of_le h)

  -- where all n are there, each has the test
  all_step : (b : Bool) (c k n : ℕ) → k ≤ n → k + length (cond b (c ∷ []) []) ≡ suc n → (b ≡ true) × (k ≡ n)
  all_step true c k n h e = (refl, omega arith)
  all_step false c k n h e = absurd (omega arith)

  pub those-all : (n : ℕ) → length (those test i n) ≡ n → (s : ℕ) → i ≤ s → s < i + n → test s ≡ true
  unfolding those
  those-all zero e s l h = absurd (omega arith)
  those-all (suc n) e s l h =
      let r = all_step (test (i + n)) (i + n) (length (those test i n)) n (those-few n)
      (sym (length-append (those test i n) (cond (test (i + n)) ((i + n) ∷ []) [])) ∙ e) in
      ⊎_elim (λ (same : s ≡ i + n). ap test same ∙ r.0) (λ (less : s < i + n). those-all n r.1 s l less) (eq-or-lt_of_le (omega arith))

  -- and where each has the test, all n are there
  pub those-full : (n : ℕ) → ((s : ℕ) → i ≤ s → s < i + n → test s ≡ true) → length (those test i n) ≡ n
  unfolding those
  those-full zero h = refl
  those-full (suc n) h =
      rw (h (i + n) (omega arith) (omega arith))
      (omega (arith, length-append (those test i n) ((i + n) ∷ []), those-full n (λ s l m. h s l (omega arith))))

-- a test that agrees on the numbers gives the same numbers
pub those-same : (f g : ℕ → Bool) (i n : ℕ) → ((s : ℕ) → i ≤ s → s < i + n → f s ≡ g s) → those f i n ≡ those g i n
unfolding those
those-same f g i zero h = refl
those-same f g i (suc n) h =
    ap₂ (λ (l : List ℕ) (b : Bool). l ++ cond b ((i + n) ∷ []) [])
    (those-same f g i n (λ s l m. h s l (omega arith))) (h (i + n) (omega arith) (omega arith))

-- two tests of which no number has both: together they have no more than n
pub those-apart : (f g : ℕ → Bool) (i n : ℕ) → ((s : ℕ) → i ≤ s → s < i + n → f s ≡ true → g s ≡ false)
    → length (those f i n) + length (those g i n) ≤ n
unfolding those
those-apart f g i zero h = zero-le
those-apart f g i (suc n) h =
    omega (
      arith,
      those-apart f g i n (λ s l m. h s l (omega arith)),
      length-append (those f i n) (cond (f (i + n)) ((i + n) ∷ []) []),
      length-append (those g i n) (cond (g (i + n)) ((i + n) ∷ []) []),
      one (f (i + n)) (g (i + n)) (h (i + n) (omega arith) (omega arith)),
    )
  where
    one : (x y : Bool) → (x ≡ true → y ≡ false) → length (cond x ((i + n) ∷ []) []) + length (cond y ((i + n) ∷ []) []) ≤ 1
    one true true k = absurd (false≢true (sym (k refl)))
    one true false k = le_refl 1
    one false true k = le_refl 1
    one false false k = zero-le

-- ---- where none has the test, where one has it, and in two parts
pub those-none : (t : ℕ → Bool) (i n : ℕ) → ((s : ℕ) → i ≤ s → s < i + n → t s ≡ false) → those t i n ≡ []
unfolding those
those-none t i zero h = refl
those-none t i (suc n) h = rw (those-none t i n (λ s l m. h s l (omega arith)), h (i + n) (omega arith) (omega arith))

pub those_one : (t : ℕ → Bool) (i n f : ℕ) → i ≤ f → f < i + n → t f ≡ true → ((s : ℕ) → i ≤ s → s < i + n → s ≢ f → t s ≡ false)
    → those t i n ≡ f ∷ []
unfolding those
those_one t i zero f l m y h = absurd (omega arith)
those_one t i (suc n) f l m y h =
    ⊎_elim
    (λ (e : f ≡ i + n).
    rw (those-none t i n (λ s u v. h s u (omega arith) (λ q. omega arith)), ← e, y))
    (λ (less : f < i + n).
    rw (h (i + n) (omega arith) (omega arith) (λ q. omega arith))
    (append-nil (those t i n) ∙ those_one t i n f l less y (λ s u v ne. h s u (omega arith) ne)))
    (eq-or-lt_of_le (omega arith))

pub those_split : (t : ℕ → Bool) (i m n : ℕ) → those t i (m + n) ≡ those t i m ++ those t (i + m) n
unfolding those
those_split t i m zero = let e : m + 0 ≡ m = omega arith in rw e (sym (append-nil (those t i m)))
those_split t i m (suc n) =
    let e : m + suc n ≡ suc (m + n) = omega arith in
    let f : i + m + n ≡ i + (m + n) = omega arith in
    rw (e, f, those_split t i m n) (append_assoc (those t i m) (those t (i + m) n) (cond (t (i + (m + n))) ((i + (m + n)) ∷ []) []))

-- g has the test at j too, and else the two agree: one more
pub count_more : (f g : ℕ → Bool) (i n j : ℕ) → i ≤ j → j < i + n → f j ≡ false → g j ≡ true → ((s : ℕ) → i ≤ s → s < i + n → s ≢ j → g s ≡ f s)
    → length (those g i n) ≡ length (those f i n) + 1
unfolding those
count_more f g i zero j l m a b h = absurd (omega arith)
count_more f g i (suc n) j l m a b h =
    ⊎_elim
    (λ (e : j ≡ i + n).
    let x : f (i + n) ≡ false = ap f (sym e) ∙ a in
    let y : g (i + n) ≡ true = ap g (sym e) ∙ b in
    let z : those g i n ≡ those f i n = those-same g f i n (λ s u v. h s u (omega arith) (λ q. omega arith)) in
    rw (x, y, z) (omega (arith, length-append (those f i n) ((i + n) ∷ []), length-append (those f i n) [])))
    (λ (less : j < i + n).
    let e : g (i + n) ≡ f (i + n) = h (i + n) (omega arith) (omega arith) (λ q. omega arith) in
    let r = count_more f g i n j l less a b (λ s u v. h s u (omega arith)) in
    rw e
    (omega (arith, r, length-append (those g i n) (cond (f (i + n)) ((i + n) ∷ []) []), length-append (those f i n) (cond (f (i + n)) ((i + n) ∷ []) []))))
    (eq-or-lt_of_le (omega arith))

-- ---- they rise
pub record Rises (l : List ℕ) : Type 0 where
  pub rise : (a b : ℕ) → a < b → b < length l → get_or l a 0 < get_or l b 0

rises_more : (l : List ℕ) (c : ℕ) → ((s : ℕ) → Memᴰ s l → s < c) → Rises l → Rises (l ++ c ∷ [])
rises_more l c below h = record {
  rise = λ a b p q.
      ⊎_elim (λ (e : b ≡ length l).
      rw (get_or_at l c [] 0 b (sym e), get_or-append l (c ∷ []) 0 a (omega arith)) (below (get_or l a 0) (at_in 0 l a (omega arith))))
      (λ (r : b < length l). rw (get_or-append l (c ∷ []) 0 a (omega arith), get_or-append l (c ∷ []) 0 b r) (h.rise a b p r))
      (eq-or-lt_of_le (le_of_suc-le-suc (omega (arith, length-append l (c ∷ [])))));
}

rises_if : (b : Bool) (l : List ℕ) (c : ℕ) → ((s : ℕ) → Memᴰ s l → s < c) → Rises l → Rises (l ++ cond b (c ∷ []) [])
rises_if true l c below h = rises_more l c below h
rises_if false l c below h = rw (append-nil l) h

pub those_rise : (test : ℕ → Bool) (i n : ℕ) → Rises (those test i n)
unfolding those
those_rise test i zero = record { rise = λ a b p q. absurd (not-suc-le-zero q) }
those_rise test i (suc n) = rises_if (test (i + n)) (those test i n) (i + n) (λ s m. (in_those test i n s m).1) (those_rise test i n)
