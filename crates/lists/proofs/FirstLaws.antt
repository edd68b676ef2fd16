-- The first place with a test: one turn of a search, what is found, what finds it, and one place more at the end.
-- Assumes nothing.
use mathlib.Core.Path.{◌≡◌, refl, sym, ap, ap₂, subst, ◌∙◌}
use mathlib.Core.Bool.{Bool, true, false, cond, not, false≢true}
use mathlib.Core.Logic.{⊎_elim, ◌≢◌}
use mathlib.Core.List.{List}
use Prim.Native.Nat.{ℕ, zero, suc, ◌+◌, ◌-◌, ◌≤◌, ◌<◌, zero-le}
use native.Mathlib.Nat.{le_refl, eq-or-lt_of_le}
use native.Mathlib.Omega.{arith}
use lib.Dec.{eqb}
use lib.ListN.{length, get_or}
use borrow.Author.Tests.{eq-eqb, ne_eqb, eqb-true, not-false}
use Rattle.std.specs.Prelude.{Option, Some, None}
use Rattle.std.proofs.lemmas.Option.{none-some, same_Some}
use Rattle.lists.specs.Places.{first_from, first_in, found, first_place, placed, at}
use Rattle.lists.specs.Laws.{IsFirst}

-- ---- a search: the loop at place i, with the end e
first_one : (t : ℕ → Bool) (i n : ℕ) (x : Bool) → t i ≡ x → first_from t i (suc n) ≡ cond x i (first_from t (i + 1) n)
unfolding first_from
first_one t i n x h = ap (λ (y : Bool). cond y i (first_from t (i + 1) n)) h

-- the test holds at i
pub first_hit : (t : ℕ → Bool) (i e : ℕ) → i < e → t i ≡ true → first_in t i e ≡ i
first_hit t i e l h =
    let p : e - i ≡ suc (e - (i + 1)) = omega arith in
    rw p (first_one t i (e - (i + 1)) true h)

-- it does not
pub first_miss : (t : ℕ → Bool) (i e : ℕ) → i < e → t i ≡ false → first_in t i e ≡ first_in t (i + 1) e
first_miss t i e l h =
    let p : e - i ≡ suc (e - (i + 1)) = omega arith in
    rw p (first_one t i (e - (i + 1)) false h)

-- nothing is left
pub first-none : (t : ℕ → Bool) (i e : ℕ) → e ≤ i → first_in t i e ≡ 0
unfolding first_from
first-none t i e l =
    let p : e - i ≡ 0 = omega arith in
    rw p

-- none was found, so the test fails at each place
first_zero_go : (t : ℕ → Bool) (n i : ℕ) (x : Bool) → t i ≡ x → 1 ≤ i → cond x i (first_from t (i + 1) n) ≡ 0 → (x ≡ false) × (first_from t (i + 1) n ≡ 0)
first_zero_go t n i true q h e = absurd (omega arith)
first_zero_go t n i false q h e = (refl, e)

first-zero : (t : ℕ → Bool) (n i : ℕ) → 1 ≤ i → first_from t i n ≡ 0 → (k : ℕ) → i ≤ k → k < i + n → t k ≡ false
first-zero t zero i h e k l m = absurd (omega arith)
first-zero t (suc n) i h e k l m =
    let r = first_zero_go t n i (t i) refl h (sym (first_one t i n (t i) refl) ∙ e) in
    ⊎_elim
    (λ (same : i ≡ k). rw (← same) r.0)
    (λ (less : i < k). first-zero t n (i + 1) (omega arith) r.1 k (omega arith) (omega arith))
    (eq-or-lt_of_le l)

pub none_in : (t : ℕ → Bool) (i e : ℕ) → 1 ≤ i → first_in t i e ≡ 0 → (k : ℕ) → i ≤ k → k < e → t k ≡ false
none_in t i e h z k l m = first-zero t (e - i) i h z k l (omega arith)

-- the test fails at each place, so none is found
first_all_go : (t : ℕ → Bool) (n i : ℕ) → ((k : ℕ) → i ≤ k → k < i + n → t k ≡ false) → first_from t i n ≡ 0
unfolding first_from
first_all_go t zero i h = refl
first_all_go t (suc n) i h = rw (h i (le_refl i) (omega arith)) (first_all_go t n (i + 1) (λ k l m. h k (omega arith) (omega arith)))

pub first-all : (t : ℕ → Bool) (i e : ℕ) → ((k : ℕ) → i ≤ k → k < e → t k ≡ false) → first_in t i e ≡ 0
first-all t i e h = first_all_go t (e - i) i (λ k l m. h k l (omega arith))

-- ---- past places that lack the test
-- the first n places lack the test
pub skip : (t : ℕ → Bool) (n i e : ℕ) → i + n ≤ e → ((k : ℕ) → i ≤ k → k < i + n → t k ≡ false) → first_in t i e ≡ first_in t (i + n) e
skip t zero i e l h = let z : i + 0 ≡ i = omega arith in rw z
skip t (suc n) i e l h =
    let z : i + suc n ≡ i + 1 + n = omega arith in
    rw z
    (first_miss t i e (omega arith) (h i (le_refl i) (omega arith))
    ∙ skip t n (i + 1) e (omega arith) (λ k a b. h k (omega arith) (omega arith)))

-- one place more, at the end: it lacks the test; some earlier place has it; it alone has it
miss_from : (t : ℕ → Bool) (n i : ℕ) → t (i + n) ≡ false → first_from t i (suc n) ≡ first_from t i n
unfolding first_from
miss_from t zero i h =
    let e : i + 0 ≡ i = omega arith in
    ap (λ (b : Bool). cond b i 0) (ap t (sym e) ∙ h)
miss_from t (suc n) i h =
    let e : i + suc n ≡ i + 1 + n = omega arith in
    ap (cond (t i) i) (miss_from t n (i + 1) (ap t (sym e) ∙ h))

kept_either : (b : Bool) (i x y : ℕ) → cond b i y ≢ 0 → (y ≢ 0 → x ≡ y) → cond b i x ≡ cond b i y
kept_either true i x y h f = refl
kept_either false i x y h f = f h

kept_from : (t : ℕ → Bool) (n i : ℕ) → first_from t i n ≢ 0 → first_from t i (suc n) ≡ first_from t i n
unfolding first_from
kept_from t zero i h = absurd (h refl)
kept_from t (suc n) i h =
    kept_either (t i) i (first_from t (i + 1) (suc n)) (first_from t (i + 1) n) h (kept_from t n (i + 1))

hit_either : (b : Bool) (i x y z : ℕ) → 1 ≤ i → cond b i y ≡ 0 → (y ≡ 0 → x ≡ z) → cond b i x ≡ z
hit_either true i x y z l h f = absurd (omega arith)
hit_either false i x y z l h f = f h

hit_from : (t : ℕ → Bool) (n i : ℕ) → 1 ≤ i → first_from t i n ≡ 0 → t (i + n) ≡ true → first_from t i (suc n) ≡ i + n
unfolding first_from
hit_from t zero i l h e =
    let z : i + 0 ≡ i = omega arith in
    ap (λ (b : Bool). cond b i 0) (ap t (sym z) ∙ e) ∙ sym z
hit_from t (suc n) i l h e =
    let z : i + suc n ≡ i + 1 + n = omega arith in
    hit_either (t i) i (first_from t (i + 1) (suc n)) (first_from t (i + 1) n) (i + suc n) l h
    (λ none. hit_from t n (i + 1) (omega arith) none (ap t (sym z) ∙ e) ∙ sym z)

more : (a : ℕ) → 1 ≤ a → a + 1 - 1 ≡ suc (a - 1)
more a l = omega arith

pub miss_end : (t : ℕ → Bool) (a : ℕ) → 1 ≤ a → t a ≡ false → first_in t 1 (a + 1) ≡ first_in t 1 a
miss_end t a l h =
    let e : 1 + (a - 1) ≡ a = omega arith in
    ap (first_from t 1) (more a l) ∙ miss_from t (a - 1) 1 (ap t e ∙ h)

pub kept_end : (t : ℕ → Bool) (a : ℕ) → 1 ≤ a → first_in t 1 a ≢ 0 → first_in t 1 (a + 1) ≡ first_in t 1 a
kept_end t a l h = ap (first_from t 1) (more a l) ∙ kept_from t (a - 1) 1 h

pub hit_end : (t : ℕ → Bool) (a : ℕ) → 1 ≤ a → first_in t 1 a ≡ 0 → t a ≡ true → first_in t 1 (a + 1) ≡ a
hit_end t a l h q =
    let e : 1 + (a - 1) ≡ a = omega arith in
    ap (first_from t 1) (more a l) ∙ hit_from t (a - 1) 1 (le_refl 1) h (ap t e ∙ q) ∙ e

-- where one place has the test, the first is there or before
step_back : (t : ℕ → Bool) (i e f : ℕ) → t i ≡ false → IsFirst t (i + 1) e f → IsFirst t i e f
step_back t i e f h r = record {
  from = omega (arith, r.from);
  to = r.to;
  has = r.has;
  least = λ k l m. ⊎_elim (λ (same : i ≡ k). ap t (sym same) ∙ h) (λ (less : i < k). r.least k (omega arith) m) (eq-or-lt_of_le l);
}

first-from : (t : ℕ → Bool) (n i k : ℕ) → i ≤ k → k < i + n → t k ≡ true → IsFirst t i (i + n) (first_from t i n) × (first_from t i n ≤ k)
unfolding first_from
first-from t zero i k l h q = absurd (omega arith)
first-from t (suc n) i k l h q = go (t i) refl (λ m. first-from t n (i + 1) k m (omega arith) q)
  where
    go : (b : Bool) → t i ≡ b → (i + 1 ≤ k → IsFirst t (i + 1) (i + 1 + n) (first_from t (i + 1) n) × (first_from t (i + 1) n ≤ k))
        → IsFirst t i (i + suc n) (cond b i (first_from t (i + 1) n)) × (cond b i (first_from t (i + 1) n) ≤ k)
    go true e ih = (record { from = le_refl i; to = omega arith; has = e; least = λ j u v. absurd (omega arith) }, l)
    go false e ih =
        ⊎_elim
        (λ (same : i ≡ k). absurd (false≢true (sym e ∙ ap t same ∙ q)))
        (λ (less : i < k).
        let r = ih (omega arith) in
        let rest = first_from t (i + 1) n in
        let s : i + 1 + n ≡ i + suc n = omega arith in
        (subst (λ (x : ℕ). IsFirst t i x rest) s (step_back t i (i + 1 + n) rest e r.0), r.1))
        (eq-or-lt_of_le l)

pub first_of : (t : ℕ → Bool) (i e k : ℕ) → i ≤ k → k < e → t k ≡ true → IsFirst t i e (first_in t i e) × (first_in t i e ≤ k)
first_of t i e k l h q =
    let s : i + (e - i) ≡ e = omega arith in
    let r = first-from t (e - i) i k l (omega arith) q in
    (subst (λ (x : ℕ). IsFirst t i x (first_in t i e)) s r.0, r.1)

-- a place with the test before which none has it is the first
pub is-first : (t : ℕ → Bool) (i e f : ℕ) → IsFirst t i e f → first_in t i e ≡ f
is-first t i e f r =
    let s = first_of t i e f r.from r.to r.has in
    ⊎_elim (λ (same : first_in t i e ≡ f). same)
    (λ (less : first_in t i e < f). absurd (false≢true (sym (r.least (first_in t i e) s.0.from less) ∙ s.0.has)))
    (eq-or-lt_of_le s.1)

-- what is found lies before the end
below-from : (t : ℕ → Bool) (n i : ℕ) → first_from t i n ≤ i + n - 1
unfolding first_from
below-from t zero i = zero-le
below-from t (suc n) i = go (t i) (below-from t n (i + 1))
  where
    go : (b : Bool) → first_from t (i + 1) n ≤ i + 1 + n - 1 → cond b i (first_from t (i + 1) n) ≤ i + suc n - 1
    go true h = omega arith
    go false h = omega arith

pub below_end : (t : ℕ → Bool) (n : ℕ) → first_in t 1 (n + 1) ≤ n
below_end t n =
    let s : n + 1 - 1 ≡ n = omega arith in
    let e : 1 + n - 1 ≡ n = omega arith in
    rw s (subst (λ (x : ℕ). first_from t 1 n ≤ x) e (below-from t n 1))

-- where a place is found, it has the test and lies from i on
has-from : (t : ℕ → Bool) (n i : ℕ) → first_from t i n ≢ 0 → (t (first_from t i n) ≡ true) × (i ≤ first_from t i n)
unfolding first_from
has-from t zero i h = absurd (h refl)
has-from t (suc n) i h = go (t i) refl h (has-from t n (i + 1))
  where
    go : (b : Bool) → t i ≡ b → cond b i (first_from t (i + 1) n) ≢ 0
        → (first_from t (i + 1) n ≢ 0 → (t (first_from t (i + 1) n) ≡ true) × (i + 1 ≤ first_from t (i + 1) n))
        → (t (cond b i (first_from t (i + 1) n)) ≡ true) × (i ≤ cond b i (first_from t (i + 1) n))
    go true e f ih = (e, le_refl i)
    go false e f ih =
        let r = ih f in
        (r.0, omega arith)

pub has_test : (t : ℕ → Bool) (i e : ℕ) → first_in t i e ≢ 0 → (t (first_in t i e) ≡ true) × (i ≤ first_in t i e)
has_test t i e h = has-from t (e - i) i h

-- and before the end
pub below_in : (t : ℕ → Bool) (i e : ℕ) → first_in t i e ≢ 0 → first_in t i e < e
below_in t i e h =
    let some : first_in t i e ≡ 0 → ⊥ = h in
    omega (arith, (has_test t i e h).1, below-from t (e - i) i)

-- a search in two parts: what the part before m finds is what is found, and where it finds nothing, what the rest finds
pub first_part : (t : ℕ → Bool) (i m e : ℕ) → m ≤ e → first_in t i m ≢ 0 → first_in t i e ≡ first_in t i m
first_part t i m e l h =
    let q = has_test t i m h in
    let r = (first_of t i m (first_in t i m) q.1 (below_in t i m h) q.0).0 in
    is-first t i e (first_in t i m) (record { from = r.from; to = omega (arith, r.to); has = r.has; least = r.least })

pub first_past : (t : ℕ → Bool) (i m e : ℕ) → 1 ≤ i → i ≤ m → m ≤ e → first_in t i m ≡ 0 → first_in t i e ≡ first_in t m e
first_past t i m e from l h z =
    let s : i + (m - i) ≡ m = omega arith in
    skip t (m - i) i e (omega arith) (λ k u v. none_in t i m from z k u (omega arith)) ∙ ap (λ (x : ℕ). first_in t x e) s

-- ---- the first place in a list, as a loop over indices from 0 looks for it: at index i, place i + 1 is next
module _ (test : ℕ → Bool) (l : List ℕ) where
  abbrev pub ahead : ℕ → ℕ
  ahead i = first_in (λ k. test (at l k)) (i + 1) (length l + 1)

  here : (i : ℕ) → i + 1 - 1 ≡ i
  here i = omega arith

  pub place-start : first_place test l ≡ ahead 0
  unfolding first_place
  place-start = refl

  pub place_here : (i : ℕ) → i < length l → test (get_or l i 0) ≡ true → ahead i ≡ i + 1
  place_here i h e = first_hit (λ k. test (at l k)) (i + 1) (length l + 1) (omega arith) (rw (here i) e)

  pub place-next : (i : ℕ) → i < length l → test (get_or l i 0) ≡ false → ahead i ≡ ahead (i + 1)
  place-next i h e = first_miss (λ k. test (at l k)) (i + 1) (length l + 1) (omega arith) (rw (here i) e)

  pub place_none : (i : ℕ) → length l ≤ i → ahead i ≡ 0
  place_none i h = first-none (λ k. test (at l k)) (i + 1) (length l + 1) (omega arith)

  -- a place that is found is in the list and has the test; where none is, no number of the list has it
  pub place-most : first_place test l ≤ length l
  unfolding first_place
  place-most = below_end (λ k. test (at l k)) (length l)

  pub place-has : first_place test l ≢ 0 → (test (at l (first_place test l)) ≡ true) × (1 ≤ first_place test l)
  unfolding first_place
  place-has h = has_test (λ k. test (at l k)) 1 (length l + 1) h

  pub place_lacks : first_place test l ≡ 0 → (i : ℕ) → i < length l → test (get_or l i 0) ≡ false
  unfolding first_place
  place_lacks z i h = rw (here i) at (none_in (λ k. test (at l k)) 1 (length l + 1) (le_refl 1) z (i + 1) (omega arith) (omega arith))

-- ---- a place was found, or none
pub found_some : {a : ℕ} → a ≢ 0 → found a ≡ true
found_some {a} h = ap not (ne_eqb a 0 h)

pub found_none : {a : ℕ} → a ≡ 0 → found a ≡ false
found_none {a} h = ap not (eq-eqb a 0 h)

pub some-found : (a : ℕ) → found a ≡ true → 1 ≤ a
some-found zero e = absurd (false≢true e)
some-found (suc a) e = omega arith

pub none_found : (a : ℕ) → found a ≡ false → a ≡ 0
none_found a e = eqb-true a 0 (not-false (eqb a 0) e)

-- tests that agree at the places find the same
same_from : (t u : ℕ → Bool) (n i : ℕ) → ((k : ℕ) → i ≤ k → k < i + n → t k ≡ u k) → first_from t i n ≡ first_from u i n
unfolding first_from
same_from t u zero i h = refl
same_from t u (suc n) i h =
    ap₂ (λ (b : Bool) (x : ℕ). cond b i x) (h i (le_refl i) (omega arith)) (same_from t u n (i + 1) (λ k l m. h k (omega arith) (omega arith)))

pub first-same : (t u : ℕ → Bool) (i e : ℕ) → ((k : ℕ) → i ≤ k → k < e → t k ≡ u k) → first_in t i e ≡ first_in u i e
first-same t u i e h = same_from t u (e - i) i (λ k l m. h k l (omega arith))

-- ---- a place as the code hands it on
pub placed_some : (a : ℕ) {i : ℕ} {r : Option ℕ} → r ≡ placed a → r ≡ Some i → a ≡ i
placed_some zero {i} e q = absurd (none-some i (sym e ∙ q))
placed_some (suc a) {i} e q = same_Some (suc a) i (sym e ∙ q)

pub placed_none : (a : ℕ) {r : Option ℕ} → r ≡ placed a → r ≡ None → a ≡ 0
placed_none zero e q = refl
placed_none (suc a) e q = absurd (none-some (suc a) (sym q ∙ e))

-- so it was found
pub placed_found : (a : ℕ) {i : ℕ} {r : Option ℕ} → r ≡ placed a → r ≡ Some i → found a ≡ true
placed_found zero {i} e q = absurd (none-some i (sym e ∙ q))
placed_found (suc a) e q = found_some (λ z. omega arith)

-- a place is handed on, or none
pub some_placed : {a i : ℕ} → a ≡ i → 1 ≤ i → Some i ≡ placed a
some_placed {i = zero} e l = absurd (omega arith)
some_placed {i = suc i} e l = ap placed (sym e)

pub none_placed : {a : ℕ} → a ≡ 0 → None ≡ placed a
none_placed e = ap placed (sym e)
