-- What the library finds, tests and counts among the numbers from a on, in the words of this room.
-- Assumes nothing.
use Prim.Native.Nat.{ℕ, zero, suc, ◌+◌, ◌≤◌, ◌<◌}
use mathlib.Core.Path.{◌≡◌, refl, sym, ap, ◌∙◌}
use mathlib.Core.Bool.{Bool, true, false, cond, not, ◌&&◌, ◌||◌}
use mathlib.Core.List.{List, [], ◌∷◌, ◌++◌}
use native.Mathlib.Nat.{add-zero}
use native.Mathlib.Omega.{arith}
use lib.Dec.{eqb}
use borrow.Author.Tests.{ne_eqb}
use Rattle.std.specs.Prelude.{Option, Some, None}
use Rattle.std.specs.Option.{MatchOption}
use Rattle.std.specs.List.{range_with_len, list_any, list_all, filter}
use Rattle.lists.specs.Places.{placed, found, first_from, first_in, those}
use Rattle.lists.proofs.FirstLaws.{first-all, is-first, some_placed, none_placed, found_some}
use Rattle.lists.proofs.ThoseLaws.{those_split}

-- the first place with the test, below e, as the code hands it on
pub placed_find : (t : ℕ → Bool) (a e : ℕ) (r : Option ℕ) → 1 ≤ a
    → MatchOption r ((k : ℕ) → a ≤ k → k < e → t k ≡ false) (λ i. (a ≤ i) × (i < e) × (t i ≡ true) × ((k : ℕ) → a ≤ k → k < i → t k ≡ false))
    → r ≡ placed (first_in t a e)
placed_find t a e None l h = none_placed (first-all t a e h)
placed_find t a e (Some i) l h = some_placed (is-first t a e i record { from = h.0; to = h.1; has = h.2; least = h.3 }) (omega arith)

-- one of n places has the test where a first one is found
pub any_found : (t : ℕ → Bool) (a n : ℕ) → 1 ≤ a → list_any t (range_with_len a n) ≡ found (first_from t a n)
unfolding first_from
any_found t a zero l = refl
any_found t a (suc n) l = go (t a) (any_found t (a + 1) n (omega arith))
  where
    go : (b : Bool) → list_any t (range_with_len (a + 1) n) ≡ found (first_from t (a + 1) n)
        → b || list_any t (range_with_len (a + 1) n) ≡ found (cond b a (first_from t (a + 1) n))
    go true e = sym (found_some (λ z. omega arith))
    go false e = e

-- all of them pass where none that fails is found
pub all_pass : (t u : ℕ → Bool) → ((i : ℕ) → u i ≡ not (t i)) → (a n : ℕ) → 1 ≤ a → list_all u (range_with_len a n) ≡ eqb (first_from t a n) 0
unfolding first_from
all_pass t u h a zero l = refl
all_pass t u h a (suc n) l = rw (h a) (go (t a) (all_pass t u h (a + 1) n (omega arith)))
  where
    go : (b : Bool) → list_all u (range_with_len (a + 1) n) ≡ eqb (first_from t (a + 1) n) 0
        → not b && list_all u (range_with_len (a + 1) n) ≡ eqb (cond b a (first_from t (a + 1) n)) 0
    go true e = sym (ne_eqb a 0 (λ z. omega arith))
    go false e = e

-- those that have it
pub filter_those : (t : ℕ → Bool) (a n : ℕ) → filter t (range_with_len a n) ≡ those t a n
unfolding those
filter_those t a zero = refl
filter_those t a (suc n) =
    let s : suc n ≡ 1 + n = omega arith in
    let h : cond (t a) (a ∷ filter t (range_with_len (a + 1) n)) (filter t (range_with_len (a + 1) n)) ≡ those t a 1 ++ those t (a + 1) n =
    rw (filter_those t (a + 1) n, add-zero a) (go (t a) (those t (a + 1) n)) in
    h ∙ sym (ap (those t a) s ∙ those_split t a 1 n)
  where
    go : (b : Bool) (l : List ℕ) → cond b (a ∷ l) l ≡ cond b (a ∷ []) [] ++ l
    go true l = refl
    go false l = refl
