-- Some set of the list: which one it is, and that a first place is found exactly where there is one.
-- Assumes nothing.
use mathlib.Core.Path.{◌≡◌, refl, sym, ap, ◌∙◌}
use mathlib.Core.Bool.{Bool, true, false, false≢true}
use mathlib.Core.List.Memᴰ
use mathlib.Core.List.{List, [], ◌∷◌}
use mathlib.Core.Logic.{⊎_elim, ◌≢◌}
use Prim.Native.Nat.{ℕ, ◌-◌}
use native.Mathlib.Omega.{arith}
use lib.Dec.{eqb}
use borrow.Author.Tests.{eqb-true, eqb-false, ne_eqb}
use Rattle.lists.specs.Places.{first_place, found, at}
use Rattle.lists.proofs.FirstLaws.{place-most, place-has, place_lacks}
use Rattle.lists.proofs.ThoseLaws.{at_in, in_at}
use Rattle.lists.specs.Some.{◌∈◌, some}
use Rattle.lists.proofs.Truth.{never, decided, isn't, or_cases, or_l, or_r}

module _ (test : ℕ → Bool) where
  pub some_in : (l : List ℕ) → some test l ≡ true → (s : ℕ) × (s ∈ l) × (test s ≡ true)
  unfolding some
  some_in [] t = absurd (false≢true t)
  some_in (s ∷ l) t =
      ⊎_elim (λ (u : test s ≡ true). (s, Memᴰ.head refl, u))
      (λ (u : some test l ≡ true). let r = some_in l u in (r.0, Memᴰ.tail r.1, r.2)) (or_cases (test s) (some test l) t)

  pub in_some : (l : List ℕ) (s : ℕ) → s ∈ l → test s ≡ true → some test l ≡ true
  unfolding some
  in_some [] s m t = absurd (Memᴰ.not-nil m)
  in_some (a ∷ l) s m t =
      ⊎_elim (λ (e : s ≡ a). or_l (some test l) (ap test (sym e) ∙ t)) (λ (k : s ∈ l). or_r (test a) (in_some l s k t)) (Memᴰ.cases_cons m)

  -- there is some exactly where a first place is found
  pub some-place : (l : List ℕ) → some test l ≡ found (first_place test l)
  some-place l =
      let p = first_place test l in
      ⊎_elim
      (λ (z : eqb p 0 ≡ true). rw z (isn't (λ t.
      let r = some_in l t in
      let j = in_at 0 l r.0 r.1 in
      never (ap test (sym j.2) ∙ place_lacks test l (eqb-true _ _ z) j.0 j.1) r.2)))
      (λ (z : eqb p 0 ≡ false).
      let h = place-has test l (eqb-false _ _ z) in
      rw z (in_some l (at l p) (at_in 0 l (p - 1) (omega (arith, h.1, place-most test l))) h.0))
      (decided (eqb p 0))

  -- where none is found, no set of the list has the test
  pub none_found : (l : List ℕ) → found (first_place test l) ≡ false → (s : ℕ) → s ∈ l → test s ≡ false
  none_found l e s m = isn't (λ t. never (some-place l ∙ e) (in_some l s m t))

-- ---- what a search found
pub found_at : {at place : ℕ} → at ≡ place → at ≢ 0 → found place ≡ true
found_at e n = rw (ne_eqb _ _ (λ z. n (e ∙ z)))

pub found_none : {at place : ℕ} → at ≡ place → at ≡ 0 → found place ≡ false
found_none e z = rw (sym e ∙ z)
