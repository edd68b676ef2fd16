-- The library's `position` counts from 0 and says None; a place counts from 1 and says 0: one is found where the other is.
-- Assumes nothing.
use mathlib.Core.Path.{◌≡◌, refl, sym, ap, ◌∙◌}
use mathlib.Core.Bool.{Bool, true, false, cond, not}
use mathlib.Core.List.{List}
use Prim.Native.Nat.{ℕ, ◌+◌, ◌-◌, ◌≤◌, ◌<◌}
use native.Mathlib.Omega.{arith}
use lib.ListN.{length, get_or}
use borrow.Author.Tests.{ltb-true, ltb-false, not-false}
use Rattle.std.specs.Prelude.{Option, Some, None, position, is_some}
use Rattle.std.specs.List.{position_or_len}
use Rattle.std.proofs.lemmas.Option.{cond_some, none-some}
use Rattle.std.proofs.lemmas.List.Sums.{prefix_len_passes, prefix_len_stops}
use Rattle.lists.specs.Places.{first_place, found, at}
use Rattle.lists.proofs.FirstLaws.{is-first, first-all, found_some, found_none}
use Rattle.lists.proofs.Truth.{not_so}

-- antt reads the choice off the test
none_cond : (b : Bool) (n : ℕ) → cond b (Some n) None ≡ None → b ≡ false
none_cond true n e = absurd (none-some n (sym e))
none_cond false n e = refl

module _ (test : ℕ → Bool) (l : List ℕ) {r : Option ℕ} (e : r ≡ position test l) where
  -- the numbers in front of it lack the test
  before : (k : ℕ) → k < position_or_len test l → test (get_or l k 0) ≡ false
  before k h = not_so _ (prefix_len_passes (λ x. not (test x)) l k 0 h)

  -- one was found, at index i: so the place is i + 1
  pub position_found : {i : ℕ} → r ≡ Some i → first_place test l ≡ i + 1
  unfolding first_place
  position_found {i} q =
      let c = cond_some _ _ _ (sym e ∙ q) in
      let n = position_or_len test l in
      let h : n < length l = ltb-true _ _ c.0 in
      let s : n + 1 - 1 ≡ n = omega arith in
      is-first (λ k. test (at l k)) 1 (length l + 1) (n + 1) (record {
        from = omega arith;
        to = omega arith;
        has = rw s (not-false _ (prefix_len_stops (λ x. not (test x)) l 0 h));
        least = λ k u v. before (k - 1) (omega arith);
      })
      ∙ ap (λ (x : ℕ). x + 1) c.1

  pub position_in_list : {i : ℕ} → r ≡ Some i → i < length l
  position_in_list {i} q =
      let c = cond_some _ _ _ (sym e ∙ q) in
      let h : position_or_len test l < length l = ltb-true _ _ c.0 in
      omega (arith, c.1)

  -- none was found
  pub position_none : r ≡ None → first_place test l ≡ 0
  unfolding first_place
  position_none q =
      let h : length l ≤ position_or_len test l = ltb-false _ _ (none_cond _ _ (sym e ∙ q)) in
      first-all (λ k. test (at l k)) 1 (length l + 1) (λ k u v. before (k - 1) (omega arith))

  -- the same, of what was found
  pub position_is : {i : ℕ} → r ≡ Some i → found (first_place test l) ≡ true
  position_is {i} q = found_some (λ z. let f = position_found q in omega arith)

  pub position_not : r ≡ None → found (first_place test l) ≡ false
  position_not q = rw (position_none q)

-- one is found exactly where the other is
pub found_position : (test : ℕ → Bool) (l : List ℕ) → found (first_place test l) ≡ is_some (position test l)
found_position test l = go (position test l) refl
  where
    go : (r : Option ℕ) → position test l ≡ r → found (first_place test l) ≡ is_some r
    go None q = found_none (position_none test l refl q)
    go (Some i) q = position_is test l refl q
