-- A loop that asks whether some set of a list has a test, at index i: what is still ahead says the same as the whole list.
-- Assumes nothing.
use mathlib.Core.Path.{◌≡◌, refl, sym, ◌∙◌}
use mathlib.Core.Bool.{Bool, true, false}
use mathlib.Core.List.{List}
use Prim.Native.Nat.{ℕ, ◌+◌, ◌≤◌, ◌<◌, zero-le}
use native.Mathlib.Numerals.{add-one}
use native.Mathlib.Omega.{arith}
use lib.ListN.{length, get_or, drop}
use lib.Seq.{drop-cons, drop-length}
use Rattle.lists.specs.Some.{some}

-- ---- whether some set has the test
pub record SomeAhead (test : ℕ → Bool) (l : List ℕ) (i : ℕ) : Type 0 where
  pub in_list : i ≤ length l
  pub same : some test l ≡ some test (drop i l)

pub some-start : (test : ℕ → Bool) (l : List ℕ) → SomeAhead test l 0
some-start test l = record { in_list = zero-le; same = refl }

module _ {test : ℕ → Bool} {l : List ℕ} {i : ℕ} (h : SomeAhead test l i) where
  pub some_here : i < length l → test (get_or l i 0) ≡ true → true ≡ some test l
  unfolding some
  some_here p e = sym (h.same ∙ rw (drop-cons l i 0 p, e))

  pub some_next : i < length l → test (get_or l i 0) ≡ false → SomeAhead test l (i + 1)
  unfolding some
  some_next p e = record { in_list = omega arith; same = h.same ∙ rw (drop-cons l i 0 p, e, add-one i) }

  pub some_end : length l ≤ i → false ≡ some test l
  unfolding some
  some_end p = let e : i ≡ length l = omega arith in sym (h.same ∙ rw (e, drop-length l))
