-- A loop that looks through a list for the first number with a test, at index i: what is still ahead says the same as the whole list.
-- Assumes nothing.
use mathlib.Core.Path.{◌≡◌, sym, ◌∙◌}
use mathlib.Core.Bool.{Bool, true, false}
use mathlib.Core.List.{List}
use Prim.Native.Nat.{ℕ, ◌+◌, ◌≤◌, ◌<◌, zero-le}
use native.Mathlib.Omega.{arith}
use lib.ListN.{length, get_or}
use Rattle.lists.specs.Places.{first_place}
use Rattle.lists.proofs.FirstLaws.{ahead, place-start, place_here, place-next, place_none}

pub record PlaceAhead (test : ℕ → Bool) (l : List ℕ) (i : ℕ) : Type 0 where
  pub in_list : i ≤ length l
  pub same : first_place test l ≡ ahead test l i

pub start : (test : ℕ → Bool) (l : List ℕ) → PlaceAhead test l 0
start test l = record { in_list = zero-le; same = place-start test l }

module _ {test : ℕ → Bool} {l : List ℕ} {i : ℕ} (h : PlaceAhead test l i) where
  pub here : i < length l → test (get_or l i 0) ≡ true → i + 1 ≡ first_place test l
  here p e = sym (h.same ∙ place_here test l i p e)

  pub next : i < length l → test (get_or l i 0) ≡ false → PlaceAhead test l (i + 1)
  next p e = record { in_list = omega arith; same = h.same ∙ place-next test l i p e }

  pub end : length l ≤ i → 0 ≡ first_place test l
  end p = sym (h.same ∙ place_none test l i p)
