-- The laws that this room owes; their proofs are in proofs/Laws.antt.
-- Assumes nothing.
use Rattle.std.specs.Prelude.{◌≡◌, ◌↔◌, Some, None, Bool, true, false, ℕ, ◌≤◌, ◌<◌}
use Rattle.lists.specs.Places.{first_in, placed}

-- f is the first of the places from i up to, not including, e with the test
pub record IsFirst (test : ℕ → Bool) (i e f : ℕ) : Type 0 where
  pub from : i ≤ f
  pub to : f < e
  pub has : test f ≡ true
  pub least : (k : ℕ) → i ≤ k → k < f → test k ≡ false

-- `first_in` is the first place with the test, and 0 only where no place has it.
abbrev pub FirstMeans : Type 0
FirstMeans = (test : ℕ → Bool) (i e k : ℕ) → i ≤ k → k < e → test k ≡ true → IsFirst test i e (first_in test i e)

abbrev pub NoneMeans : Type 0
NoneMeans = (test : ℕ → Bool) (i e : ℕ) → 1 ≤ i → first_in test i e ≡ 0 → (k : ℕ) → i ≤ k → k < e → test k ≡ false

-- A place is handed on as none exactly where it is 0, and else as it is: so an answer that is `placed` leaves one possible value.
abbrev pub PlacedMeans : Type 0
PlacedMeans = (a : ℕ) → ((placed a ≡ None) ↔ (a ≡ 0)) × ((i : ℕ) → placed a ≡ Some i → (a ≡ i) × (1 ≤ i))
