-- What stands in a list, a test that some number of a list has, and one that each number up to another has.
-- Assumes nothing.
use Rattle.std.specs.Prelude.{Bool, true, false, ◌&&◌, ◌||◌, ℕ, zero, suc}
use mathlib.Core.List.{List, [], ◌∷◌, Memᴰ}

-- s stands in the list
infix 4 ◌∈◌
abbrev pub ◌∈◌ : ℕ → List ℕ → Type 0
s ∈ l = Memᴰ s l

-- the test holds of some number of the list
unfoldable pub some : (ℕ → Bool) → List ℕ → Bool
some test [] = false
some test (s ∷ l) = test s || some test l

-- the test holds of each of the numbers 1 to c
unfoldable pub each : ℕ → (ℕ → Bool) → Bool
each zero test = true
each (suc c) test = each c test && test (suc c)
