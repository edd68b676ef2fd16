-- The minimal required sets (SCOPE 2.3), in rising number, and the piece that each member of a set has.
-- Assumes nothing.
use Rattle.std.specs.Prelude.{Bool, not, ◌&&◌, List, ℕ, ◌^◌, eqb, length}
use Rattle.lists.specs.Places.{at, those}
use Rattle.lists.specs.Some.{some}
use Rattle.planning.specs.Sets.{member, inside}

-- another set than g, and inside it
unfoldable pub within : ℕ → ℕ → Bool
within g r = not (eqb r g) && inside r g

-- g is a required set, and no other required set lies inside it
unfoldable pub least : List ℕ → ℕ → Bool
least required g = some (eqb g) required && not (some (within g) required)

-- the minimal required sets of n people, sorted by their numbers as sets, each once however often it is required
unfoldable pub minimals : ℕ → List ℕ → List ℕ
minimals n required = those (least required) 0 (2 ^ n)

-- how many they are
abbrev pub set_count : ℕ → List ℕ → ℕ
set_count n required = length (minimals n required)

-- set s is the s-th of them
abbrev pub set_of : ℕ → List ℕ → ℕ → ℕ
set_of n required s = at (minimals n required) s

-- the places of the first c sets of a list that person i is in, in rising number
unfoldable pub sets_with : List ℕ → ℕ → ℕ → List ℕ
sets_with sets i c = those (λ s. member i (at sets s)) 1 c

-- how many of persons 1 to c are in the set; up to 16, its member_count
unfoldable pub counted : ℕ → ℕ → ℕ
counted set c = length (those (λ i. member i set) 1 c)

-- the piece of a set that its member i has: the j-th member, in rising number, has piece j
abbrev pub number_in : ℕ → ℕ → ℕ
number_in set i = counted set i
