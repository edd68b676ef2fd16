-- Sets of people (SCOPE 1): numbers of 16 bits, in which the bit of person i has the value 2^(i−1). The first person is 1.
-- Assumes nothing.
use Rattle.std.specs.Prelude.{Bool, not, ◌||◌, List, [], ◌∷◌, ℕ, ◌-◌, ◌/◌, ◌%◌, ◌^◌, eqb, leb, length}
use Rattle.lists.specs.Places.{those}
use Rattle.lists.specs.Some.{each}

-- what person i is worth
abbrev pub worth : ℕ → ℕ
worth i = 2 ^ (i - 1)

-- person i is in the set s
unfoldable pub member : ℕ → ℕ → Bool
member i s = eqb (s / worth i % 2) 1

-- the set a lies inside the set b, or equals it: each person of a is in b
unfoldable pub inside : ℕ → ℕ → Bool
inside a b = each 16 (λ i. not (member i a) || member i b)

-- somebody in the set s has a number greater than n
unfoldable pub stranger : ℕ → ℕ → Bool
stranger n s = leb (2 ^ n) s

-- how many members the set s has, strangers too: a number of 16 bits has persons 1 to 16
unfoldable pub member_count : ℕ → ℕ
member_count s = length (those (λ i. member i s) 1 16)

-- the set s has exactly one member
unfoldable pub one_member : ℕ → Bool
one_member s = eqb (member_count s) 1

-- the row of member marks of a group: the i-th mark is whether person i is in it
unfoldable pub marks : ℕ → List Bool
marks g = member 1 g ∷ member 2 g ∷ member 3 g ∷ member 4 g ∷ member 5 g ∷ member 6 g ∷ member 7 g ∷ member 8 g ∷ []
