-- Places, which are counted from 1 (SCOPE 1); 0 says that there is none.
-- Assumes nothing.
use Rattle.std.specs.Prelude.{Bool, Option, Some, None, cond, not, ◌||◌, List, [], ◌∷◌, ◌++◌, ℕ, zero, suc, ◌+◌, ◌-◌, eqb, ltb, length, get_or}

-- the first of the n places from i on at which the test holds, or 0
unfoldable pub first_from : (ℕ → Bool) → ℕ → ℕ → ℕ
first_from test i zero = 0
first_from test i (suc n) = cond (test i) i (first_from test (i + 1) n)

-- the first of the places from i up to, not including, e at which the test holds, or 0
abbrev pub first_in : (ℕ → Bool) → ℕ → ℕ → ℕ
first_in test i e = first_from test i (e - i)

-- a place was found
abbrev pub found : ℕ → Bool
found a = not (eqb a 0)

-- a place that was looked for, as the code hands it on
abbrev pub placed : ℕ → Option ℕ
placed zero = None
placed (suc a) = Some (suc a)

-- a number outside 1 to high
abbrev pub outside : ℕ → ℕ → Bool
outside high v = eqb v 0 || ltb high v

-- what stands at a place of a list
abbrev pub at : List ℕ → ℕ → ℕ
at l i = get_or l (i - 1) 0

-- the place of the first number in the list with the test, or 0
unfoldable pub first_place : (ℕ → Bool) → List ℕ → ℕ
first_place test l = first_in (λ i. test (at l i)) 1 (length l + 1)

-- the numbers with the test among the n numbers from i on, in rising order
unfoldable pub those : (ℕ → Bool) → ℕ → ℕ → List ℕ
those test i zero = []
those test i (suc n) = those test i n ++ cond (test (i + n)) ((i + n) ∷ []) []
