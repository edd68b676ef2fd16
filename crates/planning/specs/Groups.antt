-- From lists to holdings (SCOPE 2). A list holds sets; a group is a set of the n people, a number below 2 ^ n.
-- Assumes nothing.
use Rattle.std.specs.Prelude.{Bool, false, not, ◌&&◌, ◌||◌, List, [], ◌++◌, map, ℕ, ◌+◌, ◌-◌, ◌^◌, length, get_or, replicate}
use Rattle.lists.specs.Places.{at, those}
use Rattle.planning.specs.Sets.{worth, member, inside, marks}
use Rattle.lists.specs.Some.{each, some}

-- SCOPE 2: a group is authorised if at least one required set lies inside it, and unauthorised if none does
unfoldable pub authorised : List ℕ → ℕ → Bool
authorised required g = some (λ r. inside r g) required

-- one more of the n people, whoever that is, turns the group authorised. Which groups are authorised, auth says.
unfoldable pub tight : (ℕ → Bool) → ℕ → ℕ → Bool
tight auth n g = each n (λ i. member i g || auth (g + worth i))

-- SCOPE 2: maximal is an unauthorised group that turns authorised by one more person, whoever of the others that is
unfoldable pub maximal_by : (ℕ → Bool) → ℕ → ℕ → Bool
maximal_by auth n g = not (auth g) && tight auth n g

-- the same, where the required list says which groups are authorised
abbrev pub maximal : ℕ → List ℕ → ℕ → Bool
maximal n required = maximal_by (authorised required) n

-- the maximal groups of n people, sorted by their numbers as sets, the smallest first
unfoldable pub groups_by : (ℕ → Bool) → ℕ → List ℕ
groups_by auth n = those (maximal_by auth n) 0 (2 ^ n)

-- the same, where the required list says which groups are authorised
abbrev pub groups : ℕ → List ℕ → List ℕ
groups n required = groups_by (authorised required) n

-- k, which counts them
abbrev pub piece_count : ℕ → List ℕ → ℕ
piece_count n required = length (groups n required)

-- SCOPE 2: the group of piece j is number j of them
abbrev pub group_of : ℕ → List ℕ → ℕ → ℕ
group_of n required j = at (groups n required) j

-- SCOPE 2: person i has piece j if i is not in the group of piece j, and only then
unfoldable pub holds : ℕ → List ℕ → ℕ → ℕ → Bool
holds n required i j = not (member i (group_of n required j))

-- the pieces that person i holds, in rising number
unfoldable pub held : ℕ → List ℕ → ℕ → List ℕ
held n required i = those (holds n required i) 1 (piece_count n required)

-- SCOPE 6.1: a row for each group, which marks the people in it; the rows after them, up to the 70th, mark nobody
unfoldable pub rows_of : List ℕ → List (List Bool)
rows_of l = map marks l ++ replicate (70 - length l) (marks 0)

-- the mark of person i in row j of a table
abbrev pub marked : List (List Bool) → ℕ → ℕ → Bool
marked rows j i = get_or (get_or rows (j - 1) []) (i - 1) false
