-- What planning answers: SCOPE 6, refusals 1 to 5, 22 and 6, and the table of rows.
-- Assumes nothing.
use Rattle.std.specs.Prelude.{Bool, ◌||◌, List, [], ◌∷◌, ◌++◌, ℕ, eqb, ltb, length}
use Rattle.answer.specs.declared.Kind.TheVariants.{People, LongList, Stranger, Nobody, Open, Clash, Lone}
use Rattle.answer.specs.Outcome.{Outcome, done, refused}
use Rattle.answer.specs.Checks.{Line, line, first_fail}
use Rattle.lists.specs.Places.{first_place, found, at}
use Rattle.planning.specs.Sets.{inside, stranger, one_member}
use Rattle.planning.specs.Policy.{Policy}
use Rattle.planning.specs.Groups.{groups, piece_count, rows_of}

-- 1 PEOPLE: there are no people, or more than 8
unfoldable pub people : ℕ → Line
people n = line People (eqb n 0 || ltb 8 n) 0 0

-- 2 LONGLIST: more than 256 sets stand in a list; a is 1 for the required list, 2 for the forbidden one
unfoldable pub long : ℕ → List ℕ → Line
long list sets = line LongList (ltb 256 (length sets)) list 0

-- 3 STRANGER: somebody in a set has a number greater than n; a is the list, b the place of the first such set
unfoldable pub strangers : ℕ → ℕ → List ℕ → Line
strangers n list sets = line Stranger (found (first_place (stranger n) sets)) list (first_place (stranger n) sets)

-- 4 NOBODY: no set is required
unfoldable pub nobody : List ℕ → Line
nobody required = line Nobody (eqb (length required) 0) 0 0

-- 5 OPEN: the empty set is required; a is its first place
unfoldable pub opens : List ℕ → Line
opens required = line Open (found (first_place (eqb 0) required)) (first_place (eqb 0) required) 0

-- 22 LONE: a required set has a single member, who would open alone; a is the first such set
unfoldable pub lone : List ℕ → Line
lone required = line Lone (found (first_place one_member required)) (first_place one_member required) 0

-- the place of the first forbidden set around the set s, or 0
abbrev pub around_place : List ℕ → ℕ → ℕ
around_place forbidden s = first_place (inside s) forbidden

-- the place of the first required set inside a forbidden one, or 0
unfoldable pub clash_place : List ℕ → List ℕ → ℕ
clash_place required forbidden = first_place (λ r. found (around_place forbidden r)) required

-- 6 CLASH: a required set lies inside a forbidden one, or equals it; a is the first such required set, b the first forbidden set around it
unfoldable pub clash : List ℕ → List ℕ → Line
clash required forbidden =
    line Clash (found (clash_place required forbidden)) (clash_place required forbidden)
    (around_place forbidden (at required (clash_place required forbidden)))

-- refusals 1 to 5 and 22, in their order
unfoldable pub list_lines : Policy → List Line
list_lines p =
    people p.people
    ∷ long 1 p.required
    ∷ long 2 p.forbidden
    ∷ strangers p.people 1 p.required
    ∷ strangers p.people 2 p.forbidden
    ∷ nobody p.required
    ∷ opens p.required
    ∷ lone p.required
    ∷ []

-- 1 to 5, 22 and 6, in the order of SCOPE 6.3. How many maximal groups there are need not be asked: never over 70 (FewGroups)
unfoldable pub plan_lines : Policy → List Line
plan_lines p = list_lines p ++ clash p.required p.forbidden ∷ []

-- what planning answers: the first refusal that is given, or k
unfoldable pub planned : Policy → Outcome ℕ
planned p = first_fail (plan_lines p) (done (piece_count p.people p.required))

-- SCOPE 6.1: the rows of the groups; where the plan is refused, no row marks anybody
abbrev pub rows_for : Outcome ℕ → List ℕ → List (List Bool)
rows_for (done k) maximals = rows_of maximals
rows_for (refused m a b) maximals = rows_of []

-- the table of rows that goes with the answer
unfoldable pub planned_rows : Policy → List (List Bool)
planned_rows p = rows_for (planned p) (groups p.people p.required)
