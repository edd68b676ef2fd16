-- A holding list (SCOPE 2.1), by which any maker says who has which pieces: so many people, so many pieces, how many of them are needed,
-- and a mark for each person and piece. The rows of marks, one for each person, lie one after another. Assumes nothing.
use Rattle.std.specs.Prelude.{Bool, ◌&&◌, List, ℕ, ◌+◌, ◌-◌, ◌*◌, eqb, length, get_or}
use Rattle.lists.specs.Places.{first_in, found, those}
use Rattle.holdings.specs.declared.list.Holdings.{Holdings as Lent}
use Rattle.planning.specs.Sets.{member}

-- the number of people, of pieces, and of pieces that are needed; the marks
pub record Holdings : Type 0 where
  pub people : ℕ
  pub pieces : ℕ
  pub needed : ℕ
  pub marks : List ℕ

-- the list of these four
abbrev pub list_of : ℕ → ℕ → ℕ → List ℕ → Holdings
list_of people pieces needed marks = record { people = people; pieces = pieces; needed = needed; marks = marks }

-- a lent list as it is said here
abbrev pub list_in : Lent → Holdings
list_in l = list_of l.people l.pieces l.needed l.marks.now

-- the mark of person i for piece j: i − 1 rows lie before that person's row
abbrev pub mark : Holdings → ℕ → ℕ → ℕ
mark l i j = get_or l.marks ((i - 1) * l.pieces + (j - 1)) 0

-- person i has piece j
unfoldable pub owns : Holdings → ℕ → ℕ → Bool
owns l i j = eqb (mark l i j) 1

-- a member of the group g, whichever, has piece j
unfoldable pub has : Holdings → ℕ → ℕ → Bool
has l g j = found (first_in (λ i. member i g && owns l i j) 1 (l.people + 1))

-- how many pieces the members of the group g have between them, each piece counted once
unfoldable pub have : Holdings → ℕ → ℕ
have l g = length (those (has l g) 1 l.pieces)
