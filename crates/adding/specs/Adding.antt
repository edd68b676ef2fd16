-- What adding two blocks answers, and what it leaves in the lent output: 13 and 15 to 17 of block one, then of block two, 24, 8, 25, 8, 12.
-- Assumes nothing.
use Rattle.std.specs.Prelude.{ℕ, Bool, ◌&&◌, ◌||◌, List, [], ◌∷◌, ◌++◌, eqb, length}
use Rattle.lists.specs.Places.{found}
use Rattle.answer.specs.declared.Kind.TheVariants.{Unlike, Deal as DealKind}
use Rattle.answer.specs.Outcome.{Outcome, done}
use Rattle.answer.specs.Checks.{Line, line, first_fail}
use Rattle.answer.specs.Lent.{no_room, left}
use Rattle.block.specs.Words.{word_at}
use Rattle.block.specs.Deals.{bad_number, bad_year}
use Rattle.block.specs.Open.{one_lines}
use Rattle.adding.specs.declared.Pair.{Pair}
use Rattle.adding.specs.Sum.{unlike_at, sum_of}

-- 24 UNLIKE: the blocks differ in one of words 3 to 7; a is the first such word
abbrev pub unlike : List ℕ → List ℕ → Line
unlike one two = line Unlike (found (unlike_at one two)) (unlike_at one two) 0

-- number and year are those of block b
unfoldable pub same_pair : Pair → List ℕ → Bool
same_pair new b = eqb new.number (word_at b 2) && eqb new.year (word_at b 24)

-- 8 DEAL, of a new number and year: they are those of one of the blocks, both of them
abbrev pub repeated : List ℕ → List ℕ → Pair → Line
repeated one two new = line DealKind (same_pair new one || same_pair new two) 0 0

-- all lines, in their order, for a lent output of so many bytes
unfoldable pub add_lines : List ℕ → List ℕ → Pair → ℕ → List Line
add_lines one two new room =
    one_lines one 1
    ++ one_lines two 2
    ++ unlike one two
    ∷ bad_number new.number
    ∷ bad_year new.year
    ∷ repeated one two new
    ∷ no_room 512 1 room
    ∷ []

-- what adding answers: the first refusal that is given, or 1, a number of blocks
unfoldable pub adding : List ℕ → List ℕ → Pair → ℕ → Outcome ℕ
adding one two new room = first_fail (add_lines one two new room) (done 1)

-- what the lent output holds then: the sum over its front, or, refused, what it held
unfoldable pub sum_into : List ℕ → List ℕ → Pair → List ℕ → List ℕ
sum_into one two new out = left (adding one two new (length out)) (sum_of one two new) out
