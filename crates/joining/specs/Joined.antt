-- What joining answers, and what it leaves in the lent output. Assumes nothing.
use Rattle.std.specs.Prelude.{ℕ, List, [], ◌∷◌, ◌++◌, length}
use Rattle.answer.specs.Outcome.{Outcome, done}
use Rattle.answer.specs.Checks.{Line, first_fail}
use Rattle.answer.specs.Lent.{no_room, left}
use Rattle.joining.specs.Pile.{own_width}
use Rattle.joining.specs.Checks.{pile_lines}
use Rattle.joining.specs.Secret.{secret}

-- joining a pile into a lent output of so many words: the lines of the pile, then ROOM with w, which it needs, else w
unfoldable pub join_lines : List ℕ → ℕ → List Line
join_lines pile room = pile_lines pile ++ no_room (own_width pile) (own_width pile) room ∷ []

unfoldable pub joining : List ℕ → ℕ → Outcome ℕ
joining pile room = first_fail (join_lines pile room) (done (own_width pile))

-- the lent output after joining: the secret over its front, or, where the pile is refused, as it was
unfoldable pub joined_into : List ℕ → List ℕ → List ℕ
joined_into pile old = left (joining pile (length old)) (secret pile) old
