-- What joining to a key answers, and what it leaves in the lent output. Assumes nothing.
use Rattle.std.specs.Prelude.{ℕ, List, [], ◌∷◌, ◌++◌, length}
use Rattle.answer.specs.Outcome.{Outcome, done}
use Rattle.answer.specs.Checks.{Line, first_fail}
use Rattle.answer.specs.Lent.{no_room, left}
use Rattle.packing.specs.Key.{not_key, unpacked}
use Rattle.joining.specs.Checks.{pile_lines}
use Rattle.joining.specs.Secret.{secret}

-- joining a pile to a key, into a lent output of so many bytes: the lines of the pile, NOTKEY for the words that it joins to, then ROOM with
-- 16, which a key needs, else 16
unfoldable pub key_lines : List ℕ → ℕ → List Line
key_lines pile room = pile_lines pile ++ (not_key (secret pile) ++ no_room 16 16 room ∷ [])

unfoldable pub joining_key : List ℕ → ℕ → Outcome ℕ
joining_key pile room = first_fail (key_lines pile room) (done 16)

-- the lent output after joining: the key over its front, or, where the pile is refused, as it was
unfoldable pub joined_key_into : List ℕ → List ℕ → List ℕ
joined_key_into pile old = left (joining_key pile (length old)) (unpacked (secret pile)) old
