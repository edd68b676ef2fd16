-- A set, a text and an accepted policy, written so that they read as they do in SCOPE.
-- Assumes nothing.
use Rattle.std.specs.Prelude.{◌≡◌, List, [], ◌∷◌, ◌++◌, ℕ, ◌+◌, length}
use Prim.Native.Char.{code}
use Prim.Native.String.{String, [] as end, ◌∷◌ as front}
use Rattle.answer.specs.Outcome.{done}
use Rattle.planning.specs.Sets.{worth}
use Rattle.planning.specs.Groups.{groups, rows_of}
use Rattle.planning.specs.Policy.{Policy}
use Rattle.planning.specs.Planned.{planned, planned_rows}
use Rattle.print.specs.Lines.{feed}

-- the set of these people: the bit of person i has the value 2^(i−1)
unfoldable pub set : List ℕ → ℕ
set [] = 0
set (i ∷ others) = worth i + set others

-- the bytes of a line, in ASCII
unfoldable pub bytes : String → List ℕ
bytes end = []
bytes (front c rest) = code c ∷ bytes rest

-- the bytes of a text of these lines, each ended by a line feed
unfoldable pub text_of : List String → List ℕ
text_of [] = []
text_of (line ∷ more) = bytes line ++ feed ++ text_of more

-- planning accepts the policy: its pieces belong to these groups, in this order, and so does the table of rows
pub record Accepted (p : Policy) (pieces : List ℕ) : Type 0 where
  pub answer : planned p ≡ done (length pieces)
  pub groups_are : groups p.people p.required ≡ pieces
  pub rows : planned_rows p ≡ rows_of pieces
