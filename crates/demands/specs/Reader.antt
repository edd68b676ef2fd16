-- The reader and joining meet one pile: whatever joins, the reader reads to its end.
-- Assumes nothing.
use Rattle.std.specs.Prelude.{ℕ, ◌≤◌, ◌<◌, ◌≡◌, List}
use Rattle.answer.specs.Outcome.{done}
use Rattle.block.specs.Layout.{front_words}
use Rattle.pile.specs.Blocks.{blocks, rest_from}
use Rattle.joining.specs.Joined.{joining}
use Rattle.reader.specs.Seeing.{told, ended, answer_of, reading}

-- A pile that joining accepts is read to its end with no refusal: each answer is the block's words 1 to 7, and then the pile has ended.
abbrev pub JoinedRead : Type 0
JoinedRead = (pile : List ℕ) (room w : ℕ) → joining pile room ≡ done w
    → ((a : ℕ) → 1 ≤ a → a ≤ blocks pile → answer_of pile a ≡ told (done (front_words (rest_from pile a))))
    × ((c : ℕ) → blocks pile < c → answer_of pile c ≡ ended)
    × (reading pile ≡ done (blocks pile))
