-- What the functions of dealing and of dealing by sets say to one another: the pieces held by the table of rows, what a block can be written
-- from, and what the checks before a card have made sure of. No promise of a whole deal names these. Assumes nothing.
use Rattle.std.specs.Prelude.{ℕ, ◌-◌, ◌*◌, ◌≤◌, Bool, not, List, [], ◌∷◌, length}
use Rattle.answer.specs.Outcome.{Outcome, done}
use Rattle.answer.specs.Checks.{first_fail}
use Rattle.lists.specs.Places.{those}
use Rattle.answer.specs.Lent.{no_room}
use Rattle.prime.specs.Prime.{Below}
use Rattle.field.specs.Pieces.{Random, values}
use Rattle.planning.specs.Groups.{marked}
use Rattle.block.specs.declared.Label.{Label}
use Rattle.block.specs.Written.{Buildable}
use Rattle.dealing.specs.Deal.{Asked}

-- what the labels of all blocks of a card share, where the secret has so many words; the mark, the pieces, the piece and the set are each block's own
abbrev pub shared_label : Asked → ℕ → Label
shared_label asked width =
    record {
      mark = 0;
      number = asked.number;
      holder = asked.holder;
      people = asked.people;
      pieces = 0;
      width = width;
      piece = 0;
      year = asked.year;
      set = 0;
    }

-- what a block of a piece can be written from: its label, and the secret and the randomness that give the label's piece its values
pub record Writable (label : Label) (secret random : List ℕ) : Type 0 where
  pub some_piece : 1 ≤ label.pieces
  pub width_in : length secret ≤ 16
  pub secret_in : Below secret
  pub random_in : Random (length secret) label.pieces random
  pub buildable : Buildable label (values (label.pieces - 1) secret random label.piece)

-- what the refusals before 12, none of them given, have made sure of
pub record Ready (asked : Asked) (k : ℕ) (secret random : List ℕ) : Type 0 where
  pub few : asked.people ≤ 8
  pub least : 1 ≤ k
  pub most : k ≤ 70
  pub number_in_lem : (1 ≤ asked.number) × (asked.number ≤ 32748)
  pub year_in : asked.year ≤ 32748
  pub holder_in : (1 ≤ asked.holder) × (asked.holder ≤ asked.people)
  pub width_in : (1 ≤ length secret) × (length secret ≤ 16)
  pub secret_in : Below secret
  pub random_in : Random (length secret) k random

-- the pieces of the first c rows, without those that mark the holder
unfoldable pub held_in : List (List Bool) → ℕ → ℕ → List ℕ
held_in rows holder c = those (λ j. not (marked rows j holder)) 1 c

-- 12 ROOM, or how many blocks there are
abbrev pub room_says : ℕ → ℕ → Outcome ℕ
room_says blocks room = first_fail (no_room (512 * blocks) blocks room ∷ []) (done blocks)
