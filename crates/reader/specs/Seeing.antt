-- What the reader answers (SCOPE 5), by its pile and how far it has come: n blocks were passed, so the next is block n + 1.
-- Assumes nothing.
use Rattle.std.specs.Prelude.{ℕ, zero, suc, ◌+◌, ◌-◌, ◌*◌, ◌≡◌, Bool, cond, ◌&&◌, List, [], ◌∷◌, ◌++◌, length, leb, Option, Some, None, Result}
use Rattle.std.specs.Borrow.{Bor}
use Rattle.answer.specs.declared.Refusal.{Refusal}
use Rattle.answer.specs.Outcome.{Outcome, done, refused}
use Rattle.answer.specs.Checks.{first_fail}
use Rattle.block.specs.Layout.{front_words}
use Rattle.block.specs.declared.Words.{Words}
use Rattle.block.specs.Open.{block_lines, value_bytes, value_start, opened}
use Rattle.pile.specs.Blocks.{blocks, rest_from}
use Rattle.pile.specs.Lines.{every_block, torn_pile}
use Rattle.reader.specs.declared.Reader.{Reader}

-- what is said of the next block: what opening says of one, or that the pile is at its end
pub data Sight : Type 0 where
  told : Outcome (List ℕ) → Sight
  ended : Sight

-- what the code's answer says
abbrev pub sight : Option (Result Words Refusal) → Sight
sight (Some words) = told (opened words)
sight None = ended

-- by what is left of the pile: 512 bytes or more, fewer but some, or none
abbrev pub by_left : {A : Type 0} → List ℕ → A → A → A → A
by_left rest block some none = cond (leb 512 (length rest)) block (cond (leb 1 (length rest)) some none)

-- UNREAD, CHECK and HEADER of block a, whose number is their place a, else its words 1 to 7
unfoldable pub opening_at : List ℕ → ℕ → Outcome (List ℕ)
opening_at pile a = first_fail (block_lines (rest_from pile a) a) (done (front_words (rest_from pile a)))

-- SCOPE 5: with a block left, what opening it answers; with fewer bytes left, but some, TORN; else that the pile is at its end.
-- A place past the pile's end leaves none.
unfoldable pub seeing : List ℕ → ℕ → Sight
seeing pile n = by_left (rest_from pile (n + 1)) (told (opening_at pile (n + 1))) (told (refused 13 0 0)) ended

-- SCOPE 5: with a block left, that block is passed, also if it was refused; else the reader does not move
unfoldable pub after : List ℕ → ℕ → ℕ
after pile n = by_left (rest_from pile (n + 1)) (n + 1) n n

-- the pile has a block a
abbrev pub has_block : List ℕ → ℕ → Bool
has_block pile a = leb 1 a && leb a (blocks pile)

-- SCOPE 5: the value bytes of block a; a refused block has none, nor has one that is not in the pile
unfoldable pub values_of : List ℕ → ℕ → List ℕ
values_of pile a = cond (has_block pile a) (value_bytes (rest_from pile a)) []

-- where in the pile they start: at byte 14 of the block; where there are none, at the front of the block, or of the pile
unfoldable pub values_from : List ℕ → ℕ → ℕ
values_from pile a = cond (has_block pile a) (512 * (a - 1) + value_start (rest_from pile a)) 0

-- SCOPE 5: a stretch of the pile itself, and no copy: the part holds those bytes, and it points into the pile, at that place
abbrev pub ValuesIn : Bor (List ℕ) → ℕ → Bor (List ℕ) → Type 0
ValuesIn pile a part =
    (part.now ≡ values_of pile.now a)
    × ◌≡◌ {A = ℕ × ℕ} part.ref_ptr (pile.ref_ptr.0, pile.ref_ptr.1 + values_from pile.now a)

-- the reader after a step: the same pile, and the place after
abbrev pub stepped : Reader → Reader
stepped r = record { pile = r.pile; block = after r.pile.now r.block }

-- an outcome of opening, with a replaced by the block's number in the pile
abbrev pub counted : ℕ → Outcome (List ℕ) → Outcome (List ℕ)
counted a (done ws) = done ws
counted a (refused m one b) = refused m a b

-- where a reader that began at the front stands after c answers
unfoldable pub place_after : List ℕ → ℕ → ℕ
place_after pile zero = 0
place_after pile (suc c) = after pile (place_after pile c)

-- its answer number c, c from 1
abbrev pub answer_of : List ℕ → ℕ → Sight
answer_of pile c = seeing pile (place_after pile (c - 1))

-- a pile read from the front to its end: for one block after the other UNREAD, CHECK and HEADER, then TORN, else how many blocks it has
unfoldable pub reading : List ℕ → Outcome ℕ
reading pile = first_fail (every_block pile ++ (torn_pile pile ∷ [])) (done (blocks pile))
