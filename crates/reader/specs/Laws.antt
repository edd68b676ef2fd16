-- The laws that the reader owes; their proofs are in proofs/Laws.antt.
-- Assumes nothing.
use Rattle.std.specs.Prelude.{ℕ, ◌+◌, ◌*◌, ◌%◌, ◌≤◌, ◌<◌, ◌≡◌, ◌≢◌, ◌↔◌, List, [], length, Option, Result}
use Rattle.lists.specs.Laws.{IsFirst}
use Rattle.answer.specs.declared.Kind.TheVariants.{Unread}
use Rattle.answer.specs.Outcome.{refused, number}
use Rattle.block.specs.Open.{above, opening, value_bytes, value_start}
use Rattle.pile.specs.Blocks.{blocks, rest_from}
use Rattle.answer.specs.declared.Refusal.{Refusal}
use Rattle.block.specs.declared.Words.{Words}
use Rattle.reader.specs.Seeing.{told, ended, sight, counted, seeing, after, values_of, values_from, place_after, answer_of}

-- Equal outcomes, equal answers: the promise `sight r ≡ ..` leaves one possible answer.
abbrev pub SightOne : Type 0
SightOne = (x y : Option (Result Words Refusal)) → sight x ≡ sight y → x ≡ y

-- SCOPE 5: from the front, answer a is what opening block a answers, except that its place a is the block's number in the pile.
abbrev pub FromFront : Type 0
FromFront = (pile : List ℕ) (a : ℕ) → 1 ≤ a → a ≤ blocks pile → answer_of pile a ≡ told (counted a (opening (rest_from pile a)))

-- SCOPE 5: after the blocks, every answer is TORN where bytes are left over, and else that the pile is at its end.
abbrev pub PastBlocks : Type 0
PastBlocks = (pile : List ℕ) (c : ℕ) → blocks pile < c
    → (length pile % 512 ≢ 0 → answer_of pile c ≡ told (refused 13 0 0))
    × (length pile % 512 ≡ 0 → answer_of pile c ≡ ended)

-- SCOPE 5: the reader passes a block that is left, also if it was refused, and else does not move: at every place, of any size.
abbrev pub OneStep : Type 0
OneStep = (pile : List ℕ) (n : ℕ) → (n < blocks pile → after pile n ≡ n + 1) × (blocks pile ≤ n → after pile n ≡ n)

-- The reader never passes the end: c answers from the front, it has passed c blocks, or all.
abbrev pub NeverPast : Type 0
NeverPast = (pile : List ℕ) (c : ℕ) → (c ≤ blocks pile → place_after pile c ≡ c) × (blocks pile ≤ c → place_after pile c ≡ blocks pile)

-- A place past the end, which no reading from the front reaches, leaves none: the pile has ended, and the place stays.
abbrev pub PastEnd : Type 0
PastEnd = (pile : List ℕ) (n : ℕ) → blocks pile < n → (seeing pile n ≡ ended) × (after pile n ≡ n)

-- SCOPE 5: after a step, the value bytes are those of the block that was passed, where they lie in the pile.
abbrev pub ValuesPassed : Type 0
ValuesPassed = (pile : List ℕ) (n : ℕ) → n < blocks pile
    → (values_of pile (after pile n) ≡ value_bytes (rest_from pile (n + 1)))
    × (values_from pile (after pile n) ≡ 512 * n + value_start (rest_from pile (n + 1)))

-- TORN and the end pass no block: after them the value bytes are still those of the block passed before.
abbrev pub ValuesStay : Type 0
ValuesStay = (pile : List ℕ) (n : ℕ) → blocks pile ≤ n
    → (values_of pile (after pile n) ≡ values_of pile n)
    × (values_from pile (after pile n) ≡ values_from pile n)

-- SCOPE 5: a refused block has no value bytes.
abbrev pub RefusedEmpty : Type 0
RefusedEmpty = (pile : List ℕ) (n m a b : ℕ) → n < blocks pile → seeing pile n ≡ told (refused m a b) → values_of pile (after pile n) ≡ []

-- SCOPE 6, refusal 15: a block that is left is UNREAD at word i exactly where its word i exceeds 32748 and no word before it does.
abbrev pub UnreadExactly : Type 0
UnreadExactly = (pile : List ℕ) (n i : ℕ) → n < blocks pile
    → (seeing pile n ≡ told (refused (number Unread) (n + 1) i)) ↔ IsFirst (above (rest_from pile (n + 1))) 1 257 i

-- the refusals that the reader can give after n blocks, with their places
pub data Refusable (n : ℕ) : ℕ → ℕ → ℕ → Type 0 where
  by_torn : Refusable n 13 0 0
  by_unread : {b : ℕ} → 1 ≤ b → b ≤ 256 → Refusable n 15 (n + 1) b
  by_check : Refusable n 16 (n + 1) 0
  by_header : {b : ℕ} → 1 ≤ b → b ≤ 255 → Refusable n 17 (n + 1) b

-- It gives no other: TORN, or UNREAD, CHECK or HEADER of its next block.
abbrev pub WhichRefusals : Type 0
WhichRefusals = (pile : List ℕ) (n m a b : ℕ) → seeing pile n ≡ told (refused m a b) → Refusable n m a b
