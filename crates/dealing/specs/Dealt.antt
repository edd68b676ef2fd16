-- What dealing answers and writes: SCOPE 6, refusals 1 to 12, 22 and 25, and the card over the front of the lent output.
-- Assumes nothing.
use Rattle.std.specs.Prelude.{ℕ, ◌-◌, ◌*◌, ◌≡◌, not, List, [], ◌∷◌, ◌++◌, eqb, length}
use Rattle.prime.specs.Prime.{too_large}
use Rattle.answer.specs.declared.Kind.TheVariants.{Holder, Secret, Random}
use Rattle.answer.specs.Outcome.{Outcome, done}
use Rattle.answer.specs.Checks.{Line, line, first_fail}
use Rattle.lists.specs.Places.{first_place, found, outside}
use Rattle.answer.specs.Lent.{no_room, left}
use Rattle.planning.specs.Planned.{plan_lines}
use Rattle.block.specs.Deals.{bad_number, bad_year}
use Rattle.dealing.specs.Deal.{Asked, Deal, asked_of, deal_pieces, held_by, card}

-- 9 HOLDER: the holder is 0 or exceeds n
unfoldable pub bad_holder : ℕ → ℕ → Line
bad_holder people holder = line Holder (outside people holder) 0 0

-- 10 SECRET, a = 0: the secret has no words, or more than 16
unfoldable pub bad_width : List ℕ → Line
bad_width secret = line Secret (outside 16 (length secret)) 0 0

-- 10 SECRET: some word exceeds 32748; a is the first such word
unfoldable pub bad_secret : List ℕ → Line
bad_secret secret = line Secret (found (first_place too_large secret)) (first_place too_large secret) 0

-- 11 RANDOM, a = 0: each word of the secret wants so many coefficients, and there are not as many as they want together
unfoldable pub bad_count : ℕ → List ℕ → List ℕ → Line
bad_count each secret random = line Random (not (eqb (length random) (length secret * each))) 0 0

-- 11 RANDOM: some word exceeds 32748; a is the first such word
unfoldable pub bad_random : List ℕ → Line
bad_random random = line Random (found (first_place too_large random)) (first_place too_large random) 0

-- 8, 25, 9 to 11, in their order
unfoldable pub input_lines : Asked → ℕ → List ℕ → List ℕ → List Line
input_lines asked each secret random =
    bad_number asked.number
    ∷ bad_year asked.year
    ∷ bad_holder asked.people asked.holder
    ∷ bad_width secret
    ∷ bad_secret secret
    ∷ bad_count each secret random
    ∷ bad_random random
    ∷ []

-- those and 12: for a card of so many blocks into a lent output of so many bytes
abbrev pub card_lines : Asked → ℕ → List ℕ → List ℕ → ℕ → ℕ → List Line
card_lines asked each secret random blocks room = input_lines asked each secret random ++ no_room (512 * blocks) blocks room ∷ []

-- how many blocks the holder's card has
unfoldable pub block_count : Deal → ℕ → ℕ
block_count d holder = length (held_by d holder)

-- planning's, then 8, 25 and 9 to 12, in their order: for one holder's card into a lent output of so many bytes
unfoldable pub deal_lines : Deal → ℕ → ℕ → List Line
deal_lines d holder room =
    plan_lines d.policy ++ card_lines (asked_of d holder) (deal_pieces d - 1) d.secret d.random (block_count d holder) room

-- what dealing answers: the first refusal that is given, or how many blocks the card has
unfoldable pub dealing : Deal → ℕ → ℕ → Outcome ℕ
dealing d holder room = first_fail (deal_lines d holder room) (done (block_count d holder))

-- what the lent output holds then: the card over its front, or, refused, what it held
unfoldable pub dealt_into : Deal → ℕ → List ℕ → List ℕ
dealt_into d holder out = left (dealing d holder (length out)) (card d holder) out

-- the deal was made: some card of it was dealt
pub record Made (d : Deal) : Type 0 where
  pub holder : ℕ
  pub room : ℕ
  pub blocks : ℕ
  pub answer : dealing d holder room ≡ done blocks
