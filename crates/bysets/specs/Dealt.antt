-- What dealing by the required sets answers and writes (SCOPE 6): the first scheme's refusals in the same order; 11 RANDOM counts the words of
-- all sets, and 12 ROOM the blocks of this card. Assumes nothing.
use Rattle.std.specs.Prelude.{ℕ, ◌≡◌, List, ◌++◌, length}
use Rattle.answer.specs.Outcome.{Outcome, done}
use Rattle.answer.specs.Checks.{Line, first_fail}
use Rattle.answer.specs.Lent.{left}
use Rattle.field.specs.Parts.{coefficients}
use Rattle.planning.specs.Planned.{plan_lines}
use Rattle.dealing.specs.Deal.{Deal, asked_of}
use Rattle.dealing.specs.Dealt.{card_lines}
use Rattle.bysets.specs.Cards.{sizes, sets_of, sets_held, set_card}

-- the coefficients that each word of the secret wants in all sets
abbrev pub set_coefficients : Deal → ℕ
set_coefficients d = coefficients (sizes (sets_of d))

-- how many blocks the holder's card has
unfoldable pub set_block_count : Deal → ℕ → ℕ
set_block_count d holder = length (sets_held d holder)

-- planning's, then 8, 25 and 9 to 12, in their order: for one holder's card into a lent output of so many bytes
unfoldable pub set_deal_lines : Deal → ℕ → ℕ → List Line
set_deal_lines d holder room =
    plan_lines d.policy ++ card_lines (asked_of d holder) (set_coefficients d) d.secret d.random (set_block_count d holder) room

-- what dealing by the sets answers: the first refusal that is given, or how many blocks the card has
unfoldable pub set_dealing : Deal → ℕ → ℕ → Outcome ℕ
set_dealing d holder room = first_fail (set_deal_lines d holder room) (done (set_block_count d holder))

-- what the lent output holds then: the card over its front, or, refused, what it held
unfoldable pub set_dealt_into : Deal → ℕ → List ℕ → List ℕ
set_dealt_into d holder out = left (set_dealing d holder (length out)) (set_card d holder) out

-- the deal was made by sets: some card of it was dealt
pub record SetMade (d : Deal) : Type 0 where
  pub holder : ℕ
  pub room : ℕ
  pub blocks : ℕ
  pub answer : set_dealing d holder room ≡ done blocks
