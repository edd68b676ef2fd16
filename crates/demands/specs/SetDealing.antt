-- Demand 1 of dealing by sets (SCOPE 10.1): it ends in its result or in the first refusal that applies, with no other number, and gives a result
-- only where no word of the secret and of the randomness is above 32748. That a refusal writes nothing is bysets' SetRefusalKeeps. Assumes nothing.
use Rattle.std.specs.Prelude.{ℕ, ◌*◌, ◌≡◌, [], ◌∷◌, ◌++◌}
use Rattle.answer.specs.Outcome.{done, refused}
use Rattle.answer.specs.Lent.{no_room}
use Rattle.prime.specs.Prime.{Below}
use Rattle.planning.specs.Planned.{plan_lines, planned}
use Rattle.block.specs.Deals.{bad_number, bad_year}
use Rattle.dealing.specs.Deal.{Deal}
use Rattle.dealing.specs.Dealt.{bad_holder, bad_width, bad_secret, bad_count, bad_random}
use Rattle.bysets.specs.Dealt.{set_coefficients, set_block_count, set_deal_lines, set_dealing}
use Rattle.demands.specs.Demand1.{Ends, Refuses, NotSeven}

abbrev pub SetDealEnds : Type 0
SetDealEnds = (d : Deal) (holder room : ℕ) → Ends (set_deal_lines d holder room) (set_block_count d holder) (set_dealing d holder room)

-- The order is dealing's; the words of randomness are counted over all sets, the blocks are those of this card.
abbrev pub SetDealOrder : Type 0
SetDealOrder = (d : Deal) (holder room : ℕ) → set_deal_lines d holder room
    ≡ plan_lines d.policy
    ++ bad_number d.number
    ∷ bad_year d.year
    ∷ bad_holder d.policy.people holder
    ∷ bad_width d.secret ∷ bad_secret d.secret
    ∷ bad_count (set_coefficients d) d.secret d.random ∷ bad_random d.random
    ∷ no_room (512 * set_block_count d holder) (set_block_count d holder) room
    ∷ []

abbrev pub SetDealRefuses : Type 0
SetDealRefuses = (d : Deal) (holder room : ℕ) → Refuses (set_deal_lines d holder room) (set_dealing d holder room) × NotSeven (set_dealing d holder room)

-- What planning refuses, dealing by sets refuses, with the same number and places.
abbrev pub SetDealAsPlanned : Type 0
SetDealAsPlanned = (d : Deal) (holder room m a b : ℕ) → planned d.policy ≡ refused m a b → set_dealing d holder room ≡ refused m a b

abbrev pub SetDealSmall : Type 0
SetDealSmall = (d : Deal) (holder room blocks : ℕ) → set_dealing d holder room ≡ done blocks → Below d.secret × Below d.random
