-- The laws that this room owes; their proofs are in proofs/Laws.antt.
-- Assumes nothing.
use Rattle.std.specs.Prelude.{ℕ, ◌-◌, ◌*◌, ◌≡◌, not, ◌≢◌, ◌↔◌, ◌⊎◌, List, [], ◌∷◌, ◌++◌, eqb, length}
use Rattle.lists.specs.Laws.{IsFirst}
use Rattle.answer.specs.declared.Kind.TheVariants.{Secret, NotKey}
use Rattle.answer.specs.Outcome.{done, refused, number}
use Rattle.answer.specs.Checks.{line, first_fail}
use Rattle.answer.specs.Lent.{no_room}
use Rattle.packing.specs.Key.{KeyWords, wrong_at}
use Rattle.planning.specs.Policy.{Policy}
use Rattle.planning.specs.Planned.{plan_lines}
use Rattle.dealing.specs.Deal.{deal_pieces}
use Rattle.block.specs.Deals.{bad_number, bad_year}
use Rattle.dealing.specs.Dealt.{bad_holder, bad_count, bad_random, block_count, dealing}
use Rattle.joining.specs.Pile.{own_width}
use Rattle.joining.specs.Joined.{joining}
use Rattle.joining.specs.Secret.{secret}
use Rattle.key.specs.Dealt.{key_secret, key_deal}
use Rattle.key.specs.Joined.{joining_key}

-- Dealing a key looks at what dealing does, in its order; of the key only whether there are 16 bytes.
abbrev pub KeyDealOrder : Type 0
KeyDealOrder = (policy : Policy) (deal year : ℕ) (key random : List ℕ) (holder room : ℕ)
    → let d = key_deal policy deal year key random in
    dealing d holder room
    ≡ first_fail
    (plan_lines policy
    ++ bad_number deal
    ∷ bad_year year
    ∷ bad_holder policy.people holder
    ∷ line Secret (not (eqb (length key) 16)) 0 0
    ∷ bad_count (deal_pieces d - 1) (key_secret key) random ∷ bad_random random
    ∷ no_room (512 * block_count d holder) (block_count d holder) room
    ∷ [])
    (done (block_count d holder))

-- Joining to a key gives NOTKEY exactly for a pile that joins, to words that are no key's.
abbrev pub NotKeyExactly : Type 0
NotKeyExactly = (pile : List ℕ) (room : ℕ)
    → ((a : ℕ) × (b : ℕ) × (joining_key pile room ≡ refused (number NotKey) a b))
    ↔ ((joining pile 16 ≡ done (own_width pile)) × ¬ KeyWords (secret pile))

-- Its places: 0 where there are not ten words, else the first word that is too large; and 0.
abbrev pub NotKeyPlaces : Type 0
NotKeyPlaces = (pile : List ℕ) (room a b : ℕ) → joining_key pile room ≡ refused (number NotKey) a b
    → (((length (secret pile) ≢ 10) × (a ≡ 0)) ⊎ ((length (secret pile) ≡ 10) × IsFirst (wrong_at (secret pile)) 1 11 a))
    × (b ≡ 0)
