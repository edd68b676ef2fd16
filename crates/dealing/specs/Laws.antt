-- The laws that dealing owes; their proofs are in proofs/Laws.antt.
-- Assumes nothing.
use Rattle.std.specs.Prelude.{ℕ, ◌+◌, ◌-◌, ◌*◌, ◌≤◌, ◌<◌, ◌≡◌, Bool, false, List, ◌++◌, map, ◌≢◌, ◌⊎◌, length, drop}
use Rattle.lists.specs.Run.{run}
use Rattle.lists.specs.Flat.{flat}
use Rattle.answer.specs.declared.Kind.TheVariants.{Secret, Random, Room}
use Rattle.answer.specs.Outcome.{done, refused, number}
use Rattle.lists.specs.Places.{at}
use Rattle.lists.specs.Laws.{IsFirst}
use Rattle.prime.specs.Prime.{too_large}
use Rattle.lists.specs.Some.{◌∈◌}
use Rattle.block.specs.Words.{bytes_of}
use Rattle.block.specs.Layout.{held_at}
use Rattle.block.specs.Earlier.{former_bytes}
use Rattle.block.specs.Open.{opening, value_bytes, TrueBlock}
use Rattle.dealing.specs.Deal.{Deal, asked_of, deal_pieces, held_by, piece_values, label, block_of, card}
use Rattle.dealing.specs.Dealt.{Made, block_count, dealing, dealt_into}

-- SCOPE 4: deals that agree in policy, deal number, year, holder, and in the pieces that this holder has, agree in this card. (Of the policy,
-- only n and the required list count.)
abbrev pub CardDepends : Type 0
CardDepends = (d d' : Deal) (holder : ℕ)
    → asked_of d holder ≡ asked_of d' holder
    → d.policy.required ≡ d'.policy.required
    → ((j : ℕ) → j ∈ held_by d holder → piece_values d j ≡ piece_values d' j)
    → card d holder ≡ card d' holder

-- A card is byte for byte the card of the former layout; under year 0, of the layout before there was one.
abbrev pub EarlierCards : Type 0
EarlierCards = (dated : Bool) (d : Deal) (holder : ℕ) → (dated ≡ false → d.year ≡ 0) → length d.secret ≤ 16
    → card d holder ≡ flat (map (λ j. former_bytes dated (label d holder j) (piece_values d j)) (held_by d holder))

-- Every block of a card is true, and opens to its words and values.
abbrev pub BlocksOpen : Type 0
BlocksOpen = (d : Deal) → Made d → (holder j : ℕ) → 1 ≤ holder → holder ≤ d.policy.people → j ∈ held_by d holder → (rest : List ℕ)
    → TrueBlock (block_of d holder j ++ rest)
    × (opening (block_of d holder j ++ rest) ≡ done (run (held_at (label d holder j) (piece_values d j)) 1 7))
    × (value_bytes (block_of d holder j ++ rest) ≡ bytes_of (piece_values d j))

-- SCOPE 4: for each piece that the holder has, the card has a block, of 512 bytes.
abbrev pub CardLength : Type 0
CardLength = (d : Deal) (holder : ℕ) → length (card d holder) ≡ 512 * block_count d holder

-- No card has over 35 blocks (SCOPE 2.2).
abbrev pub FewBlocks : Type 0
FewBlocks = (d : Deal) → Made d → (holder : ℕ) → 1 ≤ holder → holder ≤ d.policy.people → block_count d holder ≤ 35

-- A deal of which one card was dealt can deal every card: only the room is left to check.
abbrev pub DealsAll : Type 0
DealsAll = (d : Deal) → Made d → (holder : ℕ) → 1 ≤ holder → holder ≤ d.policy.people → (room : ℕ) → 512 * block_count d holder ≤ room
    → dealing d holder room ≡ done (block_count d holder)

-- SCOPE 6.4: refused, dealing leaves what was lent as before.
abbrev pub RefusalKeeps : Type 0
RefusalKeeps = (d : Deal) (holder : ℕ) (out : List ℕ) (m a b : ℕ) → dealing d holder (length out) ≡ refused m a b → dealt_into d holder out ≡ out

-- SCOPE 6.4: after a result, 512 bytes for each block stand at the front, and they are the card; what lies behind is as before.
abbrev pub ResultWrites : Type 0
ResultWrites = (d : Deal) (holder : ℕ) (out : List ℕ) (blocks : ℕ) → dealing d holder (length out) ≡ done blocks
    → (blocks ≡ block_count d holder)
    × (length (card d holder) ≡ 512 * blocks)
    × (512 * blocks ≤ length out)
    × (dealt_into d holder out ≡ card d holder ++ drop (512 * blocks) out)

-- ---- at which places dealing refuses
-- a is the first place of a word above 32748
abbrev pub LargeFirst : List ℕ → ℕ → Type 0
LargeFirst words a = IsFirst (λ i. too_large (at words i)) 1 (length words + 1) a

-- SECRET: a is 0 where w is not 1 to 16, and only there; else it is the first word that is too large. b is 0.
abbrev pub SecretPlaces : Type 0
SecretPlaces = (d : Deal) (holder room a b : ℕ) → dealing d holder room ≡ refused (number Secret) a b
    → (((a ≡ 0) × (1 ≤ length d.secret → length d.secret ≤ 16 → ⊥))
    ⊎ ((1 ≤ length d.secret) × (length d.secret ≤ 16) × LargeFirst d.secret a))
    × (b ≡ 0)

-- RANDOM: a is 0 where there are not k − 1 words for each word of the secret, and only there; else it is the first that is too large. b is 0.
abbrev pub RandomPlaces : Type 0
RandomPlaces = (d : Deal) (holder room a b : ℕ) → dealing d holder room ≡ refused (number Random) a b
    → (((a ≡ 0) × (length d.random ≢ length d.secret * (deal_pieces d - 1)))
    ⊎ ((length d.random ≡ length d.secret * (deal_pieces d - 1)) × LargeFirst d.random a))
    × (b ≡ 0)

-- ROOM: a is the number of blocks of the card, for which the lent output is too short; b is 0.
abbrev pub RoomPlaces : Type 0
RoomPlaces = (d : Deal) (holder room a b : ℕ) → dealing d holder room ≡ refused (number Room) a b
    → (a ≡ block_count d holder) × (room < 512 * a) × (b ≡ 0)
