-- The laws that dealing by sets owes; their proofs are in proofs/Laws.antt.
-- Assumes nothing.
use Rattle.std.specs.Prelude.{ℕ, ◌+◌, ◌-◌, ◌*◌, ◌≤◌, ◌<◌, ◌≡◌, true, ◌↔◌, List, ◌++◌, length, get_or, take, drop}
use Rattle.lists.specs.Run.{run}
use Rattle.lists.specs.Places.{at}
use Rattle.lists.specs.Some.{◌∈◌}
use Rattle.answer.specs.Outcome.{done, refused}
use Rattle.field.specs.Poly.{piece}
use Rattle.field.specs.Joined.{joined}
use Rattle.field.specs.Parts.{part_of, RandomAll}
use Rattle.planning.specs.Sets.{member, member_count}
use Rattle.planning.specs.Groups.{authorised}
use Rattle.minimal.specs.Minimal.{number_in}
use Rattle.block.specs.Words.{word_at, bytes_of, check_of}
use Rattle.block.specs.Layout.{held_at}
use Rattle.block.specs.Open.{opening, value_bytes, TrueBlock}
use Rattle.dealing.specs.Deal.{Deal, again, asked_of}
use Rattle.bysets.specs.Cards.{sizes, sets_of, set_at, sets_held, set_values, own_values, set_label, set_block, set_card}
use Rattle.bysets.specs.Dealt.{set_block_count, set_dealing, set_dealt_into, SetMade}

-- ---- who holds what
-- A person has a block of set s exactly where the person is in that set; the blocks rise by the places of the sets.
abbrev pub WhoHoldsSets : Type 0
WhoHoldsSets = (d : Deal) (i : ℕ)
    → ((s : ℕ) → (s ∈ sets_held d i) ↔ ((1 ≤ s) × (s ≤ length (sets_of d)) × (member i (set_at d s) ≡ true)))
    × ((a b : ℕ) → 1 ≤ a → a < b → b ≤ length (sets_held d i) → at (sets_held d i) a < at (sets_held d i) b)

-- Piece j of set s is held by the set's j-th member alone: one person has it, who has j − 1 members of the set before, and nobody else.
abbrev pub SetPieceHolder : Type 0
SetPieceHolder = (d : Deal) → SetMade d → (s : ℕ) → 1 ≤ s → s ≤ length (sets_of d) → (j : ℕ) → 1 ≤ j → j ≤ member_count (set_at d s)
    → (i : ℕ) × (1 ≤ i) × (i ≤ d.policy.people) × (s ∈ sets_held d i) × (number_in (set_at d s) i ≡ j)
    × ((k : ℕ) → 1 ≤ k → s ∈ sets_held d k → number_in (set_at d s) k ≡ j → k ≡ i)

-- ---- cards
-- Deals that agree in what is asked, in the required list, and in the values of the pieces that this holder has, agree in this card.
abbrev pub SetCardDepends : Type 0
SetCardDepends = (d d' : Deal) (holder : ℕ)
    → asked_of d holder ≡ asked_of d' holder
    → d.policy.required ≡ d'.policy.required
    → ((s : ℕ) → s ∈ sets_held d holder → own_values d holder s ≡ own_values d' holder s)
    → set_card d holder ≡ set_card d' holder

-- For each set that has the holder, the card has a block, of 512 bytes.
abbrev pub SetCardLength : Type 0
SetCardLength = (d : Deal) (holder : ℕ) → length (set_card d holder) ≡ 512 * set_block_count d holder

-- No card has over 35 blocks, and there are 70 sets at most.
abbrev pub FewSetBlocks : Type 0
FewSetBlocks = (d : Deal) → SetMade d → (length (sets_of d) ≤ 70) × ((holder : ℕ) → 1 ≤ holder → holder ≤ d.policy.people → set_block_count d holder ≤ 35)

-- Every block of a card is true, and opens to its words and values.
abbrev pub SetBlocksOpen : Type 0
SetBlocksOpen = (d : Deal) → SetMade d → (holder s : ℕ) → 1 ≤ holder → holder ≤ d.policy.people → s ∈ sets_held d holder → (rest : List ℕ)
    → TrueBlock (set_block d holder s ++ rest)
    × (opening (set_block d holder s ++ rest) ≡ done (run (held_at (set_label d holder s) (own_values d holder s)) 1 7))
    × (value_bytes (set_block d holder s ++ rest) ≡ bytes_of (own_values d holder s))

-- A deal of which one card was dealt can deal every card: only the room is left to check.
abbrev pub SetDealsAll : Type 0
SetDealsAll = (d : Deal) → SetMade d → (holder : ℕ) → 1 ≤ holder → holder ≤ d.policy.people → (room : ℕ) → 512 * set_block_count d holder ≤ room
    → set_dealing d holder room ≡ done (set_block_count d holder)

-- Refused, dealing leaves what was lent as before.
abbrev pub SetRefusalKeeps : Type 0
SetRefusalKeeps = (d : Deal) (holder : ℕ) (out : List ℕ) (m a b : ℕ) → set_dealing d holder (length out) ≡ refused m a b → set_dealt_into d holder out ≡ out

-- After a result, 512 bytes for each block stand at the front, and they are the card; what lies behind is as before.
abbrev pub SetResultWrites : Type 0
SetResultWrites = (d : Deal) (holder : ℕ) (out : List ℕ) (blocks : ℕ) → set_dealing d holder (length out) ≡ done blocks
    → (blocks ≡ set_block_count d holder)
    × (length (set_card d holder) ≡ 512 * blocks)
    × (512 * blocks ≤ length out)
    × (set_dealt_into d holder out ≡ set_card d holder ++ drop (512 * blocks) out)

-- ---- the bytes of cards
-- the coefficients of word i in set s, one fewer than its members: set s's part of the randomness lies behind the parts of the sets before it, and
-- in the part those of word i behind those of the words before it
abbrev pub coefficients_in : Deal → ℕ → ℕ → List ℕ
coefficients_in d s i =
    let q = member_count (set_at d s) - 1 in
    take q (drop ((i - 1) * q) (part_of (length d.secret) (sizes (sets_of d)) d.random s))

-- the holder's block of set s, at the front of b: each of words 1 to 255 is what the table of the layout has there for that block's label and
-- values; each value is the polynomial's at the holder's piece; and the last word is the check of the others
pub record SetCardBlock (d : Deal) (holder s : ℕ) (b : List ℕ) : Type 0 where
  pub words : (i : ℕ) → 1 ≤ i → i ≤ 255 → word_at b i ≡ held_at (set_label d holder s) (own_values d holder s) i
  pub value : (i : ℕ) → 1 ≤ i → i ≤ length d.secret
      → word_at b (7 + i) ≡ piece (at d.secret i) (coefficients_in d s i) (number_in (set_at d s) holder)
  pub check : word_at b 256 ≡ check_of b

-- That leaves no word open: two such blocks agree in all 256 words.
abbrev pub OneSetBlock : Type 0
OneSetBlock = (d : Deal) (holder s : ℕ) (b c : List ℕ) → SetCardBlock d holder s b → SetCardBlock d holder s c
    → (i : ℕ) → 1 ≤ i → i ≤ 256 → word_at b i ≡ word_at c i

-- A card is the blocks of the sets that have its holder, the lowest place first. Dealing writes it, and nothing else, over the front of the lent
-- output.
abbrev pub EverySetByte : Type 0
EverySetByte = (d : Deal) (holder : ℕ) (out : List ℕ) (blocks : ℕ) → set_dealing d holder (length out) ≡ done blocks
    → (blocks ≡ length (sets_held d holder))
    × (length (set_card d holder) ≡ 512 * blocks)
    × ((a : ℕ) → 1 ≤ a → a ≤ blocks → SetCardBlock d holder (at (sets_held d holder) a) (drop (512 * (a - 1)) (set_card d holder)))
    × (set_dealt_into d holder out ≡ set_card d holder ++ drop (512 * blocks) out)

-- ---- what opens, and what a card is where another secret is dealt; that a group without a required set learns nothing is said in demands
-- i is one of the deal's people, and in the group g
abbrev pub InGroup : Deal → ℕ → ℕ → Type 0
InGroup d g i = (1 ≤ i) × (i ≤ d.policy.people) × (member i g ≡ true)

-- the randomness that dealing can be lent for this secret, by the deal's policy: all lists of as many words as all sets together take
abbrev pub SetsLent : Deal → List ℕ → List ℕ → Type 0
SetsLent d secret = RandomAll (length secret) (sizes (sets_of d))

-- a holder's card, where this secret is dealt with that randomness, by the deal's policy and under its number
abbrev pub set_card_from : Deal → List ℕ → List ℕ → ℕ → List ℕ
set_card_from d secret random i = set_card (again d secret random) i

-- All pieces of one set, whichever, give the secret: word i of it from the values i.
abbrev pub SetGives : Type 0
SetGives = (d : Deal) → SetMade d → (s : ℕ) → 1 ≤ s → s ≤ length (sets_of d) → (i : ℕ) → 1 ≤ i → i ≤ length d.secret
    → joined (run (λ j. get_or (set_values d s j) (i - 1) 0) 1 (member_count (set_at d s))) ≡ get_or d.secret (i - 1) 0

-- And a group contains a required set exactly where its members together hold all pieces of some set.
abbrev pub SetsGive : Type 0
SetsGive = (d : Deal) → SetMade d → (g : ℕ)
    → (authorised d.policy.required g ≡ true)
    ↔ ((s : ℕ) × (1 ≤ s) × (s ≤ length (sets_of d))
    × ((j : ℕ) → 1 ≤ j → j ≤ member_count (set_at d s) → (i : ℕ) × InGroup d g i × (s ∈ sets_held d i) × (number_in (set_at d s) i ≡ j)))
