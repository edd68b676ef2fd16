-- The demands for cards that are added and renewed (SCOPE 10.1). A renewal adds a deal of zeros, made by the same policy, to a deal: block for
-- block, under a new number and year. Assumes nothing.
use Rattle.std.specs.Prelude.{ℕ, ◌≤◌, ◌≡◌, ◌≢◌, ◌⊎◌, List, [], ◌∷◌, ◌++◌, map, length, take, drop, replicate}
use Rattle.std.proofs.Common.{inl, inr}
use Rattle.lists.specs.Run.{run}
use Rattle.lists.specs.Some.{◌∈◌}
use Rattle.lists.specs.Flat.{flat}
use Rattle.prime.specs.Prime.{Below}
use Rattle.answer.specs.Outcome.{done, refused}
use Rattle.answer.specs.Lent.{no_room}
use Rattle.field.specs.Added.{added}
use Rattle.field.specs.Hiding.{Matched, Hidden, Gives}
use Rattle.block.specs.Deals.{bad_number, bad_year}
use Rattle.block.specs.Open.{unread, check, foreign, torn_block}
use Rattle.adding.specs.declared.Pair.{Pair}
use Rattle.adding.specs.Sum.{pair_of, pair_in, sum_of}
use Rattle.adding.specs.Adding.{unlike, repeated, add_lines, adding, sum_into}
use Rattle.dealing.specs.Deal.{Deal, deal_from, again, deal_pieces, held_by, block_of, card}
use Rattle.dealing.specs.Dealt.{Made}
use Rattle.pile.specs.Blocks.{blocks, rest_from, In}
use Rattle.joining.specs.Joined.{joining, joined_into}
use Rattle.joining.specs.Secret.{secret}
use Rattle.demands.specs.Demand1.{Ends, Refuses}
use Rattle.demands.specs.Group.{Group, Contains, Member, AtMostOne, CardsOf, gathered}
use Rattle.demands.specs.Demand3.{short_of, LentFor, card_from}

-- ---- demand 1: in its result or in a refusal, by the order of SCOPE 6.3, with no other refusal, and a refusal writes nothing
abbrev pub AddEnds : Type 0
AddEnds = (one two : List ℕ) (new : Pair) (room : ℕ)
    → Ends (add_lines one two new room) 1 (adding one two new room) × Refuses (add_lines one two new room) (adding one two new room)

-- Adding looks at block one, then at block two, then at both together, at the new number, the year and the pair of them, and
-- last at the room.
abbrev pub AddOrder : Type 0
AddOrder = (one two : List ℕ) (new : Pair) (room : ℕ) → add_lines one two new room
    ≡ torn_block one ∷ unread one 1 ∷ check one 1 ∷ foreign one 1
    ∷ torn_block two ∷ unread two 2 ∷ check two 2 ∷ foreign two 2
    ∷ unlike one two
    ∷ bad_number new.number ∷ bad_year new.year ∷ repeated one two new
    ∷ no_room 512 1 room
    ∷ []

abbrev pub AddKeeps : Type 0
AddKeeps = (one two : List ℕ) (new : Pair) (out : List ℕ) (m a b : ℕ) → adding one two new (length out) ≡ refused m a b → sum_into one two new out ≡ out

-- ---- piles added block for block
-- block a of a pile, its 512 bytes
abbrev pub block_at : List ℕ → ℕ → List ℕ
block_at pile a = take 512 (rest_from pile a)

-- two piles added block for block under one number and year: the sums in pile order
unfoldable pub sum_pile : List ℕ → List ℕ → Pair → List ℕ
sum_pile one two new = flat (map (λ a. sum_of (block_at one a) (block_at two a) new) (run (λ a. a) 1 (blocks one)))

-- Two piles that join, of as many blocks, added block for block under one number and year, every addition accepted: the sums join, to the
-- sum of the secrets, word by word.
abbrev pub SumJoins : Type 0
SumJoins = (one two : List ℕ) (new : Pair) (room w v : ℕ) → blocks one ≡ blocks two
    → ((a : ℕ) → In one a → adding (block_at one a) (block_at two a) new 512 ≡ done 1)
    → joining one room ≡ done w → joining two room ≡ done v
    → (joining (sum_pile one two new) room ≡ done w) × (secret (sum_pile one two new) ≡ added (secret one) (secret two))

-- No pile joins that has a block of a sum's number and year and a block of the number and year of one that was added.
abbrev pub OldAndNew : Type 0
OldAndNew = (one two : List ℕ) (new : Pair) (room : ℕ) → adding one two new room ≡ done 1
    → (pile : List ℕ) (a b : ℕ) → In pile a → In pile b
    → pair_in (rest_from pile a) ≡ new → (pair_in (rest_from pile b) ≡ pair_in one) ⊎ (pair_in (rest_from pile b) ≡ pair_in two)
    → (lent w : ℕ) → joining pile lent ≢ done w

-- ---- a renewal
-- d is a deal, z a deal of as many zeros by the same policy, both made, and the new number and year are neither's
pub record Renewal (d z : Deal) (new : Pair) : Type 0 where
  pub old : Made d
  pub zero : Made z
  pub policy : z.policy ≡ d.policy
  pub zeros : z.secret ≡ replicate (length d.secret) 0
  pub number_in_lem : (1 ≤ new.number) × (new.number ≤ 32748)
  pub year_in : new.year ≤ 32748
  pub unlike-old : new ≢ pair_of d.number d.year
  pub unlike-zero : new ≢ pair_of z.number z.year

-- the blocks of a holder's new card: those of the two cards added, block for block; and the card
unfoldable pub new_blocks : Deal → Deal → Pair → ℕ → List (List ℕ)
new_blocks d z new i = map (λ j. sum_of (block_of d i j) (block_of z i j) new) (held_by d i)

unfoldable pub new_card : Deal → Deal → Pair → ℕ → List ℕ
new_card d z new i = flat (new_blocks d z new i)

-- the deal of the same policy and secret, under the new number and year, with the two lists of randomness added
abbrev pub renewed : Deal → Deal → Pair → Deal
renewed d z new = deal_from d.policy new.number new.year d.secret (added d.random z.random)

-- Every two blocks are accepted, and the new cards are the cards of that deal, byte for byte; it could have been made.
abbrev pub RenewedCard : Type 0
RenewedCard = (d z : Deal) (new : Pair) → Renewal d z new
    → Made (renewed d z new)
    × ((i : ℕ) → 1 ≤ i → i ≤ d.policy.people
    → ((j : ℕ) → j ∈ held_by d i → adding (block_of d i j) (block_of z i j) new 512 ≡ done 1)
    × (new_card d z new i ≡ card (renewed d z new) i))

-- the pile is the whole new cards of the group's members: their blocks, one after another, in any order and repeated, up to 560
pub record WholeNew (d z : Deal) (new : Pair) (g : ℕ) (pile : List ℕ) : Type 0 where
  pub blocks : List (List ℕ)
  pub whole : CardsOf (new_blocks d z new) (Member d g) blocks
  pub bytes : pile ≡ flat blocks
  pub few : length blocks ≤ 560

-- ---- demand 3 for new cards: they open to the old secret; they are SHORT; nobody opens alone
abbrev pub RenewedOpens : Type 0
RenewedOpens = (d z : Deal) (new : Pair) → Renewal d z new → (g : ℕ) → Group d g → Contains d g
    → (pile : List ℕ) → WholeNew d z new g pile
    → (out : List ℕ) → length d.secret ≤ length out
    → (joining pile (length out) ≡ done (length d.secret))
    × (joined_into pile out ≡ d.secret ++ drop (length d.secret) out)

abbrev pub RenewedShort : Type 0
RenewedShort = (d z : Deal) (new : Pair) → Renewal d z new → (g : ℕ) → Group d g → ¬ Contains d g
    → (pile : List ℕ) → WholeNew d z new g pile
    → (out : List ℕ)
    → (joining pile (length out) ≡ short_of (length (gathered d g)) (deal_pieces d))
    × (joined_into pile out ≡ out)

abbrev pub RenewedAlone : Type 0
RenewedAlone = (d z : Deal) (new : Pair) → Renewal d z new → (g : ℕ) → Group d g → AtMostOne d g
    → (pile : List ℕ) → WholeNew d z new g pile
    → (out : List ℕ)
    → (joining pile (length out) ≡ short_of (length (gathered d g)) (deal_pieces d))
    × (joined_into pile out ≡ out)

-- ---- demand 3 grows: one group shows its old cards, another its new ones
-- the randomness of a renewal: that of the deal, where this secret is dealt, and that of the deal of zeros
abbrev pub Lent : Deal → List ℕ → List ℕ × List ℕ → Type 0
Lent d secret r = LentFor d secret r.0 × LentFor d (replicate (length secret) 0) r.1

-- what is seen where this secret is dealt and renewed with that randomness, the deal of zeros under the number and year of z: of the first group the old
-- cards, of the second the new ones. The cards of the deal of zeros nobody sees.
abbrev pub seen : Deal → Deal → Pair → List ℕ → List ℕ × List ℕ → ℕ ⊎ ℕ → List ℕ
seen d z new secret r (inl i) = card_from d secret r.0 i
seen d z new secret r (inr i) = new_card (again d secret r.0) (again z (replicate (length secret) 0) r.1) new i

-- who sees: the members of the one group, and those of the other
abbrev pub Sees : Deal → ℕ → ℕ → ℕ ⊎ ℕ → Type 0
Sees d g h (inl i) = Member d g i
Sees d g h (inr i) = Member d h i

-- With the old cards of one group without a required set and the new cards of another, every other secret of as many words has pairs of old and
-- zero-deal randomness that answer to those of the dealt one, one to one, so that all these cards are the same.
abbrev pub RenewalHides : Type 0
RenewalHides = (d z : Deal) (new : Pair) → Renewal d z new → (g h : ℕ) → Group d g → ¬ Contains d g → Group d h → ¬ Contains d h
    → (other : List ℕ) → length other ≡ length d.secret → Below other
    → Hidden (Lent d d.secret) (Lent d other) (seen d z new d.secret) (seen d z new other) (Sees d g h)

-- So whatever cards c they see, each of the two secrets has equally many pairs of randomness that give them.
abbrev pub RenewalFavoursNone : Type 0
RenewalFavoursNone = (d z : Deal) (new : Pair) → Renewal d z new → (g h : ℕ) → Group d g → ¬ Contains d g → Group d h → ¬ Contains d h
    → (other : List ℕ) → length other ≡ length d.secret → Below other
    → (c : ℕ ⊎ ℕ → List ℕ)
    → Matched (Gives (Lent d d.secret) (seen d z new d.secret) (Sees d g h) c) (Gives (Lent d other) (seen d z new other) (Sees d g h) c)
