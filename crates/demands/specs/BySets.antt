-- Demand 3 of deals by sets (SCOPE 2.3 and 10.1): the statements of the first scheme, over the cards by sets. A pile is the whole cards of a
-- group's members, of one deal by sets, the blocks in any order and repeated at will, up to 560 of them. Assumes nothing.
use Rattle.std.specs.Prelude.{ℕ, ◌*◌, ◌≤◌, ◌≡◌, List, ◌++◌, map, length, drop}
use Rattle.answer.specs.Outcome.{done, refused}
use Rattle.lists.specs.Some.{◌∈◌}
use Rattle.lists.specs.Flat.{flat}
use Rattle.prime.specs.Prime.{Below}
use Rattle.field.specs.Hiding.{Matched, Hidden, Gives}
use Rattle.dealing.specs.Deal.{Deal, again}
use Rattle.bysets.specs.Cards.{set_blocks, set_card}
use Rattle.bysets.specs.Dealt.{SetMade, set_dealing, set_dealt_into}
use Rattle.bysets.specs.Laws.{SetsLent, set_card_from}
use Rattle.joining.specs.Joined.{joining, joined_into}
use Rattle.demands.specs.Group.{Group, Contains, Member, AtMostOne, PileOf, members}

-- the pile is the whole cards by sets of the group's members
abbrev pub SetCards : Deal → ℕ → List ℕ → Type 0
SetCards d g = PileOf (set_blocks d) (Member d g)

-- If the group is authorised, the pile joins to the dealt secret, where there is room for it.
abbrev pub SetsOpen : Type 0
SetsOpen = (d : Deal) → SetMade d → (g : ℕ) → Group d g → Contains d g
    → (pile : List ℕ) → SetCards d g pile
    → (out : List ℕ) → length d.secret ≤ length out
    → (joining pile (length out) ≡ done (length d.secret))
    × (joined_into pile out ≡ d.secret ++ drop (length d.secret) out)

-- the pile is SHORT with 0 and 0, whatever the room, and joining leaves the lent output as it was
abbrev pub SetsLack : List ℕ → Type 0
SetsLack pile = (out : List ℕ) → (joining pile (length out) ≡ refused 20 0 0) × (joined_into pile out ≡ out)

-- If not, it is SHORT.
abbrev pub SetsShort : Type 0
SetsShort = (d : Deal) → SetMade d → (g : ℕ) → Group d g → ¬ Contains d g → (pile : List ℕ) → SetCards d g pile → SetsLack pile

-- Nobody opens alone, whatever the deal's policy.
abbrev pub SetsNobodyAlone : Type 0
SetsNobodyAlone = (d : Deal) → SetMade d → (g : ℕ) → Group d g → AtMostOne d g → (pile : List ℕ) → SetCards d g pile → SetsLack pile

-- The randomness of the deal's secret and that of another, in pairs, one to one, so that each member has the same card.
abbrev pub SetsHiddenFrom : Deal → ℕ → List ℕ → Type 0
SetsHiddenFrom d g other = Hidden (SetsLent d d.secret) (SetsLent d other) (set_card_from d d.secret) (set_card_from d other) (Member d g)

-- Any other secret with as many words could have been dealt so that each member has the same card.
abbrev pub SetsHide : Type 0
SetsHide = (d : Deal) → SetMade d → (g : ℕ) → Group d g → ¬ Contains d g → (other : List ℕ) → length other ≡ length d.secret
    → SetsHiddenFrom d g other

-- Nor does dealing itself tell the two of a pair apart, where the other secret is in range.
abbrev pub SetsDealAlike : Type 0
SetsDealAlike = (d : Deal) → SetMade d → (g : ℕ) (other : List ℕ) → length other ≡ length d.secret → (hidden : SetsHiddenFrom d g other)
    → Below other → (random : List ℕ) → SetsLent d d.secret random → (i : ℕ) → Member d g i → (out : List ℕ)
    → (set_dealing (again d other (hidden.pairs.there random)) i (length out) ≡ set_dealing (again d d.secret random) i (length out))
    × (set_dealt_into (again d other (hidden.pairs.there random)) i out ≡ set_dealt_into (again d d.secret random) i out)

-- Of this deal in particular: any other secret with as many words has randomness by which each member has the card of this deal.
abbrev pub SetsOtherRandomness : Type 0
SetsOtherRandomness = (d : Deal) → SetMade d → (g : ℕ) → Group d g → ¬ Contains d g → (other : List ℕ) → length other ≡ length d.secret
    → (random : List ℕ) × SetsLent d other random × ((i : ℕ) → Member d g i → set_card_from d other random i ≡ set_card d i)

-- the randomness under which the secret gives each member i the card c i
abbrev pub GivesSetCards : Deal → ℕ → (ℕ → List ℕ) → List ℕ → List ℕ → Type 0
GivesSetCards d g c secret = Gives (SetsLent d secret) (set_card_from d secret) (Member d g) c

-- So, if the randomness is even, cards make no secret likelier: whatever the cards of the members are, the lists that give them from the one secret
-- and those that give them from the other stand in pairs.
abbrev pub SetsFavourNone : Type 0
SetsFavourNone = (d : Deal) → SetMade d → (g : ℕ) → Group d g → ¬ Contains d g → (other : List ℕ) → length other ≡ length d.secret
    → (c : ℕ → List ℕ) → Matched (GivesSetCards d g c d.secret) (GivesSetCards d g c other)

-- the cards by sets of these holders, one after another
unfoldable pub set_cards : Deal → List ℕ → List ℕ
set_cards d holders = flat (map (set_card d) holders)

-- Cards laid one after another, each member's at least once and nobody else's, at most 560 blocks, are such a pile.
abbrev pub SetsInARow : Type 0
SetsInARow = (d : Deal) → SetMade d → (g : ℕ) (holders : List ℕ)
    → ((i : ℕ) → i ∈ holders → Member d g i)
    → ((i : ℕ) → Member d g i → i ∈ holders)
    → length (set_cards d holders) ≤ 512 * 560
    → SetCards d g (set_cards d holders)

-- Each member's card once is always such a pile: no deal by sets has more than 560 blocks.
abbrev pub SetsOnceEach : Type 0
SetsOnceEach = (d : Deal) → SetMade d → (g : ℕ) → SetCards d g (set_cards d (members d g))
