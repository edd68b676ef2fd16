-- Demand 3 (SCOPE 10.1): a pile is the whole cards of a group's members, of one deal, the blocks in any order and repeated at will, up to
-- 560 of them. One deal is one of which some card was dealt (`Made`). Assumes nothing.
use Rattle.std.specs.Prelude.{ℕ, zero, suc, ◌*◌, ◌≤◌, ◌≡◌, List, ◌++◌, length, drop}
use Rattle.answer.specs.Outcome.{Outcome, done, refused}
use Rattle.prime.specs.Prime.{Below}
use Rattle.field.specs.Hiding.{Matched, Hidden, Gives}
use Rattle.field.specs.Pieces.{Random}
use Rattle.lists.specs.Some.{◌∈◌}
use Rattle.dealing.specs.Deal.{Deal, again, deal_pieces, card}
use Rattle.dealing.specs.Dealt.{Made, dealing, dealt_into}
use Rattle.joining.specs.Joined.{joining, joined_into}
use Rattle.demands.specs.Group.{Group, Contains, Member, AtMostOne, WholeCards, cards, members, gathered}

-- If the group is authorised, the pile joins to the dealt secret, where there is room for it: the answer is w, and the secret stands in the
-- first w words of the lent output, whose rest is as it was.
abbrev pub Opens : Type 0
Opens = (d : Deal) → Made d → (g : ℕ) → Group d g → Contains d g
    → (pile : List ℕ) → WholeCards d g pile
    → (out : List ℕ) → length d.secret ≤ length out
    → (joining pile (length out) ≡ done (length d.secret))
    × (joined_into pile out ≡ d.secret ++ drop (length d.secret) out)

-- SHORT of c different pieces out of k; a group that holds none has cards without a byte, and a pile without a block gets 0 and 0
abbrev pub short_of : ℕ → ℕ → Outcome ℕ
short_of zero k = refused 20 0 0
short_of (suc c) k = refused 20 (suc c) k

-- If not, it is SHORT, with how many different pieces the group holds, and k; whatever the room. The lent output is as it was.
abbrev pub Short : Type 0
Short = (d : Deal) → Made d → (g : ℕ) → Group d g → ¬ Contains d g
    → (pile : List ℕ) → WholeCards d g pile
    → (out : List ℕ)
    → (joining pile (length out) ≡ short_of (length (gathered d g)) (deal_pieces d))
    × (joined_into pile out ≡ out)

-- Nobody opens alone: the cards of a group of one person at most, whoever that is, are SHORT, whatever the deal's policy.
abbrev pub NobodyAlone : Type 0
NobodyAlone = (d : Deal) → Made d → (g : ℕ) → Group d g → AtMostOne d g
    → (pile : List ℕ) → WholeCards d g pile
    → (out : List ℕ)
    → (joining pile (length out) ≡ short_of (length (gathered d g)) (deal_pieces d))
    × (joined_into pile out ≡ out)

-- the randomness that dealing can be lent for this secret, by the deal's policy
abbrev pub LentFor : Deal → List ℕ → List ℕ → Type 0
LentFor d secret = Random (length secret) (deal_pieces d)

-- a holder's card, where this secret is dealt with that randomness, by the deal's policy and under its number
abbrev pub card_from : Deal → List ℕ → List ℕ → ℕ → List ℕ
card_from d secret random i = card (again d secret random) i

-- The randomness of the deal's secret and that of another, in pairs, one to one (a map and its inverse, on both sides; each keeps the count
-- and the range), so that each member has the same card.
abbrev pub HiddenFrom : Deal → ℕ → List ℕ → Type 0
HiddenFrom d g other = Hidden (LentFor d d.secret) (LentFor d other) (card_from d d.secret) (card_from d other) (Member d g)

-- And any other secret with as many words could have been dealt so that each member has the same card, by randomness that answers to the
-- dealt one, one to one.
abbrev pub Hides : Type 0
Hides = (d : Deal) → Made d → (g : ℕ) → Group d g → ¬ Contains d g → (other : List ℕ) → length other ≡ length d.secret → HiddenFrom d g other

-- Nor does dealing itself tell the two of a pair apart, where the other secret is in range: under any such pairing it answers the same for
-- each member, and leaves the same bytes in what it was lent.
abbrev pub DealsAlike : Type 0
DealsAlike = (d : Deal) → Made d → (g : ℕ) (other : List ℕ) → length other ≡ length d.secret → (hidden : HiddenFrom d g other)
    → Below other → (random : List ℕ) → LentFor d d.secret random → (i : ℕ) → Member d g i → (out : List ℕ)
    → (dealing (again d other (hidden.pairs.there random)) i (length out) ≡ dealing (again d d.secret random) i (length out))
    × (dealt_into (again d other (hidden.pairs.there random)) i out ≡ dealt_into (again d d.secret random) i out)

-- Of this deal in particular: any other secret with as many words has randomness by which each member has the card of this deal.
abbrev pub OtherRandomness : Type 0
OtherRandomness = (d : Deal) → Made d → (g : ℕ) → Group d g → ¬ Contains d g → (other : List ℕ) → length other ≡ length d.secret
    → (random : List ℕ) × LentFor d other random × ((i : ℕ) → Member d g i → card_from d other random i ≡ card d i)

-- the randomness under which the secret gives each member i the card c i
abbrev pub GivesCards : Deal → ℕ → (ℕ → List ℕ) → List ℕ → List ℕ → Type 0
GivesCards d g c secret = Gives (LentFor d secret) (card_from d secret) (Member d g) c

-- So, if the randomness is even, cards make no secret likelier. Even is: each of the 32749 ^ (w(k−1)) lists as likely as any other; the
-- chance of some cards, given a secret, is then how many of those lists give them, out of all. Whatever the cards c of the members are, the
-- lists that give them from the one secret and those that give them from the other stand in pairs, so they are equally many, and the chance
-- is the same: seeing c makes no secret likelier against another than it was.
abbrev pub FavoursNone : Type 0
FavoursNone = (d : Deal) → Made d → (g : ℕ) → Group d g → ¬ Contains d g → (other : List ℕ) → length other ≡ length d.secret
    → (c : ℕ → List ℕ) → Matched (GivesCards d g c d.secret) (GivesCards d g c other)

-- Cards laid one after another, each member's at least once and nobody else's, at most 560 blocks, are such a pile.
abbrev pub InARow : Type 0
InARow = (d : Deal) → Made d → (g : ℕ) (holders : List ℕ)
    → ((i : ℕ) → i ∈ holders → Member d g i)
    → ((i : ℕ) → Member d g i → i ∈ holders)
    → length (cards d holders) ≤ 512 * 560
    → WholeCards d g (cards d holders)

-- Each member's card once is always such a pile: no group of any deal has more than 560 blocks.
abbrev pub OnceEach : Type 0
OnceEach = (d : Deal) → Made d → (g : ℕ) → WholeCards d g (cards d (members d g))
