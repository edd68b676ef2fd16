-- Demand 2 (SCOPE 10.1): pieces, holdings, the bytes of cards, CLASH and joined secrets are those of SCOPE 2 to 5.
-- Assumes nothing.
use Rattle.std.specs.Prelude.{ℕ, ◌+◌, ◌-◌, ◌*◌, ◌≤◌, ◌<◌, ◌≡◌, Bool, true, false, ◌↔◌, List, ◌++◌, length, take, drop}
use Rattle.answer.specs.Outcome.{done}
use Rattle.lists.specs.Places.{at}
use Rattle.answer.specs.Laws.{Passed}
use Rattle.field.specs.Poly.{value, piece, One}
use Rattle.planning.specs.Sets.{worth, member}
use Rattle.planning.specs.Groups as planning
use Rattle.lists.specs.Some.{◌∈◌}
use Rattle.planning.specs.Policy.{Policy}
use Rattle.planning.specs.Planned.{list_lines}
use Rattle.planning.specs.Laws.{Suits, Clashes}
use Rattle.block.specs.Words.{word_at, check_of}
use Rattle.block.specs.Layout.{held_at}
use Rattle.dealing.specs.Deal.{Deal, deal_pieces, held_by, piece_values, label, card}
use Rattle.dealing.specs.Dealt.{Made, dealing, dealt_into}
use Rattle.joining.specs.Joined.{joining, joined_into}
use Rattle.joining.specs.Laws.{Joins, Fits}
use Rattle.demands.specs.Group.{Group, Contains, Member}

-- ---- the pieces
-- SCOPE 2: a group that is unauthorised (it contains no required set), and turns authorised whoever of the others is added
pub record Maximal (d : Deal) (g : ℕ) : Type 0 where
  pub group : Group d g
  pub unauthorised : ¬ Contains d g
  pub adding : (i : ℕ) → 1 ≤ i → i ≤ d.policy.people → member i g ≡ false → Contains d (g + worth i)

-- the group of piece j
abbrev pub group_of : Deal → ℕ → ℕ
group_of d j = planning.group_of d.policy.people d.policy.required j

-- SCOPE 2: the groups of pieces 1 to k are the maximal groups, all of them, sorted by their numbers as sets, the smallest first.
abbrev pub ThePieces : Type 0
ThePieces = (d : Deal)
    → ((j : ℕ) → 1 ≤ j → j ≤ deal_pieces d → Maximal d (group_of d j))
    × ((g : ℕ) → Maximal d g → (j : ℕ) × (1 ≤ j) × (j ≤ deal_pieces d) × (group_of d j ≡ g))
    × ((i j : ℕ) → 1 ≤ i → i < j → j ≤ deal_pieces d → group_of d i < group_of d j)

-- ---- the holdings
-- SCOPE 2: a person has a piece if the person is not in its group, and only then; they are had by rising number.
abbrev pub WhoHolds : Type 0
WhoHolds = (d : Deal) (i : ℕ)
    → ((j : ℕ) → (j ∈ held_by d i) ↔ ((1 ≤ j) × (j ≤ deal_pieces d) × (member i (group_of d j) ≡ false)))
    × ((a b : ℕ) → 1 ≤ a → a < b → b ≤ length (held_by d i) → at (held_by d i) a < at (held_by d i) b)

-- Source 000's Theorem 1: a group contains a required set exactly when its members together hold every piece.
abbrev pub WhoOpens : Type 0
WhoOpens = (d : Deal) → Made d → (g : ℕ) → Group d g
    → Contains d g ↔ ((j : ℕ) → 1 ≤ j → j ≤ deal_pieces d → (i : ℕ) × Member d g i × (j ∈ held_by d i))

-- ---- the bytes of cards
-- SCOPE 3: the k−1 coefficients of word i, read off the lent randomness behind those of the words before it
abbrev pub coefficients : Deal → ℕ → List ℕ
coefficients d i = take (deal_pieces d - 1) (drop ((i - 1) * (deal_pieces d - 1)) d.random)

-- the block of piece j on the holder's card, at the front of b: each of words 1 to 255 is what the table of the layout has there for that
-- card's label and the piece's values; each value is the polynomial's at j; and the last word is the check of the others
pub record CardBlock (d : Deal) (holder j : ℕ) (b : List ℕ) : Type 0 where
  pub words : (i : ℕ) → 1 ≤ i → i ≤ 255 → word_at b i ≡ held_at (label d holder j) (piece_values d j) i
  pub value : (i : ℕ) → 1 ≤ i → i ≤ length d.secret → word_at b (7 + i) ≡ piece (at d.secret i) (coefficients d i) j
  pub check : word_at b 256 ≡ check_of b

-- That leaves no word open: two such blocks agree in all 256 words.
abbrev pub OneBlock : Type 0
OneBlock = (d : Deal) (holder j : ℕ) (b c : List ℕ) → CardBlock d holder j b → CardBlock d holder j c
    → (i : ℕ) → 1 ≤ i → i ≤ 256 → word_at b i ≡ word_at c i

-- SCOPE 4: a card is the blocks of the pieces that its holder has, the lowest piece first. Dealing writes it, and nothing else, over the
-- front of the lent output.
abbrev pub EveryByte : Type 0
EveryByte = (d : Deal) (holder : ℕ) (out : List ℕ) (blocks : ℕ) → dealing d holder (length out) ≡ done blocks
    → (blocks ≡ length (held_by d holder))
    × (length (card d holder) ≡ 512 * blocks)
    × ((a : ℕ) → 1 ≤ a → a ≤ blocks → CardBlock d holder (at (held_by d holder) a) (drop (512 * (a - 1)) (card d holder)))
    × (dealt_into d holder out ≡ card d holder ++ drop (512 * blocks) out)

-- ---- CLASH: let refusals 1 to 5 and 22 pass; then it is the answer exactly if there is no family of groups with SCOPE 2's three properties
-- `Clashes` is that planning answers CLASH, at some two places, and `Suits` that a family has those properties. Where CLASH is given, none
-- at all has them; where it is not, one has, and it can be computed.
abbrev pub ClashExactly : Type 1
ClashExactly = (p : Policy) → Passed (list_lines p)
    → (Clashes p ↔ ((F : ℕ → Bool) → Suits p (λ g. F g ≡ true) → ⊥))
    × (Clashes p → (F : ℕ → Type 0) → Suits p F → ⊥)
    × (¬ Clashes p → (F : ℕ → Bool) × Suits p (λ g. F g ≡ true))

-- ---- joined secrets
-- Joining has a result exactly for a pile that joins: sound, with a block for each piece of 1 to k, and room. Demand 1 has the refusals.
abbrev pub JoinsExactly : Type 0
JoinsExactly = (pile : List ℕ) (room w : ℕ) → (joining pile room ≡ done w) ↔ Joins pile room w

-- SCOPE 3: one polynomial of degree less than k has the values i of the pieces in the pile as its own; word i of the result is its value
-- at 0. What lies behind the w words is as before.
abbrev pub JoinGives : Type 0
JoinGives = (pile out : List ℕ) (w : ℕ) → joining pile (length out) ≡ done w
    → ((i : ℕ) → 1 ≤ i → i ≤ w → (cs : List ℕ) × One (Fits pile i) cs × (at (joined_into pile out) i ≡ value cs 0))
    × (drop w (joined_into pile out) ≡ drop w out)
