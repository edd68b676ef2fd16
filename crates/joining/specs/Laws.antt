-- The laws that joining owes; their proofs are in proofs/Laws.antt.
-- Assumes nothing.
use Rattle.std.specs.Prelude.{ℕ, ◌+◌, ◌-◌, ◌*◌, ◌%◌, ◌≤◌, ◌<◌, ◌≡◌, Bool, true, false, cond, not, ◌||◌, ◌≢◌, ◌↔◌, List, ◌++◌, eqb, length, get_or, drop}
use Rattle.answer.specs.declared.Kind.TheVariants.{Room, Unread, Header, Mixed}
use Rattle.answer.specs.Outcome.{Answer}
use Rattle.answer.specs.Outcome.{outcome, done, refused, number}
use Rattle.lists.specs.Laws.{IsFirst}
use Rattle.lists.specs.Places.{found}
use Rattle.prime.specs.Prime.{p, Below}
use Rattle.field.specs.Poly.{value, One}
use Rattle.field.specs.Differences.{by_differences}
use Rattle.field.specs.Lagrange.{weighed}
use Rattle.field.specs.Secret.{column}
use Rattle.triangle.specs.Triangle.{weight}
use Rattle.block.specs.declared.deal.DealWords.{DealWords}
use Rattle.block.specs.Layout.{right_at}
use Rattle.block.specs.Open.{above, TrueBlock}
use Rattle.pile.specs.Blocks.{blocks, rest_from, word, deal_at, first_block, TrueBlocks, In}
use Rattle.joining.specs.Pile.{heap_of, heap, own_block, own_deal, own_width, in_sets, set_at, pieces_at, number_at, piece_at, place_of, set_place, complete, chosen, own_pieces, value_of, value_at, differ_in, present}
use Rattle.joining.specs.Checks.{strays, contradicted_by, conflict_at}
use Rattle.joining.specs.Joined.{joining, joined_into}
use Rattle.joining.specs.Secret.{secret}
use Rattle.joining.specs.Earlier.{former_joining, former_secret}

-- a pile of whole, true blocks, at most 560, that are of one deal and say the same of each set and of each piece
pub record Sound (pile : List ℕ) : Type 0 where
  pub whole : length pile % 512 ≡ 0
  pub few : blocks pile ≤ 560
  pub blocks_true : TrueBlocks pile
  pub one_deal : (a b : ℕ) → In pile a → In pile b → deal_at pile a ≡ deal_at pile b
  pub one_count : (a b : ℕ) → In pile a → In pile b → set_at pile a ≡ set_at pile b → pieces_at pile a ≡ pieces_at pile b
  pub agree : (a b : ℕ) → In pile a → In pile b → piece_at pile a ≡ piece_at pile b → (i : ℕ) → 1 ≤ i → i ≤ own_width pile → value_of pile a i ≡ value_of pile b i

-- what joins: a sound pile with a block for each piece 1 to k of the chosen set, and room for w words
pub record Joins (pile : List ℕ) (room w : ℕ) : Type 0 where
  pub sound : Sound pile
  pub some : 1 ≤ blocks pile
  pub complete : (j : ℕ) → 1 ≤ j → j ≤ own_pieces pile → (a : ℕ) × In pile a × (set_at pile a ≡ chosen pile) × (number_at pile a ≡ j)
  pub fits : own_width pile ≤ room
  pub is : own_width pile ≡ w

-- Joining gives w exactly where the pile joins.
abbrev pub JoinsThen : Type 0
JoinsThen = (pile : List ℕ) (room w : ℕ) → Joins pile room w → joining pile room ≡ done w

abbrev pub ThenJoins : Type 0
ThenJoins = (pile : List ℕ) (room w : ℕ) → joining pile room ≡ done w → Joins pile room w

-- SCOPE 6, refusal 20: a sound pile of the first scheme that lacks one of the pieces 1 to k is SHORT, with how many different ones it has, and k.
abbrev pub LacksThen : Type 0
LacksThen = (pile : List ℕ) (room j : ℕ) → Sound pile → 1 ≤ blocks pile → in_sets pile ≡ false → 1 ≤ j → j ≤ own_pieces pile → place_of pile j ≡ 0
    → joining pile room ≡ refused 20 (length (present pile)) (own_pieces pile)

-- And one of a deal by sets in which no set of 1 to 70 is complete, with 0 and 0.
abbrev pub NoSetThen : Type 0
NoSetThen = (pile : List ℕ) (room : ℕ) → Sound pile → 1 ≤ blocks pile → in_sets pile ≡ true
    → ((s : ℕ) → 1 ≤ s → s ≤ 70 → complete pile s ≡ false) → joining pile room ≡ refused 20 0 0

-- ---- which set is taken
-- the pile has all pieces of set s: some block is of it, and of whichever block the number of pieces is taken, all of them are there
pub record HasSet (pile : List ℕ) (s : ℕ) : Type 0 where
  pub some : (a : ℕ) × In pile a × (set_at pile a ≡ s)
  pub all : (a : ℕ) → In pile a → set_at pile a ≡ s → (j : ℕ) → 1 ≤ j → j ≤ pieces_at pile a
      → (b : ℕ) × In pile b × (set_at pile b ≡ s) × (number_at pile b ≡ j)

-- In a sound pile a set of 1 to 70 is complete exactly where the pile has all its pieces.
abbrev pub CompleteMeans : Type 0
CompleteMeans = (pile : List ℕ) (s : ℕ) → Sound pile → 1 ≤ blocks pile → in_sets pile ≡ true → 1 ≤ s → s ≤ 70 → (complete pile s ≡ true) ↔ HasSet pile s

-- By sets the chosen set is the lowest one that is complete, and 0 where none is; in the first scheme it is 0.
abbrev pub ChosenLowest : Type 0
ChosenLowest = (pile : List ℕ)
    → (in_sets pile ≡ true → 1 ≤ chosen pile → IsFirst (complete pile) 1 71 (chosen pile))
    × (in_sets pile ≡ true → chosen pile ≡ 0 → (s : ℕ) → 1 ≤ s → s ≤ 70 → complete pile s ≡ false)
    × (in_sets pile ≡ false → chosen pile ≡ 0)

-- SCOPE 6.3: a pile without a block gets SHORT with a = 0 and b = 0.
abbrev pub NoBlocks : Type 0
NoBlocks = (pile : List ℕ) (room : ℕ) → length pile ≡ 0 → joining pile room ≡ refused 20 0 0

-- true blocks under one mark
pub record OneMark (pile : List ℕ) : Type 0 where
  pub blocks_true : TrueBlocks pile
  pub mark : (a b : ℕ) → In pile a → In pile b → word pile a 1 ≡ word pile b 1

-- block a says another number of pieces than the first block of its set; has other values than the first block of its piece
abbrev pub unlike_set : List ℕ → ℕ → Bool
unlike_set pile a = not (eqb (pieces_at pile (set_place pile (set_at pile a))) (pieces_at pile a))

abbrev pub unlike_piece : List ℕ → ℕ → Bool
unlike_piece pile a = found (differ_in pile a (place_of pile (piece_at pile a)))

-- CONFLICT over all pairs is each block against the first block of its set and the first block of its piece,
abbrev pub ConflictByFirst : Type 0
ConflictByFirst = (pile : List ℕ) → OneMark pile → conflict_at pile ≡ first_block pile (λ a. unlike_set pile a || unlike_piece pile a)

-- and the block it names is the first of the set where that one is unlike, else the first of the piece.
abbrev pub ConflictWithFirst : Type 0
ConflictWithFirst = (pile : List ℕ) → OneMark pile → conflict_at pile ≢ 0 → let a = conflict_at pile in
    contradicted_by pile a ≡ cond (unlike_set pile a) (set_place pile (set_at pile a)) (place_of pile (piece_at pile a))

-- ---- at which places joining refuses
-- UNREAD: the blocks before block a are true, and b is the first of its 256 words that exceeds 32748.
abbrev pub UnreadPlaces : Type 0
UnreadPlaces = (pile : List ℕ) (room a b : ℕ) → joining pile room ≡ refused (number Unread) a b
    → In pile a
    × ((c : ℕ) → 1 ≤ c → c < a → TrueBlock (rest_from pile c))
    × IsFirst (above (rest_from pile a)) 1 257 b

-- HEADER: the blocks before block a are true, and b is the first of its words 1 to 255 that breaks the layout.
abbrev pub HeaderPlaces : Type 0
HeaderPlaces = (pile : List ℕ) (room a b : ℕ) → joining pile room ≡ refused (number Header) a b
    → In pile a
    × ((c : ℕ) → 1 ≤ c → c < a → TrueBlock (rest_from pile c))
    × IsFirst (λ i. not (right_at (rest_from pile a) i)) 1 256 b

-- MIXED: a is the first block that is not of the pile's own deal; b is 0.
abbrev pub MixedPlaces : Type 0
MixedPlaces = (pile : List ℕ) (room a b : ℕ) → joining pile room ≡ refused (number Mixed) a b
    → IsFirst (strays pile (own_deal pile)) 1 (blocks pile + 1) a × (b ≡ 0)

-- ROOM: a is w, for which the lent output is too short; b is 0.
abbrev pub RoomPlaces : Type 0
RoomPlaces = (pile : List ℕ) (room a b : ℕ) → joining pile room ≡ refused (number Room) a b → (a ≡ own_width pile) × (room < a) × (b ≡ 0)

-- ---- the pile's own deal
-- SCOPE 6.3: no heap is larger than the one that the own block lies in,
abbrev pub OwnLargest : Type 0
OwnLargest = (pile : List ℕ) → 1 ≤ blocks pile → In pile (own_block pile) × ((a : ℕ) → In pile a → heap pile a ≤ heap pile (own_block pile))

-- and every heap that begins earlier is smaller.
abbrev pub OwnEarliest : Type 0
OwnEarliest = (pile : List ℕ) (a : ℕ) → 1 ≤ a → a < own_block pile → heap pile a < heap pile (own_block pile)

-- Where all blocks are of one deal, the own block is block 1.
abbrev pub OneDealOwn : Type 0
OneDealOwn = (pile : List ℕ) → 1 ≤ blocks pile → ((a : ℕ) → In pile a → deal_at pile a ≡ deal_at pile 1) → own_block pile ≡ 1

-- A deal that more than half the blocks are of is the pile's own.
abbrev pub MajorityOwn : Type 0
MajorityOwn = (pile : List ℕ) (d : DealWords) → blocks pile < 2 * heap_of pile d → own_deal pile ≡ d

-- whole, true blocks, at most 560, of which one is of another deal than block 1
pub record Mixes (pile : List ℕ) : Type 0 where
  pub whole : length pile % 512 ≡ 0
  pub few : blocks pile ≤ 560
  pub blocks_true : TrueBlocks pile
  pub another : (a : ℕ) × In pile a × (deal_at pile a ≢ deal_at pile 1)

-- MIXED is given for these piles and for no others: whichever heap is the own one, that some block strays can be seen against block 1.
abbrev pub MixedExactly : Type 0
MixedExactly = (pile : List ℕ) (room : ℕ) → ((a : ℕ) × (b : ℕ) × (joining pile room ≡ refused (number Mixed) a b)) ↔ Mixes pile

-- Where more than half the blocks are of the deal d, MIXED names the first block of another one.
abbrev pub MixedBlames : Type 0
MixedBlames = (pile : List ℕ) (room : ℕ) (d : DealWords) → Mixes pile → blocks pile < 2 * heap_of pile d
    → (a : ℕ) × IsFirst (strays pile d) 1 (blocks pile + 1) a × (joining pile room ≡ refused (number Mixed) a 0)

-- So an old card on top of such a pile is the one that is blamed.
abbrev pub OldOnTop : Type 0
OldOnTop = (pile : List ℕ) (room : ℕ) (d : DealWords) → Mixes pile → blocks pile < 2 * heap_of pile d → deal_at pile 1 ≢ d
    → joining pile room ≡ refused (number Mixed) 1 0

-- A pile with blocks of two years does not join, whatever else they have in common.
abbrev pub YearTells : Type 0
YearTells = (pile : List ℕ) (room a b w : ℕ) → In pile a → In pile b → word pile a 24 ≢ word pile b 24 → joining pile room ≢ done w

-- A pile with blocks of both schemes does not join either.
abbrev pub MarkTells : Type 0
MarkTells = (pile : List ℕ) (room a b w : ℕ) → In pile a → In pile b → word pile a 1 ≢ word pile b 1 → joining pile room ≢ done w

-- cs are the coefficients of a polynomial of degree less than k that has value i of piece j at j, for every block of the chosen set
pub record Fits (pile : List ℕ) (i : ℕ) (cs : List ℕ) : Type 0 where
  pub degree : length cs ≡ own_pieces pile
  pub below : Below cs
  pub meets : (a : ℕ) → In pile a → set_at pile a ≡ chosen pile → value_of pile a i ≡ value cs (number_at pile a) % p

-- SCOPE 3, joining a word: one polynomial of degree less than k has the pieces as its values at 1 to k; the word is its value at 0.
abbrev pub JoinedSecret : Type 0
JoinedSecret = (pile : List ℕ) (room w i : ℕ) → joining pile room ≡ done w → 1 ≤ i → i ≤ w
    → (cs : List ℕ) × One (Fits pile i) cs × (get_or (secret pile) (i - 1) 0 ≡ value cs 0)

-- block a of the one pile and block b of the other are alike: their holder (word 3), and with it their check (word 256), left aside
pub record Alike (pile : List ℕ) (a : ℕ) (other : List ℕ) (b : ℕ) : Type 0 where
  pub words : (i : ℕ) → 1 ≤ i → i ≤ 255 → i ≢ 3 → word pile a i ≡ word other b i

-- each block of the one pile is alike to one of the other
pub record Among (pile other : List ℕ) : Type 0 where
  pub block : (a : ℕ) → In pile a → (b : ℕ) × In other b × Alike pile a other b

-- Order, repeats and holders do not change the secret.
abbrev pub OrderFree : Type 0
OrderFree = (pile other : List ℕ) (room w : ℕ) → joining pile room ≡ done w → length other % 512 ≡ 0 → blocks other ≤ 560 → TrueBlocks other
    → Among pile other → Among other pile → (joining other room ≡ done w) × (secret other ≡ secret pile)

-- each block of the one pile is in the other, word for word
pub record Within (pile other : List ℕ) : Type 0 where
  pub block : (a : ℕ) → In pile a → (b : ℕ) × In other b × ((i : ℕ) → 1 ≤ i → i ≤ 256 → word pile a i ≡ word other b i)

-- The same blocks in another order, and repeated at will, give the same answer and the same secret.
abbrev pub AnyOrder : Type 0
AnyOrder = (pile other : List ℕ) (room w : ℕ) → joining pile room ≡ done w → length other % 512 ≡ 0 → blocks other ≤ 560
    → Within pile other → Within other pile → (joining other room ≡ done w) × (secret other ≡ secret pile)

-- SCOPE 6.4: after a result, joining has written w words, from the front; what lies behind is as before.
abbrev pub ResultWrites : Type 0
ResultWrites = (pile old : List ℕ) (w : ℕ) → joining pile (length old) ≡ done w
    → (length (secret pile) ≡ w) × (joined_into pile old ≡ secret pile ++ drop w old)

-- SCOPE 6.4: refused, joining leaves what was lent as before.
abbrev pub RefusalKeeps : Type 0
RefusalKeeps = (pile old : List ℕ) (m a b : ℕ) → joining pile (length old) ≡ refused m a b → joined_into pile old ≡ old

-- ---- three joiners
-- what `join`, `join_by_differences` and `join_by_weights` alike promise of their answer x and of the output a, lent as old: the two clauses of each contract
pub record JoinPromised (pile old : List ℕ) (x : Answer) (a : List ℕ) : Type 0 where
  pub says : outcome x ≡ joining pile (length old)
  pub leaves : a ≡ joined_into pile old

-- On every pile and every lent output: an answer and an output that the one joiner's promise allows are those that another's allows.
abbrev pub JoinersAgree : Type 0
JoinersAgree = (pile old : List ℕ) (x y : Answer) (a b : List ℕ) → JoinPromised pile old x a → JoinPromised pile old y b → (x ≡ y) × (a ≡ b)

-- And the secret is what differences alone give: for each word, the values of the pieces in a row, the rows of differences under it, their
-- first numbers added with alternating signs.
abbrev pub SecretByDifferences : Type 0
SecretByDifferences = (pile : List ℕ) (i : ℕ) → 1 ≤ i → i ≤ own_width pile
    → get_or (secret pile) (i - 1) 0 ≡ by_differences (column (value_at pile) (own_pieces pile) i)

-- And it is the sum of those values, each times the weight of its piece, mod p.
abbrev pub SecretByWeights : Type 0
SecretByWeights = (pile : List ℕ) (i : ℕ) → 1 ≤ i → i ≤ own_width pile
    → get_or (secret pile) (i - 1) 0 ≡ weighed (weight (own_pieces pile)) 1 (column (value_at pile) (own_pieces pile) i) % p

-- ---- cards made before there were sets, and before there was a year
-- joining answers what it answered, and where that is a result, gives the secret that it gave
abbrev pub JoinsAsBefore : Bool → List ℕ → ℕ → Type 0
JoinsAsBefore dated pile room =
    (joining pile room ≡ former_joining dated pile room) × ((w : ℕ) → joining pile room ≡ done w → secret pile ≡ former_secret dated pile)

-- So it is for every pile in which no block has the mark of a deal by sets,
abbrev pub FirstScheme : Type 0
FirstScheme = (pile : List ℕ) (room : ℕ) → ((a : ℕ) → In pile a → word pile a 1 ≢ 1988) → JoinsAsBefore true pile room

-- and, where these carry 0 in word 24, it is as before there was a year.
abbrev pub EarlierJoin : Type 0
EarlierJoin = (pile : List ℕ) (room : ℕ) → ((a : ℕ) → In pile a → word pile a 1 ≢ 1988) → ((a : ℕ) → In pile a → word pile a 24 ≡ 0)
    → JoinsAsBefore false pile room
