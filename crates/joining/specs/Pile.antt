-- What joining reads off a pile: the deal it is of, where its pieces lie, which set of them is taken, and their values. Blocks and words are counted
-- from 1. The first scheme has no sets, and word 25 of its blocks is 0: there all pieces are of set 0. Assumes nothing.
use Rattle.std.specs.Prelude.{ℕ, ◌+◌, Bool, cond, not, ◌&&◌, List, eqb, leb, length}
use Rattle.lists.specs.Places.{first_in, found, those}
use Rattle.lists.specs.Some.{each}
use Rattle.block.specs.declared.deal.DealWords.{DealWords}
use Rattle.block.specs.Deals.{marks_sets, same_deal}
use Rattle.block.specs.Layout.{piece_in, piece_of}
use Rattle.pile.specs.Blocks.{blocks, rest_from, word, deal_at, first_block}

-- how many blocks are of the deal d: they are its heap
unfoldable pub heap_of : List ℕ → DealWords → ℕ
heap_of pile d = length (those (λ b. same_deal (deal_at pile b) d) 1 (blocks pile))

-- the size of the heap that block a lies in
abbrev pub heap : List ℕ → ℕ → ℕ
heap pile a = heap_of pile (deal_at pile a)

-- no block lies in a larger heap than block a
unfoldable pub in_largest : List ℕ → ℕ → Bool
in_largest pile a = each (blocks pile) (λ b. leb (heap pile b) (heap pile a))

-- the block whose deal is the pile's own, in a pile that has blocks: the first that lies in a largest heap
unfoldable pub own_block : List ℕ → ℕ
own_block pile = first_block pile (in_largest pile)

-- the pile's own deal; of a pile of no blocks all its words are 0
abbrev pub own_deal : List ℕ → DealWords
own_deal pile = deal_at pile (own_block pile)

-- w, as the pile's own deal says
abbrev pub own_width : List ℕ → ℕ
own_width pile = (own_deal pile).width

-- the pile's own deal is one by sets
abbrev pub in_sets : List ℕ → Bool
in_sets pile = marks_sets (own_deal pile).mark

-- the set of block a, how many pieces the block says that set has, and the number of its own one
abbrev pub set_at : List ℕ → ℕ → ℕ
set_at pile a = word pile a 25

abbrev pub pieces_at : List ℕ → ℕ → ℕ
pieces_at pile a = word pile a 5

abbrev pub number_at : List ℕ → ℕ → ℕ
number_at pile a = word pile a 7

-- the piece of block a
abbrev pub piece_at : List ℕ → ℕ → ℕ
piece_at pile a = piece_of (rest_from pile a)

-- block a has piece j
abbrev pub has_piece : List ℕ → ℕ → ℕ → Bool
has_piece pile j a = eqb (piece_at pile a) j

-- the first block that has piece j, or 0 where it is missing
unfoldable pub place_of : List ℕ → ℕ → ℕ
place_of pile j = first_block pile (has_piece pile j)

-- the first block of set s, or 0
unfoldable pub set_place : List ℕ → ℕ → ℕ
set_place pile s = first_block pile (λ a. eqb (set_at pile a) s)

-- the first block that has piece j of set s, or 0
abbrev pub place_in : List ℕ → ℕ → ℕ → ℕ
place_in pile s j = place_of pile (piece_in s j)

-- ---- by sets: the lowest set that is complete
-- how many pieces set s has, as the block of its piece 1 says
abbrev pub set_pieces : List ℕ → ℕ → ℕ
set_pieces pile s = pieces_at pile (place_in pile s 1)

-- set s is complete: its piece 1 is there, and so are all that the set then has
unfoldable pub complete : List ℕ → ℕ → Bool
complete pile s = found (place_in pile s 1) && each (set_pieces pile s) (λ j. found (place_in pile s j))

-- the set whose pieces are taken: the lowest of 1 to 70 that is complete, or 0; in the first scheme 0, of which all pieces are
unfoldable pub chosen : List ℕ → ℕ
chosen pile = cond (in_sets pile) (first_in (complete pile) 1 71) 0

-- ---- what is taken
-- k: the pieces of the chosen set, or in the first scheme those of the deal
unfoldable pub own_pieces : List ℕ → ℕ
own_pieces pile = cond (in_sets pile) (set_pieces pile (chosen pile)) (own_deal pile).pieces

-- the block from which piece j is taken
abbrev pub own_place : List ℕ → ℕ → ℕ
own_place pile j = place_in pile (chosen pile) j

-- value i of block a
abbrev pub value_of : List ℕ → ℕ → ℕ → ℕ
value_of pile a i = word pile a (7 + i)

-- value i of piece j, as the block has it from which the piece is taken
abbrev pub value_at : List ℕ → ℕ → ℕ → ℕ
value_at pile j i = value_of pile (own_place pile j) i

-- the first of the values 1 to w in which blocks a and b differ, or 0
unfoldable pub differ_in : List ℕ → ℕ → ℕ → ℕ
differ_in pile a b = first_in (λ i. not (eqb (value_of pile a i) (value_of pile b i))) 1 (own_width pile + 1)

-- in the first scheme, the pieces of 1 to k that some block has
unfoldable pub present : List ℕ → List ℕ
present pile = those (λ j. found (place_of pile j)) 1 (own_deal pile).pieces
