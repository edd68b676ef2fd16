-- Joining before there were deals by sets: the same lines over the former layout, a piece being its number, and all pieces of the deal are
-- needed; and, still earlier, before there was a year (`dated` says whether there was one), deals told apart without word 24. No pile is joined by it
-- any more; it stands here to be compared with. Assumes nothing.
use Rattle.std.specs.Prelude.{ℕ, ◌+◌, Bool, not, ◌&&◌, ◌||◌, eqb, leb, ltb, length}
use mathlib.Core.List.{List, [], ◌∷◌, ◌++◌, flat_map}
use Rattle.lists.specs.Run.{run}
use Rattle.lists.specs.Some.{each}
use Rattle.lists.specs.Places.{first_in, found, those}
use Rattle.answer.specs.declared.Kind.TheVariants.{Header, Mixed, Conflict, Short}
use Rattle.answer.specs.Outcome.{Outcome, done}
use Rattle.answer.specs.Checks.{Line, line, first_fail}
use Rattle.answer.specs.Lent.{no_room}
use Rattle.field.specs.Secret.{secret_of}
use Rattle.block.specs.declared.deal.DealWords.{DealWords}
use Rattle.block.specs.Open.{slot_lines}
use Rattle.block.specs.Earlier.{former_wrong, former_same}
use Rattle.pile.specs.Blocks.{blocks, rest_from, deal_at, first_block}
use Rattle.pile.specs.Lines.{torn_pile, long_pile}
use Rattle.joining.specs.Pile.{number_at, value_of}

-- 15, 16, 17 of b, which is block a
abbrev pub former_lines : Bool → List ℕ → ℕ → List Line
former_lines dated b a = slot_lines b a ++ line Header (found (former_wrong dated b)) a (former_wrong dated b) ∷ []

-- those of every block, in pile order
unfoldable pub former_blocks : Bool → List ℕ → List Line
former_blocks dated pile = flat_map (λ a. former_lines dated (rest_from pile a) a) (run (λ a. a) 1 (blocks pile))

-- how many blocks were of the deal d
unfoldable pub former_heap : Bool → List ℕ → DealWords → ℕ
former_heap dated pile d = length (those (λ b. former_same dated (deal_at pile b) d) 1 (blocks pile))

-- the pile's own deal: that of the first block in a largest heap
unfoldable pub former_block : Bool → List ℕ → ℕ
former_block dated pile = first_block pile (λ a. each (blocks pile) (λ b. leb (former_heap dated pile (deal_at pile b)) (former_heap dated pile (deal_at pile a))))

abbrev pub former_deal : Bool → List ℕ → DealWords
former_deal dated pile = deal_at pile (former_block dated pile)

-- 18: the first block of another deal, or 0
unfoldable pub former_stray : Bool → List ℕ → ℕ
former_stray dated pile = first_block pile (λ a. not (former_same dated (deal_at pile a) (former_deal dated pile)))

-- 19: the first of the values 1 to w in which blocks a and b differ, or 0
unfoldable pub former_differ : Bool → List ℕ → ℕ → ℕ → ℕ
former_differ dated pile a b = first_in (λ i. not (eqb (value_of pile a i) (value_of pile b i))) 1 ((former_deal dated pile).width + 1)

-- the first block before block a that had its piece, word 7, with other values, or 0
unfoldable pub former_by : Bool → List ℕ → ℕ → ℕ
former_by dated pile a = first_in (λ b. eqb (number_at pile b) (number_at pile a) && found (former_differ dated pile a b)) 1 a

-- and the first block that had such a one, or 0
unfoldable pub former_conflict : Bool → List ℕ → ℕ
former_conflict dated pile = first_block pile (λ a. found (former_by dated pile a))

-- the first block that had piece j, or 0
unfoldable pub former_place : List ℕ → ℕ → ℕ
former_place pile j = first_block pile (λ a. eqb (number_at pile a) j)

-- 20: the pieces of 1 to k that some block had
unfoldable pub former_present : Bool → List ℕ → List ℕ
former_present dated pile = those (λ j. found (former_place pile j)) 1 (former_deal dated pile).pieces

-- what joining answered
unfoldable pub former_joining : Bool → List ℕ → ℕ → Outcome ℕ
former_joining dated pile room =
    let k = (former_deal dated pile).pieces in
    let w = (former_deal dated pile).width in
    let pieces = length (former_present dated pile) in
    first_fail
    (torn_pile pile
    ∷ long_pile pile
    ∷ former_blocks dated pile
    ++ line Mixed (found (former_stray dated pile)) (former_stray dated pile) 0
    ∷ line Conflict (found (former_conflict dated pile)) (former_conflict dated pile) (former_by dated pile (former_conflict dated pile))
    ∷ line Short (eqb (blocks pile) 0 || ltb pieces k) pieces k
    ∷ no_room w w room
    ∷ [])
    (done w)

-- and the secret that it wrote
abbrev pub former_secret : Bool → List ℕ → List ℕ
former_secret dated pile = secret_of (λ j i. value_of pile (former_place pile j) i) (former_deal dated pile).pieces (former_deal dated pile).width
