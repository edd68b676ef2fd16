-- What the checks of joining say of a pile, whatever it is joined into: a definition for each line, and their order.
-- Assumes nothing.
use Rattle.std.specs.Prelude.{ℕ, Bool, cond, not, ◌&&◌, ◌||◌, List, [], ◌∷◌, ◌++◌, length, eqb, ltb}
use Rattle.answer.specs.declared.Kind.TheVariants.{Mixed, Conflict, Short}
use Rattle.answer.specs.Checks.{Line, line}
use Rattle.lists.specs.Places.{first_in, found}
use Rattle.block.specs.declared.deal.DealWords.{DealWords}
use Rattle.block.specs.Deals.{same_deal}
use Rattle.pile.specs.Blocks.{blocks, deal_at, first_block}
use Rattle.pile.specs.Lines.{torn_pile, long_pile, every_block}
use Rattle.joining.specs.Pile.{own_deal, in_sets, set_at, pieces_at, piece_at, chosen, differ_in, present}

-- block a is not of the deal d
abbrev pub strays : List ℕ → DealWords → ℕ → Bool
strays pile d a = not (same_deal (deal_at pile a) d)

-- the first block outside the heap of the deal d, or 0
abbrev pub first_stray : List ℕ → DealWords → ℕ
first_stray pile d = first_block pile (strays pile d)

-- 18 MIXED: the first block that is not of the pile's own deal, or 0
unfoldable pub mixed_at : List ℕ → ℕ
mixed_at pile = first_stray pile (own_deal pile)

abbrev pub mixed : List ℕ → Line
mixed pile = line Mixed (found (mixed_at pile)) (mixed_at pile) 0

-- 19 CONFLICT: block b has the piece of block a with other values,
unfoldable pub other_values : List ℕ → ℕ → ℕ → Bool
other_values pile a b = eqb (piece_at pile b) (piece_at pile a) && found (differ_in pile a b)

-- or says of its set that it has another number of pieces
unfoldable pub other_count : List ℕ → ℕ → ℕ → Bool
other_count pile a b = eqb (set_at pile b) (set_at pile a) && not (eqb (pieces_at pile b) (pieces_at pile a))

unfoldable pub contradicts : List ℕ → ℕ → ℕ → Bool
contradicts pile a b = other_values pile a b || other_count pile a b

-- the first block before block a that contradicts it, or 0
unfoldable pub contradicted_by : List ℕ → ℕ → ℕ
contradicted_by pile a = first_in (contradicts pile a) 1 a

-- the first block that an earlier one contradicts, or 0
unfoldable pub conflict_at : List ℕ → ℕ
conflict_at pile = first_block pile (λ a. found (contradicted_by pile a))

abbrev pub conflict : List ℕ → Line
conflict pile = line Conflict (found (conflict_at pile)) (conflict_at pile) (contradicted_by pile (conflict_at pile))

-- 20 SHORT, in the first scheme: no block at all, or fewer pieces than k; how many there are, and k
abbrev pub few_pieces : List ℕ → Line
few_pieces pile =
    let k = (own_deal pile).pieces in
    line Short (eqb (blocks pile) 0 || ltb (length (present pile)) k) (length (present pile)) k

-- by sets: none is complete
abbrev pub no_set : List ℕ → Line
no_set pile = line Short (eqb (chosen pile) 0) 0 0

abbrev pub short : List ℕ → Line
short pile = cond (in_sets pile) (no_set pile) (few_pieces pile)

-- the lines over the whole pile, after those of its blocks
abbrev pub whole_lines : List ℕ → List Line
whole_lines pile = mixed pile ∷ conflict pile ∷ short pile ∷ []

-- all lines of a pile, in order
unfoldable pub pile_lines : List ℕ → List Line
pile_lines pile = torn_pile pile ∷ long_pile pile ∷ every_block pile ++ whole_lines pile
