-- What the functions after a check rest on: a pile that passed MIXED, and one that passed every check. Assumes nothing.
use Rattle.std.specs.Prelude.{ℕ, ◌≤◌, ◌≡◌, cond, List, eqb}
use Rattle.lists.specs.Run.{run}
use Rattle.pile.specs.Blocks.{blocks, In, deal_at, TrueBlocks}
use Rattle.joining.specs.Pile.{set_at, pieces_at, piece_at, place_of, set_place, own_deal, own_pieces, own_place}
use Rattle.joining.specs.Laws.{unlike_set, unlike_piece}

-- a pile of true blocks, one at least, all of the pile's own deal
pub record Unmixed (pile : List ℕ) : Type 0 where
  pub some : 1 ≤ blocks pile
  pub blocks_true : TrueBlocks pile
  pub own_deal_lem : (a : ℕ) → In pile a → deal_at pile a ≡ own_deal pile

-- such a pile in which every piece of 1 to k that is taken lies in some block
pub record Full (pile : List ℕ) : Type 0 where
  pub unmixed : Unmixed pile
  pub pieces_in : (1 ≤ own_pieces pile) × (own_pieces pile ≤ 70)
  pub place : (j : ℕ) → 1 ≤ j → j ≤ own_pieces pile → 1 ≤ own_place pile j

-- the blocks from which the pieces 1 to k are taken
abbrev pub own_places : List ℕ → List ℕ
own_places pile = run (own_place pile) 1 (own_pieces pile)

-- how many pieces block a says its set has; 0 where there is no block
unfoldable pub said : List ℕ → ℕ → ℕ
said pile a = cond (eqb a 0) 0 (pieces_at pile a)

-- the block that block a is unlike: the first of its set, where that one says another number of pieces, else the first of its piece, where its values are
-- others; or 0
unfoldable pub unlike : List ℕ → ℕ → ℕ
unlike pile a = cond (unlike_set pile a) (set_place pile (set_at pile a)) (cond (unlike_piece pile a) (place_of pile (piece_at pile a)) 0)
