-- What an unmixed pile says of its own deal, and of its blocks' pieces and sets. Assumes nothing.
use mathlib.Core.Path.{◌≡◌, sym, ap, ◌∙◌}
use mathlib.Core.Bool.{true, false, cond}
use mathlib.Core.List.{List}
use Prim.Native.Nat.{ℕ, ◌≤◌}
use native.Mathlib.Omega.{arith}
use lib.Dec.{eqb}
use borrow.Author.Tests.{eq-eqb, eqb-true}
use Rattle.block.specs.declared.deal.DealWords.{DealWords}
use Rattle.block.specs.declared.Label.{Label}
use Rattle.block.specs.Laws.{Scheme, first, sets, Ranges}
use Rattle.block.specs.Layout.{piece_in, label_of}
use Rattle.block.proofs.RangeLaws.{true_ranges}
use Rattle.block.proofs.Laws.{piece_tells}
use Rattle.pile.specs.Blocks.{blocks, In, rest_from, word, TrueBlocks}
use Rattle.lists.proofs.Truth.{never}
use Rattle.joining.specs.Pile.{own_block, own_deal, own_width, in_sets, set_at, pieces_at, number_at, piece_at}
use Rattle.joining.specs.Checks.{mixed_at}
use Rattle.joining.specs.Inner.{Unmixed}
use Rattle.joining.specs.Laws.{OneMark}
use Rattle.joining.proofs.HeapLaws.{own_in, none-strays}

-- where MIXED passes, every block is of the pile's own deal
pub unmixed : (pile : List ℕ) → 1 ≤ blocks pile → TrueBlocks pile → mixed_at pile ≡ 0 → Unmixed pile
unfolding mixed_at
unmixed pile some t z = record { some = some; blocks_true = t; own_deal_lem = none-strays pile (own_deal pile) z }

-- ---- what a label in its ranges says of its piece and its set
piece-range : (l : Label) → Ranges l → Scheme l → (1 ≤ piece_in l.set l.piece) × (piece_in l.set l.piece ≤ 560)
piece-range l r (first m z) = (omega (arith, r.piece.0), omega (arith, z, r.piece.1, r.pieces.1))
piece-range l r (sets m a b c) = (omega (arith, r.piece.0), omega (arith, a, b, c, r.piece.1, r.people.1))

set-range : (l : Label) → Scheme l → l.set ≤ 70
set-range l (first m z) = omega (arith, z)
set-range l (sets m a b c) = b

none_first : (l : Label) → Scheme l → eqb l.mark 1988 ≡ false → l.set ≡ 0
none_first l (first m z) e = z
none_first l (sets m a b c) e = absurd (never e (eq-eqb l.mark 1988 m))

-- in a deal by sets a set has a number, and as many pieces as there are people at most
pub record InSet (set pieces : ℕ) : Type 0 where
  pub from : 1 ≤ set
  pub to : set ≤ 70
  pub few : pieces ≤ 8

some-set : (l : Label) → Ranges l → Scheme l → eqb l.mark 1988 ≡ true → InSet l.set l.pieces
some-set l r (first m z) e = absurd (omega (arith, m, eqb-true l.mark 1988 e))
some-set l r (sets m a b c) e = record { from = a; to = b; few = omega (arith, c, r.people.1) }

-- ---- true blocks under one mark: a piece tells its set and its number
module _ {pile : List ℕ} (o : OneMark pile) (a b : ℕ) (h : In pile a) (g : In pile b) (e : piece_at pile a ≡ piece_at pile b) where
  told : (set_at pile a ≡ set_at pile b) × (number_at pile a ≡ number_at pile b)
  told =
      (piece_tells (rest_from pile a) (rest_from pile b) (o.blocks_true.block a h.0 h.1) (o.blocks_true.block b g.0 g.1) (o.mark a b h g)).0 e

  pub same_set : set_at pile a ≡ set_at pile b
  same_set = told.0

module _ {pile : List ℕ} (u : Unmixed pile) where
  pub ranges : (a : ℕ) → In pile a → Ranges (label_of (rest_from pile a))
  ranges a h = true_ranges (u.blocks_true.block a h.0 h.1)

  pub width_in : (1 ≤ own_width pile) × (own_width pile ≤ 16)
  width_in = (ranges (own_block pile) (own_in pile u.some)).width

  -- every block has the mark of the own deal
  mark-is : (a : ℕ) → In pile a → word pile a 1 ≡ (own_deal pile).mark
  mark-is a h = ap (λ (d : DealWords). d.mark) (u.own_deal_lem a h)

  pub one_mark : OneMark pile
  one_mark = record { blocks_true = u.blocks_true; mark = λ a b h g. mark-is a h ∙ sym (mark-is b g) }

  -- a block's piece has a place of the table, and so has its set
  pub piece_in_lem : (a : ℕ) → In pile a → (1 ≤ piece_at pile a) × (piece_at pile a ≤ 560)
  piece_in_lem a h = let r = ranges a h in piece-range (label_of (rest_from pile a)) r r.scheme

  pub set_in : (a : ℕ) → In pile a → set_at pile a ≤ 70
  set_in a h = set-range (label_of (rest_from pile a)) (ranges a h).scheme

  -- and so has what was read of them
  pub piece_read : (a : ℕ) → In pile a → {r : ℕ} → r ≡ piece_at pile a → (1 ≤ r) × (r ≤ 560)
  piece_read a h e = let q = piece_in_lem a h in (omega (arith, q.0, e), omega (arith, q.1, e))

  pub set_read : (a : ℕ) → In pile a → {s : ℕ} → s ≡ set_at pile a → s ≤ 70
  set_read a h e = omega (arith, set_in a h, e)

  -- ---- the first scheme
  module _ (e : in_sets pile ≡ false) where
    pub no_set_lem : (a : ℕ) → In pile a → set_at pile a ≡ 0
    no_set_lem a h = none_first (label_of (rest_from pile a)) (ranges a h).scheme (ap (λ (m : ℕ). eqb m 1988) (mark-is a h) ∙ e)

    -- every block says the deal's number of pieces
    pub deal_pieces_lem : (a : ℕ) → In pile a → pieces_at pile a ≡ (own_deal pile).pieces
    deal_pieces_lem a h =
        sym (ap (λ b. cond b 0 (pieces_at pile a)) (ap (λ (m : ℕ). eqb m 1988) (mark-is a h) ∙ e)) ∙ ap (λ (d : DealWords). d.pieces) (u.own_deal_lem a h)

    pub deal_pieces_in : (1 ≤ (own_deal pile).pieces) × ((own_deal pile).pieces ≤ 70)
    deal_pieces_in =
        let o = own_in pile u.some in
        let r = (ranges (own_block pile) o).pieces in
        let q = deal_pieces_lem (own_block pile) o in
        (omega (arith, r.0, q), omega (arith, r.1, q))

  -- ---- a deal by sets
  pub of_set : in_sets pile ≡ true → (a : ℕ) → In pile a → InSet (set_at pile a) (pieces_at pile a)
  of_set e a h = let r = ranges a h in some-set (label_of (rest_from pile a)) r r.scheme (ap (λ (m : ℕ). eqb m 1988) (mark-is a h) ∙ e)
