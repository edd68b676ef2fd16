-- A pile made of the whole cards of members, read block by block: it is sound, and its pieces are those that the group holds.
-- Assumes nothing.
use Prim.Native.Nat.{ℕ, ◌+◌, ◌-◌, ◌%◌, ◌≤◌}
use mathlib.Core.Path.{◌≡◌, refl, sym, ap, subst, ◌∙◌}
use mathlib.Core.Bool.{Bool, true, false}
use mathlib.Core.List.Memᴰ
use mathlib.Core.List.{List, ◌++◌}
use native.Mathlib.Omega.{arith}
use lib.ListN.{length, get_or}
use borrow.Author.Tests.{ne_eqb}
use Rattle.lists.specs.Places.{found}
use Rattle.lists.proofs.FirstLaws.{first-all, found_some, found_none}
use Rattle.lists.proofs.ThoseLaws.{those-same}
use Rattle.field.proofs.Laws.{values-at}
use Rattle.lists.specs.Some.{◌∈◌}
use Rattle.lists.proofs.Truth.{never}
use Rattle.block.specs.declared.deal.DealWords.{DealWords}
use Rattle.block.specs.declared.Label.{Label}
use Rattle.block.specs.Deals.{marks_sets}
use Rattle.block.specs.Open.{TrueBlock}
use Rattle.dealing.specs.Deal.{Deal, label, deal_pieces, held_by, piece_values, block_of, card_blocks}
use Rattle.dealing.proofs.MadeLaws.{InRange}
use Rattle.joining.specs.Pile as Pile
use Rattle.pile.specs.Blocks.{blocks, rest_from, In, deal_at}
use Rattle.joining.specs.Pile.{own_block, own_deal, own_width, in_sets, set_at, pieces_at, number_at, piece_at, has_piece, place_of, value_of, present}
use Rattle.joining.specs.Laws.{Sound}
use Rattle.joining.proofs.ChosenLaws.{place-held, first_pieces}
use Rattle.joining.proofs.HeapLaws.{own_in}
use Rattle.demands.specs.Group.{Member, WholeCards, gathers, gathered}
use Rattle.demands.specs.Demand2.{CardBlock}
use Rattle.demands.proofs.GroupLaws.{gathers_by, gathers_who}
use Rattle.demands.proofs.BlockLaws.{label_deal, block_true, card-block, label_is, set_is, number_is}
use Rattle.demands.proofs.LaidLaws.{laid}
use Rattle.demands.proofs.CardLaws.{card-long}

-- b begins with the block of a piece that a member of the group holds
pub record Theirs (d : Deal) (g : ℕ) (b : List ℕ) : Type 0 where
  pub who : ℕ
  pub which : ℕ
  pub in_group : Member d g who
  pub has : which ∈ held_by d who
  pub says : CardBlock d who which b
  pub is_true : TrueBlock b

-- whole blocks, at most 560, each of a piece that a member holds, and each such piece in some block
pub record Reads (d : Deal) (g : ℕ) (pile : List ℕ) : Type 0 where
  pub whole : length pile % 512 ≡ 0
  pub few : blocks pile ≤ 560
  pub theirs : (a : ℕ) → In pile a → Theirs d g (rest_from pile a)
  pub all : (i j : ℕ) → Member d g i → j ∈ held_by d i → (a : ℕ) × In pile a × (number_at pile a ≡ j)

-- ---- from the bytes to the blocks
-- what begins with the block of piece j on the card of the member i
begins : (d : Deal) → InRange d → (g i j : ℕ) → Member d g i → j ∈ held_by d i → (b rest : List ℕ) → b ≡ block_of d i j ++ rest → Theirs d g b
begins d f g i j m has b rest e = record {
  who = i;
  which = j;
  in_group = m;
  has = has;
  says = rw e (card-block d f i j m.least m.most has rest);
  is_true = rw e (block_true d f i j m.least m.most has rest);
}

pub reads : (d : Deal) → InRange d → (g : ℕ) (pile : List ℕ) → WholeCards d g pile → Reads d g pile
unfolding card_blocks begins
reads d f g pile w =
    let l = laid (card_blocks d) (card-long d) (Member d g) pile w in
    record {
      whole = l.whole;
      few = l.few;
      theirs = λ a h.
          let r = l.theirs a h in
          let s = Memᴰ.of_map (block_of d r.0) (held_by d r.0) r.3 in
          begins d f g r.0 s.0 r.2 s.1 (rest_from pile a) r.4.rest (r.4.is ∙ ap (λ (x : List ℕ). x ++ r.4.rest) (sym s.2));
      all = λ i j m has.
          let r = l.all i (block_of d i j) m (Memᴰ.map (block_of d i) has) in
          (r.0, r.1.inside, number_is (begins d f g i j m has (rest_from pile r.0) r.1.rest r.1.is).says);
    }

-- ---- from the blocks to what joining asks
module _ {d : Deal} {g : ℕ} {pile : List ℕ} (r : Reads d g pile) where
  -- no block is of a set, so its piece is that of its number
  pub no_set_lem : (a : ℕ) → In pile a → set_at pile a ≡ 0
  no_set_lem a h = set_is (r.theirs a h).says

  pub piece_is : (a : ℕ) → In pile a → piece_at pile a ≡ number_at pile a
  piece_is a h = omega (arith, no_set_lem a h)

  pub piece_of_lem : (a : ℕ) (h : In pile a) → piece_at pile a ≡ (r.theirs a h).which
  piece_of_lem a h = piece_is a h ∙ number_is (r.theirs a h).says

  -- the words of the deal
  own-words : DealWords
  own-words = record { mark = 1987; number = d.number; people = d.policy.people; pieces = deal_pieces d; width = length d.secret; year = d.year }

  deal_is : (a : ℕ) → In pile a → deal_at pile a ≡ own-words
  unfolding label own-words
  deal_is a h = ap label_deal (label_is (r.theirs a h).says)

  own_deal_lem : 1 ≤ blocks pile → own_deal pile ≡ own-words
  own_deal_lem some = deal_is (own_block pile) (own_in pile some)

  pub not_sets : 1 ≤ blocks pile → in_sets pile ≡ false
  unfolding own-words
  not_sets some = ap (λ (w : DealWords). marks_sets w.mark) (own_deal_lem some)

  deal_pieces_lem : 1 ≤ blocks pile → (own_deal pile).pieces ≡ deal_pieces d
  unfolding own-words
  deal_pieces_lem some = ap (λ (w : DealWords). w.pieces) (own_deal_lem some)

  pub pieces_are : 1 ≤ blocks pile → Pile.own_pieces pile ≡ deal_pieces d
  pieces_are some = first_pieces pile (not_sets some) ∙ deal_pieces_lem some

  pub width_is : 1 ≤ blocks pile → own_width pile ≡ length d.secret
  unfolding own-words
  width_is some = ap (λ (w : DealWords). w.width) (own_deal_lem some)

  -- value i of block a is that of its piece
  pub value-is : (a i : ℕ) → In pile a → 1 ≤ i → i ≤ length d.secret → value_of pile a i ≡ get_or (piece_values d (piece_at pile a)) (i - 1) 0
  unfolding piece_values
  value-is a i h l u =
      let t = r.theirs a h in
      t.says.value i l u
      ∙ sym (values-at (deal_pieces d - 1) d.secret d.random t.which i l u)
      ∙ ap (λ (j : ℕ). get_or (piece_values d j) (i - 1) 0) (sym (piece_of_lem a h))

  count-is : (a : ℕ) → In pile a → pieces_at pile a ≡ deal_pieces d
  unfolding label
  count-is a h = ap (λ (l : Label). l.pieces) (label_is (r.theirs a h).says)

  pub sound : Sound pile
  sound = record {
    whole = r.whole;
    few = r.few;
    blocks_true = record { block = λ a l h. (r.theirs a (l, h)).is_true };
    one_deal = λ a b h k. deal_is a h ∙ sym (deal_is b k);
    one_count = λ a b h k e. count-is a h ∙ sym (count-is b k);
    agree = λ a b h k e i l u.
        let v : i ≤ length d.secret = omega (arith, width_is (omega (arith, h.0, h.1))) in
        value-is a i h l v ∙ ap (λ (j : ℕ). get_or (piece_values d j) (i - 1) 0) e ∙ sym (value-is b i k l v);
  }

  -- ---- where a piece lies
  pub no_place : (j : ℕ) → gathers d g j ≡ false → place_of pile j ≡ 0
  unfolding place_of
  no_place j none =
      first-all (has_piece pile j) 1 (blocks pile + 1)
      (λ a l u.
      let t = r.theirs a (l, omega arith) in
      ne_eqb (piece_at pile a) j
      (λ e. never none (subst (λ (x : ℕ). gathers d g x ≡ true) (sym (piece_of_lem a (l, omega arith)) ∙ e) (gathers_by d g t.who t.which t.in_group t.has))))

  place_found : (j : ℕ) → 1 ≤ j → j ≤ deal_pieces d → (x : Bool) → gathers d g j ≡ x → found (place_of pile j) ≡ x
  place_found j l u true e =
      let m = gathers_who d g j l u e in
      let a = r.all m.0 j m.1 m.2 in
      found_some {a = place_of pile j} (λ z. omega (arith, place-held pile j a.0 a.1 (piece_is a.0 a.1 ∙ a.2)))
  place_found j l u false e = found_none (no_place j e)

  -- the pieces present are those that the group holds
  pub present_are : 1 ≤ blocks pile → present pile ≡ gathered d g
  unfolding present gathered
  present_are some =
      rw (deal_pieces_lem some)
      (those-same (λ j. found (place_of pile j)) (gathers d g) 1 (deal_pieces d) (λ j l u. place_found j l (omega arith) (gathers d g j) refl))
