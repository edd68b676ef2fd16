-- A block of the deal's cards is taken: it is true, of the opening's deal, and says the same of its piece as any other. Assumes nothing.
use mathlib.Core.Path.{◌≡◌, refl, sym, ap, subst, ◌∙◌}
use mathlib.Core.Bool.{Bool, true, false, not, ◌&&◌}
use mathlib.Core.Logic.{⊎_elim}
use mathlib.Core.List.Memᴰ
use mathlib.Core.List.{List, [], ◌++◌, append-nil, Memᴰ}
use Prim.Native.Nat.{ℕ, ◌+◌, ◌≤◌}
use native.Mathlib.Omega.{arith}
use lib.Dec.{eqb}
use lib.ListN.{length}
use borrow.Author.Tests.{eq-eqb}
use Rattle.lists.specs.Places.{found, at}
use Rattle.lists.proofs.Truth.{decided, and_no, and_none}
use Rattle.lists.proofs.FirstLaws.{first-all, found_none}
use Rattle.answer.specs.Outcome.{done}
use Rattle.answer.specs.Laws.{Passed}
use Rattle.answer.proofs.CheckLaws.{passed_one, passed_none, passed_both, passed-done}
use Rattle.field.specs.Poly.{piece}
use Rattle.block.specs.declared.Label.{Label}
use Rattle.block.specs.Words.{word_at}
use Rattle.block.specs.Layout.{piece_number}
use Rattle.block.specs.Open.{one_lines, TrueBlock}
use Rattle.block.proofs.OpenLaws.{true_one}
use Rattle.block.proofs.RangeLaws.{true_ranges}
use Rattle.dealing.specs.Deal.{Deal, label, held_by, block_of, card_blocks}
use Rattle.dealing.proofs.MadeLaws.{InRange, block-length}
use Rattle.desk.specs.declared.Opening.{Opening}
use Rattle.desk.specs.Opens.{words, accepted, opening_of, alike}
use Rattle.desk.specs.Slots.{start, in_slot, keeps, distinct, unlike}
use Rattle.desk.specs.Lines.{other_values, front_lines, hand_lines, hand_slots, hand_says}
use Rattle.desk.specs.History.{Client}
use Rattle.desk.proofs.WordLaws.{is_client_lem}
use Rattle.demands.specs.Demand2.{CardBlock, coefficients}
use Rattle.demands.specs.DeskBlocks.{of_deal, OfCards}
use Rattle.demands.proofs.BlockLaws.{block_true, card-block, label_is, mark-is, number_is}
use Rattle.demands.proofs.DeskHolds.{Holds}
use Rattle.demands.proofs.DeskCover.{Covers}

-- a block of the deal's cards
pub record CardOf (d : Deal) (b : List ℕ) : Type 0 where
  pub who : ℕ
  pub which : ℕ
  pub size : length b ≡ 512
  pub says : CardBlock d who which b
  pub is_true : TrueBlock b

pub card_of : (d : Deal) → InRange d → (i : ℕ) → 1 ≤ i → i ≤ d.policy.people → (b : List ℕ) → Memᴰ b (card_blocks d i) → CardOf d b
unfolding card_blocks
card_of d f i l u b m =
    let s = Memᴰ.of_map (block_of d i) (held_by d i) m in
    let q : block_of d i s.0 ++ [] ≡ b = append-nil (block_of d i s.0) ∙ s.2 in
    record {
      who = i;
      which = s.0;
      size = ap length (sym s.2) ∙ block-length d i s.0;
      says = subst (CardBlock d i s.0) q (card-block d f i s.0 l u s.1 []);
      is_true = subst TrueBlock q (block_true d f i s.0 l u s.1 []);
    }

-- an opening is alike to itself
alike-self : (o : Opening) → alike o o ≡ true
unfolding alike
alike-self o =
    rw (eq-eqb o.deal o.deal refl, eq-eqb o.people o.people refl, eq-eqb o.pieces o.pieces refl, eq-eqb o.width o.width refl, eq-eqb o.year o.year refl)

-- the words of a label, as those of an opening
abbrev as_words : Label → Opening
as_words l = words l.number l.people l.pieces l.width l.year

module _ (d : Deal) (f : InRange d) (slots : List ℕ) (c : ℕ) (bs hs : List (List ℕ)) (who : Client c) (good : accepted (of_deal d) ≡ true) (h : Holds slots (of_deal d) c bs) (v : Covers bs hs) (cards : OfCards d hs)
    (b : List ℕ) (x : CardOf d b) where
  words_are : opening_of b ≡ of_deal d
  unfolding label
  words_are = ap as_words (label_is x.says)

  same_deal_lem : alike (opening_of b) (of_deal d) ≡ true
  same_deal_lem =
      ap (λ (o : Opening). alike o (of_deal d)) words_are
      ∙ alike-self (of_deal d)

  front : Passed (front_lines (of_deal d) c b)
  unfolding front_lines
  front =
      passed_one (ap not (is_client_lem c who)) (passed_one (ap not good)
      (passed_both (one_lines b 1) (true_one b 1 x.size x.is_true (mark-is x.says)) (passed_one (ap not same_deal_lem) passed_none)))

  -- where its piece is kept, it is with the same values
  no_other : keeps slots c (length d.secret) (piece_number b) ≡ true → unlike slots (start c (piece_number b)) (length d.secret) b ≡ 0
  unfolding unlike
  no_other t =
      let p = (true_ranges x.is_true).piece in
      let n = ap (λ (o : Opening). o.pieces) words_are in
      let r = h.back (piece_number b) p.0 (omega (arith, p.1, n)) t in
      let k = cards.theirs r.0 (v.into r.0 r.1) in
      let y = card_of d f k.0 k.1 k.2 r.0 k.3 in
      let j : y.which ≡ x.which = sym (number_is y.says) ∙ r.2 ∙ number_is x.says in
      first-all (λ i. not (eqb (in_slot slots (start c (piece_number b)) i) (word_at b (7 + i)))) 1 (length d.secret + 1)
      (λ i l u.
      ap not (eq-eqb (in_slot slots (start c (piece_number b)) i) (word_at b (7 + i))
      (ap (λ (m : ℕ). in_slot slots (start c m) i) (sym r.2) ∙ h.values r.0 r.1 i l (omega arith)
      ∙ y.says.value i l (omega arith) ∙ ap (λ (m : ℕ). piece (at d.secret i) (coefficients d i) m) j ∙ sym (x.says.value i l (omega arith)))))

  calm : (other_values slots (of_deal d) c b).given ≡ false
  calm =
      ⊎_elim
      (λ (t : keeps slots c (length d.secret) (piece_number b) ≡ true).
      ap (λ (z : Bool). keeps slots c (length d.secret) (piece_number b) && z) (found_none (no_other t)) ∙ and_none (keeps slots c (length d.secret) (piece_number b)))
      (λ (n : keeps slots c (length d.secret) (piece_number b) ≡ false).
      and_no (keeps slots c (length d.secret) (piece_number b)) (found (unlike slots (start c (piece_number b)) (length d.secret) b)) n)
      (decided (keeps slots c (length d.secret) (piece_number b)))

  pub taken : hand_says slots (of_deal d) c b ≡ done (distinct (hand_slots slots (of_deal d) c b) (of_deal d) c)
  unfolding hand_says hand_lines
  taken =
      passed-done (hand_lines slots (of_deal d) c b) (done (distinct (hand_slots slots (of_deal d) c b) (of_deal d) c))
      (passed_both (front_lines (of_deal d) c b) front (passed_one calm passed_none))
