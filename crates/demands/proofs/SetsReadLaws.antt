-- A pile made of the whole cards by sets of members, read block by block: it is sound, and each block is that of a member's piece of a set.
-- Assumes nothing.
use Prim.Native.Nat.{ℕ, ◌+◌, ◌-◌, ◌%◌, ◌≤◌}
use mathlib.Core.Path.{◌≡◌, sym, ap, ap₂, ◌∙◌}
use mathlib.Core.Bool.{true}
use mathlib.Core.List.Memᴰ
use mathlib.Core.List.{List, ◌++◌}
use native.Mathlib.Omega.{arith}
use lib.ListN.{length, get_or}
use Rattle.lists.specs.Some.{◌∈◌}
use Rattle.lists.proofs.RunLaws.{run_at}
use Rattle.planning.specs.Sets.{member_count}
use Rattle.minimal.specs.Minimal.{number_in}
use Rattle.block.specs.declared.deal.DealWords.{DealWords}
use Rattle.block.specs.Words.{word_at}
use Rattle.block.specs.Deals.{marks_sets}
use Rattle.block.specs.declared.Label.{Label}
use Rattle.block.specs.Layout.{label_of, values_of}
use Rattle.block.specs.Open.{TrueBlock}
use Rattle.block.proofs.Laws.{written-words, piece_tells}
use Rattle.dealing.specs.Deal.{Deal}
use Rattle.bysets.specs.Cards.{set_block_for, block_by, sets_of, sets_held, set_values, own_values, set_label, set_block, set_blocks}
use Rattle.bysets.specs.Cards as cards
use Rattle.bysets.proofs.MadeLaws.{InRange, who_holds, buildable, blocks_open}
use Rattle.bysets.proofs.ByteLaws.{card-long}
use Rattle.pile.specs.Blocks.{blocks, rest_from, In, deal_at}
use Rattle.joining.specs.Pile.{own_block, own_width, in_sets, set_at, pieces_at, number_at, value_of}
use Rattle.joining.specs.Laws.{Sound}
use Rattle.joining.proofs.HeapLaws.{own_in}
use Rattle.demands.specs.Group.{Member}
use Rattle.demands.specs.BySets.{SetCards}
use Rattle.demands.proofs.BlockLaws.{label_deal}
use Rattle.demands.proofs.LaidLaws.{laid}

-- b begins with the block of set `which` on the card of a member
pub record Theirs (d : Deal) (g : ℕ) (b : List ℕ) : Type 0 where
  pub who : ℕ
  pub which : ℕ
  pub in_group : Member d g who
  pub has : which ∈ sets_held d who
  pub label : label_of b ≡ set_label d who which
  pub values : values_of b ≡ own_values d who which
  pub is_true : TrueBlock b

-- whole blocks, at most 560, each of a member's piece, and each such piece in some block
pub record Reads (d : Deal) (g : ℕ) (pile : List ℕ) : Type 0 where
  pub whole : length pile % 512 ≡ 0
  pub few : blocks pile ≤ 560
  pub theirs : (a : ℕ) → In pile a → Theirs d g (rest_from pile a)
  pub all : (i s : ℕ) → Member d g i → s ∈ sets_held d i → (a : ℕ) × In pile a × (set_at pile a ≡ s) × (number_at pile a ≡ number_in (cards.set_at d s) i)

-- ---- from the bytes to the blocks
-- what begins with the block of set s on the card of the member i
begins : (d : Deal) → InRange d → (g i s : ℕ) → Member d g i → s ∈ sets_held d i → (b rest : List ℕ) → b ≡ set_block d i s ++ rest → Theirs d g b
unfolding set_block block_by set_block_for set_label set_values
begins d f g i s m has b rest e =
    let w = written-words (set_label d i s) (own_values d i s) rest (buildable d f i m.least m.most s has) in
    record {
      who = i;
      which = s;
      in_group = m;
      has = has;
      label = ap label_of e ∙ w.1;
      values = ap values_of e ∙ w.2;
      is_true = rw e (blocks_open d f i m.least m.most s has rest).0;
    }

module _ {d : Deal} {g : ℕ} {b : List ℕ} (t : Theirs d g b) where
  pub set_is : word_at b 25 ≡ t.which
  unfolding set_label
  set_is = ap (λ (l : Label). l.set) t.label

  count-is : word_at b 5 ≡ member_count (cards.set_at d t.which)
  unfolding set_label
  count-is = ap (λ (l : Label). l.pieces) t.label

  pub number_is : word_at b 7 ≡ number_in (cards.set_at d t.which) t.who
  unfolding set_label
  number_is = ap (λ (l : Label). l.piece) t.label

  width_is : word_at b 6 ≡ length d.secret
  unfolding set_label
  width_is = ap (λ (l : Label). l.width) t.label

  value-is : (i : ℕ) → 1 ≤ i → i ≤ length d.secret → word_at b (7 + i) ≡ get_or (own_values d t.who t.which) (i - 1) 0
  unfolding values_of
  value-is i l u =
      sym (run_at (λ v. word_at b (7 + v)) (word_at b 6) i l (omega (arith, width_is))) ∙ ap (λ (vs : List ℕ). get_or vs (i - 1) 0) t.values

pub reads : (d : Deal) → InRange d → (g : ℕ) (pile : List ℕ) → SetCards d g pile → Reads d g pile
unfolding set_blocks begins
reads d f g pile w =
    let l = laid (set_blocks d) (card-long d) (Member d g) pile w in
    record {
      whole = l.whole;
      few = l.few;
      theirs = λ a h.
          let r = l.theirs a h in
          let s = Memᴰ.of_map (set_block d r.0) (sets_held d r.0) r.3 in
          begins d f g r.0 s.0 r.2 s.1 (rest_from pile a) r.4.rest (r.4.is ∙ ap (λ (x : List ℕ). x ++ r.4.rest) (sym s.2));
      all = λ i s m has.
          let r = l.all i (set_block d i s) m (Memᴰ.map (set_block d i) has) in
          let t = begins d f g i s m has (rest_from pile r.0) r.1.rest r.1.is in
          (r.0, r.1.inside, set_is t, number_is t);
    }

-- ---- from the blocks to what joining asks
module _ {d : Deal} {g : ℕ} {pile : List ℕ} (r : Reads d g pile) where
  -- a block's set is one of the deal's
  pub set_in : (a : ℕ) → In pile a → (1 ≤ set_at pile a) × (set_at pile a ≤ length (sets_of d))
  set_in a h =
      let t = r.theirs a h in
      let q = (who_holds d t.who t.which).0 t.has in
      (omega (arith, q.0, set_is t), omega (arith, q.1, set_is t))

  -- how many pieces it says that its set has
  pub count-told : (a : ℕ) → In pile a → pieces_at pile a ≡ member_count (cards.set_at d (set_at pile a))
  count-told a h = let t = r.theirs a h in count-is t ∙ ap (λ (s : ℕ). member_count (cards.set_at d s)) (sym (set_is t))

  -- value i of it is that of its piece of its set
  pub value-told : (a i : ℕ) → In pile a → 1 ≤ i → i ≤ length d.secret
      → value_of pile a i ≡ get_or (set_values d (set_at pile a) (number_at pile a)) (i - 1) 0
  value-told a i h l u =
      let t = r.theirs a h in
      value-is t i l u ∙ ap₂ (λ (s j : ℕ). get_or (set_values d s j) (i - 1) 0) (sym (set_is t)) (sym (number_is t))

  -- the words of the deal
  own-words : DealWords
  own-words = record { mark = 1988; number = d.number; people = d.policy.people; pieces = 0; width = length d.secret; year = d.year }

  deal_is : (a : ℕ) → In pile a → deal_at pile a ≡ own-words
  unfolding set_label own-words
  deal_is a h = ap label_deal (r.theirs a h).label

  pub by_sets_lem : 1 ≤ blocks pile → in_sets pile ≡ true
  unfolding own-words
  by_sets_lem some = ap (λ (w : DealWords). marks_sets w.mark) (deal_is (own_block pile) (own_in pile some))

  pub width-told : 1 ≤ blocks pile → own_width pile ≡ length d.secret
  unfolding own-words
  width-told some = ap (λ (w : DealWords). w.width) (deal_is (own_block pile) (own_in pile some))

  pub sound : Sound pile
  sound = record {
    whole = r.whole;
    few = r.few;
    blocks_true = record { block = λ a l h. (r.theirs a (l, h)).is_true };
    one_deal = λ a b h k. deal_is a h ∙ sym (deal_is b k);
    one_count = λ a b h k e. count-told a h ∙ ap (λ (s : ℕ). member_count (cards.set_at d s)) e ∙ sym (count-told b k);
    agree = λ a b h k e i l u.
        let v : i ≤ length d.secret = omega (arith, width-told (omega (arith, h.0, h.1))) in
        let mark = ap (λ (w : DealWords). w.mark) (deal_is a h ∙ sym (deal_is b k)) in
        let q = (piece_tells (rest_from pile a) (rest_from pile b) (r.theirs a h).is_true (r.theirs b k).is_true mark).0 e in
        value-told a i h l v ∙ ap₂ (λ (s j : ℕ). get_or (set_values d s j) (i - 1) 0) q.0 q.1 ∙ sym (value-told b i k l v);
  }
