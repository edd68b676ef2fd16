-- Where no block has the mark of a deal by sets, every former definition says what today's says: past the lines of the blocks all are of the first
-- scheme, a piece is its number, and past MIXED all say one number of pieces. Assumes nothing.
use mathlib.Core.Path.{◌≡◌, refl, sym, ap, ap₂, subst, ◌∙◌}
use mathlib.Core.Bool.{Bool, true, false, not, ◌&&◌, ◌||◌}
use mathlib.Core.Logic.{◌≢◌}
use mathlib.Core.List.{List, [], ◌∷◌, ◌++◌}
use Prim.Native.Nat.{ℕ, ◌+◌, ◌%◌, ◌≤◌}
use native.Mathlib.Decide.{dec_le}
use native.Mathlib.Omega.{arith}
use lib.Dec.{eqb, leb, ltb}
use lib.ListN.{length}
use borrow.Author.Tests.{eq-eqb, ne_eqb}
use Rattle.lists.specs.Places.{first_from, found, those}
use Rattle.lists.proofs.Truth.{and_none}
use Rattle.lists.proofs.EachLaws.{each_same}
use Rattle.lists.proofs.FirstLaws.{first-same, below_end, none_found}
use Rattle.lists.proofs.ThoseLaws.{those-same}
use Rattle.answer.specs.declared.Kind.TheVariants.{Header, Mixed, Conflict, Short}
use Rattle.answer.specs.Outcome.{done}
use Rattle.answer.specs.Checks.{Line, line, first_fail}
use Rattle.answer.specs.Lent.{no_room}
use Rattle.answer.specs.Laws.{Passed}
use Rattle.answer.proofs.CheckLaws.{passed, same_after}
use Rattle.field.specs.Secret.{secret_of}
use Rattle.block.specs.declared.deal.DealWords.{DealWords}
use Rattle.block.specs.declared.Label.{Label}
use Rattle.block.specs.Words.{word_at}
use Rattle.block.specs.Deals.{same_deal}
use Rattle.block.specs.Layout.{label_of}
use Rattle.block.specs.Laws.{Scheme, first, sets}
use Rattle.block.specs.Open.{slot_lines}
use Rattle.block.specs.Earlier.{former_same}
use Rattle.block.proofs.RangeLaws.{true_ranges}
use Rattle.block.proofs.Laws.{first_piece, earlier_layout, earlier_deals}
use Rattle.pile.specs.Blocks.{blocks, In, rest_from, word, deal_at, TrueBlocks}
use Rattle.pile.specs.Lines.{torn_pile, long_pile, every_block}
use Rattle.pile.proofs.LineLaws.{in_order, blocks_true}
use Rattle.joining.specs.Pile.{heap_of, heap, in_largest, own_block, own_deal, own_width, in_sets, set_at, pieces_at, number_at, piece_at, has_piece, place_of, own_pieces, own_place, value_of, differ_in, present}
use Rattle.joining.specs.Checks.{strays, mixed_at, other_values, other_count, contradicts, contradicted_by, conflict_at, conflict, short}
use Rattle.joining.specs.Joined.{joining}
use Rattle.joining.specs.Secret.{secret}
use Rattle.joining.specs.Laws.{JoinsAsBefore}
use Rattle.joining.specs.Earlier.{former_lines, former_blocks, former_heap, former_block, former_deal, former_stray, former_differ, former_by, former_conflict, former_place, former_present, former_joining, former_secret}
use Rattle.joining.proofs.HeapLaws.{own_in, none-strays}
use Rattle.joining.proofs.ChosenLaws.{first_pieces, first-place}
use Rattle.joining.proofs.ShortLaws.{nothing, short-first}
use Rattle.joining.proofs.PlaceLaws.{last, join_lines_lem}
use Rattle.joining.proofs.SoundLaws.{given-joins}

mark-first : (l : Label) → Scheme l → l.mark ≢ 1988 → l.mark ≡ 1987
mark-first l (first m z) h = m
mark-first l (sets m a b c) h = absurd (h m)

-- a pile of whole blocks that has none is empty
none_in : (pile : List ℕ) → length pile % 512 ≡ 0 → blocks pile ≡ 0 → in_sets pile ≡ false
unfolding blocks own_block first_from rest_from word_at
none_in pile w z = rw (nothing pile (omega arith))

-- the former lines past MIXED
abbrev former_rest : Bool → List ℕ → ℕ → List Line
former_rest dated pile room =
    let k = (former_deal dated pile).pieces in
    let w = (former_deal dated pile).width in
    let pieces = length (former_present dated pile) in
    line Conflict (found (former_conflict dated pile)) (former_conflict dated pile) (former_by dated pile (former_conflict dated pile))
    ∷ line Short (eqb (blocks pile) 0 || ltb pieces k) pieces k
    ∷ no_room w w room
    ∷ []

or_none : (x : Bool) → (x || false) ≡ x
or_none true = refl
or_none false = refl

module _ (dated : Bool) (pile : List ℕ) (other : (a : ℕ) → In pile a → word pile a 1 ≢ 1988) (none : dated ≡ false → (a : ℕ) → In pile a → word pile a 24 ≡ 0) where
  -- ---- the lines of the blocks
  blocks-same : every_block pile ≡ former_blocks dated pile
  unfolding every_block former_blocks
  blocks-same =
      in_order pile (λ a. former_lines dated (rest_from pile a) a) (blocks pile) 1
      (λ a l m.
      ap (λ (i : ℕ). slot_lines (rest_from pile a) a ++ line Header (found i) a i ∷ [])
      (earlier_layout dated (rest_from pile a) (other a (l, omega arith)) (λ e. none e a (l, omega arith))))

  no_sets : length pile % 512 ≡ 0 → in_sets pile ≡ false
  no_sets w = go (dec_le 1 (blocks pile))
    where
      go : Dec (1 ≤ blocks pile) → in_sets pile ≡ false
      go (yes some) = ne_eqb (own_deal pile).mark 1988 (other (own_block pile) (own_in pile some))
      go (no h) = none_in pile w (omega arith)

  -- ---- true blocks: deals, heaps and the own block
  module _ (t : TrueBlocks pile) where
    mark : (a : ℕ) → In pile a → word pile a 1 ≡ 1987
    mark a h = mark-first (label_of (rest_from pile a)) (true_ranges (t.block a h.0 h.1)).scheme (other a h)

    deal_same : (a b : ℕ) → In pile a → In pile b → same_deal (deal_at pile a) (deal_at pile b) ≡ former_same dated (deal_at pile a) (deal_at pile b)
    deal_same a b h g = earlier_deals dated (deal_at pile a) (deal_at pile b) (mark a h ∙ sym (mark b g)) (λ e. none e a h ∙ sym (none e b g))

    heap-same : (a : ℕ) → In pile a → heap pile a ≡ former_heap dated pile (deal_at pile a)
    unfolding heap_of former_heap
    heap-same a h =
        ap length
        (those-same (λ b. same_deal (deal_at pile b) (deal_at pile a)) (λ b. former_same dated (deal_at pile b) (deal_at pile a)) 1 (blocks pile)
        (λ b l m. deal_same b a (l, omega arith) h))

    own_same : own_block pile ≡ former_block dated pile
    unfolding own_block in_largest former_block
    own_same =
        first-same (in_largest pile) _ 1 (blocks pile + 1)
        (λ a l m.
        each_same (blocks pile) (λ b. leb (heap pile b) (heap pile a)) _ (λ b u v. ap₂ leb (heap-same b (u, v)) (heap-same a (l, omega arith))))

    own_deal_lem : own_deal pile ≡ former_deal dated pile
    own_deal_lem = ap (deal_at pile) own_same

    stray_same : mixed_at pile ≡ former_stray dated pile
    unfolding mixed_at former_stray
    stray_same =
        first-same (strays pile (own_deal pile)) _ 1 (blocks pile + 1)
        (λ a l m.
        ap not (deal_same a (own_block pile) (l, omega arith) (own_in pile (omega arith)))
        ∙ ap (λ (d : DealWords). not (former_same dated (deal_at pile a) d)) own_deal_lem)

    -- ---- pieces
    piece_is : (a : ℕ) → In pile a → piece_at pile a ≡ number_at pile a
    piece_is a h = first_piece (rest_from pile a) (t.block a h.0 h.1) (mark a h)

    place_same : (j : ℕ) → place_of pile j ≡ former_place pile j
    unfolding place_of former_place
    place_same j = first-same (has_piece pile j) _ 1 (blocks pile + 1) (λ a l m. ap (λ (n : ℕ). eqb n j) (piece_is a (l, omega arith)))

    differ_same : (a b : ℕ) → differ_in pile a b ≡ former_differ dated pile a b
    unfolding differ_in former_differ
    differ_same a b = rw own_same

    present-same : present pile ≡ former_present dated pile
    unfolding present former_present
    present-same = λ t. those (λ j. found (place_same j t)) 1 (own_deal_lem t).pieces

    -- ---- past MIXED
    module _ (z : mixed_at pile ≡ 0) where
      one_count : (a b : ℕ) → In pile a → In pile b → pieces_at pile a ≡ pieces_at pile b
      unfolding mixed_at
      one_count a b h g =
          let s = none-strays pile (own_deal pile) z in
          let q = ap (λ (d : DealWords). d.pieces) (s a h ∙ sym (s b g)) in
          rw (ne_eqb (word pile a 1) 1988 (other a h), ne_eqb (word pile b 1) 1988 (other b g)) at q

      contradicts-same : (a b : ℕ) → In pile a → In pile b
          → contradicts pile a b ≡ (eqb (number_at pile b) (number_at pile a) && found (former_differ dated pile a b))
      unfolding contradicts other_values other_count
      contradicts-same a b h g =
          let c : other_count pile a b ≡ false
          = ap (λ (x : Bool). eqb (set_at pile b) (set_at pile a) && not x) (eq-eqb (pieces_at pile b) (pieces_at pile a) (one_count b a g h))
          ∙ and_none (eqb (set_at pile b) (set_at pile a)) in
          let v : other_values pile a b ≡ (eqb (number_at pile b) (number_at pile a) && found (former_differ dated pile a b))
          = λ t. eqb (piece_is b g t) (piece_is a h t) && found (differ_same a b t) in
          ap₂ (λ (x y : Bool). x || y) v c ∙ or_none (eqb (number_at pile b) (number_at pile a) && found (former_differ dated pile a b))

      by_same : (a : ℕ) → a ≤ blocks pile → contradicted_by pile a ≡ former_by dated pile a
      unfolding contradicted_by former_by
      by_same a h = first-same (contradicts pile a) _ 1 a (λ b l m. contradicts-same a b (omega arith, h) (l, omega arith))

      conflict-same : conflict_at pile ≡ former_conflict dated pile
      unfolding conflict_at former_conflict
      conflict-same = first-same (λ a. found (contradicted_by pile a)) _ 1 (blocks pile + 1) (λ a l m. ap found (by_same a (omega arith)))

      conflict_by : contradicted_by pile (conflict_at pile) ≡ former_by dated pile (former_conflict dated pile)
      unfolding conflict_at
      conflict_by =
          by_same (conflict_at pile) (below_end (λ a. found (contradicted_by pile a)) (blocks pile)) ∙ ap (former_by dated pile) conflict-same

      rest_same : (room : ℕ) → in_sets pile ≡ false
          → first_fail (conflict pile ∷ short pile ∷ no_room (own_width pile) (own_width pile) room ∷ []) (done (own_width pile))
          ≡ first_fail (former_rest dated pile room) (done (former_deal dated pile).width)
      rest_same room e =
          ap (λ (l : Line). first_fail (conflict pile ∷ l ∷ no_room (own_width pile) (own_width pile) room ∷ []) (done (own_width pile))) (short-first pile e)
          ∙ (λ t.
          let n = length (present-same t) in
          let k = (own_deal_lem t).pieces in
          let w = (own_deal_lem t).width in
          first_fail
          (line Conflict (found (conflict-same t)) (conflict-same t) (conflict_by t)
          ∷ line Short (eqb (blocks pile) 0 || ltb n k) n k
          ∷ no_room w w room
          ∷ [])
          (done w))

  -- ---- the answer
  whole_same : (room : ℕ) → TrueBlocks pile → in_sets pile ≡ false
      → first_fail (last pile room) (done (own_width pile))
      ≡ first_fail (line Mixed (found (former_stray dated pile)) (former_stray dated pile) 0 ∷ former_rest dated pile room) (done (former_deal dated pile).width)
  whole_same room t e =
      let rest = conflict pile ∷ short pile ∷ no_room (own_width pile) (own_width pile) room ∷ [] in
      let stray = former_stray dated pile in
      ap (λ (i : ℕ). first_fail (line Mixed (found i) i 0 ∷ rest) (done (own_width pile))) (stray_same t)
      ∙ same_after (line Mixed (found stray) stray 0 ∷ []) rest (former_rest dated pile room) (done (own_width pile)) (done (former_deal dated pile).width)
      (λ q. rest_same t (stray_same t ∙ none_found stray (passed q).0) room e)

  answer-same : (room : ℕ) → joining pile room ≡ former_joining dated pile room
  unfolding joining former_joining
  answer-same room =
      let w = (former_deal dated pile).width in
      ap (λ (ls : List Line). first_fail ls (done (own_width pile))) (join_lines_lem pile room)
      ∙ ap (λ (ls : List Line). first_fail (torn_pile pile ∷ long_pile pile ∷ ls ++ last pile room) (done (own_width pile))) blocks-same
      ∙ same_after (torn_pile pile ∷ long_pile pile ∷ former_blocks dated pile) (last pile room)
      (line Mixed (found (former_stray dated pile)) (former_stray dated pile) 0 ∷ former_rest dated pile room) (done (own_width pile)) (done w)
      (λ q.
      let torn = passed q in
      let few = passed torn.1 in
      whole_same room (blocks_true pile (subst Passed (sym blocks-same) few.1)) (no_sets (none_found (length pile % 512) torn.0)))

  -- ---- and the secret
  secret-same : (room w : ℕ) → joining pile room ≡ done w → secret pile ≡ former_secret dated pile
  secret-same room w e =
      let a = (given-joins pile room w e).accepted in
      let t = a.full.unmixed.blocks_true in
      let n = no_sets a.whole in
      let place : (j : ℕ) → own_place pile j ≡ former_place pile j = λ j. first-place pile n j ∙ place_same t j in
      let k : own_pieces pile ≡ (former_deal dated pile).pieces = first_pieces pile n ∙ ap (λ (d : DealWords). d.pieces) (own_deal_lem t) in
      λ s. secret_of (λ j i. value_of pile (place j s) i) (k s) (own_deal_lem t s).width

  pub as_before : (room : ℕ) → JoinsAsBefore dated pile room
  as_before room = (answer-same room, secret-same room)
