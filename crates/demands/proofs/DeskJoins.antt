-- The pile of the blocks that a client's slots hold: it is sound, and joining it says what asking says. Assumes nothing.
use mathlib.Core.Path.{◌≡◌, refl, sym, ap, ap₂, ◌∙◌}
use mathlib.Core.Bool.{Bool, true, false, not, false≢true}
use mathlib.Core.List.{List, [], ◌∷◌, ◌++◌, Memᴰ}
use Prim.Native.Nat.{ℕ, suc, ◌+◌, ◌-◌, ◌*◌, ◌≤◌}
use native.Mathlib.Omega.{arith}
use lib.Dec.{eqb}
use lib.ListN.{length, get_or, drop}
use borrow.Author.Tests.{ne_eqb}
use Rattle.lists.specs.Places.{found, those}
use Rattle.lists.specs.Flat.{flat}
use Rattle.lists.proofs.Truth.{isn't}
use Rattle.lists.proofs.FirstLaws.{found_some, some-found}
use Rattle.lists.proofs.ThoseLaws.{those-same, those-few, at_in, in_at}
use Rattle.lists.proofs.RunLaws.{run-same}
use Rattle.lists.proofs.FlatLaws.{Long, flat-length, flat-drop}
use Rattle.answer.specs.Outcome.{Outcome, done, refused}
use Rattle.answer.specs.Checks.{first_fail}
use Rattle.answer.specs.Lent.{no_room, left}
use Rattle.answer.proofs.CheckLaws.{append-lines, passed-done, passed_one, passed_none, same_refusal}
use Rattle.field.specs.Joined.{joined}
use Rattle.field.specs.Secret.{column, secret_of}
use Rattle.block.specs.declared.deal.DealWords.{DealWords}
use Rattle.block.specs.Words.{word_at}
use Rattle.block.specs.Deals.{marks_sets}
use Rattle.block.specs.Layout.{piece_number}
use Rattle.block.proofs.RangeLaws.{first-set}
use Rattle.block.proofs.OnlyLaws.{only_true}
use Rattle.block.proofs.WordLaws.{word-front}
use Rattle.pile.specs.Blocks.{blocks, In, rest_from, word, deal_at, TrueBlocks}
use Rattle.pile.proofs.PileLaws.{rest_long}
use Rattle.joining.specs.Pile.{own_block, own_deal, own_width, in_sets, pieces_at, number_at, piece_at, place_of, own_pieces, value_of, value_at, present}
use Rattle.joining.specs.Checks.{short}
use Rattle.joining.specs.Secret.{secret}
use Rattle.joining.specs.Joined.{joining, joined_into}
use Rattle.joining.specs.Laws.{Sound}
use Rattle.joining.proofs.HeapLaws.{own_in}
use Rattle.joining.proofs.ChosenLaws.{place-has, place-held, first_pieces, first-place}
use Rattle.joining.proofs.ShortLaws.{short-first}
use Rattle.joining.proofs.SoundLaws.{sound_then}
use Rattle.desk.specs.declared.Opening.{Opening}
use Rattle.desk.specs.Opens.{accepted, opening_of}
use Rattle.desk.specs.Slots.{value_in, keeps, distinct, secret_for}
use Rattle.desk.specs.Lines.{ask_lines, ask_says, ask_into, close_lines}
use Rattle.desk.specs.Inner.{AllKept}
use Rattle.desk.specs.History.{Client}
use Rattle.desk.proofs.WordLaws.{ranged, is_client_lem, alike_same}
use Rattle.desk.proofs.ChainLaws.{from_short, is-short, ask_passed}
use Rattle.demands.proofs.BlockLaws.{first_count}
use Rattle.demands.proofs.DeskHolds.{Holds}

-- the words of an opening, as those of a deal
abbrev as_deal : Opening → DealWords
as_deal o = record { mark = 1987; number = o.deal; people = o.people; pieces = o.pieces; width = o.width; year = o.year }

module _ (slots : List ℕ) (o : Opening) (c : ℕ) (bs : List (List ℕ)) (who : Client c) (good : accepted o ≡ true) (h : Holds slots o c bs) where
  long : Long 512 bs
  long = record { long = λ b m. (h.each b m).long }

  size : length (flat bs) ≡ 512 * length bs
  size = flat-length bs long

  how_many : blocks (flat bs) ≡ length bs
  unfolding blocks
  how_many = omega (arith, size)

  few : length bs ≤ o.pieces
  unfolding distinct
  few = omega (arith, h.count, those-few (keeps slots c o.width) 1 o.pieces)

  -- block a of the pile has the words of its block
  pub record At (a : ℕ) (b : List ℕ) : Type 0 where
    pub words : (i : ℕ) → 1 ≤ i → i ≤ 256 → word (flat bs) a i ≡ word_at b i

  placed : (a : ℕ) → 1 ≤ a → a ≤ length bs → (b : List ℕ) → Memᴰ b bs → get_or bs (a - 1) [] ≡ b → At a b
  unfolding rest_from
  placed a l m b i e =
      let r = flat-drop bs long (a - 1) (omega arith) in
      let q : drop (512 * (a - 1)) (flat bs) ≡ b ++ r.0 = r.1 ∙ ap (λ (x : List ℕ). x ++ r.0) e in
      record { words = λ j u v. ap (λ (x : List ℕ). word_at x j) q ∙ word-front b r.0 j u (omega (arith, (h.each b i).long)) }

  block_of : (a : ℕ) → In (flat bs) a → (b : List ℕ) × Memᴰ b bs × At a b
  block_of a p =
      let m : a ≤ length bs = omega (arith, p.1, how_many) in
      let b = get_or bs (a - 1) [] in
      let i = at_in [] bs (a - 1) (omega (arith, p.0)) in
      (b, i, placed a p.0 m b i refl)

  place_of_lem : (b : List ℕ) → Memᴰ b bs → (a : ℕ) × In (flat bs) a × At a b
  place_of_lem b i =
      let r = in_at [] bs b i in
      let e : suc r.0 - 1 ≡ r.0 = omega arith in
      (suc r.0, (omega arith, omega (arith, r.1, how_many)), placed (suc r.0) (omega arith) r.1 b i (ap (λ (x : ℕ). get_or bs x []) e ∙ r.2))

  deal_of : (a : ℕ) → In (flat bs) a → deal_at (flat bs) a ≡ as_deal o
  deal_of a p =
      let r = block_of a p in
      let w = r.2.words in
      let f = h.each r.0 r.1 in
      let mark : word (flat bs) a 1 ≡ 1987 = w 1 (omega arith) (omega arith) ∙ f.mark in
      let pieces : (deal_at (flat bs) a).pieces ≡ word_at r.0 5 = first_count (rest_from (flat bs) a) mark ∙ w 5 (omega arith) (omega arith) in
      let same : deal_at (flat bs) a ≡ as_deal (opening_of r.0)
      = λ i.
      record {
        mark = mark i;
        number = w 2 (omega arith) (omega arith) i;
        people = w 4 (omega arith) (omega arith) i;
        pieces = pieces i;
        width = w 6 (omega arith) (omega arith) i;
        year = w 24 (omega arith) (omega arith) i;
      } in
      same ∙ ap as_deal (alike_same (opening_of r.0) o f.deal)

  count-is : (a : ℕ) → In (flat bs) a → pieces_at (flat bs) a ≡ o.pieces
  count-is a p =
      let r = block_of a p in
      r.2.words 5 (omega arith) (omega arith) ∙ ap (λ (x : Opening). x.pieces) (alike_same (opening_of r.0) o (h.each r.0 r.1).deal)

  -- no block is of a set, so its piece is that of its number
  piece_is : (a : ℕ) → In (flat bs) a → piece_at (flat bs) a ≡ number_at (flat bs) a
  piece_is a p =
      let r = block_of a p in
      let f = h.each r.0 r.1 in
      omega (arith, r.2.words 25 (omega arith) (omega arith), first-set f.block f.mark)

  -- value i of block a, by the slot of its piece
  value-is : (a i : ℕ) → In (flat bs) a → 1 ≤ i → i ≤ o.width → value_of (flat bs) a i ≡ value_in slots c (number_at (flat bs) a) i
  value-is a i p l u =
      let r = block_of a p in
      let w = (ranged o good).width.1 in
      r.2.words (7 + i) (omega arith) (omega arith) ∙ sym (h.values r.0 r.1 i l u)
      ∙ ap (λ (j : ℕ). value_in slots c j i) (sym (r.2.words 7 (omega arith) (omega arith)))

  trues : TrueBlocks (flat bs)
  trues = record {
    block = λ a l m.
        let r = block_of a (l, m) in
        only_true r.0 (rest_from (flat bs) a) (λ i u v. sym (r.2.words i u v)) (h.each r.0 r.1).block (rest_long (flat bs) a l m);
  }

  module _ (some : 1 ≤ length bs) where
    own : In (flat bs) (own_block (flat bs))
    own = own_in (flat bs) (omega (arith, how_many))

    not_sets : in_sets (flat bs) ≡ false
    not_sets = ap (λ (d : DealWords). marks_sets d.mark) (deal_of (own_block (flat bs)) own)

    deal_pieces_lem : (own_deal (flat bs)).pieces ≡ o.pieces
    deal_pieces_lem = ap (λ (d : DealWords). d.pieces) (deal_of (own_block (flat bs)) own)

    pieces_are : own_pieces (flat bs) ≡ o.pieces
    pieces_are = first_pieces (flat bs) not_sets ∙ deal_pieces_lem

    width_is : own_width (flat bs) ≡ o.width
    width_is = ap (λ (d : DealWords). d.width) (deal_of (own_block (flat bs)) own)

    sound : Sound (flat bs)
    sound = record {
      whole = omega (arith, size);
      few = omega (arith, how_many, few, (ranged o good).pieces.1);
      blocks_true = trues;
      one_deal = λ a b p q. deal_of a p ∙ sym (deal_of b q);
      one_count = λ a b p q e. count-is a p ∙ sym (count-is b q);
      agree = λ a b p q e i l m.
          let u : i ≤ o.width = omega (arith, width_is) in
          value-is a i p l u ∙ ap (λ (j : ℕ). value_in slots c j i) (sym (piece_is a p) ∙ e ∙ piece_is b q) ∙ sym (value-is b i q l u);
    }

    -- a piece is in the pile exactly where it is kept
    found-kept : (j : ℕ) → 1 ≤ j → j ≤ o.pieces → (x : Bool) → keeps slots c o.width j ≡ x → found (place_of (flat bs) j) ≡ x
    found-kept j l m true t =
        let r = h.back j l m t in
        let a = place_of_lem r.0 r.1 in
        let g = place-held (flat bs) j a.0 a.1 (piece_is a.0 a.1 ∙ a.2.words 7 (omega arith) (omega arith) ∙ r.2) in
        found_some {a = place_of (flat bs) j} (λ z. omega arith)
    found-kept j l m false t =
        isn't (λ e.
        let p = place-has (flat bs) j (some-found (place_of (flat bs) j) e) in
        let r = block_of (place_of (flat bs) j) p.0 in
        let q : piece_number r.0 ≡ j = sym (r.2.words 7 (omega arith) (omega arith)) ∙ sym (piece_is (place_of (flat bs) j) p.0) ∙ p.1 in
        false≢true (sym t ∙ ap (keeps slots c o.width) (sym q) ∙ h.kept r.0 r.1))

    present-is : length (present (flat bs)) ≡ distinct slots o c
    unfolding present distinct
    present-is =
        ap (λ (k : ℕ). length (those (λ j. found (place_of (flat bs) j)) 1 k)) deal_pieces_lem
        ∙ ap length (those-same (λ j. found (place_of (flat bs) j)) (keeps slots c o.width) 1 o.pieces (λ j l m. found-kept j l (omega arith) (keeps slots c o.width j) refl))

    -- SHORT and ROOM of the pile are those of asking
    rest_is : (room : ℕ)
        → first_fail (short (flat bs) ∷ []) (first_fail (no_room (own_width (flat bs)) (own_width (flat bs)) room ∷ []) (done (own_width (flat bs))))
        ≡ first_fail (from_short slots o c room) (done o.width)
    unfolding first_fail no_room
    rest_is room =
        let z : eqb (blocks (flat bs)) 0 ≡ false = ne_eqb (blocks (flat bs)) 0 (λ e. omega (arith, how_many)) in
        rw (short-first (flat bs) not_sets, z, present-is, deal_pieces_lem, width_is)

  ask_is : (room : ℕ) → ask_says slots o c room ≡ first_fail (from_short slots o c room) (done o.width)
  unfolding ask_says ask_lines close_lines
  ask_is room =
      append-lines (close_lines o c) (from_short slots o c room) (done o.width)
      ∙ passed-done (close_lines o c) (first_fail (from_short slots o c room) (done o.width)) (passed_one (ap not (is_client_lem c who)) (passed_one (ap not good) passed_none))

  module _ (some : 1 ≤ length bs) where
    pub says_same : (room : ℕ) → ask_says slots o c room ≡ joining (flat bs) room
    says_same room = ask_is room ∙ sym (sound_then (flat bs) (sound some) room ∙ rest_is some room)

    -- the secret, where every piece is kept
    secret-same : AllKept slots o c → secret_for slots o c ≡ secret (flat bs)
    unfolding secret_of column
    secret-same k =
        let at : (j : ℕ) → 1 ≤ j → j ≤ o.pieces → In (flat bs) (place_of (flat bs) j) × (piece_at (flat bs) (place_of (flat bs) j) ≡ j)
        = λ j l m. place-has (flat bs) j (some-found (place_of (flat bs) j) (found-kept some j l m true (k.all j l m))) in
        run-same (λ i. joined (column (value_in slots c) o.pieces i)) (λ i. joined (column (value_at (flat bs)) o.pieces i)) o.width
        (λ i l m. ap joined (run-same (λ j. value_in slots c j i) (λ j. value_at (flat bs) j i) o.pieces
        (λ j u v.
        let q = at j u v in
        sym (ap (λ (a : ℕ). value_of (flat bs) a i) (first-place (flat bs) (not_sets some) j)
        ∙ value-is (place_of (flat bs) j) i q.0 l m
        ∙ ap (λ (x : ℕ). value_in slots c x i) (sym (piece_is (place_of (flat bs) j) q.0) ∙ q.1)))))
        ∙ ap₂ (λ (k w : ℕ). secret_of (value_at (flat bs)) k w) (sym (pieces_are some)) (sym (width_is some))

    pub into_same : (old : List ℕ) → ask_into slots o c old ≡ joined_into (flat bs) old
    unfolding ask_into joined_into
    into_same old = go (ask_says slots o c (length old)) refl ∙ ap (λ (z : Outcome ℕ). left z (secret (flat bs)) old) (says_same (length old))
      where
        go : (z : Outcome ℕ) → ask_says slots o c (length old) ≡ z → left z (secret_for slots o c) old ≡ left z (secret (flat bs)) old
        go (refused m a b) e = refl
        go (done v) e = ap (λ (l : List ℕ). left (done v) l old) (secret-same (ask_passed slots o c (length old) v e).kept)

  -- with no block: SHORT
  pub says_none : length bs ≡ 0 → (room : ℕ) → ask_says slots o c room ≡ refused 20 0 o.pieces
  says_none e room =
      ask_is room
      ∙ same_refusal (from_short slots o c room) 0 (done o.width) 20 (distinct slots o c) o.pieces
      (sym (is-short slots o c room (omega (arith, h.count, (ranged o good).pieces.0))))
      ∙ ap (λ (n : ℕ). refused 20 n o.pieces) (sym h.count ∙ e)
