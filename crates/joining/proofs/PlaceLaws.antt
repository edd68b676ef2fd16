-- At which places joining refuses: UNREAD, HEADER, MIXED and ROOM.
-- Assumes nothing.
use Prim.Native.Nat.{ℕ, zero, suc, ◌+◌, ◌≤◌, ◌<◌}
use mathlib.Core.Path.{◌≡◌, refl, sym, ap, ◌∙◌}
use mathlib.Core.Bool.{true, false, not}
use mathlib.Core.List.{List, [], ◌∷◌, ◌++◌, append_assoc}
use mathlib.Core.Logic.{⊎_elim}
use native.Mathlib.Nat.{le_refl, eq-or-lt_of_le}
use native.Mathlib.Omega.{arith}
use lib.Dec.{eqb}
use borrow.Author.Tests.{ltb-true}
use Rattle.lists.specs.Some.{some}
use Rattle.answer.specs.declared.Kind.TheVariants.{Room, Unread, Header, Mixed}
use Rattle.answer.specs.Outcome.{done, refused, number}
use Rattle.answer.specs.Checks.{Line, first_fail}
use Rattle.answer.specs.Lent.{no_room}
use Rattle.answer.specs.Laws.{Passed}
use Rattle.answer.proofs.CheckLaws.{passed_one, passed_both}
use Rattle.answer.proofs.WhichLaws.{Gives, Without, none-gives, this_or_later, after-others, only_one, first-is}
use Rattle.block.specs.Layout.{right_at, first_wrong}
use Rattle.block.specs.Open.{above, first_above, unread, check, header, slot_lines, block_lines, TrueBlock}
use Rattle.block.proofs.Laws.{true_means}
use Rattle.pile.specs.Blocks.{blocks, In, rest_from}
use Rattle.pile.specs.Lines.{torn_pile, long_pile, lines_from, every_block}
use Rattle.pile.proofs.PileLaws.{rest_long}
use Rattle.joining.specs.Pile.{own_deal, own_width}
use Rattle.joining.specs.Checks.{strays, mixed_at, mixed, conflict, short, whole_lines, pile_lines}
use Rattle.joining.specs.Joined.{join_lines, joining}
use Rattle.joining.proofs.ShortLaws.{short-number}
use Rattle.joining.specs.Laws.{UnreadPlaces, HeaderPlaces, MixedPlaces, RoomPlaces}

module _ (pile : List ℕ) where
  -- the lines after those of the blocks
  abbrev pub last : ℕ → List Line
  last room = mixed pile ∷ conflict pile ∷ short pile ∷ no_room (own_width pile) (own_width pile) room ∷ []

  pub join_lines_lem : (room : ℕ) → join_lines pile room ≡ torn_pile pile ∷ long_pile pile ∷ every_block pile ++ last room
  unfolding join_lines pile_lines
  join_lines_lem room =
      ap (λ (ls : List Line). torn_pile pile ∷ long_pile pile ∷ ls)
      (append_assoc (every_block pile) (whole_lines pile) (no_room (own_width pile) (own_width pile) room ∷ []))

  -- those before that of ROOM have the numbers 18, 19 and 20
  whole-without : (m : ℕ) → eqb m 18 ≡ false → eqb m 19 ≡ false → eqb m 20 ≡ false → Without m (whole_lines pile)
  unfolding some
  whole-without m x y z = rw (short-number pile, x, y, z)

  last_without : (room m : ℕ) → eqb m 18 ≡ false → eqb m 19 ≡ false → eqb m 20 ≡ false → eqb m 12 ≡ false → Without m (last room)
  unfolding some no_room
  last_without room m x y z w = rw (short-number pile, x, y, z, w)

  -- ---- the lines of blocks have the numbers 15, 16 and 17
  pub blocks-without : (m n a : ℕ) → eqb m 15 ≡ false → eqb m 16 ≡ false → eqb m 17 ≡ false → Without m (lines_from pile a n)
  unfolding lines_from some
  blocks-without m zero a x y z = refl
  blocks-without m (suc n) a x y z = rw (x, y, z) (blocks-without m n (a + 1) x y z)

  module _ (room m a b : ℕ) (e : joining pile room ≡ refused m a b) where
    as_lines : first_fail (torn_pile pile ∷ long_pile pile ∷ every_block pile ++ last room) (done (own_width pile)) ≡ refused m a b
    unfolding joining
    as_lines = ap (λ (ls : List Line). first_fail ls (done (own_width pile))) (sym (join_lines_lem room)) ∙ e

    -- a refusal with another number is that of a line after them, which pass
    pub past_blocks : eqb m 13 ≡ false → eqb m 14 ≡ false → eqb m 15 ≡ false → eqb m 16 ≡ false → eqb m 17 ≡ false
        → Passed (torn_pile pile ∷ long_pile pile ∷ every_block pile) × (first_fail (last room) (done (own_width pile)) ≡ refused m a b)
    unfolding every_block some
    past_blocks t l x y z =
        after-others m (torn_pile pile ∷ long_pile pile ∷ every_block pile) (last room) (done (own_width pile)) a b as_lines
        (rw (t, l) (blocks-without m (blocks pile) 1 x y z))

-- ---- a refusal that one line of a block gives, with the block's number as its place a
record OneLine : Type 0 where
  of : List ℕ → ℕ → Line
  m : ℕ
  before : List ℕ → ℕ → List Line
  after : List ℕ → ℕ → List Line
  all : (b : List ℕ) (a : ℕ) → block_lines b a ≡ before b a ++ of b a ∷ after b a
  own : (b : List ℕ) (a : ℕ) → (of b a).a ≡ a
  none_before : (b : List ℕ) (a : ℕ) → Without m (before b a)
  none_after : (b : List ℕ) (a : ℕ) → Without m (after b a)

the_unread : OneLine
unfolding some
the_unread = record {
  of = unread;
  m = number Unread;
  before = λ b a. [];
  after = λ b a. check b a ∷ header b a ∷ [];
  all = λ b a. refl;
  own = λ b a. refl;
  none_before = λ b a. refl;
  none_after = λ b a. refl;
}

the_header : OneLine
unfolding some
the_header = record {
  of = header;
  m = number Header;
  before = slot_lines;
  after = λ b a. [];
  all = λ b a. refl;
  own = λ b a. refl;
  none_before = λ b a. refl;
  none_after = λ b a. refl;
}

module _ (pile : List ℕ) (o : OneLine) where
  -- of the n blocks from block c on, block a gives it, and those before block a pass
  record GivenIn (c n a b : ℕ) : Type 0 where
    from : c ≤ a
    to : a < c + n
    passed : (k : ℕ) → c ≤ k → k < a → Passed (block_lines (rest_from pile k) k)
    given : (o.of (rest_from pile a) a).given ≡ true
    word : (o.of (rest_from pile a) a).b ≡ b

  -- the lines of a block and whatever follows, cut at that line
  cut : (b : List ℕ) (a : ℕ) (rest : List Line) → block_lines b a ++ rest ≡ o.before b a ++ o.of b a ∷ (o.after b a ++ rest)
  cut b a rest = ap (λ (ls : List Line). ls ++ rest) (o.all b a) ∙ append_assoc (o.before b a) (o.of b a ∷ o.after b a) rest

  given_in : (n c : ℕ) (ls : List Line) (v a b : ℕ) → first_fail (lines_from pile c n ++ ls) (done v) ≡ refused o.m a b
      → Without o.m ls → GivenIn c n a b
  unfolding lines_from
  given_in zero c ls v a b e w = absurd (none-gives o.m ls v a b e w)
  given_in (suc n) c ls v a b e w =
      let block = rest_from pile c in
      let rest = lines_from pile (c + 1) n ++ ls in
      let lines = ap (λ (ks : List Line). first_fail ks (done v)) (sym (cut block c rest)) ∙ e in
      let r = after-others o.m (o.before block c) (o.of block c ∷ (o.after block c ++ rest)) (done v) a b lines (o.none_before block c) in
      ⊎_elim
      (λ (g : Gives (o.of block c) o.m a b).
      let same : c ≡ a = sym (o.own block c) ∙ g.a-is in
      rw (← same) (record { from = le_refl c; to = omega arith; passed = λ k l u. absurd (omega arith); given = g.given; word = g.b-is }))
      (λ (s : ((o.of block c).given ≡ false) × (first_fail (o.after block c ++ rest) (done v) ≡ refused o.m a b)).
      let t = after-others o.m (o.after block c) rest (done v) a b s.1 (o.none_after block c) in
      let h = given_in n (c + 1) ls v a b t.1 w in
      let whole : Passed (block_lines block c) = rw (o.all block c) (passed_both (o.before block c) r.0 (passed_one s.0 t.0)) in
      record {
        from = omega (arith, h.from);
        to = omega (arith, h.to);
        passed = λ k l u. ⊎_elim (λ (same : c ≡ k). rw (← same) whole) (λ (less : c < k). h.passed k (omega arith) u) (eq-or-lt_of_le l);
        given = h.given;
        word = h.word;
      })
      (this_or_later o.m (o.of block c) (o.after block c ++ rest) (done v) a b r.1)

  -- of the whole pile: the blocks before it are true
  record GivenAt (a b : ℕ) : Type 0 where
    in_pile : In pile a
    trues : (c : ℕ) → 1 ≤ c → c < a → TrueBlock (rest_from pile c)
    given : (o.of (rest_from pile a) a).given ≡ true
    word : (o.of (rest_from pile a) a).b ≡ b

  given-at : (room a b : ℕ) → joining pile room ≡ refused o.m a b → Without o.m (torn_pile pile ∷ long_pile pile ∷ []) → Without o.m (last pile room)
      → GivenAt a b
  unfolding every_block
  given-at room a b e early late =
      let lines = as_lines pile room o.m a b e in
      let inside = (after-others o.m (torn_pile pile ∷ long_pile pile ∷ []) (every_block pile ++ last pile room) (done (own_width pile)) a b lines early).1 in
      let h = given_in (blocks pile) 1 (last pile room) (own_width pile) a b inside late in
      record {
        in_pile = (h.from, omega (arith, h.to));
        trues = λ c l u. (true_means (rest_from pile c) c).1 (rest_long pile c l (omega (arith, h.to))) (h.passed c l u);
        given = h.given;
        word = h.word;
      }

pub unread-places : UnreadPlaces
unfolding the_unread first_above no_room some
unread-places pile room a b e =
    let h = given-at pile the_unread room a b e refl (last_without pile room (number Unread) refl refl refl refl) in
    (h.in_pile, h.trues, first-is (above (rest_from pile a)) 256 h.given h.word)

pub header-places : HeaderPlaces
unfolding the_header first_wrong no_room some
header-places pile room a b e =
    let h = given-at pile the_header room a b e refl (last_without pile room (number Header) refl refl refl refl) in
    (h.in_pile, h.trues, first-is (λ i. not (right_at (rest_from pile a) i)) 255 h.given h.word)

pub mixed-places : MixedPlaces
unfolding mixed_at no_room some
mixed-places pile room a b e =
    let after = (past_blocks pile room (number Mixed) a b e refl refl refl refl refl).1 in
    let g = (only_one (number Mixed) [] (mixed pile) _ (own_width pile) a b after refl (rw (short-number pile))).1 in
    (first-is (strays pile (own_deal pile)) (blocks pile) g.given g.a-is, sym g.b-is)

pub room-places : RoomPlaces
unfolding no_room some
room-places pile room a b e =
    let after = (past_blocks pile room (number Room) a b e refl refl refl refl refl).1 in
    let none = whole-without pile (number Room) refl refl refl in
    let g = (only_one (number Room) (whole_lines pile) (no_room (own_width pile) (own_width pile) room) [] (own_width pile) a b after none refl).1 in
    (sym g.a-is, rw (← g.a-is) (ltb-true _ _ g.given), sym g.b-is)
