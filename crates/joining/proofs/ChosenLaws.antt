-- Which pieces are taken and where they lie: those of the lowest set that is complete, or in the first scheme those of the deal.
-- Assumes nothing.
use mathlib.Core.Path.{◌≡◌, refl, sym, ap, subst, ◌∙◌}
use mathlib.Core.Bool.{Bool, true, false}
use mathlib.Core.Logic.{⊎_elim}
use mathlib.Core.List.{List}
use Prim.Native.Nat.{ℕ, ◌+◌, ◌-◌, ◌*◌, ◌≤◌}
use native.Mathlib.Nat.{le_refl}
use native.Mathlib.Decide.{dec_le}
use native.Mathlib.Omega.{arith}
use lib.ListN.{length, take, drop, length-drop}
use lib.Seq.{length-take-le, get_or-take, get_or-drop}
use borrow.Author.Tests.{eq-eqb, eqb-true}
use Rattle.lists.specs.Run.{run}
use Rattle.lists.specs.Places.{first_in, found}
use Rattle.lists.specs.Some.{each}
use Rattle.lists.specs.Laws.{IsFirst}
use Rattle.lists.proofs.Truth.{never, decided, both, and_both}
use Rattle.lists.proofs.RunLaws.{run_length, run_is}
use Rattle.lists.proofs.EachLaws.{each_at, each_of}
use Rattle.lists.proofs.FirstLaws.{none_in, has_test, first_of, below_end, found_some, some-found}
use Rattle.lists.proofs.ThoseLaws.{those-few, those-all}
use Rattle.block.specs.Layout.{piece_in}
use Rattle.pile.specs.Blocks.{blocks, In, rest_from, word}
use Rattle.joining.specs.Pile.{own_block, own_deal, in_sets, set_at, pieces_at, number_at, piece_at, has_piece, place_of, place_in, set_pieces, complete, chosen, own_pieces, own_place, present}
use Rattle.joining.specs.Inner.{Unmixed, Full, own_places}
use Rattle.joining.specs.Laws.{Sound, ChosenLowest}
use Rattle.joining.proofs.HeapLaws.{own_in}
use Rattle.joining.proofs.PileLaws.{ranges, no_set_lem, deal_pieces_in, of_set}
use Rattle.joining.proofs.TableLaws.{place_at, place-most}

-- ---- the place of a piece is a block that has it, and a piece that some block has has a place
pub place-has : (pile : List ℕ) (j : ℕ) → 1 ≤ place_of pile j → In pile (place_of pile j) × (piece_at pile (place_of pile j) ≡ j)
unfolding place_of
place-has pile j h = (
  (h, place-most pile j),
  eqb-true (piece_at pile (place_of pile j)) j (has_test (has_piece pile j) 1 (blocks pile + 1) (λ z. omega (arith, h, z))).0,
)

pub place-held : (pile : List ℕ) (j a : ℕ) → In pile a → piece_at pile a ≡ j → 1 ≤ place_of pile j
unfolding place_of
place-held pile j a h e = (first_of (has_piece pile j) 1 (blocks pile + 1) a h.0 (omega (arith, h.1)) (eq-eqb (piece_at pile a) j e)).0.from

-- ---- the first scheme
module _ (pile : List ℕ) (e : in_sets pile ≡ false) where
  pub first-chosen : chosen pile ≡ 0
  unfolding chosen
  first-chosen = rw e

  pub first_pieces : own_pieces pile ≡ (own_deal pile).pieces
  unfolding own_pieces
  first_pieces = rw e

  pub first-place : (j : ℕ) → own_place pile j ≡ place_of pile j
  first-place j = let q : piece_in (chosen pile) j ≡ j = omega (arith, first-chosen) in ap (place_of pile) q

-- ---- a deal by sets
module _ (pile : List ℕ) (e : in_sets pile ≡ true) where
  pub sets-chosen : chosen pile ≡ first_in (complete pile) 1 71
  unfolding chosen
  sets-chosen = rw e

  pub sets-pieces : own_pieces pile ≡ set_pieces pile (chosen pile)
  unfolding own_pieces
  sets-pieces = rw e

  pub chosen-most : chosen pile ≤ 70
  chosen-most = rw sets-chosen (below_end (complete pile) 70)

pub chosen_lowest : ChosenLowest
chosen_lowest pile = (
  λ e l.
      let q = sets-chosen pile e in
      let t = has_test (complete pile) 1 71 (λ z. omega (arith, q, z, l)) in
      let f = (first_of (complete pile) 1 71 (first_in (complete pile) 1 71) t.1 (omega (arith, below_end (complete pile) 70)) t.0).0 in
      subst (IsFirst (complete pile) 1 71) (sym q) f,
  λ e z s l h. none_in (complete pile) 1 71 (le_refl 1) (sym (sets-chosen pile e) ∙ z) s l (omega arith),
  first-chosen pile,
)

-- a set is complete exactly where all its pieces have a place
pub complete-places : (pile : List ℕ) (s : ℕ) → complete pile s ≡ true
    → (1 ≤ place_in pile s 1) × ((j : ℕ) → 1 ≤ j → j ≤ set_pieces pile s → 1 ≤ place_in pile s j)
unfolding complete
complete-places pile s t =
    let f : ℕ → Bool = λ j. found (place_in pile s j) in
    let r = both (f 1) (each (set_pieces pile s) f) t in
    (some-found (place_in pile s 1) r.0, λ j l h. some-found (place_in pile s j) (each_at (set_pieces pile s) f r.1 j l h))

pub places-complete : (pile : List ℕ) (s : ℕ) → 1 ≤ place_in pile s 1 → ((j : ℕ) → 1 ≤ j → j ≤ set_pieces pile s → 1 ≤ place_in pile s j)
    → complete pile s ≡ true
unfolding complete
places-complete pile s p q =
    and_both (found_some {a = place_in pile s 1} (λ z. omega (arith, p, z)))
    (each_of (set_pieces pile s) (λ j. found (place_in pile s j)) (λ j l h. found_some {a = place_in pile s j} (λ z. omega (arith, q j l h, z))))

module _ {pile : List ℕ} (u : Unmixed pile) where
  -- where a piece is missing, block 1 speaks in its place
  no_block : (i : ℕ) → word pile 0 i ≡ word pile 1 i
  unfolding rest_from
  no_block i = refl

  pub pieces-some : (j : ℕ) → (1 ≤ pieces_at pile (place_of pile j)) × (pieces_at pile (place_of pile j) ≤ 70)
  pieces-some j = go (dec_le 1 (place_of pile j))
    where
      go : Dec (1 ≤ place_of pile j) → (1 ≤ pieces_at pile (place_of pile j)) × (pieces_at pile (place_of pile j) ≤ 70)
      go (yes h) = (ranges u (place_of pile j) (place-has pile j h).0).pieces
      go (no h) =
          let z : place_of pile j ≡ 0 = omega arith in
          let r = (ranges u 1 (le_refl 1, u.some)).pieces in
          let q = ap (pieces_at pile) z ∙ no_block 5 in
          (omega (arith, r.0, q), omega (arith, r.1, q))

  -- ---- by sets
  module _ (e : in_sets pile ≡ true) where
    -- the block of a piece is of its set, and has its number
    pub set-block : (s j : ℕ) → 1 ≤ s → 1 ≤ j → j ≤ 8 → 1 ≤ place_in pile s j
        → In pile (place_in pile s j) × (set_at pile (place_in pile s j) ≡ s) × (number_at pile (place_in pile s j) ≡ j)
    set-block s j from l h p =
        let r = place-has pile (piece_in s j) p in
        let t = of_set u e (place_in pile s j) r.0 in
        let n = (ranges u (place_in pile s j) r.0).piece in (
          r.0,
          omega (arith, r.1, t.from, t.few, n.0, n.1),
          omega (arith, r.1, t.from, t.few, n.0, n.1),
        )

    pub full-sets : 1 ≤ chosen pile → Full pile
    full-sets l =
        let c = complete-places pile (chosen pile) ((chosen_lowest pile).0 e l).has in
        let q = sets-pieces pile e in
        let k = pieces-some (piece_in (chosen pile) 1) in
        record {
          unmixed = u;
          pieces_in = (omega (arith, k.0, q), omega (arith, k.1, q));
          place = λ j a b. c.1 j a (omega (arith, b, q));
        }

  -- ---- the first scheme
  pub full-first : in_sets pile ≡ false → (own_deal pile).pieces ≤ length (present pile) → Full pile
  unfolding present
  full-first e h =
      let test : ℕ → Bool = λ j. found (place_of pile j) in
      let k = (own_deal pile).pieces in
      let q = first_pieces pile e in
      let r = deal_pieces_in u e in
      record {
        unmixed = u;
        pieces_in = (omega (arith, r.0, q), omega (arith, r.1, q));
        place = λ j a b.
            rw (first-place pile e j)
            (some-found (place_of pile j) (those-all test 1 k (omega (arith, h, those-few test 1 k)) j a (omega (arith, b, q))));
      }

-- a sound pile is not mixed
pub sound-unmixed : {pile : List ℕ} → Sound pile → 1 ≤ blocks pile → Unmixed pile
sound-unmixed {pile} s some = record {
  some = some;
  blocks_true = s.blocks_true;
  own_deal_lem = λ a h. s.one_deal a (own_block pile) h (own_in pile some);
}

-- ---- a pile with all pieces that are taken
module _ {pile : List ℕ} (f : Full pile) where
  module _ (e : in_sets pile ≡ true) where
    -- of a pile by sets a set is chosen: were none, its set 1 would be complete
    pub full-chosen : 1 ≤ chosen pile
    full-chosen = go (dec_le 1 (chosen pile))
      where
        go : Dec (1 ≤ chosen pile) → 1 ≤ chosen pile
        go (yes l) = l
        go (no l) =
            let z : chosen pile ≡ 0 = omega arith in
            let here : (j : ℕ) → own_place pile j ≡ place_in pile 1 j
            = λ j. let q : piece_in (chosen pile) j ≡ piece_in 1 j = omega (arith, z) in ap (place_of pile) q in
            let k : own_pieces pile ≡ set_pieces pile 1 = sets-pieces pile e ∙ ap (pieces_at pile) (here 1) in
            let place : (j : ℕ) → 1 ≤ j → j ≤ set_pieces pile 1 → 1 ≤ place_in pile 1 j
            = λ j a b. omega (arith, here j, f.place j a (omega (arith, b, k))) in
            absurd (never ((chosen_lowest pile).1 e z 1 (le_refl 1) (omega arith))
            (places-complete pile 1 (place 1 (le_refl 1) (omega (arith, k, f.pieces_in.0))) place))

    pub own-few : own_pieces pile ≤ 8
    own-few =
        let p = (place-has pile (piece_in (chosen pile) 1) (f.place 1 (le_refl 1) f.pieces_in.0)).0 in
        omega (arith, sets-pieces pile e, (of_set f.unmixed e (own_place pile 1) p).few)

  -- the block from which piece j is taken is of the chosen set, and has that number
  pub own_block_lem : (j : ℕ) → 1 ≤ j → j ≤ own_pieces pile
      → In pile (own_place pile j) × (set_at pile (own_place pile j) ≡ chosen pile) × (number_at pile (own_place pile j) ≡ j)
  own_block_lem j l h =
      ⊎_elim
      (λ (e : in_sets pile ≡ true). set-block f.unmixed e (chosen pile) j (full-chosen e) l (omega (arith, h, own-few e)) (f.place j l h))
      (λ (e : in_sets pile ≡ false).
      let r = place-has pile (piece_in (chosen pile) j) (f.place j l h) in
      let z = no_set_lem f.unmixed e (own_place pile j) r.0 in
      let c = first-chosen pile e in
      (r.0, z ∙ sym c, omega (arith, r.1, z, c)))
      (decided (in_sets pile))

  -- the places of these pieces lie in the table
  pub own-fits : 8 * (chosen pile - 1) + own_pieces pile ≤ 560
  own-fits =
      ⊎_elim
      (λ (e : in_sets pile ≡ true). omega (arith, chosen-most pile e, full-chosen e, own-few e))
      (λ (e : in_sets pile ≡ false). omega (arith, first-chosen pile e, f.pieces_in.1))
      (decided (in_sets pile))

  -- so these places are a part of it
  pub own_part : (table : List ℕ) (b k : ℕ) → table ≡ run (place_of pile) 1 560 → b ≡ 8 * (chosen pile - 1) → k ≡ own_pieces pile
      → take (b + k - b) (drop b table) ≡ own_places pile
  own_part table b k t e q =
      let n : b + k - b ≡ own_pieces pile = omega (arith, q) in
      let long : length (drop b table) ≡ 560 - b = length-drop b table ∙ ap (λ (x : ℕ). x - b) (ap length t ∙ run_length (place_of pile) 1 560) in
      run_is (own_place pile) (own_pieces pile) (take (b + k - b) (drop b table))
      (length-take-le (b + k - b) (drop b table) (omega (arith, long, n, e, own-fits)) ∙ n)
      (λ j l h.
      get_or-take (b + k - b) (drop b table) (j - 1) 0 (omega (arith, n))
      ∙ get_or-drop b table (j - 1) 0
      ∙ place_at pile table (b + (j - 1)) (piece_in (chosen pile) j) (omega (arith, e, own-fits)) (omega (arith, e)) t)
