-- What mending makes of one block, case by case, and how a word that was lost comes back. Assumes nothing.
use mathlib.Core.Path.{◌≡◌, refl, sym, ap, ◌∙◌}
use mathlib.Core.Bool.{cond, not}
use mathlib.Core.Logic.{⊎_elim, ◌≢◌}
use mathlib.Core.List.{List, [], ◌∷◌}
use Prim.Native.Nat.{ℕ, ◌+◌, ◌-◌, ◌*◌, ◌≤◌, ◌<◌}
use native.Mathlib.Omega.{arith}
use lib.Dec.{eqb}
use lib.ListN.{length, get_or}
use borrow.Author.Tests.{eq-eqb, ne_eqb}
use Rattle.std.specs.Prelude.{Option, Some, None}
use Rattle.lists.specs.Places.{those, placed}
use Rattle.lists.proofs.FirstLaws.{placed_some, placed_none, some_placed, none_placed}
use Rattle.pile.proofs.PileLaws.{placed_is}
use Rattle.lists.proofs.Truth.{same_or_not}
use Rattle.lists.proofs.ThoseLaws.{those-none, those_one}
use Rattle.block.specs.Words.{word_at, put_at, Small}
use Rattle.block.specs.Layout.{first_wrong}
use Rattle.block.specs.Open.{TrueBlock}
use Rattle.block.proofs.WordLaws.{length-put, word-put-same, word-put-other}
use Rattle.block.proofs.StoreLaws.{put-put, put_self}
use Rattle.block.proofs.SumLaws.{check-same}
use Rattle.block.proofs.OnlyLaws.{only_wrong}
use Rattle.block.proofs.LayoutLaws.{layout_of, of_layout}
use Rattle.salvage.specs.Mended.{dirty_words, sole, value_for, filled_in, kept, rebuilt, mended_block, CleanBut}
use Rattle.salvage.specs.Laws.{Bytes}
use Rattle.salvage.proofs.DirtyLaws.{sole_none, sole_one, dirty_none, dirty_one, dirty_two, One, one_dirty, sole_dirty}
use Rattle.salvage.proofs.ValueLaws.{value_low, value-right, value-only}

-- ---- `kept`, case by case
kept_at : (b : List ℕ) (i : ℕ) → i ≢ 0 → first_wrong (filled_in b i) ≡ 0 → kept b i ≡ i
unfolding kept
kept_at b i ne z = rw (ne_eqb i 0 ne, eq-eqb (first_wrong (filled_in b i)) 0 z)

kept-none : (b : List ℕ) (i : ℕ) → i ≡ 0 → kept b i ≡ 0
unfolding kept
kept-none b i e = rw (eq-eqb i 0 e)

kept_broken : (b : List ℕ) (i : ℕ) → i ≢ 0 → first_wrong (filled_in b i) ≢ 0 → kept b i ≡ 0
unfolding kept
kept_broken b i ne w = rw (ne_eqb i 0 ne, ne_eqb (first_wrong (filled_in b i)) 0 w)

kept-some : (b : List ℕ) (i : ℕ) → kept b i ≢ 0 → (kept b i ≡ i) × (i ≢ 0) × (first_wrong (filled_in b i) ≡ 0)
kept-some b i h =
    ⊎_elim (λ (e : i ≡ 0). absurd (h (kept-none b i e)))
    (λ (ne : i ≢ 0).
    ⊎_elim (λ (z : first_wrong (filled_in b i) ≡ 0). (kept_at b i ne z, ne, z))
    (λ (w : first_wrong (filled_in b i) ≢ 0). absurd (h (kept_broken b i ne w)))
    (same_or_not (first_wrong (filled_in b i)) 0))
    (same_or_not i 0)

module _ (b : List ℕ) where
  -- ---- `mended_block` and `rebuilt`, case by case
  pub mended_none : rebuilt b ≡ 0 → mended_block b ≡ b
  unfolding mended_block
  mended_none z = rw (eq-eqb (rebuilt b) 0 z)

  pub mended_some : (i : ℕ) → rebuilt b ≡ i → i ≢ 0 → mended_block b ≡ filled_in b i
  unfolding mended_block
  mended_some i e ne = rw (e, ne_eqb i 0 ne)

  pub rebuilt-some : rebuilt b ≢ 0 → One b (rebuilt b) × (first_wrong (filled_in b (rebuilt b)) ≡ 0)
  unfolding rebuilt
  rebuilt-some h =
      let r = kept-some b (sole (dirty_words b)) h in
      (rw r.0 (sole_dirty b r.1), rw r.0 r.2)

  pub rebuilt-none : sole (dirty_words b) ≡ 0 → rebuilt b ≡ 0
  unfolding rebuilt
  rebuilt-none z = kept-none b (sole (dirty_words b)) z

  pub rebuilt-at : (i : ℕ) → sole (dirty_words b) ≡ i → i ≢ 0 → first_wrong (filled_in b i) ≡ 0 → rebuilt b ≡ i
  unfolding rebuilt
  rebuilt-at i e ne z = ap (kept b) e ∙ kept_at b i ne z

  pub rebuilt_broken : (i : ℕ) → sole (dirty_words b) ≡ i → i ≢ 0 → first_wrong (filled_in b i) ≢ 0 → rebuilt b ≡ 0
  unfolding rebuilt
  rebuilt_broken i e ne w = ap (kept b) e ∙ kept_broken b i ne w

  -- ---- where nothing is done
  stays : sole (dirty_words b) ≡ 0 → (mended_block b ≡ b) × (rebuilt b ≡ 0)
  stays z = let r = rebuilt-none z in (mended_none r, r)

  pub clean_stays : Small b 256 → (mended_block b ≡ b) × (rebuilt b ≡ 0)
  clean_stays s = stays (sole_none (dirty_words b) (dirty_none b s.small))

  pub two_stay : (i j : ℕ) → 1 ≤ i → i ≤ 256 → 1 ≤ j → j ≤ 256 → i ≢ j → 32748 < word_at b i → 32748 < word_at b j
      → (mended_block b ≡ b) × (rebuilt b ≡ 0)
  two_stay i j l h m n ne x y = stays (dirty_two b i j l h m n ne x y)

  pub one_mends : (i : ℕ) → dirty_words b ≡ i ∷ []
      → (first_wrong (filled_in b i) ≡ 0 → (mended_block b ≡ filled_in b i) × (rebuilt b ≡ i))
      × (first_wrong (filled_in b i) ≢ 0 → (mended_block b ≡ b) × (rebuilt b ≡ 0))
  one_mends i e =
      let is = sole_one (dirty_words b) i e in
      let ne : i ≢ 0 = λ z. omega (arith, (one_dirty b i e).from) in (
        λ z. let r = rebuilt-at i is ne z in (mended_some i r ne, r),
        λ w. let r = rebuilt_broken i is ne w in (mended_none r, r),
      )

  -- ---- where something was done, the block is true
  filled_true : (i : ℕ) → 512 ≤ length b → One b i → first_wrong (filled_in b i) ≡ 0 → TrueBlock (filled_in b i)
  filled_true i long o z =
      let v = value_for b i in
      let room : 2 * i ≤ length b = omega (arith, o.to) in
      record {
        long = rw (length-put b i v) long;
        clean = record {
          small = λ k l h.
              ⊎_elim
              (λ (e : k ≡ i). rw (e, word-put-same b i v o.from room) (value_low b i long o.from o.to o.clean))
              (λ (ne : k ≢ i). rw (word-put-other b i v o.from room k l ne) (o.clean.small k l h ne))
              (same_or_not k i);
        };
        sum = value-right b i long o.from o.to o.clean;
        layout = layout_of (filled_in b i) z;
      }

  pub rebuilt_true : 512 ≤ length b → rebuilt b ≢ 0 → TrueBlock (mended_block b)
  rebuilt_true long h =
      let r = rebuilt-some h in
      rw (mended_some (rebuilt b) refl h) (filled_true (rebuilt b) long r.0 r.1)

  pub changed_true : 512 ≤ length b → mended_block b ≢ b → TrueBlock (mended_block b)
  changed_true long ne = rebuilt_true long (λ z. ne (mended_none z))

  -- ---- comparing the words before and after
  pub differs_one : 512 ≤ length b
      → those (λ k. not (eqb (word_at b k) (word_at (mended_block b) k))) 1 256 ≡ cond (eqb (rebuilt b) 0) [] (rebuilt b ∷ [])
  differs_one long = ⊎_elim none some (same_or_not (rebuilt b) 0)
    where
      none : rebuilt b ≡ 0 → those (λ k. not (eqb (word_at b k) (word_at (mended_block b) k))) 1 256 ≡ cond (eqb (rebuilt b) 0) [] (rebuilt b ∷ [])
      none z =
          rw (mended_none z, eq-eqb (rebuilt b) 0 z)
          (those-none (λ k. not (eqb (word_at b k) (word_at b k))) 1 256 (λ s l m. ap not (eq-eqb (word_at b s) (word_at b s) refl)))

      some : rebuilt b ≢ 0 → those (λ k. not (eqb (word_at b k) (word_at (mended_block b) k))) 1 256 ≡ cond (eqb (rebuilt b) 0) [] (rebuilt b ∷ [])
      some ne =
          let i = rebuilt b in
          let v = value_for b i in
          let o = (rebuilt-some ne).0 in
          let room : 2 * i ≤ length b = omega (arith, o.to) in
          let new : word_at (filled_in b i) i ≡ v = word-put-same b i v o.from room in
          let low : v ≤ 32748 = value_low b i long o.from o.to o.clean in
          rw (mended_some i refl ne, ne_eqb i 0 ne)
          (those_one (λ k. not (eqb (word_at b k) (word_at (filled_in b i) k))) 1 256 i o.from (omega (arith, o.to))
          (ap not (ne_eqb (word_at b i) (word_at (filled_in b i) i) (λ e. omega (arith, o.hot))))
          (λ s l m off. ap not (eq-eqb (word_at b s) (word_at (filled_in b i) s) (sym (word-put-other b i v o.from room s l off)))))

  -- ---- the code's three ends
  module _ {r : Option ℕ} (e : r ≡ placed (sole (dirty_words b))) where
    pub end_none : r ≡ None → (None ≡ placed (rebuilt b)) × (b ≡ mended_block b)
    end_none q = let s = stays (placed_none _ e q) in (none_placed s.1, sym s.0)

    module _ {i : ℕ} (some : r ≡ Some i) where
      is : sole (dirty_words b) ≡ i
      is = placed_some _ e some

      a_word : i ≢ 0
      a_word z = omega (arith, (placed_is _ e some).1, z)

      pub the_one : One b i
      the_one = rw is at (sole_dirty b (λ z. a_word (sym is ∙ z)))

      module _ (v : ℕ) (fits : v ≡ value_for b i) (new : List ℕ) (put : new ≡ put_at b i v) {s : Option ℕ} (q : s ≡ placed (first_wrong new)) where
        filled : new ≡ filled_in b i
        filled = put ∙ ap (put_at b i) fits

        -- no word is wrong with it
        pub end_done : s ≡ None → (Some i ≡ placed (rebuilt b)) × (new ≡ mended_block b)
        end_done none =
            let t = rebuilt-at i is a_word (ap first_wrong (sym filled) ∙ placed_none _ q none) in
            (some_placed t the_one.from, filled ∙ sym (mended_some i t a_word))

        -- one is, and the old word is put back
        pub end_back : {j : ℕ} → s ≡ Some j → (old : ℕ) → old ≡ word_at b i → (out : List ℕ) → out ≡ put_at new i old → get_or b (2 * (i - 1) + 1) 0 < 256
            → (None ≡ placed (rebuilt b)) × (out ≡ mended_block b)
        end_back wrong old o out back byte =
            let w = placed_is _ q wrong in
            let t = rebuilt_broken i is a_word (λ z. omega (arith, w.0, w.1, ap first_wrong filled ∙ z)) in
            (none_placed t, back ∙ rw (put, put-put b i v old, o) (put_self b i byte) ∙ sym (mended_none t))

pub mend_twice : (b : List ℕ) → 512 ≤ length b → mended_block (mended_block b) ≡ mended_block b
mend_twice b long =
    ⊎_elim (λ (z : rebuilt b ≡ 0). ap mended_block (mended_none b z))
    (λ (ne : rebuilt b ≢ 0). (clean_stays (mended_block b) (rebuilt_true b long ne).clean).0)
    (same_or_not (rebuilt b) 0)

-- ---- b is true, and v stands in the place of its word i
module _ (b : List ℕ) (i v : ℕ) (t : TrueBlock b) (from : 1 ≤ i) (to : i ≤ 256) (high : 32748 < v) where
  lost : List ℕ
  lost = put_at b i v

  back : List ℕ
  back = put_at lost i (word_at b i)

  room : 2 * i ≤ length b
  room = omega (arith, t.long)

  long : 512 ≤ length lost
  unfolding lost
  long = rw (length-put b i v) t.long

  clean : CleanBut lost i
  unfolding lost
  clean = record { small = λ k l h ne. rw (word-put-other b i v from room k l ne) (t.clean.small k l h) }

  hot : 32748 < word_at lost i
  unfolding lost
  hot = rw (word-put-same b i v from room) high

  -- what was in the word, stored again, gives all words back
  is-back : back ≡ put_at b i (word_at b i)
  unfolding back lost
  is-back = put-put b i v (word_at b i)

  words : (k : ℕ) → 1 ≤ k → word_at back k ≡ word_at b k
  words k l =
      rw is-back
      (⊎_elim (λ (e : k ≡ i). rw e (word-put-same b i (word_at b i) from room))
      (λ (ne : k ≢ i). word-put-other b i (word_at b i) from room k l ne) (same_or_not k i))

  value : word_at b i ≡ value_for lost i
  unfolding back
  value =
      value-only lost i long from to clean (word_at b i) (t.clean.small i from to)
      (check-same back b (λ k l h. words k l) ∙ t.sum ∙ sym (words 256 (omega arith)))

  filled-back : filled_in lost i ≡ back
  unfolding back
  filled-back = ap (put_at lost i) (sym value)

  nonzero : i ≢ 0
  nonzero e = omega arith

  pub restored_word : rebuilt (put_at b i v) ≡ i
  unfolding lost
  restored_word =
      rebuilt-at lost i (sole_one (dirty_words lost) i (dirty_one lost i from to hot clean)) nonzero
      (ap first_wrong filled-back ∙ only_wrong back b (λ k l h. words k l) ∙ of_layout b t.layout)

  mended_back : mended_block (put_at b i v) ≡ back
  unfolding lost
  mended_back = mended_some lost i restored_word nonzero ∙ filled-back

  pub restored_words : (k : ℕ) → 1 ≤ k → word_at (mended_block (put_at b i v)) k ≡ word_at b k
  restored_words k l = ap (λ (c : List ℕ). word_at c k) mended_back ∙ words k l

  pub restored_bytes : Bytes b → mended_block (put_at b i v) ≡ b
  restored_bytes y = mended_back ∙ is-back ∙ put_self b i (y.byte (2 * (i - 1) + 1))
