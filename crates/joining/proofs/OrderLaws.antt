-- A pile with the blocks of another, in another order and repeated at will, joins to the same secret: only pieces and values count.
-- Assumes nothing.
use mathlib.Core.Path.{◌≡◌, sym, ap, ap₂, ◌∙◌}
use mathlib.Core.Bool.{true, false}
use mathlib.Core.Logic.{⊎_elim}
use mathlib.Core.List.{List}
use Prim.Native.Nat.{ℕ, ◌+◌, ◌%◌, ◌≤◌}
use native.Mathlib.Nat.{le_refl}
use native.Mathlib.Omega.{arith}
use lib.ListN.{length}
use Rattle.lists.proofs.Truth.{decided, alike}
use Rattle.lists.proofs.FirstLaws.{first-same}
use Rattle.lists.proofs.RunLaws.{run_is}
use Rattle.prime.specs.Prime.{p}
use Rattle.field.specs.Poly.{value}
use Rattle.field.specs.Joined.{joined}
use Rattle.field.specs.Secret.{column, secret_of}
use Rattle.field.proofs.SecretLaws.{secret-at, secret-length}
use Rattle.block.specs.declared.deal.DealWords.{DealWords}
use Rattle.block.specs.Deals.{marks_sets}
use Rattle.block.specs.Layout.{piece_in}
use Rattle.block.proofs.Laws.{only-words}
use Rattle.pile.specs.Blocks.{blocks, rest_from, TrueBlocks, deal_at}
use Rattle.pile.proofs.PileLaws.{rest_long}
use Rattle.joining.specs.Pile.{own_block, own_deal, own_width, in_sets, set_at, pieces_at, number_at, piece_at, complete, chosen, own_pieces, own_place, value_of, value_at}
use Rattle.joining.specs.Secret.{secret}
use Rattle.joining.specs.Laws.{Sound, HasSet, Joins, Fits, Alike, Among, Within}
use Rattle.joining.proofs.HeapLaws.{own_in}
use Rattle.joining.proofs.PileLaws.{width_in}
use Rattle.joining.proofs.ChosenLaws.{first-chosen, first_pieces, sets-chosen, sets-pieces, full-sets, full-chosen, own_block_lem, sound-unmixed}
use Rattle.joining.proofs.CompleteLaws.{complete-means}
use Rattle.joining.proofs.PolyLaws.{full, set-count, joined-secret}

-- blocks that are alike agree in their deal, set, piece and values
module _ {pile other : List ℕ} {a b : ℕ} (same : Alike pile a other b) where
  deal_same : deal_at pile a ≡ deal_at other b
  deal_same =
      rw (
        same.words 1 (omega arith) (omega arith) (λ e. omega arith),
        same.words 2 (omega arith) (omega arith) (λ e. omega arith),
        same.words 4 (omega arith) (omega arith) (λ e. omega arith),
        same.words 5 (omega arith) (omega arith) (λ e. omega arith),
        same.words 6 (omega arith) (omega arith) (λ e. omega arith),
        same.words 24 (omega arith) (omega arith) (λ e. omega arith),
      )

  set_same : set_at pile a ≡ set_at other b
  set_same = same.words 25 (omega arith) (omega arith) (λ e. omega arith)

  count_same : pieces_at pile a ≡ pieces_at other b
  count_same = same.words 5 (omega arith) (omega arith) (λ e. omega arith)

  number_same : number_at pile a ≡ number_at other b
  number_same = same.words 7 (omega arith) (omega arith) (λ e. omega arith)

  piece-same : piece_at pile a ≡ piece_at other b
  piece-same = ap₂ piece_in set_same number_same

  value_same : (i : ℕ) → i ≤ 16 → value_of pile a i ≡ value_of other b i
  value_same i h = same.words (7 + i) (omega arith) (omega arith) (λ e. omega arith)

-- a pile among whose blocks are those of the other has the sets that it has
set-among : (pile other : List ℕ) (s : ℕ) → Among pile other → Among other pile → HasSet pile s → HasSet other s
set-among pile other s g f h =
    let a = h.some in
    let b = g.block a.0 a.1 in
    record {
      some = (b.0, b.1, sym (set_same b.2) ∙ a.2);
      all = λ c i q j l m.
          let x = f.block c i in
          let y = h.all x.0 x.1 (sym (set_same x.2) ∙ q) j l (omega (arith, m, count_same x.2)) in
          let z = g.block y.0 y.1 in
          (z.0, z.1, sym (set_same z.2) ∙ y.2, sym (number_same z.2) ∙ y.3);
    }

module _ (pile other : List ℕ) (room w : ℕ) (t : Joins pile room w) (whole : length other % 512 ≡ 0) (few : blocks other ≤ 560) (true-other : TrueBlocks other)
    (g : Among pile other) (f : Among other pile) where
  some : 1 ≤ blocks other
  some = let x = g.block (own_block pile) (own_in pile t.some) in omega (arith, x.1.0, x.1.1)

  -- the other pile's own deal is that of this one
  same-own : own_deal other ≡ own_deal pile
  same-own =
      let x = f.block (own_block other) (own_in other some) in
      deal_same x.2 ∙ (sound-unmixed t.sound t.some).own_deal_lem x.0 x.1

  same_width : own_width other ≡ own_width pile
  same_width = ap (λ (d : DealWords). d.width) same-own

  same-scheme : in_sets other ≡ in_sets pile
  same-scheme = ap (λ (d : DealWords). marks_sets d.mark) same-own

  other-sound : Sound other
  other-sound =
      let wide = width_in (full pile room w t).unmixed in
      record {
        whole = whole;
        few = few;
        blocks_true = true-other;
        one_deal = λ a b h k.
            let x = f.block a h in
            let y = f.block b k in
            deal_same x.2 ∙ t.sound.one_deal x.0 y.0 x.1 y.1 ∙ sym (deal_same y.2);
        one_count = λ a b h k q.
            let x = f.block a h in
            let y = f.block b k in
            count_same x.2 ∙ t.sound.one_count x.0 y.0 x.1 y.1 (sym (set_same x.2) ∙ q ∙ set_same y.2) ∙ sym (count_same y.2);
        agree = λ a b h k q i l m.
            let x = f.block a h in
            let y = f.block b k in
            value_same x.2 i (omega (arith, same_width, wide.1))
            ∙ t.sound.agree x.0 y.0 x.1 y.1 (sym (piece-same x.2) ∙ q ∙ piece-same y.2) i l (omega (arith, same_width))
            ∙ sym (value_same y.2 i (omega (arith, same_width, wide.1)));
      }

  -- the same set is chosen, with as many pieces
  same-complete : in_sets pile ≡ true → (s : ℕ) → 1 ≤ s → s ≤ 70 → complete other s ≡ complete pile s
  same-complete e s l h =
      let x = complete-means pile s t.sound t.some e l h in
      let y = complete-means other s other-sound some (same-scheme ∙ e) l h in
      alike (λ c. x.1 (set-among other pile s f g (y.0 c))) (λ c. y.1 (set-among pile other s g f (x.0 c)))

  same_chosen : chosen other ≡ chosen pile
  same_chosen =
      ⊎_elim
      (λ (e : in_sets pile ≡ true).
      sets-chosen other (same-scheme ∙ e)
      ∙ first-same (complete other) (complete pile) 1 71 (λ s l h. same-complete e s l (omega arith))
      ∙ sym (sets-chosen pile e))
      (λ (e : in_sets pile ≡ false). first-chosen other (same-scheme ∙ e) ∙ sym (first-chosen pile e))
      (decided (in_sets pile))

  same-pieces : own_pieces other ≡ own_pieces pile
  same-pieces =
      ⊎_elim
      (λ (e : in_sets pile ≡ true).
      let d = same-scheme ∙ e in
      let h = full-sets (sound-unmixed other-sound some) d (omega (arith, same_chosen, full-chosen (full pile room w t) e)) in
      let b = own_block_lem h 1 (le_refl 1) h.pieces_in.0 in
      let x = f.block (own_place other 1) b.0 in
      sets-pieces other d ∙ count_same x.2 ∙ set-count pile room w t x.0 x.1 (sym (set_same x.2) ∙ b.1 ∙ same_chosen))
      (λ (e : in_sets pile ≡ false). first_pieces other (same-scheme ∙ e) ∙ ap (λ (d : DealWords). d.pieces) same-own ∙ sym (first_pieces pile e))
      (decided (in_sets pile))

  pub other-joins : Joins other room w
  other-joins = record {
    sound = other-sound;
    some = some;
    complete = λ j l m.
        let a = t.complete j l (omega (arith, m, same-pieces)) in
        let b = g.block a.0 a.1 in
        (b.0, b.1, sym (set_same b.2) ∙ a.2 ∙ sym same_chosen, sym (number_same b.2) ∙ a.3);
    fits = omega (arith, same_width, t.fits);
    is = same_width ∙ t.is;
  }

  -- a polynomial through the blocks of this pile goes through those of the other
  moved : (i : ℕ) (cs : List ℕ) → i ≤ own_width pile → Fits pile i cs → Fits other i cs
  moved i cs h m =
      let wide = width_in (full pile room w t).unmixed in
      record {
        degree = m.degree ∙ sym same-pieces;
        below = m.below;
        meets = λ a k q.
            let x = f.block a k in
            value_same x.2 i (omega (arith, wide.1))
            ∙ m.meets x.0 x.1 (sym (set_same x.2) ∙ q ∙ same_chosen)
            ∙ ap (λ (n : ℕ). value cs n % p) (sym (number_same x.2));
      }

  pub same-secret : secret other ≡ secret pile
  unfolding secret_of
  same-secret =
      run_is (λ i. joined (column (value_at pile) (own_pieces pile) i)) (own_width pile) (secret other) (secret-length (value_at other) (own_pieces other) (own_width other) ∙ same_width)
      (λ i l h.
      let x = joined-secret pile room w t i l h in
      let y = joined-secret other room w other-joins i l (omega (arith, same_width)) in
      let e : x.0 ≡ y.0 = y.1.only x.0 (moved i x.0 h x.1.is) in
      y.2 ∙ ap (λ (cs : List ℕ). value cs 0) (sym e) ∙ sym x.2 ∙ secret-at (value_at pile) (own_pieces pile) (own_width pile) i l h)

-- ---- the same blocks, word for word
pub among : (pile other : List ℕ) → Within pile other → Among pile other
among pile other g = record { block = λ a h. let r = g.block a h in (r.0, r.1, record { words = λ i l m n. r.2 i l (omega arith) }) }

pub true_within : (pile other : List ℕ) → TrueBlocks pile → Within other pile → TrueBlocks other
true_within pile other t g = record {
  block = λ a l h.
      let r = g.block a (l, h) in
      (only-words (rest_from pile r.0) (rest_from other a) (λ i u v. sym (r.2 i u v))).2 (t.block r.0 r.1.0 r.1.1) (rest_long other a l h);
}
