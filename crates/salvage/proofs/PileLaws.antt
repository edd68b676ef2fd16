-- The pile with one block more mended: its length, what is still untouched, which words differ; and its blocks in the end.
-- Assumes nothing.
use mathlib.Core.Path.{◌≡◌, refl, sym, ap, ap₂, ◌∙◌}
use mathlib.Core.Bool.{Bool, true, false, cond, not}
use mathlib.Core.Logic.{⊎_elim, ◌≢◌}
use mathlib.Core.List.{List, [], ◌∷◌, ◌++◌}
use Prim.Native.Nat.{ℕ, zero, suc, ◌+◌, ◌-◌, ◌*◌, ◌≤◌, ◌/◌, ◌<◌}
use native.Mathlib.Nat.{eq-or-lt_of_le}
use native.Mathlib.Omega.{arith}
use lib.Dec.{eqb}
use lib.ListN.{length, take, drop, length-append, length-drop, take-append-drop}
use lib.Seq.{length-take-le, drop-append_seam, drop-append-le, take-append-le, drop-append-add, drop-drop}
use borrow.Author.Tests.{eq-eqb, ne_eqb}
use Rattle.lists.specs.Places.{those}
use Rattle.lists.proofs.Truth.{same_or_not}
use Rattle.lists.proofs.ThoseLaws.{those-same, those-none, those_one, those_split}
use Rattle.block.specs.Words.{word_at}
use Rattle.block.proofs.WordLaws.{word-front, word-put-same, word-put-other}
use Rattle.block.proofs.StoreLaws.{word-behind, word-drop, word-take}
use Rattle.pile.specs.Blocks.{blocks, In, rest_from}
use Rattle.salvage.specs.Mended.{value_for, rebuilt, mended_block}
use Rattle.salvage.specs.Pile.{mended_pile, mended_first, differing, rebuilt_words}
use Rattle.salvage.proofs.ValueLaws.{value_low}
use Rattle.salvage.proofs.MendLaws.{mended_none, mended_some, rebuilt-some}
use Rattle.salvage.proofs.PartLaws.{length_mended, front-only}

-- ---- in a single block
pub same_off : (D : List ℕ) (j : ℕ) → 512 ≤ length D → 1 ≤ j → j ≢ rebuilt D → word_at D j ≡ word_at (mended_block D) j
same_off D j long l off =
    ⊎_elim (λ (z : rebuilt D ≡ 0). ap (λ (c : List ℕ). word_at c j) (sym (mended_none D z)))
    (λ (ne : rebuilt D ≢ 0).
    let o = (rebuilt-some D ne).0 in
    sym (ap (λ (c : List ℕ). word_at c j) (mended_some D (rebuilt D) refl ne)
    ∙ word-put-other D (rebuilt D) (value_for D (rebuilt D)) o.from (omega (arith, o.to)) j l off))
    (same_or_not (rebuilt D) 0)

differs_at : (D : List ℕ) → 512 ≤ length D → rebuilt D ≢ 0 → word_at D (rebuilt D) ≢ word_at (mended_block D) (rebuilt D)
differs_at D long ne e =
    let o = (rebuilt-some D ne).0 in
    let r = rebuilt D in
    let new : word_at (mended_block D) r ≡ value_for D r =
    ap (λ (c : List ℕ). word_at c r) (mended_some D r refl ne) ∙ word-put-same D r (value_for D r) o.from (omega (arith, o.to)) in
    omega (arith, o.hot, value_low D r long o.from o.to o.clean)

mended_rest : (Y : List ℕ) → 512 ≤ length Y → drop 512 (mended_block Y) ≡ drop 512 Y
mended_rest Y h =
    let A = mended_block (take 512 Y) in
    let n : length A ≡ 512 = length_mended (take 512 Y) ∙ length-take-le 512 Y h in
    ap (drop 512) (front-only Y h).0 ∙ ap (λ (k : ℕ). drop k (A ++ drop 512 Y)) (sym n) ∙ drop-append_seam A (drop 512 Y)

-- ---- one block more
module _ (pile : List ℕ) where
  -- mending keeps the length, and does not look ahead
  pub length-first : (n : ℕ) → 512 * n ≤ length pile → length (mended_first n pile) ≡ length pile
  unfolding mended_first
  length-first zero h = refl
  length-first (suc n) h =
      let M = mended_first n pile in
      let ih : length M ≡ length pile = length-first n (omega arith) in
      length-append (take (512 * n) M) (mended_block (drop (512 * n) M))
      ∙ omega (arith, length-take-le (512 * n) M (omega arith), length_mended (drop (512 * n) M), length-drop (512 * n) M)

  pub rest_first : (n : ℕ) → 512 * n ≤ length pile → drop (512 * n) (mended_first n pile) ≡ drop (512 * n) pile
  unfolding mended_first
  rest_first zero h = refl
  rest_first (suc n) h =
      let M = mended_first n pile in
      let xs = take (512 * n) M in
      let X = mended_block (drop (512 * n) M) in
      let len : length M ≡ length pile = length-first n (omega arith) in
      let e : 512 * suc n ≡ length xs + 512 = omega (arith, length-take-le (512 * n) M (omega arith)) in
      let f : 512 * n + 512 ≡ 512 * suc n = omega arith in
      ap (λ (z : ℕ). drop z (xs ++ X)) e ∙ drop-append-add xs X 512
      ∙ mended_rest (drop (512 * n) M) (omega (arith, length-drop (512 * n) M))
      ∙ ap (drop 512) (rest_first n (omega arith)) ∙ drop-drop 512 (512 * n) pile ∙ ap (λ (z : ℕ). drop z pile) f

  module _ (n : ℕ) (h : 512 * suc n ≤ length pile) where
    M : List ℕ
    M = mended_first n pile

    D : List ℕ
    D = drop (512 * n) pile

    len_m : length M ≡ length pile
    unfolding M
    len_m = length-first n (omega arith)

    len_d : 512 ≤ length D
    unfolding D
    len_d = omega (arith, length-drop (512 * n) pile)

    -- one turn, as `mend_at` makes it
    pub step_is : mended_first (suc n) pile ≡ take (512 * n) (mended_first n pile) ++ mended_block (drop (512 * n) (mended_first n pile))
    unfolding mended_first
    step_is = refl

    word-before : (k : ℕ) → 1 ≤ k → k ≤ 256 * n → word_at (mended_first (suc n) pile) k ≡ word_at M k
    unfolding M
    word-before k l m =
        ap (λ (z : List ℕ). word_at z k) step_is
        ∙ word-front (take (512 * n) M) (mended_block (drop (512 * n) M)) k l (omega (arith, length-take-le (512 * n) M (omega (arith, len_m))))
        ∙ word-take M (512 * n) k (omega (arith, len_m)) l (omega arith)

    word_here : (j : ℕ) → 1 ≤ j → word_at (mended_first (suc n) pile) (256 * n + j) ≡ word_at (mended_block D) j
    unfolding M D
    word_here j l =
        ap (λ (z : List ℕ). word_at z (256 * n + j)) step_is
        ∙ word-behind (take (512 * n) M) (mended_block (drop (512 * n) M)) (256 * n) j
        (omega (arith, length-take-le (512 * n) M (omega (arith, len_m)))) l
        ∙ ap (λ (z : List ℕ). word_at (mended_block z) j) (rest_first n (omega arith))

    test : ℕ → Bool
    test k = not (eqb (word_at pile k) (word_at (mended_first (suc n) pile) k))

    test_here : (j : ℕ) → 1 ≤ j → test (256 * n + j) ≡ not (eqb (word_at D j) (word_at (mended_block D) j))
    unfolding test D
    test_here j l = rw (word_here j l, word-drop pile (512 * n) (256 * n) j (omega arith) (omega arith) l)

    test_off : (s : ℕ) → 1 + 256 * n ≤ s → s ≢ 256 * n + rebuilt D → test s ≡ false
    test_off s l off =
        let e : s ≡ 256 * n + (s - 256 * n) = omega arith in
        let j = s - 256 * n in
        ap test e ∙ test_here j (omega arith)
        ∙ ap not (eq-eqb (word_at D j) (word_at (mended_block D) j) (same_off D j len_d (omega arith) (λ q. off (e ∙ ap (λ (z : ℕ). 256 * n + z) q))))

    block_part : those test (1 + 256 * n) 256 ≡ cond (eqb (rebuilt D) 0) [] ((256 * n + rebuilt D) ∷ [])
    block_part =
        ⊎_elim
        (λ (z : rebuilt D ≡ 0).
        rw (eq-eqb (rebuilt D) 0 z) (those-none test (1 + 256 * n) 256 (λ s l m. test_off s l (λ q. omega arith))))
        (λ (ne : rebuilt D ≢ 0).
        let o = (rebuilt-some D ne).0 in
        rw (ne_eqb (rebuilt D) 0 ne)
        (those_one test (1 + 256 * n) 256 (256 * n + rebuilt D) (omega (arith, o.from)) (omega (arith, o.to))
        (test_here (rebuilt D) o.from ∙ ap not (ne_eqb (word_at D (rebuilt D)) (word_at (mended_block D) (rebuilt D)) (differs_at D len_d ne)))
        (λ s l m off. test_off s l off)))
        (same_or_not (rebuilt D) 0)

    pub differs_step : differing pile (mended_first (suc n) pile) (suc n)
        ≡ differing pile (mended_first n pile) n ++ cond (eqb (rebuilt (drop (512 * n) pile)) 0) [] ((256 * n + rebuilt (drop (512 * n) pile)) ∷ [])
    unfolding differing test D M
    differs_step =
        let e : 256 * suc n ≡ 256 * n + 256 = omega arith in
        ap (those test 1) e ∙ those_split test 1 (256 * n) 256
        ∙ ap₂ (λ (x y : List ℕ). x ++ y)
        (those-same test (λ k. not (eqb (word_at pile k) (word_at (mended_first n pile) k))) 1 (256 * n)
        (λ s l m. ap (λ (v : ℕ). not (eqb (word_at pile s) v)) (word-before s l (omega arith))))
        block_part

-- ---- at most one word in a block
one_few : (b : Bool) (k : ℕ) → length (cond b [] (k ∷ [])) ≤ 1
one_few true k = omega arith
one_few false k = omega arith

differs_none : (pile : List ℕ) → differing pile (mended_first 0 pile) 0 ≡ []
unfolding differing those
differs_none pile = refl

few-first : (pile : List ℕ) (n : ℕ) → 512 * n ≤ length pile → length (differing pile (mended_first n pile) n) ≤ n
few-first pile zero h = omega (arith, ap length (differs_none pile))
few-first pile (suc n) h =
    let r = rebuilt (drop (512 * n) pile) in
    let more = cond (eqb r 0) [] ((256 * n + r) ∷ []) in
    omega (
      arith,
      few-first pile n (omega arith),
      ap length (differs_step pile n h),
      length-append (differing pile (mended_first n pile) n) more,
      one_few (eqb r 0) (256 * n + r),
    )

pub rebuilt-few : (pile : List ℕ) → length (rebuilt_words pile) ≤ blocks pile
unfolding rebuilt_words mended_pile blocks
rebuilt-few pile = few-first pile (length pile / 512) (omega arith)

-- ---- when all is mended, block by block
front_same : (xs ys : List ℕ) (q : ℕ) → q + 512 ≤ length xs → take 512 (drop q (xs ++ ys)) ≡ take 512 (drop q xs)
front_same xs ys q h =
    ap (take 512) (drop-append-le q xs ys (omega arith)) ∙ take-append-le 512 (drop q xs) ys (omega (arith, length-drop q xs))

pub block_of : (pile : List ℕ) (m n : ℕ) → n < m → 512 * m ≤ length pile
    → take 512 (drop (512 * n) (mended_first m pile)) ≡ take 512 (mended_block (drop (512 * n) pile))
block_of pile zero n l h = absurd (omega arith)
block_of pile (suc m) n l h =
    let M = mended_first m pile in
    let xs = take (512 * m) M in
    let X = mended_block (drop (512 * m) M) in
    let len : length xs ≡ 512 * m = length-take-le (512 * m) M (omega (arith, length-first pile m (omega arith))) in
    ap (λ (z : List ℕ). take 512 (drop (512 * n) z)) (step_is pile m h)
    ∙ ⊎_elim
    (λ (e : n ≡ m).
    ap (λ (z : ℕ). take 512 (drop z (xs ++ X))) (ap (λ (z : ℕ). 512 * z) e ∙ sym len) ∙ ap (take 512) (drop-append_seam xs X)
    ∙ ap (λ (z : List ℕ). take 512 (mended_block z)) (rest_first pile m (omega arith))
    ∙ ap (λ (z : ℕ). take 512 (mended_block (drop (512 * z) pile))) (sym e))
    (λ (less : n < m).
    front_same xs X (512 * n) (omega arith)
    ∙ sym (front_same xs (drop (512 * m) M) (512 * n) (omega arith))
    ∙ ap (λ (z : List ℕ). take 512 (drop (512 * n) z)) (take-append-drop (512 * m) M)
    ∙ block_of pile m n less (omega arith))
    (eq-or-lt_of_le (omega arith))

pub blocks_of : (pile : List ℕ) → (length (mended_pile pile) ≡ length pile)
    × ((n : ℕ) → n < length pile / 512 → take 512 (drop (512 * n) (mended_pile pile)) ≡ take 512 (mended_block (drop (512 * n) pile)))
unfolding mended_pile blocks
blocks_of pile =
    (length-first pile (length pile / 512) (omega arith), λ n l. block_of pile (length pile / 512) n l (omega arith))

pub pile_blocks : (pile : List ℕ) → (length (mended_pile pile) ≡ length pile)
    × ((a : ℕ) → In pile a → take 512 (rest_from (mended_pile pile) a) ≡ take 512 (mended_block (rest_from pile a)))
unfolding blocks rest_from
pile_blocks pile = let r = blocks_of pile in (r.0, λ a h. r.1 (a - 1) (omega (arith, h.0, h.1)))
