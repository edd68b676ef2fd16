-- The places of the rebuilt words: each names a word that differs before and after, each such word is named, and they rise.
-- Assumes nothing.
use mathlib.Core.Path.{◌≡◌, refl, sym, ap, ◌∙◌}
use mathlib.Core.Bool.{Bool, true, not}
use mathlib.Core.Logic.{⊎_elim, ◌≢◌}
use mathlib.Core.List.{List, [], ◌∷◌}
use Prim.Native.Nat.{ℕ, zero, suc, ◌+◌, ◌-◌, ◌*◌, ◌/◌, ◌%◌, ◌≤◌, ◌<◌}
use native.Mathlib.Nat.{not-suc-le-zero, le_of_suc-le-suc, eq-or-lt_of_le}
use native.Mathlib.Omega.{arith}
use lib.Dec.{eqb}
use lib.ListN.{length, get_or, take}
use borrow.Author.Tests.{eqb-false, ne_eqb}
use Rattle.lists.proofs.Truth.{same_or_not, so_not, not_so}
use Rattle.lists.proofs.ThoseLaws.{at_in, in_at, in_those, those_in, those_rise}
use Rattle.block.specs.Words.{word_at}
use Rattle.block.specs.Open.{TrueBlock}
use Rattle.block.proofs.StoreLaws.{word-drop, word-take}
use Rattle.block.proofs.OnlyLaws.{only_true}
use Rattle.pile.specs.Blocks.{blocks, In, rest_from, word}
use Rattle.pile.proofs.PileLaws.{rest_long}
use Rattle.salvage.specs.Mended.{rebuilt, mended_block}
use Rattle.salvage.specs.Pile.{mended_pile, differing, rebuilt_words, places, block_of, word_of}
use Rattle.salvage.proofs.MendLaws.{mended_none, rebuilt_true}
use Rattle.salvage.proofs.PartLaws.{length_mended}
use Rattle.salvage.proofs.PileLaws.{pile_blocks, same_off}

-- the numbers of a list in twos, the first two at index 0
abbrev first_of : List ℕ → ℕ → ℕ
first_of list n = get_or list (2 * n) 0

abbrev second_of : List ℕ → ℕ → ℕ
second_of list n = get_or list (2 * n + 1) 0

first-at : (list : List ℕ) (n : ℕ) → 1 ≤ n → block_of list n ≡ first_of list (n - 1)
first-at list n l = let e : 2 * n - 1 - 1 ≡ 2 * (n - 1) = omega arith in ap (λ (k : ℕ). get_or list k 0) e

second_at : (list : List ℕ) (n : ℕ) → 1 ≤ n → word_of list n ≡ second_of list (n - 1)
second_at list n l = let e : 2 * n - 1 ≡ 2 * (n - 1) + 1 = omega arith in ap (λ (k : ℕ). get_or list k 0) e

-- word i of block a, numbered through the pile
through : (l : List ℕ) (a i : ℕ) → In l a → 1 ≤ i → word_at l (256 * (a - 1) + i) ≡ word l a i
unfolding rest_from blocks
through l a i h f = word-drop l (512 * (a - 1)) (256 * (a - 1)) i (omega arith) (omega (arith, h.0, h.1)) f

-- block and word of a word that is numbered through the pile
split : (k : ℕ) → 1 ≤ k → 256 * ((k - 1) / 256 + 1 - 1) + ((k - 1) % 256 + 1) ≡ k
split k h = omega arith

-- the n-th place is that of the n-th word
places-at : (ks : List ℕ) (n : ℕ) → n < length ks
    → (first_of (places ks) n ≡ (get_or ks n 0 - 1) / 256 + 1) × (second_of (places ks) n ≡ (get_or ks n 0 - 1) % 256 + 1)
unfolding places
places-at [] n h = absurd (not-suc-le-zero h)
places-at (k ∷ ks) zero h = (refl, refl)
places-at (k ∷ ks) (suc n) h =
    let e : 2 * suc n ≡ suc (suc (2 * n)) = omega arith in
    let f : 2 * suc n + 1 ≡ suc (suc (2 * n + 1)) = omega arith in
    let r = places-at ks n (le_of_suc-le-suc h) in
    (ap (λ (x : ℕ). get_or (places (k ∷ ks)) x 0) e ∙ r.0, ap (λ (x : ℕ). get_or (places (k ∷ ks)) x 0) f ∙ r.1)

module _ (pile : List ℕ) where
  test : ℕ → Bool
  test k = not (eqb (word_at pile k) (word_at (mended_pile pile) k))

  ks : List ℕ
  ks = rebuilt_words pile

  length-same : length (mended_pile pile) ≡ length pile
  length-same = (pile_blocks pile).0

  in_mended : (a : ℕ) → In pile a → In (mended_pile pile) a
  unfolding blocks
  in_mended a h = (h.0, omega (arith, h.1, length-same))

  -- a word of the pile afterwards is that of the mended block
  word_mended : (a i : ℕ) → In pile a → 1 ≤ i → i ≤ 256 → word (mended_pile pile) a i ≡ word_at (mended_block (rest_from pile a)) i
  word_mended a i h l u =
      let D = rest_from pile a in
      let long : 512 ≤ length D = rest_long pile a h.0 h.1 in
      sym (word-take (rest_from (mended_pile pile) a) 512 i (rest_long (mended_pile pile) a h.0 (in_mended a h).1) l (omega arith))
      ∙ ap (λ (b : List ℕ). word_at b i) ((pile_blocks pile).1 a h)
      ∙ word-take (mended_block D) 512 i (omega (arith, length_mended D)) l (omega arith)

  -- ---- a block of the pile afterwards
  pub block_stays : (a : ℕ) → In pile a → rebuilt (rest_from pile a) ≡ 0 → take 512 (rest_from (mended_pile pile) a) ≡ take 512 (rest_from pile a)
  block_stays a h z = (pile_blocks pile).1 a h ∙ ap (take 512) (mended_none (rest_from pile a) z)

  pub block_true : (a : ℕ) → In pile a → take 512 (rest_from (mended_pile pile) a) ≢ take 512 (rest_from pile a) → TrueBlock (rest_from (mended_pile pile) a)
  block_true a h ne =
      let D = rest_from pile a in
      let M = rest_from (mended_pile pile) a in
      only_true (mended_block D) M (λ i l u. sym (word_mended a i h l u)) (rebuilt_true D (rest_long pile a h.0 h.1) (λ z. ne (block_stays a h z)))
      (rest_long (mended_pile pile) a h.0 (in_mended a h).1)

  -- what differs in a block is the word that is rebuilt
  pub place-rebuilt : (a i : ℕ) → In pile a → 1 ≤ i → i ≤ 256 → word pile a i ≢ word (mended_pile pile) a i → rebuilt (rest_from pile a) ≡ i
  place-rebuilt a i h l u ne =
      let D = rest_from pile a in
      ⊎_elim (λ (e : i ≡ rebuilt D). sym e)
      (λ (off : i ≢ rebuilt D). absurd (ne (same_off D i (rest_long pile a h.0 h.1) l off ∙ sym (word_mended a i h l u))))
      (same_or_not i (rebuilt D))

  -- ---- the n-th place
  module _ (n : ℕ) (h : n < length (rebuilt_words pile)) where
    k : ℕ
    k = get_or (rebuilt_words pile) n 0

    k_in : (1 ≤ k) × (k < 1 + 256 * blocks pile) × (test k ≡ true)
    unfolding k test rebuilt_words differing
    k_in = in_those test 1 (256 * blocks pile) k (at_in 0 (rebuilt_words pile) n h)

    a : ℕ
    a = (k - 1) / 256 + 1

    i : ℕ
    i = (k - 1) % 256 + 1

    a_in : In pile a
    unfolding a
    a_in = (omega arith, omega (arith, k_in.0, k_in.1))

    i_in : (1 ≤ i) × (i ≤ 256)
    unfolding i
    i_in = (omega arith, omega arith)

    k_is : 256 * (a - 1) + i ≡ k
    unfolding a i
    k_is = split k k_in.0

    unlike : word_at pile k ≢ word_at (mended_pile pile) k
    unfolding test
    unlike = eqb-false (word_at pile k) (word_at (mended_pile pile) k) (not_so _ k_in.2)

    differs : word pile a i ≢ word (mended_pile pile) a i
    differs e =
        unlike
        (ap (word_at pile) (sym k_is) ∙ through pile a i a_in i_in.0 ∙ e
        ∙ sym (through (mended_pile pile) a i (in_mended a a_in) i_in.0) ∙ ap (word_at (mended_pile pile)) k_is)

    block-is : first_of (places (rebuilt_words pile)) n ≡ a
    unfolding a k
    block-is = (places-at (rebuilt_words pile) n h).0

    word-is : second_of (places (rebuilt_words pile)) n ≡ i
    unfolding i k
    word-is = (places-at (rebuilt_words pile) n h).1

    means : let list = places (rebuilt_words pile) in
        In pile (first_of list n) × (1 ≤ second_of list n) × (second_of list n ≤ 256)
        × (word pile (first_of list n) (second_of list n) ≢ word (mended_pile pile) (first_of list n) (second_of list n))
    means = rw (block-is, word-is) (a_in, i_in.0, i_in.1, differs)

  -- ---- each word that differs is named
  named₀ : (b j : ℕ) → In pile b → 1 ≤ j → j ≤ 256 → word pile b j ≢ word (mended_pile pile) b j
      → (n : ℕ) × (n < length (rebuilt_words pile)) × (first_of (places (rebuilt_words pile)) n ≡ b) × (second_of (places (rebuilt_words pile)) n ≡ j)
  unfolding rebuilt_words differing test
  named₀ b j h l u ne =
      let q = 256 * (b - 1) + j in
      let hot : test q ≡ true =
      so_not
      (ne_eqb (word_at pile q) (word_at (mended_pile pile) q)
      (λ e. ne (sym (through pile b j h l) ∙ e ∙ through (mended_pile pile) b j (in_mended b h) l))) in
      let m = in_at 0 (rebuilt_words pile) q (those_in test 1 (256 * blocks pile) q (omega arith) (omega (arith, h.0, h.1)) hot) in
      let r = places-at (rebuilt_words pile) m.0 m.1 in (
        m.0,
        m.1,
        r.0 ∙ omega (arith, m.2, h.0),
        r.1 ∙ omega (arith, m.2, h.0),
      )

  -- ---- they rise
  numbers_rise : (m n : ℕ) → m < n → (g : m < length (rebuilt_words pile)) (h : n < length (rebuilt_words pile)) → k m g < k n h
  unfolding k rebuilt_words differing test
  numbers_rise m n less g h = (those_rise test 1 (256 * blocks pile)).rise m n less h

  rise₀ : (m n : ℕ) → m < n → n < length (rebuilt_words pile) → first_of (places (rebuilt_words pile)) m < first_of (places (rebuilt_words pile)) n
  rise₀ m n less h =
      let g : m < length (rebuilt_words pile) = omega arith in
      rw (block-is m g, block-is n h)
      (⊎_elim
      (λ (e : a m g ≡ a n h).
      let x = place-rebuilt (a m g) (i m g) (a_in m g) (i_in m g).0 (i_in m g).1 (differs m g) in
      let y = place-rebuilt (a n h) (i n h) (a_in n h) (i_in n h).0 (i_in n h).1 (differs n h) in
      absurd (omega (arith, numbers_rise m n less g h, k_is m g, k_is n h, e, sym x ∙ ap (λ (z : ℕ). rebuilt (rest_from pile z)) e ∙ y)))
      (λ (l : a m g < a n h). l)
      (eq-or-lt_of_le (omega (arith, numbers_rise m n less g h, k_is m g, k_is n h, (a_in m g).0, (a_in n h).0, (i_in m g).0, (i_in n h).1))))

  -- ---- with places from 1
  pub place-means : (n : ℕ) → 1 ≤ n → n ≤ length (rebuilt_words pile)
      → let list = places (rebuilt_words pile) in
      In pile (block_of list n) × (1 ≤ word_of list n) × (word_of list n ≤ 256)
      × (word pile (block_of list n) (word_of list n) ≢ word (mended_pile pile) (block_of list n) (word_of list n))
  place-means n l u =
      rw (first-at (places (rebuilt_words pile)) n l, second_at (places (rebuilt_words pile)) n l) (means (n - 1) (omega arith))

  pub named : (b j : ℕ) → In pile b → 1 ≤ j → j ≤ 256 → word pile b j ≢ word (mended_pile pile) b j
      → (n : ℕ) × (1 ≤ n) × (n ≤ length (rebuilt_words pile)) × (block_of (places (rebuilt_words pile)) n ≡ b) × (word_of (places (rebuilt_words pile)) n ≡ j)
  named b j h l u ne =
      let list = places (rebuilt_words pile) in
      let r = named₀ b j h l u ne in
      let n = r.0 + 1 in
      let e : n - 1 ≡ r.0 = omega arith in (
        n,
        omega arith,
        omega (arith, r.1),
        first-at list n (omega arith) ∙ ap (first_of list) e ∙ r.2,
        second_at list n (omega arith) ∙ ap (second_of list) e ∙ r.3,
      )

  pub places_rise : (m n : ℕ) → 1 ≤ m → m < n → n ≤ length (rebuilt_words pile)
      → block_of (places (rebuilt_words pile)) m < block_of (places (rebuilt_words pile)) n
  places_rise m n l less u =
      let list = places (rebuilt_words pile) in
      rw (first-at list m l, first-at list n (omega arith)) (rise₀ (m - 1) (n - 1) (omega arith) (omega arith))
