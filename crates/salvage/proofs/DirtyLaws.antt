-- Which words of a block are dirty, as a list, as their values say it, and as two searches find out.
-- Assumes nothing.
use mathlib.Core.Path.{◌≡◌, refl, sym, ◌∙◌}
use mathlib.Core.Logic.{◌⊎◌, inl, inr, ⊎_elim, ◌≢◌}
use mathlib.Core.List.Memᴰ
use mathlib.Core.List.{List, [], ◌∷◌, Memᴰ}
use Prim.Native.Nat.{ℕ, ◌+◌, ◌≤◌, ◌<◌}
use native.Mathlib.Omega.{arith}
use native.Mathlib.Decide.{dec_lt}
use lib.Arith.{lt_of_le-ne}
use borrow.Author.Tests.{lt-ltb, le-ltb, ltb-true, ltb-false}
use Rattle.std.specs.Prelude.{Option, Some, None}
use Rattle.lists.specs.Places.{those, first_in, placed}
use Rattle.lists.proofs.Truth.{isn't}
use Rattle.lists.proofs.ThoseLaws.{in_those, those_in, those-none, those_one}
use Rattle.lists.proofs.FirstLaws.{none_in, has_test, below_in, first_of, placed_some, placed_none, some_placed, none_placed}
use Rattle.pile.proofs.PileLaws.{placed_is}
use Rattle.block.specs.Words.{word_at}
use Rattle.block.specs.Open.{above}
use Rattle.salvage.specs.Mended.{dirty_words, sole, CleanBut}

low_or_high : (k f : ℕ) → (k < f) ⊎ (f ≤ k)
low_or_high k f = go (dec_lt k f)
  where
    go : Dec (k < f) → (k < f) ⊎ (f ≤ k)
    go (yes u) = inl u
    go (no u) = inr (omega arith)

-- ---- `sole`
pub sole-some : (l : List ℕ) → sole l ≢ 0 → l ≡ sole l ∷ []
unfolding sole
sole-some [] h = absurd (h refl)
sole-some (i ∷ []) h = refl
sole-some (i ∷ j ∷ l) h = absurd (h refl)

pub sole_one : (l : List ℕ) (i : ℕ) → l ≡ i ∷ [] → sole l ≡ i
unfolding sole
sole_one l i e = rw e

pub sole_none : (l : List ℕ) → l ≡ [] → sole l ≡ 0
unfolding sole
sole_none l e = rw e

-- a list with two unlike numbers has no sole one
pub sole_two : (l : List ℕ) (i j : ℕ) → Memᴰ i l → Memᴰ j l → i ≢ j → sole l ≡ 0
unfolding sole
sole_two [] i j m n ne = refl
sole_two (x ∷ []) i j m n ne = absurd (ne (Memᴰ.eq_of_singleton m ∙ sym (Memᴰ.eq_of_singleton n)))
sole_two (x ∷ y ∷ l) i j m n ne = refl

-- ---- by the values of the words
module _ (b : List ℕ) where
  pub dirty_none : ((k : ℕ) → 1 ≤ k → k ≤ 256 → word_at b k ≤ 32748) → dirty_words b ≡ []
  unfolding dirty_words
  dirty_none h = those-none (above b) 1 256 (λ s l m. le-ltb 32748 (word_at b s) (h s l (omega arith)))

  pub dirty_one : (i : ℕ) → 1 ≤ i → i ≤ 256 → 32748 < word_at b i → CleanBut b i → dirty_words b ≡ i ∷ []
  unfolding dirty_words
  dirty_one i l h hot c =
      those_one (above b) 1 256 i l (omega arith) (lt-ltb 32748 (word_at b i) hot)
      (λ s u v ne. le-ltb 32748 (word_at b s) (c.small s u (omega arith) ne))

  pub dirty_two : (i j : ℕ) → 1 ≤ i → i ≤ 256 → 1 ≤ j → j ≤ 256 → i ≢ j → 32748 < word_at b i → 32748 < word_at b j → sole (dirty_words b) ≡ 0
  unfolding dirty_words
  dirty_two i j l h m n ne x y =
      sole_two (those (above b) 1 256) i j
      (those_in (above b) 1 256 i l (omega arith) (lt-ltb 32748 (word_at b i) x))
      (those_in (above b) 1 256 j m (omega arith) (lt-ltb 32748 (word_at b j) y)) ne

  -- word i is dirty, and it alone
  pub record One (i : ℕ) : Type 0 where
    pub from : 1 ≤ i
    pub to : i ≤ 256
    pub hot : 32748 < word_at b i
    pub clean : CleanBut b i

  pub one_dirty : (i : ℕ) → dirty_words b ≡ i ∷ [] → One i
  unfolding dirty_words
  one_dirty i e =
      let t = above b in
      let r = in_those t 1 256 i (rw e (Memᴰ.head refl)) in
      record {
        from = r.0;
        to = omega (arith, r.1);
        hot = ltb-true 32748 (word_at b i) r.2;
        clean = record {
          small = λ k l h ne. ltb-false 32748 (word_at b k)
              (isn't (λ y. ne (Memᴰ.eq_of_singleton (rw e at (those_in t 1 256 k l (omega arith) y)))));
        };
      }

  pub sole_dirty : sole (dirty_words b) ≢ 0 → One (sole (dirty_words b))
  sole_dirty h = one_dirty (sole (dirty_words b)) (sole-some (dirty_words b) h)

  -- ---- the code's two searches
  -- one that begins at word s finds a word above 32748
  hot_from : (s : ℕ) {r : Option ℕ} {g : ℕ} → r ≡ placed (first_in (above b) s 257) → r ≡ Some g → (s ≤ g) × (g ≤ 256) × (32748 < word_at b g)
  hot_from s {g = g} e q =
      let is = placed_is (first_in (above b) s 257) e q in
      let some : first_in (above b) s 257 ≢ 0 = λ z. omega (arith, is.0, is.1, z) in
      let t = has_test (above b) s 257 some in
      (omega (arith, t.1, is.0), omega (arith, below_in (above b) s 257 some, is.0), rw (← is.0) (ltb-true 32748 _ t.0))

  module _ {r : Option ℕ} (e : r ≡ placed (first_in (above b) 1 257)) where
    -- the first finds none
    pub search_none : r ≡ None → None ≡ placed (sole (dirty_words b))
    search_none q =
        let z = placed_none _ e q in
        none_placed (sole_none (dirty_words b)
        (dirty_none (λ k l h. ltb-false 32748 (word_at b k) (none_in (above b) 1 257 (omega arith) z k l (omega arith)))))

    module _ {f : ℕ} (some : r ≡ Some f) where
      pub first_hot : (1 ≤ f) × (f ≤ 256) × (32748 < word_at b f)
      first_hot = hot_from 1 e some

      module _ {s : Option ℕ} (q : s ≡ placed (first_in (above b) (f + 1) 257)) where
        -- the second finds none
        pub search_one : s ≡ None → Some f ≡ placed (sole (dirty_words b))
        search_one none =
            let z = placed_none _ q none in
            let is = placed_some (first_in (above b) 1 257) e some in
            let h = first_hot in
            let t = (first_of (above b) 1 257 f h.0 (omega (arith, h.1)) (lt-ltb 32748 (word_at b f) h.2)).0 in
            let c : CleanBut b f = record {
              small = λ k l m off. ltb-false 32748 (word_at b k)
                  (⊎_elim
                  (λ (less : k < f). t.least k l (rw is less))
                  (λ (more : f ≤ k). none_in (above b) (f + 1) 257 (omega arith) z k (omega (arith, lt_of_le-ne more (λ s. off (sym s)))) (omega arith))
                  (low_or_high k f));
            } in
            some_placed (sole_one (dirty_words b) f (dirty_one f h.0 h.1 h.2 c)) h.0

        -- another behind it
        pub search_two : {g : ℕ} → s ≡ Some g → None ≡ placed (sole (dirty_words b))
        search_two {g} second =
            let h = first_hot in
            let far = hot_from (f + 1) q second in
            none_placed (dirty_two f g h.0 h.1 (omega (arith, far.0)) far.1 (λ s. omega (arith, far.0)) h.2 far.2)
