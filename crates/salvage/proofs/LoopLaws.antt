-- The loop over the blocks of a pile: the first a blocks are mended, and their rebuilt words counted and listed. Assumes nothing.
use mathlib.Core.Path.{◌≡◌, refl, sym, ap, ap₂, ◌∙◌}
use mathlib.Core.Bool.{cond}
use mathlib.Core.Logic.{⊎_elim, ◌≢◌}
use mathlib.Core.List.{List, [], ◌∷◌, ◌++◌, append-nil}
use Prim.Native.Nat.{ℕ, suc, ◌+◌, ◌-◌, ◌*◌, ◌/◌, ◌%◌, ◌≤◌, ◌<◌}
use native.Mathlib.Numerals.{add-one}
use native.Mathlib.Omega.{arith}
use lib.Dec.{eqb}
use lib.ListN.{length, set, take, drop, length-append, length-set}
use borrow.Author.Tests.{eq-eqb, ne_eqb}
use Rattle.lists.specs.Over.{over}
use Rattle.lists.specs.Places.{those}
use Rattle.lists.proofs.Truth.{same_or_not}
use Rattle.lists.proofs.OverLaws.{over_two}
use Rattle.salvage.specs.Mended.{rebuilt, mended_block}
use Rattle.salvage.specs.Pile.{mended_first, mended_pile, differing, places, rebuilt_words}
use Rattle.pile.specs.Blocks.{blocks}
use Rattle.salvage.proofs.MendLaws.{rebuilt-some}
use Rattle.salvage.proofs.PileLaws.{rest_first, step_is, differs_step}

-- ---- the list of places
pub length-places : (ks : List ℕ) → length (places ks) ≡ 2 * length ks
unfolding places
length-places [] = refl
length-places (k ∷ ks) = omega (arith, length-places ks)

places_more : (ks : List ℕ) (k : ℕ) → places (ks ++ k ∷ []) ≡ places ks ++ ((k - 1) / 256 + 1) ∷ ((k - 1) % 256 + 1) ∷ []
unfolding places
places_more [] k = refl
places_more (x ∷ ks) k = rw (places_more ks k)

-- ---- the loop
pub record Mending (old list₀ pile list : List ℕ) (all count a : ℕ) : Type 0 where
  pub to : a ≤ all
  pub whole : all ≡ length old / 512
  pub most : all ≤ 560
  pub room : 2 * all ≤ length list₀
  pub len : length pile ≡ length old
  pub len_list : length list ≡ length list₀
  pub few : count ≤ a
  pub stands : pile ≡ mended_first a old
  pub counted : count ≡ length (differing old (mended_first a old) a)
  pub listed : list ≡ over (places (differing old (mended_first a old) a)) list₀

pub mend_start : (old list₀ : List ℕ) (all : ℕ) → all ≡ length old / 512 → (blocks old ≤ 560) × (2 * blocks old ≤ length list₀)
    → Mending old list₀ old list₀ all 0 0
unfolding blocks mended_first differing those places over
mend_start old list₀ all e pre =
    record {
      to = omega arith;
      whole = e;
      most = omega (arith, pre.0);
      room = omega (arith, pre.1);
      len = refl;
      len_list = refl;
      few = omega arith;
      stands = refl;
      counted = refl;
      listed = refl;
    }

module _ {old list₀ pile list : List ℕ} {all count a : ℕ} (s : Mending old list₀ pile list all count a) where
  module _ (less : a < all) (word : ℕ) (is : word ≡ rebuilt (drop (512 * a) pile))
      (pile' : List ℕ) (put : pile' ≡ take (512 * a) pile ++ mended_block (drop (512 * a) pile)) (len' : length pile' ≡ length pile) where
    ks : List ℕ
    ks = differing old (mended_first a old) a

    fits : 512 * suc a ≤ length old
    fits = omega (arith, s.whole)

    here : drop (512 * a) pile ≡ drop (512 * a) old
    here = ap (drop (512 * a)) s.stands ∙ rest_first old a (omega (arith, fits))

    word-is : word ≡ rebuilt (drop (512 * a) old)
    word-is = is ∙ ap rebuilt here

    more : differing old (mended_first (suc a) old) (suc a) ≡ ks ++ cond (eqb word 0) [] ((256 * a + word) ∷ [])
    unfolding ks
    more = differs_step old a fits ∙ ap (λ (w : ℕ). ks ++ cond (eqb w 0) [] ((256 * a + w) ∷ [])) (sym word-is)

    stands' : pile' ≡ mended_first (suc a) old
    stands' = put ∙ ap (λ (l : List ℕ). take (512 * a) l ++ mended_block (drop (512 * a) l)) s.stands ∙ sym (step_is old a fits)

    low : word ≢ 0 → (1 ≤ word) × (word ≤ 256)
    low ne =
        let o = (rebuilt-some (drop (512 * a) old) (λ z. ne (word-is ∙ z))).0 in
        (rw word-is o.from, rw word-is o.to)

    -- the numbers that go into the list are 16-bit numbers
    pub word_low : word ≤ 256
    word_low = ⊎_elim (λ (z : word ≡ 0). omega arith) (λ (ne : word ≢ 0). (low ne).1) (same_or_not word 0)

    -- nothing was rebuilt in block a + 1
    pub mend_none : word ≡ 0 → Mending old list₀ pile' list all count (a + 1)
    unfolding ks
    mend_none z =
        let e : differing old (mended_first (suc a) old) (suc a) ≡ ks =
        more ∙ ap (λ (x : List ℕ). ks ++ x) (rw (eq-eqb word 0 z)) ∙ append-nil ks in
        rw (add-one a) (record {
          to = omega arith;
          whole = s.whole;
          most = s.most;
          room = s.room;
          len = len' ∙ s.len;
          len_list = s.len_list;
          few = omega (arith, s.few);
          stands = stands';
          counted = s.counted ∙ ap length (sym e);
          listed = s.listed ∙ ap (λ (x : List ℕ). over (places x) list₀) (sym e);
        })

    -- a word was: it is noted
    pub mend_one : word ≢ 0 → Mending old list₀ pile' (set (set list (2 * count) (a + 1)) (2 * count + 1) word) all (count + 1) (a + 1)
    unfolding ks
    mend_one ne =
        let h = low ne in
        let k = 256 * a + word in
        let e : differing old (mended_first (suc a) old) (suc a) ≡ ks ++ k ∷ [] = more ∙ ap (λ (x : List ℕ). ks ++ x) (rw (ne_eqb word 0 ne)) in
        let x : (k - 1) / 256 + 1 ≡ suc a = omega (arith, h.0, h.1) in
        let y : (k - 1) % 256 + 1 ≡ word = omega (arith, h.0, h.1) in
        let p : places (ks ++ k ∷ []) ≡ places ks ++ suc a ∷ word ∷ [] = places_more ks k ∙ ap₂ (λ (u v : ℕ). places ks ++ u ∷ v ∷ []) x y in
        let m : 2 * count ≡ length (places ks) = omega (arith, s.counted, length-places ks) in
        let n : length (set (set list (2 * count) (suc a)) (2 * count + 1) word) ≡ length list =
        length-set (set list (2 * count) (suc a)) (2 * count + 1) word ∙ length-set list (2 * count) (suc a) in
        rw (add-one a) (record {
          to = omega arith;
          whole = s.whole;
          most = s.most;
          room = s.room;
          len = len' ∙ s.len;
          len_list = n ∙ s.len_list;
          few = omega (arith, s.few);
          stands = stands';
          counted = omega (arith, s.counted, ap length e, length-append ks (k ∷ []));
          listed =
              ap (λ (z : List ℕ). set (set z (2 * count) (suc a)) (2 * count + 1) word) s.listed
              ∙ over_two (places ks) list₀ (suc a) word (2 * count) m (omega (arith, s.few, s.room))
              ∙ ap (λ (z : List ℕ). over z list₀) (sym p ∙ ap places (sym e));
        })

  pub mend_end : all ≤ a → (pile ≡ mended_pile old) × (count ≡ length (rebuilt_words old)) × (list ≡ over (places (rebuilt_words old)) list₀)
  unfolding mended_pile rebuilt_words blocks
  mend_end h =
      let e : length old / 512 ≡ a = omega (arith, s.to, s.whole) in
      rw e (s.stands, s.counted, s.listed)
