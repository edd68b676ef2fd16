-- The table of the layout, word by word: what stands past word 7, what a block's own words say of it, and that no word is wrong exactly
-- where the layout is kept. Assumes nothing.
use mathlib.Core.Path.{◌≡◌, refl, sym, ap, ap₂, ◌∙◌}
use mathlib.Core.Bool.{Bool, true, false, not, ◌&&◌}
use mathlib.Core.Logic.{◌≢◌}
use mathlib.Core.List.{List}
use Prim.Native.Nat.{ℕ, zero, suc, ◌+◌, ◌-◌, ◌≤◌}
use native.Mathlib.Decide.{dec_le, ℕ_discrete}
use native.Mathlib.Omega.{arith}
use lib.Dec.{eqb, leb}
use lib.ListN.{get_or, length, get_or-eq_default}
use borrow.Author.Tests.{eqb-true, eq-eqb, ne_eqb, not-false, leb-true}
use Rattle.lists.proofs.RunLaws.{run_length, run_at}
use Rattle.lists.specs.Places.{first_in}
use Rattle.lists.proofs.Truth.{both, and_all}
use Rattle.lists.proofs.FirstLaws.{first_hit, first_miss, first-all, none_in, skip, first_part, first_past, first-same}
use Rattle.block.specs.declared.Label.{Label}
use Rattle.block.specs.Words.{word_at}
use Rattle.block.specs.Layout.{width_of, held_at, range_at, Ranged, label_of, values_of, right_at, first_wrong, Layout}
use Rattle.block.specs.Inner.{filled}

-- ---- past word 7 the table has the values, but for the year and the set, and no range but the set's
pub held_rest : (l : Label) (vs : List ℕ) (i : ℕ) → 8 ≤ i → i ≢ 24 → i ≢ 25 → held_at l vs i ≡ get_or vs (i - 8) 0
unfolding held_at
held_rest l vs i h n m =
    simp (
      ne_eqb i 1 (λ e. omega arith),
      ne_eqb i 2 (λ e. omega arith),
      ne_eqb i 3 (λ e. omega arith),
      ne_eqb i 4 (λ e. omega arith),
      ne_eqb i 5 (λ e. omega arith),
      ne_eqb i 6 (λ e. omega arith),
      ne_eqb i 7 (λ e. omega arith),
      ne_eqb i 24 n,
      ne_eqb i 25 m,
    )

range_rest : (l : Label) (i : ℕ) → 8 ≤ i → i ≢ 25 → range_at l i ≡ true
unfolding range_at
range_rest l i h n =
    simp (
      ne_eqb i 1 (λ e. omega arith),
      ne_eqb i 2 (λ e. omega arith),
      ne_eqb i 3 (λ e. omega arith),
      ne_eqb i 4 (λ e. omega arith),
      ne_eqb i 5 (λ e. omega arith),
      ne_eqb i 6 (λ e. omega arith),
      ne_eqb i 7 (λ e. omega arith),
      ne_eqb i 25 n,
    )

-- a label is in its ranges where its words 1 to 7 and 25 are
pub ranged : (l : Label) → ((i : ℕ) → 1 ≤ i → i ≤ 7 → range_at l i ≡ true) → range_at l 25 ≡ true → Ranged l
unfolding range_at
ranged l h s = record { range = go }
  where
    go : (i : ℕ) → range_at l i ≡ true
    go zero = refl
    go (suc i) = far (dec_le (suc i) 7) (ℕ_discrete (suc i) 25)
      where
        far : Dec (suc i ≤ 7) → Dec (suc i ≡ 25) → range_at l (suc i) ≡ true
        far (yes m) d = h (suc i) (omega arith) m
        far (no m) (yes e) = ap (range_at l) e ∙ s
        far (no m) (no n) = range_rest l (suc i) (omega arith) n

-- the values that a block has, and 0 past them
pub values-at : (b : List ℕ) (i : ℕ) → 1 ≤ i → i ≤ width_of b → get_or (values_of b) (i - 1) 0 ≡ word_at b (7 + i)
unfolding values_of
values-at b i l h = run_at (λ j. word_at b (7 + j)) (width_of b) i l h

pub values-count : (b : List ℕ) → length (values_of b) ≡ width_of b
unfolding values_of
values-count b = run_length (λ j. word_at b (7 + j)) 1 (width_of b)

-- ---- a block's words against the table
-- words 1 to 7, 24 and 25 are what the table has there, whatever they are: their range alone counts
own-word : (b vs : List ℕ) (i : ℕ) → 1 ≤ i → i ≤ 7 → held_at (label_of b) vs i ≡ word_at b i
unfolding held_at
own-word b vs zero l h = absurd (omega arith)
own-word b vs (suc zero) l h = refl
own-word b vs (suc (suc zero)) l h = refl
own-word b vs (suc (suc (suc zero))) l h = refl
own-word b vs (suc (suc (suc (suc zero)))) l h = refl
own-word b vs (suc (suc (suc (suc (suc zero))))) l h = refl
own-word b vs (suc (suc (suc (suc (suc (suc zero)))))) l h = refl
own-word b vs (suc (suc (suc (suc (suc (suc (suc zero))))))) l h = refl
own-word b vs (suc (suc (suc (suc (suc (suc (suc (suc i)))))))) l h = absurd (omega arith)

pub right-own : (b : List ℕ) (i : ℕ) → 1 ≤ i → i ≤ 7 → right_at b i ≡ range_at (label_of b) i
unfolding right_at
right-own b i l h = rw (eq-eqb (word_at b i) (held_at (label_of b) (values_of b) i) (sym (own-word b (values_of b) i l h)))

pub right-set : (b : List ℕ) → right_at b 25 ≡ range_at (label_of b) 25
unfolding right_at held_at
right-set b = rw (eq-eqb (word_at b 25) (word_at b 25) refl)

-- the year is right, whatever it is
pub right-year : (b : List ℕ) → not (right_at b 24) ≡ false
unfolding right_at held_at range_at
right-year b = rw (eq-eqb (word_at b 24) (word_at b 24) refl)

pub right_rest : (b : List ℕ) (i : ℕ) → 8 ≤ i → i ≢ 24 → i ≢ 25 → right_at b i ≡ eqb (word_at b i) (get_or (values_of b) (i - 8) 0)
unfolding right_at
right_rest b i l n m =
    ap₂ (λ (x : ℕ) (y : Bool). eqb (word_at b i) x && y) (held_rest (label_of b) (values_of b) i l n m) (range_rest (label_of b) i l m)
    ∙ and_all (eqb (word_at b i) (get_or (values_of b) (i - 8) 0))

-- the words of the values are right, and those past them, but for the year and the set, where they are 0
module _ (b : List ℕ) (few : width_of b ≤ 16) where
  abbrev wrong : ℕ → Bool
  wrong k = not (right_at b k)

  right-value : (i : ℕ) → 8 ≤ i → i ≤ 7 + width_of b → wrong i ≡ false
  right-value i l h =
      let e : i - 7 - 1 ≡ i - 8 = omega arith in
      let f : 7 + (i - 7) ≡ i = omega arith in
      let v : get_or (values_of b) (i - 8) 0 ≡ word_at b i = rw (e, f) at (values-at b (i - 7) (omega arith) (omega arith)) in
      ap not (right_rest b i l (λ n. omega arith) (λ n. omega arith) ∙ eq-eqb (word_at b i) (get_or (values_of b) (i - 8) 0) (sym v))

  right_zero : (i : ℕ) → 8 + width_of b ≤ i → i ≢ 24 → i ≢ 25 → wrong i ≡ filled b i
  right_zero i h n m =
      let z : get_or (values_of b) (i - 8) 0 ≡ 0 = get_or-eq_default (values_of b) 0 (omega (arith, values-count b)) in
      ap not (right_rest b i (omega arith) n m ∙ ap (eqb (word_at b i)) z)

  -- so past word 7 the first wrong word is the first past the values that is not 0, before the year,
  values-right : first_in wrong 8 256 ≡ first_in wrong (8 + width_of b) 256
  values-right = skip wrong (width_of b) 8 256 (omega arith) (λ k l m. right-value k l (omega arith))

  before-year : first_in wrong (8 + width_of b) 24 ≡ first_in (filled b) (8 + width_of b) 24
  before-year = first-same wrong (filled b) (8 + width_of b) 24 (λ k l m. right_zero k l (λ e. omega arith) (λ e. omega arith))

  pub wrong_before : first_in (filled b) (8 + width_of b) 24 ≢ 0 → first_in wrong 8 256 ≡ first_in (filled b) (8 + width_of b) 24
  wrong_before h = values-right ∙ first_part wrong (8 + width_of b) 24 256 (omega arith) (λ z. h (sym before-year ∙ z)) ∙ before-year

  -- or, where none is there, the set, or behind it
  module _ (none : first_in (filled b) (8 + width_of b) 24 ≡ 0) where
    to_set : first_in wrong 8 256 ≡ first_in wrong 25 256
    to_set =
        values-right
        ∙ first_past wrong (8 + width_of b) 24 256 (omega arith) (omega arith) (omega arith) (before-year ∙ none)
        ∙ first_miss wrong 24 256 (omega arith) (right-year b)

    pub wrong_set : right_at b 25 ≡ false → first_in wrong 8 256 ≡ 25
    wrong_set e = to_set ∙ first_hit wrong 25 256 (omega arith) (ap not e)

    pub wrong_behind : right_at b 25 ≡ true → first_in wrong 8 256 ≡ first_in (filled b) 26 256
    wrong_behind e =
        to_set ∙ first_miss wrong 25 256 (omega arith) (ap not e)
        ∙ first-same wrong (filled b) 26 256 (λ k l m. right_zero k (omega arith) (λ q. omega arith) (λ q. omega arith))

-- once word 6 was found right, w is at most 16
pub width_few : (b : List ℕ) (i : ℕ) → (7 ≤ i → width_of b ≤ 16) → right_at b i ≡ true → 7 ≤ i + 1 → width_of b ≤ 16
unfolding range_at
width_few b i past right l = go (dec_le 7 i)
  where
    six : right_at b 6 ≡ true → width_of b ≤ 16
    six e = leb-true (width_of b) 16 (both (leb 1 (width_of b)) (leb (width_of b) 16) (sym (right-own b 6 (omega arith) (omega arith)) ∙ e)).1

    go : Dec (7 ≤ i) → width_of b ≤ 16
    go (yes h) = past h
    go (no h) = let e : i ≡ 6 = omega arith in six (rw e at right)

-- ---- no word is wrong exactly where the layout is kept
pub layout_of : (b : List ℕ) → first_wrong b ≡ 0 → Layout b
unfolding first_wrong right_at
layout_of b z =
    let r : (i : ℕ) → 1 ≤ i → i ≤ 255 → (eqb (word_at b i) (held_at (label_of b) (values_of b) i) ≡ true) × (range_at (label_of b) i ≡ true) = λ i l h.
    both _ _ (not-false (right_at b i) (none_in (λ k. not (right_at b k)) 1 256 (omega arith) z i l (omega arith))) in
    record {
      word = λ i l h. eqb-true (word_at b i) (held_at (label_of b) (values_of b) i) (r i l h).0;
      ranged = ranged (label_of b) (λ i l h. (r i l (omega arith)).1) (r 25 (omega arith) (omega arith)).1;
    }

pub of_layout : (b : List ℕ) → Layout b → first_wrong b ≡ 0
unfolding first_wrong right_at
of_layout b y =
    first-all (λ k. not (right_at b k)) 1 256
    (λ k l h.
    let kept : right_at b k ≡ true = rw (eq-eqb (word_at b k) (held_at (label_of b) (values_of b) k) (y.word k l (omega arith)), y.ranged.range k) in
    ap not kept)
