-- The former layout against today's. The two tables differ at words 1, 24 and 25 alone, and agree there where the mark is 1987 and the year and the
-- set are what the values have at those places: values that end before them have 0. Assumes nothing.
use mathlib.Core.Path.{◌≡◌, refl, sym, ap, ap₂, ◌∙◌}
use mathlib.Core.Bool.{Bool, true, false, cond, not, ◌&&◌, ◌||◌, or-false}
use mathlib.Core.Logic.{◌≢◌, ⊎_elim}
use mathlib.Core.List.{List, [], ◌∷◌, ◌++◌}
use Prim.Native.Nat.{ℕ, ◌≤◌}
use native.Mathlib.Decide.{ℕ_discrete}
use native.Mathlib.Omega.{arith}
use lib.Dec.{eqb, leb}
use lib.ListN.{length, get_or, get_or-eq_default}
use borrow.Author.Tests.{eq-eqb, ne_eqb, leb-true}
use Rattle.lists.specs.Places.{first_in}
use Rattle.lists.proofs.Truth.{never, decided, same_or_not, both, and_none, and_all}
use Rattle.lists.proofs.RunLaws.{run-same}
use Rattle.lists.proofs.FirstLaws.{none_in, first_part, first-same}
use Rattle.block.specs.declared.deal.DealWords.{DealWords}
use Rattle.block.specs.declared.Label.{Label}
use Rattle.block.specs.Words.{word_at, bytes_of, check_of}
use Rattle.block.specs.Deals.{same_deal}
use Rattle.block.specs.Layout.{width_of, within, held_at, range_at, label_of, values_of, right_at, first_wrong}
use Rattle.block.specs.Written.{body, block_bytes}
use Rattle.block.specs.Earlier.{former_held, former_range, former_wrong, former_bytes, former_same}
use Rattle.block.proofs.LayoutLaws.{values-count, right-own}

-- ---- the tables
-- word 24: the year, or 0
year-same : (dated : Bool) (l : Label) (vs : List ℕ) → (dated ≡ false → l.year ≡ 0) → length vs ≤ 16 → l.year ≡ cond dated l.year (get_or vs 16 0)
year-same true l vs y few = refl
year-same false l vs y few = y refl ∙ sym (get_or-eq_default vs 0 few)

at-year : (dated : Bool) (l : Label) (vs : List ℕ) → cond dated l.year (get_or vs 16 0) ≡ former_held dated l vs 24
unfolding former_held
at-year true l vs = refl
at-year false l vs = refl

-- any word but 1, 24 and 25
held_off : (dated : Bool) (l : Label) (vs : List ℕ) (i : ℕ) → i ≢ 1 → i ≢ 24 → i ≢ 25 → held_at l vs i ≡ former_held dated l vs i
unfolding held_at former_held
held_off dated l vs i n m k = rw (ne_eqb i 1 n, ne_eqb i 24 m, ne_eqb i 25 k, and_none dated)

-- all but the first
module _ (dated : Bool) (l : Label) (vs : List ℕ) (none : l.set ≡ 0) (year : dated ≡ false → l.year ≡ 0) (few : length vs ≤ 16) where
  held_later : (i : ℕ) → i ≢ 1 → held_at l vs i ≡ former_held dated l vs i
  held_later i n = go (ℕ_discrete i 24) (ℕ_discrete i 25)
    where
      at_set : held_at l vs 25 ≡ former_held dated l vs 25
      at_set = unfold held_at former_held in none ∙ sym (rw (and_none dated) (get_or-eq_default vs 0 (omega arith)))

      go : Dec (i ≡ 24) → Dec (i ≡ 25) → held_at l vs i ≡ former_held dated l vs i
      go (yes e) d = rw e (unfold held_at in year-same dated l vs year few ∙ at-year dated l vs)
      go (no m) (yes e) = rw e at_set
      go (no m) (no k) = held_off dated l vs i n m k

-- ---- what was written
pub earlier_block : (dated : Bool) (l : Label) (vs : List ℕ) → l.mark ≡ 1987 → l.set ≡ 0 → (dated ≡ false → l.year ≡ 0) → length vs ≤ 16
    → block_bytes l vs ≡ former_bytes dated l vs
unfolding block_bytes body former_bytes
earlier_block dated l vs mark none year few =
    ap (λ (ws : List ℕ). bytes_of ws ++ bytes_of (check_of (bytes_of ws) ∷ []))
    (run-same (held_at l vs) (former_held dated l vs) 255 (λ i _ _. go i (ℕ_discrete i 1)))
  where
    go : (i : ℕ) → Dec (i ≡ 1) → held_at l vs i ≡ former_held dated l vs i
    go i (yes e) = rw e (unfold held_at former_held in mark)
    go i (no n) = held_later dated l vs none year few i n

-- ---- what was read, of a block without the mark of a deal by sets
module _ (dated : Bool) (b : List ℕ) (mark : word_at b 1 ≢ 1988) (year : dated ≡ false → word_at b 24 ≡ 0) where
  abbrev wrong : ℕ → Bool
  wrong i = not (right_at b i)

  abbrev former : ℕ → Bool
  former i = not (eqb (word_at b i) (former_held dated (label_of b) (values_of b) i) && former_range (label_of b) i)

  range_same : (i : ℕ) → i ≢ 1 → i ≢ 25 → range_at (label_of b) i ≡ former_range (label_of b) i
  unfolding range_at former_range
  range_same i n m = rw (ne_eqb i 1 n, ne_eqb i 25 m, ne_eqb (word_at b 1) 1988 mark)

  at_one : wrong 1 ≡ former 1
  unfolding right_at held_at range_at former_held former_range
  at_one =
      rw (eq-eqb (word_at b 1) (word_at b 1) refl, ne_eqb (word_at b 1) 1988 mark)
      (ap not (or-false (eqb (word_at b 1) 1987) ∙ sym (and_all (eqb (word_at b 1) 1987))))

  off : (i : ℕ) → i ≢ 1 → i ≢ 24 → i ≢ 25 → wrong i ≡ former i
  unfolding right_at
  off i n m k =
      ap₂ (λ (x : ℕ) (y : Bool). not (eqb (word_at b i) x && y)) (held_off dated (label_of b) (values_of b) i n m k) (range_same i n k)

  early : (i : ℕ) → i ≤ 7 → wrong i ≡ former i
  early i h = ⊎_elim (λ (e : i ≡ 1). rw e at_one) (λ (n : i ≢ 1). off i n (λ q. omega arith) (λ q. omega arith)) (same_or_not i 1)

  -- where w is at most 16, all of them
  module _ (few : width_of b ≤ 16) where
    at_24 : wrong 24 ≡ former 24
    unfolding right_at held_at
    at_24 =
        ap₂ (λ (x : ℕ) (y : Bool). not (eqb (word_at b 24) x && y))
        (year-same dated (label_of b) (values_of b) year (omega (arith, values-count b)) ∙ at-year dated (label_of b) (values_of b))
        (range_same 24 (λ q. omega arith) (λ q. omega arith))

    at_25 : wrong 25 ≡ former 25
    unfolding right_at held_at range_at former_held former_range
    at_25 =
        rw (
          eq-eqb (word_at b 25) (word_at b 25) refl,
          ne_eqb (word_at b 1) 1988 mark,
          and_none dated,
          get_or-eq_default (values_of b) 0 {n = 17} (omega (arith, values-count b)),
        )
        (ap not (sym (and_all (eqb (word_at b 25) 0))))

    all : (i : ℕ) → wrong i ≡ former i
    all i =
        ⊎_elim (λ (e : i ≡ 24). rw e at_24)
        (λ (n : i ≢ 24).
        ⊎_elim (λ (e : i ≡ 25). rw e at_25)
        (λ (m : i ≢ 25). ⊎_elim (λ (e : i ≡ 1). rw e at_one) (λ (k : i ≢ 1). off i k n m) (same_or_not i 1))
        (same_or_not i 25))
        (same_or_not i 24)

  -- where it is not, word 6 is wrong, and no word past it comes first
  six : within 1 (width_of b) 16 ≡ false → wrong 6 ≡ true
  unfolding range_at
  six e = ap not (right-own b 6 (omega arith) (omega arith) ∙ e)

  by_six : (t : ℕ → Bool) → t 6 ≡ true → first_in t 1 256 ≡ first_in t 1 7
  by_six t e = first_part t 1 7 256 (omega arith) (λ z. never (none_in t 1 7 (omega arith) z 6 (omega arith) (omega arith)) e)

  pub earlier_layout : first_wrong b ≡ former_wrong dated b
  unfolding first_wrong former_wrong
  earlier_layout =
      ⊎_elim
      (λ (e : within 1 (width_of b) 16 ≡ true).
      first-same wrong former 1 256 (λ i _ _. all (leb-true (width_of b) 16 (both (leb 1 (width_of b)) (leb (width_of b) 16) e).1) i))
      (λ (e : within 1 (width_of b) 16 ≡ false).
      by_six wrong (six e)
      ∙ first-same wrong former 1 7 (λ i _ h. early i (omega arith))
      ∙ sym (by_six former (sym (early 6 (omega arith)) ∙ six e)))
      (decided (within 1 (width_of b) 16))

-- ---- which deal it was
last_same : (dated x : Bool) → (dated ≡ false → x ≡ true) → x ≡ (not dated || x)
last_same true x h = refl
last_same false x h = h refl

pub earlier_deals : (dated : Bool) (x y : DealWords) → x.mark ≡ y.mark → (dated ≡ false → x.year ≡ y.year) → same_deal x y ≡ former_same dated x y
unfolding same_deal former_same
earlier_deals dated x y m e =
    rw (eq-eqb x.mark y.mark m)
    (ap (λ (z : Bool). eqb x.number y.number && eqb x.people y.people && eqb x.pieces y.pieces && eqb x.width y.width && z)
    (last_same dated (eqb x.year y.year) (λ d. eq-eqb x.year y.year (e d))))
