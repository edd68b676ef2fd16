-- How many members the sets of a list have, and the loops that count coefficients and blocks set by set; sets count from 0 there.
-- Assumes nothing.
use mathlib.Core.Path.{◌≡◌, refl, sym, ap, ◌∙◌}
use mathlib.Core.Bool.{Bool}
use mathlib.Core.List.{List}
use Prim.Native.Nat.{ℕ, ◌+◌, ◌-◌, ◌*◌, ◌≤◌, ◌<◌, zero-le}
use native.Mathlib.Numerals.{add-one}
use native.Mathlib.Omega.{arith}
use lib.ListN.{length, get_or, take, length-map, get_or-map}
use Rattle.lists.specs.Places.{at, those}
use Rattle.lists.proofs.ThoseLaws.{those-few}
use Rattle.field.specs.Parts.{coefficients}
use Rattle.field.proofs.PartLaws.{coefficients-next}
use Rattle.planning.specs.Sets.{member, member_count}
use Rattle.minimal.specs.Minimal.{sets_with, counted}
use Rattle.minimal.proofs.CountLaws.{counted-all}
use Rattle.bysets.specs.Cards.{sizes}
use Rattle.bysets.specs.Inner.{Proper}

-- ---- the size at a place
size_none : member_count 0 ≡ 0
unfolding member_count those member
size_none = refl

size_index : (sets : List ℕ) (i : ℕ) → get_or (sizes sets) i 0 ≡ member_count (get_or sets i 0)
size_index sets i = ap (get_or (sizes sets) i) (sym size_none) ∙ get_or-map member_count sets i 0

pub size_at : (sets : List ℕ) (s : ℕ) → at (sizes sets) s ≡ member_count (at sets s)
size_at sets s = size_index sets (s - 1)

pub sizes-length : (sets : List ℕ) → length (sizes sets) ≡ length sets
sizes-length sets = length-map sets member_count

-- the set after c others is set c + 1
pub after : (c : ℕ) → c + 1 - 1 ≡ c
after c = omega arith

pub set_after : (sets : List ℕ) (c : ℕ) → at sets (c + 1) ≡ get_or sets c 0
set_after sets c = ap (λ (x : ℕ). get_or sets x 0) (after c)

-- the members that the code counts are those of set c + 1
pub size_after : (sets : List ℕ) (c k : ℕ) → k ≡ counted (get_or sets c 0) 16 → k ≡ member_count (at sets (c + 1))
size_after sets c k e = e ∙ counted-all (get_or sets c 0) ∙ ap member_count (sym (set_after sets c))

-- ---- the coefficients of one set more
pub coefficients_more : (sets : List ℕ) (c k : ℕ) → c < length sets → k ≡ counted (get_or sets c 0) 16
    → coefficients (take (c + 1) (sizes sets)) ≡ coefficients (take c (sizes sets)) + (k - 1)
coefficients_more sets c k h e =
    rw (add-one c)
    (coefficients-next (sizes sets) c (omega (arith, sizes-length sets))
    ∙ ap (λ (x : ℕ). coefficients (take c (sizes sets)) + (x - 1)) (size_index sets c ∙ sym (e ∙ counted-all (get_or sets c 0))))

-- ---- the loop that counts them
pub record Counting (sets : List ℕ) (total i : ℕ) : Type 0 where
  pub within : i ≤ length sets
  pub low : total ≤ 8 * i
  pub so_far : total ≡ coefficients (take i (sizes sets))

pub counting_start : (sets : List ℕ) → Counting sets 0 0
unfolding coefficients
counting_start sets = record { within = zero-le; low = zero-le; so_far = refl }

module _ {n : ℕ} {sets : List ℕ} {total i : ℕ} (few : n ≤ 8) (p : Proper n sets) (c : Counting sets total i) where
  module _ (h : i < length sets) (k : ℕ) (e : k ≡ counted (get_or sets i 0) 16) where
    -- a set has 1 to n members
    pub counted_in : (1 ≤ k) × (k ≤ n)
    counted_in =
        let q = size_after sets i k e in
        (omega (arith, q, p.least (i + 1) (omega arith) (omega arith)), omega (arith, q, p.most (i + 1) (omega arith) (omega arith)))

    pub counting_next : Counting sets (total + (k - 1)) (i + 1)
    counting_next = record {
      within = omega arith;
      low = omega (arith, c.low, counted_in.1);
      so_far = omega (arith, c.so_far, coefficients_more sets i k h e);
    }

  pub counting_small : total ≤ 560
  counting_small = omega (arith, c.low, c.within, p.count)

-- ---- the sets that have the holder, set by set
-- the holder is in set s
abbrev pub has : List ℕ → ℕ → ℕ → Bool
has sets holder s = member holder (at sets s)

module _ (sets : List ℕ) (holder c : ℕ) where
  pub next_in : {b : Bool} → member holder (get_or sets c 0) ≡ b → has sets holder (c + 1) ≡ b
  next_in e = ap (member holder) (set_after sets c) ∙ e

  pub held-few : length (sets_with sets holder c) ≤ c
  unfolding sets_with
  held-few = those-few (has sets holder) 1 c
