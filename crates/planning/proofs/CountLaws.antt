-- How many members a set has: as many as its binary digits that are 1, which the code counts. Some member, two different ones, one alone.
-- Assumes nothing.
use mathlib.Core.Path.{◌≡◌, refl, sym, ap, ◌∙◌}
use mathlib.Core.Bool.{true, false}
use mathlib.Core.Logic.{◌↔◌, ⊎_elim}
use Prim.Native.Nat.{ℕ, zero, suc, ◌+◌, ◌-◌, ◌/◌, ◌^◌, ◌≤◌, ◌<◌}
use native.Mathlib.Nat.{div-one, div-eq_of_lt, eq-or-lt_of_le, pow-suc}
use native.Mathlib.Numerals.{add-one}
use native.Mathlib.Omega.{arith}
use lib.Count.{ones, ones_step}
use lib.ListN.{length, get_or}
use lib.Pow.{pow_pos, pow_mono, shr-shr}
use borrow.Author.Tests.{eq-eqb, eqb-true, eqb-false}
use Rattle.lists.specs.Places.{those}
use Rattle.lists.proofs.Truth.{decided}
use Rattle.lists.proofs.ThoseLaws.{count_miss, count_hit, at_in, in_at, in_those, those_in, those_rise}
use Rattle.planning.specs.Sets.{worth, member, member_count, one_member}
use Rattle.planning.proofs.SetLaws.{bit, bit_zero, bit_suc, bit_past, some_bit, member_bit, bit_next, next_bit, out_bit, bit_member, back, member_le}

-- ---- counted by digits
one_plus : (k : ℕ) → 1 + k ≡ suc k
one_plus k = omega arith

module _ (s : ℕ) where
  -- how many of persons 1 to k are members
  abbrev up_to : ℕ → ℕ
  up_to k = length (those (λ i. member i s) 1 k)

  -- person k + 1 counts as the next digit
  up_next : (k : ℕ) → up_to (k + 1) ≡ up_to k + bit k s
  up_next k =
      ⊎_elim
      (λ (t : member (suc k) s ≡ true).
      let h : up_to k + 1 ≡ up_to (k + 1) = count_hit (λ i. member i s) 1 k (up_to k) refl (ap (λ (x : ℕ). member x s) (one_plus k) ∙ t) in
      omega (arith, next_bit k s t))
      (λ (e : member (suc k) s ≡ false).
      let h : up_to k ≡ up_to (k + 1) = count_miss (λ i. member i s) 1 k (up_to k) refl (ap (λ (x : ℕ). member x s) (one_plus k) ∙ e) in
      let z : bit k s ≡ 0 = rw back at (out_bit (suc k) s e) in
      omega arith)
      (decided (member (suc k) s))

  up_none : up_to 0 ≡ 0
  unfolding those
  up_none = refl

  -- the members up to k, and the digits above them
  count-digits : (k : ℕ) → up_to k + ones (s / 2 ^ k) ≡ ones s
  count-digits zero = omega (arith, up_none, ap ones (div-one s))
  count-digits (suc k) =
      let half : s / 2 ^ k / 2 ≡ s / 2 ^ (k + 1) = shr-shr s k 1 in
      rw (← add-one k) (omega (arith, up_next k, count-digits k, ones_step (s / 2 ^ k), ap ones half))

-- a set of 16 bits has as many members as digits 1
pub ones_count : (s : ℕ) → s < 2 ^ 16 → ones s ≡ member_count s
unfolding member_count ones
ones_count s h =
    let none : s / 2 ^ 16 ≡ 0 = div-eq_of_lt h in
    sym (omega (arith, count-digits s 16, ap ones none))

-- ---- none, or some
module _ (s : ℕ) (small : s < 2 ^ 16) where
  -- a member is one of those that are counted
  counted : (i : ℕ) → 1 ≤ i → member i s ≡ true → (q : ℕ) × (q < member_count s) × (get_or (those (λ i. member i s) 1 16) q 0 ≡ i)
  unfolding member_count
  counted i l m =
      in_at 0 (those (λ i. member i s) 1 16) i (those_in (λ i. member i s) 1 16 i l (omega (arith, member_le 16 i s small l m)) m)

  -- a set that is not empty has a member
  pub some-member : 1 ≤ s → 1 ≤ member_count s
  some-member h =
      let b = some_bit 16 s h small in
      omega (arith, (counted (suc b.0) (omega arith) (bit_next b.0 s (λ z. omega (arith, b.1)))).1)

-- ---- two: they differ
pub two_members : (s : ℕ) → 2 ≤ member_count s → (i : ℕ) × (j : ℕ) × (1 ≤ i) × (i < j) × (j ≤ 16) × (member i s ≡ true) × (member j s ≡ true)
unfolding member_count
two_members s h =
    let l = those (λ i. member i s) 1 16 in
    let a = in_those (λ i. member i s) 1 16 (get_or l 0 0) (at_in 0 l 0 (omega arith)) in
    let b = in_those (λ i. member i s) 1 16 (get_or l 1 0) (at_in 0 l 1 (omega arith)) in
    (get_or l 0 0, get_or l 1 0, a.0, (those_rise (λ i. member i s) 1 16).rise 0 1 (omega arith) (omega arith), omega (arith, b.1), a.2, b.2)

-- ---- one
module _ (s : ℕ) (small : s < 2 ^ 16) where
  -- the one member that is counted, and nobody else
  only : one_member s ≡ true → (i : ℕ) × (1 ≤ i) × (member i s ≡ true) × ((j : ℕ) → 1 ≤ j → member j s ≡ true → j ≡ i)
  unfolding one_member member_count
  only t =
      let l = those (λ i. member i s) 1 16 in
      let one : length l ≡ 1 = eqb-true _ _ t in
      let a = in_those (λ i. member i s) 1 16 (get_or l 0 0) (at_in 0 l 0 (omega arith)) in
      (get_or l 0 0, a.0, a.2, λ j p m. let c = counted s small j p m in let z : c.0 ≡ 0 = omega (arith, c.1) in sym c.2 ∙ ap (λ (q : ℕ). get_or l q 0) z)

  alone : (i : ℕ) → 1 ≤ i → member i s ≡ true → ((j : ℕ) → 1 ≤ j → member j s ≡ true → j ≡ i) → one_member s ≡ true
  unfolding one_member
  alone i l m others =
      ⊎_elim
      (λ (e : 1 ≡ member_count s). eq-eqb _ _ (sym e))
      (λ (h : 1 < member_count s).
      let t = two_members s h in
      absurd (omega (arith, others t.0 t.2 t.5, others t.1 (omega arith) t.6)))
      (eq-or-lt_of_le (omega (arith, (counted s small i l m).1)))

  pub one_member_means : (one_member s ≡ true) ↔ ((i : ℕ) × (1 ≤ i) × (member i s ≡ true) × ((j : ℕ) → 1 ≤ j → member j s ≡ true → j ≡ i))
  one_member_means = (only, λ r. alone r.0 r.1 r.2 r.3)

  -- neither none nor one: two at least
  pub not_alone : 1 ≤ s → one_member s ≡ false → 2 ≤ member_count s
  unfolding one_member
  not_alone h e = let n : member_count s ≡ 1 → ⊥ = eqb-false _ _ e in omega (arith, some-member s small h)

-- ---- the set of one person
-- 2 ^ p has the digit 1 at p alone
power_bit : (p : ℕ) → bit p (2 ^ p) ≡ 1
power_bit zero = refl
power_bit (suc p) = let h : 2 ^ suc p / 2 ≡ 2 ^ p = omega arith in bit_suc p (2 ^ suc p) ∙ ap (bit p) h ∙ power_bit p

bit_power : (p q : ℕ) → bit q (2 ^ p) ≡ 1 → q ≡ p
bit_power zero zero e = refl
bit_power zero (suc q) e = absurd (omega (arith, bit_past 1 (suc q) 1 (omega arith) (omega arith)))
bit_power (suc p) zero e = absurd (omega (arith, bit_zero (2 ^ suc p)))
bit_power (suc p) (suc q) e =
    let h : 2 ^ suc p / 2 ≡ 2 ^ p = omega arith in
    ap suc (bit_power p q (ap (bit q) (sym h) ∙ sym (bit_suc q (2 ^ suc p)) ∙ e))

pub worth_in : (i : ℕ) → member i (worth i) ≡ true
worth_in i = bit_member i (worth i) (power_bit (i - 1))

pub worth-only : (i j : ℕ) → 1 ≤ i → 1 ≤ j → member j (worth i) ≡ true → j ≡ i
worth-only i j l h m = omega (arith, bit_power (i - 1) (j - 1) (member_bit j (worth i) m))

pub worth_lt : (n i : ℕ) → 1 ≤ i → i ≤ n → worth i < 2 ^ n
worth_lt n i l h =
    let more : 2 ^ suc (i - 1) ≤ 2 ^ n = pow_mono (omega arith) in
    omega (arith, pow_pos (i - 1), pow-suc 2 (i - 1))
