-- The holders of a piece, as a set, gathered person by person: a group has the piece exactly where it meets them. Pieces are counted so.
-- Assumes nothing.
use mathlib.Core.Path.{◌≡◌, refl, sym, ap, ◌∙◌}
use mathlib.Core.Bool.{Bool, true, false, cond, not}
use mathlib.Core.List.{List}
use mathlib.Core.Logic.{⊎_elim}
use Prim.Native.Nat.{ℕ, zero, suc, ◌+◌, ◌-◌, ◌*◌, ◌^◌, ◌≤◌, ◌<◌}
use native.Mathlib.Nat.{eq-or-lt_of_le, le_of_suc-le-suc, mul-le-mul, mul-le-mul_right, pow-suc}
use native.Mathlib.Numerals.{add-one}
use native.Mathlib.Omega.{arith}
use lib.Bits.{bit_and}
use lib.Dec.{eqb, lit<}
use lib.ListN.{length, get_or, set, length-set}
use lib.Pow.{pow_mono}
use lib.Seq.{get_or-set_same, get_or-set_other}
use borrow.Author.Tests.{eq-eqb, ne_eqb, eqb-false}
use Rattle.lists.specs.Places.{at, those}
use Rattle.lists.proofs.Truth.{isn't, alike, not_so, so_not}
use Rattle.lists.proofs.ThoseLaws.{count_hit, count_miss, those-few, those-same}
use Rattle.planning.specs.Sets.{worth, member}
use Rattle.planning.proofs.SetLaws.{back, member_le, common_at, common_of}
use Rattle.planning.proofs.LackLaws.{member_new, member-kept}
use Rattle.holdings.specs.Holdings.{Holdings, owns, has, have}
use Rattle.holdings.specs.Inner.{set_of, holders_of, Holders, meets, have_by}
use Rattle.holdings.proofs.HaveLaws.{has_of, has-at}

-- ---- a set of those with a test
module _ (t : ℕ → Bool) where
  set_lt : (c : ℕ) → set_of t c < 2 ^ c
  unfolding set_of
  set_lt zero = lit< tt
  set_lt (suc c) = go (t (suc c)) (set_lt c)
    where
      go : (b : Bool) → set_of t c < 2 ^ c → set_of t c + cond b (worth (suc c)) 0 < 2 ^ suc c
      go true h = rw (back c) (omega arith)
      go false h = omega arith

  -- the next person is not in it yet
  next_out : (c : ℕ) → member (suc c) (set_of t c) ≡ false
  next_out c = isn't (λ m. omega (arith, member_le c (suc c) (set_of t c) (set_lt c) (omega arith) m))

  set-member : (c i : ℕ) → 1 ≤ i → i ≤ c → member i (set_of t c) ≡ t i
  unfolding set_of
  set-member zero i a b = absurd (omega arith)
  set-member (suc c) i a b = go (t (suc c)) refl (set-member c i a)
    where
      go : (x : Bool) → t (suc c) ≡ x → (i ≤ c → member i (set_of t c) ≡ t i) → member i (set_of t c + cond x (worth (suc c)) 0) ≡ t i
      go true e before =
          ⊎_elim (λ (same : i ≡ suc c). rw same (member_new (suc c) (set_of t c) (next_out c) ∙ sym e))
          (λ (less : i < suc c).
          member-kept (suc c) i (set_of t c) (omega arith) a (next_out c) (λ (z : i ≡ suc c). omega arith) ∙ before (le_of_suc-le-suc less))
          (eq-or-lt_of_le b)
      go false e before =
          let z : set_of t c + 0 ≡ set_of t c = omega arith in
          rw z (⊎_elim (λ (same : i ≡ suc c). rw same (next_out c ∙ sym e)) (λ (less : i < suc c). before (le_of_suc-le-suc less)) (eq-or-lt_of_le b))

-- ---- a group has the piece exactly where it meets the piece's holders
meets-has : (l : Holdings) (g j : ℕ) → meets (holders_of l j) g ≡ has l g j
meets-has l g j =
    let s = holders_of l j in
    alike
    (λ (t : meets s g ≡ true).
    let r = common_at s g (eqb-false _ _ (not_so (eqb (bit_and s g) 0) t)) in
    let k = member_le l.people r.0 s (set_lt (λ i. owns l i j) l.people) r.1 r.2 in
    has_of l g j r.0 r.1 k r.3 (sym (set-member (λ i. owns l i j) l.people r.0 r.1 k) ∙ r.2))
    (λ (t : has l g j ≡ true).
    let r = has-at l g j t in
    so_not (ne_eqb _ _ (common_of s g r.0 (set-member (λ i. owns l i j) l.people r.0 r.1 r.2 ∙ r.4) r.3)))

pub have_by_lem : (l : Holdings) (sets : List ℕ) (g : ℕ) → Holders l l.pieces sets → have_by sets l.pieces g ≡ have l g
unfolding have_by have
have_by_lem l sets g h =
    ap length (those-same (λ j. meets (at sets j) g) (has l g) 1 l.pieces
    (λ j a b. ap (λ (s : ℕ). meets s g) (h.right j a (omega arith)) ∙ meets-has l g j))

-- ---- the loops
-- the people 1 to i are gathered in s, and the next one is worth w
pub record Gathered (l : Holdings) (j i s w : ℕ) : Type 0 where
  pub next-worth : w ≡ 2 ^ i
  pub so_far : s ≡ set_of (λ x. owns l x j) i

pub gather_start : {l : Holdings} {j : ℕ} → Gathered l j 0 0 1
unfolding set_of
gather_start = record { next-worth = refl; so_far = refl }

-- the next person's mark lies in the list
pub mark_in : {n m i j : ℕ} → i < n → 1 ≤ j → j ≤ m → i * m + (j - 1) < n * m
mark_in {n} {m} {i} {j} a b c =
    let q : suc i * m ≤ n * m = mul-le-mul_right m a in
    omega arith

module _ {l : Holdings} {j i s w : ℕ} (h : Gathered l j i s w) where
  -- the next person's mark
  here : owns l (suc i) j ≡ eqb (get_or l.marks (i * l.pieces + (j - 1)) 0) 1
  unfolding owns
  here = rw (back i)

  gather_more : (x : ℕ) → cond (owns l (suc i) j) (worth (suc i)) 0 ≡ x → Gathered l j (i + 1) (s + x) (w * 2)
  unfolding set_of
  gather_more x e = record {
    next-worth = ap (λ (y : ℕ). y * 2) h.next-worth ∙ sym (pow-suc 2 i) ∙ ap (λ (y : ℕ). 2 ^ y) (sym (add-one i));
    so_far = rw (add-one i, e, h.so_far);
  }

  pub gather_hit : get_or l.marks (i * l.pieces + (j - 1)) 0 ≡ 1 → Gathered l j (i + 1) (s + w) (w * 2)
  gather_hit e = gather_more w (rw (here, eq-eqb _ _ e, back i, h.next-worth))

  pub gather_miss : (get_or l.marks (i * l.pieces + (j - 1)) 0 ≡ 1 → ⊥) → Gathered l j (i + 1) s (w * 2)
  gather_miss n = let z : s + 0 ≡ s = omega arith in rw z at (gather_more 0 (rw (here, ne_eqb _ _ n)))

  -- the worth is small enough to add, and to be doubled
  pub gather_small : (n : ℕ) → n ≤ 8 → i < n → (w ≤ 128) × (s < 128)
  gather_small n few m =
      let q : 2 ^ i ≤ 2 ^ 7 = pow_mono {j = 7} (omega arith) in
      (omega (arith, h.next-worth), omega (arith, h.so_far, set_lt (λ x. owns l x j) i))

-- n people's marks are few
pub marks-few : (n m : ℕ) → n ≤ 8 → m ≤ 70 → n * m ≤ 560
marks-few n m a b = mul-le-mul a b

-- one piece more
pub holders_none : {l : Holdings} {sets : List ℕ} → length sets ≡ 70 → Holders l 0 sets
holders_none e = record { count = e; right = λ j a b. absurd (omega arith) }

pub holders_more : {l : Holdings} {c : ℕ} {sets : List ℕ} (s : ℕ) → c < 70 → s ≡ holders_of l (c + 1) → Holders l c sets → Holders l (c + 1) (set sets c s)
holders_more {l} {c} {sets} s p e h = record {
  count = length-set sets c s ∙ h.count;
  right = λ j a b.
      ⊎_elim (λ (same : j ≡ c + 1).
      let z : j - 1 ≡ c = omega arith in
      rw (z, get_or-set_same sets c s 0 (omega (arith, h.count)), same) e)
      (λ (less : j < c + 1). get_or-set_other sets c (j - 1) s 0 (λ (x : j - 1 ≡ c). omega arith) ∙ h.right j a (omega arith)) (eq-or-lt_of_le b);
}

-- ---- the count of pieces: those up to j whose holders meet the group
pub record Counted (sets : List ℕ) (g j count : ℕ) : Type 0 where
  pub so_far : count ≡ have_by sets j g

pub count-start : {sets : List ℕ} {g : ℕ} → Counted sets g 0 0
unfolding have_by those
count-start = record { so_far = refl }

module _ {sets : List ℕ} {g j count : ℕ} (h : Counted sets g j count) where
  -- the piece after j stands at index j
  next-at : 1 + j - 1 ≡ j
  next-at = omega arith

  pub count_in : (bit_and (get_or sets j 0) g ≡ 0 → ⊥) → Counted sets g (j + 1) (count + 1)
  unfolding have_by
  count_in n = record { so_far = count_hit (λ x. meets (at sets x) g) 1 j count h.so_far (rw next-at (so_not (ne_eqb _ _ n))) }

  pub count_out : bit_and (get_or sets j 0) g ≡ 0 → Counted sets g (j + 1) count
  unfolding have_by
  count_out z = record { so_far = count_miss (λ x. meets (at sets x) g) 1 j count h.so_far (rw next-at (ap not (eq-eqb _ _ z))) }

  pub count-few : count ≤ j
  unfolding have_by
  count-few = omega (arith, h.so_far, those-few (λ x. meets (at sets x) g) 1 j)
