-- What a group lacks of a set, in members and by `&`, `|` and `!`; a group with one person more; the set of all the people.
-- Assumes nothing.
use mathlib.Core.Path.{◌≡◌, refl, sym, ap, ◌∙◌}
use mathlib.Core.Bool.{true, false, cond, not, ◌&&◌, ◌||◌}
use mathlib.Core.Logic.{◌↔◌, ⊎_elim}
use Prim.Native.Nat.{ℕ, zero, suc, ◌+◌, ◌-◌, ◌/◌, ◌^◌, ◌≤◌, ◌<◌, max}
use native.Mathlib.Nat.{not-suc-le-zero, le_of_suc-le-suc}
use native.Mathlib.Decide.{ℕ_discrete}
use native.Mathlib.Omega.{arith}
use lib.Dec.{eqb}
use lib.Pow.{pow_pos}
use lib.Bits.{bit_and, bit_or, or_step, or_shr, and_le_l}
use borrow.Author.Tests.{eq-eqb, eqb-true}
use Rattle.lists.specs.Some.{each}
use Rattle.lists.proofs.Truth.{never, decided, isn't, alike, both, and_both, or_cases, or_l, or_r, not_so, so_not}
use Rattle.lists.proofs.EachLaws.{each_at, each_of}
use Rattle.planning.specs.Sets.{worth, member, inside, one_member}
use Rattle.planning.specs.Inner.{Lacked, Either}
use Rattle.planning.proofs.SetLaws.{bit, bit_lt, bit_zero, bit_suc, bit_past, bit_and_lem, some_bit, member_bit, bit_member, out_bit, bit_next, nobody_in, member_le, inside-at, inside_of, inside_more}
use Rattle.planning.proofs.CountLaws.{one_member_means}

-- ---- digits
bit_or_lem : (q a b : ℕ) → bit q (bit_or a b) ≡ max (bit q a) (bit q b)
bit_or_lem q a b = rw (or_shr a b q, or_step (a / 2 ^ q) (b / 2 ^ q)) (omega arith)

-- taken from k digits 1, each digit is the other one
bit_not : (k q g : ℕ) → q < k → g < 2 ^ k → bit q (2 ^ k - 1 - g) + bit q g ≡ 1
bit_not zero q g l h = absurd (not-suc-le-zero l)
bit_not (suc k) zero g l h = rw (bit_zero (2 ^ suc k - 1 - g), bit_zero g) (omega arith)
bit_not (suc k) (suc q) g l h =
    let e : (2 ^ suc k - 1 - g) / 2 ≡ 2 ^ k - 1 - g / 2 = omega arith in
    rw (bit_suc q (2 ^ suc k - 1 - g), bit_suc q g, e) (bit_not k q (g / 2) (le_of_suc-le-suc l) (omega arith))

-- 2 ^ p more, where that digit was 0: it is 1 then, and no other digit changes
bit_added : (p g : ℕ) → bit p g ≡ 0 → bit p (g + 2 ^ p) ≡ 1
bit_added zero g e = rw (bit_zero (g + 1)) (omega (arith, bit_zero g))
bit_added (suc p) g e =
    let h : (g + 2 ^ suc p) / 2 ≡ g / 2 + 2 ^ p = omega arith in
    rw (bit_suc p (g + 2 ^ suc p), h) (bit_added p (g / 2) (sym (bit_suc p g) ∙ e))

bit_kept : (p g : ℕ) → bit p g ≡ 0 → (q : ℕ) → (q ≡ p → ⊥) → bit q (g + 2 ^ p) ≡ bit q g
bit_kept zero g e zero n = absurd (n refl)
bit_kept zero g e (suc q) n =
    let h : (g + 1) / 2 ≡ g / 2 = omega (arith, bit_zero g) in
    rw (bit_suc q g, bit_suc q (g + 1), h)
bit_kept (suc p) g e zero n = rw (bit_zero g, bit_zero (g + 2 ^ suc p)) (omega arith)
bit_kept (suc p) g e (suc q) n =
    let h : (g + 2 ^ suc p) / 2 ≡ g / 2 + 2 ^ p = omega arith in
    rw (bit_suc q g, bit_suc q (g + 2 ^ suc p), h) (bit_kept p (g / 2) (sym (bit_suc p g) ∙ e) q (λ z. n (ap suc z)))

-- one person more is in the group then, and nothing changes for the others
pub member_new : (p g : ℕ) → member p g ≡ false → member p (g + worth p) ≡ true
member_new p g out = bit_member p (g + worth p) (bit_added (p - 1) g (out_bit p g out))

pub member-kept : (p j g : ℕ) → 1 ≤ p → 1 ≤ j → member p g ≡ false → (j ≡ p → ⊥) → member j (g + worth p) ≡ member j g
unfolding member
member-kept p j g pos l out n = ap (λ (x : ℕ). eqb x 1) (bit_kept (p - 1) g (out_bit p g out) (j - 1) (λ e. n (omega arith)))

-- it lies inside every set around the group that has the person
pub more_inside : (p g h : ℕ) → 1 ≤ p → member p g ≡ false → member p h ≡ true → inside g h ≡ true → inside (g + worth p) h ≡ true
more_inside p g h pos out m t =
    inside_of (g + worth p) h (λ j l k u. elim (ℕ_discrete j p) [
      | yes same ↦ rw same m
      | no other ↦ inside-at g h t j l k (sym (member-kept p j g pos l out other) ∙ u)
    ])

-- ---- the sets that the code makes
pub lacking-is : (r g : ℕ) → r < 2 ^ 16 → g < 2 ^ 16 → Lacked r g (bit_and r (65535 - g))
lacking-is r g small h = record { small = omega (arith, and_le_l r (65535 - g)); has = λ i l k. alike (there i l k) (back-there i l k) }
  where
    there : (i : ℕ) → 1 ≤ i → i ≤ 16 → member i (bit_and r (65535 - g)) ≡ true → (member i r && not (member i g)) ≡ true
    there i l k t =
        let one : bit (i - 1) r ≡ 1 = omega (arith, member_bit i _ t, bit_and_lem (i - 1) r (65535 - g), bit_lt (i - 1) r) in
        let none : bit (i - 1) g ≡ 0 = omega (arith, member_bit i _ t, bit_and_lem (i - 1) r (65535 - g), bit_not 16 (i - 1) g (omega arith) h) in
        and_both (bit_member i r one) (so_not (isn't (λ (u : member i g ≡ true). let z : ⊥ = omega (arith, member_bit i g u) in z)))

    back-there : (i : ℕ) → 1 ≤ i → i ≤ 16 → (member i r && not (member i g)) ≡ true → member i (bit_and r (65535 - g)) ≡ true
    back-there i l k t =
        let w = both (member i r) (not (member i g)) t in
        bit_member i _
        (omega (arith, bit_and_lem (i - 1) r (65535 - g), bit_not 16 (i - 1) g (omega arith) h, member_bit i r w.0, out_bit i g (not_so (member i g) w.1)))

pub either_is : (a b : ℕ) → Either a b (bit_or a b)
either_is a b = record { has = λ i l k. alike (there i) (back-there i) }
  where
    there : (i : ℕ) → member i (bit_or a b) ≡ true → (member i a || member i b) ≡ true
    there i t =
        ⊎_elim (λ (u : member i a ≡ true). or_l (member i b) u)
        (λ (e : member i a ≡ false).
        or_r (member i a) (bit_member i b (omega (arith, member_bit i _ t, bit_or_lem (i - 1) a b, out_bit i a e))))
        (decided (member i a))

    back-there : (i : ℕ) → (member i a || member i b) ≡ true → member i (bit_or a b) ≡ true
    back-there i t =
        ⊎_elim (λ (u : member i a ≡ true). bit_member i _ (omega (arith, bit_or_lem (i - 1) a b, member_bit i a u, bit_lt (i - 1) b)))
        (λ (u : member i b ≡ true). bit_member i _ (omega (arith, bit_or_lem (i - 1) a b, member_bit i b u, bit_lt (i - 1) a)))
        (or_cases (member i a) (member i b) t)

-- the set of all n people has each of them, and nobody else
pub inside_everyone : (n s : ℕ) → n ≤ 16 → inside (2 ^ n - 1) s ≡ each n (λ i. member i s)
inside_everyone n s few =
    alike (λ t. each_of n (λ i. member i s) (λ i l h. inside-at (2 ^ n - 1) s t i l (omega arith) (is_in i l h)))
    (λ t. inside_of (2 ^ n - 1) s (λ i l h m. each_at n (λ j. member j s) t i l (member_le n i (2 ^ n - 1) (omega (arith, pow_pos n)) l m)))
  where
    is_in : (i : ℕ) → 1 ≤ i → i ≤ n → member i (2 ^ n - 1) ≡ true
    is_in i l h =
        let e : 2 ^ n - 1 - 0 ≡ 2 ^ n - 1 = omega arith in
        bit_member i (2 ^ n - 1) (omega (arith, bit_not n (i - 1) 0 (omega arith) (pow_pos n), ap (bit (i - 1)) e, bit_past 0 (i - 1) 0 (omega arith) (omega arith)))

-- ---- a set inside a group with one person more: that person is all that the group lacks of it
pub only_lack : (r g p : ℕ) → 1 ≤ p → member p g ≡ false
    → (inside r (g + worth p) ≡ true) ↔ ((j : ℕ) → 1 ≤ j → j ≤ 16 → member j r ≡ true → member j g ≡ false → j ≡ p)
only_lack r g p pos out = (there, back-there)
  where
    there : inside r (g + worth p) ≡ true → (j : ℕ) → 1 ≤ j → j ≤ 16 → member j r ≡ true → member j g ≡ false → j ≡ p
    there t j l h m o =
        elim (ℕ_discrete j p) [
          | yes e ↦ e
          | no n ↦ absurd (never (member-kept p j g pos l out n ∙ o) (inside-at r (g + worth p) t j l h m))
        ]

    back-there : ((j : ℕ) → 1 ≤ j → j ≤ 16 → member j r ≡ true → member j g ≡ false → j ≡ p) → inside r (g + worth p) ≡ true
    back-there f =
        inside_of r (g + worth p)
        (λ j l h m. ⊎_elim (λ (u : member j g ≡ true). inside-at g (g + worth p) (inside_more p g out) j l h u)
        (λ (o : member j g ≡ false).
        ap (λ (x : ℕ). member x (g + worth p)) (f j l h m o) ∙ member_new p g out)
        (decided (member j g)))

-- ---- the tests of what a group lacks of a set
module _ {r g s : ℕ} (h : Lacked r g s) where
  -- who is lacked
  lacked : (j : ℕ) → 1 ≤ j → j ≤ 16 → member j s ≡ true → (member j r ≡ true) × (member j g ≡ false)
  lacked j l k m = let w = both (member j r) (not (member j g)) (sym (h.has j l k) ∙ m) in (w.0, not_so (member j g) w.1)

  lacks : (j : ℕ) → 1 ≤ j → j ≤ 16 → member j r ≡ true → member j g ≡ false → member j s ≡ true
  lacks j l k m o = h.has j l k ∙ and_both m (so_not o)

  nobody : (i : ℕ) → s ≡ 0 → member i s ≡ true → ⊥
  nobody i z m = never (ap (member i) z ∙ nobody_in i) m

  somebody : (s ≡ 0 → ⊥) → (j : ℕ) × (1 ≤ j) × (j ≤ 16) × (member j s ≡ true)
  somebody n =
      let b = some_bit 16 s (omega arith) h.small in
      let m : member (suc b.0) s ≡ true = bit_next b.0 s (λ z. omega (arith, b.1)) in
      (suc b.0, omega arith, member_le 16 (suc b.0) s h.small (omega arith) m, m)

  -- nobody: the set lies inside the group
  pub lacks_nobody : inside r g ≡ eqb s 0
  lacks_nobody =
      alike
      (λ t. eq-eqb s 0 (elim (ℕ_discrete s 0) [
        | yes z ↦ z
        | no n ↦ let q = somebody n in let w = lacked q.0 q.1 q.2 q.3 in absurd (never w.1 (inside-at r g t q.0 q.1 q.2 w.0))
      ]))
      (λ z. inside_of r g (λ j l k m. ⊎_elim (λ (u : member j g ≡ true). u) (λ (o : member j g ≡ false). absurd (nobody j (eqb-true _ _ z) (lacks j l k m o))) (decided (member j g))))

  -- nobody, or person p alone: the set lies inside the group with p
  pub lacks_one : (a p : ℕ) → a ≡ cond (one_member s) s 0 → 1 ≤ p → p ≤ 16 → member p g ≡ false → inside r (g + worth p) ≡ (eqb s 0 || member p a)
  lacks_one a p e pos few out = alike there back-there
    where
      there : inside r (g + worth p) ≡ true → (eqb s 0 || member p a) ≡ true
      there t =
          elim (ℕ_discrete s 0) [
            | yes z ↦ or_l (member p a) (eq-eqb _ _ z)
            | no n ↦
                let q = somebody n in
                let all : (j : ℕ) → 1 ≤ j → member j s ≡ true → j ≡ p
                = λ j l m. let k = member_le 16 j s h.small l m in let w = lacked j l k m in (only_lack r g p pos out).0 t j l k w.0 w.1 in
                let m : member p s ≡ true = ap (λ (x : ℕ). member x s) (sym (all q.0 q.1 q.3)) ∙ q.3 in
                let one : one_member s ≡ true = (one_member_means s h.small).1 (p, pos, m, all) in
                or_r (eqb s 0) (ap (member p) (e ∙ rw one) ∙ m)
          ]

      back-there : (eqb s 0 || member p a) ≡ true → inside r (g + worth p) ≡ true
      back-there t =
          (only_lack r g p pos out).1
          (λ j l k m o. ⊎_elim (λ (z : eqb s 0 ≡ true). absurd (nobody j (eqb-true _ _ z) (lacks j l k m o)))
          (λ (u : member p a ≡ true). alone_is u j l (lacks j l k m o)) (or_cases (eqb s 0) (member p a) t))
        where
          alone_is : member p a ≡ true → (j : ℕ) → 1 ≤ j → member j s ≡ true → j ≡ p
          alone_is u j l m =
              ⊎_elim
              (λ (one : one_member s ≡ true).
              let w = (one_member_means s h.small).0 one in
              let same : a ≡ s = e ∙ rw one in
              w.3 j l m ∙ sym (w.3 p pos (ap (member p) (sym same) ∙ u)))
              (λ (none : one_member s ≡ false).
              let zero_a : a ≡ 0 = e ∙ rw none in
              absurd (never (ap (member p) zero_a ∙ nobody_in p) u))
              (decided (one_member s))
