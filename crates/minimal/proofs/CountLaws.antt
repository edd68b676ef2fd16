-- The members of a set, counted: one person more, each member's piece, and the one holder of each piece.
-- Assumes nothing.
use mathlib.Core.Path.{◌≡◌, refl, sym, ap, ◌∙◌}
use mathlib.Core.Bool.{true, false}
use mathlib.Core.Logic.{⊎_elim}
use Prim.Native.Nat.{ℕ, zero, suc, ◌+◌, ◌-◌, ◌^◌, ◌≤◌, ◌<◌}
use native.Mathlib.Nat.{le_refl, eq-or-lt_of_le, lt_of_not-le}
use native.Mathlib.Decide.{dec_le}
use native.Mathlib.Numerals.{add-one}
use native.Mathlib.Omega.{arith}
use Rattle.lists.specs.Places.{those}
use Rattle.lists.proofs.Truth.{decided, isn't}
use Rattle.lists.proofs.ThoseLaws.{count_hit, count_miss, those-few, those_more}
use Rattle.planning.specs.Sets.{member, member_count}
use Rattle.planning.proofs.SetLaws.{back, member_le}
use Rattle.minimal.specs.Minimal.{counted, number_in}

-- up to person 16 they are all its members
pub counted-all : (set : ℕ) → counted set 16 ≡ member_count set
unfolding counted member_count
counted-all set = refl

module _ (set : ℕ) where
  -- ---- one person more
  next : (c : ℕ) → 1 + c ≡ c + 1
  next c = omega arith

  pub count_none : 0 ≡ counted set 0
  unfolding counted those
  count_none = refl

  pub count_in : (c count : ℕ) → member (c + 1) set ≡ true → count ≡ counted set c → count + 1 ≡ counted set (c + 1)
  unfolding counted
  count_in c count t e = count_hit (λ i. member i set) 1 c count e (ap (λ (x : ℕ). member x set) (next c) ∙ t)

  pub count_out : (c count : ℕ) → member (c + 1) set ≡ false → count ≡ counted set c → count ≡ counted set (c + 1)
  unfolding counted
  count_out c count t e = count_miss (λ i. member i set) 1 c count e (ap (λ (x : ℕ). member x set) (next c) ∙ t)

  pub count_more : (a b : ℕ) → a ≤ b → counted set a ≤ counted set b
  unfolding counted
  count_more a b h = those_more (λ i. member i set) 1 a b h

  pub count-few : (c : ℕ) → counted set c ≤ c
  unfolding counted
  count-few c = those-few (λ i. member i set) 1 c

  -- ---- the piece of a member
  own : (i : ℕ) → 1 ≤ i → member i set ≡ true → counted set i ≡ counted set (i - 1) + 1
  own i l t =
      let e : i - 1 + 1 ≡ i = omega arith in
      sym (count_in (i - 1) _ (ap (λ (x : ℕ). member x set) e ∙ t) refl ∙ ap (counted set) e)

  pub member-piece : (i : ℕ) → 1 ≤ i → i ≤ 16 → member i set ≡ true → (1 ≤ number_in set i) × (number_in set i ≤ member_count set)
  member-piece i l h t = (omega (arith, own i l t), omega (arith, counted-all set, count_more i 16 h))

  pub pieces_rise : (i k : ℕ) → 1 ≤ i → i < k → member k set ≡ true → number_in set i < number_in set k
  pieces_rise i k l h t = omega (arith, own k (omega arith) t, count_more i (k - 1) (omega arith))

  pub pieces-differ : (i k : ℕ) → 1 ≤ i → 1 ≤ k → member i set ≡ true → member k set ≡ true → number_in set i ≡ number_in set k → i ≡ k
  pieces-differ i k a b s t e =
      elim (dec_le i k) [
        | yes h ↦ ⊎_elim (λ (q : i ≡ k). q) (λ (less : i < k). absurd (let r : ⊥ = omega (arith, pieces_rise i k a less t) in r)) (eq-or-lt_of_le h)
        | no h ↦ absurd (let r : ⊥ = omega (arith, pieces_rise k i b (lt_of_not-le h) s) in r)
      ]

  -- ---- the holder of a piece
  holder_of : (c j : ℕ) → 1 ≤ j → j ≤ counted set c → (i : ℕ) × (1 ≤ i) × (i ≤ c) × (member i set ≡ true) × (number_in set i ≡ j)
  holder_of zero j l h = absurd (let r : ⊥ = omega (arith, count_none) in r)
  holder_of (suc c) j l h =
      elim (dec_le j (counted set c)) [
        | yes m ↦ let r = holder_of c j l m in (r.0, r.1, omega (arith, r.2), r.3, r.4)
        | no m ↦ last (lt_of_not-le m)
      ]
    where
      last : counted set c < j → (i : ℕ) × (1 ≤ i) × (i ≤ suc c) × (member i set ≡ true) × (number_in set i ≡ j)
      last m =
          ⊎_elim (λ (t : member (suc c) set ≡ true). (suc c, omega arith, le_refl (suc c), t, omega (arith, own (suc c) (omega arith) t, ap (counted set) (back c))))
          (λ (e : member (suc c) set ≡ false).
          absurd (let r : ⊥ = omega (arith, count_out c _ (ap (λ (x : ℕ). member x set) (add-one c) ∙ e) refl, ap (counted set) (add-one c)) in r))
          (decided (member (suc c) set))

-- ---- a set of n people
count_past : (n set : ℕ) → set < 2 ^ n → (c : ℕ) → counted set (n + c) ≡ counted set n
count_past n set h zero = let e : n + 0 ≡ n = omega arith in ap (counted set) e
count_past n set h (suc c) =
    let e : n + c + 1 ≡ n + suc c = omega arith in
    ap (counted set) (sym e)
    ∙ sym (count_out set (n + c) _ (isn't (λ t. let r : ⊥ = omega (arith, member_le n (n + c + 1) set h (omega arith) t) in r)) refl)
    ∙ count_past n set h c

pub size_up_to : (n set : ℕ) → n ≤ 16 → set < 2 ^ n → counted set n ≡ member_count set
size_up_to n set l h =
    let e : 16 ≡ n + (16 - n) = omega arith in
    sym (ap (counted set) e ∙ count_past n set h (16 - n)) ∙ counted-all set

pub one_holder : (n set j : ℕ) → n ≤ 16 → set < 2 ^ n → 1 ≤ j → j ≤ member_count set
    → (i : ℕ) × (1 ≤ i) × (i ≤ n) × (member i set ≡ true) × (number_in set i ≡ j)
    × ((k : ℕ) → 1 ≤ k → member k set ≡ true → number_in set k ≡ j → k ≡ i)
one_holder n set j few h l m =
    let r = holder_of set n j l (omega (arith, size_up_to n set few h)) in
    (r.0, r.1, r.2, r.3, r.4, λ k a t e. pieces-differ set k r.0 a r.1 t r.3 (e ∙ sym r.4))
