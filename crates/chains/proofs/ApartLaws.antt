-- Groups of which none lies inside another are in different chains, so there are no more of them than chains.
-- Assumes nothing.
use mathlib.Core.Path.{◌≡◌, sym, subst₂}
use mathlib.Core.Bool.{true}
use mathlib.Core.Logic.{◌⊎◌, ⊎_elim}
use Prim.Native.Nat.{ℕ, zero, suc, ◌-◌, ◌/◌, ◌^◌, ◌≤◌, ◌<◌}
use native.Mathlib.Nat.{le_refl, not-suc-le-zero, le_of_suc-le-suc, div-one}
use native.Mathlib.Omega.{arith}
use lib.Pow.{pow_mono}
use Rattle.chains.specs.Apart.{digit, Apart, most}
use Rattle.chains.specs.Laws.{FewApart, FewWithout, FewWith}
use Rattle.chains.proofs.Pigeon.{pigeon}
use Rattle.chains.proofs.TestLaws.{digit-suc, within, within-at, spread, narrow, chain_of, of_eight, of_seven, chain_lt, narrowed}

module _ (n k : ℕ) (g : ℕ → ℕ) (few : n ≤ 8) (h : Apart n k g) where
  -- none lies inside another
  outside : (i j : ℕ) → 1 ≤ i → i ≤ k → 1 ≤ j → j ≤ k → (i ≡ j → ⊥) → within 8 (g i) (g j) ≡ true → ⊥
  outside i j a b c d e t =
      let r = h.apart i j a b c d e in
      omega (arith, within-at 8 (g i) (g j) t r.0 (omega arith), r.2, r.3)

  -- each group gets a number below m, and of two groups with one number one lies inside the other: there are at most m
  few_by : (m : ℕ) (c : ℕ → ℕ) → ((j : ℕ) → 1 ≤ j → j ≤ k → c (g j) < m)
      → ((i j : ℕ) → 1 ≤ i → i ≤ k → 1 ≤ j → j ≤ k → c (g i) ≡ c (g j) → (within 8 (g i) (g j) ≡ true) ⊎ (within 8 (g j) (g i) ≡ true)) → k ≤ m
  few_by m c low nest =
      pigeon m k (λ j. c (g j)) low
      (λ i j a b d e.
      ⊎_elim (outside i j a (omega arith) (omega arith) d (λ x. omega arith)) (outside j i (omega arith) d a (omega arith) (λ x. omega arith))
      (nest i j a (omega arith) (omega arith) d e))

pub few-apart : FewApart
few-apart n k g few h =
    let known : (j : ℕ) → 1 ≤ j → j ≤ k → g j < 256
    = λ j a b. let p : 2 ^ n ≤ 2 ^ 8 = pow_mono few in omega (arith, h.known j a b) in
    few_by n k g few h (most n) chain_of (λ j a b. chain_lt n (g j) few (h.known j a b))
    (λ i j a b c d e. of_eight (g i) (g j) (known i a b) (known j c d) e)

pub few-without : FewWithout
few-without p k g few h lacks =
    let back : (j : ℕ) → 1 ≤ j → j ≤ k → (spread p (narrow p (g j)) ≡ g j) × (narrow p (g j) < 128)
    = λ j a b. narrowed p (g j) few (h.known j a b) (lacks j a b) in
    few_by 8 k g (le_refl 8) h 35 (λ x. chain_of (narrow p x)) (λ j a b. chain_lt 7 (narrow p (g j)) (omega arith) (back j a b).1)
    (λ i j a b c d e.
    subst₂ (λ (x y : ℕ). (within 8 x y ≡ true) ⊎ (within 8 y x ≡ true)) (back i a b).0 (back j c d).0
    (of_seven p (narrow p (g i)) (narrow p (g j)) few (back i a b).1 (back j c d).1 e))

-- ---- everybody else: 2 ^ n − 1 − g has the other digits
others : (n p g : ℕ) → g < 2 ^ n → p < n → digit p (2 ^ n - 1 - g) ≡ 1 - digit p g
others zero p g h l = absurd (not-suc-le-zero l)
others (suc n) zero g h l = rw (div-one g, div-one (2 ^ suc n - 1 - g)) (omega arith)
others (suc n) (suc p) g h l =
    let e : (2 ^ suc n - 1 - g) / 2 ≡ 2 ^ n - 1 - g / 2 = omega arith in
    rw (digit-suc p g, digit-suc p (2 ^ suc n - 1 - g), e) (others n p (g / 2) (omega arith) (le_of_suc-le-suc l))

-- where none lies inside another, none of the groups of everybody else does
pub few_with : FewWith
few_with p k g few h has =
    few-without p k (λ j. 2 ^ 8 - 1 - g j) few
    (record {
      known = λ j a b. omega arith;
      apart = λ i j a b c d other.
          let r = h.apart j i c d a b (λ e. other (sym e)) in
          (r.0, r.1, omega (arith, others 8 r.0 (g i) (h.known i a b) r.1, r.3), omega (arith, others 8 r.0 (g j) (h.known j c d) r.1, r.2));
    })
    (λ j a b. omega (arith, others 8 p (g j) (h.known j a b) few, has j a b))
