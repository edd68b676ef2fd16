-- A test that holds of each of the numbers 1 to c, or fails of one.
-- Assumes nothing.
use mathlib.Core.Path.{◌≡◌, refl, sym, ap, ap₂, ◌∙◌}
use mathlib.Core.Bool.{Bool, true, false, ◌&&◌, false≢true}
use mathlib.Core.Logic.{⊎_elim}
use Prim.Native.Nat.{ℕ, zero, suc, ◌≤◌, ◌<◌}
use native.Mathlib.Nat.{le_refl, le_of_suc-le-suc, eq-or-lt_of_le}
use native.Mathlib.Omega.{arith}
use Rattle.lists.proofs.Truth.{never, decided, isn't, both, and_both}
use Rattle.lists.specs.Some.{each}

pub each_at : (c : ℕ) (f : ℕ → Bool) → each c f ≡ true → (i : ℕ) → 1 ≤ i → i ≤ c → f i ≡ true
unfolding each
each_at zero f t i l h = absurd (omega arith)
each_at (suc c) f t i l h =
    let r = both (each c f) (f (suc c)) t in
    ⊎_elim (λ (e : i ≡ suc c). ap f e ∙ r.1) (λ (s : i < suc c). each_at c f r.0 i l (le_of_suc-le-suc s)) (eq-or-lt_of_le h)

pub each_of : (c : ℕ) (f : ℕ → Bool) → ((i : ℕ) → 1 ≤ i → i ≤ c → f i ≡ true) → each c f ≡ true
unfolding each
each_of zero f h = refl
each_of (suc c) f h = and_both (each_of c f (λ i l k. h i l (omega arith))) (h (suc c) (omega arith) (le_refl _))

-- where it fails, it fails somewhere
pub each_fails : (c : ℕ) (f : ℕ → Bool) → each c f ≡ false → (i : ℕ) × (1 ≤ i) × (i ≤ c) × (f i ≡ false)
unfolding each
each_fails zero f e = absurd (false≢true (sym e))
each_fails (suc c) f e =
    ⊎_elim (λ (t : each c f ≡ true). (suc c, omega arith, le_refl _, isn't (λ u. never e (and_both t u))))
    (λ (d : each c f ≡ false). let r = each_fails c f d in (r.0, r.1, omega arith, r.3)) (decided (each c f))

pub each_same : (c : ℕ) (f h : ℕ → Bool) → ((i : ℕ) → 1 ≤ i → i ≤ c → f i ≡ h i) → each c f ≡ each c h
unfolding each
each_same zero f h e = refl
each_same (suc c) f h e = ap₂ (λ (x y : Bool). x && y) (each_same c f h (λ i p q. e i p (omega arith))) (e (suc c) (omega arith) (le_refl _))
