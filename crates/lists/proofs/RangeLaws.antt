-- A number in its range: what `outside` says of it, and back.
-- Assumes nothing.
use Prim.Native.Nat.{ℕ, ◌≤◌}
use mathlib.Core.Path.{◌≡◌}
use mathlib.Core.Bool.{false}
use native.Mathlib.Omega.{arith}
use lib.Dec.{eqb, ltb}
use borrow.Author.Tests.{ltb-false, le-ltb, eqb-false, ne_eqb}
use Rattle.lists.specs.Places.{outside}
use Rattle.lists.proofs.Truth.{neither}

pub in_range : (high v : ℕ) → outside high v ≡ false → (1 ≤ v) × (v ≤ high)
in_range high v e =
    let h = neither (eqb v 0) (ltb high v) e in
    let n : v ≡ 0 → ⊥ = eqb-false v 0 h.0 in
    (omega arith, ltb-false high v h.1)

pub range_in : (high v : ℕ) → 1 ≤ v → v ≤ high → outside high v ≡ false
range_in high v l u = rw (ne_eqb v 0 (λ z. omega arith), le-ltb high v u)
