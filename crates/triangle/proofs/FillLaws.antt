-- One turn of the filling: a weight that was read off the triangle is Lagrange's, so that field's law of its own table goes for it.
-- Assumes nothing.
use mathlib.Core.Path.{◌≡◌, subst, ◌∙◌, ap}
use mathlib.Core.List.{List}
use Prim.Native.Nat.{ℕ, ◌+◌, ◌-◌, ◌≤◌}
use native.Mathlib.Omega.{arith}
use lib.ListN.{set}
use Rattle.field.specs.Lagrange.{lagrange_weight}
use Rattle.field.proofs.Table.{Filled, filled_turn}
use Rattle.triangle.specs.Triangle.{weight}
use Rattle.triangle.proofs.JoinLaws.{weights_same}

pub stored_turn : (k j v : ℕ) (table : List ℕ) → 1 ≤ j → j ≤ k → k ≤ 70 → v ≡ weight k j
    → Filled k (j - 1) table → Filled k (j + 1 - 1) (set table (j - 1) v)
stored_turn k j v table l h u e f =
    let n : j - 1 + 1 ≡ j + 1 - 1 = omega arith in
    let m : j ≡ j - 1 + 1 = omega arith in
    subst (λ (i : ℕ). Filled k i (set table (j - 1) v)) n
    (filled_turn k (j - 1) v table (omega arith) (e ∙ weights_same k j (omega arith) l h ∙ ap (lagrange_weight k) m) f)
