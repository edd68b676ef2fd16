-- A polynomial of k coefficients is known from its values at 1 to k: they give its value at 0, its first coefficient, and so the others.
-- Assumes nothing.
use mathlib.Core.Path.{◌≡◌, refl, sym, ap, ap₂, ◌∙◌}
use mathlib.Core.List.{List, [], ◌∷◌}
use Prim.Native.Nat.{ℕ, ◌*◌, ◌%◌, ◌≤◌, ◌<◌}
use native.Mathlib.Omega.{arith}
use native.Mathlib.Nat.{suc_inj, suc-ne-zero}
use lib.ListN.{length}
use Rattle.prime.specs.Prime.{p, Below}
use Rattle.field.specs.Poly.{value, Through}
use Rattle.field.specs.Joined.{joined}
use Rattle.prime.proofs.Mod.{◌≈◌, small}
use Rattle.prime.proofs.Prime.{cancel}
use Rattle.lists.proofs.RunLaws.{run_is, run-same}
use Rattle.field.proofs.Degree.{points, joined_points}
use Rattle.field.proofs.Sums.{below_rest}

pub value-zero : (c : ℕ) (cs : List ℕ) → value (c ∷ cs) 0 ≡ c
unfolding value
value-zero c cs = omega arith

pub value-start : (cs : List ℕ) → Below cs → value cs 0 % p ≡ value cs 0
unfolding value
value-start [] b = refl
value-start (c ∷ cs) b = rw (value-zero c cs) (small (b.each 0))

-- what was dealt is joined again
pub round_trip_one : (d : ℕ) (cs : List ℕ) → Below (d ∷ cs) → joined (points (d ∷ cs) 1 (length (d ∷ cs))) ≡ d
round_trip_one d cs b = joined_points (d ∷ cs) ∙ ap (λ (x : ℕ). x % p) (value-zero d cs) ∙ small (b.each 0)

coefficients : (cs ds : List ℕ) → length cs ≡ length ds → length cs < p → Below cs → Below ds
    → ((j : ℕ) → 1 ≤ j → j ≤ length cs → value cs j ≈ value ds j) → cs ≡ ds
unfolding value
coefficients [] [] e l a b h = refl
coefficients [] (d ∷ ds) e l a b h = absurd (suc-ne-zero (length ds) (sym e))
coefficients (c ∷ cs) [] e l a b h = absurd (suc-ne-zero (length cs) e)
coefficients (c ∷ cs) (d ∷ ds) e l a b h =
    ap₂ (λ (x : ℕ) (xs : List ℕ). x ∷ xs) first
    (coefficients cs ds (suc_inj e) (omega arith) (below_rest a) (below_rest b) (λ j u v. cancel j (omega arith) (rest j (h j u (omega arith)))))
  where
    first : c ≡ d
    first =
        sym (round_trip_one c cs a)
        ∙ ap joined (run-same (λ j. value (c ∷ cs) j % p) (λ j. value (d ∷ ds) j % p) (length (c ∷ cs)) (λ j u v. (h j u v).same))
        ∙ ap (λ (n : ℕ). joined (points (d ∷ ds) 1 n)) e ∙ round_trip_one d ds b

    rest : (j : ℕ) → value (c ∷ cs) j ≈ value (d ∷ ds) j → j * value cs j ≈ j * value ds j
    rest j g = omega (arith, first)

-- the pieces through which a polynomial goes are its points
through_points : (cs ys : List ℕ) → Through cs ys → ys ≡ points cs 1 (length cs)
through_points cs ys t = run_is (λ j. value cs j % p) (length cs) ys (sym t.degree) (λ j l h. t.meets j l (omega (arith, t.degree)))

pub joined-value : (cs ys : List ℕ) → Through cs ys → joined ys ≡ value cs 0 % p
joined-value cs ys t = ap joined (through_points cs ys t) ∙ joined_points cs

-- through k points goes at most one polynomial of degree less than k
pub through_one : (cs ds ys : List ℕ) → length ys < p → Through cs ys → Through ds ys → cs ≡ ds
through_one cs ds ys l t u =
    coefficients cs ds (t.degree ∙ sym u.degree) (omega (arith, t.degree)) t.below u.below
    (λ j a b.
    let h : j ≤ length ys = omega (arith, t.degree) in
    record { same = sym (t.meets j a h) ∙ u.meets j a h })
