-- The rows of the triangle, each made from the one above it, which antt computes and compares with the stored lines; and where each weight stands.
-- Assumes nothing.
use mathlib.Core.Path.{◌≡◌, refl, sym, ap, ap₂, ◌∙◌}
use mathlib.Core.Bool.{Bool, true, false, cond}
use mathlib.Core.List.{List, [], ◌∷◌, ◌++◌}
use Prim.Native.Nat.{ℕ, zero, suc, ◌+◌, ◌-◌, ◌≤◌, ◌<◌}
use native.Mathlib.Omega.{arith}
use native.Mathlib.Nat.{zero-add}
use borrow.Author.Tests.{ltb-true, ltb-false}
use lib.Dec.{ltb}
use lib.ListN.{length, get_or, length-append, get_or-append}
use lib.Seq.{get_or-append-add}
use Rattle.lists.specs.Run.{run}
use Rattle.lists.proofs.RunLaws.{run_length, run_at}
use Rattle.prime.specs.Prime.{minus}
use Rattle.triangle.specs.Triangle.{weight, row, line, line_of, place_of}
use Rattle.triangle.proofs.WeightLaws.{weight-zero, weight-none, weight-minus}

-- ---- rows by Pascal's rule
-- the row under one: each number is the one above it less the one to the left of that. To the left of the first stands w, behind the last 0
unfoldable pub under : ℕ → List ℕ → List ℕ
under w [] = minus 0 w ∷ []
under w (v ∷ vs) = minus v w ∷ under v vs

under_run : (k j n : ℕ) → j + n ≡ k → under (weight k j) (run (weight k) (suc j) n) ≡ run (weight (suc k)) (suc j) (suc n)
unfolding under run
under_run k j zero e = ap (λ (x : ℕ). x ∷ []) (ap (λ (x : ℕ). minus x (weight k j)) (sym (weight-none k (suc j) (omega arith))) ∙ weight-minus k j)
under_run k j (suc n) e = ap₂ (λ (x : ℕ) (xs : List ℕ). x ∷ xs) (weight-minus k j) (under_run k (suc j) n (omega arith))

-- row k, made from an empty row
unfoldable pub made : ℕ → List ℕ
made zero = []
made (suc k) = under 32748 (made k)

made_row : (k : ℕ) → made k ≡ row k
unfolding made run
made_row zero = refl
made_row (suc k) = ap (under 32748) (made_row k) ∙ rw (sym (weight-zero k)) (under_run k 0 k (zero-add k))

-- a list that is two such rows is the line
pub made-line : (m n : ℕ) (xs : List ℕ) → m ≡ n → xs ≡ made n ++ made (71 - n) → xs ≡ line m
unfolding line
made-line m n xs e g = g ∙ ap₂ (λ (ys zs : List ℕ). ys ++ zs) (made_row n) (made_row (71 - n)) ∙ ap (λ (x : ℕ). row x ++ row (71 - x)) (sym e)

-- ---- where each weight stands
row-length : (k : ℕ) → length (row k) ≡ k
row-length k = run_length (weight k) 1 k

pub line-length : (m : ℕ) → m ≤ 35 → length (line m) ≡ 71
unfolding line
line-length m u = length-append (row m) (row (71 - m)) ∙ omega (arith, row-length m, row-length (71 - m))

pub in_front_lem : (k j : ℕ) → 1 ≤ j → j ≤ k → get_or (line k) (j - 1) 0 ≡ weight k j
unfolding line
in_front_lem k j l h = get_or-append (row k) (row (71 - k)) 0 (j - 1) (omega (arith, row-length k)) ∙ run_at (weight k) k j l h

pub behind : (k j : ℕ) → 1 ≤ j → j ≤ k → k ≤ 70 → get_or (line (71 - k)) (71 - k + (j - 1)) 0 ≡ weight k j
unfolding line
behind k j l h u =
    let m = 71 - k in
    let e : 71 - m ≡ k = omega arith in
    ap (λ (x : ℕ). get_or (row m ++ row (71 - m)) (x + (j - 1)) 0) (sym (row-length m))
    ∙ get_or-append-add (row m) (row (71 - m)) (j - 1) 0
    ∙ ap (λ (x : ℕ). get_or (row x) (j - 1) 0) e
    ∙ run_at (weight k) k j l h

pub in_place : (k j : ℕ) → 1 ≤ j → j ≤ k → k ≤ 70
    → (1 ≤ line_of k) × (line_of k ≤ 35) × (place_of k j < 71) × (get_or (line (line_of k)) (place_of k j) 0 ≡ weight k j)
unfolding line_of place_of
in_place k j l h u = go (ltb 35 k) refl
  where
    go : (t : Bool) → ltb 35 k ≡ t → (1 ≤ cond t (71 - k) k) × (cond t (71 - k) k ≤ 35) × (cond t (71 - k + (j - 1)) (j - 1) < 71)
        × (get_or (line (cond t (71 - k) k)) (cond t (71 - k + (j - 1)) (j - 1)) 0 ≡ weight k j)
    go true e = let a = ltb-true 35 k e in (omega arith, omega arith, omega arith, behind k j l h u)
    go false e = let a = ltb-false 35 k e in (omega arith, omega arith, omega arith, in_front_lem k j l h)

pub line-most : (k : ℕ) → k ≤ 70 → line_of k ≤ 35
unfolding line_of
line-most k u = go (ltb 35 k) refl
  where
    go : (t : Bool) → ltb 35 k ≡ t → cond t (71 - k) k ≤ 35
    go true e = let a = ltb-true 35 k e in omega arith
    go false e = let a = ltb-false 35 k e in omega arith

-- what is read at its place in its line is the weight
pub read_weight : (k j m i : ℕ) (xs : List ℕ) → 1 ≤ j → j ≤ k → k ≤ 70 → m ≡ line_of k → i ≡ place_of k j → (1 ≤ m → xs ≡ line m)
    → get_or xs i 0 ≡ weight k j
read_weight k j m i xs l h u e g f =
    let r = in_place k j l h u in
    ap₂ (λ (ys : List ℕ) (x : ℕ). get_or ys x 0) (f (omega (arith, r.0, e)) ∙ ap line e) g ∙ r.3
