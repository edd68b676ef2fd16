-- The table of weights, filled piece by piece, and the sum of the pieces with it: one turn of each loop.
-- Assumes nothing.
use mathlib.Core.Path.{◌≡◌, refl, sym, ap, ◌∙◌}
use mathlib.Core.List.{List, [], ◌∷◌, ◌++◌}
use Prim.Native.Nat.{ℕ, suc, ◌+◌, ◌-◌, ◌*◌, ◌%◌, ◌≤◌, ◌<◌}
use native.Mathlib.Omega.{arith}
use native.Mathlib.Nat.{mul-le-mul}
use native.Mathlib.Numerals.{add-one}
use lib.ListN.{length, get_or, set, drop, replicate, get_or-append}
use lib.Seq.{drop-cons, drop-length, set_at, append_snoc}
use Rattle.prime.specs.Prime.{p, Below}
use Rattle.lists.specs.Run.{run}
use Rattle.field.specs.Joined.{joined}
use Rattle.field.specs.Lagrange.{lagrange_weight, Weights, weights_of, weighed}
use Rattle.lists.proofs.RunLaws.{run_length, run_at, run_end}
use Rattle.field.proofs.Products.{weight-small}
use Rattle.field.proofs.Curve.{by_weights}

-- ---- the table with the weights of pieces 1 to j
pub record Filled (k j : ℕ) (table : List ℕ) : Type 0 where
  pub is : table ≡ run (lagrange_weight k) 1 j ++ replicate (70 - j) 0

pub filled-start : (k : ℕ) → Filled k 0 (replicate 70 0)
filled-start k = record { is = unfold run in refl }

pub filled_turn : (k j v : ℕ) (table : List ℕ) → j < 70 → v ≡ lagrange_weight k (j + 1) → Filled k j table → Filled k (j + 1) (set table j v)
filled_turn k j v table l e f = record {
  is =
      let f' = lagrange_weight k in
      let m : 70 - j ≡ suc (70 - (j + 1)) = omega arith in
      let s : 1 + j ≡ j + 1 = omega arith in
      let n : run f' 1 (j + 1) ≡ run f' 1 j ++ v ∷ [] = rw add-one (run_end f' 1 j ∙ ap (λ (y : ℕ). run f' 1 j ++ y ∷ []) (ap f' s ∙ sym e)) in
      ap (λ (t : List ℕ). set t j v) (f.is ∙ ap (λ (c : ℕ). run f' 1 j ++ replicate c 0) m)
      ∙ set_at (run f' 1 j) 0 (replicate (70 - (j + 1)) 0) v j (run_length f' 1 j)
      ∙ sym (append_snoc (run f' 1 j) v (replicate (70 - (j + 1)) 0))
      ∙ ap (λ (t : List ℕ). t ++ replicate (70 - (j + 1)) 0) (sym n);
}

pub filled_end : (k j : ℕ) (table : List ℕ) → j ≡ k → Filled k j table → table ≡ weights_of k
unfolding weights_of
filled_end k j table e f = f.is ∙ ap (λ (i : ℕ). run (lagrange_weight k) 1 i ++ replicate (70 - i) 0) e

pub table_weights : (k : ℕ) → Weights k (weights_of k)
table_weights k = record {
  weight = λ j l h.
      unfold weights_of in
      get_or-append (run (lagrange_weight k) 1 k) (replicate (70 - k) 0) 0 (j - 1) (omega (arith, run_length (lagrange_weight k) 1 k))
      ∙ run_at (lagrange_weight k) k j l h;
}

-- ---- the sum of the pieces ys before i, and what is left of it
pub record Summed (ys : List ℕ) (i sum : ℕ) : Type 0 where
  pub whole : sum + weighed (lagrange_weight (length ys)) (i + 1) (drop i ys) ≡ weighed (lagrange_weight (length ys)) 1 ys
  pub most : sum ≤ i * 1072431504

pub summed_start : (ys : List ℕ) → Summed ys 0 0
summed_start ys = record { whole = omega arith; most = omega arith }

-- the weight at i, and its product with the piece: 32748 · 32748 at most
weight-next : (k i : ℕ) (ws : List ℕ) → i < k → Weights k ws → get_or ws i 0 ≡ lagrange_weight k (i + 1)
weight-next k i ws l w =
    let s : i + 1 - 1 ≡ i = omega arith in
    rw s at (w.weight (i + 1) (omega arith) (omega arith))

pub weight-most : (k i : ℕ) (ws : List ℕ) → i < k → Weights k ws → get_or ws i 0 ≤ 32748
weight-most k i ws l w = omega (arith, weight-next k i ws l w, weight-small k (i + 1))

pub product-most : (ys ws : List ℕ) (i : ℕ) → i < length ys → Below ys → Weights (length ys) ws → get_or ys i 0 * get_or ws i 0 ≤ 1072431504
product-most ys ws i l b w =
    let y : get_or ys i 0 ≤ 32748 = omega (arith, b.each i) in
    mul-le-mul y (weight-most (length ys) i ws l w)

one_more : (ys ws : List ℕ) (i sum : ℕ) → i < length ys → Below ys → Weights (length ys) ws
    → Summed ys i sum → Summed ys (i + 1) (sum + get_or ys i 0 * get_or ws i 0)
one_more ys ws i sum l b w t =
    let k = length ys in
    record {
      whole = rw (weight-next k i ws l w) (regroup (get_or ys i 0) (lagrange_weight k (i + 1)) (weighed (lagrange_weight k) (i + 1 + 1) (drop (i + 1) ys))
          ∙ ap (λ (x : ℕ). sum + x) (sym next) ∙ t.whole);
      most = omega (arith, t.most, product-most ys ws i l b w);
    }
  where
    next : weighed (lagrange_weight (length ys)) (i + 1) (drop i ys)
        ≡ lagrange_weight (length ys) (i + 1) * get_or ys i 0 + weighed (lagrange_weight (length ys)) (i + 1 + 1) (drop (i + 1) ys)
    next = rw (drop-cons ys i 0 l, add-one (i + 1), add-one i) (unfold weighed in refl)

    regroup : (y u r : ℕ) → sum + y * u + r ≡ sum + (u * y + r)
    regroup y u r = omega arith

-- the piece and the weight of this turn
pub summed_turn : (ys ws : List ℕ) (i n sum y u : ℕ) → n ≡ i + 1 → i < length ys → y ≡ get_or ys i 0 → u ≡ get_or ws i 0 → Below ys → Weights (length ys) ws
    → Summed ys i sum → Summed ys n (sum + y * u)
summed_turn ys ws i n sum y u m l e f b w t = rw (m, e, f) (one_more ys ws i sum l b w t)

pub summed_end : (ys : List ℕ) (i sum : ℕ) → i ≡ length ys → length ys < p → Below ys → Summed ys i sum → sum % p ≡ joined ys
summed_end ys i sum e l b t =
    let d : drop i ys ≡ [] = ap (λ (n : ℕ). drop n ys) e ∙ drop-length ys in
    let z : weighed (lagrange_weight (length ys)) (i + 1) (drop i ys) ≡ 0 = rw d (unfold weighed in refl) in
    ap (λ (x : ℕ). x % p) (omega (arith, z, t.whole)) ∙ by_weights ys b l
