-- The laws that this room owes; their proofs are in proofs/Laws.antt.
-- Assumes nothing.
use Rattle.std.specs.Prelude.{◌≡◌, List, ℕ, ◌%◌, ◌≤◌, ◌<◌, length, get_or}
use Rattle.prime.specs.Prime.{p}
use Rattle.field.specs.Joined.{joined}
use Rattle.field.specs.Lagrange.{lagrange_weight, weighed}
use Rattle.triangle.specs.Triangle.{weight, line, line_of, place_of}

-- The rule of the whole triangle: its 35 lines have 71 numbers each, which are 2,485, and for each j up to k, where k is at most 70, the weight
-- of piece j of k stands in its place.
abbrev pub TriangleRule : Type 0
TriangleRule = ((m : ℕ) → 1 ≤ m → m ≤ 35 → length (line m) ≡ 71)
    × ((k j : ℕ) → 1 ≤ j → j ≤ k → k ≤ 70
    → (1 ≤ line_of k) × (line_of k ≤ 35) × (place_of k j < 71) × (get_or (line (line_of k)) (place_of k j) 0 ≡ weight k j))

-- They are the weights of Lagrange's formula, number for number.
abbrev pub WeightsSame : Type 0
WeightsSame = (k j : ℕ) → k < p → 1 ≤ j → j ≤ k → weight k j ≡ lagrange_weight k j

-- The joined word of however many pieces is the sum of the pieces, each times its weight, mod p.
abbrev pub ByWeights : Type 0
ByWeights = (ys : List ℕ) → joined ys ≡ weighed (weight (length ys)) 1 ys % p

-- Of three pieces the weights are 3, 32746 and 1.
abbrev pub ThreePieces : Type 0
ThreePieces = (weight 3 1 ≡ 3) × (weight 3 2 ≡ 32746) × (weight 3 3 ≡ 1)
