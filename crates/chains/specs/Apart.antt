-- Groups of which none lies inside another (SCOPE 2.2). A group is a number (SCOPE 1), here read by its binary digits: digit 0 is person 1's.
-- Assumes nothing.
use Rattle.std.specs.Prelude.{◌≡◌, [], ◌∷◌, ◌≢◌, ℕ, ◌-◌, ◌/◌, ◌%◌, ◌^◌, ◌≤◌, ◌<◌, get_or}

-- digit p of the group g: 1 where person p + 1 is in it, else 0
abbrev pub digit : ℕ → ℕ → ℕ
digit p g = g / 2 ^ p % 2

-- g 1 to g k are groups of n people of which none lies inside another: each has a person whom the other lacks
pub record Apart (n k : ℕ) (g : ℕ → ℕ) : Type 0 where
  pub known : (j : ℕ) → 1 ≤ j → j ≤ k → g j < 2 ^ n
  pub apart : (i j : ℕ) → 1 ≤ i → i ≤ k → 1 ≤ j → j ≤ k → i ≢ j → (p : ℕ) × (p < n) × (digit p (g i) ≡ 1) × (digit p (g j) ≡ 0)

-- the most such groups that n people have, for each n of 1 to 8
abbrev pub most : ℕ → ℕ
most n = get_or (1 ∷ 2 ∷ 3 ∷ 6 ∷ 10 ∷ 20 ∷ 35 ∷ 70 ∷ []) (n - 1) 0
