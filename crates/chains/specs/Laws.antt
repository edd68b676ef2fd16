-- The laws that this room owes; their proofs are in proofs/Laws.antt.
-- Assumes nothing.
use Rattle.std.specs.Prelude.{◌≡◌, ℕ, ◌≤◌, ◌<◌}
use Rattle.chains.specs.Apart.{digit, Apart, most}

-- SCOPE 2.2: of n people's groups no more can be picked so that none lies inside another.
abbrev pub FewApart : Type 0
FewApart = (n k : ℕ) (g : ℕ → ℕ) → n ≤ 8 → Apart n k g → k ≤ most n

-- If one of eight people is in none of them, they are groups of the seven others, and are 35 at most.
abbrev pub FewWithout : Type 0
FewWithout = (p k : ℕ) (g : ℕ → ℕ) → p < 8 → Apart 8 k g → ((j : ℕ) → 1 ≤ j → j ≤ k → digit p (g j) ≡ 0) → k ≤ 35

-- And if one of them is in all of them, they are 35 at most too.
abbrev pub FewWith : Type 0
FewWith = (p k : ℕ) (g : ℕ → ℕ) → p < 8 → Apart 8 k g → ((j : ℕ) → 1 ≤ j → j ≤ k → digit p (g j) ≡ 1) → k ≤ 35
