-- What planning's own functions say to one another: sets made of sets. No promise to a caller names these.
-- Assumes nothing.
use Rattle.std.specs.Prelude.{◌≡◌, not, ◌&&◌, ◌||◌, ℕ, ◌^◌, ◌≤◌, ◌<◌}
use Rattle.planning.specs.Sets.{member}

-- s has the members of r that are not in g, and no others
pub record Lacked (r g s : ℕ) : Type 0 where
  pub small : s < 2 ^ 16
  pub has : (i : ℕ) → 1 ≤ i → i ≤ 16 → member i s ≡ (member i r && not (member i g))

-- s has the members of a, those of b, and no others
pub record Either (a b s : ℕ) : Type 0 where
  pub has : (i : ℕ) → 1 ≤ i → i ≤ 16 → member i s ≡ (member i a || member i b)
