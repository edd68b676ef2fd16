-- What it is that a view of something dealt hides it, whatever is dealt and however the randomness and the view look.
-- Assumes nothing.
use Rattle.std.specs.Prelude.{◌≡◌, List, ℕ}

-- those with A and those with B are equally many: each with A has its one partner with B
pub record Matched {X Y : Type 0} (A : X → Type 0) (B : Y → Type 0) : Type 0 where
  pub there : X → Y
  pub back : Y → X
  pub there_in : (r : X) → A r → B (there r)
  pub back_in : (r : Y) → B r → A (back r)
  pub back-there : (r : X) → A r → back (there r) ≡ r
  pub there_back : (r : Y) → B r → there (back r) ≡ r

-- Two things may have been dealt, one with any randomness of A and the other with any of B; `one r i` and `other r i` are what i then sees.
-- All that randomness stands in pairs, one to one (a map and its inverse, on both sides), and every member sees the same from both of a pair.
pub record Hidden {X Y W : Type 0} (A : X → Type 0) (B : Y → Type 0) (one : X → W → List ℕ) (other : Y → W → List ℕ) (member : W → Type 0) : Type 0 where
  pub pairs : Matched A B
  pub same : (r : X) → A r → (i : W) → member i → other (pairs.there r) i ≡ one r i

-- r is randomness of A from which each member i sees c i
pub record Gives {X W : Type 0} (A : X → Type 0) (one : X → W → List ℕ) (member : W → Type 0) (c : W → List ℕ) (r : X) : Type 0 where
  pub random : A r
  pub gives : (i : W) → member i → one r i ≡ c i
