-- From secret to pieces (SCOPE 3), for one word: polynomials mod 32749, their values and their pieces.
-- Assumes nothing.
use Rattle.std.specs.Prelude.{◌≡◌, List, [], ◌∷◌, ℕ, ◌+◌, ◌-◌, ◌*◌, ◌%◌, ◌≤◌, length, get_or}
use Rattle.prime.specs.Prime.{p, Below}

-- c₀ + c₁·x + c₂·x² + ..: the value at x of the polynomial with these coefficients, the lowest first, not reduced
unfoldable pub value : List ℕ → ℕ → ℕ
value [] x = 0
value (c ∷ cs) x = c + x * value cs x

-- SCOPE 3: piece j of the word d, whose coefficients a(1), .., a(k−1) are cs; any of them may be zero
abbrev pub piece : ℕ → List ℕ → ℕ → ℕ
piece d cs j = value (d ∷ cs) j % p

-- cs is a polynomial of degree less than k that has piece 1 as its value at 1, and so on up to k, where ys are the k pieces: k coefficients
pub record Through (cs ys : List ℕ) : Type 0 where
  pub degree : length cs ≡ length ys
  pub below : Below cs
  pub meets : (j : ℕ) → 1 ≤ j → j ≤ length ys → get_or ys (j - 1) 0 ≡ value cs j % p

-- cs is the one list with A
pub record One (A : List ℕ → Type 0) (cs : List ℕ) : Type 0 where
  pub is : A cs
  pub only : (ds : List ℕ) → A ds → ds ≡ cs
