-- From secret to pieces (SCOPE 3), for a secret of several words; and what it is that a deal hides its secret.
-- Assumes nothing.
use Rattle.std.specs.Prelude.{◌≡◌, ◌≢◌, List, [], ◌∷◌, ℕ, ◌-◌, ◌*◌, ◌≤◌, length, take, drop}
use Rattle.prime.specs.Prime.{Below}
use Rattle.field.specs.Poly.{piece}
use Rattle.field.specs.Hiding.{Hidden, Gives}

-- the values of piece j, one for each secret word of ds: each word has q coefficients of its own, read off the lent randomness from its
-- front, one word after the other. They are used as they stand; none is reduced (SCOPE 3).
unfoldable pub values : ℕ → List ℕ → List ℕ → ℕ → List ℕ
values q [] rs j = []
values q (d ∷ ds) rs j = piece d (take q rs) j ∷ values q ds (drop q rs) j

-- SCOPE 3: w·(k−1) random words, not one more or less, each of 0 to 32748: any such list, zeros too
pub record Random (w k : ℕ) (rs : List ℕ) : Type 0 where
  pub count : length rs ≡ w * (k - 1)
  pub below : Below rs

-- piece j is one of 1 to k, and not m
pub record Other (k m j : ℕ) : Type 0 where
  pub least : 1 ≤ j
  pub most : j ≤ k
  pub unlike : j ≢ m

-- all the randomness of the secret ds in pairs with all that of the secret ds', of as many words, so that each piece of 1 to k but m has
-- the same values from both
abbrev pub Paired : ℕ → ℕ → List ℕ → List ℕ → Type 0
Paired k m ds ds' = Hidden (Random (length ds) k) (Random (length ds') k) (values (k - 1) ds) (values (k - 1) ds') (Other k m)

-- the randomness with which the secret ds gives the values v j for each piece j of 1 to k but m
abbrev pub GivesValues : ℕ → ℕ → (ℕ → List ℕ) → List ℕ → List ℕ → Type 0
GivesValues k m v ds = Gives (Random (length ds) k) (values (k - 1) ds) (Other k m) v
