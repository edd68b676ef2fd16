-- Several deals of one secret, each with pieces of its own (SCOPE 3.2). Deal s has as many pieces as the s-th number of ks says; the randomness
-- is lent deal after deal. Assumes nothing.
use Rattle.std.specs.Prelude.{List, [], ◌∷◌, ◌≡◌, ℕ, ◌+◌, ◌-◌, ◌*◌, ◌≤◌, length, take, drop}
use Rattle.lists.specs.Places.{at}
use Rattle.prime.specs.Prime.{Below}
use Rattle.field.specs.Hiding.{Hidden}
use Rattle.field.specs.Pieces.{values, Other}

-- the coefficients that one word of the secret has in all the deals: in each one fewer than its pieces
unfoldable pub coefficients : List ℕ → ℕ
coefficients [] = 0
coefficients (k ∷ ks) = k - 1 + coefficients ks

-- deal s's part of the randomness, for a secret of w words: it begins behind the parts of the deals before
unfoldable pub part_of : ℕ → List ℕ → List ℕ → ℕ → List ℕ
part_of w ks random s = take (w * (at ks s - 1)) (drop (w * coefficients (take (s - 1) ks)) random)

-- the values of piece j of deal s, which reads its part as any deal reads its randomness: word after word
unfoldable pub part_values : List ℕ → List ℕ → List ℕ → ℕ → ℕ → List ℕ
part_values ks secret random s j = values (at ks s - 1) secret (part_of (length secret) ks random s) j

-- exactly as many words as all the deals take, each of 0 to 32748
pub record RandomAll (w : ℕ) (ks random : List ℕ) : Type 0 where
  pub count : length random ≡ w * coefficients ks
  pub below : Below random

-- of each deal s any piece but m s: the pair is a deal and one of its pieces
pub record OtherAll (ks : List ℕ) (m : ℕ → ℕ) (x : ℕ × ℕ) : Type 0 where
  pub from : 1 ≤ x.0
  pub to : x.0 ≤ length ks
  pub piece : Other (at ks x.0) (m x.0) x.1

-- all the randomness of the secret ds in pairs with all that of the secret ds', of as many words, so that each of these pieces has the same
-- values from both
abbrev pub PairedAll : List ℕ → (ℕ → ℕ) → List ℕ → List ℕ → Type 0
PairedAll ks m ds ds' =
    Hidden (RandomAll (length ds) ks) (RandomAll (length ds') ks) (λ r x. part_values ks ds r x.0 x.1) (λ r x. part_values ks ds' r x.0 x.1)
    (OtherAll ks m)
