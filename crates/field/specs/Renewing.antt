-- A deal and a deal of as many zeros, added (SCOPE 3): the randomness of the two, and what is seen of them by one who lacks a piece of the deal and
-- another who lacks a piece of the sum. Assumes nothing.
use Rattle.std.specs.Prelude.{◌⊎◌, List, ℕ, ◌-◌, length, replicate}
use Rattle.std.proofs.Common.{inl, inr}
use Rattle.field.specs.Hiding.{Hidden}
use Rattle.field.specs.Pieces.{values, Random, Other}
use Rattle.field.specs.Added.{added}

-- as many zeros as ds has words
abbrev pub zeros_for : List ℕ → List ℕ
zeros_for ds = replicate (length ds) 0

-- randomness for the secret ds, and randomness for as many zeros
abbrev pub RandomPair : ℕ → List ℕ → List ℕ × List ℕ → Type 0
RandomPair k ds r = Random (length ds) k r.0 × Random (length (zeros_for ds)) k r.1

-- the values of a piece: of the deal of ds, or of the sum of both deals
abbrev pub either_values : ℕ → List ℕ → List ℕ × List ℕ → ℕ ⊎ ℕ → List ℕ
either_values q ds r (inl j) = values q ds r.0 j
either_values q ds r (inr j) = added (values q ds r.0 j) (values q (zeros_for ds) r.1 j)

-- which are seen: of the deal every piece but m, of the sum every piece but m'
abbrev pub OtherTwo : ℕ → ℕ → ℕ → ℕ ⊎ ℕ → Type 0
OtherTwo k m m' (inl j) = Other k m j
OtherTwo k m m' (inr j) = Other k m' j

-- all the pairs of randomness of the secret ds in pairs with all those of ds', so that each of these pieces has the same values from both
abbrev pub PairedTwo : ℕ → ℕ → ℕ → List ℕ → List ℕ → Type 0
PairedTwo k m m' ds ds' = Hidden (RandomPair k ds) (RandomPair k ds') (either_values (k - 1) ds) (either_values (k - 1) ds') (OtherTwo k m m')
