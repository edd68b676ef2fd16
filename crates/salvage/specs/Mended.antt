-- One block that may have lost a word: its dirty words, the value that the check asks for, and the block as salvage leaves it (SCOPE 5.1).
-- Assumes nothing.
use Rattle.std.specs.Prelude.{ℕ, ◌*◌, ◌%◌, ◌≤◌, cond, ◌≢◌, List, [], ◌∷◌, eqb}
use Rattle.lists.specs.Places.{those}
use Rattle.prime.specs.Prime.{p, minus}
use Rattle.prime.specs.Inverse.{inverse}
use Rattle.block.specs.Words.{word_at, put_at, weighted}
use Rattle.block.specs.Layout.{first_wrong}
use Rattle.block.specs.Open.{above}

-- the dirty words of the block b: those of its 256 that exceed 32748, in rising number
unfoldable pub dirty_words : List ℕ → List ℕ
dirty_words b = those (above b) 1 256

-- the one number of a list; 0 where it has none, or more
unfoldable pub sole : List ℕ → ℕ
sole [] = 0
sole (i ∷ []) = i
sole (i ∷ j ∷ l) = 0

-- word k of b, with 0 in the place of word i
unfoldable pub without : List ℕ → ℕ → ℕ → ℕ
without b i k = cond (eqb k i) 0 (word_at b k)

-- what the check sums, less what word i adds to it
unfoldable pub other_sum : List ℕ → ℕ → ℕ
other_sum b i = weighted (without b i) 255

-- the value that the check asks for at word i: what the sum lacks of word 256, divided by i; and for word 256 the check itself
unfoldable pub value_for : List ℕ → ℕ → ℕ
value_for b i = cond (eqb i 256) (other_sum b i % p) (inverse i * minus (word_at b 256) (other_sum b i) % p)

-- b, after that value was put there
abbrev pub filled_in : List ℕ → ℕ → List ℕ
filled_in b i = put_at b i (value_for b i)

-- word i, where the layout holds with its value; 0 where it breaks, and where i is no word
unfoldable pub kept : List ℕ → ℕ → ℕ
kept b i = cond (eqb i 0) 0 (cond (eqb (first_wrong (filled_in b i)) 0) i 0)

-- the word that salvage rebuilds in b: its one dirty word; 0 where nothing is rebuilt
unfoldable pub rebuilt : List ℕ → ℕ
rebuilt b = kept b (sole (dirty_words b))

-- the block afterwards
unfoldable pub mended_block : List ℕ → List ℕ
mended_block b = cond (eqb (rebuilt b) 0) b (filled_in b (rebuilt b))

-- no word of b but word i exceeds 32748
pub record CleanBut (b : List ℕ) (i : ℕ) : Type 0 where
  pub small : (k : ℕ) → 1 ≤ k → k ≤ 256 → k ≢ i → word_at b k ≤ 32748
