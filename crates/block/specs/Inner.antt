-- What block's own functions say to one another: a word that is not 0, and the check as far as it may be summed. No promise to a caller names
-- these. Assumes nothing.
use Rattle.std.specs.Prelude.{ℕ, Bool, Result, Ok, Err, cond, not, List, eqb}
use Rattle.lists.specs.Places.{found}
use Rattle.block.specs.Words.{word_at, check_of}
use Rattle.block.specs.Open.{first_above}

-- the check of a block in which no word is above 32748, or the first word that is: such a word enters no sum
unfoldable pub scanned : List ℕ → Result ℕ ℕ
scanned b = cond (found (first_above b)) (Err (first_above b)) (Ok (check_of b))

-- word i is not 0
abbrev pub filled : List ℕ → ℕ → Bool
filled b i = not (eqb (word_at b i) 0)
