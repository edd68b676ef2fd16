-- What the lines of the programs are made of (SCOPE 7): words, and numbers in decimal with one space before each; the lines of a secret and of a
-- refusal.
-- Assumes nothing.
use Rattle.std.specs.Prelude.{List, [], ◌∷◌, ◌++◌, ℕ, zero, suc}
use Rattle.print.specs.Decimal.{decimal}

-- a number in decimal, one space in front of it
unfoldable pub spaced : ℕ → List ℕ
spaced n = 32 ∷ decimal n

-- numbers in decimal, one space in front of each
unfoldable pub spaced_all : List ℕ → List ℕ
spaced_all [] = []
spaced_all (n ∷ ns) = spaced n ++ spaced_all ns

-- what ends every line (SCOPE 7)
abbrev pub feed : List ℕ
feed = 10 ∷ []

-- a word, a number, and how the line goes on
unfoldable pub label : List ℕ → ℕ → List ℕ → List ℕ
label word n more = word ++ spaced n ++ more

-- a line of two words, each with its number
unfoldable pub pair_line : List ℕ → ℕ → List ℕ → ℕ → List ℕ
pair_line word n more m = label word n more ++ spaced m ++ feed

-- the lines of the numbers 1 to n, in this order
unfoldable pub rising : (ℕ → List ℕ) → ℕ → List ℕ
rising line zero = []
rising line (suc n) = rising line n ++ line (suc n)

-- `refused`
abbrev pub refused_word : List ℕ
refused_word = 114 ∷ 101 ∷ 102 ∷ 117 ∷ 115 ∷ 101 ∷ 100 ∷ []

-- `secret`
abbrev pub secret_word : List ℕ
secret_word = 115 ∷ 101 ∷ 99 ∷ 114 ∷ 101 ∷ 116 ∷ []

-- a refusal with its number, a and b, as `refused 20 2 3`
unfoldable pub refused_line : ℕ → ℕ → ℕ → List ℕ
refused_line number a b = refused_word ++ spaced number ++ spaced a ++ spaced b ++ feed

-- `secret`, and the words of the secret
unfoldable pub secret_line : List ℕ → List ℕ
secret_line words = secret_word ++ spaced_all words ++ feed
