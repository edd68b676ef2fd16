-- What the salvaging program writes (SCOPE 7.4): the salvaged pile to standard output, and its report to standard error. Too many bytes are
-- LONG, whatever else is wrong. Assumes nothing.
use Rattle.std.specs.Prelude.{List, [], ◌∷◌, ◌++◌, ℕ}
use Rattle.answer.specs.Outcome.{Outcome, done, refused}
use Rattle.answer.specs.Checks.{first_fail}
use Rattle.block.specs.Open.{by_outcome}
use Rattle.pile.specs.Lines.{too_long}
use Rattle.salvage.specs.Pile.{mended_pile, rebuilt_words, places, block_of, word_of, salvaging}
use Rattle.print.specs.Lines.{feed, label, pair_line, rising, refused_line}

-- what the program answers: with a list of 256 numbers, two for each of the 128 blocks that 65,536 bytes are
unfoldable pub program_salvages : List ℕ → Outcome ℕ
program_salvages pile = first_fail (too_long pile ∷ []) (salvaging pile 256)

-- `rebuilt`
abbrev pub rebuilt_label : List ℕ
rebuilt_label = 114 ∷ 101 ∷ 98 ∷ 117 ∷ 105 ∷ 108 ∷ 116 ∷ []

-- `block`
abbrev pub block_label : List ℕ
block_label = 98 ∷ 108 ∷ 111 ∷ 99 ∷ 107 ∷ []

-- ` word`
abbrev pub word_label : List ℕ
word_label = 32 ∷ 119 ∷ 111 ∷ 114 ∷ 100 ∷ []

-- the line of place n of a list, as `block 5 word 9`
unfoldable pub place_line : List ℕ → ℕ → List ℕ
place_line list n = pair_line block_label (block_of list n) word_label (word_of list n)

-- how many words were rebuilt, as `rebuilt 2`, then the line of each place
unfoldable pub report : ℕ → List ℕ → List ℕ
report n list = label rebuilt_label n feed ++ rising (place_line list) n

-- that, or the line of the refusal
abbrev pub reported : Outcome ℕ → List ℕ → List ℕ
reported (done n) list = report n list
reported (refused m a b) list = refused_line m a b

-- what goes to standard error
unfoldable pub salvaged_text : List ℕ → List ℕ
salvaged_text pile = reported (program_salvages pile) (places (rebuilt_words pile))

-- what goes to standard output: the pile after salvage, and, where it is refused, no byte
unfoldable pub salvaged_bytes : List ℕ → List ℕ
salvaged_bytes pile = by_outcome (program_salvages pile) (mended_pile pile) []
