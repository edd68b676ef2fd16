-- Salvage over a pile (SCOPE 5.1): the pile afterwards, the words in which it differs from the pile before, and what the call answers.
-- Assumes nothing.
use Rattle.std.specs.Prelude.{ℕ, zero, suc, ◌+◌, ◌-◌, ◌*◌, ◌/◌, ◌%◌, not, List, [], ◌∷◌, ◌++◌, eqb, length, take, drop}
use Rattle.lists.specs.Places.{at, those}
use Rattle.answer.specs.Outcome.{Outcome, done}
use Rattle.answer.specs.Checks.{Line, first_fail}
use Rattle.answer.specs.Lent.{no_room, left}
use Rattle.block.specs.Words.{word_at}
use Rattle.block.specs.Open.{by_outcome}
use Rattle.pile.specs.Blocks.{blocks}
use Rattle.pile.specs.Lines.{torn_pile, long_pile}
use Rattle.salvage.specs.Mended.{mended_block}

-- ---- the pile afterwards
-- with its first n blocks mended, one after the other
unfoldable pub mended_first : ℕ → List ℕ → List ℕ
mended_first zero pile = pile
mended_first (suc n) pile = take (512 * n) (mended_first n pile) ++ mended_block (drop (512 * n) (mended_first n pile))

-- with all its blocks mended
unfoldable pub mended_pile : List ℕ → List ℕ
mended_pile pile = mended_first (blocks pile) pile

-- ---- before and after
-- Here the words of a pile are numbered through: word i of block a is word 256 (a − 1) + i. Of the words of the first n blocks, those that
-- are one thing before and another after.
unfoldable pub differing : List ℕ → List ℕ → ℕ → List ℕ
differing before after n = those (λ k. not (eqb (word_at before k) (word_at after k))) 1 (256 * n)

-- the words rebuilt in a pile: those in which the pile afterwards is unlike the pile before
unfoldable pub rebuilt_words : List ℕ → List ℕ
rebuilt_words pile = differing pile (mended_pile pile) (blocks pile)

-- of each its block and its number in the block, in turn
unfoldable pub places : List ℕ → List ℕ
places [] = []
places (k ∷ ks) = ((k - 1) / 256 + 1) ∷ ((k - 1) % 256 + 1) ∷ places ks

-- block and word of place n of such a list
abbrev pub block_of : List ℕ → ℕ → ℕ
block_of list n = at list (2 * n - 1)

abbrev pub word_of : List ℕ → ℕ → ℕ
word_of list n = at list (2 * n)

-- ---- the call
-- salvaging with a lent list of so many numbers, two for a place: TORN, LONG, then ROOM, which asks for a place for each block and names how
-- many blocks there are; else how many words were rebuilt
abbrev pub salvage_lines : List ℕ → ℕ → List Line
salvage_lines pile numbers = torn_pile pile ∷ long_pile pile ∷ no_room (blocks pile) (blocks pile) (numbers / 2) ∷ []

unfoldable pub salvaging : List ℕ → ℕ → Outcome ℕ
salvaging pile numbers = first_fail (salvage_lines pile numbers) (done (length (rebuilt_words pile)))

-- the lent pile after the call; refused, it is as it was
unfoldable pub salvaged_pile : List ℕ → ℕ → List ℕ
salvaged_pile pile numbers = by_outcome (salvaging pile numbers) (mended_pile pile) pile

-- the lent list after the call: the places of the rebuilt words over its front, or, refused, as it was
unfoldable pub salvaged_list : List ℕ → List ℕ → List ℕ
salvaged_list pile list = left (salvaging pile (length list)) (places (rebuilt_words pile)) list
