-- A pile of card blocks: how many it has, the rest of it from each block on, their words and deals. Blocks and words are counted from 1.
-- Assumes nothing.
use Rattle.std.specs.Prelude.{ℕ, ◌+◌, ◌-◌, ◌*◌, ◌/◌, ◌≤◌, Bool, List, length, drop}
use Rattle.lists.specs.Places.{first_in}
use Rattle.block.specs.declared.deal.DealWords.{DealWords}
use Rattle.block.specs.Words.{word_at}
use Rattle.block.specs.Deals.{deal_words}
use Rattle.block.specs.Open.{TrueBlock}

-- how many whole blocks a pile has
unfoldable pub blocks : List ℕ → ℕ
blocks pile = length pile / 512

-- a is a block of the pile
abbrev pub In : List ℕ → ℕ → Type 0
In pile a = (1 ≤ a) × (a ≤ blocks pile)

-- what is left of a pile where block a begins: its first 512 bytes are block a
unfoldable pub rest_from : List ℕ → ℕ → List ℕ
rest_from pile a = drop (512 * (a - 1)) pile

-- word i of block a
abbrev pub word : List ℕ → ℕ → ℕ → ℕ
word pile a i = word_at (rest_from pile a) i

-- which deal block a is of
abbrev pub deal_at : List ℕ → ℕ → DealWords
deal_at pile a = deal_words (rest_from pile a)

-- the first block with the test, or 0 where no block has it
abbrev pub first_block : List ℕ → (ℕ → Bool) → ℕ
first_block pile test = first_in test 1 (blocks pile + 1)

-- every block is a true block: none of UNREAD, CHECK and HEADER is given for it
pub record TrueBlocks (pile : List ℕ) : Type 0 where
  pub block : (a : ℕ) → 1 ≤ a → a ≤ blocks pile → TrueBlock (rest_from pile a)
