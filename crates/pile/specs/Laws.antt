-- The laws that this room owes; their proofs are in proofs/Laws.antt.
-- Assumes nothing.
use Rattle.std.specs.Prelude.{ℕ, ◌+◌, ◌-◌, ◌*◌, ◌≤◌, ◌≡◌, List, length, get_or, drop}
use Rattle.answer.specs.Laws.{Passed}
use Rattle.pile.specs.Blocks.{In, rest_from, word, TrueBlocks}
use Rattle.pile.specs.Lines.{every_block}

-- The lines of all blocks pass exactly where every block is true.
abbrev pub EveryBlockTrue : Type 0
EveryBlockTrue = (pile : List ℕ) → (Passed (every_block pile) → TrueBlocks pile) × (TrueBlocks pile → Passed (every_block pile))

-- Block 1 begins with the pile, and each next one 512 bytes further; every block has its 512 bytes.
abbrev pub RestSteps : Type 0
RestSteps = (pile : List ℕ)
    → (rest_from pile 1 ≡ pile)
    × ((a : ℕ) → 1 ≤ a → rest_from pile (a + 1) ≡ drop 512 (rest_from pile a))
    × ((a : ℕ) → In pile a → 512 ≤ length (rest_from pile a))

-- Word i of block a is two bytes of the pile, the high one first, after the 512 bytes of each block before it.
abbrev pub WordBytes : Type 0
WordBytes = (pile : List ℕ) (a i : ℕ)
    → word pile a i ≡ get_or pile (512 * (a - 1) + 2 * (i - 1)) 0 * 256 + get_or pile (512 * (a - 1) + (2 * (i - 1) + 1)) 0
