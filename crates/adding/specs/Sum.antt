-- The sum of two blocks (SCOPE 4.1): in which words they must be alike, the number and year of a deal, and the block that their values add up to.
-- Assumes nothing.
use Rattle.std.specs.Prelude.{ℕ, Bool, not, List, eqb}
use Rattle.lists.specs.Places.{first_in}
use Rattle.field.specs.Added.{added}
use Rattle.block.specs.declared.Label.{Label}
use Rattle.block.specs.Words.{word_at}
use Rattle.block.specs.Layout.{label_of, values_of}
use Rattle.block.specs.Written.{block_bytes}
use Rattle.adding.specs.declared.Pair.{Pair}

-- the two blocks differ in word i
abbrev pub differ : List ℕ → List ℕ → ℕ → Bool
differ one two i = not (eqb (word_at one i) (word_at two i))

-- the first of words 3 to 7 (holder, n, k, w, piece) in which they differ, or 0
unfoldable pub unlike_at : List ℕ → List ℕ → ℕ
unlike_at one two = first_in (differ one two) 3 8

-- a deal number and a year
abbrev pub pair_of : ℕ → ℕ → Pair
pair_of number year = record { number = number; year = year }

-- those of the deal that a block is of
abbrev pub pair_in : List ℕ → Pair
pair_in b = pair_of (word_at b 2) (word_at b 24)

-- a label under another number and year
abbrev pub label_under : Pair → Label → Label
label_under new l =
    record {
      mark = l.mark;
      number = new.number;
      holder = l.holder;
      people = l.people;
      pieces = l.pieces;
      width = l.width;
      piece = l.piece;
      year = new.year;
      set = l.set;
    }

-- the sum's 512 bytes: words 3 to 7 of block one under the new number and year, and the values added one by one mod p
unfoldable pub sum_of : List ℕ → List ℕ → Pair → List ℕ
sum_of one two new = block_bytes (label_under new (label_of one)) (added (values_of one) (values_of two))
