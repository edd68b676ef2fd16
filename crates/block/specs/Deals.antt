-- A deal's number and year, and which deal a block is of: the words that all blocks of one deal share. Nothing else tells one deal from another.
-- Assumes nothing.
use Rattle.std.specs.Prelude.{Bool, cond, ◌&&◌, List, ℕ, eqb}
use Rattle.lists.specs.Places.{outside}
use Rattle.prime.specs.Prime.{too_large}
use Rattle.answer.specs.declared.Kind.TheVariants.{Deal as DealKind, Year}
use Rattle.answer.specs.Checks.{Line, line}
use Rattle.block.specs.declared.deal.DealWords.{DealWords}
use Rattle.block.specs.Words.{word_at}

-- 8 DEAL: the deal number is 0 or exceeds 32748
unfoldable pub bad_number : ℕ → Line
bad_number number = line DealKind (outside 32748 number) 0 0

-- 25 YEAR: the year exceeds 32748; 0 is a year
unfoldable pub bad_year : ℕ → Line
bad_year year = line Year (too_large year) 0 0

-- 1987 marks a block of the first scheme, 1988 a block of a deal by sets
abbrev pub marks_sets : ℕ → Bool
marks_sets mark = eqb mark 1988

-- the mark, deal number, n, k, w and the year, as the block b has them; by sets, k is the set's and not the deal's, and 0 stands in its place
abbrev pub deal_words : List ℕ → DealWords
deal_words b =
    record {
      mark = word_at b 1;
      number = word_at b 2;
      people = word_at b 4;
      pieces = cond (marks_sets (word_at b 1)) 0 (word_at b 5);
      width = word_at b 6;
      year = word_at b 24;
    }

-- they agree in every one of them
unfoldable pub same_deal : DealWords → DealWords → Bool
same_deal x y =
    eqb x.mark y.mark
    && eqb x.number y.number
    && eqb x.people y.people
    && eqb x.pieces y.pieces
    && eqb x.width y.width
    && eqb x.year y.year
