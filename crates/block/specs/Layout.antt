-- The layout of a block: one table of what each of words 1 to 255 holds, and the range of what it holds. What is written is this table,
-- and what is read is held against it. Assumes nothing.
use Rattle.std.specs.Prelude.{ℕ, ◌+◌, ◌-◌, ◌*◌, ◌≤◌, ◌≡◌, Bool, true, cond, not, ◌&&◌, ◌||◌, List, [], ◌∷◌, leb, eqb, get_or}
use Rattle.lists.specs.Run.{run}
use Rattle.lists.specs.Places.{first_in}
use Rattle.block.specs.declared.Label.{Label}
use Rattle.block.specs.Words.{word_at}
use Rattle.block.specs.Deals.{marks_sets}

-- words 1 to 7 of b, which opening answers
abbrev pub front_words : List ℕ → List ℕ
front_words b = word_at b 1 ∷ word_at b 2 ∷ word_at b 3 ∷ word_at b 4 ∷ word_at b 5 ∷ word_at b 6 ∷ word_at b 7 ∷ []

-- a piece is its set and its number in the set together: as one number, eight for each set before it and then its own. The first scheme has no
-- sets, word 25 is 0, and what is left is the piece's own number.
abbrev pub piece_in : ℕ → ℕ → ℕ
piece_in set j = 8 * (set - 1) + j

-- the number that the piece of the block b has in its set or, in the first scheme, in the deal
abbrev pub piece_number : List ℕ → ℕ
piece_number b = word_at b 7

-- the piece of the block b
abbrev pub piece_of : List ℕ → ℕ
piece_of b = piece_in (word_at b 25) (piece_number b)

-- w, the number of values
abbrev pub width_of : List ℕ → ℕ
width_of b = word_at b 6

-- ---- the table
-- what word i holds, 1 to 255, in the block with this label and these values: words 1 to 7, 24 and 25 are the label's, from word 8 on the
-- values, which end before word 24, and past them 0
unfoldable pub held_at : Label → List ℕ → ℕ → ℕ
held_at l vs i =
    cond (eqb i 1) l.mark
    (cond (eqb i 2) l.number
    (cond (eqb i 3) l.holder
    (cond (eqb i 4) l.people
    (cond (eqb i 5) l.pieces
    (cond (eqb i 6) l.width
    (cond (eqb i 7) l.piece
    (cond (eqb i 24) l.year
    (cond (eqb i 25) l.set
    (get_or vs (i - 8) 0)))))))))

-- v is low to high
abbrev pub within : ℕ → ℕ → ℕ → Bool
within low v high = leb low v && leb v high

-- the label is of a deal by sets
abbrev pub by_sets : Label → Bool
by_sets l = marks_sets l.mark

-- what word i holds is in its range: one of the two marks, a deal number that is not 0, a holder of 1 to 8, at most 8 people with the holder among
-- them, k of 1 to 70, or by sets of 1 to n, w of 1 to 16, a piece of 1 to k, any year, and no set, or by sets one of 1 to 70
unfoldable pub range_at : Label → ℕ → Bool
range_at l i =
    cond (eqb i 1) (eqb l.mark 1987 || by_sets l)
    (cond (eqb i 2) (not (eqb l.number 0))
    (cond (eqb i 3) (within 1 l.holder 8)
    (cond (eqb i 4) (within 1 l.people 8 && leb l.holder l.people)
    (cond (eqb i 5) (within 1 l.pieces (cond (by_sets l) l.people 70))
    (cond (eqb i 6) (within 1 l.width 16)
    (cond (eqb i 7) (within 1 l.piece l.pieces)
    (cond (eqb i 25) (cond (by_sets l) (within 1 l.set 70) (eqb l.set 0))
    true)))))))

-- every word's is
pub record Ranged (l : Label) : Type 0 where
  pub range : (i : ℕ) → range_at l i ≡ true

-- ---- a block against the table
-- the label that b has
abbrev pub label_of : List ℕ → Label
label_of b =
    record {
      mark = word_at b 1;
      number = word_at b 2;
      holder = word_at b 3;
      people = word_at b 4;
      pieces = word_at b 5;
      width = word_at b 6;
      piece = word_at b 7;
      year = word_at b 24;
      set = word_at b 25;
    }

-- the w values that b has
unfoldable pub values_of : List ℕ → List ℕ
values_of b = run (λ i. word_at b (7 + i)) 1 (width_of b)

-- word i of b is what the table has there, for the label and the values that b has, and in its range
unfoldable pub right_at : List ℕ → ℕ → Bool
right_at b i = eqb (word_at b i) (held_at (label_of b) (values_of b) i) && range_at (label_of b) i

-- the first of words 1 to 255 that breaks the layout, or 0
unfoldable pub first_wrong : List ℕ → ℕ
first_wrong b = first_in (λ i. not (right_at b i)) 1 256

-- no word breaks it
pub record Layout (b : List ℕ) : Type 0 where
  pub word : (i : ℕ) → 1 ≤ i → i ≤ 255 → word_at b i ≡ held_at (label_of b) (values_of b) i
  pub ranged : Ranged (label_of b)
