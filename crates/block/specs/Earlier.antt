-- The layout before there were deals by sets: words 1 to 7, then the values, word 24 the year, and 0 in every other word past the values; and, still
-- earlier, before there was a year, 0 in word 24 too. `dated` says whether there was one. Nothing is written or read by it any more; it stands here
-- to be compared with. Assumes nothing.
use Rattle.std.specs.Prelude.{ℕ, ◌-◌, Bool, true, cond, not, ◌&&◌, ◌||◌, List, [], ◌∷◌, ◌++◌, eqb, leb, get_or}
use Rattle.lists.specs.Run.{run}
use Rattle.lists.specs.Places.{first_in}
use Rattle.block.specs.declared.deal.DealWords.{DealWords}
use Rattle.block.specs.declared.Label.{Label}
use Rattle.block.specs.Words.{word_at, bytes_of, check_of}
use Rattle.block.specs.Layout.{within, label_of, values_of}

-- what word i held
unfoldable pub former_held : Bool → Label → List ℕ → ℕ → ℕ
former_held dated l vs i =
    cond (eqb i 1) 1987
    (cond (eqb i 2) l.number
    (cond (eqb i 3) l.holder
    (cond (eqb i 4) l.people
    (cond (eqb i 5) l.pieces
    (cond (eqb i 6) l.width
    (cond (eqb i 7) l.piece
    (cond (dated && eqb i 24) l.year
    (get_or vs (i - 8) 0))))))))

-- and its range
unfoldable pub former_range : Label → ℕ → Bool
former_range l i =
    cond (eqb i 2) (not (eqb l.number 0))
    (cond (eqb i 3) (within 1 l.holder 8)
    (cond (eqb i 4) (within 1 l.people 8 && leb l.holder l.people)
    (cond (eqb i 5) (within 1 l.pieces 70)
    (cond (eqb i 6) (within 1 l.width 16)
    (cond (eqb i 7) (within 1 l.piece l.pieces)
    true)))))

-- the first of words 1 to 255 that broke the layout, or 0
unfoldable pub former_wrong : Bool → List ℕ → ℕ
former_wrong dated b = first_in (λ i. not (eqb (word_at b i) (former_held dated (label_of b) (values_of b) i) && former_range (label_of b) i)) 1 256

-- a block's 512 bytes
unfoldable pub former_bytes : Bool → Label → List ℕ → List ℕ
former_bytes dated l vs =
    let words = run (former_held dated l vs) 1 255 in
    bytes_of words ++ bytes_of (check_of (bytes_of words) ∷ [])

-- one deal: the words that told deals apart agree
unfoldable pub former_same : Bool → DealWords → DealWords → Bool
former_same dated x y =
    eqb x.number y.number
    && eqb x.people y.people
    && eqb x.pieces y.pieces
    && eqb x.width y.width
    && (not dated || eqb x.year y.year)
