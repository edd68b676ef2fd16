-- Our own holdings as a holding list: all k pieces are needed, and a mark is 1 exactly where that person holds that piece.
-- Assumes nothing.
use Rattle.std.specs.Prelude.{cond, List, map, ℕ}
use Rattle.lists.specs.Run.{run}
use Rattle.lists.specs.Flat.{flat}
use Rattle.planning.specs.Groups.{piece_count, holds}
use Rattle.planning.specs.Policy.{Policy}
use Rattle.holdings.specs.Holdings.{Holdings, list_of}

-- person i's row
abbrev pub own_row : ℕ → List ℕ → ℕ → List ℕ
own_row n required i = run (λ j. cond (holds n required i j) 1 0) 1 (piece_count n required)

-- the rows of persons 1 to n, one after another
unfoldable pub own_marks : ℕ → List ℕ → List ℕ
own_marks n required = flat (map (own_row n required) (run (λ i. i) 1 n))

abbrev pub own : Policy → Holdings
own p = list_of p.people (piece_count p.people p.required) (piece_count p.people p.required) (own_marks p.people p.required)
