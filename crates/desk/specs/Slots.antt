-- The store (SCOPE 5.2): 70 slots of 17 numbers, a mark, which is 0 where no piece is kept, and 16 values. Where a client's pieces lie, which are
-- kept, and how the store is written. Numbers of the store are counted from 0, pieces and values from 1. Assumes nothing.
use Rattle.std.specs.Prelude.{ℕ, ◌+◌, ◌-◌, ◌*◌, Bool, not, ◌&&◌, List, ◌∷◌, ◌++◌, eqb, length, get_or, take, drop, replicate}
use Rattle.lists.specs.Over.{over}
use Rattle.lists.specs.Places.{first_in, found, those}
use Rattle.lists.specs.Run.{run}
use Rattle.prime.specs.Prime.{too_large}
use Rattle.field.specs.Secret.{secret_of}
use Rattle.block.specs.Words.{word_at}
use Rattle.desk.specs.declared.Opening.{Opening}
use Rattle.desk.specs.Opens.{by_client}

-- where the slot of piece j begins: client 1 has its pieces from the front of the store on, client 2 from the back
unfoldable pub start : ℕ → ℕ → ℕ
start c j = by_client c (17 * (j - 1)) (17 * (70 - j))

-- where the k slots of a client begin
unfoldable pub region_start : ℕ → ℕ → ℕ
region_start c k = by_client c 0 (17 * (70 - k))

-- `new` in `old` from number `at` on
unfoldable pub over_at : ℕ → List ℕ → List ℕ → List ℕ
over_at at new old = take at old ++ over new (drop at old)

-- value i of the slot that begins at `at`
abbrev pub in_slot : List ℕ → ℕ → ℕ → ℕ
in_slot slots at i = get_or slots (at + i) 0

-- value i of piece j of client c
abbrev pub value_in : List ℕ → ℕ → ℕ → ℕ → ℕ
value_in slots c j i = in_slot slots (start c j) i

-- the slot that begins at `at` keeps a piece of w values: it is marked, and none of the w exceeds 32748
unfoldable pub keeps_at : List ℕ → ℕ → ℕ → Bool
keeps_at slots at w = found (get_or slots at 0) && eqb (first_in (λ i. too_large (in_slot slots at i)) 1 (w + 1)) 0

-- client c keeps piece j
abbrev pub keeps : List ℕ → ℕ → ℕ → ℕ → Bool
keeps slots c w j = keeps_at slots (start c j) w

-- how many of the pieces 1 to k the client with the words o keeps
unfoldable pub distinct : List ℕ → Opening → ℕ → ℕ
distinct slots o c = length (those (keeps slots c o.width) 1 o.pieces)

-- the first of the w values in which the slot that begins at `at` and the block b differ, or 0
unfoldable pub unlike : List ℕ → ℕ → ℕ → List ℕ → ℕ
unlike slots at w b = first_in (λ i. not (eqb (in_slot slots at i) (word_at b (7 + i)))) 1 (w + 1)

-- what is kept of a block: a mark, and its w values
unfoldable pub kept : List ℕ → ℕ → List ℕ
kept b w = 1 ∷ run (λ i. word_at b (7 + i)) 1 w

-- the secret of the client's pieces
abbrev pub secret_for : List ℕ → Opening → ℕ → List ℕ
secret_for slots o c = secret_of (value_in slots c) o.pieces o.width

-- the store without what the client had: its slots are 0
unfoldable pub cleared : List ℕ → Opening → ℕ → List ℕ
cleared slots o c = over_at (region_start c o.pieces) (replicate (17 * o.pieces) 0) slots
