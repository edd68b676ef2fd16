-- The table of rows: the walk over the groups that fills it, and what its marks say.
-- Assumes nothing.
use mathlib.Core.Path.{◌≡◌, refl, sym, ap, ◌∙◌}
use mathlib.Core.Bool.{Bool, true, false}
use mathlib.Core.List.{List, [], ◌∷◌, ◌++◌, map, append_assoc, map-append}
use Prim.Native.Nat.{ℕ, zero, suc, ◌+◌, ◌-◌, ◌≤◌, ◌<◌, zero-le}
use native.Mathlib.Nat.{not-suc-le-zero, le_of_suc-le-suc}
use native.Mathlib.Omega.{arith}
use lib.ListN.{length, get_or, get_or-append, set, replicate, length-append, length-map}
use lib.Seq.{set_at}
use Rattle.lists.specs.Places.{those}
use Rattle.lists.proofs.ThoseLaws.{those_miss, those_hit, count_miss, count_hit, those_more}
use Rattle.planning.specs.Sets.{member, marks}
use Rattle.planning.specs.Groups.{rows_of, marked}

-- ---- only empty rows
pub empty_rows : replicate 70 (replicate 8 false) ≡ rows_of []
unfolding rows_of marks member
empty_rows = refl

-- ---- one row more
rows_more : (l : List ℕ) (k g : ℕ) → k ≡ length l → k < 70 → set (rows_of l) k (marks g) ≡ rows_of (l ++ g ∷ [])
unfolding rows_of
rows_more l k g e p =
    let left : 70 - length l ≡ suc (70 - (length l + 1)) = omega arith in
    let less : length (l ++ g ∷ []) ≡ length l + 1 = length-append l (g ∷ []) in
    rw (left, less, map-append)
    (set_at (map marks l) (marks 0) _ (marks g) k (length-map l marks ∙ sym e) ∙ sym (append_assoc (map marks l) (marks g ∷ []) _))

zero_plus : (g : ℕ) → 0 + g ≡ g
zero_plus g = omega arith

-- ---- filling the table: the groups below g with the test have their rows, and k counts them
pub record Filling (test : ℕ → Bool) (g k : ℕ) (rows : List (List Bool)) : Type 0 where
  pub count : k ≡ length (those test 0 g)
  pub table : rows ≡ rows_of (those test 0 g)

pub filling_start : {test : ℕ → Bool} {rows : List (List Bool)} → rows ≡ rows_of [] → Filling test 0 0 rows
unfolding those
filling_start e = record { count = refl; table = e }

module _ {test : ℕ → Bool} {g k : ℕ} {rows : List (List Bool)} (h : Filling test g k rows) where
  pub filling_as : {k' : ℕ} {rows' : List (List Bool)} → k' ≡ k → rows' ≡ rows → Filling test g k' rows'
  filling_as e f = record { count = e ∙ h.count; table = f ∙ h.table }

  pub filling_end : (size : ℕ) → g ≡ size → (length (those test 0 size) ≡ k) × (rows ≡ rows_of (those test 0 size))
  filling_end size e = rw (← e) (sym h.count, h.table)

  here : {b : Bool} → test g ≡ b → test (0 + g) ≡ b
  here e = ap test (zero_plus g) ∙ e

  pub filling_miss : test g ≡ false → Filling test (g + 1) k rows
  filling_miss e = record { count = count_miss test 0 g k h.count (here e); table = h.table ∙ ap rows_of (sym (those_miss test 0 g (here e))) }

  -- a group is still to come: the table has room for it
  pub filling_room : (size : ℕ) → g < size → test g ≡ true → length (those test 0 size) ≤ 70 → k < 70
  filling_room size p e few = omega (arith, count_hit test 0 g k h.count (here e), those_more test 0 (g + 1) size (omega arith))

  pub filling_hit : test g ≡ true → k < 70 → Filling test (g + 1) (k + 1) (set rows k (marks g))
  filling_hit e n = record {
    count = count_hit test 0 g k h.count (here e);
    table = rw (h.table, those_hit test 0 g (here e), zero_plus g) (rows_more (those test 0 g) k g h.count n);
  }

-- ---- what the rows say
row_at : (l : List ℕ) (j : ℕ) → j < length l → get_or (rows_of l) j [] ≡ marks (get_or l j 0)
unfolding rows_of
row_at l j h =
    get_or-append (map marks l) (replicate (70 - length l) (marks 0)) [] j (rw (length-map l marks) h) ∙ at l j h
  where
    at : (l : List ℕ) (j : ℕ) → j < length l → get_or (map marks l) j [] ≡ marks (get_or l j 0)
    at [] j h = absurd (not-suc-le-zero h)
    at (a ∷ l) zero h = refl
    at (a ∷ l) (suc j) h = at l j (le_of_suc-le-suc h)

mark-at : (g i : ℕ) → i < 8 → get_or (marks g) i false ≡ member (suc i) g
unfolding marks
mark-at g zero h = refl
mark-at g (suc zero) h = refl
mark-at g (suc (suc zero)) h = refl
mark-at g (suc (suc (suc zero))) h = refl
mark-at g (suc (suc (suc (suc zero)))) h = refl
mark-at g (suc (suc (suc (suc (suc zero))))) h = refl
mark-at g (suc (suc (suc (suc (suc (suc zero)))))) h = refl
mark-at g (suc (suc (suc (suc (suc (suc (suc zero))))))) h = refl
mark-at g (suc (suc (suc (suc (suc (suc (suc (suc i)))))))) h = absurd (omega arith)

-- row j marks person i exactly when i is in the j-th group
pub row-marks : (l : List ℕ) (i j : ℕ) → 1 ≤ i → i ≤ 8 → 1 ≤ j → j ≤ length l → marked (rows_of l) j i ≡ member i (get_or l (j - 1) 0)
row-marks l i j a b c d =
    let e : suc (i - 1) ≡ i = omega arith in
    ap (λ (row : List Bool). get_or row (i - 1) false) (row_at l (j - 1) (omega arith)) ∙ mark-at (get_or l (j - 1) 0) (i - 1) (omega arith)
    ∙ ap (λ (x : ℕ). member x (get_or l (j - 1) 0)) e

-- an empty row marks nobody
nobody-marked : (i : ℕ) → get_or (marks 0) i false ≡ false
unfolding marks member
nobody-marked zero = refl
nobody-marked (suc zero) = refl
nobody-marked (suc (suc zero)) = refl
nobody-marked (suc (suc (suc zero))) = refl
nobody-marked (suc (suc (suc (suc zero)))) = refl
nobody-marked (suc (suc (suc (suc (suc zero))))) = refl
nobody-marked (suc (suc (suc (suc (suc (suc zero)))))) = refl
nobody-marked (suc (suc (suc (suc (suc (suc (suc zero))))))) = refl
nobody-marked (suc (suc (suc (suc (suc (suc (suc (suc i)))))))) = refl

-- rows past the last group mark nobody
past : (l : List ℕ) (m j i : ℕ) → length l ≤ j → get_or (get_or (map marks l ++ replicate m (marks 0)) j []) i false ≡ false
past [] zero j i h = refl
past [] (suc m) zero i h = nobody-marked i
past [] (suc m) (suc j) i h = past [] m j i zero-le
past (a ∷ l) m zero i h = absurd (not-suc-le-zero h)
past (a ∷ l) m (suc j) i h = past l m j i (le_of_suc-le-suc h)

pub row_past : (l : List ℕ) (i j : ℕ) → length l < j → marked (rows_of l) j i ≡ false
unfolding rows_of
row_past l i j h = past l (70 - length l) (j - 1) (i - 1) (omega arith)

-- no groups: no marks
pub no_marks : (i j : ℕ) → marked (rows_of []) j i ≡ false
unfolding rows_of
no_marks i j = past [] 70 (j - 1) (i - 1) zero-le
