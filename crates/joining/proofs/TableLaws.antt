-- A table of first blocks, filled block by block: what one block more changes, and what the whole tables of pieces and of sets say.
-- Assumes nothing.
use mathlib.Core.Path.{◌≡◌, refl, sym, ap, ap₂, ◌∙◌}
use mathlib.Core.Bool.{Bool, true, false, cond}
use mathlib.Core.Logic.{◌≢◌}
use mathlib.Core.List.{List, [], ◌∷◌, map}
use Prim.Native.Nat.{ℕ, zero, suc, ◌+◌, ◌-◌, ◌≤◌, ◌<◌}
use native.Mathlib.Omega.{arith}
use native.Mathlib.Decide.{ℕ_discrete}
use lib.Dec.{eqb}
use lib.ListN.{length, get_or, set, length-set, replicate, length-replicate, get_or-replicate, get_or-map}
use lib.Seq.{get_or-set_same, get_or-set_other, ext_get_or}
use borrow.Author.Tests.{eq-eqb, ne_eqb}
use Rattle.lists.specs.Run.{run}
use Rattle.lists.specs.Places.{first_from, first_in}
use Rattle.lists.proofs.RunLaws.{run_length, run_at}
use Rattle.lists.proofs.FirstLaws.{miss_end, kept_end, hit_end, below_end}
use Rattle.pile.specs.Blocks.{blocks}
use Rattle.joining.specs.Pile.{set_at, pieces_at, piece_at, has_piece, place_of, set_place}
use Rattle.joining.specs.Inner.{said}

-- what a run from 1 has at an index
pub run-next : (f : ℕ → ℕ) (n i : ℕ) → i < n → get_or (run f 1 n) i 0 ≡ f (i + 1)
run-next f n i h =
    let s : i + 1 - 1 ≡ i = omega arith in
    ap (λ (x : ℕ). get_or (run f 1 n) x 0) (sym s) ∙ run_at f n (i + 1) (omega arith) (omega arith)

-- a list that a function was mapped over, read and written
read_map : (f : ℕ → ℕ) → f 0 ≡ 0 → (l : List ℕ) (i : ℕ) → get_or (map f l) i 0 ≡ f (get_or l i 0)
read_map f e l i = ap (get_or (map f l) i) (sym e) ∙ get_or-map f l i 0

write_map : (f : ℕ → ℕ) (l : List ℕ) (i v : ℕ) → set (map f l) i (f v) ≡ map f (set l i v)
write_map f [] i v = refl
write_map f (x ∷ l) zero v = refl
write_map f (x ∷ l) (suc i) v = ap (λ (t : List ℕ). f x ∷ t) (write_map f l i v)

-- ---- a table of n places: the first block that belongs at each
module _ (belongs : ℕ → ℕ → Bool) (n : ℕ) where
  -- with the blocks before block a looked at
  unfoldable pub table_to : ℕ → List ℕ
  table_to a = run (λ j. first_in (belongs j) 1 a) 1 n

  table-length : (a : ℕ) → length (table_to a) ≡ n
  unfolding table_to
  table-length a = run_length (λ j. first_in (belongs j) 1 a) 1 n

  table_at : (a i : ℕ) → i < n → get_or (table_to a) i 0 ≡ first_in (belongs (i + 1)) 1 a
  unfolding table_to
  table_at a i h = run-next (λ j. first_in (belongs j) 1 a) n i h

  is-table : (table : List ℕ) (a : ℕ) → length table ≡ n → ((i : ℕ) → i < n → get_or table i 0 ≡ first_in (belongs (i + 1)) 1 a) → table ≡ table_to a
  is-table table a e h = ext_get_or 0 table (table_to a) (e ∙ sym (table-length a)) (λ i m. h i (omega arith) ∙ sym (table_at a i (omega arith)))

  -- no block looked at
  pub table-start : replicate n 0 ≡ table_to 1
  unfolding first_from
  table-start = is-table (replicate n 0) 1 (length-replicate {A = ℕ} n 0) (λ i h. get_or-replicate {A = ℕ} n i 0 0 h)

  -- one block more, which belongs at place i + 1 and nowhere else
  module _ (table : List ℕ) (a i : ℕ) (from : 1 ≤ a) (few : i < n) (here : belongs (i + 1) a ≡ true)
      (else : (j : ℕ) → j ≢ i → belongs (j + 1) a ≡ false) (is : table ≡ table_to a) where
    at : (j : ℕ) → j < n → get_or table j 0 ≡ first_in (belongs (j + 1)) 1 a
    at j h = ap (λ (t : List ℕ). get_or t j 0) is ∙ table_at a j h

    long : length table ≡ n
    long = ap length is ∙ table-length a

    -- it is the first there
    pub turn_new : get_or table i 0 ≡ 0 → set table i a ≡ table_to (a + 1)
    turn_new z = is-table (set table i a) (a + 1) (length-set table i a ∙ long) (λ j h. go j h (ℕ_discrete j i))
      where
        go : (j : ℕ) → j < n → Dec (j ≡ i) → get_or (set table i a) j 0 ≡ first_in (belongs (j + 1)) 1 (a + 1)
        go j h (yes e) =
            rw e (get_or-set_same table i a 0 (omega (arith, long))
            ∙ sym (hit_end (belongs (i + 1)) a from (sym (at i few) ∙ z) here))
        go j h (no f) =
            get_or-set_other table i j a 0 f
            ∙ at j h ∙ sym (miss_end (belongs (j + 1)) a from (else j f))

    -- an earlier one is
    pub turn_kept : get_or table i 0 ≢ 0 → table ≡ table_to (a + 1)
    turn_kept z = is-table table (a + 1) long (λ j h. at j h ∙ go j h (ℕ_discrete j i))
      where
        go : (j : ℕ) → j < n → Dec (j ≡ i) → first_in (belongs (j + 1)) 1 a ≡ first_in (belongs (j + 1)) 1 (a + 1)
        go j h (yes e) = rw e (sym (kept_end (belongs (i + 1)) a from (λ q. z (at i few ∙ q))))
        go j h (no f) = sym (miss_end (belongs (j + 1)) a from (else j f))

  -- ---- what a function says of each of its blocks, where it says 0 of no block and of no other
  module _ (f : ℕ → ℕ) (none : f 0 ≡ 0) (table : List ℕ) (a i : ℕ) (from : 1 ≤ a) (few : i < n) (here : belongs (i + 1) a ≡ true)
      (else : (j : ℕ) → j ≢ i → belongs (j + 1) a ≡ false) (is : table ≡ map f (table_to a)) where
    said_at : get_or table i 0 ≡ f (get_or (table_to a) i 0)
    said_at = ap (λ (t : List ℕ). get_or t i 0) is ∙ read_map f none (table_to a) i

    earlier : get_or (table_to a) i 0 < a
    earlier =
        let e : a - 1 + 1 ≡ a = omega arith in
        let b : first_in (belongs (i + 1)) 1 (a - 1 + 1) ≤ a - 1 = below_end (belongs (i + 1)) (a - 1) in
        omega (arith, b, table_at a i few, ap (first_in (belongs (i + 1)) 1) e)

    pub said_new : ((b : ℕ) → 1 ≤ b → b < a → f b ≢ 0) → get_or table i 0 ≡ 0 → set table i (f a) ≡ map f (table_to (a + 1))
    said_new some z =
        ap (λ (t : List ℕ). set t i (f a)) is ∙ write_map f (table_to a) i a
        ∙ ap (map f) (turn_new (table_to a) a i from few here else refl (go (ℕ_discrete (get_or (table_to a) i 0) 0)))
      where
        go : Dec (get_or (table_to a) i 0 ≡ 0) → get_or (table_to a) i 0 ≡ 0
        go (yes e) = e
        go (no e) = absurd (some (get_or (table_to a) i 0) (omega (arith, e)) earlier (sym said_at ∙ z))

    pub said-kept : get_or table i 0 ≢ 0 → table ≡ map f (table_to (a + 1))
    said-kept z = is ∙ ap (map f) (turn_kept (table_to a) a i from few here else refl (λ e. z (said_at ∙ ap f e ∙ none)))

-- ---- the pieces: piece j at place j
pub piece_end : (pile : List ℕ) → table_to (has_piece pile) 560 (blocks pile + 1) ≡ run (place_of pile) 1 560
unfolding table_to place_of
piece_end pile = refl

module _ (pile : List ℕ) (a i : ℕ) (e : piece_at pile a ≡ i + 1) where
  pub piece_here : has_piece pile (i + 1) a ≡ true
  piece_here = eq-eqb (piece_at pile a) (i + 1) e

  pub piece_else : (j : ℕ) → j ≢ i → has_piece pile (j + 1) a ≡ false
  piece_else j f = ne_eqb (piece_at pile a) (j + 1) (λ q. f (omega arith))

-- ---- the sets: set s at place s + 1
abbrev pub in_set : List ℕ → ℕ → ℕ → Bool
in_set pile j a = eqb (set_at pile a) (j - 1)

shifted : (f : ℕ → ℕ) (x n : ℕ) → run (λ j. f (j - 1)) (suc x) n ≡ run f x n
unfolding run
shifted f x zero = refl
shifted f x (suc n) =
    let e : suc x - 1 ≡ x = omega arith in
    ap₂ (λ (v : ℕ) (l : List ℕ). v ∷ l) (ap f e) (shifted f (suc x) n)

pub set_end : (pile : List ℕ) → table_to (in_set pile) 71 (blocks pile + 1) ≡ run (set_place pile) 0 71
unfolding table_to set_place
set_end pile = shifted (set_place pile) 0 71

module _ (pile : List ℕ) (a i : ℕ) (e : set_at pile a ≡ i) where
  pub set_here : in_set pile (i + 1) a ≡ true
  set_here = eq-eqb (set_at pile a) (i + 1 - 1) (omega arith)

  pub set_else : (j : ℕ) → j ≢ i → in_set pile (j + 1) a ≡ false
  set_else j f = ne_eqb (set_at pile a) (j + 1 - 1) (λ q. f (omega arith))

-- how many pieces a block says, and no block
pub none_said : (pile : List ℕ) → said pile 0 ≡ 0
unfolding said
none_said pile = refl

pub some-said : (pile : List ℕ) (a : ℕ) → 1 ≤ a → said pile a ≡ pieces_at pile a
unfolding said
some-said pile a l = ap (λ b. cond b 0 (pieces_at pile a)) (ne_eqb a 0 (λ e. omega (arith, e)))

-- ---- what the tables say
pub place_at : (pile table : List ℕ) (i j : ℕ) → i < 560 → j ≡ i + 1 → table ≡ run (place_of pile) 1 560 → get_or table i 0 ≡ place_of pile j
place_at pile table i j h e t = ap (λ (u : List ℕ). get_or u i 0) t ∙ run-next (place_of pile) 560 i h ∙ ap (place_of pile) (sym e)

set-at : (pile : List ℕ) (i : ℕ) → i < 71 → get_or (run (set_place pile) 0 71) i 0 ≡ set_place pile i
set-at pile i h =
    let s : i + 1 - 1 ≡ i = omega arith in
    ap (λ (u : List ℕ). get_or u i 0) (sym (shifted (set_place pile) 0 71)) ∙ run-next (λ j. set_place pile (j - 1)) 71 i h ∙ ap (set_place pile) s

-- at a set that has a block, what the first one says
pub count_at : (pile table : List ℕ) (i : ℕ) → i < 71 → 1 ≤ set_place pile i → table ≡ map (said pile) (run (set_place pile) 0 71)
    → get_or table i 0 ≡ pieces_at pile (set_place pile i)
count_at pile table i h l t =
    ap (λ (u : List ℕ). get_or u i 0) t ∙ read_map (said pile) (none_said pile) (run (set_place pile) 0 71) i
    ∙ ap (said pile) (set-at pile i h) ∙ some-said pile (set_place pile i) l

-- a place of the table is a block of the pile
pub place-most : (pile : List ℕ) (j : ℕ) → place_of pile j ≤ blocks pile
unfolding place_of
place-most pile j = below_end (has_piece pile j) (blocks pile)
