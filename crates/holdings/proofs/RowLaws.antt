-- ROWS, ground by ground: where none holds, the list is in order, and back.
-- Assumes nothing.
use mathlib.Core.Path.{◌≡◌, ◌∙◌}
use mathlib.Core.Bool.{Bool, true, false, not, ◌||◌}
use mathlib.Core.Logic.{◌≢◌}
use Prim.Native.Nat.{ℕ, ◌*◌, ◌-◌, ◌≤◌}
use native.Mathlib.Omega.{arith}
use lib.Dec.{eqb, ltb}
use lib.ListN.{length}
use borrow.Author.Tests.{eq-eqb, ne_eqb, eqb-true, le-ltb, ltb-false, not-false}
use Rattle.lists.specs.Places.{first_place, found, at, outside}
use Rattle.lists.proofs.Truth.{surely, neither}
use Rattle.lists.proofs.FirstLaws.{found_none, none_found, first-all, place_lacks}
use Rattle.lists.proofs.RangeLaws.{in_range}
use Rattle.holdings.specs.Holdings.{Holdings}
use Rattle.holdings.specs.Judged.{wrong_rows}
use Rattle.holdings.specs.Laws.{InOrder, RowsExactly}

-- the grounds from the second, the third .. on
abbrev from5 : Holdings → Bool
from5 l = found (first_place (ltb 1) l.marks)

abbrev from4 : ℕ → Holdings → Bool
from4 n l = not (eqb (length l.marks) (n * l.pieces)) || from5 l

abbrev from3 : ℕ → Holdings → Bool
from3 n l = outside l.pieces l.needed || from4 n l

abbrev from2 : ℕ → Holdings → Bool
from2 n l = outside 70 l.pieces || from3 n l

-- all but the last are passed
pub only-marks : (n : ℕ) (l : Holdings) → l.people ≡ n → l.pieces ≢ 0 → l.pieces ≤ 70 → l.needed ≢ 0 → l.needed ≤ l.pieces
    → length l.marks ≡ n * l.pieces → wrong_rows n l ≡ found (first_place (ltb 1) l.marks)
unfolding wrong_rows
only-marks n l a b c d e f = rw (eq-eqb _ _ a, ne_eqb _ _ b, le-ltb _ _ c, ne_eqb _ _ d, le-ltb _ _ e, eq-eqb _ _ f)

-- ---- what it means
to_order : (n : ℕ) (l : Holdings) → wrong_rows n l ≡ false → InOrder n l
unfolding wrong_rows
to_order n l e =
    let a = neither (not (eqb l.people n)) (from2 n l) e in
    let b = neither (outside 70 l.pieces) (from3 n l) a.1 in
    let c = neither (outside l.pieces l.needed) (from4 n l) b.1 in
    let d = neither (not (eqb (length l.marks) (n * l.pieces))) (from5 l) c.1 in
    let p = in_range 70 l.pieces b.0 in
    let q = in_range l.pieces l.needed c.0 in
    record {
      same-people = eqb-true _ _ (not-false _ a.0);
      some-piece = p.0;
      few-pieces = p.1;
      some-needed = q.0;
      few-needed = q.1;
      full = eqb-true _ _ (not-false _ d.0);
      marked = λ i h. ltb-false _ _ (place_lacks (ltb 1) l.marks (none_found _ d.1) i h);
    }

from_order : (n : ℕ) (l : Holdings) → InOrder n l → wrong_rows n l ≡ false
unfolding first_place
from_order n l h =
    only-marks n l h.same-people (λ z. omega (arith, h.some-piece)) h.few-pieces (λ z. omega (arith, h.some-needed)) h.few-needed h.full
    ∙ found_none (first-all (λ k. ltb 1 (at l.marks k)) 1 _ (λ k a b. le-ltb _ _ (h.marked (k - 1) (omega arith))))

pub rows_exactly : RowsExactly
rows_exactly n l = (to_order n l, from_order n l)

-- a list that is not in order is refused
pub not_order : (n : ℕ) (l : Holdings) → (InOrder n l → ⊥) → wrong_rows n l ≡ true
not_order n l h = surely (λ e. h (to_order n l e))
