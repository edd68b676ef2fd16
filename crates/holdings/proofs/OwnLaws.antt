-- Our own holdings as a list: where each mark stands, and that the list suits.
-- Assumes nothing.
use mathlib.Core.Path.{◌≡◌, refl, sym, ap, ◌∙◌}
use mathlib.Core.Bool.{Bool, true, false, cond}
use mathlib.Core.List.Memᴰ
use mathlib.Core.List.{List, [], map}
use Prim.Native.Nat.{ℕ, ◌-◌, ◌*◌, ◌≤◌, zero-le}
use native.Mathlib.Nat.{le_refl}
use native.Mathlib.Omega.{arith}
use lib.Dec.{eqb}
use lib.ListN.{length, get_or, length-map}
use borrow.Author.Tests.{eq-eqb, eqb-true}
use Rattle.lists.specs.Run.{run}
use Rattle.lists.proofs.RunLaws.{run_length, run_at, run-few}
use Rattle.lists.proofs.FlatLaws.{Long, flat_map, map_at, flat-at, flat-few}
use Rattle.planning.specs.Groups.{piece_count, holds}
use Rattle.planning.specs.Policy.{Policy}
use Rattle.planning.proofs.Laws.{accepted-listed, some-piece, gathers}
use Rattle.holdings.specs.Holdings.{mark, owns}
use Rattle.holdings.specs.Own.{own_row, own_marks, own}
use Rattle.holdings.specs.Laws.{InOrder, SuitsAll, OwnSuits, OwnMarks}
use Rattle.holdings.proofs.HaveLaws.{has_of, has-at, have-all, all_have}
use Rattle.holdings.proofs.JudgedLaws.{suits_exactly}

-- ---- our marks
marked_of : (b : Bool) → eqb (cond b 1 0) 1 ≡ b
marked_of true = refl
marked_of false = refl

at_most : (b : Bool) → cond b 1 0 ≤ 1
at_most true = le_refl 1
at_most false = zero-le

module _ (p : Policy) where
  abbrev k : ℕ
  k = piece_count p.people p.required

  -- person i's mark for piece j, and that person's row
  abbrev mark_of : ℕ → ℕ → ℕ
  mark_of i j = cond (holds p.people p.required i j) 1 0

  abbrev row_of : ℕ → List ℕ
  row_of = own_row p.people p.required

  -- the people in turn
  abbrev everybody : List ℕ
  everybody = run (λ i. i) 1 p.people

  rows_long : Long k (map row_of everybody)
  rows_long = record { long = λ b m. let r = Memᴰ.of_map row_of everybody m in ap length (sym r.2) ∙ run_length (mark_of r.0) 1 k }

  own-length : length (own p).marks ≡ p.people * k
  unfolding own_marks
  own-length =
      flat_map row_of (λ i. run_length (mark_of i) 1 k) everybody ∙ ap (λ (n : ℕ). k * n) (run_length (λ i. i) 1 p.people) ∙ omega arith

  own-few : (x : ℕ) → get_or (own p).marks x 0 ≤ 1
  unfolding own_marks
  own-few = flat-few 1 (map row_of everybody) (λ b m x.
      let r = Memᴰ.of_map row_of everybody m in
      rw (← r.2) (run-few (mark_of r.0) 1 (λ j. at_most (holds p.people p.required r.0 j)) 1 k x))

  own-mark : (i j : ℕ) → 1 ≤ i → i ≤ p.people → 1 ≤ j → j ≤ k → mark (own p) i j ≡ mark_of i j
  unfolding own_marks
  own-mark i j a b c d =
      let n = run_length (λ i. i) 1 p.people in
      let e : get_or (map row_of everybody) (i - 1) [] ≡ row_of i
      = map_at row_of everybody (i - 1) (omega arith) ∙ ap row_of (run_at (λ i. i) p.people i a b) in
      flat-at (map row_of everybody) rows_long (i - 1) (j - 1) (omega (arith, length-map everybody row_of)) (omega arith)
      ∙ ap (λ (l : List ℕ). get_or l (j - 1) 0) e ∙ run_at (mark_of i) k j c d

  own-owns : (i j : ℕ) → 1 ≤ i → i ≤ p.people → 1 ≤ j → j ≤ k → owns (own p) i j ≡ holds p.people p.required i j
  unfolding owns
  own-owns i j a b c d = ap (λ (x : ℕ). eqb x 1) (own-mark i j a b c d) ∙ marked_of (holds p.people p.required i j)

  -- a group has all k pieces exactly where it is authorised
  own-suits-all : p.people ≤ 8 → SuitsAll p.people p.required (own p)
  own-suits-all few g h =
      let gather = gathers p.people p.required few g h in (
        (λ t.
            let f = gather.0 t in
            let e = all_have (own p) g (λ j a b. let r = f j a b in has_of (own p) g j r.0 r.1 r.2 r.3 (own-owns r.0 j r.1 r.2 a b ∙ r.4)) in
            omega arith),
        (λ u. gather.1 (λ j a b.
            let r = has-at (own p) g j (have-all (own p) g u j a b) in
            (r.0, r.1, r.2, r.3, sym (own-owns r.0 j r.1 r.2 a b) ∙ r.4))),
      )

pub own-marks : OwnMarks
unfolding owns
own-marks p i j a b c d = (
  (λ e. sym (own-owns p i j a b c d) ∙ eq-eqb _ _ e),
  (λ t. eqb-true _ _ (own-owns p i j a b c d ∙ t)),
)

pub own-suits : OwnSuits
own-suits p k e =
    let some = some-piece p k e in
    let h : InOrder p.people (own p) = record {
      same-people = refl;
      some-piece = omega arith;
      few-pieces = omega arith;
      some-needed = omega arith;
      few-needed = le_refl _;
      full = own-length p;
      marked = λ i l. own-few p i;
    } in
    (suits_exactly p (own p) k e h).1 (own-suits-all p (accepted-listed p k e).few)
