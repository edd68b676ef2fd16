-- The ranges of a label's words, as inequalities and back; a true block's words are in them.
-- Assumes nothing.
use mathlib.Core.Path.{◌≡◌, refl, sym, ap₂, ◌∙◌}
use mathlib.Core.Bool.{Bool, true, false, cond, ◌||◌, or-false}
use mathlib.Core.Logic.{◌↔◌}
use mathlib.Core.List.{List}
use Prim.Native.Nat.{ℕ, zero, suc, ◌≤◌}
use native.Mathlib.Nat.{pos_of_ne-zero}
use native.Mathlib.Omega.{arith}
use lib.Dec.{eqb, leb}
use borrow.Author.Tests.{leb-true, le-leb, eqb-true, eqb-false, eq-eqb, ne_eqb}
use Rattle.lists.proofs.Truth.{both, or_l, or_r, not_so}
use Rattle.block.specs.declared.Label.{Label}
use Rattle.block.specs.Words.{word_at}
use Rattle.block.specs.Layout.{piece_in, piece_number, piece_of, within, by_sets, range_at, Ranged, label_of}
use Rattle.block.specs.Open.{TrueBlock}
use Rattle.block.specs.Laws.{Scheme, first, sets, Ranges}
use Rattle.block.proofs.LayoutLaws.{ranged}

in_range : (low v high : ℕ) → within low v high ≡ true → (low ≤ v) × (v ≤ high)
in_range low v high e = let r = both (leb low v) (leb v high) e in (leb-true low v r.0, leb-true v high r.1)

range_in : (low v high : ℕ) → low ≤ v → v ≤ high → within low v high ≡ true
range_in low v high l h = simp (le-leb low v l, le-leb v high h)

-- ---- words 1, 5 and 25: the two schemes
first-mark : (l : Label) → l.mark ≡ 1987 → by_sets l ≡ false
first-mark l e = ne_eqb l.mark 1988 (λ q. omega arith)

scheme_by : (l : Label) (x : Bool) → by_sets l ≡ x → (eqb l.mark 1987 || x) ≡ true → l.pieces ≤ cond x l.people 70
    → cond x (within 1 l.set 70) (eqb l.set 0) ≡ true → Scheme l
scheme_by l true e m k s = let r = in_range 1 l.set 70 s in sets (eqb-true l.mark 1988 e) r.0 r.1 k
scheme_by l false e m k s = first (eqb-true l.mark 1987 (sym (or-false (eqb l.mark 1987)) ∙ m)) (eqb-true l.set 0 s)

pieces_by : (l : Label) (x : Bool) → l.people ≤ 8 → l.pieces ≤ cond x l.people 70 → l.pieces ≤ 70
pieces_by l true n k = omega arith
pieces_by l false n k = k

mark-right : (l : Label) → Scheme l → (eqb l.mark 1987 || by_sets l) ≡ true
mark-right l (first m s) = or_l (by_sets l) (eq-eqb l.mark 1987 m)
mark-right l (sets m s t k) = or_r (eqb l.mark 1987) (eq-eqb l.mark 1988 m)

pieces-right : (l : Label) → Scheme l → l.pieces ≤ 70 → l.pieces ≤ cond (by_sets l) l.people 70
pieces-right l (first m s) h = rw (first-mark l m) h
pieces-right l (sets m s t k) h = rw (eq-eqb l.mark 1988 m) k

set-right : (l : Label) → Scheme l → cond (by_sets l) (within 1 l.set 70) (eqb l.set 0) ≡ true
set-right l (first m s) = rw (first-mark l m) (eq-eqb l.set 0 s)
set-right l (sets m s t k) = rw (eq-eqb l.mark 1988 m) (range_in 1 l.set 70 s t)

-- ---- all of them
pub ranges_of : (l : Label) → Ranged l → Ranges l
unfolding range_at
ranges_of l r =
    let four = both (within 1 l.people 8) (leb l.holder l.people) (r.range 4) in
    let people = in_range 1 l.people 8 four.0 in
    let pieces = in_range 1 l.pieces (cond (by_sets l) l.people 70) (r.range 5) in
    record {
      number = pos_of_ne-zero (eqb-false l.number 0 (not_so (eqb l.number 0) (r.range 2)));
      holder = in_range 1 l.holder 8 (r.range 3);
      people = (people.0, people.1, leb-true l.holder l.people four.1);
      pieces = (pieces.0, pieces_by l (by_sets l) people.1 pieces.1);
      width = in_range 1 l.width 16 (r.range 6);
      piece = in_range 1 l.piece l.pieces (r.range 7);
      scheme = scheme_by l (by_sets l) refl (r.range 1) pieces.1 (r.range 25);
    }

pub of_ranges : (l : Label) → Ranges l → Ranged l
unfolding range_at
of_ranges l y = ranged l go (set-right l y.scheme)
  where
    go : (i : ℕ) → 1 ≤ i → i ≤ 7 → range_at l i ≡ true
    go zero u h = absurd (omega arith)
    go (suc zero) u h = mark-right l y.scheme
    go (suc (suc zero)) u h = rw (ne_eqb l.number 0 (λ e. omega (arith, y.number)))
    go (suc (suc (suc zero))) u h = range_in 1 l.holder 8 y.holder.0 y.holder.1
    go (suc (suc (suc (suc zero)))) u h =
        simp (range_in 1 l.people 8 y.people.0 y.people.1, le-leb l.holder l.people y.people.2)
    go (suc (suc (suc (suc (suc zero))))) u h =
        range_in 1 l.pieces (cond (by_sets l) l.people 70) y.pieces.0 (pieces-right l y.scheme y.pieces.1)
    go (suc (suc (suc (suc (suc (suc zero)))))) u h = range_in 1 l.width 16 y.width.0 y.width.1
    go (suc (suc (suc (suc (suc (suc (suc zero))))))) u h = range_in 1 l.piece l.pieces y.piece.0 y.piece.1
    go (suc (suc (suc (suc (suc (suc (suc (suc i)))))))) u h = absurd (omega arith)

-- what a true block says of its words
pub true_ranges : {b : List ℕ} → TrueBlock b → Ranges (label_of b)
true_ranges {b} t = ranges_of (label_of b) t.layout.ranged

-- ---- a true block of the first scheme has no set
no_set_lem : (l : Label) → Scheme l → l.mark ≡ 1987 → l.set ≡ 0
no_set_lem l (first m s) e = s
no_set_lem l (sets m s t k) e = absurd (let z : ⊥ = omega arith in z)

pub first-set : {b : List ℕ} → TrueBlock b → word_at b 1 ≡ 1987 → word_at b 25 ≡ 0
first-set {b} t e = no_set_lem (label_of b) (true_ranges t).scheme e

-- ---- its piece is its number, in a deal by sets one of eight for each set: 1 to 560
piece_by : (l : Label) → Ranges l → Scheme l → (1 ≤ piece_in l.set l.piece) × (piece_in l.set l.piece ≤ 560)
piece_by l y (first m s) = (omega (arith, y.piece.0), omega (arith, y.piece.1, y.pieces.1))
piece_by l y (sets m s t k) = (omega (arith, y.piece.0), omega (arith, y.piece.1, y.people.1))

pub piece_in_range : {b : List ℕ} → TrueBlock b → (1 ≤ piece_of b) × (piece_of b ≤ 560)
piece_in_range {b} t = let y = true_ranges t in piece_by (label_of b) y y.scheme

pub first_piece : (b : List ℕ) → TrueBlock b → word_at b 1 ≡ 1987 → piece_of b ≡ piece_number b
first_piece b t e = omega (arith, first-set t e)

pub first_in_range : {b : List ℕ} → TrueBlock b → word_at b 1 ≡ 1987 → (1 ≤ piece_of b) × (piece_of b ≤ 70)
first_in_range {b} t e =
    let y = true_ranges t in
    let z = first-set t e in
    ((piece_in_range t).0, omega (arith, y.piece.1, y.pieces.1))

-- it tells set and number, among blocks with one mark
tells_by : (x y : Label) → Ranges x → Ranges y → Scheme x → Scheme y → x.mark ≡ y.mark → piece_in x.set x.piece ≡ piece_in y.set y.piece
    → (x.set ≡ y.set) × (x.piece ≡ y.piece)
tells_by x y p q (first m s) (first n t) e h = (s ∙ sym t, omega arith)
tells_by x y p q (first m s) (sets n t u k) e h = absurd (let z : ⊥ = omega arith in z)
tells_by x y p q (sets m s t k) (first n u) e h = absurd (let z : ⊥ = omega arith in z)
tells_by x y p q (sets m s t k) (sets n u v l) e h =
    let a = p.piece in
    let b = q.piece in
    let c = p.people.1 in
    let d = q.people.1 in
    (omega arith, omega arith)

pub piece_tells : (b c : List ℕ) → TrueBlock b → TrueBlock c → word_at b 1 ≡ word_at c 1
    → (piece_of b ≡ piece_of c) ↔ ((word_at b 25 ≡ word_at c 25) × (piece_number b ≡ piece_number c))
piece_tells b c t u e = (
  λ h. let y = true_ranges t in let z = true_ranges u in tells_by (label_of b) (label_of c) y z y.scheme z.scheme e h,
  λ h. ap₂ piece_in h.0 h.1,
)
