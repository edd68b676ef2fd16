-- `joining::checks::unlike` meets its contract: the tables have the first block of the set, and of the piece. Assumes nothing.
use mathlib.Core.Path.{◌≡◌, sym, ap, ◌∙◌}
use mathlib.Core.Bool.{true, false, not}
use mathlib.Core.List.{List}
use Prim.Native.Nat.{ℕ}
use native.Mathlib.Omega.{arith}
use Rattle.lists.specs.Places.{placed, found}
use Rattle.lists.proofs.Truth.{same_read, other_read}
use Rattle.lists.proofs.FirstLaws.{some_placed, none_placed}
use Rattle.joining.specs.Pile.{set_place, differ_in}
use Rattle.joining.specs.Inner.{unlike}
use Rattle.joining.specs.Laws.{unlike_set, unlike_piece}
use Rattle.joining.proofs.PileLaws.{piece_read, set_read}
use Rattle.joining.proofs.ConflictLaws.{set_first, piece_first}
use Rattle.joining.proofs.SortedLaws.{count_read, place_read, place_inside}
use Rattle.joining.proofs.checks.unlike.Goals as goal

-- `unlike`, case by case
module _ (p : List ℕ) (a : ℕ) where
  at_set : unlike_set p a ≡ true → unlike p a ≡ set_first p a
  unfolding unlike
  at_set e = rw e

  module _ (e : unlike_set p a ≡ false) where
    at_piece : unlike_piece p a ≡ true → unlike p a ≡ piece_first p a
    unfolding unlike
    at_piece q = rw (e, q)

    at_none : unlike_piece p a ≡ false → unlike p a ≡ 0
    unfolding unlike
    at_none q = rw (e, q)

pub bounds-counts-set : goal.bounds-counts-set
bounds-counts-set c = omega (arith, set_read c.args.sorted.now.unmixed c.args.a c.requires.in_pile c.word-set.ensures)

pub returns-then-counts-set : goal.returns-then-counts-set
returns-then-counts-set c =
    let a = c.args in
    let s = a.sorted.now in
    let p = s.pile.now in
    let count = count_read p s.unmixed a.a c.requires.in_pile a.counts.now c.word-set.ensures c.requires.counts_value in
    c.set_place.ensures ∙ ap placed (ap (set_place p) c.word-set.ensures ∙ sym (at_set p a.a (ap not (other_read count c.word.ensures c.if-counts-set.true))))

pub overflow_sub-first : goal.overflow_sub-first
overflow_sub-first c = (piece_read c.args.sorted.now.unmixed c.args.a c.requires.in_pile c.piece_at.ensures).0

pub bounds-sorted-piece_at : goal.bounds-sorted-piece_at
bounds-sorted-piece_at c =
    let few = piece_read c.args.sorted.now.unmixed c.args.a c.requires.in_pile c.piece_at.ensures in
    omega (arith, few.0, few.1)

pub differ-requires : goal.differ-requires
differ-requires c =
    let a = c.args in
    let s = a.sorted.now in
    (c.requires.in_pile, place_inside s.pile.now s.unmixed a.a c.requires.in_pile s.places.now c.piece_at.ensures s.places_are)

pub returns-then-differ : goal.returns-then-differ
returns-then-differ c =
    let a = c.args in
    let s = a.sorted.now in
    let p = s.pile.now in
    let count = count_read p s.unmixed a.a c.requires.in_pile a.counts.now c.word-set.ensures c.requires.counts_value in
    let first = place_read p s.unmixed a.a c.requires.in_pile s.places.now c.piece_at.ensures s.places_are in
    let inside = place_inside p s.unmixed a.a c.requires.in_pile s.places.now c.piece_at.ensures s.places_are in
    let like : unlike_set p a.a ≡ false = ap not (same_read count c.word.ensures c.if-counts-set.false) in
    let other : unlike_piece p a.a ≡ true = ap (λ b. found (differ_in p a.a b)) (sym first) ∙ sym c.differ.ensures ∙ c.if-differ.true in
    some_placed (at_piece p a.a like other ∙ sym first) inside.0

pub returns : goal.returns
returns c =
    let a = c.args in
    let s = a.sorted.now in
    let p = s.pile.now in
    let count = count_read p s.unmixed a.a c.requires.in_pile a.counts.now c.word-set.ensures c.requires.counts_value in
    let first = place_read p s.unmixed a.a c.requires.in_pile s.places.now c.piece_at.ensures s.places_are in
    let like : unlike_set p a.a ≡ false = ap not (same_read count c.word.ensures c.if-counts-set.false) in
    let same : unlike_piece p a.a ≡ false = ap (λ b. found (differ_in p a.a b)) (sym first) ∙ sym c.differ.ensures ∙ c.if-differ.false in
    none_placed (at_none p a.a like same)
