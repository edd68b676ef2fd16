-- `joining::places::taken` meets its contract: the chosen set's places, as many as the block of its piece 1 says; in the first scheme the deal's.
-- Assumes nothing.
use mathlib.Core.Path.{◌≡◌, sym, ap, ◌∙◌}
use mathlib.Core.Logic.{⊎_elim}
use mathlib.Core.Bool.{true, false}
use mathlib.Core.List.{List}
use Prim.Native.Nat.{ℕ, ◌+◌, ◌-◌, ◌*◌, ◌≤◌}
use native.Mathlib.Omega.{arith}
use lib.ListN.{take}
use borrow.Author.Rules.{rules}
use Rattle.lists.proofs.Truth.{decided}
use Rattle.std.specs.Prelude.{Option, Some, None}
use Rattle.lists.specs.Places.{placed}
use Rattle.lists.proofs.FirstLaws.{placed_none}
use Rattle.pile.proofs.PileLaws.{placed_is}
use Rattle.joining.specs.Pile.{in_sets, pieces_at, chosen, own_pieces}
use Rattle.joining.specs.Inner.{Full}
use Rattle.joining.proofs.ChosenLaws.{first-chosen, first_pieces, sets-pieces, full-chosen, own-fits, own_part}
use Rattle.joining.proofs.SortedLaws.{pieces_read, chosen_range, chosen_one, chosen_inside}
use Rattle.joining.proofs.places.taken.Goals as goal

-- a set is chosen of a deal by sets alone
module _ (p : List ℕ) (f : Full p) {r : Option ℕ} (e : r ≡ placed (chosen p)) where
  some_set : {s : ℕ} → r ≡ Some s → (chosen p ≡ s) × (in_sets p ≡ true)
  some_set {s} q =
      let is = placed_is _ e q in
      (is.0, ⊎_elim (λ t. t) (λ n. absurd (omega (arith, is.0, is.1, first-chosen p n))) (decided (in_sets p)))

  no_set : r ≡ None → in_sets p ≡ false
  no_set q = ⊎_elim (λ t. absurd (omega (arith, full-chosen f t, placed_none _ e q))) (λ n. n) (decided (in_sets p))

pub overflow_mul-before : goal.overflow_mul-before
overflow_mul-before c =
    let s = c.args.sorted.now in
    let set = some_set s.pile.now c.requires c.chosen.ensures c.in-Some.is in
    let r = chosen_range s.pile.now c.requires set.1 set.0 in
    omega (arith, r.1)

pub offset_bounds-places-before : goal.offset_bounds-places-before
offset_bounds-places-before c =
    let s = c.args.sorted.now in
    let set = some_set s.pile.now c.requires c.chosen.ensures c.in-Some.is in
    let r = chosen_range s.pile.now c.requires set.1 set.0 in
    omega (arith, r.1)

pub bounds-places-before : goal.bounds-places-before
bounds-places-before c =
    let s = c.args.sorted.now in
    let set = some_set s.pile.now c.requires c.chosen.ensures c.in-Some.is in
    let r = chosen_range s.pile.now c.requires set.1 set.0 in
    omega (arith, r.0, r.1)

pub word-pieces-requires : goal.word-pieces-requires
word-pieces-requires c =
    let s = c.args.sorted.now in
    let set = some_set s.pile.now c.requires c.chosen.ensures c.in-Some.is in
    let i = chosen_inside s.pile.now c.requires set.1 set.0 s.places.now s.places_are in
    (i.0, i.1, omega arith, omega arith)

-- how many pieces the chosen set has
module _ (p : List ℕ) (f : Full p) {s k : ℕ} (e : chosen p ≡ s) (q : k ≡ own_pieces p) where
  fits : 8 * (s - 1) + k ≤ 560
  fits = omega (arith, own-fits f, e, q)

pub overflow_add-result : goal.overflow_add-result
overflow_add-result c =
    let s = c.args.sorted.now in
    let p = s.pile.now in
    let set = some_set p c.requires c.chosen.ensures c.in-Some.is in
    let k = c.word-pieces.ensures ∙ ap (pieces_at p) (chosen_one p c.requires set.1 set.0 s.places.now s.places_are) ∙ sym (sets-pieces p set.1) in
    omega (arith, fits p c.requires set.0 k)

pub offset_bounds-places-before-in-Some : goal.offset_bounds-places-before-in-Some
offset_bounds-places-before-in-Some c =
    let s = c.args.sorted.now in
    let set = some_set s.pile.now c.requires c.chosen.ensures c.in-Some.is in
    let r = chosen_range s.pile.now c.requires set.1 set.0 in
    omega (arith, r.1)

pub slice_bounds-result-end : goal.slice_bounds-result-end
slice_bounds-result-end c =
    let s = c.args.sorted.now in
    let p = s.pile.now in
    let set = some_set p c.requires c.chosen.ensures c.in-Some.is in
    let k = c.word-pieces.ensures ∙ ap (pieces_at p) (chosen_one p c.requires set.1 set.0 s.places.now s.places_are) ∙ sym (sets-pieces p set.1) in
    let f = fits p c.requires set.0 k in
    search rules

pub shared_ref_as_front-result : goal.shared_ref_as_front-result
shared_ref_as_front-result c =
    let s = c.args.sorted.now in
    let p = s.pile.now in
    let none = no_set p c.requires c.chosen.ensures c.in-None.is in
    omega (arith, pieces_read p s.own_is, first_pieces p none, c.requires.pieces_in.1)

pub returns-in-Some : goal.returns-in-Some
returns-in-Some c =
    let s = c.args.sorted.now in
    let p = s.pile.now in
    let set = some_set p c.requires c.chosen.ensures c.in-Some.is in
    let k = c.word-pieces.ensures ∙ ap (pieces_at p) (chosen_one p c.requires set.1 set.0 s.places.now s.places_are) ∙ sym (sets-pieces p set.1) in
    own_part c.requires s.places.now _ _ s.places_are (ap (λ n. 8 * (n - 1)) (sym set.0)) k

pub returns-in-None : goal.returns-in-None
returns-in-None c =
    let s = c.args.sorted.now in
    let p = s.pile.now in
    let none = no_set p c.requires c.chosen.ensures c.in-None.is in
    let z : 0 ≡ 8 * (chosen p - 1) = omega (arith, first-chosen p none) in
    let n : s.own.pieces ≡ 0 + s.own.pieces - 0 = omega arith in
    ap (λ m. take m s.places.now) n ∙ own_part c.requires s.places.now 0 s.own.pieces s.places_are z (pieces_read p s.own_is ∙ sym (first_pieces p none))
