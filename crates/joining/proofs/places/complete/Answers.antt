-- `joining::places::complete` meets its contract: of its piece 1 the table says whether it is there, and the block says how many are to be.
-- Assumes nothing.
use mathlib.Core.Path.{sym, ◌∙◌}
use mathlib.Core.List.{List}
use lib.ListN.{take, drop}
use Prim.Native.Nat.{ℕ, ◌+◌, ◌-◌, ◌*◌, ◌≤◌}
use native.Mathlib.Omega.{arith}
use Rattle.std.proofs.Common.{rules, tests}
use Rattle.std.proofs.lemmas.Iterator.{YieldsList-from_slice}
use Rattle.std.proofs.lemmas.Iterator.Search.{all_from_yields_List}
use Rattle.lists.specs.Places.{found}
use Rattle.lists.proofs.Truth.{isn't}
use Rattle.joining.proofs.ChosenLaws.{complete-places}
use Rattle.joining.proofs.SortedLaws.{by_sets, piece_one, one_inside, set_few, all_there}
use Rattle.joining.proofs.places.complete.Goals as goal

pub returns-then-first-eq0 : goal.returns-then-first-eq0
returns-then-first-eq0 c =
    let s = c.args.sorted.now in
    let e = piece_one s.pile.now s.places.now s.places_are c.args.set c.requires.le_set in
    sym (isn't (λ t. omega (arith, (complete-places s.pile.now c.args.set t).0, e, c.if-first-eq0.true)))

pub word-k-requires : goal.word-k-requires
word-k-requires c =
    let s = c.args.sorted.now in
    let e = piece_one s.pile.now s.places.now s.places_are c.args.set c.requires.le_set in
    let h = one_inside s.pile.now s.places.now s.places_are c.args.set c.requires.le_set c.if-first-eq0.false in
    (omega (arith, h.0, e), omega (arith, h.1, e), omega arith, omega arith)

-- a set has eight pieces at most
pub slice_bounds-iter-end : goal.slice_bounds-iter-end
slice_bounds-iter-end c =
    let s = c.args.sorted.now in
    let p = s.pile.now in
    let few = set_few p s.places.now s.places_are c.args.set c.requires.le_set c.if-first-eq0.false c.word-k.ensures s.unmixed (by_sets p s.own_is c.requires.sets) in
    let fits : 8 * (c.args.set - 1) + c.word-k.result ≤ 560 = omega (arith, few, c.requires.le_set.0, c.requires.le_set.1) in
    search rules

pub returns : goal.returns
returns c =
    let s = c.args.sorted.now in
    let p = s.pile.now in
    let at = 8 * (c.args.set - 1) in
    let part : List ℕ = take (at + c.word-k.result - at) (drop at s.places.now) in
    all_from_yields_List {all = part} found _ _ _ c.all.ensures.ran (YieldsList-from_slice part cc) (λ x b q k. search (rules, tests))
    ∙ all_there p s.places.now s.places_are c.args.set c.requires.le_set c.if-first-eq0.false c.word-k.ensures s.unmixed (by_sets p s.own_is c.requires.sets)
