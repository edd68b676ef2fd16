-- `joining::places::chosen` meets its contract: the library finds the lowest set that is complete. Assumes nothing.
use mathlib.Core.Path.{◌≡◌, sym, ap, ◌∙◌}
use mathlib.Core.Bool.{true, false}
use native.Mathlib.Omega.{arith}
use borrow.Author.Tests.{tests}
use borrow.Author.Rules.{rules}
use Rattle.std.proofs.lemmas.Iterator.{first_from_Range}
use Rattle.lists.specs.Places.{placed}
use Rattle.lists.proofs.FirstLaws.{none_placed}
use Rattle.lists.proofs.FindLaws.{placed_find}
use Rattle.joining.specs.Pile.{complete}
use Rattle.joining.proofs.ChosenLaws.{first-chosen, sets-chosen}
use Rattle.joining.proofs.SortedLaws.{by_sets, by_deal}
use Rattle.joining.proofs.places.chosen.Goals as goal

pub returns-then-sorted-ne1988 : goal.returns-then-sorted-ne1988
returns-then-sorted-ne1988 c =
    let s = c.args.sorted.now in
    none_placed (first-chosen s.pile.now (by_deal s.pile.now s.own_is c.if-sorted-ne1988.true))

pub returns : goal.returns
returns c =
    let s = c.args.sorted.now in
    let p = s.pile.now in
    placed_find (complete p) 1 71 c.find.result (omega arith)
    (first_from_Range _ _ _ c.find.result (λ x. complete p x ≡ true) (λ x. complete p x ≡ false) c.find.ensures.ran (λ x q k. search (rules, tests)) (λ x q k. search (rules, tests)))
    ∙ ap placed (sym (sets-chosen p (by_sets p s.own_is c.if-sorted-ne1988.false)))
