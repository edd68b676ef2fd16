-- `packing::first_wrong` meets its contract: the library finds the first word that is wrong. Assumes nothing.
use mathlib.Core.Path.{◌≡◌}
use mathlib.Core.Bool.{true, false}
use native.Mathlib.Omega.{arith}
use borrow.Author.Tests.{tests}
use borrow.Author.Rules.{rules}
use Rattle.std.proofs.lemmas.Iterator.{first_from_Range}
use Rattle.lists.proofs.FindLaws.{placed_find}
use Rattle.packing.specs.Key.{wrong_at, first_wrong}
use Rattle.packing.proofs.first_wrong.Goals as goal

pub returns : goal.returns
unfolding first_wrong
returns c =
    let wrong = wrong_at c.args.words.now in
    placed_find wrong 1 11 c.find.result (omega arith)
    (first_from_Range _ _ _ c.find.result (λ x. wrong x ≡ true) (λ x. wrong x ≡ false) c.find.ensures.ran (λ x q k. search (rules, tests)) (λ x q k. search (rules, tests)))
