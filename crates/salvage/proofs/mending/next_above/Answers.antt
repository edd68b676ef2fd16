-- `salvage::mending::next_above` meets its contract: the library finds the first word above 32748. Assumes nothing.
use mathlib.Core.Path.{◌≡◌}
use mathlib.Core.Bool.{true, false}
use borrow.Author.Tests.{tests}
use borrow.Author.Rules.{rules}
use Rattle.std.proofs.lemmas.Iterator.{first_from_Range}
use Rattle.lists.proofs.FindLaws.{placed_find}
use Rattle.block.specs.Open.{above}
use Rattle.salvage.proofs.mending.next_above.Goals as goal

pub returns : goal.returns
returns c =
    let hot = above c.args.b.now in
    placed_find hot c.args.start 257 c.find.result c.requires.le_start
    (first_from_Range _ _ _ c.find.result (λ x. hot x ≡ true) (λ x. hot x ≡ false) c.find.ensures.ran (λ x q k. search (rules, tests)) (λ x q k. search (rules, tests)))
