-- `adding::first_unlike` meets its contract: the library finds the first word that differs.
-- Assumes nothing.
use mathlib.Core.Path.{◌≡◌}
use mathlib.Core.Bool.{true, false}
use native.Mathlib.Omega.{arith}
use borrow.Author.Tests.{tests}
use borrow.Author.Rules.{rules}
use Rattle.std.proofs.lemmas.Iterator.{first_from_Range}
use Rattle.adding.specs.Sum.{differ, unlike_at}
use Rattle.lists.proofs.FindLaws.{placed_find}
use Rattle.adding.proofs.first_unlike.Goals as goal

pub returns : goal.returns
unfolding unlike_at
returns c =
    let differs = differ c.args.one.now c.args.two.now in
    placed_find differs 3 8 c.find.result (omega arith)
    (first_from_Range _ _ _ c.find.result (λ x. differs x ≡ true) (λ x. differs x ≡ false) c.find.ensures.ran (λ x q k. search (rules, tests)) (λ x q k. search (rules, tests)))
