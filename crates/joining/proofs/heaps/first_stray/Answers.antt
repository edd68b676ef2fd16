-- `joining::heaps::first_stray` meets its contract: the library finds the first block of another deal. Assumes nothing.
use mathlib.Core.Path.{◌≡◌}
use mathlib.Core.Bool.{true, false}
use Prim.Native.Nat.{◌+◌}
use native.Mathlib.Omega.{arith}
use borrow.Author.Tests.{tests}
use borrow.Author.Rules.{rules}
use Rattle.std.proofs.lemmas.Iterator.{first_from_Range}
use Rattle.lists.proofs.FindLaws.{placed_find}
use Rattle.pile.specs.Blocks.{blocks}
use Rattle.joining.specs.Checks.{strays}
use Rattle.joining.proofs.heaps.first_stray.Goals as goal

pub returns : goal.returns
unfolding blocks
returns c =
    let p = c.args.pile.now in
    let other = strays p c.args.d in
    placed_find other 1 (blocks p + 1) c.find.result (omega arith)
    (first_from_Range _ _ _ c.find.result (λ x. other x ≡ true) (λ x. other x ≡ false) c.find.ensures.ran (λ x q k. search (rules, tests)) (λ x q k. search (rules, tests)))
