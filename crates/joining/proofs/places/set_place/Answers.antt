-- `joining::places::set_place` meets its contract: the library finds the first block of the set. Assumes nothing.
use mathlib.Core.Path.{◌≡◌}
use mathlib.Core.Bool.{Bool, true, false}
use Prim.Native.Nat.{ℕ, ◌+◌}
use lib.Dec.{eqb}
use native.Mathlib.Omega.{arith}
use borrow.Author.Tests.{tests}
use borrow.Author.Rules.{rules}
use Rattle.std.proofs.lemmas.Iterator.{first_from_Range}
use Rattle.lists.proofs.FindLaws.{placed_find}
use Rattle.pile.specs.Blocks.{blocks}
use Rattle.joining.specs.Pile.{set_at, set_place}
use Rattle.joining.proofs.places.set_place.Goals as goal

pub returns : goal.returns
unfolding blocks set_place
returns c =
    let p = c.args.pile.now in
    let of_set : ℕ → Bool = λ a. eqb (set_at p a) c.args.set in
    placed_find of_set 1 (blocks p + 1) c.find.result (omega arith)
    (first_from_Range _ _ _ c.find.result (λ x. of_set x ≡ true) (λ x. of_set x ≡ false) c.find.ensures.ran (λ x q k. search (rules, tests)) (λ x q k. search (rules, tests)))
