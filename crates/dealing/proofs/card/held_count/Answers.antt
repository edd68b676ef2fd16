-- `dealing::card::held_count` meets its contract: the rows that do not mark the holder are those of the pieces held.
-- Assumes nothing.
use mathlib.Core.Path.{◌≡◌, ◌∙◌}
use mathlib.Core.Bool.{Bool, not, false}
use mathlib.Core.List.{List, []}
use Prim.Native.Nat.{◌+◌, ◌-◌}
use native.Mathlib.Omega.{arith}
use lib.ListN.{get_or, take}
use Rattle.std.proofs.Common.{rules, tests}
use Rattle.std.proofs.lemmas.Iterator.{YieldsList-from_slice}
use Rattle.std.proofs.lemmas.Iterator.Consumers.{YieldsList-from_filter, count_from_yields_List}
use Rattle.dealing.specs.Inner.{held_in}
use Rattle.dealing.proofs.CountLaws.{counted_those}
use Rattle.dealing.proofs.CardLaws.{unmarked}
use Rattle.dealing.proofs.card.held_count.Goals as goal

pub returns : goal.returns
unfolding held_in
returns c =
    let rows = c.args.rows.now in
    let p : List Bool → Bool = λ row. not (get_or row (c.args.holder - 1) false) in
    let k = c.args.k in
    count_from_yields_List _ _ c.count.ensures.ran (YieldsList-from_filter _ p (YieldsList-from_slice (take k rows) cc) c.filter.ensures.closure (λ x r q h. search (rules, tests)))
    ∙ counted_those p rows [] (unmarked rows c.args.holder) k (omega (arith, c.told-rows, c.requires.0)) (λ i m. let z : 1 + i - 1 ≡ i = omega arith in rw z)
