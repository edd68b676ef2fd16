-- `bysets::card::held_count` meets its contract: the sets that have the holder are those at the places of these. Assumes nothing.
use mathlib.Core.Path.{◌≡◌, sym, ap, ◌∙◌}
use mathlib.Core.Bool.{Bool}
use Prim.Native.Nat.{ℕ, ◌+◌, ◌-◌}
use native.Mathlib.Nat.{le_refl}
use native.Mathlib.Omega.{arith}
use lib.ListN.{length}
use lib.Seq.{take_all}
use Rattle.std.specs.List.{filter}
use Rattle.std.proofs.Common.{rules, tests}
use Rattle.std.proofs.lemmas.Iterator.{YieldsList-from_slice}
use Rattle.std.proofs.lemmas.Iterator.Consumers.{YieldsList-from_filter, count_from_yields_List}
use Rattle.planning.specs.Sets.{member}
use Rattle.minimal.specs.Minimal.{sets_with}
use Rattle.dealing.proofs.CountLaws.{counted_those}
use Rattle.bysets.proofs.SizeLaws.{has}
use Rattle.bysets.proofs.card.held_count.Goals as goal

pub returns : goal.returns
unfolding sets_with
returns c =
    let p : ℕ → Bool = member c.args.holder in
    let sets = c.args.sets.now in
    count_from_yields_List _ _ c.count.ensures.ran (YieldsList-from_filter _ p (YieldsList-from_slice sets cc) c.filter.ensures.closure (λ x r q h. search (rules, tests)))
    ∙ ap (λ l. length (filter p l)) (sym (take_all (length sets) sets (le_refl (length sets))))
    ∙ counted_those p sets 0 (has sets c.args.holder) (length sets) (le_refl (length sets)) (λ i m. let z : 1 + i - 1 ≡ i = omega arith in rw z)
