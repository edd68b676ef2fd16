-- `joining::heaps::own_deal` meets its contract: of an unmixed pile every block is of the own deal, and so is block 1. Assumes nothing.
use mathlib.Core.Path.{◌∙◌}
use native.Mathlib.Nat.{le_refl}
use Rattle.joining.proofs.heaps.own_deal.Goals as goal

pub returns : goal.returns
returns c =
    let u = c.requires in
    c.deal_at.ensures ∙ u.own_deal_lem 1 (le_refl 1, u.some)

pub deal_at-requires : goal.deal_at-requires
deal_at-requires c = (le_refl 1, c.requires.some)
