-- `joining::heaps::mixed_at` meets its contract: where no block strays from the deal of block 1, none is mixed. Assumes nothing.
use mathlib.Core.Path.{sym, ap, ◌∙◌}
use native.Mathlib.Omega.{arith}
use Rattle.lists.specs.Places.{placed}
use Rattle.lists.proofs.FirstLaws.{placed_none, none_placed}
use Rattle.pile.specs.Blocks.{deal_at}
use Rattle.joining.specs.Checks.{first_stray, mixed_at}
use Rattle.joining.proofs.HeapLaws.{own_in, unmixed-first}
use Rattle.joining.proofs.heaps.mixed_at.Goals as goal

pub returns-in_err-first_stray : goal.returns-in_err-first_stray
returns-in_err-first_stray c =
    let p = c.args.pile.now in
    let none = placed_none _ c.first_stray.ensures c.in_err-first_stray.was in
    c.from_residual.ensures ∙ none_placed (unmixed-first p c.requires (ap (first_stray p) (sym c.deal_at.ensures) ∙ none))

pub deal_at-requires-2 : goal.deal_at-requires-2
deal_at-requires-2 c =
    let i = own_in c.args.pile.now c.requires in
    (omega (arith, i.0, c.own_block-own.ensures), omega (arith, i.1, c.own_block-own.ensures, c.requires))

pub returns : goal.returns
unfolding mixed_at
returns c =
    let p = c.args.pile.now in
    c.first_stray-2.ensures ∙ ap (λ d. placed (first_stray p d)) (c.deal_at-2.ensures ∙ ap (deal_at p) c.own_block-own.ensures)
