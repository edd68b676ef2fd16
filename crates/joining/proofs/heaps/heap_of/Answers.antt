-- `joining::heaps::heap_of` meets its contract. The invariant: the size counts the blocks of the deal before block a.
-- Assumes nothing.
use mathlib.Core.Path.{◌≡◌, refl, sym, ap, ◌∙◌}
use Prim.Native.Nat.{ℕ, ◌+◌, ◌-◌}
use native.Mathlib.Omega.{arith}
use lib.ListN.{length}
use Rattle.lists.specs.Places.{those}
use Rattle.block.specs.declared.deal.DealWords.{DealWords}
use Rattle.block.specs.Deals.{same_deal}
use Rattle.pile.specs.Blocks.{blocks, deal_at}
use Rattle.joining.specs.Pile.{heap_of}
use Rattle.joining.proofs.HeapLaws.{counted, counted-few, count_in, count_out}
use Rattle.joining.proofs.heaps.heap_of.Goals as goal
use Rattle.joining.proofs.heaps.heap_of.Goals.{then-same_deal, else-same_deal}

pub loop-a-init : goal.loop-a-init
unfolding those
loop-a-init c = refl

pub deal_at-requires : goal.deal_at-requires
unfolding blocks
deal_at-requires c = omega arith

pub overflow_add-size : goal.overflow_add-size
unfolding blocks
overflow_add-size c =
    let s = c.args in
    omega (arith, c.loop-a.invariant, counted-few s.pile.now s.d c.loop-a.a)

pub loop-a-preserved : goal.loop-a-preserved
unfolding blocks
loop-a-preserved c =
    let s = c.args in
    let v = c.loop-a in
    let says = c.same_deal.ensures ∙ ap (λ (x : DealWords). same_deal x s.d) c.deal_at.ensures in
    elim c.if-same_deal.branch [
      | then-same_deal w ↦ w.size-is ∙ count_in s.pile.now s.d v.a v.size (omega arith) v.invariant (sym says ∙ w.if-same_deal.true)
      | else-same_deal w ↦ w.size-is ∙ count_out s.pile.now s.d v.a v.size (omega arith) v.invariant (sym says ∙ w.if-same_deal.false)
    ]

pub returns : goal.returns
unfolding heap_of blocks
returns c =
    let s = c.args in
    let e : c.loop-a.a ≡ blocks s.pile.now + 1 = omega arith in
    let z : blocks s.pile.now + 1 - 1 ≡ blocks s.pile.now = omega arith in
    c.loop-a.invariant ∙ ap (counted s.pile.now s.d) e ∙ ap (λ (n : ℕ). length (those (λ b. same_deal (deal_at s.pile.now b) s.d) 1 n)) z
