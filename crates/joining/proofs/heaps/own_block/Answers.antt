-- `joining::heaps::own_block` meets its contract. The invariant: of the blocks before block a, the own one is the first in a largest heap.
-- Assumes nothing.
use mathlib.Core.Path.{◌≡◌, ap, subst, ◌∙◌}
use Prim.Native.Nat.{ℕ, ◌+◌}
use native.Mathlib.Omega.{arith}
use Rattle.pile.specs.Blocks.{blocks}
use Rattle.joining.specs.Pile.{heap_of, heap}
use Rattle.joining.proofs.HeapLaws.{Best, best_one, best_new, best_old, best_all}
use Rattle.joining.proofs.heaps.own_block.Goals as goal
use Rattle.joining.proofs.heaps.own_block.Goals.{then-most-size, else-most-size}

pub loop-a-init : goal.loop-a-init
loop-a-init c =
    let p = c.args.pile.now in
    (best_one p, c.heap_of-most.ensures ∙ ap (heap_of p) c.deal_at.ensures)

pub deal_at-requires-in-loop-a : goal.deal_at-requires-in-loop-a
unfolding blocks
deal_at-requires-in-loop-a c = omega arith

pub loop-a-preserved : goal.loop-a-preserved
unfolding blocks
loop-a-preserved c =
    let p = c.args.pile.now in
    let v = c.loop-a in
    let size : c.heap_of-size.result ≡ heap p v.a = c.heap_of-size.ensures ∙ ap (heap_of p) c.deal_at-in-loop-a.ensures in
    let best : Best p (v.a + 1) c.if-most-size.own × (c.if-most-size.most ≡ heap p c.if-most-size.own) = elim c.if-most-size.branch [
      | then-most-size w ↦ rw (w.own-is, w.most-is) (best_new p v.a v.own v.invariant.0 (rw (v.invariant.1, size) at w.if-most-size.true), size)
      | else-most-size w ↦ rw (w.own-is, w.most-is) (best_old p v.a v.own v.invariant.0 (rw (v.invariant.1, size) at w.if-most-size.false), v.invariant.1)
    ] in
    (best.0, best.1)

pub returns : goal.returns
unfolding blocks
returns c =
    let p = c.args.pile.now in
    let e : c.loop-a.a ≡ blocks p + 1 = omega arith in
    best_all p c.loop-a.own (subst (λ (n : ℕ). Best p n c.loop-a.own) e c.loop-a.invariant.0)
