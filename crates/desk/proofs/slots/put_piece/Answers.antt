-- `desk::slots::put_piece` meets its contract. The invariant: the mark and the values before value i are written.
-- Assumes nothing.
use native.Mathlib.Omega.{arith}
use mathlib.Core.Path.{◌≡◌, ap, ◌∙◌}
use Prim.Native.Nat.{ℕ, ◌-◌}
use lib.ListN.{set, length-set}
use Rattle.desk.specs.Slots.{over_at, kept}
use Rattle.desk.proofs.PutLaws.{kept-first, kept_next, kept_last}
use Rattle.desk.proofs.slots.put_piece.Goals as goal

pub loop-i-init : goal.loop-i-init
loop-i-init c =
    let n = length-set c.args.slots.now c.args.at 1 in
    (omega (arith, n), kept-first c.args.at c.args.block.now c.args.slots.now (omega arith))

pub loop-i-preserved : goal.loop-i-preserved
loop-i-preserved c =
    let v = c.loop-i.invariant in
    let g = c.args in (
      length-set c.loop-i.slots _ c.word.result ∙ v.0,
      kept_next g.at g.block.now (set g.slots.now g.at 1) c.loop-i.slots c.loop-i.i c.word.result c.loop-i.auto.i (omega (arith, length-set g.slots.now g.at 1)) c.word.ensures v.1,
    )

pub returns : goal.returns
returns c =
    let e : c.loop-i.i - 1 ≡ c.args.w = omega arith in
    c.loop-i.invariant.1 ∙ ap (λ (n : ℕ). over_at c.args.at (kept c.args.block.now n) (set c.args.slots.now c.args.at 1)) e
    ∙ kept_last c.args.at c.args.block.now c.args.slots.now c.args.w (omega arith)
