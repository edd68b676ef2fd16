-- `desk::slots::write_column` meets its contract. The invariant: the values of the first j pieces are written.
-- Assumes nothing.
use native.Mathlib.Omega.{arith}
use mathlib.Core.Path.{◌≡◌, refl, ap, ◌∙◌}
use Prim.Native.Nat.{ℕ}
use Rattle.lists.specs.Over.{over}
use Rattle.lists.specs.Run.{run}
use Rattle.lists.proofs.OverLaws.{over_on}
use Rattle.field.specs.Secret.{column}
use Rattle.desk.specs.Slots.{in_slot, value_in}
use Rattle.desk.proofs.slots.write_column.Goals as goal

pub loop-j-init : goal.loop-j-init
unfolding run over
loop-j-init c = refl

pub loop-j-preserved : goal.loop-j-preserved
loop-j-preserved c =
    over_on (λ m. value_in c.args.slots.now c.args.client m c.args.i) c.args.values.now c.loop-j.values c.loop-j.j _ (omega arith)
    (ap (λ (x : ℕ). in_slot c.args.slots.now x c.args.i) c.start.ensures.0) c.loop-j.invariant

pub returns : goal.returns
unfolding column
returns c =
    let e : c.loop-j.j ≡ c.args.k = omega arith in
    c.loop-j.invariant ∙ ap (λ (n : ℕ). over (run (λ m. value_in c.args.slots.now c.args.client m c.args.i) 1 n) c.args.values.now) e
