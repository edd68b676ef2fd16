-- `desk::slots::write_secret` meets its contract. The invariant: the first i words of the secret are written.
-- Assumes nothing.
use native.Mathlib.Omega.{arith}
use mathlib.Core.Path.{◌≡◌, refl, ap, ◌∙◌}
use Prim.Native.Nat.{ℕ}
use Rattle.lists.specs.Over.{over}
use Rattle.lists.specs.Run.{run}
use Rattle.field.specs.Joined.{joined}
use Rattle.lists.proofs.OverLaws.{over_on}
use Rattle.field.specs.Secret.{column, secret_of}
use Rattle.desk.specs.Slots.{value_in}
use Rattle.desk.proofs.slots.write_secret.Goals as goal

pub loop-i-init : goal.loop-i-init
unfolding run over
loop-i-init c = (refl, refl)

pub secret_word-requires : goal.secret_word-requires
secret_word-requires c =
    record { small = c.requires.small; all_kept = c.requires.all_kept; weights_value = c.weights-weights.ensures; le_i = (omega arith, omega arith); pieces_in_bounds = omega (arith, c.loop-i.invariant.0, c.requires.small.pieces) }

pub loop-i-preserved : goal.loop-i-preserved
loop-i-preserved c =
    let v = c.loop-i.invariant in (
      omega arith,
      over_on (λ m. joined (column (value_in c.args.slots.now c.args.client) c.args.o.pieces m)) c.args.out.now c.loop-i.out c.loop-i.i c.secret_word.result (omega arith) c.secret_word.ensures.says v.1,
    )

pub returns : goal.returns
unfolding secret_of
returns c =
    let all : c.loop-i.i ≡ c.args.o.width = omega arith in
    c.loop-i.invariant.1 ∙ ap (λ (n : ℕ). over (run (λ m. joined (column (value_in c.args.slots.now c.args.client) c.args.o.pieces m)) 1 n) c.args.out.now) all
