-- `field::value_at` meets its contract. The invariant: acc is, mod p, the value of the coefficients past those that are left.
-- Assumes nothing.
use Rattle.prime.proofs.Mod.{◌≈◌, ◌then◌}
use Rattle.field.proofs.BackLaws.{front_start, front_turn}
use Rattle.field.proofs.Horner.{horner_start, horner}
use Rattle.field.proofs.value_at.Goals as goal

pub loop-coefficient-init : goal.loop-coefficient-init
loop-coefficient-init c =
    let cs = c.args.coefficients.now in
    (front_start cs _ (cc), horner_start cs _ c.args.x (cc))

pub loop-coefficient-preserved : goal.loop-coefficient-preserved
loop-coefficient-preserved c =
    let l = c.loop-coefficient in
    let a = c.args in
    let t = c.in-Some.ensures.steps in
    let same : c.lower.result ≈ l.acc = record { same = c.lower.ensures.0 } in
    (front_turn a.coefficients.now _ _ _ t l.invariant.0, horner a.coefficients.now _ _ _ a.x c.lower.result t l.invariant.0 (same then l.invariant.1))
