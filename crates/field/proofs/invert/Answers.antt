-- `field::invert` meets its contract. The invariant: r is a·s mod p, and neither 0 nor above 32748.
-- Assumes nothing.
use mathlib.Core.Path.{◌≡◌, subst}
use Prim.Native.Nat.{ℕ, ◌*◌}
use native.Mathlib.Omega.{arith}
use native.Mathlib.Nat.{mod-lt}
use Rattle.prime.specs.Prime.{p}
use Rattle.prime.proofs.Mod.{◌≈◌}
use Rattle.prime.proofs.Prime.{no_divisor, inverse_one, remainder}
use Rattle.field.proofs.invert.Goals as goal

pub loop-r-preserved : goal.loop-r-preserved
loop-r-preserved c =
    let l = c.loop-r in (
      no_divisor l.r c.loop-r-test.true l.invariant.1,
      omega (arith, mod-lt p l.invariant.0),
      omega arith,
      remainder c.args.a l.r l.s l.invariant.3,
    )

pub returns : goal.returns
returns c =
    let l = c.loop-r in
    let a = c.args.a in
    let one : l.r ≡ 1 = omega arith in
    inverse_one a l.s c.requires l.invariant.2 (subst (λ (x : ℕ). x ≈ a * l.s) one l.invariant.3)
