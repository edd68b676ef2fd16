-- `field::weight_of` meets its contract. The invariant: above and below are the products over the pieces before i.
-- Assumes nothing.
use mathlib.Core.Path.{◌≡◌, refl, sym, ap, ap₂, subst, ◌∙◌}
use Prim.Native.Nat.{ℕ, ◌-◌, ◌*◌, ◌%◌, ◌<◌, ◌≤◌}
use native.Mathlib.Omega.{arith}
use native.Mathlib.Nat.{mul-le-mul}
use mir.Syntax.{w64}
use mir.Val.{Fits}
use Rattle.prime.specs.Prime.{p}
use Rattle.prime.specs.Inverse.{inverse}
use Rattle.field.specs.Lagrange.{product, lagrange_weight}
use Rattle.prime.proofs.Prime.{inverse-below}
use Rattle.field.proofs.Products.{product_small, product_skip, product_turn, product-apart}
use Rattle.field.proofs.weight_of.Goals.{then-i-j, else-i-j}
use Rattle.field.proofs.weight_of.Goals as goal

pub loop-i-init : goal.loop-i-init
unfolding product
loop-i-init c = (refl, refl)

-- a factor times one of them
fits : (f b : ℕ) → f ≤ 32819 → b ≤ 32748 → Fits w64 (f * b)
fits f b h k = omega (arith, mul-le-mul h k)

pub overflow_mul-above : goal.overflow_mul-above
overflow_mul-above c =
    let small : c.loop-i.above ≤ 32748 = omega (arith, c.loop-i.invariant.0, product_small c.args.j 0 (c.loop-i.i - 1)) in
    fits _ _ (omega arith) small

pub overflow_mul-below : goal.overflow_mul-below
overflow_mul-below c =
    let small : c.loop-i.below ≤ 32748 = omega (arith, c.loop-i.invariant.1, product_small c.args.j c.args.j (c.loop-i.i - 1)) in
    fits _ _ (omega arith) small

pub loop-i-preserved : goal.loop-i-preserved
loop-i-preserved c =
    let l = c.loop-i in
    let j = c.args.j in
    elim c.if-i-j.branch [
      | then-i-j w ↦
          let x = product_turn j 0 l.i _ l.above c.loop-i.auto.i w.if-i-j.true (omega arith) l.invariant.0 in
          let y = product_turn j j l.i _ l.below c.loop-i.auto.i w.if-i-j.true (omega arith) l.invariant.1 in
          (w.above-is ∙ x, w.below-is ∙ y)
      | else-i-j w ↦
          (w.above-is ∙ product_skip j 0 l.i l.above c.loop-i.auto.i w.if-i-j.false l.invariant.0, w.below-is ∙ product_skip j j l.i l.below c.loop-i.auto.i w.if-i-j.false l.invariant.1)
    ]

pub overflow_cast-below : goal.overflow_cast-below
overflow_cast-below c =
    let small : c.loop-i.below ≤ 32748 = omega (arith, c.loop-i.invariant.1, product_small c.args.j c.args.j (c.loop-i.i - 1)) in
    omega (arith, small)

pub invert-requires : goal.invert-requires
invert-requires c =
    let j = c.args.j in
    subst (λ (x : ℕ). 0 < x % p) (sym c.loop-i.invariant.1) (product-apart j j (c.loop-i.i - 1) (omega arith) (omega arith) (λ i a b f. f))

pub overflow_mul-result : goal.overflow_mul-result
overflow_mul-result c =
    let small : c.loop-i.above ≤ 32748 = omega (arith, c.loop-i.invariant.0, product_small c.args.j 0 (c.loop-i.i - 1)) in
    let b : c.invert.result ≤ 32748 = omega (arith, c.invert.ensures, inverse-below c.loop-i.below) in
    fits _ _ (omega (arith, small)) b

pub returns : goal.returns
unfolding lagrange_weight
returns c =
    let l = c.loop-i in
    let j = c.args.j in
    let e : l.i - 1 ≡ c.args.k = omega arith in
    ap₂ (λ (x y : ℕ). x * y % p) (l.invariant.0 ∙ ap (product j 0) e) (c.invert.ensures ∙ ap inverse (l.invariant.1 ∙ ap (product j j) e))
