-- `titmeadow::write_groups` meets its contract. The invariant: the groups of the first j rows are written.
-- Assumes nothing.
use mathlib.Core.Path.{◌≡◌, refl, sym, ap, ◌∙◌}
use mathlib.Core.List.{map}
use Prim.Native.Nat.{ℕ, ◌-◌}
use native.Mathlib.Omega.{arith}
use lib.ListN.{take, length-set}
use Rattle.lists.specs.Over.{over}
use Rattle.titmeadow.specs.Inner.{number_of}
use Rattle.titmeadow.proofs.RowLaws.{write_on}
use Rattle.titmeadow.proofs.write_groups.Goals as goal

pub loop-j-init : goal.loop-j-init
unfolding over
loop-j-init c = (c.requires.2, refl)

pub loop-j-preserved : goal.loop-j-preserved
loop-j-preserved c = (
  length-set c.loop-j.groups c.loop-j.j c.group_of.result ∙ c.loop-j.invariant.0,
  write_on c.args.rows.now c.args.groups.now c.loop-j.groups c.loop-j.j c.group_of.result (omega (arith, c.requires)) (omega (arith, c.requires)) c.group_of.ensures c.loop-j.invariant.1,
)

pub shape_of-groups : goal.shape_of-groups
shape_of-groups c =
    c.loop-j.invariant.0 ∙ sym c.requires.2

pub returns : goal.returns
returns c =
    let all : c.loop-j.j ≡ c.args.k = omega arith in
    c.loop-j.invariant.1 ∙ ap (λ (n : ℕ). over (map number_of (take n c.args.rows.now)) c.args.groups.now) all
