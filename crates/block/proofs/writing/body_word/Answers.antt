-- `block::writing::body_word` meets its contract, arm by arm. Assumes nothing.
use lib.ListN.{get_or-eq_default}
use Rattle.block.proofs.LayoutLaws.{held_rest}
use native.Mathlib.Omega.{arith}
use mathlib.Core.Path.{sym, ◌∙◌}
use Rattle.block.specs.Layout.{held_at}
use Rattle.block.proofs.writing.body_word.Goals as goal

pub returns-in-1 : goal.returns-in-1
unfolding held_at
returns-in-1 c = rw c.in-1.is

pub returns-in-2 : goal.returns-in-2
unfolding held_at
returns-in-2 c = rw c.in-2.is

pub returns-in-3 : goal.returns-in-3
unfolding held_at
returns-in-3 c = rw c.in-3.is

pub returns-in-4 : goal.returns-in-4
unfolding held_at
returns-in-4 c = rw c.in-4.is

pub returns-in-5 : goal.returns-in-5
unfolding held_at
returns-in-5 c = rw c.in-5.is

pub returns-in-6 : goal.returns-in-6
unfolding held_at
returns-in-6 c = rw c.in-6.is

pub returns-in-7 : goal.returns-in-7
unfolding held_at
returns-in-7 c = rw c.in-7.is

pub returns-in-24 : goal.returns-in-24
unfolding held_at
returns-in-24 c = rw c.in-24.is

pub returns-in-25 : goal.returns-in-25
unfolding held_at
returns-in-25 c = rw c.in-25.is

pub returns-then-at-values : goal.returns-then-at-values
returns-then-at-values c = sym (held_rest c.args.l c.args.values.now c.args.i (omega arith) (λ e. omega arith) (λ e. omega arith))

pub returns-else-at-values : goal.returns-else-at-values
returns-else-at-values c =
    sym (held_rest c.args.l c.args.values.now c.args.i (omega arith) (λ e. omega arith) (λ e. omega arith) ∙ get_or-eq_default c.args.values.now 0 c.if-at-values.false)
