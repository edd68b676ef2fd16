-- `joining::checks::differ` meets its contract. The invariant: the first value that differs is still to be found from value i on.
-- Assumes nothing.
use mathlib.Core.Path.{refl, sym, ap, ◌∙◌}
use mathlib.Core.Bool.{not}
use Prim.Native.Nat.{◌+◌, ◌≤◌}
use native.Mathlib.Omega.{arith}
use Rattle.lists.proofs.FirstLaws.{first_hit, first_miss, first-none, found_some, found_none}
use Rattle.lists.proofs.Truth.{same_read, other_read}
use Rattle.joining.specs.Pile.{own_width, differ_in}
use Rattle.joining.proofs.SortedLaws.{width_read, counts_low}
use Rattle.joining.proofs.checks.differ.Invariants.{other}
use Rattle.joining.proofs.checks.differ.Goals as goal

pub loop-i-init : goal.loop-i-init
unfolding differ_in
loop-i-init c = refl

pub word-requires : goal.word-requires
word-requires c =
    let s = c.args.sorted.now in
    let low = counts_low s.pile.now s.own_is s.unmixed in
    let most : c.loop-i.i ≤ 16 = omega (arith, low.0, low.1) in
    (c.requires.0.0, c.requires.0.1, omega arith, omega (arith, most))

pub word-requires-in-loop-i : goal.word-requires-in-loop-i
word-requires-in-loop-i c =
    let s = c.args.sorted.now in
    let low = counts_low s.pile.now s.own_is s.unmixed in
    let most : c.loop-i.i ≤ 16 = omega (arith, low.0, low.1) in
    (c.requires.1.0, c.requires.1.1, omega arith, omega (arith, most))

pub returns-then-word : goal.returns-then-word
returns-then-word c =
    let a = c.args in
    let s = a.sorted.now in
    let p = s.pile.now in
    let is = c.loop-i.invariant ∙ first_hit (other p a.a a.b) c.loop-i.i (own_width p + 1) (omega (arith, width_read p s.own_is))
    (ap not (other_read c.word.ensures c.word-in-loop-i.ensures c.if-word.true)) in
    sym (found_some (λ z. omega (arith, is, z)))

pub loop-i-preserved : goal.loop-i-preserved
loop-i-preserved c =
    let a = c.args in
    let s = a.sorted.now in
    let p = s.pile.now in
    c.loop-i.invariant ∙ first_miss (other p a.a a.b) c.loop-i.i (own_width p + 1) (omega (arith, width_read p s.own_is))
    (ap not (same_read c.word.ensures c.word-in-loop-i.ensures c.if-word.false))

pub returns : goal.returns
returns c =
    let a = c.args in
    let s = a.sorted.now in
    let p = s.pile.now in
    sym (found_none (c.loop-i.invariant ∙ first-none (other p a.a a.b) c.loop-i.i (own_width p + 1) (omega (arith, width_read p s.own_is))))
