-- `joining::checks::check_conflict` meets its contract. The invariant: the first block unlike the first of its set or of its piece lies from a on.
-- Assumes nothing.
use mathlib.Core.Path.{sym, ap, ◌∙◌}
use Prim.Native.Nat.{◌+◌}
use native.Mathlib.Omega.{arith}
use Rattle.answer.specs.Outcome.{refused, checked}
use Rattle.lists.proofs.FirstLaws.{first_hit, first_miss, first-none, placed_none}
use Rattle.pile.specs.Blocks.{blocks}
use Rattle.pile.proofs.PileLaws.{placed_is}
use Rattle.joining.proofs.PileLaws.{one_mark}
use Rattle.joining.proofs.ConflictLaws.{apart, by_first, unlike_apart, unlike_alike, conflict_unlike, conflict_passes}
use Rattle.joining.proofs.checks.check_conflict.Goals as goal

pub loop-a-init : goal.loop-a-init
loop-a-init c = let s = c.args.sorted.now in by_first s.pile.now (one_mark s.unmixed)

pub unlike-requires : goal.unlike-requires
unfolding blocks
unlike-requires c = record { in_pile = (omega arith, omega arith); counts_value = c.set_counts-counts.ensures }

pub returns-in-Some : goal.returns-in-Some
unfolding blocks
returns-in-Some c =
    let s = c.args.sorted.now in
    let p = s.pile.now in
    let a = c.loop-a.a in
    let is = placed_is _ c.unlike.ensures c.in-Some.is in
    let other = unlike_apart p a (omega (arith, is.1, is.0)) in
    ap checked c.refuse.ensures ∙ ap (refused 19 a) (sym is.0)
    ∙ conflict_unlike p a (one_mark s.unmixed) (omega arith) (c.loop-a.invariant ∙ first_hit (apart p) a (blocks p + 1) (omega arith) other) other

pub loop-a-preserved : goal.loop-a-preserved
unfolding blocks
loop-a-preserved c =
    let p = c.args.sorted.now.pile.now in
    let a = c.loop-a.a in
    let alike = unlike_alike p a (omega arith, omega arith) (placed_none _ c.unlike.ensures c.in_default.is) in
    c.loop-a.invariant ∙ first_miss (apart p) a (blocks p + 1) (omega arith) alike

pub returns : goal.returns
unfolding blocks
returns c =
    let p = c.args.sorted.now.pile.now in
    conflict_passes p (c.loop-a.invariant ∙ first-none (apart p) c.loop-a.a (blocks p + 1) (omega arith))
