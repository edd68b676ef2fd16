-- `packing::number::ten_words` meets its contract. The invariant: the digits to come, and behind them those that are cut, are all.
-- Assumes nothing.
use mathlib.Core.Path.{◌≡◌, ◌∙◌}
use Prim.Native.Nat.{suc, ◌-◌, ◌%◌}
use native.Mathlib.Omega.{arith}
use lib.ListN.{length-set}
use Rattle.packing.proofs.NumberLaws.{cut_on, none_left}
use Rattle.packing.proofs.number.ten_words.Goals as goal

pub loop-c-preserved : goal.loop-c-preserved
loop-c-preserved c =
    let l = c.loop-c in
    let e : suc (l.c - 1) ≡ l.c = omega arith in (
      length-set l.words (l.c - 1) (l.n % 8192) ∙ l.invariant.0,
      cut_on 8192 l.n (l.c - 1) l.words _ (omega (arith, l.invariant.0)) (rw e l.invariant.1),
    )

pub returns : goal.returns
returns c =
    let e : c.loop-c.c ≡ 0 = omega arith in
    none_left 8192 c.loop-c.n c.loop-c.c c.loop-c.words e ∙ c.loop-c.invariant.1
