-- `block::reading::scan` meets its contract: the first word above 32748 is still to be found from word i on, and the words before it are in the sum.
-- Assumes nothing.
use mathlib.Core.Path.{◌≡◌, sym, ap, ◌∙◌}
use native.Mathlib.Omega.{arith}
use Rattle.std.specs.Prelude.{Err}
use Rattle.block.specs.Words.{word_at}
use Rattle.block.proofs.ScanLaws.{scan_start, scan_found, scan_on, scan_end}
use Rattle.block.proofs.reading.scan.Goals as goal

pub loop-i-init : goal.loop-i-init
loop-i-init c = scan_start _

pub returns-then-v-gt32748 : goal.returns-then-v-gt32748
returns-then-v-gt32748 c = scan_found c.loop-i.invariant c.word-v.result c.word-v.ensures c.if-v-gt32748.true

pub loop-i-preserved : goal.loop-i-preserved
loop-i-preserved c =
    scan_on c.loop-i.invariant c.word-v.result c.word-v.ensures (omega arith) c.if-v-gt32748.false _ c.weigh-sum.ensures.0 c.weigh-sum.ensures.1

pub returns-then-word-gt32748 : goal.returns-then-word-gt32748
returns-then-word-gt32748 c =
    let last : c.loop-i.i ≡ 256 = omega arith in
    let read = c.word.ensures ∙ ap (word_at c.args.b.now) (sym last) in
    ap Err (sym last) ∙ scan_found c.loop-i.invariant c.word.result read c.if-word-gt32748.true

pub returns : goal.returns
returns c =
    let last : c.loop-i.i ≡ 256 = omega arith in
    let read = c.word.ensures ∙ ap (word_at c.args.b.now) (sym last) in
    scan_end c.loop-i.invariant c.word.result read last c.if-word-gt32748.false
