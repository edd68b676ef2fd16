-- `packing::number::number_of_words` meets its contract. The invariant: the number of all digits is that of those read and those to come.
-- Assumes nothing.
use mathlib.Core.Path.{refl, sym, ap, ◌∙◌}
use Prim.Native.Nat.{◌+◌, ◌*◌, ◌<◌}
use native.Mathlib.Numerals.{add-one}
use native.Mathlib.Nat.{lt_of_le_of_lt}
use native.Mathlib.Omega.{arith}
use lib.ListN.{get_or, drop_of_length-le}
use Rattle.packing.specs.Digits.{number_from, number_of}
use Rattle.packing.proofs.NumberLaws.{top, of_words, read_on}
use Rattle.packing.proofs.PackLaws.{words_top}
use Rattle.packing.proofs.number.number_of_words.Goals as goal

pub loop-word-init : goal.loop-word-init
unfolding number_of
loop-word-init c = refl

pub overflow_mul-n : goal.overflow_mul-n
overflow_mul-n c =
    let w = c.args.words.now in
    let l = c.loop-word in
    let r = read_on of_words w l.word-index l.n c.loop-word-test.true l.invariant in
    let h : l.n * 8192 + get_or w l.word-index 0 < top = lt_of_le_of_lt r.1 (words_top w c.requires) in
    omega (arith, h)

pub overflow_add-n : goal.overflow_add-n
overflow_add-n c =
    let w = c.args.words.now in
    let l = c.loop-word in
    let r = read_on of_words w l.word-index l.n c.loop-word-test.true l.invariant in
    let h : l.n * 8192 + get_or w l.word-index 0 < top = lt_of_le_of_lt r.1 (words_top w c.requires) in
    omega (arith, h)

pub loop-word-preserved : goal.loop-word-preserved
loop-word-preserved c =
    let l = c.loop-word in
    let r = read_on of_words c.args.words.now l.word-index l.n c.loop-word-test.true l.invariant in
    rw (add-one l.word-index) r.0

pub returns : goal.returns
unfolding number_from
returns c =
    let w = c.args.words.now in
    let l = c.loop-word in
    sym (ap (number_from 8192 l.n) (drop_of_length-le w {i = l.word-index} (omega arith))) ∙ l.invariant
