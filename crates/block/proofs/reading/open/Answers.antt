-- `block::reading::open` meets its contract: TORN by the length, and else what the block's lines say. Assumes nothing.
use mathlib.Core.Path.{sym, ap, ◌∙◌}
use Rattle.answer.proofs.PassedOn.{passed_on}
use Rattle.block.specs.Open.{opened}
use Rattle.block.proofs.OpenLaws.{opening-torn, open_refused, open_head}
use Rattle.block.proofs.reading.open.Goals as goal

pub returns-then-pile-lt512 : goal.returns-then-pile-lt512
returns-then-pile-lt512 c = ap opened c.refuse.ensures ∙ sym (opening-torn _ c.if-pile-lt512.true)

pub returns-in_err-check_block : goal.returns-in_err-check_block
returns-in_err-check_block c =
    ap opened (passed_on c.from_residual.ensures.1) ∙ open_refused _ c.if-pile-lt512.false c.check_block.ensures c.in_err-check_block.was

pub returns : goal.returns
returns c = open_head _ c.if-pile-lt512.false c.check_block.ensures c.front_words.result c.in_ok-check_block.was c.front_words.ensures
