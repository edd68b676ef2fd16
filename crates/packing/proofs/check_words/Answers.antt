-- `packing::check_words` meets its contract: at each return the tests that led there say which line speaks. Assumes nothing.
use mathlib.Core.Path.{sym, ap, ◌∙◌}
use Rattle.answer.specs.Outcome.{checked}
use Rattle.packing.proofs.SayLaws.{says-few, says_wrong, says-right}
use Rattle.packing.proofs.check_words.Goals as goal

pub returns-then-words-ne10 : goal.returns-then-words-ne10
returns-then-words-ne10 c = ap checked c.refuse.ensures ∙ sym (says-few c.args.words.now c.if-words-ne10.true)

pub returns-in-Some : goal.returns-in-Some
returns-in-Some c = ap checked c.refuse-in-Some.ensures ∙ sym (says_wrong c.args.words.now c.if-words-ne10.false c.first_wrong.ensures c.in-Some.is)

pub returns-in-None : goal.returns-in-None
returns-in-None c = sym (says-right c.args.words.now c.if-words-ne10.false c.first_wrong.ensures c.in-None.is)
