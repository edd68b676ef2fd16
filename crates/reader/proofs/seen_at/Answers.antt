-- `reader::seen_at` meets its contract: by what is left after so many blocks. Assumes nothing.
use mathlib.Core.Path.{sym, ap, ◌∙◌}
use native.Mathlib.Omega.{arith}
use Rattle.std.specs.Prelude.{Result}
use Rattle.answer.specs.declared.Refusal.{Refusal}
use Rattle.block.specs.declared.Words.{Words}
use Rattle.block.specs.Open.{opened}
use Rattle.reader.specs.Seeing.{told}
use Rattle.pile.specs.Blocks.{blocks}
use Rattle.reader.proofs.SeeingLaws.{seen-block, seeing-torn, seeing-ended}
use Rattle.reader.proofs.seen_at.Goals as goal

pub returns-then-passed-whole : goal.returns-then-passed-whole
unfolding blocks
returns-then-passed-whole c = ap told c.count_in.ensures ∙ seen-block _ _ c.if-passed-whole.true c.open-words.ensures

pub returns-then-whole-passed : goal.returns-then-whole-passed
returns-then-whole-passed c = sym (seeing-ended _ _ (omega (arith, c.if-whole-passed.true)))

pub returns-then-whole-n : goal.returns-then-whole-n
returns-then-whole-n c = sym (seeing-ended _ _ (omega (arith, c.if-whole-n.true, c.if-passed-whole.false)))

pub returns : goal.returns
unfolding blocks
returns c =
    ap (λ (words : Result Words Refusal). told (opened words)) c.refuse.ensures
    ∙ sym (seeing-torn _ _ c.if-passed-whole.false (omega (arith, c.if-whole-n.false, c.if-whole-passed.false)))
