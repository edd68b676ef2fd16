-- What joins is read to its end: its blocks are true and whole, which is all that the reader asks. Assumes nothing.
use mathlib.Core.Path.{ap, ◌∙◌}
use mathlib.Core.List.{List}
use Prim.Native.Nat.{ℕ}
use Rattle.answer.specs.Outcome.{Outcome}
use Rattle.answer.proofs.CheckLaws.{passed-done, passed_both, passed_one, passed_none}
use Rattle.lists.proofs.FirstLaws.{found_none}
use Rattle.block.proofs.Laws.{true_opens}
use Rattle.pile.specs.Blocks.{rest_from}
use Rattle.pile.specs.Lines.{every_block}
use Rattle.pile.proofs.LineLaws.{true_blocks}
use Rattle.joining.proofs.Laws.{then_joins}
use Rattle.reader.specs.Seeing.{told, counted, reading}
use Rattle.reader.proofs.Laws.{from_front, past_blocks}
use Rattle.demands.specs.Reader as law

pub joined_read : law.JoinedRead
unfolding reading
joined_read pile room w e =
    let t = (then_joins pile room w e).sound in (
      λ a l h. from_front pile a l h
          ∙ ap (λ (o : Outcome (List ℕ)). told (counted a o)) (true_opens (rest_from pile a) (t.blocks_true.block a l h)),
      λ c h. (past_blocks pile c h).1 t.whole,
      passed-done _ _ (passed_both (every_block pile) (true_blocks pile t.blocks_true) (passed_one (found_none t.whole) passed_none)),
    )
