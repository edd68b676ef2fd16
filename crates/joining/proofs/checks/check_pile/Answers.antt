-- `joining::checks::check_pile` meets its contract: at each return the lines before have passed.
-- Assumes nothing.
use mathlib.Core.Path.{◌≡◌, sym, ap, ◌∙◌}
use mathlib.Core.List.{List, ◌∷◌, ◌++◌}
use Prim.Native.Nat.{ℕ, ◌/◌, ◌%◌, ◌≤◌}
use lib.ListN.{length}
use native.Mathlib.Omega.{arith}
use borrow.Author.Tests.{lt-ltb, le-ltb}
use Rattle.std.specs.Prelude.{⊤, Result, Ok}
use Rattle.answer.specs.declared.Refusal.{Refusal}
use Rattle.answer.specs.Outcome.{checked, done}
use Rattle.answer.proofs.CheckLaws.{done-passed}
use Rattle.answer.proofs.PassedOn.{passed_on}
use Rattle.answer.proofs.SaysLaws.{said, Says, whole, passes, speaks, part_speaks, part_passes}
use Rattle.lists.proofs.FirstLaws.{found_some, found_none}
use Rattle.pile.specs.Blocks.{blocks}
use Rattle.pile.specs.Lines.{long_pile, every_block}
use Rattle.pile.proofs.LineLaws.{blocks_true}
use Rattle.joining.specs.Checks.{whole_lines, pile_lines}
use Rattle.joining.proofs.ShortLaws.{none-short}
use Rattle.joining.proofs.checks.check_pile.Goals as goal

-- past TORN, LONG and those of the blocks, these lines are left
module _ (p : List ℕ) (e : length p % 512 ≡ 0) where
  left1 : Says (said (pile_lines p)) (long_pile p ∷ every_block p ++ whole_lines p)
  unfolding pile_lines
  left1 = passes (whole _) (found_none e)

  module _ (h : length p / 512 ≤ 560) where
    left2 : Says (said (pile_lines p)) (every_block p ++ whole_lines p)
    unfolding blocks
    left2 = passes left1 (le-ltb 560 _ h)

    left3 : {x : Result ⊤ Refusal} {u : ⊤} → checked x ≡ said (every_block p) → x ≡ Ok u → Says (said (pile_lines p)) (whole_lines p)
    left3 s q = part_passes (every_block p) (whole_lines p) left2 s q

pub returns-then-pile-ne0 : goal.returns-then-pile-ne0
unfolding pile_lines
returns-then-pile-ne0 c =
    record {
      says = ap checked c.refuse.ensures ∙ speaks (whole _) (found_some c.if-pile-ne0.true);
      table = rw c.refuse.ensures tt;
    }

pub returns-then-pile-gt560 : goal.returns-then-pile-gt560
unfolding blocks
returns-then-pile-gt560 c =
    let e = c.refuse-then-pile-gt560.ensures in
    record {
      says = ap checked e ∙ speaks (left1 c.args.pile.now c.if-pile-ne0.false) (lt-ltb 560 (length c.args.pile.now / 512) (omega arith));
      table = rw e tt;
    }

pub returns-in_err-check_blocks : goal.returns-in_err-check_blocks
returns-in_err-check_blocks c =
    let p = c.args.pile.now in
    let left = left2 p c.if-pile-ne0.false (omega arith) in
    let e = passed_on c.from_residual.ensures.1 in
    record { says = ap checked e ∙ part_speaks (every_block p) _ left c.check_blocks.ensures c.in_err-check_blocks.was; table = rw e tt }

pub returns-then-pile-eq0 : goal.returns-then-pile-eq0
returns-then-pile-eq0 c =
    let e = c.refuse-then-pile-eq0.ensures in
    record { says = ap checked e ∙ sym (none-short c.args.pile.now (done 0) c.if-pile-eq0.true); table = rw e tt }

pub check_whole-requires : goal.check_whole-requires
unfolding blocks
check_whole-requires c =
    let p = c.args.pile.now in
    record {
      bound = (omega arith, omega arith);
      true_blocks = blocks_true p (done-passed (every_block p) (done 0) _ (sym c.check_blocks.ensures ∙ ap checked c.in_ok-check_blocks.was)).0;
      table_value = c.requires;
    }

pub returns : goal.returns
returns c =
    let left = left3 c.args.pile.now c.if-pile-ne0.false (omega arith) c.check_blocks.ensures c.in_ok-check_blocks.was in
    record { says = c.check_whole.ensures.says ∙ sym left.says; table = c.check_whole.ensures.table }
