-- `joined_line::joined_line` meets its contract: the secret of a pile that joins, or its refusal. Assumes nothing.
use mathlib.Core.Path.{sym, subst}
use mathlib.Core.List.{List}
use Prim.Native.Nat.{ℕ}
use Rattle.print.specs.Written.{Prints}
use Rattle.joined_line.specs.Joined.{program_joins}
use Rattle.joined_line.proofs.JoinedLaws.{words-fit, words-count, is-secret, is-refused}
use Rattle.joined_line.proofs.joined_line.Goals as goal

pub slice_bounds-words-end : goal.slice_bounds-words-end
unfolding program_joins
slice_bounds-words-end c = words-fit c.args.pile.now c.in-Ok.w _ (sym c.in-Ok.ensures.says) c.join_pile.ensures.leaves

pub slice_bounds-secret_line-end : goal.slice_bounds-secret_line-end
unfolding program_joins
slice_bounds-secret_line-end c = words-count c.args.pile.now c.in-Ok.w _ (sym c.in-Ok.ensures.says) c.join_pile.ensures.leaves

pub returns-in-Ok : goal.returns-in-Ok
unfolding program_joins
returns-in-Ok c =
    subst (λ (l : List ℕ). Prints l c.args.out.now c.secret_line.new.out c.secret_line.result)
    (is-secret c.args.pile.now c.in-Ok.w _ (sym c.in-Ok.ensures.says) c.join_pile.ensures.leaves) c.secret_line.ensures

pub returns-in-Err : goal.returns-in-Err
unfolding program_joins
returns-in-Err c =
    subst (λ (l : List ℕ). Prints l c.args.out.now c.refused_line.new.out c.refused_line.result)
    (is-refused c.args.pile.now _ _ _ (sym c.in-Err.ensures.says)) c.refused_line.ensures
