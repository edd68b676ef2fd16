-- `joined_line::join_pile` meets its contract: LONG, or what joining says. Assumes nothing.
use mathlib.Core.Path.{sym, ap, ◌∙◌}
use native.Mathlib.Omega.{arith}
use Prim.Native.Nat.{ℕ}
use lib.ListN.{length}
use Rattle.answer.specs.Lent.{left}
use Rattle.answer.specs.Outcome.{Outcome, outcome}
use Rattle.joining.specs.Joined.{joining, joined_into}
use Rattle.joining.specs.Secret.{secret}
use Rattle.joined_line.proofs.JoinedLaws.{is-long, not-long}
use Rattle.joined_line.proofs.join_pile.Goals as goal

pub returns-then-pile-gt65536-clause-says : goal.returns-then-pile-gt65536-clause-says
returns-then-pile-gt65536-clause-says c =
    ap outcome c.refuse.ensures ∙ sym (is-long c.args.pile.now (joining c.args.pile.now (length c.args.words.now)) (omega arith))

pub returns-then-pile-gt65536-clause-leaves : goal.returns-then-pile-gt65536-clause-leaves
returns-then-pile-gt65536-clause-leaves c =
    let pile = c.args.pile.now in
    let words = c.args.words.now in
    sym (ap (λ (o : Outcome ℕ). left o (secret pile) words) (is-long pile (joining pile (length words)) (omega arith)))

pub returns-clause-says : goal.returns-clause-says
returns-clause-says c = c.join.ensures.says ∙ sym (not-long c.args.pile.now _ (omega arith))

pub returns-clause-leaves : goal.returns-clause-leaves
unfolding joined_into
returns-clause-leaves c =
    let pile = c.args.pile.now in
    let words = c.args.words.now in
    c.join.ensures.leaves ∙ sym (ap (λ (o : Outcome ℕ). left o (secret pile) words) (not-long pile (joining pile (length words)) (omega arith)))
