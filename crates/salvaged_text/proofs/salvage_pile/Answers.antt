-- `salvaged_text::salvage_pile` meets its contract: LONG, or what salvage says. Assumes nothing.
use mathlib.Core.Path.{◌≡◌, sym, ap, ◌∙◌}
use native.Mathlib.Omega.{arith}
use Prim.Native.Nat.{ℕ}
use lib.ListN.{length}
use Rattle.answer.specs.Lent.{left}
use Rattle.answer.specs.Outcome.{Outcome, outcome}
use Rattle.block.specs.Open.{by_outcome}
use Rattle.salvage.specs.Pile.{mended_pile, rebuilt_words, places, salvaging, salvaged_pile, salvaged_list}
use Rattle.salvaged_text.specs.Salvaged.{program_salvages}
use Rattle.salvaged_text.proofs.ReportLaws.{is-long, not-long}
use Rattle.salvaged_text.proofs.salvage_pile.Goals as goal

pub returns-then-pile-gt65536-clause-says : goal.returns-then-pile-gt65536-clause-says
returns-then-pile-gt65536-clause-says c = ap outcome c.refuse.ensures ∙ sym (is-long c.args.pile.now (omega arith))

pub returns-then-pile-gt65536-clause-mends : goal.returns-then-pile-gt65536-clause-mends
returns-then-pile-gt65536-clause-mends c =
    let pile = c.args.pile.now in
    sym (ap (λ (o : Outcome ℕ). by_outcome o (mended_pile pile) pile) (is-long pile (omega arith)))

pub returns-then-pile-gt65536-clause-lists : goal.returns-then-pile-gt65536-clause-lists
returns-then-pile-gt65536-clause-lists c =
    let pile = c.args.pile.now in
    sym (ap (λ (o : Outcome ℕ). left o (places (rebuilt_words pile)) c.args.list.now) (is-long pile (omega arith)))

pub returns-clause-says : goal.returns-clause-says
returns-clause-says c =
    c.salvage.ensures.says ∙ ap (salvaging c.args.pile.now) c.told-list ∙ sym (not-long c.args.pile.now (omega arith))

pub returns-clause-mends : goal.returns-clause-mends
unfolding salvaged_pile
returns-clause-mends c =
    let pile = c.args.pile.now in
    c.salvage.ensures.mends ∙ ap (salvaged_pile pile) c.told-list
    ∙ sym (ap (λ (o : Outcome ℕ). by_outcome o (mended_pile pile) pile) (not-long pile (omega arith)))

pub returns-clause-lists : goal.returns-clause-lists
unfolding salvaged_list
returns-clause-lists c =
    let pile = c.args.pile.now in
    let says : salvaging pile (length c.args.list.now) ≡ program_salvages pile =
    ap (salvaging pile) c.told-list ∙ sym (not-long pile (omega arith))
    in
    c.salvage.ensures.lists ∙ ap (λ (o : Outcome ℕ). left o (places (rebuilt_words pile)) c.args.list.now) says
