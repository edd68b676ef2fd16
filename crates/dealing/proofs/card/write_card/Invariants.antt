-- `dealing::card::write_card` meets its contract: the blocks of the first rows are laid over the front of what was lent.
-- Assumes nothing.
use Rattle.dealing.specs.Deal.{asked_of, block_for}
use Rattle.dealing.specs.Given.{deal_in}
use Rattle.dealing.proofs.CardLaws.{unmarked}
use Rattle.dealing.proofs.LaidLaws.{Laid}
use Rattle.dealing.proofs.card.write_card.Given as goal

abbrev pub invariant-loop-row : goal.invariant-loop-row
invariant-loop-row l =
    let d = deal_in l.deal in
    Laid (block_for (asked_of d l.holder) l.k d.secret d.random) (unmarked l.rows l.holder) l.k l.initial.out l.out l.at l.row
