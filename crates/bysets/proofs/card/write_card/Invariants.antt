-- `bysets::card::write_card` meets its contract: the blocks of the first sets are laid over the front of what was lent, and their parts of the
-- randomness are used. Assumes nothing.
use Prim.Native.Nat.{◌*◌}
use mathlib.Core.Path.{◌≡◌}
use lib.ListN.{length, take}
use Rattle.field.specs.Parts.{coefficients}
use Rattle.dealing.specs.Deal.{asked_of}
use Rattle.dealing.specs.Given.{deal_in}
use Rattle.dealing.proofs.LaidLaws.{Laid}
use Rattle.bysets.specs.Cards.{sizes, block_by}
use Rattle.bysets.proofs.SizeLaws.{has}
use Rattle.bysets.proofs.card.write_card.Given as goal

abbrev pub invariant-loop-i : goal.invariant-loop-i
invariant-loop-i l =
    let d = deal_in l.deal in
    Laid (block_by (asked_of d l.holder) l.sets d.secret d.random) (has l.sets l.holder) (length l.sets) l.initial.out l.out l.at l.i
    × (l.used ≡ length d.secret * coefficients (take l.i (sizes l.sets)))
