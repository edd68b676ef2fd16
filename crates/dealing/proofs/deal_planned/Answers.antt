-- `dealing::deal_planned` meets its contract: a refusal of the checks is kept, and else what writing the card answers is answered.
-- Assumes nothing.
use Prim.Native.Nat.{ℕ, ◌*◌}
use mathlib.Core.Path.{sym, ap, ◌∙◌}
use mathlib.Core.List.{List, [], ◌∷◌}
use lib.ListN.{length}
use Rattle.answer.specs.Outcome.{outcome, checked, done}
use Rattle.answer.specs.Checks.{Line}
use Rattle.answer.specs.Lent.{no_room}
use Rattle.answer.proofs.CheckLaws.{stops, goes_on, done-passed}
use Rattle.answer.proofs.PassedOn.{passed_on}
use Rattle.dealing.specs.Inner.{held_in}
use Rattle.dealing.proofs.InputLaws.{lines_ready}
use Rattle.dealing.proofs.deal_planned.Goals as goal

-- ROOM, for so many blocks
abbrev last : ℕ → ℕ → List Line
last blocks room = no_room (512 * blocks) blocks room ∷ []

pub returns-in_err-check_inputs-clause-says : goal.returns-in_err-check_inputs-clause-says
returns-in_err-check_inputs-clause-says c =
    let blocks : ℕ = length (held_in c.args.rows.now c.args.holder c.args.k) in
    ap outcome (passed_on c.from_residual.ensures.1)
    ∙ stops _ c.check_inputs.ensures (last blocks (length c.args.out.now)) (done blocks) c.in_err-check_inputs.was

pub write_card-requires : goal.write_card-requires
write_card-requires c =
    lines_ready c.requires.0 c.requires.1 c.requires.2
    (done-passed _ (done 0) _ (sym c.check_inputs.ensures ∙ ap checked c.in_ok-check_inputs.was)).0

pub returns-clause-says : goal.returns-clause-says
returns-clause-says c =
    let blocks : ℕ = length (held_in c.args.rows.now c.args.holder c.args.k) in
    c.write_card.ensures.says
    ∙ sym (goes_on _ c.check_inputs.ensures (last blocks (length c.args.out.now)) (done blocks) c.in_ok-check_inputs.was)
