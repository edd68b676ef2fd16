-- `bysets::deal_sets` meets its contract: a refusal of the checks is kept, and else what writing the card answers is answered.
-- Assumes nothing.
use Prim.Native.Nat.{ℕ, ◌*◌}
use mathlib.Core.Path.{◌≡◌, sym, ap, ◌∙◌}
use mathlib.Core.List.{List, [], ◌∷◌}
use lib.ListN.{length}
use Rattle.std.specs.Prelude.{⊤, Result}
use Rattle.answer.specs.declared.Refusal.{Refusal}
use Rattle.answer.specs.Outcome.{outcome, checked, done}
use Rattle.answer.specs.Checks.{Line, first_fail}
use Rattle.answer.specs.Lent.{no_room}
use Rattle.answer.proofs.CheckLaws.{stops, goes_on, done-passed}
use Rattle.answer.proofs.PassedOn.{passed_on}
use Rattle.minimal.specs.Minimal.{sets_with}
use Rattle.dealing.specs.Deal.{Deal, asked_of}
use Rattle.dealing.specs.Given.{deal_in}
use Rattle.dealing.specs.Dealt.{input_lines}
use Rattle.bysets.proofs.DealLaws.{sets_ready}
use Rattle.bysets.proofs.deal_sets.Goals as goal

-- ROOM, for so many blocks
abbrev last : ℕ → ℕ → List Line
last blocks room = no_room (512 * blocks) blocks room ∷ []

-- what the checks say, by the coefficients that were counted
by_count : (d : Deal) (holder : ℕ) (x : Result ⊤ Refusal) {each count : ℕ} → checked x ≡ first_fail (input_lines (asked_of d holder) each d.secret d.random) (done 0)
    → each ≡ count → checked x ≡ first_fail (input_lines (asked_of d holder) count d.secret d.random) (done 0)
by_count d holder x says e = says ∙ ap (λ (n : ℕ). first_fail (input_lines (asked_of d holder) n d.secret d.random) (done 0)) e

pub returns-in_err-check_inputs-clause-says : goal.returns-in_err-check_inputs-clause-says
returns-in_err-check_inputs-clause-says c =
    let checks = by_count (deal_in c.args.deal) c.args.holder c.check_inputs.result c.check_inputs.ensures c.coefficients-each.ensures.0 in
    let blocks : ℕ = length (sets_with c.args.sets.now c.args.holder (length c.args.sets.now)) in
    ap outcome (passed_on c.from_residual.ensures.1)
    ∙ stops _ checks (last blocks (length c.args.out.now)) (done blocks) c.in_err-check_inputs.was

pub write_card-requires : goal.write_card-requires
write_card-requires c =
    let checks = by_count (deal_in c.args.deal) c.args.holder c.check_inputs.result c.check_inputs.ensures c.coefficients-each.ensures.0 in
    sets_ready c.requires.people_bound c.requires.proper (done-passed _ (done 0) _ (sym checks ∙ ap checked c.in_ok-check_inputs.was)).0

pub returns-clause-says : goal.returns-clause-says
returns-clause-says c =
    let checks = by_count (deal_in c.args.deal) c.args.holder c.check_inputs.result c.check_inputs.ensures c.coefficients-each.ensures.0 in
    let blocks : ℕ = length (sets_with c.args.sets.now c.args.holder (length c.args.sets.now)) in
    c.write_card.ensures.says
    ∙ sym (goes_on _ checks (last blocks (length c.args.out.now)) (done blocks) c.in_ok-check_inputs.was)
