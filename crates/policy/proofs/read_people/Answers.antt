-- `policy::read_people` meets its contract: the word, and one digit and the line feed behind it. Assumes nothing.
use mathlib.Core.Path.{◌≡◌, sym, ap, ◌∙◌}
use native.Mathlib.Omega.{arith}
use Rattle.std.specs.Prelude.{Some}
use Rattle.policy.specs.Policy.{people_word, one_digit, people_in}
use Rattle.policy.proofs.LinesLaws.{begins_is, not_people, people-there, not_two, digit_low, digit_high, no_feed, digit-there}
use Rattle.policy.proofs.read_people.Goals as goal

pub returns-in_err-strip_prefix : goal.returns-in_err-strip_prefix
returns-in_err-strip_prefix c =
    c.from_residual.ensures ∙ sym (not_people c.args.line.now (begins_is people_word c.args.line.now ∙ c.in_err-strip_prefix.ensures.cases))

pub returns-in-48-to-57 : goal.returns-in-48-to-57
returns-in-48-to-57 c =
    let w = begins_is people_word c.args.line.now ∙ c.in_ok-strip_prefix.ensures.cases.0 in
    let r = c.in_ok-strip_prefix.field-0.now in
    let e : people_in c.args.line.now ≡ one_digit r = people-there c.args.line.now w ∙ ap one_digit (sym c.in_ok-strip_prefix.ensures.cases.1) in
    ap Some c.from.ensures ∙ sym (e ∙ digit-there r (omega arith) (omega arith) (omega arith) (omega arith))

pub returns-in_default : goal.returns-in_default
returns-in_default c =
    let w = begins_is people_word c.args.line.now ∙ c.in_ok-strip_prefix.ensures.cases.0 in
    let r = c.in_ok-strip_prefix.field-0.now in
    let e : people_in c.args.line.now ≡ one_digit r = people-there c.args.line.now w ∙ ap one_digit (sym c.in_ok-strip_prefix.ensures.cases.1) in
    sym (e ∙ not_two r (λ n. omega arith))

pub returns-in_default-2 : goal.returns-in_default-2
returns-in_default-2 c =
    let w = begins_is people_word c.args.line.now ∙ c.in_ok-strip_prefix.ensures.cases.0 in
    let r = c.in_ok-strip_prefix.field-0.now in
    let e : people_in c.args.line.now ≡ one_digit r = people-there c.args.line.now w ∙ ap one_digit (sym c.in_ok-strip_prefix.ensures.cases.1) in
    sym (e ∙ digit_low r (omega arith))

pub returns-in_default-3 : goal.returns-in_default-3
returns-in_default-3 c =
    let w = begins_is people_word c.args.line.now ∙ c.in_ok-strip_prefix.ensures.cases.0 in
    let r = c.in_ok-strip_prefix.field-0.now in
    let e : people_in c.args.line.now ≡ one_digit r = people-there c.args.line.now w ∙ ap one_digit (sym c.in_ok-strip_prefix.ensures.cases.1) in
    sym (e ∙ no_feed r (omega arith) (omega arith) (λ n. omega arith))

pub returns-in_default-4 : goal.returns-in_default-4
returns-in_default-4 c =
    let w = begins_is people_word c.args.line.now ∙ c.in_ok-strip_prefix.ensures.cases.0 in
    let r = c.in_ok-strip_prefix.field-0.now in
    let e : people_in c.args.line.now ≡ one_digit r = people-there c.args.line.now w ∙ ap one_digit (sym c.in_ok-strip_prefix.ensures.cases.1) in
    sym (e ∙ digit_high r (omega arith))

pub returns-in_default-5 : goal.returns-in_default-5
returns-in_default-5 c =
    let w = begins_is people_word c.args.line.now ∙ c.in_ok-strip_prefix.ensures.cases.0 in
    let r = c.in_ok-strip_prefix.field-0.now in
    let e : people_in c.args.line.now ≡ one_digit r = people-there c.args.line.now w ∙ ap one_digit (sym c.in_ok-strip_prefix.ensures.cases.1) in
    sym (e ∙ not_two r (λ n. omega arith))
