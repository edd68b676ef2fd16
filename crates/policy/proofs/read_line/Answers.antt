-- `policy::read_line` meets its contract. Assumes nothing.
use Rattle.std.proofs.Common.{rules}
use mathlib.Core.Path.{◌≡◌, sym, ap, ◌∙◌}
use lib.ListN.{drop}
use Rattle.policy.specs.Policy.{need_word, bar_word, needs, bars, members}
use Rattle.policy.proofs.LinesLaws.{begins_is, says-need, says-bar, says_neither}
use Rattle.policy.proofs.read_line.Goals as goal

pub returns-in_err-names : goal.returns-in_err-names
returns-in_err-names c =
    let l = c.args.line.now in
    c.from_residual.ensures
    ∙ sym (says_neither l (begins_is need_word l ∙ c.in_default.ensures.cases) (begins_is bar_word l ∙ c.in_err-names.ensures.cases))

pub returns-in-Some : goal.returns-in-Some
returns-in-Some c =
    let l = c.args.line.now in
    let named : c.read_members.result ≡ members 48 0 (drop 4 l) = c.read_members.ensures ∙ ap (members 48 0) c.in-Some.ensures.cases.1 in
    let said : c.map.result ≡ needs c.read_members.result = search rules in
    said ∙ ap needs named ∙ sym (says-need l (begins_is need_word l ∙ c.in-Some.ensures.cases.0))

pub returns-in_ok-names : goal.returns-in_ok-names
returns-in_ok-names c =
    let l = c.args.line.now in
    let named : c.read_members-in_default.result ≡ members 48 0 (drop 3 l) = c.read_members-in_default.ensures ∙ ap (members 48 0) c.in_ok-names.ensures.cases.1 in
    let said : c.map-in_default.result ≡ bars c.read_members-in_default.result = search rules in
    said ∙ ap bars named ∙ sym (says-bar l (begins_is need_word l ∙ c.in_default.ensures.cases) (begins_is bar_word l ∙ c.in_ok-names.ensures.cases.0))
