-- `policy::read_policy` meets its contract: a text that is too long, the first line, the lines behind it.
-- Assumes nothing.
use Rattle.std.proofs.Common.{rules}
use Rattle.std.proofs.lemmas.List.Sorted.{answers_always}
use mathlib.Core.Path.{sym, ◌∙◌}
use native.Mathlib.Omega.{arith}
use Rattle.policy.proofs.BadLaws.{too_long_lem, first-bad}
use Rattle.policy.proofs.LinesLaws.{cut_next, cut_some}
use Rattle.policy.proofs.ReadingLaws.{First, first_read, refused_is, going_first, going_on, going_bad, going_done}
use Rattle.policy.proofs.read_policy.Goals as goal

pub returns-then-text-gt16384 : goal.returns-then-text-gt16384
returns-then-text-gt16384 c = refused_is (too_long_lem c.args.text.now c.if-text-gt16384.true) c.refuse.ensures

pub returns-in_default : goal.returns-in_default
returns-in_default c =
    let lines = c.split_inclusive-lines.result.rest.now in
    let rest = c.next.new.self.rest.now in
    let cut = cut_next _ _ _ lines rest c.next.result (answers_always _ _ _ (λ f a r g h. search rules)) c.next.ensures.steps in
    let first : First c.args.text.now rest c.and_then.result =
    rw c.split_inclusive-lines.ensures.rest at (first_read lines rest c.and_then.result c.next.result cut c.and_then.ensures)
    in
    refused_is (first-bad c.args.text.now c.if-text-gt16384.false (first.gives ∙ c.in_default.is)) c.refuse-in_default.ensures

pub loop-line-init : goal.loop-line-init
loop-line-init c =
    let lines = c.split_inclusive-lines.result.rest.now in
    let rest = c.next.new.self.rest.now in
    let cut = cut_next _ _ _ lines rest c.next.result (answers_always _ _ _ (λ f a r g h. search rules)) c.next.ensures.steps in
    let first : First c.args.text.now rest c.and_then.result =
    rw c.split_inclusive-lines.ensures.rest at (first_read lines rest c.and_then.result c.next.result cut c.and_then.ensures)
    in
    rw c.into_iter-line-iterator.ensures.into_iter_gives (going_first first c.in-Some.is c.no_sets.ensures c.no_sets-2.ensures)

pub returns-in_default-read_line : goal.returns-in_default-read_line
returns-in_default-read_line c =
    let l = c.loop-line in
    let rest = l.line-iterator.rest.now in
    let line = c.in-Some-line.line.now in
    let more = c.next-in-loop-line.new.self.rest.now in
    let cut = cut_some _ _ rest line more (answers_always _ _ _ (λ f a r g h. search rules)) c.in-Some-line.ensures.steps in
    refused_is (going_bad l.invariant line more cut (sym c.read_line.ensures ∙ c.in_default-read_line.is) c.if-text-gt16384.false)
    c.refuse-in_default-read_line.ensures

pub overflow_add-number : goal.overflow_add-number
overflow_add-number c = omega (arith, c.loop-line.invariant.numbered, c.if-text-gt16384.false)

pub loop-line-preserved : goal.loop-line-preserved
loop-line-preserved c =
    let l = c.loop-line in
    let rest = l.line-iterator.rest.now in
    let line = c.in-Some-line.line.now in
    let more = c.next-in-loop-line.new.self.rest.now in
    let cut = cut_some _ _ rest line more (answers_always _ _ _ (λ f a r g h. search rules)) c.in-Some-line.ensures.steps in
    going_on l.invariant line more cut c.in-Some-read_line.entry (sym c.read_line.ensures ∙ c.in-Some-read_line.is) c.add.ensures

pub returns : goal.returns
returns c = going_done c.loop-line.invariant c.in-None.ensures.steps.0 c.if-text-gt16384.false
