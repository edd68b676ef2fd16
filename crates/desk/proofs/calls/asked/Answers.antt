-- `desk::calls::asked` meets its contract: the checks speak, and past them the secret is written.
-- Assumes nothing.
use mathlib.Core.Path.{sym, ap, ◌∙◌}
use lib.ListN.{length}
use Rattle.answer.specs.Outcome.{outcome}
use Rattle.answer.proofs.LentLaws.{result_writes, refusal_keeps}
use Rattle.answer.proofs.PassedOn.{passed_on}
use Rattle.desk.specs.declared.Opening.{Opening}
use Rattle.desk.specs.Slots.{secret_for}
use Rattle.desk.specs.Lines.{ask_says, ask_into}
use Rattle.desk.proofs.ChainLaws.{ask_stops, ask_goes, ask_passed}
use Rattle.desk.proofs.calls.asked.Goals as goal

pub returns-in_err-check_asking : goal.returns-in_err-check_asking
unfolding ask_into
returns-in_err-check_asking c =
    let g = c.args in
    let o = c.words_of-o.result in
    let x = ask_says g.slots.now o g.client (length g.out.now) in
    let e = ask_stops g.slots.now o g.client (length g.out.now) c.check_asking.ensures c.in_err-check_asking.was in (
      ap outcome (passed_on c.from_residual.ensures.1) ∙ sym e ∙ ap (λ (z : Opening). ask_says g.slots.now z g.client (length g.out.now)) c.words_of-o.ensures,
      sym (refusal_keeps x _ _ _ (secret_for g.slots.now o g.client) g.out.now e)
          ∙ ap (λ (z : Opening). ask_into g.slots.now z g.client g.out.now) c.words_of-o.ensures,
    )

pub write_secret-requires : goal.write_secret-requires
write_secret-requires c =
    let g = c.args in
    let o = c.words_of-o.result in
    let r = ask_passed g.slots.now o g.client (length g.out.now) _ (ask_goes g.slots.now o g.client (length g.out.now) c.check_asking.ensures c.in_ok-check_asking.was) in
    record { small = r.small; all_kept = r.kept; width_in_bounds = r.fits }

pub returns : goal.returns
unfolding ask_into
returns c =
    let g = c.args in
    let o = c.words_of-o.result in
    let x = ask_says g.slots.now o g.client (length g.out.now) in
    let e = ask_goes g.slots.now o g.client (length g.out.now) c.check_asking.ensures c.in_ok-check_asking.was in (
      sym e ∙ ap (λ (z : Opening). ask_says g.slots.now z g.client (length g.out.now)) c.words_of-o.ensures,
      c.write_secret.ensures
          ∙ sym (result_writes x _ (secret_for g.slots.now o g.client) g.out.now e)
          ∙ ap (λ (z : Opening). ask_into g.slots.now z g.client g.out.now) c.words_of-o.ensures,
    )
