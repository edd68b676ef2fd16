-- `block::reading::check_slots` meets its contract: what was scanned says which line speaks. Assumes nothing.
use mathlib.Core.Path.{sym, ap, ◌∙◌}
use Rattle.answer.specs.Outcome.{done, refused, checked}
use Rattle.block.proofs.ScanLaws.{scanned_dirty, scanned_sum}
use Rattle.block.proofs.OpenLaws.{slots_unread, slots_check, slots_end}
use Rattle.block.proofs.reading.check_slots.Goals as goal

pub returns-in-Err : goal.returns-in-Err
returns-in-Err c =
    let a = c.args in
    let h = scanned_dirty a.rest.now c.scan.ensures c.in-Err.is in
    ap checked c.refuse.ensures ∙ ap (refused 15 a.a) (sym h.1) ∙ sym (slots_unread a.rest.now a.a (done 0) h.0)

pub returns-then-sum-word : goal.returns-then-sum-word
returns-then-sum-word c =
    let a = c.args in
    let h = scanned_sum a.rest.now c.scan.ensures c.in-Ok.is in
    ap checked c.refuse-then-sum-word.ensures
    ∙ sym (slots_check a.rest.now a.a (done 0) h.0 (λ e. c.if-sum-word.true (sym h.1 ∙ e ∙ sym c.word.ensures)))

pub returns-else-sum-word : goal.returns-else-sum-word
returns-else-sum-word c =
    let a = c.args in
    let h = scanned_sum a.rest.now c.scan.ensures c.in-Ok.is in
    sym (slots_end a.rest.now a.a (done 0) h.0 (h.1 ∙ c.if-sum-word.false ∙ c.word.ensures))
