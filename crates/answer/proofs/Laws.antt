-- This room's laws, proved: each by its name in specs/Laws.antt. Assumes nothing.
use Rattle.answer.specs.Laws as law
use Rattle.answer.proofs.OneLaws as one
use Rattle.answer.proofs.CheckLaws as check
use Rattle.answer.proofs.WhichLaws as which
use Rattle.answer.proofs.LentLaws as lent

pub number_one : law.NumberOne
number_one = one.number_one

pub seven_vacant : law.SevenVacant
seven_vacant = one.seven_vacant

pub outcome_one : law.OutcomeOne
outcome_one = one.outcome_one

pub checked_one : law.CheckedOne
checked_one = one.checked_one

pub done-passed : law.DonePassed
done-passed A = check.done-passed

pub passed-done : law.PassedDone
passed-done A = check.passed-done

pub refused_by : law.RefusedBy
refused_by A = check.refused_by

pub refused-number : law.RefusedNumber
refused-number A = which.refused-number

pub refusal_keeps : law.RefusalKeeps
refusal_keeps A = lent.refusal_keeps

pub result_writes : law.ResultWrites
result_writes A = lent.result_writes
