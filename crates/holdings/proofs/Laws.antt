-- This room's laws, proved: each by its name in specs/Laws.antt. Assumes nothing.
use mathlib.Core.Path.{sym, ◌∙◌}
use Rattle.answer.proofs.CheckLaws.{never_both}
use Rattle.holdings.specs.Laws as law
use Rattle.holdings.proofs.HaveLaws as having
use Rattle.holdings.proofs.RowLaws as rows
use Rattle.holdings.proofs.VerdictLaws as verdict
use Rattle.holdings.proofs.JudgedLaws as judged
use Rattle.holdings.proofs.OwnLaws as ours
use Rattle.holdings.proofs.FewestLaws as least
use Rattle.holdings.proofs.OneLaws as one

pub has-means : law.HasMeans
has-means = having.has-means

pub rows_exactly : law.RowsExactly
rows_exactly = rows.rows_exactly

pub judge_as_planned : law.JudgeAsPlanned
judge_as_planned = verdict.as_planned

pub judge_rows : law.JudgeRows
judge_rows p l k e = (
  (λ r h. never_both (sym (verdict.then_verdict p l e ((rows.rows_exactly p.people l).1 h)) ∙ r)),
  (λ h. verdict.rows_refuse p l e (rows.not_order p.people l h)),
)

pub suits_exactly : law.SuitsExactly
suits_exactly = judged.suits_exactly

pub first_wrong_lem : law.FirstWrong
first_wrong_lem = judged.first_wrong_lem

pub empty_right : law.EmptyRight
empty_right = judged.empty_right

pub own-suits : law.OwnSuits
own-suits = ours.own-suits

pub own-marks : law.OwnMarks
own-marks = ours.own-marks

pub fewest : law.Fewest
fewest = least.fewest

pub fewest_judged : law.FewestJudged
fewest_judged = least.fewest_judged

pub judged_one : law.JudgedOne
judged_one = one.judged_one
