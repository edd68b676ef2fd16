-- The demands for judging, proved: each statement by its name in specs/Judging.antt. Assumes nothing.
use mathlib.Core.Path.{refl}
use Rattle.answer.proofs.WhichLaws.{refused-number, not_seven}
use Rattle.holdings.specs.Judged.{verdict, judge_lines, judging}
use Rattle.demands.specs.Judging as demand
use Rattle.demands.proofs.LineLaws.{ends}

pub judge_ends : demand.JudgeEnds
unfolding judging
judge_ends p l = (
  ends (judge_lines p l) (verdict p.people p.required l),
  refused-number (judge_lines p l) (verdict p.people p.required l),
  not_seven (judge_lines p l) (verdict p.people p.required l),
)

pub judge_order : demand.JudgeOrder
unfolding judge_lines
judge_order p l = refl
