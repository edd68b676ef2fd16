-- Demand 1 for the judging of holding lists (SCOPE 2.1, 10.1). What the answers mean is in holdings/specs/Laws.
-- Assumes nothing.
use Rattle.std.specs.Prelude.{◌≡◌, [], ◌∷◌, ◌++◌}
use Rattle.planning.specs.Policy.{Policy}
use Rattle.planning.specs.Planned.{plan_lines}
use Rattle.holdings.specs.Holdings.{Holdings}
use Rattle.holdings.specs.Judged.{bad_rows, verdict, judge_lines, judging}
use Rattle.demands.specs.Demand1.{Ends, Refuses, NotSeven}

-- ---- in its verdict or in a refusal, by the order of SCOPE 6.3, with no other refusal. Nothing is lent that could be written to.
abbrev pub JudgeEnds : Type 0
JudgeEnds = (p : Policy) (l : Holdings)
    → Ends (judge_lines p l) (verdict p.people p.required l) (judging p l) × Refuses (judge_lines p l) (judging p l) × NotSeven (judging p l)

-- Judging looks at what planning does (PlanOrder), and then at the list.
abbrev pub JudgeOrder : Type 0
JudgeOrder = (p : Policy) (l : Holdings) → judge_lines p l ≡ plan_lines p ++ bad_rows p.people l ∷ []
