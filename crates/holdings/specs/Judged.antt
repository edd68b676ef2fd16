-- What judging a holding list answers: planning's refusals, then 30 ROWS; else that the list suits the policy, or the lowest group for which
-- it does not and on which side it fails there. Assumes nothing.
use Rattle.std.specs.Prelude.{Result, Bool, true, false, not, ◌||◌, List, [], ◌∷◌, ◌++◌, ℕ, zero, suc, ◌*◌, ◌^◌, eqb, ltb, length}
use Rattle.lists.specs.Places.{first_in, first_place, found, outside}
use Rattle.answer.specs.declared.Refusal.{Refusal}
use Rattle.answer.specs.declared.Kind.TheVariants.{Rows}
use Rattle.answer.specs.Outcome.{Outcome, done, outcome_by}
use Rattle.answer.specs.Checks.{Line, line, first_fail}
use Rattle.planning.specs.Groups.{authorised}
use Rattle.planning.specs.Policy.{Policy}
use Rattle.planning.specs.Planned.{plan_lines}
use Rattle.holdings.specs.declared.list.Verdict.{Verdict as Told}
use Rattle.holdings.specs.declared.list.Verdict.TheVariants.{Suits, Few, Many}
use Rattle.holdings.specs.Holdings.{Holdings, have}

-- a list is out of order for n people: it is for other people, has no pieces or over 70, needs none or more than there are, has more or
-- fewer marks than a row for each person comes to, or a mark above 1
unfoldable pub wrong_rows : ℕ → Holdings → Bool
wrong_rows n l =
    not (eqb l.people n) || (outside 70 l.pieces || (outside l.pieces l.needed
    || (not (eqb (length l.marks) (n * l.pieces)) || found (first_place (ltb 1) l.marks))))

-- 30 ROWS: the list is out of order; whatever the ground, both places are 0
unfoldable pub bad_rows : ℕ → Holdings → Line
bad_rows n l = line Rows (wrong_rows n l) 0 0

-- on which side a list fails for a group that is authorised or not, and has fewer pieces than are needed or not: 1 where an authorised
-- group has too few, 2 where an unauthorised one has enough, 0 where the list is right
abbrev pub way_by : Bool → Bool → ℕ
way_by true true = 1
way_by true false = 0
way_by false true = 0
way_by false false = 2

unfoldable pub way : List ℕ → Holdings → ℕ → ℕ
way required l g = way_by (authorised required g) (ltb (have l g) l.needed)

-- the lowest group of n people for which a list fails, or 0: the empty group, number 0, is never wrong (EmptyRight)
unfoldable pub wrong_group : ℕ → List ℕ → Holdings → ℕ
wrong_group n required l = first_in (λ g. found (way required l g)) 1 (2 ^ n)

-- what is said of a list in order: it suits; or this authorised group has too few pieces; or this unauthorised group has enough of them
pub data Verdict : Type 0 where
  suits : Verdict
  too_few : ℕ → Verdict
  too_many : ℕ → Verdict

-- the verdict where g is the first wrong group, 0 for none, and it has too few pieces or not
abbrev pub verdict_of : ℕ → Bool → Verdict
verdict_of zero short = suits
verdict_of (suc g) true = too_few (suc g)
verdict_of (suc g) false = too_many (suc g)

unfoldable pub verdict : ℕ → List ℕ → Holdings → Verdict
verdict n required l = verdict_of (wrong_group n required l) (eqb (way required l (wrong_group n required l)) 1)

-- planning's lines, and ROWS behind them
unfoldable pub judge_lines : Policy → Holdings → List Line
judge_lines p l = plan_lines p ++ bad_rows p.people l ∷ []

-- what judging answers
unfoldable pub judging : Policy → Holdings → Outcome Verdict
judging p l = first_fail (judge_lines p l) (done (verdict p.people p.required l))

-- a verdict as the code holds it
abbrev pub told : Told → Verdict
told Suits = suits
told (Few g) = too_few g
told (Many g) = too_many g

-- what an answer says
abbrev pub judged : Result Told Refusal → Outcome Verdict
judged = outcome_by told
