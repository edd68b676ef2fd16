-- The laws that this room owes; their proofs are in proofs/Laws.antt.
-- Assumes nothing.
use Rattle.std.specs.Prelude.{◌≡◌, List, ℕ}
use Rattle.answer.specs.Outcome.{done, refused}
use Rattle.planning.specs.Policy.{Policy}
use Rattle.planning.specs.Planned.{planned}
use Rattle.print.specs.Lines.{refused_line}
use Rattle.policy.specs.Policy.{read_policy}
use Rattle.listing.specs.Listing.{listed}

-- TEXT speaks before planning's refusals: for a text that is not read, the line of that refusal is printed, whatever sets its lines name.
abbrev pub TextFirst : Type 0
TextFirst = (text : List ℕ) (m a b : ℕ) → read_policy text ≡ refused m a b → listed text ≡ refused_line m a b

-- For a text that is read to a policy that planning refuses, the line of planning's refusal is printed.
abbrev pub PlanningNext : Type 0
PlanningNext = (text : List ℕ) (p : Policy) (m a b : ℕ) → read_policy text ≡ done p → planned p ≡ refused m a b → listed text ≡ refused_line m a b
