-- `desk::checks::check_front` meets its contract: a callee that refuses speaks, and else the lines after its own.
-- Assumes nothing.
use mathlib.Core.Path.{◌≡◌, sym, ap, ◌∙◌}
use Prim.Native.Nat.{ℕ}
use mathlib.Core.List.{List, [], ◌∷◌, ◌++◌}
use native.Mathlib.Nat.{le_of_eq}
use Rattle.std.specs.Prelude.{⊤, Result, Ok}
use Rattle.answer.specs.declared.Refusal.{Refusal}
use Rattle.answer.specs.Outcome.{checked, done}
use Rattle.answer.specs.Checks.{Line}
use Rattle.answer.proofs.PassedOn.{passed_on}
use Rattle.answer.proofs.SaysLaws.{said}
use Rattle.answer.proofs.CheckLaws.{done-passed, stops, goes_on}
use Rattle.block.specs.Open.{one_lines}
use Rattle.block.proofs.OpenLaws.{one_true}
use Rattle.desk.specs.declared.Opening.{Opening}
use Rattle.desk.specs.Opens.{alike}
use Rattle.desk.specs.Lines.{other_deal, front_lines, close_lines}
use Rattle.desk.proofs.WordLaws.{same_alike}
use Rattle.desk.proofs.ChainLaws.{is-mixed, not_mixed}
use Rattle.desk.proofs.checks.check_front.Goals as goal

-- the lines after CLOSED
abbrev mixed : Opening → List ℕ → List Line
mixed o b = other_deal o b ∷ []

abbrev from_torn : Opening → List ℕ → List Line
from_torn o b = one_lines b 1 ++ mixed o b

module _ (o : Opening) (c : ℕ) (b : List ℕ) where
  -- what is answered, where these lines are left
  abbrev Left : List Line → Type 0
  Left ls = said (front_lines o c b) ≡ said ls

  left1 : {x : Result ⊤ Refusal} {u : ⊤} → checked x ≡ said (close_lines o c) → x ≡ Ok u → Left (from_torn o b)
  unfolding front_lines close_lines
  left1 e q = goes_on (close_lines o c) e (from_torn o b) (done 0) q

  left2 : {x : Result ⊤ Refusal} {u : ⊤} → Left (from_torn o b) → checked x ≡ said (one_lines b 1) → x ≡ Ok u → Left (mixed o b)
  left2 l e q = l ∙ goes_on (one_lines b 1) e (mixed o b) (done 0) q

pub returns-in_err-check_open : goal.returns-in_err-check_open
unfolding front_lines close_lines
returns-in_err-check_open c =
    let g = c.args in
    ap checked (passed_on c.from_residual.ensures.1) ∙ stops (close_lines g.o g.client) c.check_open.ensures (from_torn g.o g.block.now) (done 0) c.in_err-check_open.was

pub returns-in_err-check_one : goal.returns-in_err-check_one
returns-in_err-check_one c =
    let g = c.args in
    let l1 = left1 g.o g.client g.block.now c.check_open.ensures c.in_ok-check_open.was in
    ap checked (passed_on c.from_residual-in_err-check_one.ensures.1)
    ∙ stops (one_lines g.block.now 1) c.check_one.ensures (mixed g.o g.block.now) (done 0) c.in_err-check_one.was ∙ sym l1

pub opening_of-new-requires : goal.opening_of-new-requires
opening_of-new-requires c =
    le_of_eq (sym (one_true c.args.block.now 1 (done-passed (one_lines c.args.block.now 1) (done 0) _ (sym c.check_one.ensures ∙ ap checked c.in_ok-check_one.was)).0).0)

pub returns-then-eq : goal.returns-then-eq
returns-then-eq c =
    let g = c.args in
    let l1 = left1 g.o g.client g.block.now c.check_open.ensures c.in_ok-check_open.was in
    let l2 = left2 g.o g.client g.block.now l1 c.check_one.ensures c.in_ok-check_one.was in
    let alike_is = ap (λ (x : Opening). alike x g.o) (sym c.opening_of-new.ensures) ∙ sym (same_alike c.opening_of-new.result g.o c.eq.ensures) in
    not_mixed g.o g.block.now (alike_is ∙ c.if-eq.true) ∙ sym l2

pub returns : goal.returns
returns c =
    let g = c.args in
    let l1 = left1 g.o g.client g.block.now c.check_open.ensures c.in_ok-check_open.was in
    let l2 = left2 g.o g.client g.block.now l1 c.check_one.ensures c.in_ok-check_one.was in
    let alike_is = ap (λ (x : Opening). alike x g.o) (sym c.opening_of-new.ensures) ∙ sym (same_alike c.opening_of-new.result g.o c.eq.ensures) in
    ap checked c.refuse.ensures ∙ is-mixed g.o g.block.now (alike_is ∙ c.if-eq.false) ∙ sym l2
