-- `adding::add` meets its contract: the checks answer, and past them the sum is written.
-- Assumes nothing.
use mathlib.Core.Path.{◌≡◌, sym, ap, ◌∙◌}
use mathlib.Core.List.{List}
use Prim.Native.Nat.{ℕ}
use lib.ListN.{length}
use Rattle.std.specs.Prelude.{⊤, Result, Ok, Err}
use Rattle.answer.specs.declared.Refusal.{Refusal}
use Rattle.answer.specs.Outcome.{outcome, checked, done, refused, number}
use Rattle.answer.proofs.SaysLaws.{said}
use Rattle.answer.proofs.CheckLaws.{same_refusal, done-passed, passed-done}
use Rattle.answer.proofs.PassedOn.{passed_on}
use Rattle.adding.specs.declared.Pair.{Pair}
use Rattle.adding.specs.Adding.{add_lines, adding}
use Rattle.adding.proofs.AddLaws.{addable}
use Rattle.adding.proofs.SumLaws.{sum_left, refusal_left}
use Rattle.adding.proofs.add.Goals as goal

-- what the checks answer, the call answers; and past them it has its result
module _ (one two : List ℕ) (new : Pair) (room : ℕ) {x : Result ⊤ Refusal} (says : checked x ≡ said (add_lines one two new room)) where
  stopped : {r : Refusal} → x ≡ Err r → adding one two new room ≡ refused (number r.kind) r.a r.b
  unfolding adding
  stopped {r} q = same_refusal (add_lines one two new room) 0 (done 1) (number r.kind) r.a r.b (sym says ∙ ap checked q)

  gone_on : {u : ⊤} → x ≡ Ok u → adding one two new room ≡ done 1
  unfolding adding
  gone_on q = passed-done (add_lines one two new room) (done 1) (done-passed (add_lines one two new room) (done 0) 0 (sym says ∙ ap checked q)).0

pub returns-in_err-check_add-clause-says : goal.returns-in_err-check_add-clause-says
returns-in_err-check_add-clause-says c =
    let a = c.args in
    ap outcome (passed_on c.from_residual.ensures.1) ∙ sym (stopped a.one.now a.two.now a.new (length a.out.now) c.check_add.ensures c.in_err-check_add.was)

pub returns-in_err-check_add-clause-leaves : goal.returns-in_err-check_add-clause-leaves
returns-in_err-check_add-clause-leaves c =
    let a = c.args in
    sym (refusal_left a.one.now a.two.now a.new a.out.now _ _ _ (stopped a.one.now a.two.now a.new (length a.out.now) c.check_add.ensures c.in_err-check_add.was))

pub write_sum-requires : goal.write_sum-requires
write_sum-requires c =
    let a = c.args in
    (addable a.one.now a.two.now a.new (length a.out.now) 1 (gone_on a.one.now a.two.now a.new (length a.out.now) c.check_add.ensures c.in_ok-check_add.was)).0

pub returns-clause-says : goal.returns-clause-says
returns-clause-says c =
    let a = c.args in
    sym (gone_on a.one.now a.two.now a.new (length a.out.now) c.check_add.ensures c.in_ok-check_add.was)

pub returns-clause-leaves : goal.returns-clause-leaves
returns-clause-leaves c =
    let a = c.args in
    c.write_sum.ensures
    ∙ sym (sum_left a.one.now a.two.now a.new a.out.now 1 (gone_on a.one.now a.two.now a.new (length a.out.now) c.check_add.ensures c.in_ok-check_add.was))
