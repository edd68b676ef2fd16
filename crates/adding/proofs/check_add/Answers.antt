-- `adding::check_add` meets its contract: each check's refusal stands, and past it the lines that are left speak.
-- Assumes nothing.
use mathlib.Core.Path.{◌≡◌, sym, ap, ◌∙◌}
use Prim.Native.Nat.{ℕ}
use mathlib.Core.List.{List, [], ◌∷◌, ◌++◌}
use Rattle.std.specs.Prelude.{⊤, Result, Ok}
use Rattle.answer.specs.declared.Refusal.{Refusal}
use Rattle.answer.specs.Outcome.{checked, done}
use Rattle.answer.specs.Checks.{Line}
use Rattle.answer.specs.Lent.{no_room}
use Rattle.answer.proofs.CheckLaws.{done-passed, stops, goes_on}
use Rattle.answer.proofs.LentLaws.{room-refused, room-given}
use Rattle.answer.proofs.PassedOn.{passed_on}
use Rattle.answer.proofs.SaysLaws.{said}
use Rattle.block.specs.Deals.{bad_number, bad_year}
use Rattle.block.specs.Open.{one_lines}
use Rattle.block.proofs.OpenLaws.{one_true}
use Rattle.adding.specs.declared.Pair.{Pair}
use Rattle.adding.specs.Adding.{unlike, repeated, add_lines}
use Rattle.adding.proofs.check_add.Goals as goal

-- the lines of the call after those of the blocks, and after those of both
abbrev both : List ℕ → List ℕ → Pair → List Line
both one two new = unlike one two ∷ bad_number new.number ∷ bad_year new.year ∷ repeated one two new ∷ []

abbrev last : ℕ → List Line
last room = no_room 512 1 room ∷ []

abbrev second : List ℕ → List ℕ → Pair → ℕ → List Line
second one two new room = one_lines two 2 ++ both one two new ++ last room

module _ (one two : List ℕ) (new : Pair) (room : ℕ) where
  -- what is answered, where these lines are left
  abbrev Left : List Line → Type 0
  Left ls = said (add_lines one two new room) ≡ said ls

  left1 : {x : Result ⊤ Refusal} {u : ⊤} → checked x ≡ said (one_lines one 1) → x ≡ Ok u → Left (second one two new room)
  unfolding add_lines
  left1 e q = goes_on (one_lines one 1) e (second one two new room) (done 0) q

  left2 : {x : Result ⊤ Refusal} {u : ⊤} → Left (second one two new room) → checked x ≡ said (one_lines two 2) → x ≡ Ok u → Left (both one two new ++ last room)
  left2 l e q = l ∙ goes_on (one_lines two 2) e (both one two new ++ last room) (done 0) q

  left3 : {x : Result ⊤ Refusal} {u : ⊤} → Left (both one two new ++ last room) → checked x ≡ said (both one two new) → x ≡ Ok u → Left (last room)
  left3 l e q = l ∙ goes_on (both one two new) e (last room) (done 0) q

pub returns-in_err-check_one : goal.returns-in_err-check_one
unfolding add_lines
returns-in_err-check_one c =
    let a = c.args in
    ap checked (passed_on c.from_residual.ensures.1)
    ∙ stops (one_lines a.one.now 1) c.check_one.ensures (second a.one.now a.two.now a.new a.room) (done 0) c.in_err-check_one.was

pub returns-in_err-check_one-2 : goal.returns-in_err-check_one-2
returns-in_err-check_one-2 c =
    let a = c.args in
    let l1 = left1 a.one.now a.two.now a.new a.room c.check_one.ensures c.in_ok-check_one.was in
    ap checked (passed_on c.from_residual-in_err-check_one-2.ensures.1)
    ∙ stops (one_lines a.two.now 2) c.check_one-2.ensures (both a.one.now a.two.now a.new ++ last a.room) (done 0) c.in_err-check_one-2.was ∙ sym l1

pub check_both-requires : goal.check_both-requires
check_both-requires c = (
  (one_true c.args.one.now 1 (done-passed (one_lines c.args.one.now 1) (done 0) _ (sym c.check_one.ensures ∙ ap checked c.in_ok-check_one.was)).0).0,
  (one_true c.args.two.now 2 (done-passed (one_lines c.args.two.now 2) (done 0) _ (sym c.check_one-2.ensures ∙ ap checked c.in_ok-check_one-2.was)).0).0,
)

pub returns-in_err-check_both : goal.returns-in_err-check_both
returns-in_err-check_both c =
    let a = c.args in
    let l1 = left1 a.one.now a.two.now a.new a.room c.check_one.ensures c.in_ok-check_one.was in
    let l2 = left2 a.one.now a.two.now a.new a.room l1 c.check_one-2.ensures c.in_ok-check_one-2.was in
    ap checked (passed_on c.from_residual-in_err-check_both.ensures.1)
    ∙ stops (both a.one.now a.two.now a.new) c.check_both.ensures (last a.room) (done 0) c.in_err-check_both.was ∙ sym l2

pub returns-then-room-lt512 : goal.returns-then-room-lt512
returns-then-room-lt512 c =
    let a = c.args in
    let l1 = left1 a.one.now a.two.now a.new a.room c.check_one.ensures c.in_ok-check_one.was in
    let l2 = left2 a.one.now a.two.now a.new a.room l1 c.check_one-2.ensures c.in_ok-check_one-2.was in
    let l3 = left3 a.one.now a.two.now a.new a.room l2 c.check_both.ensures c.in_ok-check_both.was in
    ap checked c.refuse.ensures ∙ sym (l3 ∙ room-refused 512 1 _ (done 0) c.if-room-lt512.true)

pub returns : goal.returns
returns c =
    let a = c.args in
    let l1 = left1 a.one.now a.two.now a.new a.room c.check_one.ensures c.in_ok-check_one.was in
    let l2 = left2 a.one.now a.two.now a.new a.room l1 c.check_one-2.ensures c.in_ok-check_one-2.was in
    let l3 = left3 a.one.now a.two.now a.new a.room l2 c.check_both.ensures c.in_ok-check_both.was in
    sym (l3 ∙ room-given 512 1 _ (done 0) c.if-room-lt512.false)
