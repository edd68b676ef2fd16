-- `desk::checks::check_hand` meets its contract: the lines before CONFLICT, then CONFLICT by the slot of the piece.
-- Assumes nothing.
use native.Mathlib.Omega.{arith}
use mathlib.Core.Path.{◌≡◌, sym, ap, ◌∙◌}
use mathlib.Core.List.{List, [], ◌∷◌}
use Prim.Native.Nat.{ℕ}
use native.Mathlib.Nat.{le_of_eq}
use Rattle.std.specs.Prelude.{⊤, Result, Ok}
use Rattle.answer.specs.declared.Refusal.{Refusal}
use Rattle.answer.specs.Outcome.{checked, done}
use Rattle.answer.proofs.PassedOn.{passed_on}
use Rattle.answer.proofs.SaysLaws.{said}
use Rattle.answer.proofs.CheckLaws.{stops, goes_on}
use Rattle.desk.specs.declared.Opening.{Opening}
use Rattle.desk.specs.Slots.{start}
use Rattle.desk.specs.Lines.{other_values, front_lines, hand_lines}
use Rattle.desk.proofs.WordLaws.{ranged}
use Rattle.desk.proofs.SaysLaws.{front-piece}
use Rattle.desk.proofs.ChainLaws.{past_front, is-conflict, not_other, not_kept}
use Rattle.desk.proofs.checks.check_hand.Goals.{else-keeps-via-then-keeps+else-unlike, else-keeps-via-else-keeps}
use Rattle.desk.proofs.checks.check_hand.Goals as goal

-- past the lines before it, CONFLICT alone is left
past : (slots : List ℕ) (o : Opening) (c : ℕ) (b : List ℕ) {x : Result ⊤ Refusal} {u : ⊤}
    → checked x ≡ said (front_lines o c b) → x ≡ Ok u → said (hand_lines slots o c b) ≡ said (other_values slots o c b ∷ [])
unfolding hand_lines
past slots o c b e q = goes_on (front_lines o c b) e (other_values slots o c b ∷ []) (done 0) q

pub returns-in_err-check_front : goal.returns-in_err-check_front
unfolding hand_lines
returns-in_err-check_front c =
    let g = c.args in
    ap checked (passed_on c.from_residual.ensures.1)
    ∙ stops (front_lines g.o g.client g.block.now) c.check_front.ensures (other_values g.slots.now g.o g.client g.block.now ∷ []) (done 0) c.in_err-check_front.was

pub word-requires : goal.word-requires
word-requires c =
    let g = c.args in
    let f = past_front g.o g.client g.block.now c.check_front.ensures c.in_ok-check_front.was in
    (omega arith, omega (arith, f.long))

pub start-at-requires : goal.start-at-requires
start-at-requires c =
    let g = c.args in
    let f = past_front g.o g.client g.block.now c.check_front.ensures c.in_ok-check_front.was in
    let r = front-piece g.o g.client g.block.now f in
    (omega (arith, c.word.ensures, r.0), omega (arith, c.word.ensures, r.1, (ranged g.o f.opened).pieces.1))

pub keeps-requires : goal.keeps-requires
keeps-requires c =
    let g = c.args in
    let f = past_front g.o g.client g.block.now c.check_front.ensures c.in_ok-check_front.was in
    record { begins = c.start-at.ensures.1; values = (ranged g.o f.opened).width.1 }

pub unlike-requires : goal.unlike-requires
unlike-requires c =
    let g = c.args in
    let f = past_front g.o g.client g.block.now c.check_front.ensures c.in_ok-check_front.was in
    record { slot = record { begins = c.start-at.ensures.1; values = (ranged g.o f.opened).width.1 }; in_bounds = le_of_eq (sym f.long) }

pub returns-then-unlike : goal.returns-then-unlike
returns-then-unlike c =
    let g = c.args in
    let left = past g.slots.now g.o g.client g.block.now c.check_front.ensures c.in_ok-check_front.was in
    let at-is = c.start-at.ensures.0 ∙ ap (start g.client) c.word.ensures in
    ap checked c.refuse.ensures
    ∙ is-conflict g.slots.now g.o g.client g.block.now c.start-at.result at-is (sym c.keeps.ensures ∙ c.if-keeps.true) (sym c.unlike.ensures ∙ c.if-unlike.true)
    ∙ sym left

pub returns : goal.returns
returns c =
    let g = c.args in
    let left = past g.slots.now g.o g.client g.block.now c.check_front.ensures c.in_ok-check_front.was in
    let at-is = c.start-at.ensures.0 ∙ ap (start g.client) c.word.ensures in
    elim c.else-keeps.branch [
      | else-keeps-via-then-keeps+else-unlike w ↦ not_other g.slots.now g.o g.client g.block.now c.start-at.result at-is (sym w.unlike.ensures ∙ w.if-unlike.false) ∙ sym left
      | else-keeps-via-else-keeps w ↦ not_kept g.slots.now g.o g.client g.block.now c.start-at.result at-is (sym c.keeps.ensures ∙ w.if-keeps.false) ∙ sym left
    ]
