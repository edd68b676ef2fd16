-- `desk::calls::handed` meets its contract: the checks speak, and a result keeps the piece.
-- Assumes nothing.
use native.Mathlib.Omega.{arith}
use mathlib.Core.Path.{◌≡◌, sym, ap, ◌∙◌}
use mathlib.Core.List.{List}
use Prim.Native.Nat.{ℕ}
use native.Mathlib.Nat.{le_of_eq}
use Rattle.std.specs.Prelude.{⊤, Result, Ok}
use Rattle.answer.specs.declared.Refusal.{Refusal}
use Rattle.answer.specs.Outcome.{outcome, checked, done}
use Rattle.answer.proofs.PassedOn.{passed_on}
use Rattle.answer.proofs.SaysLaws.{said}
use Rattle.desk.specs.declared.Opening.{Opening}
use Rattle.desk.specs.Opens.{words_in}
use Rattle.desk.specs.Slots.{start, over_at, kept, distinct}
use Rattle.desk.specs.Lines.{hand_lines, hand_slots, hand_says}
use Rattle.desk.proofs.WordLaws.{ranged, small_of}
use Rattle.desk.proofs.SaysLaws.{Front, front-piece, hand_passed}
use Rattle.desk.proofs.ChainLaws.{hand_stops, hand_goes}
use Rattle.desk.proofs.NextLaws.{by_done, by_refused}
use Rattle.desk.proofs.calls.handed.Goals as goal

-- what is known past the checks
front : (slots : List ℕ) (o : Opening) (c : ℕ) (b : List ℕ) {x : Result ⊤ Refusal} {u : ⊤} → checked x ≡ said (hand_lines slots o c b) → x ≡ Ok u → Front o c b
front slots o c b e q = (hand_passed slots o c b _ (hand_goes slots o c b e q)).front

pub returns-in_err-check_hand : goal.returns-in_err-check_hand
returns-in_err-check_hand c =
    let g = c.args in
    let o = words_in g.both.now g.client in
    let e = sym (ap (λ (x : Opening). hand_says g.slots.now x g.client g.block.now) c.words_of-o.ensures)
    ∙ hand_stops g.slots.now c.words_of-o.result g.client g.block.now c.check_hand.ensures c.in_err-check_hand.was in
    (ap outcome (passed_on c.from_residual.ensures.1) ∙ sym e, sym (by_refused (hand_says g.slots.now o g.client g.block.now) (hand_slots g.slots.now o g.client g.block.now) g.slots.now _ _ _ e))

pub word-requires : goal.word-requires
word-requires c =
    let g = c.args in
    let f = front g.slots.now c.words_of-o.result g.client g.block.now c.check_hand.ensures c.in_ok-check_hand.was in
    (omega arith, omega (arith, f.long))

pub start-at-requires : goal.start-at-requires
start-at-requires c =
    let g = c.args in
    let f = front g.slots.now c.words_of-o.result g.client g.block.now c.check_hand.ensures c.in_ok-check_hand.was in
    let o = c.words_of-o.result in
    let r = front-piece o g.client g.block.now f in
    (omega (arith, c.word.ensures, r.0), omega (arith, c.word.ensures, r.1, (ranged o f.opened).pieces.1))

pub put_piece-requires : goal.put_piece-requires
put_piece-requires c =
    let g = c.args in
    let f = front g.slots.now c.words_of-o.result g.client g.block.now c.check_hand.ensures c.in_ok-check_hand.was in
    record { slot = record { begins = c.start-at.ensures.1; values = (ranged c.words_of-o.result f.opened).width.1 }; in_bounds = le_of_eq (sym f.long) }

pub distinct-n-requires : goal.distinct-n-requires
distinct-n-requires c =
    let g = c.args in
    let f = front g.slots.now c.words_of-o.result g.client g.block.now c.check_hand.ensures c.in_ok-check_hand.was in
    small_of c.words_of-o.result f.opened

pub returns : goal.returns
unfolding hand_slots
returns c =
    let g = c.args in
    let o = c.words_of-o.result in
    let b = g.block.now in
    let slots = c.put_piece.ensures
    ∙ ap (λ (x : ℕ). over_at x (kept b o.width) g.slots.now) (c.start-at.ensures.0 ∙ ap (start g.client) c.word.ensures) in
    let n = c.distinct-n.ensures.0 ∙ ap (λ (l : List ℕ). distinct l o g.client) slots in
    let says = ap done n ∙ sym (hand_goes g.slots.now o g.client b c.check_hand.ensures c.in_ok-check_hand.was) ∙ ap (λ (x : Opening). hand_says g.slots.now x g.client b) c.words_of-o.ensures in (
      says,
      slots ∙ ap (λ (x : Opening). hand_slots g.slots.now x g.client b) c.words_of-o.ensures
          ∙ sym (by_done (hand_says g.slots.now (words_in g.both.now g.client) g.client b) (hand_slots g.slots.now (words_in g.both.now g.client) g.client b) g.slots.now _ (sym says)),
    )
