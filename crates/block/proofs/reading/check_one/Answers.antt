-- `block::check_one` meets its contract: TORN speaks, or passes and leaves what UNREAD and CHECK said, then the first foreign word.
-- Assumes nothing.
use mathlib.Core.Path.{◌≡◌, sym, ap, ◌∙◌}
use mathlib.Core.List.{List, [], ◌∷◌, ◌++◌}
use Prim.Native.Nat.{ℕ}
use lib.ListN.{length}
use borrow.Author.Tests.{eq-eqb, ne_eqb}
use Rattle.std.specs.Prelude.{⊤, Result, Ok}
use Rattle.answer.specs.declared.Refusal.{Refusal}
use Rattle.answer.proofs.PassedOn.{passed_on}
use Rattle.answer.specs.Outcome.{checked, refused}
use Rattle.answer.proofs.SaysLaws.{Says, said, whole, passes, speaks, silent, part_speaks, part_passes}
use Rattle.lists.proofs.FirstLaws.{found_none, placed_some, placed_found, placed_none}
use Rattle.block.specs.Open.{slot_lines, foreign, one_lines}
use Rattle.block.proofs.reading.check_one.Goals as goal

-- past TORN, and past UNREAD and CHECK, these lines are left
past_torn : (b : List ℕ) (a : ℕ) → length b ≡ 512 → Says (said (one_lines b a)) (slot_lines b a ++ foreign b a ∷ [])
past_torn b a e = passes (whole (one_lines b a)) (rw (eq-eqb _ 512 e))

past_slots : (b : List ℕ) (a : ℕ) {x : Result ⊤ Refusal} {u : ⊤}
    → length b ≡ 512 → checked x ≡ said (slot_lines b a) → x ≡ Ok u → Says (said (one_lines b a)) (foreign b a ∷ [])
past_slots b a n e q = part_passes (slot_lines b a) (foreign b a ∷ []) (past_torn b a n) e q

pub returns-then-b-ne512 : goal.returns-then-b-ne512
returns-then-b-ne512 c =
    ap checked c.refuse.ensures ∙ speaks (whole (one_lines c.args.b.now c.args.a)) (rw (ne_eqb _ 512 c.if-b-ne512.true))

pub returns-in_err-check_slots : goal.returns-in_err-check_slots
returns-in_err-check_slots c =
    let a = c.args in
    ap checked (passed_on c.from_residual.ensures.1)
    ∙ part_speaks (slot_lines a.b.now a.a) (foreign a.b.now a.a ∷ []) (past_torn a.b.now a.a c.if-b-ne512.false) c.check_slots.ensures c.in_err-check_slots.was

pub returns-in-Some : goal.returns-in-Some
returns-in-Some c =
    let a = c.args in
    let last = past_slots a.b.now a.a c.if-b-ne512.false c.check_slots.ensures c.in_ok-check_slots.was in
    let e = c.first_foreign.ensures in
    ap checked c.refuse-in-Some.ensures ∙ ap (refused 17 a.a) (sym (placed_some _ e c.in-Some.is)) ∙ speaks last (placed_found _ e c.in-Some.is)

pub returns-in-None : goal.returns-in-None
returns-in-None c =
    let a = c.args in
    let last = past_slots a.b.now a.a c.if-b-ne512.false c.check_slots.ensures c.in_ok-check_slots.was in
    silent (passes last (found_none (placed_none _ c.first_foreign.ensures c.in-None.is)))
