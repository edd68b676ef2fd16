-- `block::reading::check_block` meets its contract: UNREAD and CHECK as they were said, then the first wrong word. Assumes nothing.
use mathlib.Core.Path.{◌≡◌, sym, ap, ◌∙◌}
use mathlib.Core.List.{List, [], ◌∷◌}
use Prim.Native.Nat.{ℕ}
use Rattle.std.specs.Prelude.{⊤, Result, Ok}
use Rattle.answer.specs.declared.Refusal.{Refusal}
use Rattle.answer.proofs.PassedOn.{passed_on}
use Rattle.answer.specs.Outcome.{checked, refused, done}
use Rattle.answer.specs.Checks.{first_fail}
use Rattle.answer.proofs.CheckLaws.{given, not_given, stops, goes_on}
use Rattle.lists.proofs.FirstLaws.{found_none, placed_some, placed_found, placed_none}
use Rattle.block.specs.Open.{header, slot_lines, block_lines}
use Rattle.block.proofs.reading.check_block.Goals as goal

-- past UNREAD and CHECK, HEADER alone is left
past_slots : (b : List ℕ) (a : ℕ) {x : Result ⊤ Refusal} {u : ⊤}
    → checked x ≡ first_fail (slot_lines b a) (done 0) → x ≡ Ok u → first_fail {A = ℕ} (block_lines b a) (done 0) ≡ first_fail (header b a ∷ []) (done 0)
past_slots b a e q = goes_on (slot_lines b a) e (header b a ∷ []) (done 0) q

pub returns-in_err-check_slots : goal.returns-in_err-check_slots
returns-in_err-check_slots c =
    let a = c.args in
    ap checked (passed_on c.from_residual.ensures.1)
    ∙ stops (slot_lines a.rest.now a.a) c.check_slots.ensures (header a.rest.now a.a ∷ []) (done 0) c.in_err-check_slots.was

pub returns-in-Some : goal.returns-in-Some
returns-in-Some c =
    let a = c.args in
    let left = past_slots a.rest.now a.a c.check_slots.ensures c.in_ok-check_slots.was in
    let e = c.first_wrong.ensures in
    ap checked c.refuse.ensures ∙ ap (refused 17 a.a) (sym (placed_some _ e c.in-Some.is))
    ∙ sym (left ∙ given (header a.rest.now a.a) [] (done 0) (placed_found _ e c.in-Some.is))

pub returns-in-None : goal.returns-in-None
unfolding first_fail
returns-in-None c =
    let a = c.args in
    let left = past_slots a.rest.now a.a c.check_slots.ensures c.in_ok-check_slots.was in
    sym (left ∙ not_given (header a.rest.now a.a) [] (done 0) (found_none (placed_none _ c.first_wrong.ensures c.in-None.is)))
