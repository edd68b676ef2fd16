-- `desk::checks::check_asking` meets its contract: at each return the tests that led there say which line speaks.
-- Assumes nothing.
use native.Mathlib.Omega.{arith}
use mathlib.Core.Path.{◌≡◌, sym, ap, ◌∙◌}
use mathlib.Core.List.{List}
use Prim.Native.Nat.{ℕ}
use Rattle.std.specs.Prelude.{⊤, Result, Ok}
use Rattle.answer.specs.declared.Refusal.{Refusal}
use Rattle.answer.specs.Outcome.{checked, done, refused}
use Rattle.answer.proofs.PassedOn.{passed_on}
use Rattle.answer.proofs.SaysLaws.{said}
use Rattle.answer.proofs.CheckLaws.{stops, goes_on}
use Rattle.desk.specs.declared.Opening.{Opening}
use Rattle.desk.specs.Lines.{ask_lines, close_lines}
use Rattle.desk.proofs.WordLaws.{small_of}
use Rattle.desk.proofs.ChainLaws.{from_short, past_open, is-short, is_narrow, not_narrow}
use Rattle.desk.proofs.checks.check_asking.Goals as goal

-- past CLOSED the lines of what is kept and of the room are left
past : (slots : List ℕ) (o : Opening) (c room : ℕ) {x : Result ⊤ Refusal} {u : ⊤}
    → checked x ≡ said (close_lines o c) → x ≡ Ok u → said (ask_lines slots o c room) ≡ said (from_short slots o c room)
unfolding ask_lines close_lines
past slots o c room e q = goes_on (close_lines o c) e (from_short slots o c room) (done 0) q

pub returns-in_err-check_open : goal.returns-in_err-check_open
unfolding ask_lines close_lines
returns-in_err-check_open c =
    let g = c.args in
    ap checked (passed_on c.from_residual.ensures.1)
    ∙ stops (close_lines g.o g.client) c.check_open.ensures (from_short g.slots.now g.o g.client g.room) (done 0) c.in_err-check_open.was

pub distinct-here-requires : goal.distinct-here-requires
distinct-here-requires c =
    let g = c.args in
    small_of g.o (past_open g.o g.client c.check_open.ensures c.in_ok-check_open.was)

pub returns-then-here-k : goal.returns-then-here-k
returns-then-here-k c =
    let g = c.args in
    let left = past g.slots.now g.o g.client g.room c.check_open.ensures c.in_ok-check_open.was in
    let n = c.distinct-here.ensures.0 in
    ap checked c.refuse.ensures ∙ ap (λ (m : ℕ). refused 20 m g.o.pieces) n
    ∙ is-short g.slots.now g.o g.client g.room (omega (arith, n, c.if-here-k.true)) ∙ sym left

pub returns-then-room-w : goal.returns-then-room-w
returns-then-room-w c =
    let g = c.args in
    let left = past g.slots.now g.o g.client g.room c.check_open.ensures c.in_ok-check_open.was in
    let n = c.distinct-here.ensures.0 in
    ap checked c.refuse-then-room-w.ensures
    ∙ is_narrow g.slots.now g.o g.client g.room (omega (arith, n, c.if-here-k.false)) c.if-room-w.true ∙ sym left

pub returns : goal.returns
returns c =
    let g = c.args in
    let left = past g.slots.now g.o g.client g.room c.check_open.ensures c.in_ok-check_open.was in
    let n = c.distinct-here.ensures.0 in
    not_narrow g.slots.now g.o g.client g.room (omega (arith, n, c.if-here-k.false)) c.if-room-w.false ∙ sym left
