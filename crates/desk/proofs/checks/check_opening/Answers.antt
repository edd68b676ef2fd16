-- `desk::checks::check_opening` meets its contract: at each return the tests that led there say which line speaks.
-- Assumes nothing.
use native.Mathlib.Omega.{arith}
use mathlib.Core.Path.{◌≡◌, sym, ap, ◌∙◌}
use mathlib.Core.Bool.{false, not}
use mathlib.Core.List.{[], ◌∷◌}
use Prim.Native.Nat.{ℕ, ◌-◌}
use borrow.Author.Tests.{lt-ltb, le-ltb}
use Rattle.std.specs.Prelude.{Option, None}
use Rattle.lists.specs.Places.{placed}
use Rattle.lists.proofs.FirstLaws.{placed_some, placed_found, placed_none, found_none}
use Rattle.answer.specs.Outcome.{refused, checked}
use Rattle.answer.proofs.SaysLaws.{passes, speaks, silent}
use Rattle.desk.specs.declared.Clients.{Clients}
use Rattle.desk.specs.declared.Opening.{Opening}
use Rattle.desk.specs.Opens.{bad_word, is_client, other, words_in, accepted, reserved}
use Rattle.desk.specs.Lines.{busy, bad_opening, no_slots}
use Rattle.desk.proofs.ChainLaws.{OpenLeft, open_all}
use Rattle.desk.proofs.checks.check_opening.Goals as goal

module _ (both : Clients) (c : ℕ) (new : Opening) where
  abbrev mine : Opening
  mine = words_in both c

  abbrev taken : ℕ
  taken = reserved (words_in both (other c))

  -- past NOCLIENT, past BUSY and past HEADER
  past1 : not (is_client c) ≡ false → OpenLeft mine taken c new (busy mine ∷ bad_opening new ∷ no_slots taken new ∷ [])
  past1 e = passes (open_all mine taken c new) e

  past2 : OpenLeft mine taken c new (busy mine ∷ bad_opening new ∷ no_slots taken new ∷ []) → accepted mine ≡ false
      → OpenLeft mine taken c new (bad_opening new ∷ no_slots taken new ∷ [])
  past2 l e = passes l e

  past3 : OpenLeft mine taken c new (bad_opening new ∷ no_slots taken new ∷ []) → {r : Option ℕ} → r ≡ placed (bad_word new) → r ≡ None
      → OpenLeft mine taken c new (no_slots taken new ∷ [])
  past3 l e q = passes l (found_none (placed_none (bad_word new) e q))

pub returns-then-no_client : goal.returns-then-no_client
returns-then-no_client c =
    let a = c.args in
    ap checked c.refuse.ensures ∙ speaks (open_all (mine a.both.now a.client a.new) (taken a.both.now a.client a.new) a.client a.new) (sym c.no_client.ensures ∙ c.if-no_client.true)

pub returns-then-accepted : goal.returns-then-accepted
returns-then-accepted c =
    let a = c.args in
    let l1 = past1 a.both.now a.client a.new (sym c.no_client.ensures ∙ c.if-no_client.false) in
    ap checked c.refuse-then-accepted.ensures ∙ speaks l1 (ap accepted (sym c.words_of-mine.ensures) ∙ sym c.accepted.ensures ∙ c.if-accepted.true)

pub returns-in-Some : goal.returns-in-Some
returns-in-Some c =
    let a = c.args in
    let l1 = past1 a.both.now a.client a.new (sym c.no_client.ensures ∙ c.if-no_client.false) in
    let l2 = past2 a.both.now a.client a.new l1 (ap accepted (sym c.words_of-mine.ensures) ∙ sym c.accepted.ensures ∙ c.if-accepted.false) in
    let e = c.bad_word.ensures in
    ap checked c.refuse-in-Some.ensures ∙ ap (refused 17 0) (sym (placed_some (bad_word a.new) e c.in-Some.is)) ∙ speaks l2 (placed_found (bad_word a.new) e c.in-Some.is)

pub returns-then-taken-new : goal.returns-then-taken-new
returns-then-taken-new c =
    let a = c.args in
    let l1 = past1 a.both.now a.client a.new (sym c.no_client.ensures ∙ c.if-no_client.false) in
    let l2 = past2 a.both.now a.client a.new l1 (ap accepted (sym c.words_of-mine.ensures) ∙ sym c.accepted.ensures ∙ c.if-accepted.false) in
    let l3 = past3 a.both.now a.client a.new l2 c.bad_word.ensures c.in_default.is in
    let n = c.reserved-taken.ensures.0 ∙ ap reserved (c.words_of-theirs.ensures ∙ ap (words_in a.both.now) c.other.ensures) in
    ap checked c.refuse-then-taken-new.ensures ∙ speaks l3 (lt-ltb (70 - taken a.both.now a.client a.new) a.new.pieces (omega (arith, n, c.if-taken-new.true)))

pub returns : goal.returns
returns c =
    let a = c.args in
    let l1 = past1 a.both.now a.client a.new (sym c.no_client.ensures ∙ c.if-no_client.false) in
    let l2 = past2 a.both.now a.client a.new l1 (ap accepted (sym c.words_of-mine.ensures) ∙ sym c.accepted.ensures ∙ c.if-accepted.false) in
    let l3 = past3 a.both.now a.client a.new l2 c.bad_word.ensures c.in_default.is in
    let n = c.reserved-taken.ensures.0 ∙ ap reserved (c.words_of-theirs.ensures ∙ ap (words_in a.both.now) c.other.ensures) in
    silent (passes l3 (le-ltb (70 - taken a.both.now a.client a.new) a.new.pieces (omega (arith, n, c.if-taken-new.false))))
