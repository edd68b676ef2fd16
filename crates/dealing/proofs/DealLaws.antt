-- Dealing by what planning answered: a refusal is kept; the rows of an accepted plan give the deal's own card.
-- Assumes nothing.
use Prim.Native.Nat.{ℕ, ◌-◌, ◌≤◌}
use mathlib.Core.Path.{◌≡◌, refl, sym, ap, ◌∙◌}
use mathlib.Core.Bool.{Bool, not}
use mathlib.Core.List.{List}
use native.Mathlib.Omega.{arith}
use lib.ListN.{length}
use Rattle.answer.specs.Outcome.{Outcome, done, refused}
use Rattle.answer.specs.Checks.{Line, first_fail}
use Rattle.answer.specs.Laws.{Passed}
use Rattle.answer.specs.Lent.{left}
use Rattle.answer.proofs.CheckLaws.{append-lines, same_refusal, done-passed, passed-done, passed-append, same_after}
use Rattle.lists.proofs.ThoseLaws.{those-same}
use Rattle.planning.specs.Groups as planning
use Rattle.planning.specs.Groups.{marked, holds}
use Rattle.planning.specs.Planned.{plan_lines, planned, planned_rows}
use Rattle.planning.proofs.Laws.{accepted-listed, some-piece, rows_mean}
use Rattle.dealing.specs.Deal.{Deal, card_over, asked_of, deal_pieces, held_by, card}
use Rattle.dealing.specs.Dealt.{input_lines, card_lines, block_count, deal_lines, dealing, dealt_into}
use Rattle.dealing.specs.Inner.{held_in, room_says}
use Rattle.dealing.proofs.InputLaws.{lines_ready}

-- refusals 8 to 11 of a deal
abbrev pub lines_for : Deal → ℕ → List Line
lines_for d holder = input_lines (asked_of d holder) (deal_pieces d - 1) d.secret d.random

-- its card by pieces that were counted some other way
abbrev card_for : Deal → ℕ → List ℕ → List ℕ
card_for d holder pieces = card_over (asked_of d holder) (deal_pieces d) d.secret d.random pieces

-- 8 to 12, or how many blocks there are
abbrev pub rest_says : Deal → ℕ → ℕ → ℕ → Outcome ℕ
rest_says d holder blocks room = first_fail (card_lines (asked_of d holder) (deal_pieces d - 1) d.secret d.random blocks room) (done blocks)

-- the lines behind planning's speak where those have passed
dealing-is : (d : Deal) (holder room : ℕ) → dealing d holder room ≡ first_fail (plan_lines d.policy) (rest_says d holder (block_count d holder) room)
unfolding dealing deal_lines
dealing-is d holder room = append-lines (plan_lines d.policy) _ (done (block_count d holder))

-- ---- a plan that is refused
module _ (d : Deal) (m a b : ℕ) (e : planned d.policy ≡ refused m a b) (holder : ℕ) where
  pub refused_deal : (room : ℕ) → refused m a b ≡ dealing d holder room
  unfolding planned
  refused_deal room = sym (dealing-is d holder room ∙ same_refusal (plan_lines d.policy) _ _ m a b e)

  pub refused_out : (out : List ℕ) → out ≡ dealt_into d holder out
  unfolding dealt_into
  refused_out out = ap (λ (o : Outcome ℕ). left o (card d holder) out) (refused_deal (length out))

-- ---- a plan that is accepted: the lines that are left speak
pub past_plan : (d : Deal) → Passed (plan_lines d.policy) → (holder room : ℕ) → dealing d holder room ≡ rest_says d holder (block_count d holder) room
past_plan d p holder room = dealing-is d holder room ∙ passed-done (plan_lines d.policy) _ p

module _ (d : Deal) (e : planned d.policy ≡ done (deal_pieces d)) where
  plan_passes : Passed (plan_lines d.policy)
  unfolding planned
  plan_passes = (done-passed (plan_lines d.policy) _ (deal_pieces d) e).0

  pub plan_few : (d.policy.people ≤ 8) × (1 ≤ deal_pieces d) × (deal_pieces d ≤ 70)
  plan_few =
      let k = some-piece d.policy (deal_pieces d) e in
      ((accepted-listed d.policy (deal_pieces d) e).few, omega (arith, k.1), k.2)

  module _ (holder : ℕ) where
    abbrev pieces : List ℕ
    pieces = held_in (planned_rows d.policy) holder (deal_pieces d)

    -- the rows mark who lacks a piece; a holder who passes is one of the people
    held_rows : Passed (lines_for d holder) → pieces ≡ held_by d holder
    unfolding held_in held_by planning.held holds deal_pieces
    held_rows p =
        let f = plan_few in
        let r = lines_ready f.0 f.1 f.2 p in
        those-same (λ j. not (marked (planned_rows d.policy) j holder)) (holds d.policy.people d.policy.required holder) 1 (deal_pieces d)
        (λ j low high.
        ap not ((rows_mean d.policy (deal_pieces d) e holder j r.holder_in.0 (omega (arith, r.holder_in.1, f.0)) low).0 (omega arith)))

    says : (room : ℕ) → rest_says d holder (length pieces) room ≡ dealing d holder room
    unfolding block_count
    says room =
        same_after (lines_for d holder) _ _ _ _ (λ p. ap (λ (js : List ℕ). room_says (length js) room) (held_rows p))
        ∙ sym (past_plan d plan_passes holder room)

    left-same : (o : Outcome ℕ) (new new' old : List ℕ) → ((v : ℕ) → o ≡ done v → new ≡ new') → left o new old ≡ left o new' old
    left-same (done v) new new' old f = ap (λ (x : List ℕ). left (done v) x old) (f v refl)
    left-same (refused m a b) new new' old f = refl

    leaves : (o : Outcome ℕ) (out : List ℕ) → o ≡ rest_says d holder (length pieces) (length out)
        → left o (card_for d holder pieces) out ≡ dealt_into d holder out
    unfolding dealt_into card
    leaves o out s =
        left-same o (card_for d holder pieces) (card d holder) out
        (λ v q. ap (card_for d holder) (held_rows (passed-append (lines_for d holder) (done-passed _ (done (length pieces)) v (sym s ∙ q)).0).0))
        ∙ ap (λ (x : Outcome ℕ). left x (card d holder) out) (s ∙ says (length out))

-- ---- the same where the code has its own k and rows
module _ (d : Deal) (k : ℕ) (e : planned d.policy ≡ done k) where
  count : k ≡ deal_pieces d
  unfolding deal_pieces
  count = (some-piece d.policy k e).0

  pub plan_gives : (d.policy.people ≤ 8) × (1 ≤ k) × (k ≤ 70)
  plan_gives = rw count (plan_few d (rw (← count) e))

  pub deals : (rows : List (List Bool)) → rows ≡ planned_rows d.policy → (holder : ℕ) (o : Outcome ℕ) (out now : List ℕ)
      → let pieces = held_in rows holder k in
      o ≡ first_fail (card_lines (asked_of d holder) (k - 1) d.secret d.random (length pieces) (length out)) (done (length pieces))
      → now ≡ left o (card_over (asked_of d holder) k d.secret d.random pieces) out
      → (o ≡ dealing d holder (length out)) × (now ≡ dealt_into d holder out)
  deals rows same holder o out now s l =
      let e' : planned d.policy ≡ done (deal_pieces d) = rw (← count) e in
      let s' = rw (count, same) at s in
      (s' ∙ says d e' holder (length out), (rw (count, same) at l) ∙ leaves d e' holder o out s')
