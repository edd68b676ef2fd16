-- What a verdict means: every group is right, or the group that is named is the first that is not.
-- Assumes nothing.
use mathlib.Core.Path.{◌≡◌, refl, sym, ap, ◌∙◌}
use mathlib.Core.Bool.{Bool, true, false, false≢true}
use mathlib.Core.List.{List}
use mathlib.Core.Logic.{◌↔◌, ◌≢◌, ⊎_elim}
use Prim.Native.Nat.{ℕ, zero, suc, ◌^◌, ◌≤◌, ◌<◌, zero-le}
use native.Mathlib.Nat.{eq-or-lt_of_le}
use native.Mathlib.Omega.{arith}
use lib.Dec.{eqb, ltb}
use borrow.Author.Tests.{ltb-true, ltb-false, eqb-true, eqb-false}
use Rattle.answer.specs.Outcome.{done}
use Rattle.lists.specs.Places.{first_in, found}
use Rattle.lists.specs.Laws.{IsFirst}
use Rattle.answer.proofs.CheckLaws.{passed, passed-append, done-passed, passed-done}
use Rattle.lists.proofs.FirstLaws.{first_of, first-all, none_in, has_test, below_in, found_none, none_found, some-found}
use Rattle.lists.proofs.Truth.{never}
use Rattle.planning.specs.Groups.{authorised, piece_count}
use Rattle.planning.specs.Policy.{Policy}
use Rattle.planning.specs.Planned.{plan_lines, planned}
use Rattle.planning.proofs.Laws.{accepted-listed}
use Rattle.planning.proofs.HoldingLaws.{empty_un}
use Rattle.holdings.specs.Holdings.{Holdings, have}
use Rattle.holdings.specs.Judged.{bad_rows, way_by, way, wrong_group, Verdict, suits, too_few, too_many, verdict_of, verdict, judge_lines, judging}
use Rattle.holdings.specs.Laws.{InOrder, SuitsAll, SuitsExactly, FirstWrong, EmptyRight}
use Rattle.holdings.proofs.HaveLaws.{empty_has}
use Rattle.holdings.proofs.RowLaws.{rows_exactly}
use Rattle.holdings.proofs.VerdictLaws.{then_verdict}

-- ---- which way
right-way : (a s : Bool) (needed had : ℕ) → ltb had needed ≡ s → way_by a s ≡ 0 → (a ≡ true) ↔ (needed ≤ had)
right-way true true needed had e z = absurd (omega arith)
right-way true false needed had e z = (λ t. ltb-false had needed e, λ h. refl)
right-way false true needed had e z = (λ t. absurd (false≢true t), λ h. absurd (omega (arith, ltb-true had needed e)))
right-way false false needed had e z = absurd (omega arith)

way-right : (a s : Bool) (needed had : ℕ) → ltb had needed ≡ s → (a ≡ true) ↔ (needed ≤ had) → way_by a s ≡ 0
way-right true true needed had e f = absurd (omega (arith, ltb-true had needed e, f.0 refl))
way-right true false needed had e f = refl
way-right false true needed had e f = refl
way-right false false needed had e f = absurd (false≢true (f.1 (ltb-false had needed e)))

few-way : (a s : Bool) → way_by a s ≡ 1 → (a ≡ true) × (s ≡ true)
few-way true true e = (refl, refl)
few-way true false e = absurd (omega arith)
few-way false true e = absurd (omega arith)
few-way false false e = absurd (omega arith)

many_way : (a s : Bool) → way_by a s ≢ 0 → way_by a s ≢ 1 → (a ≡ false) × (s ≡ false)
many_way true true z o = absurd (o refl)
many_way true false z o = absurd (z refl)
many_way false true z o = absurd (z refl)
many_way false false z o = (refl, refl)

-- ---- which verdict
-- verdicts of two kinds are not equal
kind_of : Verdict → ℕ
kind_of suits = 0
kind_of (too_few g) = 1
kind_of (too_many g) = 2

suits_of : (g : ℕ) (b : Bool) → verdict_of g b ≡ suits → g ≡ 0
suits_of zero b e = refl
suits_of (suc g) true e = cc
suits_of (suc g) false e = cc

few_of : (g h : ℕ) (b : Bool) → verdict_of g b ≡ too_few h → (g ≡ h) × (b ≡ true) × (g ≢ 0)
unfolding kind_of
few_of zero h b e = absurd (omega (arith, ap kind_of e))
few_of (suc g) h true e = let q : suc g ≡ h = cc in (q, refl, λ z. omega arith)
few_of (suc g) h false e = absurd (omega (arith, ap kind_of e))

many_of : (g h : ℕ) (b : Bool) → verdict_of g b ≡ too_many h → (g ≡ h) × (b ≡ false) × (g ≢ 0)
unfolding kind_of
many_of zero h b e = absurd (omega (arith, ap kind_of e))
many_of (suc g) h true e = absurd (omega (arith, ap kind_of e))
many_of (suc g) h false e = let q : suc g ≡ h = cc in (q, refl, λ z. omega arith)

-- ---- the empty group
pub empty_right : EmptyRight
unfolding way
empty_right p l k e h =
    let a = accepted-listed p k e in
    way-right (authorised p.required 0) (ltb (have l 0) l.needed) l.needed (have l 0) refl (
      (λ t. absurd (never (empty_un p.people p.required a.few a.known-required a.none_empty) t)),
      (λ u. absurd (empty_has l (omega (arith, h.some-needed)))),
    )

-- ---- the answer
-- a verdict is given: the policy is accepted, the rows are in order, and it is the verdict
pub accepted : (p : Policy) (l : Holdings) (v : Verdict) → judging p l ≡ done v
    → (planned p ≡ done (piece_count p.people p.required)) × InOrder p.people l × (verdict p.people p.required l ≡ v)
unfolding judging judge_lines planned bad_rows
accepted p l v e =
    let r = done-passed (judge_lines p l) (done (verdict p.people p.required l)) v e in
    let s = passed-append (plan_lines p) r.0 in
    let q : verdict p.people p.required l ≡ v = cc r.1 in
    (passed-done (plan_lines p) (done (piece_count p.people p.required)) s.0, (rows_exactly p.people l).0 (passed s.1).0, q)

module _ (n : ℕ) (required : List ℕ) (l : Holdings) where
  abbrev wrong : ℕ → Bool
  wrong g = found (way required l g)

  -- no group is wrong: the list suits
  none_wrong : wrong_group n required l ≡ 0 → way required l 0 ≡ 0 → SuitsAll n required l
  unfolding wrong_group way
  none_wrong z first g h =
      right-way (authorised required g) (ltb (have l g) l.needed) l.needed (have l g) refl
      (⊎_elim (λ (e : 0 ≡ g). ap (way required l) (sym e) ∙ first)
      (λ (p : 0 < g). none_found _ (none_in wrong 1 (2 ^ n) (omega arith) z g p h)) (eq-or-lt_of_le zero-le))

  suit_none : SuitsAll n required l → wrong_group n required l ≡ 0
  unfolding wrong_group way
  suit_none f =
      first-all wrong 1 (2 ^ n)
      (λ g a b. found_none (way-right (authorised required g) (ltb (have l g) l.needed) l.needed (have l g) refl (f g b)))

  -- a group is wrong: it is the first
  first_wrong_is : way required l 0 ≡ 0 → wrong_group n required l ≢ 0
      → IsFirst wrong 0 (2 ^ n) (wrong_group n required l) × (way required l (wrong_group n required l) ≢ 0)
  unfolding wrong_group
  first_wrong_is z some =
      let t = has_test wrong 1 (2 ^ n) some in
      let r = (first_of wrong 1 (2 ^ n) (first_in wrong 1 (2 ^ n)) t.1 (below_in wrong 1 (2 ^ n) some) t.0).0 in (
        record {
          from = zero-le;
          to = r.to;
          has = r.has;
          least = λ k a c. ⊎_elim (λ (e : 0 ≡ k). found_none (ap (way required l) (sym e) ∙ z)) (λ (p : 0 < k). r.least k p c) (eq-or-lt_of_le a);
        },
        (λ e. omega (arith, some-found (way required l (first_in wrong 1 (2 ^ n))) t.0)),
      )

pub suits_exactly : SuitsExactly
unfolding verdict
suits_exactly p l k e h = (
  (λ t.
      none_wrong p.people p.required l (suits_of (wrong_group p.people p.required l) _ (accepted p l suits t).2)
      (empty_right p l k e h)),
  (λ f.
      then_verdict p l e ((rows_exactly p.people l).1 h)
      ∙ ap (λ (g : ℕ). done (verdict_of g (eqb (way p.required l g) 1))) (suit_none p.people p.required l f)),
)

pub first_wrong_lem : FirstWrong
unfolding verdict way
first_wrong_lem p l g =
    let f = wrong_group p.people p.required l in
    let short = ltb (have l f) l.needed in (
      (λ t.
          let a = accepted p l (too_few g) t in
          let w = few_of f g (eqb (way p.required l f) 1) a.2 in
          let r = first_wrong_is p.people p.required l (empty_right p l _ a.0 a.1) w.2 in
          let s = few-way (authorised p.required f) short (eqb-true _ _ w.1) in
          rw (sym w.0) (r.0, s.0, ltb-true _ _ s.1)),
      (λ t.
          let a = accepted p l (too_many g) t in
          let w = many_of f g (eqb (way p.required l f) 1) a.2 in
          let r = first_wrong_is p.people p.required l (empty_right p l _ a.0 a.1) w.2 in
          let s = many_way (authorised p.required f) short r.1 (eqb-false _ _ w.1) in
          rw (sym w.0) (r.0, s.0, ltb-false _ _ s.1)),
    )
