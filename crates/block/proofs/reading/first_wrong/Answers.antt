-- `block::reading::first_wrong` meets its contract. The invariant: the first wrong word is still to be found from word i on; past word 7 it is
-- the first word past the values that is not 0, the year left aside, or the set's. Assumes nothing.
use borrow.Author.Rules.{rules}
use mathlib.Core.Path.{◌≡◌, refl, sym, ap, ◌∙◌}
use mathlib.Core.Bool.{not}
use mathlib.Core.List.{List}
use Prim.Native.Nat.{ℕ, ◌+◌}
use native.Mathlib.Omega.{arith}
use Rattle.std.specs.Prelude.{Option}
use borrow.Author.Tests.{eqb-false, not-true}
use Rattle.lists.specs.Places.{first_in, placed}
use Rattle.lists.proofs.FirstLaws.{first_hit, first_miss, some-found, placed_some, placed_found, placed_none, some_placed}
use Rattle.block.specs.Layout.{width_of, right_at, first_wrong}
use Rattle.block.specs.Inner.{filled}
use Rattle.block.proofs.LayoutLaws.{width_few, wrong_before, wrong_set, wrong_behind}
use Rattle.block.proofs.reading.first_wrong.Goals as goal

pub loop-i-init : goal.loop-i-init
unfolding first_wrong
loop-i-init c = (search rules, search rules, (λ h. absurd (omega arith)), refl)

pub loop-i-preserved : goal.loop-i-preserved
loop-i-preserved c =
    let l = c.loop-i in
    let b = c.args.b.now in (
      search rules,
      search rules,
      width_few b l.i l.invariant.2 (sym c.right.ensures ∙ c.if-not-right.false),
      l.invariant.3 ∙ first_miss (λ k. not (right_at b k)) l.i 256 (search rules) (ap not (sym c.right.ensures ∙ c.if-not-right.false)),
    )

pub returns-then-not-right : goal.returns-then-not-right
returns-then-not-right c =
    let l = c.loop-i in
    let b = c.args.b.now in
    some_placed (l.invariant.3 ∙ first_hit (λ k. not (right_at b k)) l.i 256 (search rules) (ap not (sym c.right.ensures ∙ c.if-not-right.true))) l.invariant.0

-- past the loop the first wrong word lies from word 8 on
past : (b : List ℕ) {i : ℕ} → first_wrong b ≡ first_in (λ k. not (right_at b k)) i 256 → i ≡ 8 → first_wrong b ≡ first_in (λ k. not (right_at b k)) 8 256
past b e q = rw q at e

-- the first word from the values on that is not 0, by the w that was read
before_year : (b : List ℕ) {r : Option ℕ} {w : ℕ} → r ≡ placed (first_in (filled b) (8 + w) 24) → w ≡ width_of b
    → r ≡ placed (first_in (filled b) (8 + width_of b) 24)
before_year b e q = rw q at e

pub returns-in-Some : goal.returns-in-Some
returns-in-Some c =
    let b = c.args.b.now in
    let seen = before_year b c.first_filled.ensures c.word-width.ensures in
    let few = c.loop-i.invariant.2 (omega arith) in
    let is = placed_some _ seen c.in-Some.is in
    let some = placed_found _ seen c.in-Some.is in
    some_placed (past b c.loop-i.invariant.3 (omega arith) ∙ wrong_before b few (eqb-false _ _ (not-true _ some)) ∙ is) (rw (← is) (some-found _ some))

pub returns-then-not-right_set : goal.returns-then-not-right_set
returns-then-not-right_set c =
    let b = c.args.b.now in
    let seen = before_year b c.first_filled.ensures c.word-width.ensures in
    let few = c.loop-i.invariant.2 (omega arith) in
    some_placed (past b c.loop-i.invariant.3 (omega arith)
    ∙ wrong_set b few (placed_none _ seen c.in_default.is) (sym c.right_set.ensures ∙ c.if-not-right_set.true)) (omega arith)

pub returns : goal.returns
returns c =
    let b = c.args.b.now in
    let seen = before_year b c.first_filled.ensures c.word-width.ensures in
    let few = c.loop-i.invariant.2 (omega arith) in
    c.first_filled-2.ensures
    ∙ ap placed (sym (past b c.loop-i.invariant.3 (omega arith)
    ∙ wrong_behind b few (placed_none _ seen c.in_default.is) (sym c.right_set.ensures ∙ c.if-not-right_set.false)))
