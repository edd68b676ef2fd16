-- `adding::check_both` meets its contract: at each return the lines before have passed.
-- Assumes nothing.
use mathlib.Core.Path.{◌≡◌, sym, ap, ◌∙◌}
use mathlib.Core.Logic.{◌⊎◌, ◌≢◌, ⊎_elim}
use mathlib.Core.Bool.{true, ◌||◌}
use mathlib.Core.List.{List, [], ◌∷◌}
use Prim.Native.Nat.{ℕ, ◌≤◌, ◌<◌}
use borrow.Author.Tests.{eq-eqb, ne_eqb, lt-ltb, le-ltb}
use lib.Dec.{eqb, ltb}
use Rattle.std.specs.Prelude.{Option, None}
use Rattle.lists.specs.Places.{placed}
use Rattle.lists.proofs.Truth.{or_l, or_r}
use Rattle.lists.proofs.FirstLaws.{found_none, placed_some, placed_found, placed_none}
use Rattle.answer.specs.Outcome.{refused, checked}
use Rattle.answer.specs.Checks.{Line}
use Rattle.answer.proofs.SaysLaws.{said, Says, whole, passes, speaks, silent}
use Rattle.block.specs.Deals.{bad_number, bad_year}
use Rattle.adding.specs.declared.Pair.{Pair}
use Rattle.adding.specs.Sum.{unlike_at}
use Rattle.adding.specs.Adding.{unlike, same_pair, repeated}
use Rattle.adding.proofs.check_both.Goals.{then-same_pair-via-then-same_pair, then-same_pair-via-else-same_pair+then-same_pair-2}
use Rattle.adding.proofs.check_both.Goals as goal

-- the lines that are left past UNLIKE, past the number and past the year
abbrev lines1 : List ℕ → List ℕ → Pair → List Line
lines1 one two new = repeated one two new ∷ []

abbrev lines2 : List ℕ → List ℕ → Pair → List Line
lines2 one two new = bad_year new.year ∷ lines1 one two new

abbrev lines3 : List ℕ → List ℕ → Pair → List Line
lines3 one two new = bad_number new.number ∷ lines2 one two new

module _ (one two : List ℕ) (new : Pair) where
  -- what is answered, where these lines are left
  abbrev Left : List Line → Type 0
  Left ls = Says (said (unlike one two ∷ lines3 one two new)) ls

  left3 : {r : Option ℕ} → r ≡ placed (unlike_at one two) → r ≡ None → Left (lines3 one two new)
  left3 e z = passes (whole _) (found_none (placed_none (unlike_at one two) e z))

  left2 : Left (lines3 one two new) → new.number ≢ 0 → new.number ≤ 32748 → Left (lines2 one two new)
  unfolding bad_number
  left2 l n m = passes l (rw (ne_eqb new.number 0 n, le-ltb 32748 new.number m))

  left1 : Left (lines2 one two new) → new.year ≤ 32748 → Left (lines1 one two new)
  unfolding bad_year
  left1 l m = passes l (le-ltb 32748 new.year m)

  -- the number is out of its range
  out : (new.number ≡ 0) ⊎ ((new.number ≢ 0) × (32748 < new.number)) → (bad_number new.number).given ≡ true
  unfolding bad_number
  out h = ⊎_elim (λ e. or_l (ltb 32748 new.number) (eq-eqb new.number 0 e)) (λ p. or_r (eqb new.number 0) (lt-ltb 32748 new.number p.1)) h

pub returns-in-Some : goal.returns-in-Some
returns-in-Some c =
    let at = unlike_at c.args.one.now c.args.two.now in
    let e = c.first_unlike.ensures in
    ap checked c.refuse.ensures ∙ ap (λ (i : ℕ). refused 24 i 0) (sym (placed_some at e c.in-Some.is)) ∙ speaks (whole _) (placed_found at e c.in-Some.is)

pub returns-then-new-eq0 : goal.returns-then-new-eq0
unfolding bad_number
returns-then-new-eq0 c =
    let a = c.args in
    let l3 = left3 a.one.now a.two.now a.new c.first_unlike.ensures c.in_default.is in
    ap checked c.refuse-then-new-eq0.ensures ∙ speaks l3 (out a.one.now a.two.now a.new c.then-new-eq0.either)

pub returns-then-new-gt32748-2 : goal.returns-then-new-gt32748-2
unfolding bad_year
returns-then-new-gt32748-2 c =
    let a = c.args in
    let l3 = left3 a.one.now a.two.now a.new c.first_unlike.ensures c.in_default.is in
    let l2 = left2 a.one.now a.two.now a.new l3 c.if-new-eq0.false c.if-new-gt32748.false in
    ap checked c.refuse-then-new-gt32748-2.ensures ∙ speaks l2 (lt-ltb 32748 _ c.if-new-gt32748-2.true)

pub returns-then-same_pair : goal.returns-then-same_pair
returns-then-same_pair c =
    let a = c.args in
    let l3 = left3 a.one.now a.two.now a.new c.first_unlike.ensures c.in_default.is in
    let l2 = left2 a.one.now a.two.now a.new l3 c.if-new-eq0.false c.if-new-gt32748.false in
    let l1 = left1 a.one.now a.two.now a.new l2 c.if-new-gt32748-2.false in
    let again : same_pair a.new a.one.now || same_pair a.new a.two.now ≡ true = elim c.then-same_pair.branch [
      | then-same_pair-via-then-same_pair w ↦ or_l (same_pair a.new a.two.now) (sym c.same_pair.ensures ∙ w.if-same_pair.true)
      | then-same_pair-via-else-same_pair+then-same_pair-2 w ↦ or_r (same_pair a.new a.one.now) (sym w.same_pair-else-same_pair.ensures ∙ w.if-same_pair-2.true)
    ] in
    ap checked c.refuse-then-same_pair.ensures ∙ speaks l1 again

pub returns : goal.returns
returns c =
    let a = c.args in
    let l3 = left3 a.one.now a.two.now a.new c.first_unlike.ensures c.in_default.is in
    let l2 = left2 a.one.now a.two.now a.new l3 c.if-new-eq0.false c.if-new-gt32748.false in
    let l1 = left1 a.one.now a.two.now a.new l2 c.if-new-gt32748-2.false in
    silent (passes l1 (rw (sym c.same_pair.ensures ∙ c.if-same_pair.false, sym c.same_pair-else-same_pair.ensures ∙ c.if-same_pair-2.false)))
