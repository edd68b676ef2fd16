-- `planning::checks::check_lists` meets its contract: at each return the lines before have passed.
-- Assumes nothing.
use mathlib.Core.Path.{◌∙◌, ◌≡◌, sym, ap}
use mathlib.Core.List.{List, [], ◌∷◌}
use lib.Dec.{eqb}
use borrow.Author.Tests.{eq-eqb, ne_eqb, lt-ltb, le-ltb}
use Rattle.answer.specs.Checks.{Line}
use Rattle.planning.specs.Policy.{Policy}
use Rattle.answer.specs.Outcome.{checked}
use Rattle.planning.specs.Given.{lists_of}
use Rattle.planning.specs.Planned.{people, long, strangers, nobody, opens, lone, list_lines}
use Prim.Native.Nat.{ℕ, ◌≤◌}
use lib.ListN.{length}
use Rattle.planning.specs.Sets.{stranger, one_member}
use Rattle.planning.proofs.SetLaws.{strangers_from}
use Rattle.lists.proofs.Truth.{or_l, or_r}
use Rattle.answer.proofs.SaysLaws.{said, Says, whole, passes, speaks, silent}
use Rattle.std.specs.Prelude.{Bool, false, ◌==◌, Option, None, position}
use Rattle.lists.proofs.PositionLaws.{position_found, position_is, position_not}
use Rattle.planning.proofs.checks.check_lists.Goals as goal

-- the lines that are left after the first, the second ..
abbrev left7 : Policy → List Line
left7 p = lone p.required ∷ []

abbrev left6 : Policy → List Line
left6 p = opens p.required ∷ left7 p

abbrev left5 : Policy → List Line
left5 p = nobody p.required ∷ left6 p

abbrev left4 : Policy → List Line
left4 p = strangers p.people 2 p.forbidden ∷ left5 p

abbrev left3 : Policy → List Line
left3 p = strangers p.people 1 p.required ∷ left4 p

abbrev left2 : Policy → List Line
left2 p = long 2 p.forbidden ∷ left3 p

abbrev left1 : Policy → List Line
left1 p = long 1 p.required ∷ left2 p

abbrev left8 : Policy → List Line
left8 p = []

module _ (p : Policy) where
  -- these lines are left: those before have passed
  abbrev Left : (Policy → List Line) → Type 0
  Left rest = Says (said (list_lines p)) (rest p)

  all : Says (said (list_lines p)) (people p.people ∷ left1 p)
  unfolding list_lines
  all = whole _

  on1 : (p.people ≡ 0 → ⊥) → p.people ≤ 8 → Left left1
  unfolding people
  on1 some few = passes all (rw (ne_eqb _ _ some, le-ltb _ _ few))

  on2 : Left left1 → length p.required ≤ 256 → Left left2
  unfolding long
  on2 h short = passes h (le-ltb _ _ short)

  on3 : Left left2 → length p.forbidden ≤ 256 → Left left3
  unfolding long
  on3 h short = passes h (le-ltb _ _ short)

  on4 : {r : Option ℕ} → Left left3 → r ≡ position (stranger p.people) p.required → r ≡ None → Left left4
  unfolding strangers
  on4 h e none = passes h (position_not _ _ e none)

  on5 : {r : Option ℕ} → Left left4 → r ≡ position (stranger p.people) p.forbidden → r ≡ None → Left left5
  unfolding strangers
  on5 h e none = passes h (position_not _ _ e none)

  on6 : {b : Bool} → Left left5 → b ≡ (length p.required == 0) → b ≡ false → Left left6
  unfolding nobody
  on6 h e some = passes h (sym e ∙ some)

  on7 : {r : Option ℕ} → Left left6 → r ≡ position (eqb 0) p.required → r ≡ None → Left left7
  unfolding opens
  on7 h e none = passes h (position_not _ _ e none)

  on8 : {r : Option ℕ} → Left left7 → r ≡ position one_member p.required → r ≡ None → Left left8
  unfolding lone
  on8 h e none = passes h (position_not _ _ e none)

pub returns-then-people-eq0 : goal.returns-then-people-eq0
unfolding people
returns-then-people-eq0 c = ap checked c.refuse.ensures ∙ speaks (all _) (or_l _ (eq-eqb _ _ c.if-people-eq0.true))

pub returns-then-people-gt8 : goal.returns-then-people-gt8
unfolding people
returns-then-people-gt8 c = ap checked c.refuse-then-people-gt8.ensures ∙ speaks (all _) (or_r (eqb c.args.policy.people 0) (lt-ltb _ _ c.if-people-gt8.true))

pub returns-then-required-gt256 : goal.returns-then-required-gt256
unfolding long
returns-then-required-gt256 c =
    let h1 = on1 (lists_of c.args.policy) c.if-people-eq0.false c.if-people-gt8.false in
    ap checked c.refuse-then-required-gt256.ensures ∙ speaks h1 (lt-ltb _ _ c.if-required-gt256.true)

pub returns-then-forbidden-gt256 : goal.returns-then-forbidden-gt256
unfolding long
returns-then-forbidden-gt256 c =
    let h1 = on1 (lists_of c.args.policy) c.if-people-eq0.false c.if-people-gt8.false in
    let h2 = on2 _ h1 c.if-required-gt256.false in
    ap checked c.refuse-then-forbidden-gt256.ensures ∙ speaks h2 (lt-ltb _ _ c.if-forbidden-gt256.true)

pub returns-in-Some : goal.returns-in-Some
unfolding strangers
returns-in-Some c =
    let h1 = on1 (lists_of c.args.policy) c.if-people-eq0.false c.if-people-gt8.false in
    let h2 = on2 _ h1 c.if-required-gt256.false in
    let h3 = on3 _ h2 c.if-forbidden-gt256.false in
    let s1 = strangers_from _ c.args.policy.required.now c.group_count-size.ensures c.first_from.ensures in
    ap checked c.refuse-in-Some.ensures ∙ rw (← position_found (stranger c.args.policy.people) c.args.policy.required.now s1 c.in-Some.is) (speaks h3 (position_is (stranger c.args.policy.people) c.args.policy.required.now s1 c.in-Some.is))

pub returns-in-Some-first_from : goal.returns-in-Some-first_from
unfolding strangers
returns-in-Some-first_from c =
    let h1 = on1 (lists_of c.args.policy) c.if-people-eq0.false c.if-people-gt8.false in
    let h2 = on2 _ h1 c.if-required-gt256.false in
    let h3 = on3 _ h2 c.if-forbidden-gt256.false in
    let s1 = strangers_from _ c.args.policy.required.now c.group_count-size.ensures c.first_from.ensures in
    let h4 = on4 _ h3 s1 c.in_default.is in
    let s2 = strangers_from _ c.args.policy.forbidden.now c.group_count-size.ensures c.first_from-2.ensures in
    ap checked c.refuse-in-Some-first_from.ensures ∙ rw (← position_found (stranger c.args.policy.people) c.args.policy.forbidden.now s2 c.in-Some-first_from.is) (speaks h4 (position_is (stranger c.args.policy.people) c.args.policy.forbidden.now s2 c.in-Some-first_from.is))

pub returns-then-is_empty : goal.returns-then-is_empty
unfolding nobody
returns-then-is_empty c =
    let h1 = on1 (lists_of c.args.policy) c.if-people-eq0.false c.if-people-gt8.false in
    let h2 = on2 _ h1 c.if-required-gt256.false in
    let h3 = on3 _ h2 c.if-forbidden-gt256.false in
    let s1 = strangers_from _ c.args.policy.required.now c.group_count-size.ensures c.first_from.ensures in
    let h4 = on4 _ h3 s1 c.in_default.is in
    let s2 = strangers_from _ c.args.policy.forbidden.now c.group_count-size.ensures c.first_from-2.ensures in
    let h5 = on5 _ h4 s2 c.in_default-first_from.is in
    ap checked c.refuse-then-is_empty.ensures ∙ speaks h5 (sym c.is_empty.ensures ∙ c.if-is_empty.true)

pub returns-in-Some-first_empty : goal.returns-in-Some-first_empty
unfolding opens
returns-in-Some-first_empty c =
    let h1 = on1 (lists_of c.args.policy) c.if-people-eq0.false c.if-people-gt8.false in
    let h2 = on2 _ h1 c.if-required-gt256.false in
    let h3 = on3 _ h2 c.if-forbidden-gt256.false in
    let s1 = strangers_from _ c.args.policy.required.now c.group_count-size.ensures c.first_from.ensures in
    let h4 = on4 _ h3 s1 c.in_default.is in
    let s2 = strangers_from _ c.args.policy.forbidden.now c.group_count-size.ensures c.first_from-2.ensures in
    let h5 = on5 _ h4 s2 c.in_default-first_from.is in
    let h6 = on6 _ h5 c.is_empty.ensures c.if-is_empty.false in
    let e = c.first_empty.ensures in
    let q = c.in-Some-first_empty.is in
    ap checked c.refuse-in-Some-first_empty.ensures ∙ rw (← position_found (eqb 0) c.args.policy.required.now e q) (speaks h6 (position_is (eqb 0) c.args.policy.required.now e q))

pub returns-in-Some-first_lone : goal.returns-in-Some-first_lone
unfolding lone
returns-in-Some-first_lone c =
    let h1 = on1 (lists_of c.args.policy) c.if-people-eq0.false c.if-people-gt8.false in
    let h2 = on2 _ h1 c.if-required-gt256.false in
    let h3 = on3 _ h2 c.if-forbidden-gt256.false in
    let s1 = strangers_from _ c.args.policy.required.now c.group_count-size.ensures c.first_from.ensures in
    let h4 = on4 _ h3 s1 c.in_default.is in
    let s2 = strangers_from _ c.args.policy.forbidden.now c.group_count-size.ensures c.first_from-2.ensures in
    let h5 = on5 _ h4 s2 c.in_default-first_from.is in
    let h6 = on6 _ h5 c.is_empty.ensures c.if-is_empty.false in
    let h7 = on7 _ h6 c.first_empty.ensures c.in_default-first_empty.is in
    let e = c.first_lone.ensures in
    let q = c.in-Some-first_lone.is in
    ap checked c.refuse-in-Some-first_lone.ensures ∙ rw (← position_found one_member c.args.policy.required.now e q) (speaks h7 (position_is one_member c.args.policy.required.now e q))

pub returns : goal.returns
returns c =
    let h1 = on1 (lists_of c.args.policy) c.if-people-eq0.false c.if-people-gt8.false in
    let h2 = on2 _ h1 c.if-required-gt256.false in
    let h3 = on3 _ h2 c.if-forbidden-gt256.false in
    let s1 = strangers_from _ c.args.policy.required.now c.group_count-size.ensures c.first_from.ensures in
    let h4 = on4 _ h3 s1 c.in_default.is in
    let s2 = strangers_from _ c.args.policy.forbidden.now c.group_count-size.ensures c.first_from-2.ensures in
    let h5 = on5 _ h4 s2 c.in_default-first_from.is in
    let h6 = on6 _ h5 c.is_empty.ensures c.if-is_empty.false in
    let h7 = on7 _ h6 c.first_empty.ensures c.in_default-first_empty.is in
    let h8 = on8 _ h7 c.first_lone.ensures c.in_default-first_lone.is in
    silent h8
