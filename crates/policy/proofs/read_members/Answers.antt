-- `policy::read_members` meets its contract: the rest of the line, read on from the set so far, is the whole line.
-- Assumes nothing.
use mathlib.Core.Path.{◌≡◌, refl, sym, ◌∙◌}
use native.Mathlib.Omega.{arith}
use Prim.Native.Nat.{◌+◌, ◌-◌}
use lib.ListN.{get_or, length, take, drop, length-drop}
use lib.Seq.{take_all}
use Rattle.policy.specs.Policy.{members}
use Rattle.policy.proofs.LinesLaws.{members_end, members-feed, members-torn, no_space, no_rise, no_digit, one_member_lem}
use Rattle.policy.proofs.read_members.Goals as goal
use Rattle.policy.proofs.read_members.Goals.{in_default, in_default-2, then-digit-last-via-then-digit-last, then-digit-last-via-else-digit-last+then-digit-gt57}

pub loop-rest-init : goal.loop-rest-init
loop-rest-init c = (refl, omega arith, omega arith, omega arith)

pub returns-then-digit-last : goal.returns-then-digit-last
returns-then-digit-last c =
    let l = c.loop-rest in
    elim c.then-digit-last.branch [
      | then-digit-last-via-then-digit-last w ↦ sym (no_rise l.last l.set l.rest.now (omega arith) (omega arith) (omega (arith, w.if-digit-last.true))) ∙ l.invariant.0
      | then-digit-last-via-else-digit-last+then-digit-gt57 w ↦ sym (no_digit l.last l.set l.rest.now (omega arith) (omega arith) (omega (arith, w.if-digit-last.false)) (omega (arith, w.if-digit-gt57.true))) ∙ l.invariant.0
    ]

pub loop-rest-preserved : goal.loop-rest-preserved
loop-rest-preserved c =
    let l = c.loop-rest in
    let rest = l.rest.now in
    let all : take (length rest - 2) (drop 2 rest) ≡ drop 2 rest = take_all (length rest - 2) (drop 2 rest) (omega (arith, length-drop 2 rest)) in
    let step : members (get_or rest 1 0) (l.set + c.worth-set.result) (take (length rest - 2) (drop 2 rest)) ≡ members 48 0 c.args.line.now =
    rw (all, c.worth-set.ensures.0)
    (sym (one_member_lem l.last l.set rest (omega arith) (omega arith) (omega (arith, c.if-digit-last.false)) (omega (arith, c.if-digit-gt57.false))) ∙ l.invariant.0)
    in (
      step,
      omega arith,
      omega arith,
      omega arith,
    )

pub returns-in-10 : goal.returns-in-10
returns-in-10 c =
    let l = c.loop-rest in
    sym (members-feed l.last l.set l.rest.now (omega arith) (omega arith) (omega arith)) ∙ l.invariant.0

pub returns-in_default-rest : goal.returns-in_default-rest
returns-in_default-rest c = let l = c.loop-rest in sym (members_end l.last l.set l.rest.now (omega arith)) ∙ l.invariant.0

pub returns-in_default-rest-2 : goal.returns-in_default-rest-2
returns-in_default-rest-2 c =
    let l = c.loop-rest in
    sym (members-torn l.last l.set l.rest.now (omega arith) (omega arith) (λ e. omega arith)) ∙ l.invariant.0

pub returns-in_default-rest-3 : goal.returns-in_default-rest-3
returns-in_default-rest-3 c =
    let l = c.loop-rest in
    elim c.if-rest-lt2.branch [
      | in_default w ↦ absurd (omega arith)
      | in_default-2 w ↦ sym (no_space l.last l.set l.rest.now (omega arith) (λ e. omega arith)) ∙ l.invariant.0
    ]
