-- From a text that was read to what is printed for it: 257 sets of a list are as good as all, and each answer has its lines.
-- Assumes nothing.
use borrow.Author.Tests.{lt-ltb, le-ltb}
use mathlib.Core.Path.{◌≡◌, refl, sym, ap, ◌∙◌}
use mathlib.Core.Bool.{Bool, true, false, not}
use mathlib.Core.Logic.{⊎_elim}
use mathlib.Core.List.{List}
use native.Mathlib.Omega.{arith}
use Prim.Native.Nat.{ℕ, ◌≤◌, ◌<◌}
use lib.ListN.{length, take}
use lib.Seq.{take_all, take_at, length-take-le}
use Rattle.answer.specs.declared.Refusal.{Refusal}
use Rattle.std.specs.Prelude.{Result, Ok, Err}
use Rattle.answer.specs.Outcome.{Outcome, done, refused, number, outcome_by}
use Rattle.answer.specs.Checks.{pick, first_fail}
use Rattle.planning.specs.Policy.{Policy, policy_of}
use Rattle.planning.specs.declared.table.Plan.{Plan}
use Rattle.planning.specs.Groups.{marked}
use Rattle.planning.specs.Planned.{people, long, list_lines, plan_lines, planned, planned_rows}
use Rattle.planning.proofs.Laws.{accepted-listed, some-piece}
use Rattle.policy.specs.declared.Sets.{Sets}
use Rattle.policy.specs.declared.PolicyText.{PolicyText}
use Rattle.policy.specs.Policy.{Keeps, Holds}
use Rattle.print.specs.Lines.{refused_line}
use Rattle.print.proofs.DecimalLaws.{below}
use Rattle.listing.specs.Listing.{listing_by, listing, answered, listed_plan, listed_policy}
use Rattle.listing.proofs.ListingLaws.{table-listing}

-- ---- 257 sets are too many, as all of them are
module _ (n : ℕ) where
  abbrev too_long : ℕ → Outcome ℕ
  too_long list = pick (people n).given (refused 1 0 0) (refused 2 list 0)

  -- a refusal does not depend on the listing
  too_long_lem : (list : ℕ) (x y : List ℕ) → answered (too_long list) x ≡ answered (too_long list) y
  too_long_lem list x y = go (people n).given
    where
      go : (b : Bool) → answered (pick b (refused 1 0 0) (refused 2 list 0)) x ≡ answered (pick b (refused 1 0 0) (refused 2 list 0)) y
      go true = refl
      go false = refl

  long-required : (r f : List ℕ) → 256 < length r → planned (policy_of n r f) ≡ too_long 1
  unfolding planned plan_lines list_lines long first_fail people
  long-required r f h = simp (lt-ltb 256 (length r) h)

  long-forbidden : (r f : List ℕ) → length r ≤ 256 → 256 < length f → planned (policy_of n r f) ≡ too_long 2
  unfolding planned plan_lines list_lines long first_fail people
  long-forbidden r f h k = simp (le-ltb 256 (length r) h, lt-ltb 256 (length f) k)

  first-sets : (r f : List ℕ) → listed_plan (policy_of n (take 257 r) (take 257 f)) ≡ listed_plan (policy_of n r f)
  unfolding listed_plan
  first-sets r f =
      ⊎_elim
      (λ (p : 256 < length r).
      let l : 256 < length (take 257 r) = omega (arith, length-take-le 257 r p) in
      let x : planned (policy_of n (take 257 r) (take 257 f)) ≡ too_long 1 = long-required (take 257 r) (take 257 f) l in
      ap (λ (o : Outcome ℕ). answered o (listing n (take 257 r))) x ∙ too_long_lem 1 (listing n (take 257 r)) (listing n r)
      ∙ sym (ap (λ (o : Outcome ℕ). answered o (listing n r)) (long-required r f p)))
      (λ (p : length r ≤ 256).
      let all : take 257 r ≡ r = take_all 257 r (omega arith) in
      ap (λ (t : List ℕ). answered (planned (policy_of n t (take 257 f))) (listing n t)) all
      ∙ ⊎_elim
      (λ (q : 256 < length f).
      let l : 256 < length (take 257 f) = omega (arith, length-take-le 257 f q) in
      ap (λ (o : Outcome ℕ). answered o (listing n r)) (long-forbidden r (take 257 f) p l ∙ sym (long-forbidden r f p q)))
      (λ (q : length f ≤ 256). ap (λ (t : List ℕ). answered (planned (policy_of n r t)) (listing n r)) (take_all 257 f (omega arith)))
      (below 256 (length f)))
      (below 256 (length r))

-- ---- what is printed, by planning's answer
pub plan_done : (p : Policy) (k : ℕ) → planned p ≡ done k → listed_plan p ≡ listing p.people p.required
unfolding listed_plan
plan_done p k e = ap (λ (o : Outcome ℕ). answered o (listing p.people p.required)) e

pub plan_refused : (p : Policy) (m a b : ℕ) → planned p ≡ refused m a b → listed_plan p ≡ refused_line m a b
unfolding listed_plan
plan_refused p m a b e = ap (λ (o : Outcome ℕ). answered o (listing p.people p.required)) e

-- ---- what is printed, by the answer of a text that was read, and by the answer of its plan
pub read_not : (o : Outcome Policy) (r : Refusal) → Holds o (Err r) → listed_policy o ≡ refused_line (number r.kind) r.a r.b
read_not (done p) r h = absurd h
read_not (refused m a b) r h = sym (rw (h.0, h.1, h.2))

-- the text's lists are taken as they are read: any two that have the first 257 sets of whatever the text's keep
pub read_lists : (o : Outcome Policy) (t : PolicyText) {required forbidden : List ℕ} → Holds o (Ok t)
    → ((sets : List ℕ) → Keeps sets t.required → required ≡ take 257 sets) → ((sets : List ℕ) → Keeps sets t.forbidden → forbidden ≡ take 257 sets)
    → listed_policy o ≡ listed_plan (policy_of t.people required forbidden)
read_lists (done p) t h r f = sym (rw (h.people, r p.required h.required, f p.forbidden h.forbidden) (first-sets p.people p.required p.forbidden))
read_lists (refused m a b) t h r f = absurd h

kept_sets : {sets : List ℕ} {kept : Sets} → Keeps sets kept → take kept.count kept.sets ≡ take 257 sets
kept_sets {sets} {kept} k = ap (take kept.count) k.filled ∙ take_at (take 257 sets) _ kept.count (sym k.counted)

-- so are the text's own, without the zeros behind them
pub read_to : (o : Outcome Policy) (t : PolicyText) → Holds o (Ok t)
    → listed_policy o ≡ listed_plan (policy_of t.people (take t.required.count t.required.sets) (take t.forbidden.count t.forbidden.sets))
read_to o t h = read_lists o t h (λ sets k. kept_sets k) (λ sets k. kept_sets k)

module _ (p : Policy) (x : Result Plan Refusal) (says : outcome_by (λ (plan : Plan). plan.pieces) x ≡ planned p) where
  pub not_planned : {r : Refusal} → x ≡ Err r → listed_plan p ≡ refused_line (number r.kind) r.a r.b
  not_planned {r} e = plan_refused p (number r.kind) r.a r.b (sym says ∙ ap (outcome_by (λ (plan : Plan). plan.pieces)) e)

  module _ {plan : Plan} (e : x ≡ Ok plan) (rows : plan.rows ≡ planned_rows p) where
    is_planned : planned p ≡ done plan.pieces
    is_planned = sym says ∙ ap (outcome_by (λ (plan : Plan). plan.pieces)) e

    pub few_people : p.people ≤ 8
    few_people = (accepted-listed p plan.pieces is_planned).few

    pub few_pieces : plan.pieces ≤ 70
    few_pieces = (some-piece p plan.pieces is_planned).2

    pub listing-is : listing_by (marked plan.rows) (λ i j. not (marked plan.rows j i)) p.people plan.pieces ≡ listed_plan p
    listing-is =
        ap (λ (rows : List (List Bool)). listing_by (marked rows) (λ i j. not (marked rows j i)) p.people plan.pieces) rows
        ∙ table-listing p plan.pieces is_planned ∙ sym (plan_done p plan.pieces is_planned)
