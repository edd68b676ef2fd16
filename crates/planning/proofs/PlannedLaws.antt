-- Planning's answer and its rows, from what its parts say.
-- Assumes nothing.
use mathlib.Core.Path.{◌≡◌, sym, ap, ◌∙◌}
use mathlib.Core.Bool.{Bool}
use mathlib.Core.List.{List, [], ◌∷◌}
use Prim.Native.Nat.{ℕ}
use Rattle.answer.specs.declared.Refusal.{Refusal}
use Rattle.std.specs.Prelude.{⊤, Result, Ok, Err}
use Rattle.answer.specs.Outcome.{Outcome, done, refused, number, checked}
use Rattle.answer.specs.Checks.{first_fail}
use Rattle.answer.proofs.CheckLaws.{same_refusal, stops, goes_on, passed-append, done-passed, passed-done}
use Rattle.planning.specs.Groups.{groups, piece_count, rows_of}
use Rattle.planning.specs.Policy.{Policy}
use Rattle.planning.specs.Planned.{clash, list_lines, plan_lines, planned, rows_for, planned_rows}
use Rattle.planning.specs.Laws.{Listed}
use Rattle.planning.proofs.ListedLaws.{listed}

-- the answer where no line is given
abbrev pub end : Policy → Outcome ℕ
end p = done (piece_count p.people p.required)

module _ (p : Policy) where
  -- no refusal has been given
  pub record Clear : Type 0 where
    pub listed_so : Listed p
    pub then : planned p ≡ end p

  -- ---- the checks
  -- the lists are refused; or they are not, and CLASH speaks
  pub lists_refuse : {x : Result ⊤ Refusal} {r : Refusal} → checked x ≡ first_fail (list_lines p) (done 0) → x ≡ Err r
      → refused (number r.kind) r.a r.b ≡ first_fail {A = ℕ} (plan_lines p) (done 0)
  unfolding plan_lines
  lists_refuse says q = stops (list_lines p) says (clash p.required p.forbidden ∷ []) (done 0) q

  pub clash_speaks : {x : Result ⊤ Refusal} {u : ⊤} {o : Outcome ℕ} → checked x ≡ first_fail (list_lines p) (done 0) → x ≡ Ok u
      → o ≡ first_fail (clash p.required p.forbidden ∷ []) (done 0) → o ≡ first_fail (plan_lines p) (done 0)
  unfolding plan_lines
  clash_speaks says q says' = says' ∙ sym (goes_on (list_lines p) says (clash p.required p.forbidden ∷ []) (done 0) q)

  -- a refusal of the checks is planning's; else every line has passed
  pub check_refuses : {x : Result ⊤ Refusal} {r : Refusal} → checked x ≡ first_fail (plan_lines p) (done 0) → x ≡ Err r → refused (number r.kind) r.a r.b ≡ planned p
  unfolding planned
  check_refuses {r = r} says q = sym (same_refusal (plan_lines p) 0 (end p) (number r.kind) r.a r.b (sym says ∙ ap checked q))

  pub clear : {x : Result ⊤ Refusal} {u : ⊤} → checked x ≡ first_fail (plan_lines p) (done 0) → x ≡ Ok u → Clear
  unfolding planned plan_lines
  clear {u = u} says q =
      let h = (done-passed (plan_lines p) (done 0) 0 (sym says ∙ ap checked q)).0 in
      record { listed_so = listed p (passed-append (list_lines p) h).0; then = passed-done (plan_lines p) (end p) h }

  -- ---- the plan
  pub refused_plan : {rows : List (List Bool)} {m a b : ℕ} → refused m a b ≡ planned p → rows ≡ rows_of []
      → (refused m a b ≡ planned p) × (rows ≡ planned_rows p)
  unfolding planned_rows
  refused_plan h t = (h, t ∙ ap (λ (o : Outcome ℕ). rows_for o (groups p.people p.required)) h)

  pub filled_plan : {k : ℕ} {rows : List (List Bool)} → Clear → k ≡ piece_count p.people p.required → rows ≡ rows_of (groups p.people p.required)
      → (done k ≡ planned p) × (rows ≡ planned_rows p)
  unfolding planned_rows
  filled_plan c e t = (ap done e ∙ sym c.then, t ∙ rw c.then)
