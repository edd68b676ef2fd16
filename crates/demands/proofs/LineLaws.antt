-- Lines in order: every list of them ends with its result or with the first line that is given.
-- Assumes nothing.
use Prim.Native.Nat.{ℕ}
use mathlib.Core.Path.{◌≡◌, refl, ap}
use mathlib.Core.Bool.{Bool, true, false}
use mathlib.Core.List.{List, [], ◌∷◌}
use mathlib.Core.Logic.{inl, inr, ⊎_elim}
use Rattle.answer.specs.Outcome.{Outcome, done, refused, number}
use Rattle.answer.specs.Checks.{Line, pick, first_fail}
use Rattle.answer.specs.Laws.{Passed}
use Rattle.answer.proofs.CheckLaws.{passed_none, passed_one}
use Rattle.demands.specs.Demand1.{Speaks, Ends}

-- ---- with a line more in front
later : {l : Line} {ls : List Line} {m a b : ℕ} → l.given ≡ false → Speaks ls m a b → Speaks (l ∷ ls) m a b
later {l} e s = record {
  before = l ∷ s.before;
  line = s.line;
  after = s.after;
  lines = ap (λ (ks : List Line). l ∷ ks) s.lines;
  passed = passed_one e s.passed;
  given = s.given;
  number_is = s.number_is;
  a-is = s.a-is;
  b-is = s.b-is;
}

ends_pick : {A : Type 0} (l : Line) (ls : List Line) (v : A) (x : Bool) (o : Outcome A) → l.given ≡ x → Ends ls v o
    → Ends (l ∷ ls) v (pick x (refused (number l.kind) l.a l.b) o)
ends_pick l ls v true o e h = inr (
  number l.kind,
  l.a,
  l.b,
  record { before = []; line = l; after = ls; lines = refl; passed = passed_none; given = e; number_is = refl; a-is = refl; b-is = refl },
  refl,
)
ends_pick l ls v false o e h =
    ⊎_elim (λ (p : Passed ls × (o ≡ done v)). inl (passed_one e p.0, p.1))
    (λ (r : (m : ℕ) × (a : ℕ) × (b : ℕ) × Speaks ls m a b × (o ≡ refused m a b)). inr (r.0, r.1, r.2, later e r.3, r.4)) h

pub ends : {A : Type 0} (ls : List Line) (v : A) → Ends ls v (first_fail ls (done v))
unfolding first_fail
ends [] v = inl (passed_none, refl)
ends (l ∷ ls) v = ends_pick l ls v l.given (first_fail ls (done v)) refl (ends ls v)
