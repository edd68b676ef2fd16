-- Lines in order: which one speaks, what a result shows of all of them, and how a code's chain of checks follows the list.
-- Assumes nothing.
use mathlib.Core.Path.{◌≡◌, refl, sym, ap, ◌∙◌}
use mathlib.Core.Bool.{Bool, true, false}
use mathlib.Core.List.Memᴰ
use mathlib.Core.List.{List, [], ◌∷◌, ◌++◌, Memᴰ}
use mathlib.Core.Logic.{⊎_elim}
use Prim.Native.Nat.{ℕ}
use native.Mathlib.Omega.{arith}
use Rattle.answer.specs.declared.Refusal.{Refusal}
use Rattle.std.specs.Prelude.{⊤, Result, Ok, Err}
use Rattle.answer.specs.Outcome.{Outcome, done, refused, number, checked}
use Rattle.answer.specs.Checks.{Line, pick, first_fail}
use Rattle.answer.specs.Laws.{Passed, By}

-- ---- one line
pub given : {A : Type 0} (l : Line) (ls : List Line) (end : Outcome A) → l.given ≡ true → first_fail (l ∷ ls) end ≡ refused (number l.kind) l.a l.b
unfolding first_fail
given l ls end e = rw e

pub not_given : {A : Type 0} (l : Line) (ls : List Line) (end : Outcome A) → l.given ≡ false → first_fail (l ∷ ls) end ≡ first_fail ls end
unfolding first_fail
not_given l ls end e = rw e

-- ---- several
pub append-lines : {A : Type 0} (ls ms : List Line) (end : Outcome A) → first_fail (ls ++ ms) end ≡ first_fail ls (first_fail ms end)
unfolding first_fail
append-lines [] ms end = refl
append-lines (l ∷ ls) ms end = ap (pick l.given (refused (number l.kind) l.a l.b)) (append-lines ls ms end)

-- a result and a refusal are not the same
pub never_both : {A B : Type 0} {v : A} {m a b : ℕ} → done v ≡ refused m a b → B
never_both e = let z : ◌≡◌ {A = ℕ} 0 1 = cc in let w : ⊥ = omega arith in absurd w

-- a refusal does not depend on what stands at the end
same-pick : {A B : Type 0} (x : Bool) (m a b m' a' b' : ℕ) (o : Outcome A) (o' : Outcome B)
    → (o ≡ refused m a b → o' ≡ refused m a b) → pick x (refused m' a' b') o ≡ refused m a b → pick x (refused m' a' b') o' ≡ refused m a b
same-pick true m a b m' a' b' o o' f e = let p : m' ≡ m = cc in let q : a' ≡ a = cc in let r : b' ≡ b = cc in rw (p, q, r)
same-pick false m a b m' a' b' o o' f e = f e

pub same_refusal : {A B : Type 0} (ls : List Line) (v : A) (end : Outcome B) (m a b : ℕ) → first_fail ls (done v) ≡ refused m a b → first_fail ls end ≡ refused m a b
unfolding first_fail
same_refusal [] v end m a b e = never_both e
same_refusal (l ∷ ls) v end m a b e =
    same-pick l.given m a b (number l.kind) l.a l.b (first_fail ls (done v)) (first_fail ls end) (same_refusal ls v end m a b) e

-- ---- passed
pub passed_none : Passed []
passed_none = record { none = λ l m. absurd (Memᴰ.not-nil m) }

pub passed_one : {l : Line} {ls : List Line} → l.given ≡ false → Passed ls → Passed (l ∷ ls)
passed_one {l} {ls} e p =
    record { none = λ x m. ⊎_elim (λ (h : x ≡ l). ap (λ (y : Line). y.given) h ∙ e) (λ (h : Memᴰ x ls). p.none x h) (Memᴰ.cases_cons m) }

-- the first line passes, and so do the others
pub passed : {l : Line} {ls : List Line} → Passed (l ∷ ls) → (l.given ≡ false) × Passed ls
passed {l} {ls} p = (p.none l (Memᴰ.head refl), record { none = λ x m. p.none x (Memᴰ.tail m) })

pub passed-append : (ls : List Line) {ms : List Line} → Passed (ls ++ ms) → Passed ls × Passed ms
passed-append [] p = (passed_none, p)
passed-append (l ∷ ls) p = let h = passed p in let r = passed-append ls h.1 in (passed_one h.0 r.0, r.1)

pub passed_both : (ls : List Line) {ms : List Line} → Passed ls → Passed ms → Passed (ls ++ ms)
passed_both [] p q = q
passed_both (l ∷ ls) p q = let h = passed p in passed_one h.0 (passed_both ls h.1 q)

done-pick : {A : Type 0} (x : Bool) (m a b : ℕ) (o : Outcome A) (v : A) → pick x (refused m a b) o ≡ done v → (x ≡ false) × (o ≡ done v)
done-pick true m a b o v e = never_both (sym e)
done-pick false m a b o v e = (refl, e)

pub done-passed : {A : Type 0} (ls : List Line) (end : Outcome A) (v : A) → first_fail ls end ≡ done v → Passed ls × (end ≡ done v)
unfolding first_fail
done-passed [] end v e = (passed_none, e)
done-passed (l ∷ ls) end v e =
    let r = done-pick l.given (number l.kind) l.a l.b (first_fail ls end) v e in
    let s = done-passed ls end v r.1 in
    (passed_one r.0 s.0, s.1)

pub passed-done : {A : Type 0} (ls : List Line) (end : Outcome A) → Passed ls → first_fail ls end ≡ end
unfolding first_fail
passed-done [] end p = refl
passed-done (l ∷ ls) end p = let h = passed p in not_given l ls end h.0 ∙ passed-done ls end h.1

-- what stands behind lines counts only where they pass
pick_same : {A : Type 0} (x : Bool) (r o o' : Outcome A) → (x ≡ false → o ≡ o') → pick x r o ≡ pick x r o'
pick_same true r o o' f = refl
pick_same false r o o' f = f refl

pub same_after : {A : Type 0} (ls ms ns : List Line) (o o' : Outcome A) → (Passed ls → first_fail ms o ≡ first_fail ns o')
    → first_fail (ls ++ ms) o ≡ first_fail (ls ++ ns) o'
unfolding first_fail
same_after [] ms ns o o' f = f passed_none
same_after (l ∷ ls) ms ns o o' f =
    pick_same l.given (refused (number l.kind) l.a l.b) (first_fail (ls ++ ms) o) (first_fail (ls ++ ns) o')
    (λ e. same_after ls ms ns o o' (λ p. f (passed_one e p)))

-- ---- refused
by_pick : {A : Type 0} (l : Line) (ls : List Line) (x : Bool) (o : Outcome A) (m a b : ℕ) → l.given ≡ x → (o ≡ refused m a b → By ls m a b)
    → pick x (refused (number l.kind) l.a l.b) o ≡ refused m a b → By (l ∷ ls) m a b
by_pick l ls true o m a b g f e = record { line = l; listed = Memᴰ.head refl; given = g; number_is = cc; a-is = cc; b-is = cc }
by_pick l ls false o m a b g f e =
    let r = f e in
    record { line = r.line; listed = Memᴰ.tail r.listed; given = r.given; number_is = r.number_is; a-is = r.a-is; b-is = r.b-is }

pub refused_by : {A : Type 0} (ls : List Line) (v : A) (m a b : ℕ) → first_fail ls (done v) ≡ refused m a b → By ls m a b
unfolding first_fail
refused_by [] v m a b e = never_both e
refused_by (l ∷ ls) v m a b e = by_pick l ls l.given (first_fail ls (done v)) m a b refl (refused_by ls v m a b) e

-- ---- a chain in the code: a callee says what the lines ls say, and the caller goes by its answer
module _ (ls : List Line) {x : Result ⊤ Refusal} (says : checked x ≡ first_fail ls (done 0)) where
  -- a refusal is what these lines say with any lines after them
  pub stops : (ms : List Line) (end : Outcome ℕ) {r : Refusal} → x ≡ Err r → refused (number r.kind) r.a r.b ≡ first_fail (ls ++ ms) end
  stops ms end {r} q =
      sym (append-lines ls ms end
      ∙ same_refusal ls 0 (first_fail ms end) (number r.kind) r.a r.b (sym says ∙ ap checked q))

  -- a result: the lines after them speak
  pub goes_on : (ms : List Line) (end : Outcome ℕ) {u : ⊤} → x ≡ Ok u → first_fail (ls ++ ms) end ≡ first_fail ms end
  goes_on ms end {u} q = append-lines ls ms end ∙ passed-done ls (first_fail ms end) (done-passed ls (done 0) 0 (sym says ∙ ap checked q)).0
