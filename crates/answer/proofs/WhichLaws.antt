-- Which line a refusal is of: lines with other numbers pass before it. And a place that a line's search found is the first.
-- Assumes nothing.
use mathlib.Core.Path.{◌≡◌, refl, sym, subst}
use mathlib.Core.Bool.{Bool, true, false}
use mathlib.Core.List.Memᴰ
use mathlib.Core.List.{List, [], ◌∷◌, ◌++◌}
use mathlib.Core.Logic.{◌⊎◌, inl, inr, ⊎_elim, ◌≢◌}
use Prim.Native.Nat.{ℕ, ◌+◌}
use lib.Dec.{eqb}
use lib.ListN.{length}
use borrow.Author.Tests.{not-true, eqb-false, eq-eqb}
use Rattle.lists.specs.Places.{first_in, first_place, found, at}
use Rattle.lists.specs.Some.{◌∈◌, some}
use Rattle.lists.specs.Laws.{IsFirst}
use Rattle.lists.proofs.Truth.{never, neither}
use Rattle.lists.proofs.SomeLaws.{in_some}
use Rattle.lists.proofs.FirstLaws.{first_of, has_test, below_in}
use Rattle.answer.specs.Outcome.{Outcome, done, refused, number}
use Rattle.answer.specs.Checks.{Line, pick, first_fail, numbers}
use Rattle.answer.specs.Laws.{Passed}
use Rattle.answer.proofs.CheckLaws.{passed_none, passed_one, refused_by}
use Rattle.answer.proofs.OneLaws.{seven_vacant}

-- the refusal m, a, b is that of the line l
pub record Gives (l : Line) (m a b : ℕ) : Type 0 where
  pub given : l.given ≡ true
  pub number_is : number l.kind ≡ m
  pub a-is : l.a ≡ a
  pub b-is : l.b ≡ b

-- no line of the list has the number m
abbrev pub Without : ℕ → List Line → Type 0
Without m ls = some (eqb m) (numbers ls) ≡ false

-- ---- it is that of some line
pub refused-number : {A : Type 0} (ls : List Line) (v : A) (m a b : ℕ) → first_fail ls (done v) ≡ refused m a b → m ∈ numbers ls
refused-number ls v m a b e =
    let r = refused_by ls v m a b e in
    subst (λ (x : ℕ). x ∈ numbers ls) r.number_is (Memᴰ.map (λ (l : Line). number l.kind) r.listed)

-- and none has the number 7
pub not_seven : {A : Type 0} (ls : List Line) (v : A) (a b : ℕ) → first_fail ls (done v) ≢ refused 7 a b
not_seven ls v a b e = let r = refused_by ls v 7 a b e in seven_vacant r.line.kind r.number_is

pub none-gives : {A : Type 0} (m : ℕ) (ls : List Line) (v : A) (a b : ℕ) → first_fail ls (done v) ≡ refused m a b → Without m ls → ⊥
none-gives m ls v a b e n = never n (in_some (eqb m) (numbers ls) m (refused-number ls v m a b e) (eq-eqb m m refl))

-- ---- the first line gives it, or passes
either : {A : Type 0} (l : Line) (o : Outcome A) (m a b : ℕ) (x : Bool) → l.given ≡ x
    → pick x (refused (number l.kind) l.a l.b) o ≡ refused m a b → Gives l m a b ⊎ ((l.given ≡ false) × (o ≡ refused m a b))
either l o m a b true g e = inl (record { given = g; number_is = cc; a-is = cc; b-is = cc })
either l o m a b false g e = inr (g, e)

pub this_or_later : {A : Type 0} (m : ℕ) (l : Line) (ls : List Line) (end : Outcome A) (a b : ℕ) → first_fail (l ∷ ls) end ≡ refused m a b
    → Gives l m a b ⊎ ((l.given ≡ false) × (first_fail ls end ≡ refused m a b))
unfolding first_fail
this_or_later m l ls end a b e = either l (first_fail ls end) m a b l.given refl e

-- ---- lines with other numbers pass, and those after them give it
pub after-others : {A : Type 0} (m : ℕ) (ls ms : List Line) (end : Outcome A) (a b : ℕ) → first_fail (ls ++ ms) end ≡ refused m a b → Without m ls
    → Passed ls × (first_fail ms end ≡ refused m a b)
unfolding some
after-others m [] ms end a b e n = (passed_none, e)
after-others m (l ∷ ls) ms end a b e n =
    let o = neither (eqb m (number l.kind)) (some (eqb m) (numbers ls)) n in
    ⊎_elim
    (λ (g : Gives l m a b). absurd (eqb-false _ _ o.0 (sym g.number_is)))
    (λ (r : (l.given ≡ false) × (first_fail (ls ++ ms) end ≡ refused m a b)).
    let s = after-others m ls ms end a b r.1 o.1 in
    (passed_one r.0 s.0, s.1))
    (this_or_later m l (ls ++ ms) end a b e)

-- one line has the number
pub only_one : {A : Type 0} (m : ℕ) (ls : List Line) (l : Line) (ms : List Line) (v : A) (a b : ℕ) → first_fail (ls ++ l ∷ ms) (done v) ≡ refused m a b
    → Without m ls → Without m ms → Passed ls × Gives l m a b
only_one m ls l ms v a b e before after =
    let r = after-others m ls (l ∷ ms) (done v) a b e before in (
      r.0,
      ⊎_elim (λ (g : Gives l m a b). g)
          (λ (s : (l.given ≡ false) × (first_fail ms (done v) ≡ refused m a b)). absurd (none-gives m ms v a b s.1 after))
          (this_or_later m l ms (done v) a b r.1),
    )

-- two lines have it, one after the other: the second gives it only where the first passes
pub one_of_two : {A : Type 0} (m : ℕ) (ls : List Line) (l k : Line) (ms : List Line) (v : A) (a b : ℕ)
    → first_fail (ls ++ l ∷ k ∷ ms) (done v) ≡ refused m a b → Without m ls → Without m ms → Gives l m a b ⊎ ((l.given ≡ false) × Gives k m a b)
unfolding some
one_of_two m ls l k ms v a b e before after =
    ⊎_elim (λ (g : Gives l m a b). inl g)
    (λ (s : (l.given ≡ false) × (first_fail (k ∷ ms) (done v) ≡ refused m a b)). inr (s.0, (only_one m [] k ms v a b s.1 refl after).1))
    (this_or_later m l (k ∷ ms) (done v) a b (after-others m ls (l ∷ k ∷ ms) (done v) a b e before).1)

-- ---- a place that is found is the first
pub first_found : (t : ℕ → Bool) (i e : ℕ) {f : ℕ} → found (first_in t i e) ≡ true → first_in t i e ≡ f → IsFirst t i e f
first_found t i e h q =
    let some = eqb-false _ _ (not-true _ h) in
    let r = has_test t i e some in
    subst (IsFirst t i e) q (first_of t i e (first_in t i e) r.1 (below_in t i e some) r.0).0

pub first-is : (t : ℕ → Bool) (n : ℕ) {f : ℕ} → found (first_in t 1 (n + 1)) ≡ true → first_in t 1 (n + 1) ≡ f → IsFirst t 1 (n + 1) f
first-is t n = first_found t 1 (n + 1)

pub place_is : (test : ℕ → Bool) (l : List ℕ) {f : ℕ} → found (first_place test l) ≡ true → first_place test l ≡ f
    → IsFirst (λ i. test (at l i)) 1 (length l + 1) f
unfolding first_place
place_is test l e q = first-is (λ i. test (at l i)) (length l) e q
