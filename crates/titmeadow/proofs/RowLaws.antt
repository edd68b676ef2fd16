-- From rows of member marks back to groups: a row's number is its group, and the rows of a plan give the groups of its pieces.
-- Assumes nothing.
use mathlib.Core.Path.{◌≡◌, refl, sym, ap, ap₂, ◌∙◌}
use mathlib.Core.Bool.{Bool}
use mathlib.Core.List.{List, [], ◌∷◌, ◌++◌, map, map-append, Memᴰ}
use Prim.Native.Nat.{ℕ, ◌+◌, ◌-◌, ◌^◌, ◌≤◌, ◌<◌, zero-le}
use native.Mathlib.Numerals.{add-one}
use native.Mathlib.Omega.{arith}
use lib.Dec.{eqb}
use lib.ListN.{length, get_or, set, take, replicate, length-append, length-replicate, length-map}
use borrow.Author.Tests.{eqb-true}
use lib.Pow.{pow_mono}
use lib.Seq.{take-suc, take_at, length-take-le}
use Rattle.answer.specs.Outcome.{done}
use Rattle.lists.specs.Over.{over}
use Rattle.lists.proofs.OverLaws.{over_more}
use Rattle.lists.specs.Places.{those}
use Rattle.lists.proofs.ThoseLaws.{in_those, those-all}
use Rattle.planning.specs.Sets.{member, marks}
use Rattle.planning.specs.Groups.{maximal_by, groups_by, groups, authorised, rows_of}
use Rattle.planning.specs.Policy.{Policy}
use Rattle.planning.specs.Planned.{planned, planned_rows, rows_for}
use Rattle.planning.proofs.Laws.{accepted-listed, some-piece}
use Rattle.titmeadow.specs.Inner.{number_of}

-- ---- a row's number is its group: one test that antt computes over the 256 groups
right : ℕ → Bool
right g = eqb (number_of (marks g)) g

tested : length (those right 0 256) ≡ 256
unfolding those right number_of marks member
tested = refl

number-marks : (g : ℕ) → g < 256 → number_of (marks g) ≡ g
number-marks g h = eqb-true (number_of (marks g)) g (unfold right in those-all right 0 256 tested g zero-le (omega arith))

-- ---- the rows of groups give the groups
numbers : (l : List ℕ) → ((g : ℕ) → Memᴰ g l → g < 256) → map number_of (map marks l) ≡ l
numbers [] h = refl
numbers (g ∷ l) h = ap₂ (λ (x : ℕ) (y : List ℕ). x ∷ y) (number-marks g (h g (Memᴰ.head refl))) (numbers l (λ s m. h s (Memᴰ.tail m)))

pub rows-numbers : (p : Policy) (k : ℕ) → planned p ≡ done k
    → map number_of (take k (planned_rows p)) ≡ groups p.people p.required
unfolding planned_rows rows_of groups_by
rows-numbers p k e =
    let l = groups p.people p.required in
    let few = (accepted-listed p k e).few in
    let count : length (map marks l) ≡ k = length-map l marks ∙ sym (some-piece p k e).0 in
    let most : 2 ^ p.people ≤ 2 ^ 8 = pow_mono few in
    ap (λ o. map number_of (take k (rows_for o l))) e
    ∙ ap (map number_of) (take_at (map marks l) (replicate (70 - length l) (marks 0)) k count)
    ∙ numbers l (λ g m. omega (arith, (in_those (maximal_by (authorised p.required) p.people) 0 (2 ^ p.people) g m).1))

pub rows_seventy : (p : Policy) (k : ℕ) → planned p ≡ done k → length (planned_rows p) ≡ 70
unfolding planned_rows rows_of
rows_seventy p k e =
    let l = groups p.people p.required in
    let s = some-piece p k e in
    ap (λ o. length (rows_for o l)) e
    ∙ omega (arith, length-append (map marks l) (replicate (70 - length l) (marks 0)), length-map l marks, length-replicate (70 - length l) (marks 0), s.0, s.2)

-- ---- the loop: one row more
pub write_on : (rows : List (List Bool)) (old now : List ℕ) (j v : ℕ) → j < length rows → j < length old → v ≡ number_of (get_or rows j [])
    → now ≡ over (map number_of (take j rows)) old → set now j v ≡ over (map number_of (take (j + 1) rows)) old
write_on rows old now j v h l e is =
    let done = map number_of (take j rows) in
    let n : length done ≡ j = length-map (take j rows) number_of ∙ length-take-le j rows (omega arith) in
    let more : map number_of (take (j + 1) rows) ≡ done ++ v ∷ [] = rw (add-one, take-suc rows j [] h, map-append, e) in
    ap (λ (r : List ℕ). set r j v) is ∙ (rw n at (over_more done old v (omega arith))) ∙ ap (λ (r : List ℕ). over r old) (sym more)

-- ---- words that fill all that was lent
pub whole-over : (new old : List ℕ) → length new ≡ length old → new ≡ over new old
unfolding over
whole-over [] [] h = refl
whole-over [] (o ∷ old) h = absurd (omega (arith, h))
whole-over (x ∷ new) [] h = absurd (omega (arith, h))
whole-over (x ∷ new) (o ∷ old) h = ap (λ (l : List ℕ). x ∷ l) (whole-over new old (omega (arith, h)))
