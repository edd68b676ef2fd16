-- Which pieces a group has, by its members' marks, and how many: all, or, of the empty group, none.
-- Assumes nothing.
use mathlib.Core.Path.{◌≡◌}
use mathlib.Core.Bool.{true, ◌&&◌}
use Prim.Native.Nat.{ℕ, ◌+◌, ◌≤◌}
use native.Mathlib.Omega.{arith}
use borrow.Author.Tests.{eq-eqb, eqb-true}
use Rattle.lists.specs.Places.{first_in}
use Rattle.lists.proofs.Truth.{never, both, and_both}
use Rattle.lists.proofs.FirstLaws.{first_of, has_test, below_end, found_some, some-found}
use Rattle.lists.proofs.ThoseLaws.{at_in, in_those, those-few, those-all, those-full}
use Rattle.planning.specs.Sets.{member}
use Rattle.planning.proofs.SetLaws.{nobody_in}
use Rattle.holdings.specs.Holdings.{Holdings, owns, has, have}
use Rattle.holdings.specs.Laws.{HasMeans}

pub has_of : (l : Holdings) (g j i : ℕ) → 1 ≤ i → i ≤ l.people → member i g ≡ true → owns l i j ≡ true → has l g j ≡ true
unfolding has
has_of l g j i a b m t =
    let r = first_of (λ x. member x g && owns l x j) 1 (l.people + 1) i a (omega arith) (and_both m t) in
    found_some (λ (z : first_in (λ x. member x g && owns l x j) 1 (l.people + 1) ≡ 0). omega (arith, r.0.from))

pub has-at : (l : Holdings) (g j : ℕ) → has l g j ≡ true → (i : ℕ) × (1 ≤ i) × (i ≤ l.people) × (member i g ≡ true) × (owns l i j ≡ true)
unfolding has
has-at l g j t =
    let f = first_in (λ x. member x g && owns l x j) 1 (l.people + 1) in
    let one = some-found f t in
    let r = has_test (λ x. member x g && owns l x j) 1 (l.people + 1) (λ z. omega arith) in
    let s = both (member f g) (owns l f j) r.0 in
    (f, r.1, below_end (λ x. member x g && owns l x j) l.people, s.0, s.1)

pub has-means : HasMeans
unfolding owns
has-means l g j = (
  (λ t. let r = has-at l g j t in (r.0, r.1, r.2, r.3, eqb-true _ _ r.4)),
  (λ r. has_of l g j r.0 r.1 r.2 r.3 (eq-eqb _ _ r.4)),
)

-- ---- how many
have-few : (l : Holdings) (g : ℕ) → have l g ≤ l.pieces
unfolding have
have-few l g = those-few (has l g) 1 l.pieces

-- all pieces
pub have-all : (l : Holdings) (g : ℕ) → l.pieces ≤ have l g → (j : ℕ) → 1 ≤ j → j ≤ l.pieces → has l g j ≡ true
unfolding have
have-all l g h j a b =
    let e : have l g ≡ l.pieces = omega (arith, have-few l g) in
    those-all (has l g) 1 l.pieces e j a (omega arith)

pub all_have : (l : Holdings) (g : ℕ) → ((j : ℕ) → 1 ≤ j → j ≤ l.pieces → has l g j ≡ true) → have l g ≡ l.pieces
unfolding have
all_have l g h = those-full (has l g) 1 l.pieces (λ j a b. h j a (omega arith))

-- the empty group has none
pub empty_has : (l : Holdings) → 1 ≤ have l 0 → ⊥
unfolding have
empty_has l h =
    let r = in_those (has l 0) 1 l.pieces _ (at_in 0 _ 0 h) in
    let s = has-at l 0 _ r.2 in
    never (nobody_in s.0) s.3
