-- The laws that this room owes; their proofs are in proofs/Laws.antt.
-- Assumes nothing.
use Rattle.std.specs.Prelude.{◌≡◌, Result, IfOk, Bool, true, false, List, ◌↔◌, ◌⊎◌, ◌≢◌, ℕ, ◌+◌, ◌^◌, ◌≤◌, ◌<◌, eqb, length}
use Rattle.answer.specs.declared.Refusal.{Refusal}
use Rattle.answer.specs.declared.Kind.TheVariants.{LongList, Stranger, Open, Lone, Clash}
use Rattle.answer.specs.Outcome.{done, refused, number, outcome_by}
use Rattle.lists.specs.Places.{at}
use Rattle.answer.specs.Laws.{Passed}
use Rattle.lists.specs.Laws.{IsFirst}
use Rattle.chains.specs.Apart.{most}
use Rattle.planning.specs.declared.table.Plan.{Plan}
use Rattle.planning.specs.Sets.{member, inside, stranger, member_count, one_member}
use Rattle.lists.specs.Some.{◌∈◌, some}
use Rattle.planning.specs.Groups.{authorised, maximal, piece_count, group_of, holds, held, marked}
use Rattle.planning.specs.Policy.{Policy, policy_of}
use Rattle.planning.specs.Planned.{list_lines, planned, planned_rows}

-- ---- what the numbers mean
-- A set has a stranger exactly when somebody in it has a number from n + 1 to 16.
abbrev pub StrangerMeans : Type 0
StrangerMeans = (n s : ℕ) → s < 2 ^ 16 → (stranger n s ≡ true) ↔ ((i : ℕ) × (n < i) × (i ≤ 16) × (member i s ≡ true))

-- A set lies inside another exactly when each of its persons is in the other.
abbrev pub InsideMeans : Type 0
InsideMeans = (a b : ℕ) → a < 2 ^ 16 → (inside a b ≡ true) ↔ ((i : ℕ) → 1 ≤ i → member i a ≡ true → member i b ≡ true)

-- A set has exactly one member exactly when somebody is in it, and nobody else is.
abbrev pub OneMemberMeans : Type 0
OneMemberMeans = (s : ℕ) → s < 2 ^ 16
    → (one_member s ≡ true) ↔ ((i : ℕ) × (1 ≤ i) × (member i s ≡ true) × ((j : ℕ) → 1 ≤ j → member j s ≡ true → j ≡ i))

-- ---- lists on which refusals 1 to 5 and 22 pass
pub record Listed (p : Policy) : Type 0 where
  pub somebody : 1 ≤ p.people
  pub few : p.people ≤ 8
  pub short-required : length p.required ≤ 256
  pub short-forbidden : length p.forbidden ≤ 256
  pub known-required : (s : ℕ) → s ∈ p.required → s < 2 ^ p.people
  pub known-forbidden : (s : ℕ) → s ∈ p.forbidden → s < 2 ^ p.people
  pub some-required : 1 ≤ length p.required
  pub none_empty : (s : ℕ) → s ∈ p.required → 1 ≤ s
  pub none_alone : (s : ℕ) → s ∈ p.required → 2 ≤ member_count s

-- They have 1 to 8 people, at most 256 sets each, all of them groups, and a required set; each required set has two members at least.
abbrev pub ListedMeans : Type 0
ListedMeans = (p : Policy) → Passed (list_lines p) → Listed p

-- ---- at which places they are refused
-- LONGLIST: a says which list is too long, and the forbidden one, 2, is named only where the required one, 1, is not; b is 0.
abbrev pub LongPlaces : Type 0
LongPlaces = (p : Policy) (a b : ℕ) → planned p ≡ refused (number LongList) a b
    → (((a ≡ 1) × (256 < length p.required)) ⊎ ((a ≡ 2) × (length p.required ≤ 256) × (256 < length p.forbidden)))
    × (b ≡ 0)

-- b is the first place in the list of a set that names a person above n
abbrev pub StrangerFirst : ℕ → List ℕ → ℕ → Type 0
StrangerFirst n sets b = IsFirst (λ i. stranger n (at sets i)) 1 (length sets + 1) b

-- STRANGER: a says in which list, and the forbidden one is named only where no required set names a stranger; b is the place.
abbrev pub StrangerPlaces : Type 0
StrangerPlaces = (p : Policy) (a b : ℕ) → planned p ≡ refused (number Stranger) a b
    → ((a ≡ 1) × StrangerFirst p.people p.required b)
    ⊎ ((a ≡ 2) × ((s : ℕ) → s ∈ p.required → stranger p.people s ≡ false) × StrangerFirst p.people p.forbidden b)

-- OPEN: a is the first place of a required set of nobody; b is 0.
abbrev pub OpenPlaces : Type 0
OpenPlaces = (p : Policy) (a b : ℕ) → planned p ≡ refused (number Open) a b
    → IsFirst (λ i. eqb 0 (at p.required i)) 1 (length p.required + 1) a × (b ≡ 0)

-- LONE: a is the first place of a required set with exactly one member; b is 0.
abbrev pub LonePlaces : Type 0
LonePlaces = (p : Policy) (a b : ℕ) → planned p ≡ refused (number Lone) a b
    → IsFirst (λ i. one_member (at p.required i)) 1 (length p.required + 1) a × (b ≡ 0)

-- ---- the clash rule (000, Theorem 2)
-- SCOPE 2: the three properties of a family of groups, F g being that g is in it. Each required set is in it; no forbidden set is; and with
-- a group, every group around that one is.
pub record Suits (p : Policy) (F : ℕ → Type 0) : Type 0 where
  pub required_in_lem : (s : ℕ) → s ∈ p.required → F s
  pub forbidden_out : (s : ℕ) → s ∈ p.forbidden → F s → ⊥
  pub larger_in : (g h : ℕ) → g < 2 ^ p.people → h < 2 ^ p.people → inside g h ≡ true → F g → F h

-- CLASH is what planning answers
abbrev pub Clashes : Policy → Type 0
Clashes p = (a : ℕ) × (b : ℕ) × (planned p ≡ refused (number Clash) a b)

-- SCOPE 2: let refusals 1 to 5 and 22 pass; then CLASH is the answer exactly if no family has these properties. Where it is given, no family at
-- all has them; where it is not, one that is a test has them.
abbrev pub ClashFamilies : Type 1
ClashFamilies = (p : Policy) → Passed (list_lines p)
    → (Clashes p → (F : ℕ → Type 0) → Suits p F → ⊥)
    × ((Clashes p → ⊥) → (F : ℕ → Bool) × Suits p (λ g. F g ≡ true))
    × (Clashes p ↔ ((F : ℕ → Bool) → Suits p (λ g. F g ≡ true) → ⊥))

-- CLASH's places: of the first required set inside a forbidden one, and of the first forbidden set around it
abbrev pub ClashPlaces : Type 0
ClashPlaces = (p : Policy) (a b : ℕ) → planned p ≡ refused (number Clash) a b
    → IsFirst (λ i. some (inside (at p.required i)) p.forbidden) 1 (length p.required + 1) a
    × IsFirst (λ i. inside (at p.required a) (at p.forbidden i)) 1 (length p.forbidden + 1) b

-- ---- maximal groups
-- person i is the one member of the set s whom the group g lacks
abbrev pub OnlyLacks : ℕ → ℕ → ℕ → Type 0
OnlyLacks g s i =
    (member i s ≡ true) × (member i g ≡ false) × ((j : ℕ) → 1 ≤ j → j ≤ 16 → member j s ≡ true → member j g ≡ false → j ≡ i)

-- A group is maximal exactly when no required set lies inside it, and each of the n people outside it is the one member whom it lacks of some
-- required set. The list may be any: a set with a stranger lies in no group of the n people, and none of them is all that such a group lacks of it.
abbrev pub MaximalByMissing : Type 0
MaximalByMissing = (n : ℕ) (required : List ℕ) (g : ℕ) → n ≤ 16
    → (maximal n required g ≡ true)
    ↔ (((s : ℕ) → s ∈ required → inside s g ≡ false)
    × ((i : ℕ) → 1 ≤ i → i ≤ n → member i g ≡ false → (s : ℕ) × (s ∈ required) × OnlyLacks g s i))

-- ---- pieces and holdings (000, Theorem 1)
-- The groups of the pieces are the maximal unauthorised groups.
abbrev pub GroupsAre : Type 0
GroupsAre = (n : ℕ) (required : List ℕ) (g : ℕ)
    → ((g < 2 ^ n) × (maximal n required g ≡ true)) ↔ ((j : ℕ) × (1 ≤ j) × (j ≤ piece_count n required) × (group_of n required j ≡ g))

-- They rise with the piece's number, so no two pieces have the same group.
abbrev pub GroupsRise : Type 0
GroupsRise = (n : ℕ) (required : List ℕ) (i j : ℕ) → 1 ≤ i → i < j → j ≤ piece_count n required → group_of n required i < group_of n required j

-- What a person has: the pieces of 1 to k that the person holds, and no others.
abbrev pub HeldAre : Type 0
HeldAre = (n : ℕ) (required : List ℕ) (i j : ℕ)
    → (j ∈ held n required i) ↔ ((1 ≤ j) × (j ≤ piece_count n required) × (holds n required i j ≡ true))

-- A group of the n people is authorised exactly when for every piece some member holds it.
abbrev pub Gathers : Type 0
Gathers = (n : ℕ) (required : List ℕ) → n ≤ 8 → (g : ℕ) → g < 2 ^ n
    → (authorised required g ≡ true)
    ↔ ((j : ℕ) → 1 ≤ j → j ≤ piece_count n required → (i : ℕ) × (1 ≤ i) × (i ≤ n) × (member i g ≡ true) × (holds n required i j ≡ true))

-- An unauthorised group lies in a maximal one, whose piece no member holds.
abbrev pub Lacks : Type 0
Lacks = (n : ℕ) (required : List ℕ) → n ≤ 8 → (g : ℕ) → g < 2 ^ n → authorised required g ≡ false
    → (j : ℕ) × (1 ≤ j) × (j ≤ piece_count n required) × (inside g (group_of n required j) ≡ true)
    × ((i : ℕ) → 1 ≤ i → i ≤ n → member i g ≡ true → holds n required i j ≡ false)

-- ---- how many pieces there can be (SCOPE 2.2), for any required list
-- None of the groups of the pieces lies inside another.
abbrev pub GroupsApart : Type 0
GroupsApart = (n : ℕ) (required : List ℕ) → n ≤ 8 → (i j : ℕ) → 1 ≤ i → i ≤ piece_count n required → 1 ≤ j → j ≤ piece_count n required → i ≢ j
    → inside (group_of n required i) (group_of n required j) ≡ false

-- So n people give no more of them than 1, 2, 3, 6, 10, 20, 35, 70, for n of 1 to 8.
abbrev pub FewGroups : Type 0
FewGroups = (n : ℕ) (required : List ℕ) → n ≤ 8 → piece_count n required ≤ most n

-- And nobody holds over 35 pieces.
abbrev pub FewBlocks : Type 0
FewBlocks = (n : ℕ) (required : List ℕ) → n ≤ 8 → (i : ℕ) → 1 ≤ i → i ≤ n → length (held n required i) ≤ 35

-- ---- an accepted policy
-- It passes refusals 1 to 5 and 22.
abbrev pub AcceptedListed : Type 0
AcceptedListed = (p : Policy) (k : ℕ) → planned p ≡ done k → Listed p

-- It has k pieces, 2 to 70: with one piece alone, whoever holds it would open alone.
abbrev pub SomePiece : Type 0
SomePiece = (p : Policy) (k : ℕ) → planned p ≡ done k
    → (k ≡ piece_count p.people p.required) × (2 ≤ k) × (k ≤ 70)

-- SCOPE 2: two accepted policies that differ in the forbidden list alone have the same pieces and holdings.
abbrev pub ForbiddenFree : Type 0
ForbiddenFree = (p : Policy) (others : List ℕ) (k l : ℕ) → let q = policy_of p.people p.required others in
    planned p ≡ done k → planned q ≡ done l → (k ≡ l) × (planned_rows p ≡ planned_rows q)

-- Row j marks person i exactly when i is in the group of piece j; rows past k mark nobody.
abbrev pub RowsMean : Type 0
RowsMean = (p : Policy) (k : ℕ) → planned p ≡ done k → (i j : ℕ) → 1 ≤ i → i ≤ 8 → 1 ≤ j
    → (j ≤ k → marked (planned_rows p) j i ≡ member i (group_of p.people p.required j))
    × (k < j → marked (planned_rows p) j i ≡ false)

-- SCOPE 6.1: where the plan is refused, no row marks anybody.
abbrev pub RefusedRows : Type 0
RefusedRows = (p : Policy) (m a b : ℕ) → planned p ≡ refused m a b
    → (i j : ℕ) → marked (planned_rows p) j i ≡ false

-- ---- one plan
-- what planning promises of a plan or a refusal
pub record Promised (p : Policy) (x : Result Plan Refusal) : Type 0 where
  pub says : outcome_by (λ (plan : Plan). plan.pieces) x ≡ planned p
  pub table : IfOk x (λ (plan : Plan). plan.rows ≡ planned_rows p)

-- Two plans that the promise allows are equal.
abbrev pub PlanOne : Type 0
PlanOne = (p : Policy) (x y : Result Plan Refusal) → Promised p x → Promised p y → x ≡ y
