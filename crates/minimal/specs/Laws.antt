-- The laws that this room owes; their proofs are in proofs/Laws.antt.
-- Assumes nothing.
use Rattle.std.specs.Prelude.{◌≡◌, true, false, List, ◌↔◌, ◌≢◌, ℕ, ◌^◌, ◌≤◌, ◌<◌, length}
use Rattle.lists.specs.Some.{◌∈◌}
use Rattle.chains.specs.Apart.{most}
use Rattle.planning.specs.Sets.{member, inside, member_count}
use Rattle.planning.specs.Groups.{authorised}
use Rattle.minimal.specs.Minimal.{minimals, set_count, set_of, sets_with, counted, number_in}

-- what refusals 1 to 5 make sure of: there are 8 people at most, and every required set is a group of them and not empty
pub record Known (n : ℕ) (required : List ℕ) : Type 0 where
  pub few : n ≤ 8
  pub known : (s : ℕ) → s ∈ required → s < 2 ^ n
  pub none_empty : (s : ℕ) → s ∈ required → 1 ≤ s

-- ---- the minimal sets
-- They are exactly the required sets in which no other required set lies.
abbrev pub TheSets : Type 0
TheSets = (n : ℕ) (required : List ℕ) → Known n required → (g : ℕ)
    → (g ∈ minimals n required) ↔ ((g ∈ required) × ((r : ℕ) → r ∈ required → inside r g ≡ true → r ≡ g))

-- They are the minimal authorised groups (003: the basis of the access structure).
abbrev pub MinimalGroups : Type 0
MinimalGroups = (n : ℕ) (required : List ℕ) → Known n required → (g : ℕ)
    → (g ∈ minimals n required)
    ↔ ((g < 2 ^ n) × (authorised required g ≡ true) × ((h : ℕ) → h < 2 ^ n → authorised required h ≡ true → inside h g ≡ true → h ≡ g))

-- Set s is the s-th of them: each has a place, and each place one of them.
abbrev pub SetPlaces : Type 0
SetPlaces = (n : ℕ) (required : List ℕ) (g : ℕ)
    → (g ∈ minimals n required) ↔ ((s : ℕ) × (1 ≤ s) × (s ≤ set_count n required) × (set_of n required s ≡ g))

-- They rise with their place, so none stands twice.
abbrev pub SetsRise : Type 0
SetsRise = (n : ℕ) (required : List ℕ) (s t : ℕ) → 1 ≤ s → s < t → t ≤ set_count n required → set_of n required s < set_of n required t

-- None lies inside another, whatever the list.
abbrev pub SetsApart : Type 0
SetsApart = (n : ℕ) (required : List ℕ) (g h : ℕ) → g ∈ minimals n required → h ∈ minimals n required → inside g h ≡ true → g ≡ h

-- So n people have no more of them than 1, 2, 3, 6, 10, 20, 35, 70, for n of 1 to 8 (SCOPE 2.2).
abbrev pub FewSets : Type 0
FewSets = (n : ℕ) (required : List ℕ) → n ≤ 8 → set_count n required ≤ most n

-- And nobody is in over 35 of them.
abbrev pub FewWith : Type 0
FewWith = (n : ℕ) (required : List ℕ) → n ≤ 8 → (i : ℕ) → 1 ≤ i → i ≤ n → length (sets_with (minimals n required) i (set_count n required)) ≤ 35

-- Who may open: the groups with one of them inside, and no others.
abbrev pub ContainsOne : Type 0
ContainsOne = (n : ℕ) (required : List ℕ) → Known n required → (g : ℕ)
    → (authorised required g ≡ true) ↔ ((s : ℕ) × (1 ≤ s) × (s ≤ set_count n required) × (inside (set_of n required s) g ≡ true))

-- ---- the pieces of a set
-- A member has one of the pieces 1, 2, .., as many as there are members.
abbrev pub MemberPiece : Type 0
MemberPiece = (set i : ℕ) → 1 ≤ i → i ≤ 16 → member i set ≡ true → (1 ≤ number_in set i) × (number_in set i ≤ member_count set)

-- A later member has a higher piece, so different members have different pieces.
abbrev pub PiecesRise : Type 0
PiecesRise = (set i k : ℕ) → 1 ≤ i → i < k → member k set ≡ true → number_in set i < number_in set k

-- Each of these pieces has a member that holds it, and no other member does.
abbrev pub OneHolder : Type 0
OneHolder = (n set j : ℕ) → n ≤ 16 → set < 2 ^ n → 1 ≤ j → j ≤ member_count set
    → (i : ℕ) × (1 ≤ i) × (i ≤ n) × (member i set ≡ true) × (number_in set i ≡ j)
    × ((k : ℕ) → 1 ≤ k → member k set ≡ true → number_in set k ≡ j → k ≡ i)

-- A set of n people has n members at most, all of them among persons 1 to n; and if it is not empty, it has one.
abbrev pub SizeIn : Type 0
SizeIn = (n set : ℕ) → n ≤ 16 → set < 2 ^ n
    → (counted set n ≡ member_count set) × (member_count set ≤ n) × (1 ≤ set → 1 ≤ member_count set)

-- An unauthorised group lacks a piece of each set: nobody in the group has it.
abbrev pub LacksOfEach : Type 0
LacksOfEach = (n : ℕ) (required : List ℕ) → Known n required → (g : ℕ) → authorised required g ≡ false
    → (s : ℕ) → 1 ≤ s → s ≤ set_count n required
    → (j : ℕ) × (1 ≤ j) × (j ≤ member_count (set_of n required s))
    × ((i : ℕ) → 1 ≤ i → member i g ≡ true → member i (set_of n required s) ≡ true → number_in (set_of n required s) i ≢ j)
