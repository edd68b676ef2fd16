-- A group of a deal's people, a pile made of the whole cards of its members, and the pieces that they hold.
-- Assumes nothing.
use Rattle.std.specs.Prelude.{ℕ, ◌^◌, ◌≤◌, ◌<◌, ◌≡◌, Bool, true, length}
use mathlib.Core.List.{List, map, Memᴰ}
use Rattle.lists.specs.Places.{those}
use Rattle.planning.specs.Sets.{member, inside}
use Rattle.lists.specs.Some.{◌∈◌, some}
use Rattle.planning.specs.Groups.{holds}
use Rattle.dealing.specs.Deal.{Deal, deal_pieces, card_blocks, card}
use Rattle.lists.specs.Flat.{flat}

-- g is a group of the deal's people: nobody in it has a number greater than n
abbrev pub Group : Deal → ℕ → Type 0
Group d g = g < 2 ^ d.policy.people

-- a required set lies inside the group: it is authorised (SCOPE 2)
pub record Contains (d : Deal) (g : ℕ) : Type 0 where
  pub set : ℕ
  pub required : set ∈ d.policy.required
  pub within : inside set g ≡ true

-- person i is one of the group
pub record Member (d : Deal) (g i : ℕ) : Type 0 where
  pub least : 1 ≤ i
  pub most : i ≤ d.policy.people
  pub among : member i g ≡ true

-- the group is of one person at most: any two of its members are the same
abbrev pub AtMostOne : Deal → ℕ → Type 0
AtMostOne d g = (i j : ℕ) → Member d g i → Member d g j → i ≡ j

-- These blocks are the whole cards of some members, whatever the blocks of each holder's card are: each is a block of some member's card,
-- and each block of each member's card is one of them. They may stand in any order, and repeat. (The blocks, and not only the cards.)
pub record CardsOf (blocksOf : ℕ → List (List ℕ)) (member : ℕ → Type 0) (blocks : List (List ℕ)) : Type 0 where
  pub theirs : (b : List ℕ) → Memᴰ b blocks → (i : ℕ) × member i × Memᴰ b (blocksOf i)
  pub all : (i : ℕ) → member i → (b : List ℕ) → Memᴰ b (blocksOf i) → Memᴰ b blocks

-- The pile is such blocks, one after another, up to 560.
pub record PileOf (blocksOf : ℕ → List (List ℕ)) (member : ℕ → Type 0) (pile : List ℕ) : Type 0 where
  pub blocks : List (List ℕ)
  pub whole : CardsOf blocksOf member blocks
  pub bytes : pile ≡ flat blocks
  pub few : length blocks ≤ 560

-- It is the whole cards of the group's members.
abbrev pub WholeCards : Deal → ℕ → List ℕ → Type 0
WholeCards d g = PileOf (card_blocks d) (Member d g)

-- the cards of these holders, one after another
unfoldable pub cards : Deal → List ℕ → List ℕ
cards d holders = flat (map (card d) holders)

-- the members of the group, in rising number
unfoldable pub members : Deal → ℕ → List ℕ
members d g = those (λ i. member i g) 1 d.policy.people

-- some member of the group holds piece j
unfoldable pub gathers : Deal → ℕ → ℕ → Bool
gathers d g j = some (λ i. holds d.policy.people d.policy.required i j) (members d g)

-- the different pieces that the group holds, in rising number
unfoldable pub gathered : Deal → ℕ → List ℕ
gathered d g = those (gathers d g) 1 (deal_pieces d)
