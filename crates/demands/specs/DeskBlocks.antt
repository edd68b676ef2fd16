-- What a client has handed in at a desk, told by the calls (SCOPE 5.2): all blocks that were taken since it opened, and those of them that brought a new piece.
-- Assumes nothing.
use Rattle.std.specs.Prelude.{ℕ, ◌≤◌, ◌≡◌, Bool, cond, not, eqb, length}
use mathlib.Core.List.{List, [], ◌∷◌, Memᴰ}
use Rattle.block.specs.Layout.{piece_number}
use Rattle.block.specs.Open.{by_outcome}
use Rattle.dealing.specs.Deal.{Deal, deal_pieces, card_blocks}
use Rattle.desk.specs.declared.Opening.{Opening}
use Rattle.desk.specs.declared.Desk.{Desk}
use Rattle.desk.specs.Opens.{words, words_of}
use Rattle.desk.specs.Slots.{keeps}
use Rattle.desk.specs.Lines.{open_at, hand_at, close_at}
use Rattle.desk.specs.History.{Call, opens, hands, asks, closes, after, Reply, answer_to}
use Rattle.demands.specs.Group.{Member}

-- the blocks of c after a call, where they were bs before it at the desk d, and a block that is taken makes them `more`: none after an opening or a
-- closing with a result
abbrev pub blocks_after : (Desk → ℕ → List ℕ → List (List ℕ) → List (List ℕ)) → ℕ → Desk → Call → List (List ℕ) → List (List ℕ)
blocks_after more c d (opens e o) bs = cond (eqb e c) (by_outcome (open_at d e o) [] bs) bs
blocks_after more c d (hands e b) bs = cond (eqb e c) (by_outcome (hand_at d e b) (more d e b bs) bs) bs
blocks_after more c d (asks e out) bs = bs
blocks_after more c d (closes e) bs = cond (eqb e c) (by_outcome (close_at d e) [] bs) bs

-- a block that is taken counts
abbrev pub each : Desk → ℕ → List ℕ → List (List ℕ) → List (List ℕ)
each d c b bs = b ∷ bs

-- a block that is taken counts if it brings a piece that the client does not keep yet
abbrev pub brings : Desk → ℕ → List ℕ → Bool
brings d c b = not (keeps d.slots c (words_of d c).width (piece_number b))

abbrev pub if_new : Desk → ℕ → List ℕ → List (List ℕ) → List (List ℕ)
if_new d c b bs = cond (brings d c b) (b ∷ bs) bs

-- the blocks of c that were taken since it opened, the last in front; none where it is not open
unfoldable pub handed_in : ℕ → List Call → List (List ℕ)
handed_in c [] = []
handed_in c (x ∷ xs) = blocks_after each c (after xs) x (handed_in c xs)

-- those that brought a new piece
unfoldable pub blocks_in : ℕ → List Call → List (List ℕ)
blocks_in c [] = []
blocks_in c (x ∷ xs) = blocks_after if_new c (after xs) x (blocks_in c xs)

-- the words that a client opens with for this deal
abbrev pub of_deal : Deal → Opening
of_deal d = words d.number d.policy.people (deal_pieces d) (length d.secret) d.year

-- each of the blocks is of a card of the deal, whoever's
pub record OfCards (d : Deal) (bs : List (List ℕ)) : Type 0 where
  pub theirs : (b : List ℕ) → Memᴰ b bs → (i : ℕ) × (1 ≤ i) × (i ≤ d.policy.people) × Memᴰ b (card_blocks d i)

-- what every call of a history was answered, the last in front
unfoldable pub replies : List Call → List Reply
replies [] = []
replies (x ∷ xs) = answer_to x xs ∷ replies xs

-- a way of making calls that looks at the cards of the group's members and at no others
pub record OutOf (d : Deal) (g : ℕ) (make : (ℕ → List ℕ) → List Call) : Type 0 where
  pub same : (p q : ℕ → List ℕ) → ((i : ℕ) → Member d g i → p i ≡ q i) → make p ≡ make q
