-- The demands at a desk (SCOPE 10.1). Each client's part of them is from its opening to its closing: it is open where it has slots, by the calls made.
-- Assumes nothing.
use Rattle.std.specs.Prelude.{ℕ, ◌≤◌, ◌≡◌, length, drop}
use mathlib.Core.List.{List, [], ◌∷◌, ◌++◌, Memᴰ}
use Rattle.lists.specs.Flat.{flat}
use Rattle.answer.specs.Outcome.{done, refused}
use Rattle.answer.specs.Checks.{Line}
use Rattle.answer.specs.Lent.{no_room}
use Rattle.block.specs.Open.{unread, check, foreign, torn_block}
use Rattle.dealing.specs.Deal.{Deal, deal_pieces, card_blocks}
use Rattle.dealing.specs.Dealt.{Made}
use Rattle.joining.specs.Joined.{joining, joined_into}
use Rattle.desk.specs.declared.Opening.{Opening}
use Rattle.desk.specs.declared.Desk.{Desk}
use Rattle.desk.specs.Opens.{other, words_of, reserved}
use Rattle.desk.specs.Slots.{distinct}
use Rattle.desk.specs.Lines.{no_client, busy, bad_opening, no_slots, open_lines, not_open, other_deal, other_values, hand_lines, hand_slots, lacking, ask_lines, close_lines}
use Rattle.desk.specs.History.{Call, opens, hands, asks, closes, reply, after, answer_to, reserved_by, Client}
use Rattle.demands.specs.Demand1.{Ends, Refuses}
use Rattle.demands.specs.Group.{Group, Contains, Member, CardsOf, gathered}
use Rattle.demands.specs.Demand3.{LentFor, card_from, HiddenFrom}
use Rattle.demands.specs.DeskBlocks.{handed_in, blocks_in, of_deal, OfCards, replies, OutOf}

-- ---- demand 1: in its result or in a refusal, by the order of SCOPE 6.3, with no other refusal, whatever the desk that is lent
-- the lines of a call at a desk, and its result
abbrev pub lines_at : Desk → Call → List Line
lines_at d (opens c new) = open_lines (words_of d c) (reserved (words_of d (other c))) c new
lines_at d (hands c b) = hand_lines d.slots (words_of d c) c b
lines_at d (asks c out) = ask_lines d.slots (words_of d c) c (length out)
lines_at d (closes c) = close_lines (words_of d c) c

abbrev pub result_at : Desk → Call → ℕ
result_at d (opens c new) = new.pieces
result_at d (hands c b) = distinct (hand_slots d.slots (words_of d c) c b) (words_of d c) c
result_at d (asks c out) = (words_of d c).width
result_at d (closes c) = (words_of d c).pieces

abbrev pub DeskEnds : Type 0
DeskEnds = (d : Desk) (x : Call) → Ends (lines_at d x) (result_at d x) (reply d x).says × Refuses (lines_at d x) (reply d x).says

-- Every call looks first at the client, and then at whether it is open. Opening looks at the words and then at the slots; handing in at the block alone,
-- at the opening's words, and at the piece that is kept; asking at the pieces, and last at the room.
abbrev pub DeskOrder : Type 0
DeskOrder = (d : Desk) (c : ℕ)
    → ((new : Opening) → lines_at d (opens c new)
    ≡ no_client c ∷ busy (words_of d c) ∷ bad_opening new ∷ no_slots (reserved (words_of d (other c))) new ∷ [])
    × ((b : List ℕ) → lines_at d (hands c b)
    ≡ no_client c ∷ not_open (words_of d c)
    ∷ torn_block b ∷ unread b 1 ∷ check b 1 ∷ foreign b 1
    ∷ other_deal (words_of d c) b ∷ other_values d.slots (words_of d c) c b
    ∷ [])
    × ((out : List ℕ) → lines_at d (asks c out)
    ≡ no_client c ∷ not_open (words_of d c) ∷ lacking d.slots (words_of d c) c ∷ no_room (words_of d c).width (words_of d c).width (length out) ∷ [])
    × (lines_at d (closes c) ≡ no_client c ∷ not_open (words_of d c) ∷ [])

-- Asking that is refused leaves the lent words as they were. (That it leaves the desk so, as every refused call does, is the desk's law DeskKeeps.)
abbrev pub AskKeeps : Type 0
AskKeeps = (d : Desk) (c : ℕ) (out : List ℕ) (m a b : ℕ) → (reply d (asks c out)).says ≡ refused m a b → (reply d (asks c out)).lent ≡ out

-- ---- demand 2
-- An open client's asking is answered as joining the pile of the blocks that brought a new piece, in the lent words too; and where there is none,
-- SHORT with 0 and k. So whatever holds of joining holds of the desk.
abbrev pub AskAsJoining : Type 0
AskAsJoining = (c : ℕ) (xs : List Call) (out : List ℕ) → Client c → 1 ≤ reserved_by c xs
    → (1 ≤ length (blocks_in c xs)
    → ((answer_to (asks c out) xs).says ≡ joining (flat (blocks_in c xs)) (length out))
    × ((answer_to (asks c out) xs).lent ≡ joined_into (flat (blocks_in c xs)) out))
    × (blocks_in c xs ≡ [] → (answer_to (asks c out) xs).says ≡ refused 20 0 (reserved_by c xs))

-- There are no more such blocks than slots: at most 70, so the pile is not LONG.
abbrev pub DeskFew : Type 0
DeskFew = (c : ℕ) (xs : List Call) → Client c → length (blocks_in c xs) ≤ reserved_by c xs

-- ---- demand 3
-- If the group is authorised, a client from which the whole cards of its members were taken is given the dealt secret.
abbrev pub DeskOpens : Type 0
DeskOpens = (d : Deal) → Made d → (g : ℕ) → Group d g → Contains d g
    → (c : ℕ) (xs : List Call) → Client c → 1 ≤ reserved_by c xs → CardsOf (card_blocks d) (Member d g) (handed_in c xs)
    → (out : List ℕ) → length d.secret ≤ length out
    → ((answer_to (asks c out) xs).says ≡ done (length d.secret))
    × ((answer_to (asks c out) xs).lent ≡ d.secret ++ drop (length d.secret) out)

-- If not, SHORT, with how many different pieces the group holds, and k, also where that is none; the lent words are as they were.
abbrev pub DeskShort : Type 0
DeskShort = (d : Deal) → Made d → (g : ℕ) → Group d g → ¬ Contains d g
    → (c : ℕ) (xs : List Call) → Client c → reserved_by c xs ≡ deal_pieces d → CardsOf (card_blocks d) (Member d g) (handed_in c xs)
    → (out : List ℕ)
    → ((answer_to (asks c out) xs).says ≡ refused 20 (length (gathered d g)) (deal_pieces d))
    × ((answer_to (asks c out) xs).lent ≡ out)

-- A client that opened with the deal's words, and from which nothing was taken but blocks of the deal's cards, is not refused any such block.
abbrev pub CardsTaken : Type 0
CardsTaken = (d : Deal) → Made d → (c : ℕ) (xs : List Call) → Client c → 1 ≤ reserved_by c xs
    → words_of (after xs) c ≡ of_deal d → OfCards d (handed_in c xs)
    → (i : ℕ) → 1 ≤ i → i ≤ d.policy.people → (b : List ℕ) → Memᴰ b (card_blocks d i)
    → (v : ℕ) × ((answer_to (hands c b) xs).says ≡ done v)

-- A group that is not authorised learns nothing at the desk: for every other secret with as many words, under the pairing of demand 3, whatever calls
-- are made out of the members' cards, every answer is the same as under the dealt one.
abbrev pub DeskHides : Type 0
DeskHides = (d : Deal) → Made d → (g : ℕ) → Group d g → ¬ Contains d g → (other : List ℕ) → length other ≡ length d.secret
    → (hidden : HiddenFrom d g other)
    × ((random : List ℕ) → LentFor d d.secret random → (make : (ℕ → List ℕ) → List Call) → OutOf d g make
    → replies (make (card_from d other (hidden.pairs.there random))) ≡ replies (make (card_from d d.secret random)))
