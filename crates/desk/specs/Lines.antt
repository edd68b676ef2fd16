-- What the desk answers to each of its four calls, and the desk afterwards (SCOPE 5.2): a definition for each line, and their order. In the lines o are
-- the words that the client c has stored, and `new` those that it wants to open with. Assumes nothing.
use Rattle.std.specs.Prelude.{ℕ, ◌-◌, not, ◌&&◌, List, [], ◌∷◌, ◌++◌, ltb, length}
use Rattle.lists.specs.Places.{found}
use Rattle.answer.specs.declared.Kind.TheVariants.{NoClient, Busy, Header, Full, Closed, Mixed, Conflict, Short}
use Rattle.answer.specs.Outcome.{Outcome, done}
use Rattle.answer.specs.Checks.{Line, line, first_fail}
use Rattle.answer.specs.Lent.{no_room, left}
use Rattle.block.specs.Layout.{piece_number}
use Rattle.block.specs.Open.{one_lines, by_outcome}
use Rattle.desk.specs.declared.Opening.{Opening}
use Rattle.desk.specs.declared.Desk.{Desk}
use Rattle.desk.specs.Opens.{no_words, bad_word, is_client, other, by_client, words_of, accepted, reserved, opening_of, alike}
use Rattle.desk.specs.Slots.{start, over_at, keeps, distinct, unlike, kept, secret_for, cleared}

-- 26 NOCLIENT: c is neither 1 nor 2
abbrev pub no_client : ℕ → Line
no_client c = line NoClient (not (is_client c)) 0 0

-- 29 CLOSED: the client is not open
abbrev pub not_open : Opening → Line
not_open o = line Closed (not (accepted o)) 0 0

-- the desk with these slots; the desk with these words for client c
abbrev pub with_slots : Desk → List ℕ → Desk
with_slots d slots = record { slots = slots; clients = d.clients }

abbrev pub with_words : Desk → ℕ → Opening → Desk
with_words d c o =
    record { slots = d.slots; clients = record { one = by_client c o d.clients.one; two = by_client c d.clients.two o } }

-- ---- opening

-- 27 BUSY: the client is open
abbrev pub busy : Opening → Line
busy o = line Busy (accepted o) 0 0

-- 17 HEADER, of an opening: no true block has one of the words; there is no block to name, and b is the first such word
abbrev pub bad_opening : Opening → Line
bad_opening new = line Header (found (bad_word new)) 0 (bad_word new)

-- 28 FULL: k is more than the slots that the other, which has r of the 70, leaves
abbrev pub no_slots : ℕ → Opening → Line
no_slots r new = line Full (ltb (70 - r) new.pieces) 0 0

unfoldable pub open_lines : Opening → ℕ → ℕ → Opening → List Line
open_lines o r c new = no_client c ∷ busy o ∷ bad_opening new ∷ no_slots r new ∷ []

-- a result is k
unfoldable pub open_says : Opening → ℕ → ℕ → Opening → Outcome ℕ
open_says o r c new = first_fail (open_lines o r c new) (done new.pieces)

-- at this desk, and the desk then: it has the client's words
abbrev pub open_at : Desk → ℕ → Opening → Outcome ℕ
open_at d c new = open_says (words_of d c) (reserved (words_of d (other c))) c new

unfoldable pub open_desk : Desk → ℕ → Opening → Desk
open_desk d c new = by_outcome (open_at d c new) (with_words d c new) d

-- ---- handing in

-- 18 MIXED, at a desk: one of the five words is not the opening's; a is 1, the one block that is handed in
abbrev pub other_deal : Opening → List ℕ → Line
other_deal o b = line Mixed (not (alike (opening_of b) o)) 1 0

-- 19 CONFLICT, at a desk: the piece is kept, with another value than the block has
abbrev pub other_values : List ℕ → Opening → ℕ → List ℕ → Line
other_values slots o c b = line Conflict (keeps slots c o.width (piece_number b) && found (unlike slots (start c (piece_number b)) o.width b)) 1 0

-- what goes by the client's words alone: 26, 29, what any block that is lent alone is asked, 18
unfoldable pub front_lines : Opening → ℕ → List ℕ → List Line
front_lines o c b = no_client c ∷ not_open o ∷ one_lines b 1 ++ other_deal o b ∷ []

unfoldable pub hand_lines : List ℕ → Opening → ℕ → List ℕ → List Line
hand_lines slots o c b = front_lines o c b ++ other_values slots o c b ∷ []

-- the slots with the block's piece in its place
unfoldable pub hand_slots : List ℕ → Opening → ℕ → List ℕ → List ℕ
hand_slots slots o c b = over_at (start c (piece_number b)) (kept b o.width) slots

-- a result is the number of pieces that the client then keeps
unfoldable pub hand_says : List ℕ → Opening → ℕ → List ℕ → Outcome ℕ
hand_says slots o c b = first_fail (hand_lines slots o c b) (done (distinct (hand_slots slots o c b) o c))

abbrev pub hand_at : Desk → ℕ → List ℕ → Outcome ℕ
hand_at d c b = hand_says d.slots (words_of d c) c b

unfoldable pub hand_desk : Desk → ℕ → List ℕ → Desk
hand_desk d c b = by_outcome (hand_at d c b) (with_slots d (hand_slots d.slots (words_of d c) c b)) d

-- ---- asking

-- 20 SHORT, at a desk: fewer pieces than k are kept; how many, and k, also where there is none
abbrev pub lacking : List ℕ → Opening → ℕ → Line
lacking slots o c = line Short (ltb (distinct slots o c) o.pieces) (distinct slots o c) o.pieces

unfoldable pub ask_lines : List ℕ → Opening → ℕ → ℕ → List Line
ask_lines slots o c room = no_client c ∷ not_open o ∷ lacking slots o c ∷ no_room o.width o.width room ∷ []

-- a result is w
unfoldable pub ask_says : List ℕ → Opening → ℕ → ℕ → Outcome ℕ
ask_says slots o c room = first_fail (ask_lines slots o c room) (done o.width)

abbrev pub ask_at : Desk → ℕ → ℕ → Outcome ℕ
ask_at d c room = ask_says d.slots (words_of d c) c room

-- the lent words then: the secret over their front, or, refused, as they were. The desk stays
unfoldable pub ask_into : List ℕ → Opening → ℕ → List ℕ → List ℕ
ask_into slots o c old = left (ask_says slots o c (length old)) (secret_for slots o c) old

-- ---- closing

unfoldable pub close_lines : Opening → ℕ → List Line
close_lines o c = no_client c ∷ not_open o ∷ []

-- a result is k
unfoldable pub close_says : Opening → ℕ → Outcome ℕ
close_says o c = first_fail (close_lines o c) (done o.pieces)

abbrev pub close_at : Desk → ℕ → Outcome ℕ
close_at d c = close_says (words_of d c) c

-- the desk then: the client's slots are 0, and so are its words
unfoldable pub close_desk : Desk → ℕ → Desk
close_desk d c = by_outcome (close_at d c) (with_words (with_slots d (cleared d.slots (words_of d c) c)) c no_words) d
