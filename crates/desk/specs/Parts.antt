-- The parts of the state that the functions on values make: both clients' words, and the slots. What each call makes of them is what it makes of the desk.
-- Assumes nothing.
use Rattle.std.specs.Prelude.{ℕ, List}
use Rattle.answer.specs.Outcome.{Outcome}
use Rattle.block.specs.Open.{by_outcome}
use Rattle.desk.specs.declared.Opening.{Opening}
use Rattle.desk.specs.declared.Clients.{Clients}
use Rattle.desk.specs.Opens.{no_words, other, by_client, words_in, reserved}
use Rattle.desk.specs.Slots.{cleared}
use Rattle.desk.specs.Lines.{open_says, hand_slots, hand_says, close_says}

-- both clients' words, those of client c replaced
abbrev pub put : Clients → ℕ → Opening → Clients
put both c o = record { one = by_client c o both.one; two = by_client c both.two o }

-- what an opening is answered, and both clients' words after it
abbrev pub open_in : Clients → ℕ → Opening → Outcome ℕ
open_in both c new = open_says (words_in both c) (reserved (words_in both (other c))) c new

abbrev pub open_clients : Clients → ℕ → Opening → Clients
open_clients both c new = by_outcome (open_in both c new) (put both c new) both

-- the slots after a block was handed in
abbrev pub hand_into : List ℕ → Opening → ℕ → List ℕ → List ℕ
hand_into slots o c b = by_outcome (hand_says slots o c b) (hand_slots slots o c b) slots

-- both clients' words after a closing, and the slots
abbrev pub close_clients : Clients → ℕ → Clients
close_clients both c = by_outcome (close_says (words_in both c) c) (put both c no_words) both

abbrev pub close_into : List ℕ → Opening → ℕ → List ℕ
close_into slots o c = by_outcome (close_says o c) (cleared slots o c) slots
