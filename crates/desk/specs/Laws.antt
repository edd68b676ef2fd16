-- The laws that the desk owes; their proofs are in proofs/Laws.antt. None of them speaks of code.
-- Assumes nothing.
use Rattle.std.specs.Prelude.{ℕ, ◌+◌, ◌≤◌, ◌≡◌, not, List}
use Rattle.answer.specs.Outcome.{refused}
use Rattle.answer.specs.Laws.{Passed}
use Rattle.block.specs.Deals.{deal_words, same_deal}
use Rattle.block.specs.Open.{one_lines}
use Rattle.desk.specs.declared.Opening.{Opening}
use Rattle.desk.specs.declared.Desk.{Desk}
use Rattle.desk.specs.Opens.{fresh_desk, other}
use Rattle.desk.specs.Lines.{other_deal, front_lines}
use Rattle.desk.specs.History.{Call, client_of, reply, next, after, answer_to, own, reserved_by, shared, Client, AllUnseen}

-- SCOPE 5.2: whatever both clients do, each is answered as at a desk of its own where it makes the same calls but the openings answered FULL; and
-- whether an opening is answered FULL depends, beyond that, on the other's number of slots alone. The lent words are part of the answer.
abbrev pub OwnDesk : Type 0
OwnDesk = (c : ℕ) (x : Call) (xs : List Call) → Client c → client_of x ≡ c
    → answer_to x xs ≡ shared (reserved_by (other c) xs) x (answer_to x (own c xs))

-- Both together never have more than the 70 slots.
abbrev pub NeverOver : Type 0
NeverOver = (xs : List Call) → reserved_by 1 xs + reserved_by 2 xs ≤ 70

-- Once both have closed, the desk is as it began, number for number: of no piece is there anything left.
abbrev pub NothingLeft : Type 0
NothingLeft = (xs : List Call) → reserved_by 1 xs ≡ 0 → reserved_by 2 xs ≡ 0 → after xs ≡ fresh_desk

-- SCOPE 6.4: a refused call leaves the desk as it was, be that a desk that began fresh or any other.
abbrev pub DeskKeeps : Type 0
DeskKeeps = (d : Desk) (x : Call) (m a b : ℕ) → (reply d x).says ≡ refused m a b → next d x ≡ d

-- Of what one client hands in and asks nothing shows in the other's answers: two histories with the same calls of c and, call by call, the same
-- openings and closings of the other answer c the same.
abbrev pub Blind : Type 0
Blind = (c : ℕ) (x : Call) (xs ys : List Call) → Client c → client_of x ≡ c → AllUnseen c xs ys → answer_to x xs ≡ answer_to x ys

-- MIXED at a desk is MIXED in a pile: where a block was taken, another one is of the opening's deal exactly if joining finds both of one deal.
abbrev pub MixedAlike : Type 0
MixedAlike = (o : Opening) (c : ℕ) (b b' : List ℕ) → Passed (front_lines o c b) → Passed (one_lines b' 1)
    → (other_deal o b').given ≡ not (same_deal (deal_words b') (deal_words b))
