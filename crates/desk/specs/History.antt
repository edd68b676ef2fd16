-- Calls at a desk that begins fresh and that nothing else touches (SCOPE 5.2), and what each is answered. A history is a list of calls, the last in front.
-- Assumes nothing.
use Rattle.std.specs.Prelude.{ℕ, ◌-◌, Bool, false, cond, not, ◌&&◌, ◌≢◌, List, [], ◌∷◌, eqb, ltb, length}
use Rattle.answer.specs.declared.Kind.TheVariants.{Full}
use Rattle.answer.specs.Outcome.{Outcome, done, refused, number}
use Rattle.answer.specs.Checks.{pick}
use Rattle.block.specs.Open.{by_outcome}
use Rattle.desk.specs.declared.Opening.{Opening}
use Rattle.desk.specs.declared.Desk.{Desk}
use Rattle.desk.specs.Opens.{fresh_desk, words_of}
use Rattle.desk.specs.Lines.{open_at, open_desk, hand_at, hand_desk, ask_at, ask_into, close_at, close_desk}

-- what a client may do: open with five words, hand in some bytes, ask with lent words, close
pub data Call : Type 0 where
  opens : ℕ → Opening → Call
  hands : ℕ → List ℕ → Call
  asks : ℕ → List ℕ → Call
  closes : ℕ → Call

abbrev pub client_of : Call → ℕ
client_of (opens c o) = c
client_of (hands c b) = c
client_of (asks c out) = c
client_of (closes c) = c

-- all that a caller gets: the answer, and the lent words as they are then
pub record Reply : Type 0 where
  pub says : Outcome ℕ
  pub lent : List ℕ

abbrev pub reply : Desk → Call → Reply
reply d (opens c o) = record { says = open_at d c o; lent = [] }
reply d (hands c b) = record { says = hand_at d c b; lent = [] }
reply d (asks c out) = record { says = ask_at d c (length out); lent = ask_into d.slots (words_of d c) c out }
reply d (closes c) = record { says = close_at d c; lent = [] }

-- the desk after a call
abbrev pub next : Desk → Call → Desk
next d (opens c o) = open_desk d c o
next d (hands c b) = hand_desk d c b
next d (asks c out) = d
next d (closes c) = close_desk d c

-- the desk after a history
unfoldable pub after : List Call → Desk
after [] = fresh_desk
after (x ∷ xs) = next (after xs) x

-- what x is answered after xs
abbrev pub answer_to : Call → List Call → Reply
answer_to x xs = reply (after xs) x

-- answered FULL
abbrev pub is_full : Outcome ℕ → Bool
is_full (done k) = false
is_full (refused m a b) = eqb m (number Full)

-- the calls of client c alone, without its openings that were answered FULL
unfoldable pub own : ℕ → List Call → List Call
own c [] = []
own c (x ∷ xs) = cond (eqb (client_of x) c && not (is_full (answer_to x xs).says)) (x ∷ own c xs) (own c xs)

-- the result, or r where the call was refused
abbrev pub answered : Outcome ℕ → ℕ → ℕ
answered (done k) r = k
answered (refused m a b) r = r

-- the slots of c after a call that was answered s, where it had r before: k after an opening, none after a closing, else r
abbrev pub reserved_after : ℕ → Call → Outcome ℕ → ℕ → ℕ
reserved_after c (opens e o) s r = cond (eqb e c) (answered s r) r
reserved_after c (hands e b) s r = r
reserved_after c (asks e out) s r = r
reserved_after c (closes e) s r = cond (eqb e c) (by_outcome s 0 r) r

-- the slots that c has, told by the calls and their answers and by nothing of the desk
unfoldable pub reserved_by : ℕ → List Call → ℕ
reserved_by c [] = 0
reserved_by c (x ∷ xs) = reserved_after c x (answer_to x xs).says (reserved_by c xs)

-- what an opening is answered where the other has r slots, and a desk of the client's own would answer o
abbrev pub full : ℕ → Outcome ℕ → Outcome ℕ
full r (done k) = pick (ltb (70 - r) k) (refused (number Full) 0 0) (done k)
full r (refused m a b) = refused m a b

-- what a call is answered where the other has r slots, and a desk of the client's own would answer y: r counts for openings alone
abbrev pub shared : ℕ → Call → Reply → Reply
shared r (opens c o) y = record { says = full r y.says; lent = y.lent }
shared r (hands c b) y = y
shared r (asks c out) y = y
shared r (closes c) y = y

-- one of the two clients
pub data Client : ℕ → Type 0 where
  first : Client 1
  second : Client 2

-- two calls that are one to client c: the same call, or two blocks of another client, or two askings of it, whatever they are
pub data Unseen (c : ℕ) : Call → Call → Type 0 where
  same : (x : Call) → Unseen c x x
  hidden_hands : {e : ℕ} (b b' : List ℕ) → e ≢ c → Unseen c (hands e b) (hands e b')
  hidden_asks : {e : ℕ} (out out' : List ℕ) → e ≢ c → Unseen c (asks e out) (asks e out')

-- and so call by call
pub data AllUnseen (c : ℕ) : List Call → List Call → Type 0 where
  nothing : AllUnseen c [] []
  further : {x y : Call} {xs ys : List Call} → Unseen c x y → AllUnseen c xs ys → AllUnseen c (x ∷ xs) (y ∷ ys)
