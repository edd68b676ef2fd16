-- The laws that this room owes; their proofs are in proofs/Laws.antt.
-- Assumes nothing.
use Rattle.std.specs.Prelude.{◌≡◌, true, false, ◌≢◌, ℕ, ⊤, Result}
use mathlib.Core.List.{List, Memᴰ}
use Rattle.answer.specs.declared.Kind.{Kind}
use Rattle.answer.specs.declared.Refusal.{Refusal}
use Rattle.answer.specs.Outcome.{Outcome, Answer, done, refused, number, outcome, checked}
use Rattle.answer.specs.Checks.{Line, first_fail, numbers}
use Rattle.lists.specs.Over.{over}
use Rattle.lists.specs.Some.{◌∈◌}
use Rattle.answer.specs.Lent.{left}

-- Two kinds with one number are one kind.
abbrev pub NumberOne : Type 0
NumberOne = (j k : Kind) → number j ≡ number k → j ≡ k

-- The number 7 is vacant: no kind has it.
abbrev pub SevenVacant : Type 0
SevenVacant = (k : Kind) → number k ≢ 7

-- Equal outcomes, equal answers: a promise `outcome r ≡ ..` leaves one possible answer.
abbrev pub OutcomeOne : Type 0
OutcomeOne = (x y : Answer) → outcome x ≡ outcome y → x ≡ y

-- So does a promise `checked r ≡ ..` of a check, whose result is nothing.
abbrev pub CheckedOne : Type 0
CheckedOne = (x y : Result ⊤ Refusal) → checked x ≡ checked y → x ≡ y

-- no line of the list is given
pub record Passed (ls : List Line) : Type 0 where
  pub none : (l : Line) → Memᴰ l ls → l.given ≡ false

-- the refusal is that of a line of the list, which is given
pub record By (ls : List Line) (m a b : ℕ) : Type 0 where
  pub line : Line
  pub listed : Memᴰ line ls
  pub given : line.given ≡ true
  pub number_is : number line.kind ≡ m
  pub a-is : line.a ≡ a
  pub b-is : line.b ≡ b

-- A result is given exactly where every line passes.
abbrev pub DonePassed : Type 1
DonePassed = (A : Type 0) (ls : List Line) (end : Outcome A) (v : A) → first_fail ls end ≡ done v → Passed ls × (end ≡ done v)

abbrev pub PassedDone : Type 1
PassedDone = (A : Type 0) (ls : List Line) (end : Outcome A) → Passed ls → first_fail ls end ≡ end

-- A refusal is that of one of the lines: a call gives no refusal that its list does not name.
abbrev pub RefusedBy : Type 1
RefusedBy = (A : Type 0) (ls : List Line) (v : A) (m a b : ℕ) → first_fail ls (done v) ≡ refused m a b → By ls m a b

-- So its number is the number of one of them.
abbrev pub RefusedNumber : Type 1
RefusedNumber = (A : Type 0) (ls : List Line) (v : A) (m a b : ℕ) → first_fail ls (done v) ≡ refused m a b → m ∈ numbers ls

-- SCOPE 6.4: after a refusal, all that was lent is as before.
abbrev pub RefusalKeeps : Type 1
RefusalKeeps = (A : Type 0) (o : Outcome A) (m a b : ℕ) (new old : List ℕ) → o ≡ refused m a b → left o new old ≡ old

-- A result writes `new` over the front; what lies behind is as before.
abbrev pub ResultWrites : Type 1
ResultWrites = (A : Type 0) (o : Outcome A) (v : A) (new old : List ℕ) → o ≡ done v → left o new old ≡ over new old
