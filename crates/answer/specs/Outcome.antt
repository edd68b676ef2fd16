-- What an answer says in the terms of SCOPE 6.1: a result, or a refusal's number and its two places.
-- Assumes nothing.
use Rattle.std.specs.Prelude.{ℕ, ⊤, Result, Ok, Err}
use Rattle.answer.specs.declared.Kind.{Kind}
use Rattle.answer.specs.declared.Kind.TheVariants.{People, LongList, Stranger, Nobody, Open, Clash, Deal, Holder, Secret, Random}
use Rattle.answer.specs.declared.Kind.TheVariants.{Room, Torn, Long, Unread, Check, Header, Mixed, Conflict, Short, Text, Lone, NotKey, Unlike, Year}
use Rattle.answer.specs.declared.Kind.TheVariants.{NoClient, Busy, Full, Closed, Rows}
use Rattle.answer.specs.declared.Refusal.{Refusal}

-- the number that SCOPE 6.2 gives each refusal; 7 is vacant
abbrev pub number : Kind → ℕ
number People = 1
number LongList = 2
number Stranger = 3
number Nobody = 4
number Open = 5
number Clash = 6
number Deal = 8
number Holder = 9
number Secret = 10
number Random = 11
number Room = 12
number Torn = 13
number Long = 14
number Unread = 15
number Check = 16
number Header = 17
number Mixed = 18
number Conflict = 19
number Short = 20
number Text = 21
number Lone = 22
number NotKey = 23
number Unlike = 24
number Year = 25
number NoClient = 26
number Busy = 27
number Full = 28
number Closed = 29
number Rows = 30

-- SCOPE 6.1: a call ends with a result, or with a refusal, which has a number and the places a and b. What a result is, each call says: A.
pub data Outcome (A : Type 0) : Type 0 where
  done : A → Outcome A
  refused : ℕ → ℕ → ℕ → Outcome A

-- a refusal by its kind and its places
abbrev pub refusal : Kind → ℕ → ℕ → Refusal
refusal kind a b = record { kind = kind; a = a; b = b }

-- what a call ends with, whose result says what `f` makes of it
abbrev pub outcome_by : {T A : Type 0} → (T → A) → Result T Refusal → Outcome A
outcome_by f (Ok v) = done (f v)
outcome_by f (Err r) = refused (number r.kind) r.a r.b

-- an answer: a number, or a refusal
abbrev pub Answer : Type 0
Answer = Result ℕ Refusal

-- what an answer says
abbrev pub outcome : Answer → Outcome ℕ
outcome = outcome_by (λ v. v)

-- what a check says, whose result is nothing: 0
abbrev pub checked : Result ⊤ Refusal → Outcome ℕ
checked = outcome_by (λ _. 0)
