-- A lent list that is too short or is not, and what is left of it by the outcome; and a list that is written over the front of another, number by number.
-- Assumes nothing.
use mathlib.Core.Path.{◌≡◌, ap}
use mathlib.Core.List.{List, [], ◌∷◌}
use Prim.Native.Nat.{ℕ, ◌≤◌, ◌<◌}
use borrow.Author.Tests.{lt-ltb, le-ltb}
use Rattle.answer.specs.Outcome.{Outcome, done, refused}
use Rattle.answer.specs.Checks.{first_fail}
use Rattle.answer.specs.Lent.{no_room, left}
use Rattle.lists.specs.Over.{over}

-- ---- ROOM alone
pub room-refused : {A : Type 0} (needed a room : ℕ) (end : Outcome A) → room < needed → first_fail (no_room needed a room ∷ []) end ≡ refused 12 a 0
unfolding first_fail no_room
room-refused needed a room end h = rw (lt-ltb room needed h)

pub room-given : {A : Type 0} (needed a room : ℕ) (end : Outcome A) → needed ≤ room → first_fail (no_room needed a room ∷ []) end ≡ end
unfolding first_fail no_room
room-given needed a room end h = rw (le-ltb room needed h)

-- ---- after a call

pub refusal_keeps : {A : Type 0} (o : Outcome A) (m a b : ℕ) (new old : List ℕ) → o ≡ refused m a b → left o new old ≡ old
refusal_keeps {A} o m a b new old e = ap (λ (x : Outcome A). left x new old) e

pub result_writes : {A : Type 0} (o : Outcome A) (v : A) (new old : List ℕ) → o ≡ done v → left o new old ≡ over new old
result_writes {A} o v new old e = ap (λ (x : Outcome A). left x new old) e
