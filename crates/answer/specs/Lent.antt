-- A lent buffer: when it is too short, and what stands in it after a call. A refusal leaves it as it was; a result lies over its front.
-- Assumes nothing.
use Rattle.std.specs.Prelude.{List, ℕ, ltb}
use Rattle.answer.specs.declared.Kind.TheVariants.{Room}
use Rattle.lists.specs.Over.{over}
use Rattle.answer.specs.Outcome.{Outcome, done, refused}
use Rattle.answer.specs.Checks.{Line, line}

-- 12 ROOM: the buffer has `room` places and the result wants `needed` of them; a says how much that is in the call's own measure
unfoldable pub no_room : ℕ → ℕ → ℕ → Line
no_room needed a room = line Room (ltb room needed) a 0

-- what a call with this outcome leaves of `old`, where its result writes `new`
abbrev pub left : {A : Type 0} → Outcome A → List ℕ → List ℕ → List ℕ
left (done v) new old = over new old
left (refused m a b) new old = old
