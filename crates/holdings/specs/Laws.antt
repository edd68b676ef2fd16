-- The laws that this room owes; their proofs are in proofs/Laws.antt.
-- Assumes nothing.
use Rattle.std.specs.Prelude.{◌≡◌, true, false, List, ◌↔◌, ℕ, ◌*◌, ◌^◌, ◌≤◌, ◌<◌, length, get_or}
use Rattle.lists.specs.Places.{found}
use Rattle.lists.specs.Laws.{IsFirst}
use Rattle.answer.specs.declared.Kind.TheVariants.{Rows}
use Rattle.answer.specs.Outcome.{done, refused, number}
use Rattle.planning.specs.Sets.{member}
use Rattle.planning.specs.Groups.{authorised, holds, piece_count}
use Rattle.planning.specs.Policy.{Policy}
use Rattle.planning.specs.Planned.{planned}
use Rattle.std.specs.Prelude.{Result}
use Rattle.answer.specs.declared.Refusal.{Refusal}
use Rattle.holdings.specs.declared.list.Verdict.{Verdict as Told}
use Rattle.holdings.specs.Holdings.{Holdings, mark, has, have}
use Rattle.holdings.specs.Judged.{wrong_rows, way, suits, too_few, too_many, judging, judged}
use Rattle.holdings.specs.Own.{own}

-- ---- what the definitions mean
-- A group has a piece exactly when some member's mark for it is 1.
abbrev pub HasMeans : Type 0
HasMeans = (l : Holdings) (g j : ℕ) → (has l g j ≡ true) ↔ ((i : ℕ) × (1 ≤ i) × (i ≤ l.people) × (member i g ≡ true) × (mark l i j ≡ 1))

-- a list in order for n people
pub record InOrder (n : ℕ) (l : Holdings) : Type 0 where
  pub same-people : l.people ≡ n
  pub some-piece : 1 ≤ l.pieces
  pub few-pieces : l.pieces ≤ 70
  pub some-needed : 1 ≤ l.needed
  pub few-needed : l.needed ≤ l.pieces
  pub full : length l.marks ≡ n * l.pieces
  pub marked : (i : ℕ) → i < length l.marks → get_or l.marks i 0 ≤ 1

-- The test behind ROWS fails exactly for a list in order.
abbrev pub RowsExactly : Type 0
RowsExactly = (n : ℕ) (l : Holdings) → (wrong_rows n l ≡ false) ↔ InOrder n l

-- SCOPE 2.1: a list suits the required list if of all groups of the n people just the authorised ones have as many pieces as are needed
abbrev pub SuitsAll : ℕ → List ℕ → Holdings → Type 0
SuitsAll n required l = (g : ℕ) → g < 2 ^ n → (authorised required g ≡ true) ↔ (l.needed ≤ have l g)

-- ---- the answer
-- What planning refuses, judging refuses, with the same number and places, whatever the list.
abbrev pub JudgeAsPlanned : Type 0
JudgeAsPlanned = (p : Policy) (l : Holdings) (m a b : ℕ) → planned p ≡ refused m a b → judging p l ≡ refused m a b

-- Where planning accepts, ROWS is the answer exactly for a list that is not in order.
abbrev pub JudgeRows : Type 0
JudgeRows = (p : Policy) (l : Holdings) (k : ℕ) → planned p ≡ done k → (judging p l ≡ refused (number Rows) 0 0) ↔ (InOrder p.people l → ⊥)

-- A list in order is accepted exactly if it suits the policy.
abbrev pub SuitsExactly : Type 0
SuitsExactly = (p : Policy) (l : Holdings) (k : ℕ) → planned p ≡ done k → InOrder p.people l
    → (judging p l ≡ done suits) ↔ SuitsAll p.people p.required l

-- Where a group is named, it is the lowest of all groups, the empty one among them, for which the list fails, and it fails there on the side
-- that is named.
abbrev pub FirstWrong : Type 0
FirstWrong = (p : Policy) (l : Holdings) (g : ℕ)
    → (judging p l ≡ done (too_few g)
    → IsFirst (λ h. found (way p.required l h)) 0 (2 ^ p.people) g × (authorised p.required g ≡ true) × (have l g < l.needed))
    × (judging p l ≡ done (too_many g)
    → IsFirst (λ h. found (way p.required l h)) 0 (2 ^ p.people) g × (authorised p.required g ≡ false) × (l.needed ≤ have l g))

-- The empty group is right, where the policy is accepted and the list in order.
abbrev pub EmptyRight : Type 0
EmptyRight = (p : Policy) (l : Holdings) (k : ℕ) → planned p ≡ done k → InOrder p.people l → way p.required l 0 ≡ 0

-- ---- our own holdings
-- They are accepted, whatever the accepted policy.
abbrev pub OwnSuits : Type 0
OwnSuits = (p : Policy) (k : ℕ) → planned p ≡ done k → judging p (own p) ≡ done suits

-- Their marks say who holds what.
abbrev pub OwnMarks : Type 0
OwnMarks = (p : Policy) (i j : ℕ) → 1 ≤ i → i ≤ p.people → 1 ≤ j → j ≤ piece_count p.people p.required
    → (mark (own p) i j ≡ 1) ↔ (holds p.people p.required i j ≡ true)

-- ---- how few pieces there can be (SCOPE 2.2)
-- A list that suits an accepted policy and needs all its pieces has as many as ours at least: whoever it is for, whatever its marks, in
-- order or not.
abbrev pub Fewest : Type 0
Fewest = (p : Policy) (l : Holdings) (k : ℕ) → planned p ≡ done k → l.needed ≡ l.pieces → SuitsAll p.people p.required l → k ≤ l.pieces

-- So one that judging accepts.
abbrev pub FewestJudged : Type 0
FewestJudged = (p : Policy) (l : Holdings) (k : ℕ) → planned p ≡ done k → l.needed ≡ l.pieces → judging p l ≡ done suits → k ≤ l.pieces

-- ---- one answer
-- Equal outcomes, equal answers: the promise leaves one possible answer.
abbrev pub JudgedOne : Type 0
JudgedOne = (x y : Result Told Refusal) → judged x ≡ judged y → x ≡ y
