-- Checks in the order of SCOPE 6.3, of which the first that fails gives the answer.
-- Assumes nothing.
use Rattle.std.specs.Prelude.{Bool, true, false, List, [], ◌∷◌, map, ℕ}
use Rattle.answer.specs.declared.Kind.{Kind}
use Rattle.answer.specs.Outcome.{Outcome, refused, number}

-- a line of the table of refusals: the refusal's kind, when it is given, and its places a and b
pub record Line : Type 0 where
  pub kind : Kind
  pub given : Bool
  pub a : ℕ
  pub b : ℕ

abbrev pub line : Kind → Bool → ℕ → ℕ → Line
line kind given a b = record { kind = kind; given = given; a = a; b = b }

-- one outcome where the test holds, another where it does not
abbrev pub pick : {A : Type 0} → Bool → Outcome A → Outcome A → Outcome A
pick true x y = x
pick false x y = y

-- the first of the lines whose refusal is given speaks; where none is, the outcome is `end`
unfoldable pub first_fail : {A : Type 0} → List Line → Outcome A → Outcome A
first_fail [] end = end
first_fail (l ∷ ls) end = pick l.given (refused (number l.kind) l.a l.b) (first_fail ls end)

-- the numbers of the lines, in their order
abbrev pub numbers : List Line → List ℕ
numbers ls = map (λ l. number l.kind) ls
