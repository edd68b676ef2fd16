-- Lines as the code's chain of checks meets them: what lines say where nothing else follows, and how a line that is not given is passed.
-- Assumes nothing.
use mathlib.Core.Path.{◌≡◌, refl, sym, ◌∙◌}
use mathlib.Core.Bool.{true, false}
use mathlib.Core.List.{List, [], ◌∷◌, ◌++◌}
use Prim.Native.Nat.{ℕ}
use Rattle.answer.specs.declared.Refusal.{Refusal}
use Rattle.std.specs.Prelude.{⊤, Result, Ok, Err}
use Rattle.answer.specs.Outcome.{Outcome, done, refused, number, checked}
use Rattle.answer.specs.Checks.{Line, first_fail}
use Rattle.answer.proofs.CheckLaws.{given, not_given, stops, goes_on}

-- what a check with these lines says
abbrev pub said : List Line → Outcome ℕ
said ls = first_fail ls (done 0)

-- o is what these lines say. It is a record, so that the lines are read off its type.
pub record Says (o : Outcome ℕ) (ls : List Line) : Type 0 where
  pub says : o ≡ said ls

pub whole : (ls : List Line) → Says (said ls) ls
whole ls = record { says = refl }

-- the first line passes: the others speak
pub passes : {o : Outcome ℕ} {l : Line} {ls : List Line} → Says o (l ∷ ls) → l.given ≡ false → Says o ls
passes {l = l} {ls = ls} h e = record { says = h.says ∙ not_given l ls (done 0) e }

-- it is given: it speaks
pub speaks : {o : Outcome ℕ} {l : Line} {ls : List Line} → Says o (l ∷ ls) → l.given ≡ true → refused (number l.kind) l.a l.b ≡ o
speaks {l = l} {ls = ls} h e = sym (h.says ∙ given l ls (done 0) e)

-- none is left
pub silent : {o : Outcome ℕ} → Says o [] → done 0 ≡ o
unfolding first_fail
silent h = sym h.says

-- a callee says what the first lines say: its refusal is what all of them say, and where it passes the others speak
module _ (ls ms : List Line) {o : Outcome ℕ} {x : Result ⊤ Refusal} (h : Says o (ls ++ ms)) (e : checked x ≡ said ls) where
  pub part_speaks : {r : Refusal} → x ≡ Err r → refused (number r.kind) r.a r.b ≡ o
  part_speaks q = stops ls e ms (done 0) q ∙ sym h.says

  pub part_passes : {v : ⊤} → x ≡ Ok v → Says o ms
  part_passes q = record { says = h.says ∙ goes_on ls e ms (done 0) q }
