-- The line of a pile, case by case.
-- Assumes nothing.
use mathlib.Core.Path.{◌≡◌, sym, ap, ◌∙◌}
use mathlib.Core.List.{List, [], ◌∷◌}
use Prim.Native.Nat.{ℕ, ◌≤◌, ◌<◌}
use native.Mathlib.Omega.{arith}
use lib.ListN.{length, take, replicate}
use lib.Seq.{take_all}
use borrow.Author.Tests.{lt-ltb, le-ltb}
use Rattle.answer.specs.Outcome.{Outcome, done, refused}
use Rattle.answer.specs.Checks.{first_fail}
use Rattle.answer.specs.Lent.{left}
use Rattle.answer.proofs.CheckLaws.{given, not_given, done-passed}
use Rattle.pile.specs.Lines.{too_long}
use Rattle.joining.specs.Joined.{joining, joined_into}
use Rattle.joining.specs.Secret.{secret}
use Rattle.joining.proofs.SixteenLaws.{fits, count, secret-front, secret-fits, secret-counts}
use Rattle.print.specs.Lines.{refused_line, secret_line}
use Rattle.joined_line.specs.Joined.{program_joins, line_of, joined_line}

-- ---- over 65,536 bytes, and at most so many
pub is-long : (pile : List ℕ) (end : Outcome ℕ) → 65536 < length pile → first_fail (too_long pile ∷ []) end ≡ refused 14 0 0
is-long pile end h = given (too_long pile) [] end (lt-ltb 65536 (length pile) h)

pub not-long : (pile : List ℕ) (end : Outcome ℕ) → length pile ≤ 65536 → first_fail (too_long pile ∷ []) end ≡ end
unfolding first_fail
not-long pile end h = not_given (too_long pile) [] end (le-ltb 65536 (length pile) h)

-- ---- a pile that is refused
pub is-refused : (pile : List ℕ) (m a b : ℕ) → program_joins pile ≡ refused m a b → refused_line m a b ≡ joined_line pile
unfolding joined_line
is-refused pile m a b e = sym (ap (λ (o : Outcome ℕ). line_of o (secret pile)) e)

-- ---- a pile that joins: its secret is the first w of sixteen words
module _ (pile : List ℕ) (w : ℕ) (words : List ℕ) (e : program_joins pile ≡ done w) (is : words ≡ left (program_joins pile) (secret pile) (replicate 16 0)) where
  joins : joining pile 16 ≡ done w
  unfolding program_joins
  joins = (done-passed (too_long pile ∷ []) (joining pile 16) w e).1

  lent : words ≡ joined_into pile (replicate 16 0)
  unfolding joined_into
  lent = is ∙ ap (λ (o : Outcome ℕ). left o (secret pile) (replicate 16 0)) (e ∙ sym joins)

  pub words-fit : w ≤ length words
  words-fit = secret-fits pile w words joins lent

  pub words-count : w ≡ length (take w words)
  words-count = secret-counts pile w words joins lent

  pub is-secret : secret_line (take 16 (take w words)) ≡ joined_line pile
  unfolding joined_line
  is-secret =
      ap (λ (l : List ℕ). secret_line (take 16 l)) (secret-front pile w words joins lent)
      ∙ ap secret_line (take_all 16 (secret pile) (omega (arith, count pile w words joins lent, fits pile w words joins lent)))
      ∙ sym (ap (λ (o : Outcome ℕ). line_of o (secret pile)) e)
