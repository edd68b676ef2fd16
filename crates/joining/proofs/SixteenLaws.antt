-- The secret of a pile that joins, where sixteen words were lent for it: it stands in the first w of them.
-- Assumes nothing.
use mathlib.Core.Path.{◌≡◌, sym, ap, ◌∙◌}
use mathlib.Core.List.{List, ◌++◌}
use Prim.Native.Nat.{ℕ, ◌≤◌}
use native.Mathlib.Omega.{arith}
use lib.ListN.{length, take, drop, replicate, length-append}
use lib.Seq.{take_at}
use Rattle.answer.specs.Outcome.{done}
use Rattle.joining.specs.Joined.{joining, joined_into}
use Rattle.joining.specs.Secret.{secret}
use Rattle.joining.proofs.Laws.{then_joins, result_writes}

module _ (pile : List ℕ) (w : ℕ) (words : List ℕ) (e : joining pile 16 ≡ done w) (is : words ≡ joined_into pile (replicate 16 0)) where
  pub fits : w ≤ 16
  fits = let t = then_joins pile 16 w e in omega (arith, t.fits, t.is)

  pub count : length (secret pile) ≡ w
  count = (result_writes pile (replicate 16 0) w e).0

  whole : words ≡ secret pile ++ drop w (replicate 16 0)
  whole = is ∙ (result_writes pile (replicate 16 0) w e).1

  pub secret-front : take w words ≡ secret pile
  secret-front = ap (take w) whole ∙ take_at (secret pile) (drop w (replicate 16 0)) w count

  pub secret-fits : w ≤ length words
  secret-fits = omega (arith, ap length whole ∙ length-append (secret pile) (drop w (replicate 16 0)), count)

  pub secret-counts : w ≡ length (take w words)
  secret-counts = sym (ap length secret-front ∙ count)
