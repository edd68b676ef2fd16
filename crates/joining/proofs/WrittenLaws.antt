-- What a joiner goes by once the pile and its room are checked, in whatever way it makes the secret; and that there is one answer and one content
-- of the output for every joiner that keeps the promise. Assumes nothing.
use mathlib.Core.Path.{◌≡◌, sym, ap, ◌∙◌}
use mathlib.Core.List.{List, ◌++◌}
use Prim.Native.Nat.{ℕ, ◌≤◌}
use native.Mathlib.Omega.{arith}
use lib.ListN.{length, drop}
use Rattle.lists.specs.Over.{over}
use Rattle.answer.specs.Outcome.{done, refused}
use Rattle.answer.proofs.Laws.{outcome_one}
use Rattle.answer.proofs.LentLaws.{result_writes, refusal_keeps}
use Rattle.field.proofs.SecretLaws.{secret-length}
use Rattle.joining.specs.Pile.{own_pieces, own_width, value_at}
use Rattle.joining.specs.Joined.{joining, joined_into}
use Rattle.joining.specs.Secret.{secret}
use Rattle.joining.specs.Inner.{Full}
use Rattle.joining.specs.Laws as law
use Rattle.joining.proofs.SoundLaws.{given-joins}

-- joining gives w
module _ (pile old : List ℕ) (w : ℕ) (e : joining pile (length old) ≡ done w) where
  pub full : Full pile
  full = (given-joins pile (length old) w e).accepted.full

  pub width_is : w ≡ own_width pile
  width_is = sym (given-joins pile (length old) w e).is

  pub width_fits : w ≤ length old
  width_fits = let t = given-joins pile (length old) w e in omega (arith, t.is, t.fits)

  -- the secret over the first w words of the output is all there is to write
  pub written : secret pile ++ drop w old ≡ joined_into pile old
  unfolding joined_into over
  written =
      let is : w ≡ length (secret pile) = width_is ∙ sym (secret-length (value_at pile) (own_pieces pile) (own_width pile)) in
      ap (λ (n : ℕ). secret pile ++ drop n old) is ∙ sym (result_writes (joining pile (length old)) w (secret pile) old e)

-- joining refuses
pub kept : (pile old : List ℕ) (m a b : ℕ) → joining pile (length old) ≡ refused m a b → old ≡ joined_into pile old
unfolding joined_into
kept pile old m a b e = sym (refusal_keeps (joining pile (length old)) m a b (secret pile) old e)

pub joiners_agree : law.JoinersAgree
joiners_agree pile old x y a b p q = (outcome_one x y (p.says ∙ sym q.says), p.leaves ∙ sym q.leaves)
