-- `joining::secret::write_secret` meets its contract. The invariant: the first i words of the secret are written. Assumes nothing.
use mathlib.Core.Path.{◌≡◌}
use lib.ListN.{length}
use Rattle.lists.specs.Over.{over}
use Rattle.field.specs.Secret.{secret_of}
use Rattle.joining.specs.Pile.{own_pieces, value_at}
use Rattle.joining.proofs.secret.write_secret.Given as goal

abbrev pub invariant-loop-i : goal.invariant-loop-i
invariant-loop-i g l = (length l.values ≡ 70) × (l.words ≡ over (secret_of (value_at l.pile) (own_pieces l.pile) l.i) l.initial.words)
