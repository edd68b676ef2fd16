-- The secret of a pile: what its pieces 1 to k join to, word by word. Assumes nothing.
use Rattle.std.specs.Prelude.{ℕ, List}
use Rattle.field.specs.Secret.{secret_of}
use Rattle.joining.specs.Pile.{own_pieces, own_width, value_at}

abbrev pub secret : List ℕ → List ℕ
secret pile = secret_of (value_at pile) (own_pieces pile) (own_width pile)
