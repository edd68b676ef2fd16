-- What the joining program prints (SCOPE 7.3): the line of the secret or of the refusal. Too many bytes are LONG, whatever else is wrong.
-- Assumes nothing.
use Rattle.std.specs.Prelude.{List, [], ◌∷◌, ℕ}
use Rattle.answer.specs.Outcome.{Outcome, done, refused}
use Rattle.answer.specs.Checks.{first_fail}
use Rattle.pile.specs.Lines.{too_long}
use Rattle.joining.specs.Joined.{joining}
use Rattle.joining.specs.Secret.{secret}
use Rattle.print.specs.Lines.{refused_line, secret_line}

-- what the program answers: with room for 16 words, which every secret has
unfoldable pub program_joins : List ℕ → Outcome ℕ
program_joins pile = first_fail (too_long pile ∷ []) (joining pile 16)

-- the line of the secret, or the line of the refusal
abbrev pub line_of : Outcome ℕ → List ℕ → List ℕ
line_of (done w) words = secret_line words
line_of (refused m a b) words = refused_line m a b

-- the line for a pile
unfoldable pub joined_line : List ℕ → List ℕ
joined_line pile = line_of (program_joins pile) (secret pile)
