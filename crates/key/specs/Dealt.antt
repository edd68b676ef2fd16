-- A key is dealt as the secret of its ten words. Assumes nothing.
use Rattle.std.specs.Prelude.{cond, List, [], ℕ, eqb, length}
use Rattle.packing.specs.Key.{packed}
use Rattle.planning.specs.Policy.{Policy}
use Rattle.dealing.specs.Deal.{Deal, deal_from}

-- the secret that a key is dealt as: its ten words; where there are not 16 bytes, a secret of no words, which SECRET refuses with a = 0
unfoldable pub key_secret : List ℕ → List ℕ
key_secret key = cond (eqb (length key) 16) (packed key) []

-- the deal of a key
abbrev pub key_deal : Policy → ℕ → ℕ → List ℕ → List ℕ → Deal
key_deal policy number year key random = deal_from policy number year (key_secret key) random
