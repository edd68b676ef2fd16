-- A worked case of renewal: the deal of P11 and a deal of the word 0 by the same policy, added under the number 9.
-- Assumes nothing.
use Rattle.std.specs.Prelude.{◌≡◌, List, [], ◌∷◌, ◌++◌, ℕ, ◌≤◌, length, drop, replicate}
use Rattle.answer.specs.Outcome.{done}
use Rattle.lists.specs.Run.{run}
use Rattle.field.specs.Poly.{piece}
use Rattle.field.specs.Added.{added}
use Rattle.field.specs.Joined.{joined}
use Rattle.block.specs.Words.{bytes_of}
use Rattle.dealing.specs.Deal.{Deal, deal_from, card}
use Rattle.adding.specs.Sum.{pair_of}
use Rattle.adding.specs.Adding.{adding, sum_into}
use Rattle.cases.specs.Table.{policy1, deal11}

-- the deal of zeros: deal 8 of the word 0 with the coefficients 32748 and 1
abbrev pub zeros11 : Deal
zeros11 = deal_from policy1 8 0 (0 ∷ []) (32748 ∷ 1 ∷ [])

-- holder 4's new block, all its 256 words
abbrev pub renewed11 : List ℕ
renewed11 = 1987 ∷ 9 ∷ 4 ∷ 4 ∷ 3 ∷ 1 ∷ 1 ∷ 1246 ∷ replicate 247 0 ++ 12029 ∷ []

pub record Renewed : Type 0 where
  -- the pieces of the deal of zeros
  pub zeros : run (piece 0 (32748 ∷ 1 ∷ [])) 1 3 ≡ 0 ∷ 2 ∷ 6 ∷ []
  -- those of P7 and these, added: they join to what those of P7 join to
  pub pieces : added (1246 ∷ 1272 ∷ 1312 ∷ []) (0 ∷ 2 ∷ 6 ∷ []) ≡ 1246 ∷ 1274 ∷ 1318 ∷ []
  pub joins : joined (1246 ∷ 1274 ∷ 1318 ∷ []) ≡ 1234
  -- holder 4's two blocks add up to the one above, every byte of it, over the front of whatever output of 512 bytes or more is lent
  pub block : (out : List ℕ) → 512 ≤ length out
      → (adding (card deal11 4) (card zeros11 4) (pair_of 9 0) (length out) ≡ done 1)
      × (sum_into (card deal11 4) (card zeros11 4) (pair_of 9 0) out ≡ bytes_of renewed11 ++ drop 512 out)
