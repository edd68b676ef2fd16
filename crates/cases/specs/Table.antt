-- SCOPE 8.1: P1 to P12, with P8 by differences and by weights too, in its order and with its figures, each over the definitions that the promises cite.
-- Assumes nothing.
use Rattle.std.specs.Prelude.{◌≡◌, List, [], ◌∷◌, ◌++◌, map, ℕ, ◌%◌, ◌≤◌, length, drop, replicate}
use Rattle.answer.specs.declared.Kind.TheVariants.{Lone, Clash, Short}
use Rattle.answer.specs.Outcome.{done, refused, number}
use Rattle.prime.specs.Prime.{p}
use Rattle.field.specs.Poly.{piece}
use Rattle.lists.specs.Run.{run}
use Rattle.field.specs.Joined.{joined}
use Rattle.field.specs.Differences.{rows, firsts, alternating, by_differences}
use Rattle.field.specs.Lagrange.{weighed}
use Rattle.triangle.specs.Triangle.{weight}
use Rattle.planning.specs.Groups.{held}
use Rattle.planning.specs.Policy.{Policy, policy_of}
use Rattle.planning.specs.Planned.{planned}
use Rattle.block.specs.Words.{bytes_of}
use Rattle.dealing.specs.Deal.{Deal, deal_from, card}
use Rattle.dealing.specs.Dealt.{dealing, dealt_into}
use Rattle.joining.specs.Joined.{joining, joined_into}
use Rattle.listing.specs.Listing.{listed}
use Rattle.cases.specs.Plain.{set, text_of, Accepted}

-- the policy of P1: four people, these sets required, the last one forbidden
abbrev pub policy1 : Policy
policy1 = policy_of 4 (set (1 ∷ 2 ∷ []) ∷ set (2 ∷ 3 ∷ []) ∷ set (3 ∷ 4 ∷ []) ∷ []) (set (1 ∷ 4 ∷ []) ∷ [])

-- its text
abbrev pub text1 : List ℕ
text1 = text_of ("people 4" ∷ "need 1 2" ∷ "need 2 3" ∷ "need 3 4" ∷ "bar 1 4" ∷ [])

-- what is printed for it, to the byte
abbrev pub printed1 : List ℕ
printed1 =
    text_of
    ("people 4 pieces 3"
    ∷ "piece 1 missing 1 3"
    ∷ "piece 2 missing 1 4"
    ∷ "piece 3 missing 2 4"
    ∷ "holder 1 has 3"
    ∷ "holder 2 has 1 2"
    ∷ "holder 3 has 2 3"
    ∷ "holder 4 has 1"
    ∷ [])

-- every pair of three people
abbrev pub pairs : List ℕ
pairs = set (1 ∷ 2 ∷ []) ∷ set (1 ∷ 3 ∷ []) ∷ set (2 ∷ 3 ∷ []) ∷ []

-- the deal of P11, of a year: the policy of P1, deal 7, word and coefficients of P7
abbrev pub deal_in : ℕ → Deal
deal_in year = deal_from policy1 7 year (1234 ∷ []) (5 ∷ 7 ∷ [])

-- that of the year 0, which P11 and P12 are
abbrev pub deal11 : Deal
deal11 = deal_in 0

-- the block of P11, all its 256 words
abbrev pub words11 : List ℕ
words11 = 1987 ∷ 7 ∷ 4 ∷ 4 ∷ 3 ∷ 1 ∷ 1 ∷ 1246 ∷ replicate 247 0 ++ 12025 ∷ []

-- the same block of the deal of the year 2026
abbrev pub words2026 : List ℕ
words2026 = 1987 ∷ 7 ∷ 4 ∷ 4 ∷ 3 ∷ 1 ∷ 1 ∷ 1246 ∷ replicate 15 0 ++ 2026 ∷ replicate 231 0 ++ 27900 ∷ []

-- the pile of P12: the cards of holders 1 and 4 of that deal, one after the other
abbrev pub pile12 : List ℕ
pile12 = card deal11 1 ++ card deal11 4

pub record Table : Type 0 where
  -- the listing: what planning answers, what each holder has, and every byte that the listing program prints
  pub p1 : Accepted policy1 (set (1 ∷ 3 ∷ []) ∷ set (1 ∷ 4 ∷ []) ∷ set (2 ∷ 4 ∷ []) ∷ [])
      × (map (held 4 policy1.required) (1 ∷ 2 ∷ 3 ∷ 4 ∷ []) ≡ (3 ∷ []) ∷ (1 ∷ 2 ∷ []) ∷ (2 ∷ 3 ∷ []) ∷ (1 ∷ []) ∷ [])
      × (listed text1 ≡ printed1)
  -- one person; {1} is required: LONE with a = 1. The base accepted it, with k = 1, a piece that nobody lacks and that person 1 has;
  -- since request Three two people at least open, and what document 01 says of this case no longer holds
  pub p2 : planned (policy_of 1 (set (1 ∷ []) ∷ []) []) ≡ refused (number Lone) 1 0
  -- three people; {1, 2} is required: the groups are {1, 3} and {2, 3}, and person 3 has no piece
  pub p3 : Accepted (policy_of 3 (set (1 ∷ 2 ∷ []) ∷ []) []) (set (1 ∷ 3 ∷ []) ∷ set (2 ∷ 3 ∷ []) ∷ [])
      × (held 3 (set (1 ∷ 2 ∷ []) ∷ []) 3 ≡ [])
  -- three people; all pairs are required: the groups are {1}, {2} and {3}, and person 1 has pieces 2 and 3
  pub p4 : Accepted (policy_of 3 pairs []) (set (1 ∷ []) ∷ set (2 ∷ []) ∷ set (3 ∷ []) ∷ [])
      × (held 3 pairs 1 ≡ 2 ∷ 3 ∷ [])
  -- two people; {1, 2} is required and also forbidden: CLASH with a = 1, b = 1
  pub p5 : planned (policy_of 2 (set (1 ∷ 2 ∷ []) ∷ []) (set (1 ∷ 2 ∷ []) ∷ [])) ≡ refused (number Clash) 1 1
  -- as P5, but what is forbidden is {1}: accepted, and the groups are {1} and {2}
  pub p6 : Accepted (policy_of 2 (set (1 ∷ 2 ∷ []) ∷ []) (set (1 ∷ []) ∷ [])) (set (1 ∷ []) ∷ set (2 ∷ []) ∷ [])
  -- the pieces of the word 1234 with the coefficients 5 and 7
  pub p7 : run (piece 1234 (5 ∷ 7 ∷ [])) 1 3 ≡ 1246 ∷ 1272 ∷ 1312 ∷ []
  -- those three pieces, joined
  pub p8 : joined (1246 ∷ 1272 ∷ 1312 ∷ []) ≡ 1234
  -- the same by differences: the three rows, their first numbers, and 1246 − 26 + 14
  pub p8_by_differences : (rows (1246 ∷ 1272 ∷ 1312 ∷ []) ≡ (1246 ∷ 1272 ∷ 1312 ∷ []) ∷ (26 ∷ 40 ∷ []) ∷ (14 ∷ []) ∷ [])
      × (firsts (1246 ∷ 1272 ∷ 1312 ∷ []) ≡ 1246 ∷ 26 ∷ 14 ∷ [])
      × (alternating (1246 ∷ 26 ∷ 14 ∷ []) ≡ 1234)
      × (by_differences (1246 ∷ 1272 ∷ 1312 ∷ []) ≡ 1234)
  -- the same by weights, which are 3, 32746 and 1: 3 · 1246 + 32746 · 1272 + 1312 mod p
  pub p8_by_weights : weighed (weight 3) 1 (1246 ∷ 1272 ∷ 1312 ∷ []) % p ≡ 1234
  -- the pieces of the word 32748 with the coefficients 1 and 0
  pub p9 : run (piece 32748 (1 ∷ 0 ∷ [])) 1 3 ≡ 0 ∷ 1 ∷ 2 ∷ []
  -- the word 0 with the coefficients 23483 and 10512: its pieces 1 and 3 are as in P7
  pub p10 : (piece 0 (23483 ∷ 10512 ∷ []) 1 ≡ 1246) × (piece 0 (23483 ∷ 10512 ∷ []) 3 ≡ 1312)
  -- the card of holder 4 in the deal above is the one block above, every byte of it, and dealing writes it over the front of whatever
  -- output of 512 bytes or more is lent
  pub p11 : (card deal11 4 ≡ bytes_of words11)
      × ((out : List ℕ) → 512 ≤ length out
      → (dealing deal11 4 (length out) ≡ done 1) × (dealt_into deal11 4 out ≡ bytes_of words11 ++ drop 512 out))
  -- under the year 2026 it is that card with 2026 in word 24, and the check that goes with it
  pub p11-year : card (deal_in 2026) 4 ≡ bytes_of words2026
  -- the cards of holders 1 and 4 in that deal: SHORT with a = 2, b = 3; whatever output is lent stays as it was
  pub p12 : (out : List ℕ)
      → (joining pile12 (length out) ≡ refused (number Short) 2 3)
      × (joined_into pile12 out ≡ out)
