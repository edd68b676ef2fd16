-- The listing (SCOPE 7.2).
-- Assumes nothing.
use Rattle.std.specs.Prelude.{Bool, not, List, [], ◌∷◌, ◌++◌, ℕ}
use Rattle.answer.specs.Outcome.{Outcome, done, refused}
use Rattle.lists.specs.Places.{those}
use Rattle.planning.specs.Groups.{piece_count, holds}
use Rattle.planning.specs.Policy.{Policy}
use Rattle.planning.specs.Planned.{planned}
use Rattle.print.specs.Lines.{spaced_all, feed, label, pair_line, rising, refused_line}
use Rattle.policy.specs.Policy.{read_policy}

-- `people`
abbrev pub people_label : List ℕ
people_label = 112 ∷ 101 ∷ 111 ∷ 112 ∷ 108 ∷ 101 ∷ []

-- ` pieces`
abbrev pub pieces_label : List ℕ
pieces_label = 32 ∷ 112 ∷ 105 ∷ 101 ∷ 99 ∷ 101 ∷ 115 ∷ []

-- `piece`
abbrev pub piece_label : List ℕ
piece_label = 112 ∷ 105 ∷ 101 ∷ 99 ∷ 101 ∷ []

-- ` missing`
abbrev pub missing_label : List ℕ
missing_label = 32 ∷ 109 ∷ 105 ∷ 115 ∷ 115 ∷ 105 ∷ 110 ∷ 103 ∷ []

-- `holder`
abbrev pub holder_label : List ℕ
holder_label = 104 ∷ 111 ∷ 108 ∷ 100 ∷ 101 ∷ 114 ∷ []

-- ` has`
abbrev pub has_label : List ℕ
has_label = 32 ∷ 104 ∷ 97 ∷ 115 ∷ []

-- the first line: n and k
unfoldable pub first_line : ℕ → ℕ → List ℕ
first_line n k = pair_line people_label n pieces_label k

-- the line of piece j: those of the n people with the test, who lack it; where there are none, the line feed stands right behind `missing`
unfoldable pub piece_line : (ℕ → Bool) → ℕ → ℕ → List ℕ
piece_line lacks n j = label piece_label j missing_label ++ spaced_all (those lacks 1 n) ++ feed

-- the line of holder i: those of the k pieces with the test, which the holder has
unfoldable pub holder_line : (ℕ → Bool) → ℕ → ℕ → List ℕ
holder_line has k i = label holder_label i has_label ++ spaced_all (those has 1 k) ++ feed

-- the lines in order, of n people and k pieces; lacks j i: person i lacks piece j; has i j: person i has piece j
unfoldable pub listing_by : (ℕ → ℕ → Bool) → (ℕ → ℕ → Bool) → ℕ → ℕ → List ℕ
listing_by lacks has n k = first_line n k ++ rising (λ j. piece_line (lacks j) n j) k ++ rising (λ i. holder_line (has i) k i) n

-- the listing of an accepted policy: a person lacks the pieces that the person does not hold
unfoldable pub listing : ℕ → List ℕ → List ℕ
listing n required = listing_by (λ j i. not (holds n required i j)) (holds n required) n (piece_count n required)

-- planning's answer: the listing, or the refusal
abbrev pub answered : Outcome ℕ → List ℕ → List ℕ
answered (done k) lines = lines
answered (refused m a b) lines = refused_line m a b

-- what is printed for a policy
unfoldable pub listed_plan : Policy → List ℕ
listed_plan p = answered (planned p) (listing p.people p.required)

-- SCOPE 7.1: TEXT is looked for before planning's refusals
abbrev pub listed_policy : Outcome Policy → List ℕ
listed_policy (done p) = listed_plan p
listed_policy (refused m a b) = refused_line m a b

-- what the listing program prints for a text
unfoldable pub listed : List ℕ → List ℕ
listed text = listed_policy (read_policy text)
