-- The laws that this room owes; their proofs are in proofs/Laws.antt.
-- Assumes nothing.
use Rattle.std.specs.Prelude.{◌≡◌, ◌≢◌, List, [], ◌∷◌, ℕ, ◌+◌, ◌-◌, ◌*◌, ◌%◌, ◌≤◌, ◌<◌, length, get_or, take, drop, replicate}
use Rattle.lists.specs.Places.{at}
use Rattle.lists.specs.Run.{run}
use Rattle.prime.specs.Prime.{p, Below}
use Rattle.field.specs.Poly.{value, piece, Through, One}
use Rattle.field.specs.Hiding.{Matched, Hidden, Gives}
use Rattle.field.specs.Pieces.{values, Random, Paired, GivesValues}
use Rattle.field.specs.Joined.{joined}
use Rattle.field.specs.Differences.{rows, by_differences}
use Rattle.field.specs.Lagrange.{Weights, weights_of}
use Rattle.field.specs.Added.{added}
use Rattle.field.specs.Secret.{column, secret_of}
use Rattle.field.specs.Renewing.{zeros_for, PairedTwo}
use Rattle.field.specs.Parts.{part_of, part_values, RandomAll, PairedAll}

-- SCOPE 3: coefficients are read off the lent randomness from its front, one word after the other. With q for each, word i has those after
-- the first (i−1)·q.
abbrev pub ValuesAt : Type 0
ValuesAt = (q : ℕ) (ds rs : List ℕ) (j i : ℕ) → 1 ≤ i → i ≤ length ds
    → get_or (values q ds rs j) (i - 1) 0 ≡ piece (get_or ds (i - 1) 0) (take q (drop ((i - 1) * q) rs)) j

-- SCOPE 3: any of the coefficients may be zero, a(k−1) as well. Zeros alone are randomness like any other.
abbrev pub ZerosToo : Type 0
ZerosToo = (w k : ℕ) → Random w k (replicate (w * (k - 1)) 0)

-- A piece has a value for each secret word, and each is one of 0 to 32748.
abbrev pub ValuesFit : Type 0
ValuesFit = (q : ℕ) (ds rs : List ℕ) (j : ℕ) → (length (values q ds rs j) ≡ length ds) × Below (values q ds rs j)

-- SCOPE 3: for any k pieces, exactly one polynomial of degree less than k has piece 1 as its value at 1, piece 2 at 2, and so on up to k.
-- The joined word is its value at 0.
abbrev pub JoinedOne : Type 0
JoinedOne = (ys : List ℕ) → Below ys → length ys < p → (cs : List ℕ) × One (λ ds. Through ds ys) cs × (joined ys ≡ value cs 0)

-- Differences alone give the joined word, of however many pieces.
abbrev pub ByDifferences : Type 0
ByDifferences = (ys : List ℕ) → by_differences ys ≡ joined ys

-- Of k pieces there are k rows; row i has k + 1 − i numbers, so that the last has one.
abbrev pub RowsEnd : Type 0
RowsEnd = (ys : List ℕ) → (length (rows ys) ≡ length ys)
    × ((i : ℕ) → 1 ≤ i → i ≤ length ys → length (get_or (rows ys) (i - 1) []) ≡ length ys + 1 - i)

-- Joining the k pieces of the word d gives d, whatever its k−1 coefficients are.
abbrev pub RoundTrip : Type 0
RoundTrip = (d : ℕ) (cs : List ℕ) → Below (d ∷ cs) → joined (run (piece d cs) 1 (length (d ∷ cs))) ≡ d

-- And so word by word: joining the values i of all k pieces of a secret gives word i.
abbrev pub RoundTripWords : Type 0
RoundTripWords = (k : ℕ) (ds rs : List ℕ) → 1 ≤ k → Below ds → Random (length ds) k rs
    → (i : ℕ) → 1 ≤ i → i ≤ length ds → joined (run (λ j. get_or (values (k - 1) ds rs j) (i - 1) 0) 1 k) ≡ get_or ds (i - 1) 0

-- the polynomial 1 + c₁·x + c₂·x² + .. of degree below k, with the cs for its c₁, c₂, .., is 1 at 0 and 0 at every piece of 1 to k but m
pub record Loose (k m : ℕ) (cs : List ℕ) : Type 0 where
  pub degree : length (1 ∷ cs) ≡ k
  pub below : Below cs
  pub none : (j : ℕ) → 1 ≤ j → j ≤ k → j ≢ m → value (1 ∷ cs) j % p ≡ 0

-- For every piece m there is such a polynomial: added to a deal, it changes the secret and, of the pieces, piece m alone.
abbrev pub LooseSome : Type 0
LooseSome = (k m : ℕ) → k < p → 1 ≤ m → m ≤ k → (cs : List ℕ) × Loose k m cs

-- For demand 3: whichever piece m is lacking, the randomness of any two secrets of as many words stands in pairs, by a map and its inverse,
-- so that every other piece has the same values.
abbrev pub PairedSome : Type 0
PairedSome = (k m : ℕ) (ds ds' : List ℕ) → k < p → 1 ≤ m → m ≤ k → length ds ≡ length ds' → Paired k m ds ds'

-- What is hidden is not favoured by what is seen: whatever the members see, it comes from as much randomness of the one as of the other.
abbrev pub NoneFavoured : Type 1
NoneFavoured = (X Y W : Type 0) (A : X → Type 0) (B : Y → Type 0) (one : X → W → List ℕ) (other : Y → W → List ℕ) (member : W → Type 0)
    → Hidden A B one other member → (c : W → List ℕ) → Matched (Gives A one member c) (Gives B other member c)

-- So what is seen makes no secret likelier: whatever values the pieces but m have, any two secrets of as many words have equally many
-- lists of randomness that give them.
abbrev pub HiddenGives : Type 0
HiddenGives = (k m : ℕ) (v : ℕ → List ℕ) (ds ds' : List ℕ) → k < p → 1 ≤ m → m ≤ k → length ds ≡ length ds'
    → Matched (GivesValues k m v ds) (GivesValues k m v ds')

-- The table of weights has the weight of each piece in its place.
abbrev pub WeightsAre : Type 0
WeightsAre = (k : ℕ) → Weights k (weights_of k)

-- A sum of two lists is as long as the first, if the second has as many numbers or more; and each of its numbers is one of 0 to 32748.
abbrev pub AddedFits : Type 0
AddedFits = (xs ys : List ℕ) → (length xs ≤ length ys → length (added xs ys) ≡ length xs) × Below (added xs ys)

-- Of two lists of one length, it has at each place the sum mod p of the numbers there (past their end all three read 0).
abbrev pub AddedAt : Type 0
AddedAt = (xs ys : List ℕ) → length xs ≡ length ys → (i : ℕ) → get_or (added xs ys) i 0 ≡ (get_or xs i 0 + get_or ys i 0) % p

-- Adding deals: the values of a piece of two deals, added, are those of the deal of the added secrets with the added randomness.
abbrev pub ValuesAdded : Type 0
ValuesAdded = (q : ℕ) (ds ds' rs rs' : List ℕ) (j : ℕ) → length ds ≡ length ds' → length rs ≡ length rs'
    → values q (added ds ds') (added rs rs') j ≡ added (values q ds rs j) (values q ds' rs' j)

-- Adding a deal of as many zeros leaves the secret: what comes out is a deal of the same words, with the added randomness.
abbrev pub ZerosAdded : Type 0
ZerosAdded = (q : ℕ) (ds rs rs' : List ℕ) (j : ℕ) → Below ds → length rs ≡ length rs'
    → added (values q ds rs j) (values q (zeros_for ds) rs' j) ≡ values q ds (added rs rs') j

-- Whichever piece m of the deal and whichever piece m' of the sum are lacking, the pairs of randomness of any two secrets of as many words stand in
-- pairs, by a map and its inverse, so that every other piece of the deal and every other piece of the sum has the same values.
abbrev pub PairedTwoSome : Type 0
PairedTwoSome = (k m m' : ℕ) (ds ds' : List ℕ) → k < p → 1 ≤ m → m ≤ k → 1 ≤ m' → m' ≤ k → length ds ≡ length ds' → Below ds → Below ds'
    → PairedTwo k m m' ds ds'

-- ---- several deals of one secret (SCOPE 3.2)
-- Each deal's part is randomness for a deal of its own.
abbrev pub PartRandom : Type 0
PartRandom = (w : ℕ) (ks random : List ℕ) → RandomAll w ks random → (s : ℕ) → 1 ≤ s → s ≤ length ks → Random w (at ks s) (part_of w ks random s)

-- Any one of the deals, with all its pieces, gives the secret, word by word.
abbrev pub RoundTripAll : Type 0
RoundTripAll = (ks ds random : List ℕ) → Below ds → RandomAll (length ds) ks random → (s : ℕ) → 1 ≤ s → s ≤ length ks → 1 ≤ at ks s
    → (i : ℕ) → 1 ≤ i → i ≤ length ds → joined (run (λ j. get_or (part_values ks ds random s j) (i - 1) 0) 1 (at ks s)) ≡ get_or ds (i - 1) 0

-- For demand 3: whichever piece m s is lacking of each deal s, all the randomness of any two secrets of as many words stands in pairs, by a
-- map and its inverse, so that every other piece of every deal has the same values.
abbrev pub PairedAllSome : Type 0
PairedAllSome = (ks : List ℕ) (m : ℕ → ℕ) (ds ds' : List ℕ) → ((s : ℕ) → 1 ≤ s → s ≤ length ks → (at ks s < p) × (1 ≤ m s) × (m s ≤ at ks s))
    → length ds ≡ length ds' → PairedAll ks m ds ds'

-- ---- pieces that are added
-- Pieces that are added join to the sum mod p of the words.
abbrev pub JoinedAdded : Type 0
JoinedAdded = (ys zs : List ℕ) → length ys ≡ length zs → joined (added ys zs) ≡ (joined ys + joined zs) % p

-- And so word by word: where every value is the sum mod p of two others, the secret is the sum of the two secrets.
abbrev pub SecretAdded : Type 0
SecretAdded = (u v v' : ℕ → ℕ → ℕ) (k w : ℕ) → ((j i : ℕ) → 1 ≤ j → j ≤ k → 1 ≤ i → i ≤ w → u j i ≡ (v j i + v' j i) % p)
    → secret_of u k w ≡ added (secret_of v k w) (secret_of v' k w)

-- The secret of k pieces has w words, each one of 0 to 32748. For word i there is one polynomial of degree less than k that has value i of
-- piece j at j, for each piece 1 to k; the word is its value at 0.
abbrev pub SecretOne : Type 0
SecretOne = (v : ℕ → ℕ → ℕ) (k w : ℕ) → k < p → ((j i : ℕ) → 1 ≤ j → j ≤ k → 1 ≤ i → i ≤ w → v j i < p)
    → (length (secret_of v k w) ≡ w)
    × Below (secret_of v k w)
    × ((i : ℕ) → 1 ≤ i → i ≤ w → (cs : List ℕ) × One (λ ds. Through ds (column v k i)) cs × (get_or (secret_of v k w) (i - 1) 0 ≡ value cs 0))
