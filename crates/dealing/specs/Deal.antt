-- One deal and its cards, as bytes (SCOPE 3 and 4).
-- Assumes nothing.
use Rattle.std.specs.Prelude.{ℕ, ◌-◌, List, map, length}
use Rattle.lists.specs.Flat.{flat}
use Rattle.field.specs.Pieces.{values as valuesIn}
use Rattle.planning.specs.Groups as planning
use Rattle.planning.specs.Policy.{Policy}
use Rattle.block.specs.declared.Label.{Label}
use Rattle.block.specs.Written.{block_bytes}

-- SCOPE 3: one deal, the five that all its cards are made from
pub record Deal : Type 0 where
  pub policy : Policy
  pub number : ℕ
  pub year : ℕ
  pub secret : List ℕ
  pub random : List ℕ

-- the deal of these
abbrev pub deal_from : Policy → ℕ → ℕ → List ℕ → List ℕ → Deal
deal_from policy number year secret random = record { policy = policy; number = number; year = year; secret = secret; random = random }

-- the same policy, deal number and year with another secret and other randomness
abbrev pub again : Deal → List ℕ → List ℕ → Deal
again d secret random = deal_from d.policy d.number d.year secret random

-- which card is asked for: of which deal, whose, among so many people
pub record Asked : Type 0 where
  pub people : ℕ
  pub number : ℕ
  pub year : ℕ
  pub holder : ℕ

-- ---- a card of k pieces: from what is asked, k, the secret and the randomness
-- the label of the block of piece j, where the secret has so many words
abbrev pub label_for : Asked → ℕ → ℕ → ℕ → Label
label_for asked k width j =
    record {
      mark = 1987;
      number = asked.number;
      holder = asked.holder;
      people = asked.people;
      pieces = k;
      width = width;
      piece = j;
      year = asked.year;
      set = 0;
    }

-- that block's 512 bytes: the values of piece j, made with k − 1 coefficients for each word of the secret
unfoldable pub block_for : Asked → ℕ → List ℕ → List ℕ → ℕ → List ℕ
block_for asked k secret random j = block_bytes (label_for asked k (length secret) j) (valuesIn (k - 1) secret random j)

-- a card: a block for each of these pieces, in their order
abbrev pub card_over : Asked → ℕ → List ℕ → List ℕ → List ℕ → List ℕ
card_over asked k secret random pieces = flat (map (block_for asked k secret random) pieces)

-- ---- the cards of a deal
-- what is asked where it is the card of this holder
abbrev pub asked_of : Deal → ℕ → Asked
asked_of d holder = record { people = d.policy.people; number = d.number; year = d.year; holder = holder }

-- k, the pieces of the deal
unfoldable pub deal_pieces : Deal → ℕ
deal_pieces d = planning.piece_count d.policy.people d.policy.required

-- the pieces that a holder has, in rising number
unfoldable pub held_by : Deal → ℕ → List ℕ
held_by d holder = planning.held d.policy.people d.policy.required holder

-- the values of piece j, one for each word of the secret, in the order of the words
unfoldable pub piece_values : Deal → ℕ → List ℕ
piece_values d j = valuesIn (deal_pieces d - 1) d.secret d.random j

-- the label of the block of piece j on the holder's card
unfoldable pub label : Deal → ℕ → ℕ → Label
label d holder j = label_for (asked_of d holder) (deal_pieces d) (length d.secret) j

-- that block
unfoldable pub block_of : Deal → ℕ → ℕ → List ℕ
block_of d holder j = block_for (asked_of d holder) (deal_pieces d) d.secret d.random j

-- the blocks of the holder's card, one for each piece held
unfoldable pub card_blocks : Deal → ℕ → List (List ℕ)
card_blocks d holder = map (block_of d holder) (held_by d holder)

-- SCOPE 4: the holder's card; a holder of no piece has a card without a byte
unfoldable pub card : Deal → ℕ → List ℕ
card d holder = card_over (asked_of d holder) (deal_pieces d) d.secret d.random (held_by d holder)
