-- One deal by the required sets and its cards, as bytes (SCOPE 3.2 and 4): each minimal required set is a deal of its own among its members.
-- Assumes nothing.
use Rattle.std.specs.Prelude.{ℕ, ◌-◌, List, map, length}
use Rattle.lists.specs.Flat.{flat}
use Rattle.lists.specs.Places.{at}
use Rattle.field.specs.Pieces.{values as valuesIn}
use Rattle.field.specs.Parts.{part_of}
use Rattle.planning.specs.Sets.{member_count}
use Rattle.minimal.specs.Minimal.{minimals, sets_with, number_in}
use Rattle.block.specs.declared.Label.{Label}
use Rattle.block.specs.Written.{block_bytes}
use Rattle.dealing.specs.Deal.{Asked, Deal, asked_of}

-- ---- one block: from what is asked, the k pieces of a set, the secret, the set's part of the randomness, the holder's piece and the set's place
-- the label of the block of piece j, where the secret has so many words
abbrev pub set_label_for : Asked → ℕ → ℕ → ℕ → ℕ → Label
set_label_for asked k width j place =
    record {
      mark = 1988;
      number = asked.number;
      holder = asked.holder;
      people = asked.people;
      pieces = k;
      width = width;
      piece = j;
      year = asked.year;
      set = place;
    }

-- that block's 512 bytes: the values of piece j, made with k − 1 coefficients for each word of the secret
unfoldable pub set_block_for : Asked → ℕ → List ℕ → List ℕ → ℕ → ℕ → List ℕ
set_block_for asked k secret part j place = block_bytes (set_label_for asked k (length secret) j place) (valuesIn (k - 1) secret part j)

-- ---- a card: from what is asked, the sets, the secret and the randomness
-- how many members each set has: as many pieces its deal has
abbrev pub sizes : List ℕ → List ℕ
sizes sets = map member_count sets

-- the holder's block of set s: the holder's piece of that set, with that set's part of the randomness
unfoldable pub block_by : Asked → List ℕ → List ℕ → List ℕ → ℕ → List ℕ
block_by asked sets secret random s =
    set_block_for asked (member_count (at sets s)) secret (part_of (length secret) (sizes sets) random s) (number_in (at sets s) asked.holder) s

-- a card: a block for each set that has the holder, in rising place
abbrev pub card_by : Asked → List ℕ → List ℕ → List ℕ → List ℕ
card_by asked sets secret random = flat (map (block_by asked sets secret random) (sets_with sets asked.holder (length sets)))

-- ---- the cards of a deal
-- its sets: the minimal required sets, in rising number
abbrev pub sets_of : Deal → List ℕ
sets_of d = minimals d.policy.people d.policy.required

-- set s
abbrev pub set_at : Deal → ℕ → ℕ
set_at d s = at (sets_of d) s

-- the places of the sets that have the holder, rising
unfoldable pub sets_held : Deal → ℕ → List ℕ
sets_held d holder = sets_with (sets_of d) holder (length (sets_of d))

-- the values of piece j of set s, one for each word of the secret, in the order of the words
unfoldable pub set_values : Deal → ℕ → ℕ → List ℕ
set_values d s j = valuesIn (member_count (set_at d s) - 1) d.secret (part_of (length d.secret) (sizes (sets_of d)) d.random s) j

-- the values of the holder's piece of set s
abbrev pub own_values : Deal → ℕ → ℕ → List ℕ
own_values d holder s = set_values d s (number_in (set_at d s) holder)

-- the label of the holder's block of set s
unfoldable pub set_label : Deal → ℕ → ℕ → Label
set_label d holder s = set_label_for (asked_of d holder) (member_count (set_at d s)) (length d.secret) (number_in (set_at d s) holder) s

-- that block
unfoldable pub set_block : Deal → ℕ → ℕ → List ℕ
set_block d holder s = block_by (asked_of d holder) (sets_of d) d.secret d.random s

-- the blocks of the holder's card, one for each set that has the holder
unfoldable pub set_blocks : Deal → ℕ → List (List ℕ)
set_blocks d holder = map (set_block d holder) (sets_held d holder)

-- the holder's card; a person in no set has a card without a byte
unfoldable pub set_card : Deal → ℕ → List ℕ
set_card d holder = card_by (asked_of d holder) (sets_of d) d.secret d.random
