-- The five words that a client opens with, those of a deal's blocks: which of them no true block has, and what a client's stored words say.
-- Assumes nothing.
use Rattle.std.specs.Prelude.{ℕ, Bool, cond, ◌&&◌, ◌||◌, List, eqb, replicate}
use Rattle.lists.specs.Places.{outside}
use Rattle.prime.specs.Prime.{too_large}
use Rattle.block.specs.Words.{word_at}
use Rattle.desk.specs.declared.Opening.{Opening}
use Rattle.desk.specs.declared.Clients.{Clients}
use Rattle.desk.specs.declared.Desk.{Desk}

-- words 2, 4, 5, 6 and 24, as a call lends them
abbrev pub words : ℕ → ℕ → ℕ → ℕ → ℕ → Opening
words deal people pieces width year = record { deal = deal; people = people; pieces = pieces; width = width; year = year }

-- none of them
abbrev pub no_words : Opening
no_words = words 0 0 0 0 0

-- SCOPE 5.2: the desk at which no call was made yet: every number is 0
unfoldable pub fresh_desk : Desk
fresh_desk = record { slots = replicate 1190 0; clients = record { one = no_words; two = no_words } }

-- the first of the five words that no true block has, or 0: a deal number outside 1 to 32748, n outside 1 to 8, k outside 1 to 70, w outside
-- 1 to 16, a year above 32748
unfoldable pub bad_word : Opening → ℕ
bad_word o =
    cond (outside 32748 o.deal) 2
    (cond (outside 8 o.people) 4
    (cond (outside 70 o.pieces) 5
    (cond (outside 16 o.width) 6
    (cond (too_large o.year) 24
    0))))

-- there are two clients, 1 and 2
abbrev pub is_client : ℕ → Bool
is_client c = eqb c 1 || eqb c 2

abbrev pub other : ℕ → ℕ
other c = cond (eqb c 1) 2 1

-- x for client 1, y for client 2
abbrev pub by_client : {A : Type 0} → ℕ → A → A → A
by_client c x y = cond (eqb c 1) x y

-- the words that client c has stored, among those of both and at a desk
abbrev pub words_in : Clients → ℕ → Opening
words_in both c = by_client c both.one both.two

abbrev pub words_of : Desk → ℕ → Opening
words_of d c = words_in d.clients c

-- an opening would take these words. A client is open exactly where the words it has stored are such
abbrev pub accepted : Opening → Bool
accepted o = eqb (bad_word o) 0

-- the slots of a client with these words: k where it is open, else none
abbrev pub reserved : Opening → ℕ
reserved o = cond (accepted o) o.pieces 0

-- the five words of a block
abbrev pub opening_of : List ℕ → Opening
opening_of b = words (word_at b 2) (word_at b 4) (word_at b 5) (word_at b 6) (word_at b 24)

-- all five are the same
unfoldable pub alike : Opening → Opening → Bool
alike x y =
    eqb x.deal y.deal
    && (eqb x.people y.people && (eqb x.pieces y.pieces && (eqb x.width y.width && eqb x.year y.year)))
