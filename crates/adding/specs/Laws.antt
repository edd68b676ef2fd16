-- The laws that adding owes; their proofs are in proofs/Laws.antt.
-- Assumes nothing.
use Rattle.std.specs.Prelude.{ℕ, ◌≤◌, ◌≡◌, ◌≢◌, ◌↔◌, List, ◌++◌, length, drop}
use Rattle.lists.specs.Laws.{IsFirst}
use Rattle.answer.specs.declared.Kind.TheVariants.{Unlike}
use Rattle.answer.specs.Outcome.{done, refused, number}
use Rattle.field.specs.Added.{added}
use Rattle.block.specs.Words.{word_at}
use Rattle.block.specs.Layout.{label_of, values_of}
use Rattle.block.specs.Open.{TrueBlock}
use Rattle.adding.specs.declared.Pair.{Pair}
use Rattle.adding.specs.Sum.{differ, pair_in, label_under, sum_of}
use Rattle.adding.specs.Adding.{adding, sum_into}

-- ---- what is added
-- what two blocks are that add up under this number and year: true blocks of 512 bytes, of the first scheme, alike in words 3 to 7, neither of
-- that number and that year, with room for the sum
pub record Addable (one two : List ℕ) (new : Pair) (room : ℕ) : Type 0 where
  pub whole_one : length one ≡ 512
  pub whole_two : length two ≡ 512
  pub true_one : TrueBlock one
  pub true_two : TrueBlock two
  pub mark_one : word_at one 1 ≡ 1987
  pub mark_two : word_at two 1 ≡ 1987
  pub alike : (i : ℕ) → 3 ≤ i → i ≤ 7 → word_at one i ≡ word_at two i
  pub number_in_lem : (1 ≤ new.number) × (new.number ≤ 32748)
  pub year_in : new.year ≤ 32748
  pub unlike_one : new ≢ pair_in one
  pub unlike_two : new ≢ pair_in two
  pub fits : 512 ≤ room

-- Adding has a result exactly for these; it is 1, a number of blocks.
abbrev pub AddExactly : Type 0
AddExactly = (one two : List ℕ) (new : Pair) (room n : ℕ) → (adding one two new room ≡ done n) ↔ (Addable one two new room × (n ≡ 1))

-- ---- the sum
-- It is a true block of 512 bytes, which has the new number and year, the words 3 to 7 of both, and for values the sums mod p of theirs.
abbrev pub SumTrue : Type 0
SumTrue = (one two : List ℕ) (new : Pair) (room : ℕ) → adding one two new room ≡ done 1
    → (length (sum_of one two new) ≡ 512)
    × TrueBlock (sum_of one two new)
    × (label_of (sum_of one two new) ≡ label_under new (label_of one))
    × (values_of (sum_of one two new) ≡ added (values_of one) (values_of two))

-- Exchanged, the two blocks are accepted just as well, and give the same block.
abbrev pub AddExchange : Type 0
AddExchange = (one two : List ℕ) (new : Pair) (room : ℕ) → adding one two new room ≡ done 1
    → (adding two one new room ≡ done 1) × (sum_of two one new ≡ sum_of one two new)

-- Of three blocks it does not matter which two are added first, nor under which number and year: where both ways go through and end in one
-- number and year, they end in one block.
abbrev pub AddGroups : Type 0
AddGroups = (one two three : List ℕ) (left right new : Pair) (room : ℕ)
    → adding one two left room ≡ done 1 → adding (sum_of one two left) three new room ≡ done 1
    → adding two three right room ≡ done 1 → adding one (sum_of two three right) new room ≡ done 1
    → sum_of (sum_of one two left) three new ≡ sum_of one (sum_of two three right) new

-- ---- at which place it is UNLIKE: a is the first of words 3 to 7 in which the blocks, both true, differ; b is 0
abbrev pub UnlikePlaces : Type 0
UnlikePlaces = (one two : List ℕ) (new : Pair) (room a b : ℕ) → adding one two new room ≡ refused (number Unlike) a b
    → TrueBlock one × TrueBlock two × IsFirst (differ one two) 3 8 a × (b ≡ 0)

-- ---- what is left in the lent output
-- After a result the sum stands in its first 512 bytes; what lies behind is as before.
abbrev pub ResultWrites : Type 0
ResultWrites = (one two : List ℕ) (new : Pair) (out : List ℕ) → adding one two new (length out) ≡ done 1
    → sum_into one two new out ≡ sum_of one two new ++ drop 512 out

-- Refused, it is as it was.
abbrev pub RefusalKeeps : Type 0
RefusalKeeps = (one two : List ℕ) (new : Pair) (out : List ℕ) (m a b : ℕ) → adding one two new (length out) ≡ refused m a b → sum_into one two new out ≡ out
