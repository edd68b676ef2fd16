-- Opening the first block of what is lent (SCOPE 5): TORN, UNREAD, CHECK, HEADER, else words 1 to 7; and the value bytes.
-- Assumes nothing.
use Rattle.std.specs.Prelude.{Result, ℕ, ◌*◌, ◌≤◌, ◌≡◌, Bool, cond, not, List, [], ◌∷◌, ◌++◌, length, take, drop, eqb, ltb}
use Rattle.answer.specs.declared.Kind.TheVariants.{Torn, Unread, Check, Header}
use Rattle.answer.specs.Outcome.{Outcome, done, refused, outcome_by}
use Rattle.answer.specs.Checks.{Line, line, first_fail}
use Rattle.lists.specs.Places.{first_in, found}
use Rattle.prime.specs.Prime.{too_large}
use Rattle.block.specs.Words.{word_at, check_of, Small}
use Rattle.block.specs.Deals.{marks_sets}
use Rattle.block.specs.Layout.{front_words, width_of, first_wrong, Layout}
use Rattle.block.specs.declared.Words.{Words}
use Rattle.answer.specs.declared.Refusal.{Refusal}

-- word i exceeds 32748
abbrev pub above : List ℕ → ℕ → Bool
above b i = too_large (word_at b i)

-- the first of the 256 words that is above 32748, or 0
unfoldable pub first_above : List ℕ → ℕ
first_above b = first_in (above b) 1 257

-- 13 TORN: fewer than 512 bytes
abbrev pub torn : List ℕ → Line
torn pile = line Torn (ltb (length pile) 512) 0 0

-- 15 UNREAD: some word exceeds 32748; a is the block, b the first such word
abbrev pub unread : List ℕ → ℕ → Line
unread b a = line Unread (found (first_above b)) a (first_above b)

-- 16 CHECK: word 256 is not the check of the others; a is the block
abbrev pub check : List ℕ → ℕ → Line
check b a = line Check (not (eqb (check_of b) (word_at b 256))) a 0

-- 17 HEADER: some word from 1 to 255 is not as SCOPE 4 has it; a is the block, b the first such word
abbrev pub header : List ℕ → ℕ → Line
header b a = line Header (found (first_wrong b)) a (first_wrong b)

-- 15 and 16 of b, which is block a: what its slots hold, whatever their meaning
abbrev pub slot_lines : List ℕ → ℕ → List Line
slot_lines b a = unread b a ∷ check b a ∷ []

-- 15, 16 and 17 of b, which is block a
abbrev pub block_lines : List ℕ → ℕ → List Line
block_lines b a = slot_lines b a ++ header b a ∷ []

-- 13 TORN, of a block that is lent alone: not 512 bytes, be they fewer or more
abbrev pub torn_block : List ℕ → Line
torn_block b = line Torn (not (eqb (length b) 512)) 0 0

-- the first word that is not as a block of the first scheme has it, or 0: of a block of a deal by sets that is word 1, whatever else is wrong
unfoldable pub first_foreign : List ℕ → ℕ
first_foreign b = cond (marks_sets (word_at b 1)) 1 (first_wrong b)

-- 17 HEADER, where only blocks of the first scheme are taken
abbrev pub foreign : List ℕ → ℕ → Line
foreign b a = line Header (found (first_foreign b)) a (first_foreign b)

-- 13, 15, 16 and 17 of a block that is lent alone and must be of the first scheme; the call counts it as block a
abbrev pub one_lines : List ℕ → ℕ → List Line
one_lines b a = torn_block b ∷ slot_lines b a ++ foreign b a ∷ []

-- opening the first block of a pile
unfoldable pub opening : List ℕ → Outcome (List ℕ)
opening pile = first_fail (torn pile ∷ block_lines pile 1) (done (front_words pile))

-- one thing where the outcome is a result, another where it is a refusal
abbrev pub by_outcome : {A B : Type 0} → Outcome A → B → B → B
by_outcome (done v) x y = x
by_outcome (refused m a b) x y = y

-- SCOPE 5: the 2w bytes of the values, from byte 14 of the block on; of a refused block, no bytes
unfoldable pub value_bytes : List ℕ → List ℕ
value_bytes pile = by_outcome (opening pile) (take (2 * width_of pile) (drop 14 pile)) []

-- where in the pile they start: at byte 14; where there are none, at the front
unfoldable pub value_start : List ℕ → ℕ
value_start pile = by_outcome (opening pile) 14 0

-- words 1 to 7, as the code holds them
abbrev pub words_of : Words → List ℕ
words_of h = h.mark ∷ h.deal ∷ h.holder ∷ h.people ∷ h.pieces ∷ h.width ∷ h.piece ∷ []

-- what the code's answer says
abbrev pub opened : Result Words Refusal → Outcome (List ℕ)
opened = outcome_by words_of

-- SCOPE 4: a true block; none of UNREAD, CHECK and HEADER applies to it, and no word exceeds 32748
pub record TrueBlock (b : List ℕ) : Type 0 where
  pub long : 512 ≤ length b
  pub clean : Small b 256
  pub sum : check_of b ≡ word_at b 256
  pub layout : Layout b
