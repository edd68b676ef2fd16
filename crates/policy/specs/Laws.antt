-- The laws that this room owes; their proofs are in proofs/Laws.antt.
-- Assumes nothing.
use Rattle.std.specs.Prelude.{◌≡◌, ◌⊎◌, ℕ, ◌≤◌, ◌<◌, ◌^◌, length, Result}
use mathlib.Core.List.{List, [], ◌∷◌, ◌++◌, Memᴰ}
use Rattle.answer.specs.Outcome.{Outcome, done, refused}
use Rattle.lists.specs.Places.{those}
use Rattle.planning.specs.Sets.{member}
use Rattle.planning.specs.Policy.{Policy, policy_of}
use Rattle.print.specs.Decimal.{digit}
use Rattle.print.specs.Lines.{spaced_all, feed}
use Rattle.answer.specs.declared.Refusal.{Refusal}
use Rattle.policy.specs.declared.Entry.{Entry}
use Rattle.policy.specs.declared.Entry.TheVariants.{Need, Bar}
use Rattle.policy.specs.declared.PolicyText.{PolicyText}
use Rattle.policy.specs.Policy.{lines, line_of, people_word, need_word, bar_word, read_policy, Holds}

-- ---- writing a policy text
-- the set of an entry
abbrev pub set_of : Entry → ℕ
set_of (Need s) = s
set_of (Bar s) = s

-- the word of an entry
abbrev pub word_of : Entry → List ℕ
word_of (Need s) = need_word
word_of (Bar s) = bar_word

-- the people of a set, in rising number
unfoldable pub members_of : ℕ → List ℕ
members_of s = those (λ i. member i s) 1 9

-- the line of an entry: its word and the people of its set, a space before each
unfoldable pub written_line : Entry → List ℕ
written_line e = word_of e ++ spaced_all (members_of (set_of e)) ++ feed

-- the lines of entries, one behind the other
unfoldable pub written_lines : List Entry → List ℕ
written_lines [] = []
written_lines (e ∷ es) = written_line e ++ written_lines es

-- the first line for n people
abbrev pub people_line : ℕ → List ℕ
people_line n = people_word ++ digit n ∷ feed

-- the first line, and a line for each entry, in order
unfoldable pub written_text : ℕ → List Entry → List ℕ
written_text n es = people_line n ++ written_lines es

-- the required sets among the entries, in order
unfoldable pub required_among : List Entry → List ℕ
required_among [] = []
required_among (Need s ∷ es) = s ∷ required_among es
required_among (Bar s ∷ es) = required_among es

-- the forbidden sets among the entries, in order
unfoldable pub forbidden_among : List Entry → List ℕ
forbidden_among [] = []
forbidden_among (Need s ∷ es) = forbidden_among es
forbidden_among (Bar s ∷ es) = s ∷ forbidden_among es

-- each entry's set is one of the people 1 to 9
pub record Named (es : List Entry) : Type 0 where
  pub named : (e : Entry) → Memᴰ e es → set_of e < 2 ^ 9

-- Reading the text written from lists gives the lists again, whatever the order of its lines.
abbrev pub ReadsWritten : Type 0
ReadsWritten = (n : ℕ) (es : List Entry) → n ≤ 9 → Named es → length (written_text n es) ≤ 16384
    → read_policy (written_text n es) ≡ done (policy_of n (required_among es) (forbidden_among es))

-- ---- one answer
-- Two results that hold the same outcome are equal: the promise of reading leaves one value for every text.
abbrev pub ReadOne : Type 0
ReadOne = (o : Outcome Policy) (x y : Result PolicyText Refusal) → Holds o x → Holds o y → x ≡ y

-- ---- nothing else is read
-- a text written from n and entries, and what reading it gives
pub record Written (text : List ℕ) (p : Policy) : Type 0 where
  pub entries : List Entry
  pub people : p.people ≤ 9
  pub named : Named entries
  pub written : text ≡ written_text p.people entries
  pub required : p.required ≡ required_among entries
  pub forbidden : p.forbidden ≡ forbidden_among entries

-- A text that is not refused is one that is so written (SCOPE 7.1): nothing else may stand in a line.
abbrev pub OnlyWritten : Type 0
OnlyWritten = (text : List ℕ) (p : Policy) → read_policy text ≡ done p → Written text p × (length text ≤ 16384)

-- ---- refusal 21
-- the line gives the people by one digit
pub record PeopleLine (l : List ℕ) : Type 0 where
  pub people : ℕ
  pub digit-is : people ≤ 9
  pub written : l ≡ people_line people

-- the line is that of an entry whose set is one of the people 1 to 9
pub record EntryLine (l : List ℕ) : Type 0 where
  pub entry : Entry
  pub named : set_of entry < 2 ^ 9
  pub written : l ≡ written_line entry

-- line i is well written: line 1 gives the people, another a set
abbrev pub WellWritten : ℕ → List ℕ → Type 0
WellWritten i l = ((i ≡ 1) × PeopleLine l) ⊎ ((2 ≤ i) × EntryLine l)

-- line a is the first that is not well written: a line of the text, or line 1 of an empty text
pub record FirstBad (text : List ℕ) (a : ℕ) : Type 0 where
  pub from : 1 ≤ a
  pub there : (a ≤ length (lines text)) ⊎ ((text ≡ []) × (a ≡ 1))
  pub before : (i : ℕ) → 1 ≤ i → i < a → WellWritten i (line_of (lines text) i)
  pub bad : WellWritten a (line_of (lines text) a) → ⊥

-- A text is refused with 21 and b = 0, and with nothing else.
abbrev pub TextRefusal : Type 0
TextRefusal = (text : List ℕ) (m a b : ℕ) → read_policy text ≡ refused m a b → (m ≡ 21) × (b ≡ 0)

-- a = 0 says that the text has more than 16,384 bytes.
abbrev pub TextLong : Type 0
TextLong = (text : List ℕ) (m a b : ℕ) → read_policy text ≡ refused m a b → (a ≡ 0 → 16384 < length text) × (16384 < length text → a ≡ 0)

-- In a text of up to 16,384 bytes, line a is the first bad one.
abbrev pub TextLine : Type 0
TextLine = (text : List ℕ) (m a b : ℕ) → read_policy text ≡ refused m a b → length text ≤ 16384 → FirstBad text a
