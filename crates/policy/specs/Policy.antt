-- A policy text (SCOPE 7.1), and refusal 21.
-- Assumes nothing.
use Rattle.std.specs.Prelude.{◌≡◌, Bool, true, false, cond, ◌&&◌, List, [], ◌∷◌, ◌++◌, ℕ, ◌+◌, ◌-◌, max, ltb, leb, eqb, length, take, drop, get_or, replicate, Option, Some, None, Result, Ok, Err}
use Rattle.answer.specs.declared.Kind.TheVariants.{Text}
use Rattle.answer.specs.Outcome.{Outcome, done, refused, number}
use Rattle.answer.specs.Checks.{line, first_fail}
use Rattle.lists.specs.Places.{first_in, found}
use Rattle.planning.specs.Sets.{worth}
use Rattle.planning.specs.Policy.{Policy, policy_of}
use Rattle.answer.specs.declared.Refusal.{Refusal}
use Rattle.policy.specs.declared.Entry.{Entry}
use Rattle.policy.specs.declared.Entry.TheVariants.{Need, Bar}
use Rattle.policy.specs.declared.Sets.{Sets}
use Rattle.policy.specs.declared.PolicyText.{PolicyText}

-- ---- lines
-- a byte in front of the first line
abbrev pub in_front : ℕ → List (List ℕ) → List (List ℕ)
in_front b [] = (b ∷ []) ∷ []
in_front b (l ∷ ls) = (b ∷ l) ∷ ls

-- the lines of a text, each with its line feed; what stands behind the last line feed is a line that lacks it
unfoldable pub lines : List ℕ → List (List ℕ)
lines [] = []
lines (b ∷ text) = cond (eqb b 10) ((b ∷ []) ∷ lines text) (in_front b (lines text))

-- whether a line begins with the word
unfoldable pub begins : List ℕ → List ℕ → Bool
begins [] line = true
begins (w ∷ word) [] = false
begins (w ∷ word) (b ∷ line) = cond (eqb b w) (begins word line) false

-- ---- the first line
-- `people` and a space
abbrev pub people_word : List ℕ
people_word = 112 ∷ 101 ∷ 111 ∷ 112 ∷ 108 ∷ 101 ∷ 32 ∷ []

-- one where the test holds, the other where it does not
abbrev pub pick_found : Bool → Option ℕ → Option ℕ → Option ℕ
pick_found true x y = x
pick_found false x y = y

-- one of the digits 0 to 9 and the line feed, and no byte more
unfoldable pub one_digit : List ℕ → Option ℕ
one_digit [] = None
one_digit (d ∷ []) = None
one_digit (d ∷ (b ∷ [])) = pick_found (leb 48 d && leb d 57 && eqb b 10) (Some (d - 48)) None
one_digit (d ∷ (b ∷ (c ∷ rest))) = None

-- SCOPE 7.1, line 1: the word `people`, one space, and one of the digits 0 to 9, which is the number of people
unfoldable pub people_in : List ℕ → Option ℕ
people_in line = pick_found (begins people_word line) (one_digit (drop 7 line)) None

-- ---- the other lines
-- `need`
abbrev pub need_word : List ℕ
need_word = 110 ∷ 101 ∷ 101 ∷ 100 ∷ []

-- `bar`
abbrev pub bar_word : List ℕ
bar_word = 98 ∷ 97 ∷ 114 ∷ []

-- people, or nobody, each as one space and one of the digits 1 to 9, each digit greater than the one before it; and the line feed: their
-- set, with those of `set`. `last` is the byte of the digit before, that of 0 before the first.
unfoldable pub members : ℕ → ℕ → List ℕ → Option ℕ
members last set [] = None
members last set (b ∷ []) = pick_found (eqb b 10) (Some set) None
members last set (b ∷ (d ∷ rest)) = pick_found (eqb b 32 && ltb last d && leb d 57) (members d (set + worth (d - 48)) rest) None

-- one where the test holds, the other where it does not
abbrev pub pick_told : Bool → Option Entry → Option Entry → Option Entry
pick_told true x y = x
pick_told false x y = y

-- a required set, where one was found
abbrev pub needs : Option ℕ → Option Entry
needs (Some s) = Some (Need s)
needs None = None

-- a forbidden set, where one was found
abbrev pub bars : Option ℕ → Option Entry
bars (Some s) = Some (Bar s)
bars None = None

-- SCOPE 7.1, each other line: the set that it gives, by its word `need` or `bar`
unfoldable pub line_says : List ℕ → Option Entry
line_says line =
    pick_told (begins need_word line) (needs (members 48 0 (drop 4 line)))
    (pick_told (begins bar_word line) (bars (members 48 0 (drop 3 line))) None)

-- ---- the text
-- no number was found
abbrev pub is_nothing : Option ℕ → Bool
is_nothing (Some n) = false
is_nothing None = true

-- the number that was found
abbrev pub number_in : Option ℕ → ℕ
number_in (Some n) = n
number_in None = 0

-- the line is bad
abbrev pub is_bad : Option Entry → Bool
is_bad (Some e) = false
is_bad None = true

-- a required set goes in front of the others
abbrev pub need_first : Entry → List ℕ → List ℕ
need_first (Need s) sets = s ∷ sets
need_first (Bar s) sets = sets

-- a forbidden set goes in front of the others
abbrev pub bar_first : Entry → List ℕ → List ℕ
bar_first (Need s) sets = sets
bar_first (Bar s) sets = s ∷ sets

-- a line `need` adds its set in front of the others
abbrev pub add_need : Option Entry → List ℕ → List ℕ
add_need (Some e) sets = need_first e sets
add_need None sets = sets

-- a line `bar` adds its set in front of the others
abbrev pub add_bar : Option Entry → List ℕ → List ℕ
add_bar (Some e) sets = bar_first e sets
add_bar None sets = sets

-- the sets of the lines `need`, in order
unfoldable pub required_in : List (List ℕ) → List ℕ
required_in [] = []
required_in (l ∷ ls) = add_need (line_says l) (required_in ls)

-- the sets of the lines `bar`, in order
unfoldable pub forbidden_in : List (List ℕ) → List ℕ
forbidden_in [] = []
forbidden_in (l ∷ ls) = add_bar (line_says l) (forbidden_in ls)

-- line i of these lines; one that is missing has no bytes
abbrev pub line_of : List (List ℕ) → ℕ → List ℕ
line_of ls i = get_or ls (i - 1) []

-- whether line i is bad: the first, where it does not give the people; another, where it gives no set
unfoldable pub bad_at : List (List ℕ) → ℕ → Bool
bad_at ls i = cond (eqb i 1) (is_nothing (people_in (line_of ls i))) (is_bad (line_says (line_of ls i)))

-- the first bad line, or 0; line 1 is looked for in a text of no lines too
unfoldable pub bad_line : List (List ℕ) → ℕ
bad_line ls = first_in (bad_at ls) 1 (max 1 (length ls) + 1)

-- what lines say of which none is bad
unfoldable pub policy_in : List (List ℕ) → Policy
policy_in ls = policy_of (number_in (people_in (line_of ls 1))) (required_in (drop 1 ls)) (forbidden_in (drop 1 ls))

-- refusal 21, for a text of too many bytes and for its first bad line; else the policy of its lines
unfoldable pub read_policy : List ℕ → Outcome Policy
read_policy text =
    first_fail (line Text (ltb 16384 (length text)) 0 0 ∷ line Text (found (bad_line (lines text))) (bad_line (lines text)) 0 ∷ [])
    (done (policy_in (lines text)))

-- ---- what a call hands back
-- the first 257 sets of a list, and zeros behind them; how many they are: a list of 257 sets is too long already
pub record Keeps (sets : List ℕ) (kept : Sets) : Type 0 where
  pub filled : kept.sets ≡ take 257 sets ++ replicate (257 - length sets) 0
  pub counted : kept.count ≡ length (take 257 sets)

-- the people of a policy and its two lists
pub record Says (p : Policy) (text : PolicyText) : Type 0 where
  pub people : text.people ≡ p.people
  pub required : Keeps p.required text.required
  pub forbidden : Keeps p.forbidden text.forbidden

-- the result holds the outcome: the people and the two lists, or TEXT
abbrev pub Holds : Outcome Policy → Result PolicyText Refusal → Type 0
Holds (done p) (Ok text) = Says p text
Holds (done p) (Err refusal) = ⊥
Holds (refused m a b) (Ok text) = ⊥
Holds (refused m a b) (Err refusal) = (number refusal.kind ≡ m) × (refusal.a ≡ a) × (refusal.b ≡ b)
