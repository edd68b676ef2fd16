-- Reading what was written: every line that is written from a set is one line, and says that set. A computed test of the 512 sets.
-- Assumes nothing.
use borrow.Author.Tests.{eqb-true}
use mathlib.Core.Path.{◌≡◌, refl, ap, ap₂, ◌∙◌}
use mathlib.Core.Bool.{Bool, true, false, cond, ◌&&◌, false≢true}
use mathlib.Core.List.Memᴰ
use mathlib.Core.List.{List, [], ◌∷◌, ◌++◌, map}
use native.Mathlib.Omega.{arith}
use Prim.Native.Nat.{ℕ, zero, suc, ◌+◌, ◌-◌, ◌≤◌, ◌<◌}
use lib.Dec.{eqb}
use lib.ListN.{length, get_or}
use Rattle.answer.specs.Outcome.{done}
use Rattle.lists.specs.Places.{those}
use Rattle.planning.specs.Sets.{member}
use Rattle.lists.specs.Some.{each}
use Rattle.lists.proofs.Truth.{both}
use Rattle.lists.proofs.EachLaws.{each_at}
use Rattle.print.specs.Decimal.{digits}
use Rattle.print.specs.Lines.{spaced, spaced_all, feed}
use Rattle.planning.specs.Policy.{policy_of}
use Rattle.std.specs.Prelude.{Option, Some, None}
use Rattle.policy.specs.declared.Entry.{Entry}
use Rattle.policy.specs.declared.Entry.TheVariants.{Need, Bar}
use Rattle.policy.specs.Policy.{in_front, lines, begins, one_digit, people_in, members, needs, bars, line_says}
use Rattle.policy.specs.Policy.{is_nothing, is_bad, add_need, add_bar, required_in, forbidden_in, bad_line, policy_in, read_policy}
use Rattle.policy.proofs.BadLaws.{text_good, none-bad}
use Rattle.policy.specs.Laws.{set_of, members_of, written_line, written_lines, people_line, written_text, required_among, forbidden_among, Named}

-- ---- one line
empty : List ℕ → Bool
empty [] = true
empty (b ∷ l) = false

-- a list whose only line feed is its last byte
pub is_line : List ℕ → Bool
is_line [] = false
is_line (b ∷ l) = cond (eqb b 10) (empty l) (is_line l)

is_empty : (l : List ℕ) → empty l ≡ true → l ≡ []
unfolding empty
is_empty [] h = refl
is_empty (b ∷ l) h = absurd (false≢true h)

line_by : (t : Bool) (b : ℕ) (l rest : List ℕ) → (is_line l ≡ true → lines (l ++ rest) ≡ l ∷ lines rest) → cond t (empty l) (is_line l) ≡ true
    → cond t ((b ∷ []) ∷ lines (l ++ rest)) (in_front b (lines (l ++ rest))) ≡ (b ∷ l) ∷ lines rest
line_by true b l rest f h = rw (is_empty l h)
line_by false b l rest f h = ap (in_front b) (f h)

line_first : (l rest : List ℕ) → is_line l ≡ true → lines (l ++ rest) ≡ l ∷ lines rest
unfolding is_line lines
line_first [] rest h = absurd (false≢true h)
line_first (b ∷ l) rest h = line_by (eqb b 10) b l rest (line_first l rest) h

-- ---- the ten first lines and the 512 sets
is_number : ℕ → Option ℕ → Bool
is_number n (Some m) = eqb m n
is_number n None = false

number_is : (n : ℕ) (f : Option ℕ) → is_number n f ≡ true → f ≡ Some n
unfolding is_number
number_is n (Some m) h = ap Some (eqb-true m n h)
number_is n None h = absurd (false≢true h)

right_first : ℕ → Bool
right_first n = is_line (people_line n) && is_number n (people_in (people_line n))

all_first : each 10 (λ i. right_first (i - 1)) ≡ true
unfolding right_first is_line empty is_number each people_in begins one_digit
all_first = refl

-- what stands behind the word of the line of a set
abbrev body : ℕ → List ℕ
body s = spaced_all (members_of s) ++ feed

right_set : ℕ → Bool
right_set s = is_line (body s) && is_number s (members 48 0 (body s))

all-sets : each 512 (λ i. right_set (i - 1)) ≡ true
unfolding right_set is_line empty is_number each members spaced_all spaced digits members_of those member
all-sets = refl

-- the test of every number below n
pub below_each : (test : ℕ → Bool) (n : ℕ) → each n (λ i. test (i - 1)) ≡ true → (s : ℕ) → s < n → test s ≡ true
below_each test n h s l =
    let e : s + 1 - 1 ≡ s = omega arith in
    rw e at (each_at n (λ i. test (i - 1)) h (s + 1) (omega arith) (omega arith))

pub first-right : (n : ℕ) → n ≤ 9 → (is_line (people_line n) ≡ true) × (people_in (people_line n) ≡ Some n)
unfolding right_first
first-right n h =
    let r = both (is_line (people_line n)) (is_number n (people_in (people_line n))) (below_each right_first 10 all_first n (omega arith)) in
    (r.0, number_is n (people_in (people_line n)) r.1)

set-right : (s : ℕ) → s < 512 → (is_line (body s) ≡ true) × (members 48 0 (body s) ≡ Some s)
unfolding right_set
set-right s h =
    let r = both (is_line (body s)) (is_number s (members 48 0 (body s))) (below_each right_set 512 all-sets s h) in
    (r.0, number_is s (members 48 0 (body s)) r.1)

-- ---- the line of an entry
abbrev pub said_by : Entry → Option Entry
said_by e = Some e

entry-line : (e : Entry) → set_of e < 512 → is_line (written_line e) ≡ true
unfolding written_line is_line
entry-line (Need s) h = (set-right s h).0
entry-line (Bar s) h = (set-right s h).0

entry-says : (e : Entry) → set_of e < 512 → line_says (written_line e) ≡ said_by e
unfolding written_line line_says begins
entry-says (Need s) h = ap needs (set-right s h).1
entry-says (Bar s) h = ap bars (set-right s h).1

entry_first : (e : Entry) (rest : List ℕ) → set_of e < 512 → lines (written_line e ++ rest) ≡ written_line e ∷ lines rest
entry_first e rest h = line_first (written_line e) rest (entry-line e h)

-- ---- all entries
named-first : {e : Entry} {es : List Entry} → Named (e ∷ es) → (set_of e < 512) × Named es
named-first {e} {es} n = (n.named e (Memᴰ.head refl), record { named = λ x m. n.named x (Memᴰ.tail m) })

pub entry_good : (e : Entry) → set_of e < 512 → is_bad (line_says (written_line e)) ≡ false
entry_good (Need s) h = ap is_bad (entry-says (Need s) h)
entry_good (Bar s) h = ap is_bad (entry-says (Bar s) h)

lines-again : (es : List Entry) → Named es → lines (written_lines es) ≡ map written_line es
unfolding written_lines lines
lines-again [] n = refl
lines-again (e ∷ es) n =
    let m = named-first n in
    entry_first e (written_lines es) m.0 ∙ ap (λ (ls : List (List ℕ)). written_line e ∷ ls) (lines-again es m.1)

all_good : (es : List Entry) → Named es → (i : ℕ) → i < length (map written_line es) → is_bad (line_says (get_or (map written_line es) i [])) ≡ false
all_good [] n i h = absurd (omega arith)
all_good (e ∷ es) n zero h = entry_good e (named-first n).0
all_good (e ∷ es) n (suc i) h = all_good es (named-first n).1 i (omega arith)

pub add_required : (e : Entry) (es : List Entry) → add_need (said_by e) (required_among es) ≡ required_among (e ∷ es)
unfolding required_among
add_required (Need s) es = refl
add_required (Bar s) es = refl

pub add_forbidden : (e : Entry) (es : List Entry) → add_bar (said_by e) (forbidden_among es) ≡ forbidden_among (e ∷ es)
unfolding forbidden_among
add_forbidden (Need s) es = refl
add_forbidden (Bar s) es = refl

required-again : (es : List Entry) → Named es → required_in (map written_line es) ≡ required_among es
unfolding required_in required_among
required-again [] n = refl
required-again (e ∷ es) n = let m = named-first n in ap₂ add_need (entry-says e m.0) (required-again es m.1) ∙ add_required e es

forbidden-again : (es : List Entry) → Named es → forbidden_in (map written_line es) ≡ forbidden_among es
unfolding forbidden_in forbidden_among
forbidden-again [] n = refl
forbidden-again (e ∷ es) n = let m = named-first n in ap₂ add_bar (entry-says e m.0) (forbidden-again es m.1) ∙ add_forbidden e es

-- ---- the whole text
pub reads_written : (n : ℕ) (es : List Entry) → n ≤ 9 → Named es → length (written_text n es) ≤ 16384
    → read_policy (written_text n es) ≡ done (policy_of n (required_among es) (forbidden_among es))
unfolding written_text policy_in
reads_written n es h m l =
    let f = first-right n h in
    let ls = people_line n ∷ map written_line es in
    let all : lines (written_text n es) ≡ ls =
    line_first (people_line n) (written_lines es) f.0 ∙ ap (λ (k : List (List ℕ)). people_line n ∷ k) (lines-again es m)
    in
    let none : bad_line ls ≡ 0 = none-bad (people_line n) (map written_line es) (ap is_nothing f.1) (all_good es m) in
    text_good (written_text n es) l (ap bad_line all ∙ none) ∙ ap (λ (k : List (List ℕ)). done (policy_in k)) all
    ∙ rw (f.1, required-again es m, forbidden-again es m)
