-- The lines of a text, one by one, and what a line says, by the bytes at a loop's place.
-- Assumes nothing.
use borrow.Author.Tests.{lt-ltb, le-ltb, le-leb, lt-leb, eq-eqb, ne_eqb}
use mathlib.Core.Path.{◌≡◌, refl, sym, ap, ◌∙◌}
use mathlib.Core.Bool.{Bool, true, false, cond, ◌&&◌}
use mathlib.Core.List.{List, [], ◌∷◌, ◌++◌}
use native.Mathlib.Nat.{pow-le-pow_right}
use native.Mathlib.Omega.{arith}
use Prim.Native.Nat.{ℕ, zero, suc, min, zero-le, ◌+◌, ◌-◌, ◌*◌, ◌%◌, ◌^◌, ◌≤◌, ◌<◌}
use lib.Dec.{eqb}
use lib.ListN.{length, take, drop, get_or}
use lib.Seq.{take_at, drop_at}
use Rattle.std.specs.Prelude.{Option, Some, None}
use Rattle.std.specs.Option.{MatchOption}
use Rattle.std.specs.List.{IsFirstMatchOrLen}
use denote.Ref.{Bor}
use Rattle.std.specs.Cmp.Lexicographic.{pointwise}
use Rattle.policy.specs.Policy.{in_front, lines, begins, people_word, one_digit, people_in, need_word, bar_word, members, needs, bars, line_says}
use Rattle.policy.specs.Inner.{line_length}

-- ---- how long the first line is
split_by : (t : Bool) (b : ℕ) (s : List ℕ) → in_front b (lines s) ≡ (b ∷ take (line_length s) s) ∷ lines (drop (line_length s) s)
    → cond t ((b ∷ []) ∷ lines s) (in_front b (lines s))
    ≡ take (cond t 1 (suc (line_length s))) (b ∷ s) ∷ lines (drop (cond t 1 (suc (line_length s))) (b ∷ s))
split_by true b s h = refl
split_by false b s h = h

front_split : (b : ℕ) (s : List ℕ) → in_front b (lines s) ≡ (b ∷ take (line_length s) s) ∷ lines (drop (line_length s) s)
unfolding lines line_length
front_split b [] = refl
front_split b (c ∷ s) = ap (in_front b) (split_by (eqb c 10) c s (front_split c s))

-- a text that is not empty is its first line and the lines behind it
pub line_split : (b : ℕ) (s : List ℕ) → lines (b ∷ s) ≡ take (line_length (b ∷ s)) (b ∷ s) ∷ lines (drop (line_length (b ∷ s)) (b ∷ s))
unfolding lines line_length
line_split b s = split_by (eqb b 10) b s (front_split b s)

length_by : (t : Bool) (n m : ℕ) → n ≤ m → (1 ≤ cond t 1 (suc n)) × (cond t 1 (suc n) ≤ suc m)
length_by true n m h = (omega arith, omega arith)
length_by false n m h = (omega arith, omega arith)

pub length_most : (s : List ℕ) → line_length s ≤ length s
unfolding line_length
length_most [] = omega arith
length_most (b ∷ s) = (length_by (eqb b 10) (line_length s) (length s) (length_most s)).1

length_some : (b : ℕ) (s : List ℕ) → 1 ≤ line_length (b ∷ s)
unfolding line_length
length_some b s = (length_by (eqb b 10) (line_length s) (length s) (length_most s)).0

-- ---- the first part that the library cuts off a text at line feeds is its first line
abbrev pub is_feed : ℕ → Bool
is_feed b = eqb b 10

part_length : (rest : List ℕ) (i : ℕ) → ((k : ℕ) → k < i → is_feed (get_or rest k 0) ≡ false) → (i < length rest → is_feed (get_or rest i 0) ≡ true)
    → line_length rest ≡ min (i + 1) (length rest)
unfolding line_length
part_length [] i f t = omega arith
part_length (b ∷ rest) zero f t = rw (t (omega arith)) (omega arith)
part_length (b ∷ rest) (suc i) f t =
    rw (f 0 (omega arith)) (omega (arith, part_length rest i (λ k l. f (suc k) (omega arith)) (λ l. t (omega arith))))

-- a text that is this line and more
pub record Cut (text line more : List ℕ) : Type 0 where
  pub some : 1 ≤ length line
  pub whole : text ≡ line ++ more
  pub lines-are : lines text ≡ line ∷ lines more
  pub length-is : length line ≡ line_length text

cut_of : (text line more : List ℕ) → text ≡ line ++ more → length line ≡ line_length text → 0 < length text → Cut text line more
cut_of [] line more w n p = absurd (omega arith)
cut_of (b ∷ text) line more w n p =
    let front : take (line_length (b ∷ text)) (b ∷ text) ≡ line = ap (take (line_length (b ∷ text))) w ∙ take_at line more (line_length (b ∷ text)) n in
    let back : drop (line_length (b ∷ text)) (b ∷ text) ≡ more = ap (drop (line_length (b ∷ text))) w ∙ drop_at line more (line_length (b ∷ text)) n in
    record {
      some = omega (arith, length_some b text);
      whole = w;
      lines-are = line_split b text ∙ rw (front, back);
      length-is = n;
    }

-- what the library's step says, in these words
module _ (A B : (ℕ → Bool) → Type 0) where
  pub cut_some : (rest line more : List ℕ) → A is_feed
      → (rest ≡ line ++ more) × ((i : ℕ) × (length line ≡ min (i + 1) (length rest)) × ((p : ℕ → Bool) → A p → B p × IsFirstMatchOrLen p rest i)) × (0 < length rest)
      → Cut rest line more
  cut_some rest line more a h =
      let i = h.1.0 in
      let f = (h.1.2 is_feed a).1 in
      cut_of rest line more h.0 (h.1.1 ∙ sym (part_length rest i (λ k l. f.0 k 0 zero-le l) (λ l. f.1 l 0))) h.2

  pub cut_next : (Z : Type 0) (rest more : List ℕ) (r : Option (Bor (List ℕ))) → A is_feed
      → MatchOption r ((length rest ≡ 0) × Z)
      (λ x.
      (rest ≡ x.now ++ more)
      × ((i : ℕ) × (length x.now ≡ min (i + 1) (length rest)) × ((p : ℕ → Bool) → A p → B p × IsFirstMatchOrLen p rest i))
      × (0 < length rest))
      → MatchOption r (length rest ≡ 0) (λ x. Cut rest x.now more)
  cut_next Z rest more None a h = h.0
  cut_next Z rest more (Some x) a h = cut_some rest x.now more a h

-- ---- whether a line begins with a word, as the library tests it
begins_by : (t u v : Bool) → u ≡ v → cond t u false ≡ (t && v)
begins_by true u v e = e
begins_by false u v e = refl

pub begins_is : (word line : List ℕ) → begins word line ≡ pointwise eqb (take (length word) line) word
unfolding begins
begins_is [] line = refl
begins_is (w ∷ word) [] = refl
begins_is (w ∷ word) (b ∷ line) = begins_by (eqb b w) (begins word line) (pointwise eqb (take (length word) line) word) (begins_is word line)

-- ---- the members that a line names
module _ (last set : ℕ) where
  abbrev from : List ℕ → Option ℕ
  from = members last set

  pub members_end : (s : List ℕ) → length s < 1 → from s ≡ None
  unfolding members
  members_end [] h = refl
  members_end (b ∷ s) h = absurd (omega arith)

  pub members-feed : (s : List ℕ) → 1 ≤ length s → length s < 2 → get_or s 0 0 ≡ 10 → from s ≡ Some set
  unfolding members
  members-feed [] p q e = absurd (omega arith)
  members-feed (b ∷ []) p q e = simp (eq-eqb b 10 e)
  members-feed (b ∷ (d ∷ s)) p q e = absurd (omega arith)

  pub members-torn : (s : List ℕ) → 1 ≤ length s → length s < 2 → (get_or s 0 0 ≡ 10 → ⊥) → from s ≡ None
  unfolding members
  members-torn [] p q n = absurd (omega arith)
  members-torn (b ∷ []) p q n = simp (ne_eqb b 10 n)
  members-torn (b ∷ (d ∷ s)) p q n = absurd (omega arith)

  pub no_space : (s : List ℕ) → 2 ≤ length s → (get_or s 0 0 ≡ 32 → ⊥) → from s ≡ None
  unfolding members
  no_space [] h n = absurd (omega arith)
  no_space (b ∷ []) h n = absurd (omega arith)
  no_space (b ∷ (d ∷ s)) h n = simp (ne_eqb b 32 n)

  pub no_rise : (s : List ℕ) → 2 ≤ length s → get_or s 0 0 ≡ 32 → get_or s 1 0 ≤ last → from s ≡ None
  unfolding members
  no_rise [] h e k = absurd (omega arith)
  no_rise (b ∷ []) h e k = absurd (omega arith)
  no_rise (b ∷ (d ∷ s)) h e k = simp (eq-eqb b 32 e, le-ltb last d k)

  pub no_digit : (s : List ℕ) → 2 ≤ length s → get_or s 0 0 ≡ 32 → last < get_or s 1 0 → 57 < get_or s 1 0 → from s ≡ None
  unfolding members
  no_digit [] h e k l = absurd (omega arith)
  no_digit (b ∷ []) h e k l = absurd (omega arith)
  no_digit (b ∷ (d ∷ s)) h e k l = simp (eq-eqb b 32 e, lt-ltb last d k, lt-leb d 57 l)

  pub one_member_lem : (s : List ℕ) → 2 ≤ length s → get_or s 0 0 ≡ 32 → last < get_or s 1 0 → get_or s 1 0 ≤ 57
      → from s ≡ members (get_or s 1 0) (set + 2 ^ (get_or s 1 0 - 48 - 1)) (drop 2 s)
  unfolding members
  one_member_lem [] h e k l = absurd (omega arith)
  one_member_lem (b ∷ []) h e k l = absurd (omega arith)
  one_member_lem (b ∷ (d ∷ s)) h e k l = simp (eq-eqb b 32 e, lt-ltb last d k, le-leb d 57 l)

-- what a person is worth, by a shift
pub worth_shifted : (d : ℕ) → d ≤ 57 → (1 * 2 ^ (d - 49) % 65536 ≡ 2 ^ (d - 48 - 1)) × (1 * 2 ^ (d - 49) % 65536 ≤ 256)
worth_shifted d h =
    let k : 2 ^ (d - 49) ≤ 256 = pow-le-pow_right {n = 2} (omega arith) {i = d - 49} {j = 8} (omega arith) in
    let e : d - 48 - 1 ≡ d - 49 = omega arith in
    (rw e (omega arith), omega arith)

-- ---- the first line
pub not_two : (r : List ℕ) → (length r ≡ 2 → ⊥) → one_digit r ≡ None
unfolding one_digit
not_two [] h = refl
not_two (d ∷ []) h = refl
not_two (d ∷ (b ∷ [])) h = absurd (h refl)
not_two (d ∷ (b ∷ (c ∷ r))) h = refl

pub digit_low : (r : List ℕ) → get_or r 0 0 < 48 → one_digit r ≡ None
unfolding one_digit
digit_low [] h = refl
digit_low (d ∷ []) h = refl
digit_low (d ∷ (b ∷ [])) h = simp (lt-leb 48 d h)
digit_low (d ∷ (b ∷ (c ∷ r))) h = refl

pub digit_high : (r : List ℕ) → 57 < get_or r 0 0 → one_digit r ≡ None
unfolding one_digit
digit_high [] h = refl
digit_high (d ∷ []) h = refl
digit_high (d ∷ (b ∷ [])) h = let l : 48 ≤ d = omega arith in simp (le-leb 48 d l, lt-leb d 57 h)
digit_high (d ∷ (b ∷ (c ∷ r))) h = refl

pub no_feed : (r : List ℕ) → 48 ≤ get_or r 0 0 → get_or r 0 0 ≤ 57 → (get_or r 1 0 ≡ 10 → ⊥) → one_digit r ≡ None
unfolding one_digit
no_feed [] h k n = refl
no_feed (d ∷ []) h k n = refl
no_feed (d ∷ (b ∷ [])) h k n = simp (le-leb 48 d h, le-leb d 57 k, ne_eqb b 10 n)
no_feed (d ∷ (b ∷ (c ∷ r))) h k n = refl

pub digit-there : (r : List ℕ) → length r ≡ 2 → 48 ≤ get_or r 0 0 → get_or r 0 0 ≤ 57 → get_or r 1 0 ≡ 10 → one_digit r ≡ Some (get_or r 0 0 - 48)
unfolding one_digit
digit-there [] l h k e = absurd (omega arith)
digit-there (d ∷ []) l h k e = absurd (omega arith)
digit-there (d ∷ (b ∷ [])) l h k e = simp (le-leb 48 d h, le-leb d 57 k, eq-eqb b 10 e)
digit-there (d ∷ (b ∷ (c ∷ r))) l h k e = absurd (omega arith)

module _ (l : List ℕ) where
  pub not_people : begins people_word l ≡ false → people_in l ≡ None
  unfolding people_in
  not_people e = rw e

  pub people-there : begins people_word l ≡ true → people_in l ≡ one_digit (drop 7 l)
  unfolding people_in
  people-there w = rw w

  -- ---- the other lines
  pub says-need : begins need_word l ≡ true → line_says l ≡ needs (members 48 0 (drop 4 l))
  unfolding line_says
  says-need e = rw e

  pub says-bar : begins need_word l ≡ false → begins bar_word l ≡ true → line_says l ≡ bars (members 48 0 (drop 3 l))
  unfolding line_says
  says-bar e f = rw (e, f)

  pub says_neither : begins need_word l ≡ false → begins bar_word l ≡ false → line_says l ≡ None
  unfolding line_says
  says_neither e f = rw (e, f)
