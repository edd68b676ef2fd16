-- A key and its ten words (SCOPE 3.1): both are one number, a key its sixteen bytes to the base 256, its words to the base 8192. What packing
-- and unpacking answer. Assumes nothing.
use Rattle.std.specs.Prelude.{ℕ, ◌≤◌, ◌<◌, ◌≡◌, Bool, cond, not, List, [], ◌∷◌, ◌++◌, length, get_or, eqb, ltb}
use Rattle.answer.specs.declared.Kind.TheVariants.{Secret, NotKey}
use Rattle.answer.specs.Outcome.{Outcome, done}
use Rattle.answer.specs.Checks.{Line, line, first_fail}
use Rattle.answer.specs.Lent.{no_room, left}
use Rattle.lists.specs.Places.{at, first_in, found}
use Rattle.packing.specs.Digits.{number_of, digits}

-- a key: sixteen bytes
pub record Key (key : List ℕ) : Type 0 where
  pub sixteen : length key ≡ 16
  pub bytes : (i : ℕ) → i < 16 → get_or key i 0 ≤ 255

-- a key's words: ten, of which the first is at most 2047, since a key has 128 bits, and each at most 8191
pub record KeyWords (words : List ℕ) : Type 0 where
  pub ten : length words ≡ 10
  pub first : at words 1 ≤ 2047
  pub others : (i : ℕ) → 1 ≤ i → i ≤ 10 → at words i ≤ 8191

-- the ten words of a key, and the sixteen bytes of ten words: those with its number
unfoldable pub packed : List ℕ → List ℕ
packed key = digits 8192 10 (number_of 256 key)

unfoldable pub unpacked : List ℕ → List ℕ
unpacked words = digits 256 16 (number_of 8192 words)

-- the most that word i can be
abbrev pub most : ℕ → ℕ
most i = cond (eqb i 1) 2047 8191

-- word i is wrong
abbrev pub wrong_at : List ℕ → ℕ → Bool
wrong_at words i = ltb (most i) (at words i)

-- the first wrong word of ten, or 0
unfoldable pub first_wrong : List ℕ → ℕ
first_wrong words = first_in (wrong_at words) 1 11

-- 10 SECRET: there are not 16 bytes
abbrev pub not_sixteen : List ℕ → Line
not_sixteen key = line Secret (not (eqb (length key) 16)) 0 0

-- 23 NOTKEY: the words are not ten, which has no place; else some word is too large, and a is the first such word
abbrev pub not_key : List ℕ → List Line
not_key words = line NotKey (not (eqb (length words) 10)) 0 0 ∷ line NotKey (found (first_wrong words)) (first_wrong words) 0 ∷ []

-- packing a key: SECRET, else 10, the number of words
abbrev pub pack_lines : List ℕ → List Line
pack_lines key = not_sixteen key ∷ []

unfoldable pub packing : List ℕ → Outcome ℕ
packing key = first_fail (pack_lines key) (done 10)

-- the words handed back: the key's, and ten zeros where it is refused
unfoldable pub packed_words : List ℕ → List ℕ
packed_words key = cond (eqb (length key) 16) (packed key) (0 ∷ 0 ∷ 0 ∷ 0 ∷ 0 ∷ 0 ∷ 0 ∷ 0 ∷ 0 ∷ 0 ∷ [])

-- unpacking words into a lent output of so many bytes: NOTKEY, then ROOM with 16, which a key needs, else 16
abbrev pub unpack_lines : List ℕ → ℕ → List Line
unpack_lines words room = not_key words ++ no_room 16 16 room ∷ []

unfoldable pub unpacking : List ℕ → ℕ → Outcome ℕ
unpacking words room = first_fail (unpack_lines words room) (done 16)

-- the lent output afterwards: the key over its front, or, where the words are refused, as it was
unfoldable pub unpacked_into : List ℕ → List ℕ → List ℕ
unpacked_into words old = left (unpacking words (length old)) (unpacked words) old
