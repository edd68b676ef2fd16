-- A key's number is below 2 ^ 128, and so is that of ten words of which the first is at most 2047: each is made by the digits of the other.
-- Assumes nothing.
use mathlib.Core.Path.{◌≡◌, sym, ap, ◌∙◌, subst}
use mathlib.Core.List.{List}
use Prim.Native.Nat.{ℕ, ◌+◌, ◌-◌, ◌*◌, ◌^◌, ◌≤◌, ◌<◌}
use native.Mathlib.Omega.{arith}
use native.Mathlib.Decide.{dec_le}
use lib.Dec.{lit<}
use native.Mathlib.Nat.{le_trans, le_of_lt, lt_of_lt_of_le, not-le_of_lt, mul-le-mul_right}
use lib.ListN.{length, get_or, drop, length-drop}
use lib.Seq.{drop-cons}
use Rattle.packing.specs.Digits.{number_from, number_of, digits}
use Rattle.packing.specs.Key.{Key, KeyWords, packed, unpacked}
use Rattle.packing.specs.Laws as law
use Rattle.packing.proofs.DigitLaws.{Below, below_rest, digits-back, below_list, below_at, digits-count, digits-below}
use Rattle.packing.proofs.NumberLaws.{top, of_bytes, of_words, number-least, number-below, digits_number}

key_below : (l : List ℕ) → Key l → Below 256 l
key_below l key = below_list 256 16 l key.sixteen (λ k h. omega (arith, key.bytes k h))

word_small : (l : List ℕ) → KeyWords l → (k : ℕ) → k < 10 → get_or l k 0 < 8192
word_small l words k h =
    let b : get_or l (k + 1 - 1) 0 ≤ 8191 = words.others (k + 1) (omega arith) (omega arith) in
    let e : k + 1 - 1 ≡ k = omega arith in
    subst (λ (x : ℕ). get_or l x 0 < 8192) e (omega (arith, b))

words-below : (l : List ℕ) → KeyWords l → Below 8192 l
words-below l words = below_list 8192 10 l words.ten (word_small l words)

-- the words of any list of bytes: ten, each below 8192
pub packed-ten : (key : List ℕ) → length (packed key) ≡ 10
unfolding packed
packed-ten key = digits-count 8192 10 (number_of 256 key)

pub packed-small : (key : List ℕ) (i : ℕ) → get_or (packed key) i 0 < 8192
unfolding packed
packed-small key i = below_at 8192 (digits-below 8192 10 (number_of 256 key) of_words.below) (omega arith) i

-- ---- how large their numbers are
pub key_top : (l : List ℕ) → Key l → number_of 256 l < top
unfolding number_of
key_top l key = rw key.sixteen at (number-below of_bytes 0 (key_below l key))

-- ten words as the first and the nine others
tens : (l : List ℕ) → length l ≡ 10 → (number_of 8192 l ≡ number_from 8192 (get_or l 0 0) (drop 1 l)) × (length (drop 1 l) ≡ 9)
unfolding number_of number_from
tens l n =
    let z : 0 * 8192 + get_or l 0 0 ≡ get_or l 0 0 = omega arith in
    (ap (number_from 8192 0) (drop-cons l 0 0 (omega (arith, n))) ∙ ap (λ (c : ℕ). number_from 8192 c (drop 1 l)) z, length-drop 1 l ∙ omega (arith, n))

pub words_top : (l : List ℕ) → KeyWords l → number_of 8192 l < top
words_top l words =
    let t = tens l words.ten in
    let f : get_or l 0 0 + 1 ≤ 2048 = omega (arith, words.first) in
    let h = rw t.1 at (number-below of_words (get_or l 0 0) (below_rest 8192 (words-below l words))) in
    rw t.0 (lt_of_lt_of_le h (mul-le-mul_right (8192 ^ 9) f))

pub packed-number : law.PackedNumber
unfolding packed
packed-number l key = digits_number of_words 10 (number_of 256 l) (lt_of_lt_of_le (key_top l key) (le_of_lt (lit< tt)))

pub unpacked-number : law.UnpackedNumber
unfolding unpacked
unpacked-number l words = digits_number of_bytes 16 (number_of 8192 l) (words_top l words)

-- the first of ten words is what stands above the nine others
first_small : (l : List ℕ) → length l ≡ 10 → number_of 8192 l < top → get_or l 0 0 ≤ 2047
first_small l n h = go (dec_le 2048 (get_or l 0 0))
  where
    go : Dec (2048 ≤ get_or l 0 0) → get_or l 0 0 ≤ 2047
    go (no f) = omega arith
    go (yes l2) =
        let t = tens l n in
        let least = rw (t.1, ← t.0) at (number-least of_words (get_or l 0 0) (drop 1 l)) in
        absurd (not-le_of_lt h (le_trans (mul-le-mul_right (8192 ^ 9) l2) least))

pub packed-words : law.PackedWords
packed-words l key = record {
  ten = packed-ten l;
  first = first_small (packed l) (packed-ten l) (rw (packed-number l key) (key_top l key));
  others = λ i p q. omega (arith, packed-small l (i - 1));
}

pub unpacked_key : law.UnpackedKey
unfolding unpacked
unpacked_key l words = record {
  sixteen = digits-count 256 16 (number_of 8192 l);
  bytes = λ i p. omega (arith, below_at 256 (digits-below 256 16 (number_of 8192 l) of_bytes.below) (omega arith) i);
}

pub packed_one : law.PackedOne
unfolding packed
packed_one key words k w e = sym (ap (digits 8192 10) (sym e) ∙ digits-back 8192 10 words w.ten (words-below words w))

pub key_back : law.KeyBack
unfolding unpacked
key_back key k = ap (digits 256 16) (packed-number key k) ∙ digits-back 256 16 key k.sixteen (key_below key k)

pub words_back : law.WordsBack
unfolding packed
words_back words w = ap (digits 8192 10) (unpacked-number words w) ∙ digits-back 8192 10 words w.ten (words-below words w)

pub unpacked_one : law.UnpackedOne
unfolding unpacked
unpacked_one key words k w e = sym (ap (digits 256 16) (sym e) ∙ digits-back 256 16 key k.sixteen (key_below key k))
