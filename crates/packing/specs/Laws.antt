-- The laws that this room owes; their proofs are in proofs/Laws.antt.
-- Assumes nothing.
use Rattle.std.specs.Prelude.{ℕ, ◌≤◌, ◌≡◌, List, length, Result, IfOk}
use Rattle.lists.specs.Over.{over}
use Rattle.answer.specs.declared.Refusal.{Refusal}
use Rattle.answer.specs.Outcome.{done, outcome_by}
use Rattle.answer.specs.Laws.{Passed}
use Rattle.packing.specs.Digits.{number_of}
use Rattle.packing.specs.Key.{Key, KeyWords, packed, unpacked, not_key, packing, packed_words, unpacking, unpacked_into}

-- a key's words have the key's number
abbrev pub PackedNumber : Type 0
PackedNumber = (key : List ℕ) → Key key → number_of 8192 (packed key) ≡ number_of 256 key

-- and are in their ranges
abbrev pub PackedWords : Type 0
PackedWords = (key : List ℕ) → Key key → KeyWords (packed key)

-- no other ten such words have it
abbrev pub PackedOne : Type 0
PackedOne = (key words : List ℕ) → Key key → KeyWords words → number_of 8192 words ≡ number_of 256 key → words ≡ packed key

-- the bytes of ten such words have their number, and are a key
abbrev pub UnpackedNumber : Type 0
UnpackedNumber = (words : List ℕ) → KeyWords words → number_of 256 (unpacked words) ≡ number_of 8192 words

abbrev pub UnpackedKey : Type 0
UnpackedKey = (words : List ℕ) → KeyWords words → Key (unpacked words)

-- both round trips
abbrev pub KeyBack : Type 0
KeyBack = (key : List ℕ) → Key key → unpacked (packed key) ≡ key

abbrev pub WordsBack : Type 0
WordsBack = (words : List ℕ) → KeyWords words → packed (unpacked words) ≡ words

-- NOTKEY is given exactly for words that are not such ten
abbrev pub NotKeyMeans : Type 0
NotKeyMeans = (words : List ℕ) → (Passed (not_key words) → KeyWords words) × (KeyWords words → Passed (not_key words))

-- no other sixteen bytes have the number of ten words
abbrev pub UnpackedOne : Type 0
UnpackedOne = (key words : List ℕ) → Key key → KeyWords words → number_of 256 key ≡ number_of 8192 words → key ≡ unpacked words

-- the calls one after the other: a key is packed, and its words unpack to it
abbrev pub PackUnpack : Type 0
PackUnpack = (key out : List ℕ) → Key key → 16 ≤ length out
    → (packing key ≡ done 10) × (unpacking (packed_words key) (length out) ≡ done 16) × (unpacked_into (packed_words key) out ≡ over key out)

-- ten words are unpacked, and their bytes pack to them
abbrev pub UnpackPack : Type 0
UnpackPack = (words out : List ℕ) → KeyWords words → 16 ≤ length out
    → (unpacking words (length out) ≡ done 16) × (packing (unpacked words) ≡ done 10) × (packed_words (unpacked words) ≡ words)

-- ---- one answer
-- what packing promises of ten words or a refusal
pub record Promised (key : List ℕ) (x : Result (List ℕ) Refusal) : Type 0 where
  pub says : outcome_by (λ (words : List ℕ). 10) x ≡ packing key
  pub words : IfOk x (λ (words : List ℕ). words ≡ packed_words key)

-- Two results that the promise allows are equal.
abbrev pub PackOne : Type 0
PackOne = (key : List ℕ) (x y : Result (List ℕ) Refusal) → Promised key x → Promised key y → x ≡ y
