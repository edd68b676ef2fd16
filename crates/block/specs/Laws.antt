-- The laws that this room owes; their proofs are in proofs/Laws.antt.
-- Assumes nothing.
use Rattle.std.specs.Prelude.{Result, ℕ, ◌+◌, ◌*◌, ◌≤◌, ◌<◌, ◌≡◌, Bool, true, false, ◌≢◌, ◌↔◌, List, [], ◌++◌, length, get_or, take}
use Rattle.lists.specs.Run.{run}
use Rattle.lists.specs.Laws.{IsFirst}
use Rattle.answer.specs.declared.Refusal.{Refusal}
use Rattle.answer.specs.declared.Kind.TheVariants.{Unread, Header}
use Rattle.answer.specs.Outcome.{done, refused, number}
use Rattle.answer.specs.Checks.{first_fail}
use Rattle.answer.specs.Laws.{Passed}
use Rattle.block.specs.declared.deal.DealWords.{DealWords}
use Rattle.block.specs.declared.Words.{Words}
use Rattle.block.specs.declared.Label.{Label}
use Rattle.block.specs.Words.{word_at, put_at, bytes_of}
use Rattle.block.specs.Deals.{same_deal}
use Rattle.block.specs.Layout.{front_words, piece_number, piece_of, width_of, held_at, Ranged, label_of, values_of, first_wrong}
use Rattle.block.specs.Open.{above, slot_lines, block_lines, one_lines, opening, value_bytes, value_start, opened, TrueBlock}
use Rattle.block.specs.Written.{block_bytes, Buildable}
use Rattle.block.specs.Earlier.{former_wrong, former_bytes, former_same}

-- The two schemes: 1987 without a set, and 1988 with a set of 1 to 70, which has no more pieces than there are people.
pub data Scheme (l : Label) : Type 0 where
  first : l.mark ≡ 1987 → l.set ≡ 0 → Scheme l
  sets : l.mark ≡ 1988 → 1 ≤ l.set → l.set ≤ 70 → l.pieces ≤ l.people → Scheme l

-- The ranges of a label, as inequalities.
pub record Ranges (l : Label) : Type 0 where
  pub number : 1 ≤ l.number
  pub holder : (1 ≤ l.holder) × (l.holder ≤ 8)
  pub people : (1 ≤ l.people) × (l.people ≤ 8) × (l.holder ≤ l.people)
  pub pieces : (1 ≤ l.pieces) × (l.pieces ≤ 70)
  pub width : (1 ≤ l.width) × (l.width ≤ 16)
  pub piece : (1 ≤ l.piece) × (l.piece ≤ l.pieces)
  pub scheme : Scheme l

abbrev pub RangesMean : Type 0
RangesMean = (l : Label) → Ranged l ↔ Ranges l

-- SCOPE 4: a block, as it is written, has 512 bytes.
abbrev pub BlockLength : Type 0
BlockLength = (l : Label) (vs : List ℕ) → Buildable l vs → length (block_bytes l vs) ≡ 512

-- A block that was written is a true block, followed by any bytes; it opens to its words, and its value bytes are its values as bytes.
abbrev pub OpensWritten : Type 0
OpensWritten = (l : Label) (vs rest : List ℕ) → Buildable l vs
    → TrueBlock (block_bytes l vs ++ rest)
    × (opening (block_bytes l vs ++ rest) ≡ done (run (held_at l vs) 1 7))
    × (value_bytes (block_bytes l vs ++ rest) ≡ bytes_of vs)

-- Its words are those of the table, and the label and the values that it has are those that it was written from.
abbrev pub WrittenWords : Type 0
WrittenWords = (l : Label) (vs rest : List ℕ) → Buildable l vs
    → ((i : ℕ) → 1 ≤ i → i ≤ 255 → word_at (block_bytes l vs ++ rest) i ≡ held_at l vs i)
    × (label_of (block_bytes l vs ++ rest) ≡ l)
    × (values_of (block_bytes l vs ++ rest) ≡ vs)

-- A true block is the block written from the label and the values that it has: word for word, and, each byte being below 256, byte for byte.
abbrev pub TrueWritten : Type 0
TrueWritten = (b : List ℕ) → TrueBlock b
    → Buildable (label_of b) (values_of b)
    × ((i : ℕ) → 1 ≤ i → i ≤ 256 → word_at (block_bytes (label_of b) (values_of b)) i ≡ word_at b i)
    × (((i : ℕ) → get_or b i 0 < 256) → block_bytes (label_of b) (values_of b) ≡ take 512 b)

-- What is said of a block depends on its 256 words alone: the lines 15, 16 and 17, words 1 to 7, and whether it is true.
abbrev pub OnlyWords : Type 0
OnlyWords = (b c : List ℕ) → ((i : ℕ) → 1 ≤ i → i ≤ 256 → word_at b i ≡ word_at c i)
    → ((a : ℕ) → block_lines b a ≡ block_lines c a) × (front_words b ≡ front_words c) × (TrueBlock b → 512 ≤ length c → TrueBlock c)

-- SCOPE 4: UNREAD, CHECK and HEADER pass on a true block, as block a of a pile, whatever a is; and 512 bytes on which they pass are one.
abbrev pub TrueMeans : Type 0
TrueMeans = (b : List ℕ) (a : ℕ) → (TrueBlock b → Passed (block_lines b a)) × (512 ≤ length b → Passed (block_lines b a) → TrueBlock b)

-- SCOPE 4: no word of a true block exceeds 32748.
abbrev pub TrueSmall : Type 0
TrueSmall = (b : List ℕ) → TrueBlock b → (i : ℕ) → 1 ≤ i → i ≤ 256 → word_at b i ≤ 32748

-- A true block opens to its words 1 to 7, and nothing else opens.
abbrev pub TrueOpens : Type 0
TrueOpens = (pile : List ℕ) → TrueBlock pile → opening pile ≡ done (front_words pile)

abbrev pub OpensTrue : Type 0
OpensTrue = (pile ws : List ℕ) → opening pile ≡ done ws → TrueBlock pile × (ws ≡ front_words pile)

-- SCOPE 6, refusal 15: a block is UNREAD at word i exactly where word i exceeds 32748 and no word before it does.
abbrev pub UnreadExactly : Type 0
UnreadExactly = (pile : List ℕ) (i : ℕ) → 512 ≤ length pile → (opening pile ≡ refused (number Unread) 1 i) ↔ IsFirst (above pile) 1 257 i

-- SCOPE 4, damage shows: one word, any of the 256, is overwritten with another value v. Above 32748 it is UNREAD at that word, else CHECK.
abbrev pub Changed : Type 0
Changed = (b : List ℕ) (i v : ℕ) → TrueBlock b → 1 ≤ i → i ≤ 256 → v ≢ word_at b i
    → (32748 < v → opening (put_at b i v) ≡ refused 15 1 i)
    × (v ≤ 32748 → opening (put_at b i v) ≡ refused 16 1 0)

-- And where two words of 1 to 255 that differ change places, it is CHECK.
abbrev pub Exchanged : Type 0
Exchanged = (b : List ℕ) (i j : ℕ) → TrueBlock b → 1 ≤ i → i ≤ 255 → 1 ≤ j → j ≤ 255 → word_at b i ≢ word_at b j
    → opening (put_at (put_at b i (word_at b j)) j (word_at b i)) ≡ refused 16 1 0

-- SCOPE 5: opening looks at 512 bytes, and at none behind them; for the value bytes too no other byte counts.
abbrev pub FirstBytes : Type 0
FirstBytes = (pile : List ℕ) → (opening (take 512 pile) ≡ opening pile) × (value_bytes (take 512 pile) ≡ value_bytes pile)

-- the refusals that opening can give, with their places
pub data Refusable : ℕ → ℕ → ℕ → Type 0 where
  by_torn : Refusable 13 0 0
  by_unread : {b : ℕ} → 1 ≤ b → b ≤ 256 → Refusable 15 1 b
  by_check : Refusable 16 1 0
  by_header : {b : ℕ} → 1 ≤ b → b ≤ 255 → Refusable 17 1 b

-- Opening gives no other: TORN, UNREAD with a word from 1 to 256, CHECK, or HEADER with a word from 1 to 255.
abbrev pub WhichRefusals : Type 0
WhichRefusals = (pile : List ℕ) (m a b : ℕ) → opening pile ≡ refused m a b → Refusable m a b

-- Equal outcomes, equal answers: the promise `opened r ≡ opening pile` leaves one possible answer.
abbrev pub OpenedOne : Type 0
OpenedOne = (x y : Result Words Refusal) → opened x ≡ opened y → x ≡ y

-- SCOPE 5: the value bytes of a true block are 2w, and they are its words from 8 to 7+w, all of them.
abbrev pub ValueWords : Type 0
ValueWords = (pile : List ℕ) → TrueBlock pile
    → (length (value_bytes pile) ≡ 2 * width_of pile)
    × ((i : ℕ) → 1 ≤ i → i ≤ width_of pile → word_at (value_bytes pile) i ≡ word_at pile (7 + i))

-- SCOPE 5: a refused block has no value bytes: an empty part, at the front of the pile.
abbrev pub RefusedEmpty : Type 0
RefusedEmpty = (pile : List ℕ) (m a b : ℕ) → opening pile ≡ refused m a b → (value_bytes pile ≡ []) × (value_start pile ≡ 0)

-- The test for one deal holds exactly where all the words that tell deals apart are the same.
abbrev pub SameDealMeans : Type 0
SameDealMeans = (x y : DealWords) → (same_deal x y ≡ true) ↔ (x ≡ y)

-- Two true blocks with one mark have the same piece exactly where they have the same set and the same number in it.
abbrev pub PieceTells : Type 0
PieceTells = (b c : List ℕ) → TrueBlock b → TrueBlock c → word_at b 1 ≡ word_at c 1
    → (piece_of b ≡ piece_of c) ↔ ((word_at b 25 ≡ word_at c 25) × (piece_number b ≡ piece_number c))

-- Of the first scheme that is its number alone.
abbrev pub FirstPiece : Type 0
FirstPiece = (b : List ℕ) → TrueBlock b → word_at b 1 ≡ 1987 → piece_of b ≡ piece_number b

-- Where a block is lent alone, none of a deal by sets is taken: what passes TORN, UNREAD and CHECK is HEADER at word 1.
abbrev pub FirstOnly : Type 0
FirstOnly = (b : List ℕ) (a r : ℕ) → length b ≡ 512 → Passed (slot_lines b a) → word_at b 1 ≡ 1988
    → first_fail (one_lines b a) (done r) ≡ refused (number Header) a 1

-- And what is taken is a true block of the first scheme, any such.
abbrev pub OneMeans : Type 0
OneMeans = (b : List ℕ) (a : ℕ) → Passed (one_lines b a) ↔ ((length b ≡ 512) × TrueBlock b × (word_at b 1 ≡ 1987))

-- ---- cards made before there were sets, and before there was a year: those carry 0 in word 24
-- A block of the first scheme, under year 0 where there was none, is written byte for byte as it was.
abbrev pub EarlierBlock : Type 0
EarlierBlock = (dated : Bool) (l : Label) (vs : List ℕ) → l.mark ≡ 1987 → l.set ≡ 0 → (dated ≡ false → l.year ≡ 0) → length vs ≤ 16
    → block_bytes l vs ≡ former_bytes dated l vs

-- Of a block without the mark of a deal by sets the first wrong word is what it was.
abbrev pub EarlierLayout : Type 0
EarlierLayout = (dated : Bool) (b : List ℕ) → word_at b 1 ≢ 1988 → (dated ≡ false → word_at b 24 ≡ 0) → first_wrong b ≡ former_wrong dated b

-- And two deals of one mark are told apart by what told them apart.
abbrev pub EarlierDeals : Type 0
EarlierDeals = (dated : Bool) (x y : DealWords) → x.mark ≡ y.mark → (dated ≡ false → x.year ≡ y.year) → same_deal x y ≡ former_same dated x y
