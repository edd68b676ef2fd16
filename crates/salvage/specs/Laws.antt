-- The laws that this room owes; their proofs are in proofs/Laws.antt.
-- Assumes nothing.
use Rattle.std.specs.Prelude.{ℕ, ◌*◌, ◌%◌, ◌≤◌, ◌<◌, ◌≡◌, cond, not, ◌≢◌, ◌⊎◌, List, [], ◌∷◌, ◌++◌, eqb, length, get_or, take, drop}
use Rattle.lists.specs.Places.{those}
use Rattle.answer.specs.Outcome.{done}
use Rattle.block.specs.Words.{word_at, put_at, check_of, Small}
use Rattle.block.specs.Layout.{first_wrong}
use Rattle.block.specs.Open.{TrueBlock}
use Rattle.pile.specs.Blocks.{blocks, In, rest_from, word, TrueBlocks}
use Rattle.salvage.specs.Mended.{dirty_words, value_for, rebuilt, mended_block, CleanBut}
use Rattle.salvage.specs.Pile.{mended_pile, rebuilt_words, places, block_of, word_of, salvaging, salvaged_pile}

-- ---- one block
-- The value for a word is one of 0 to 32748, the check is right with it, and with no other of them.
abbrev pub ValueOne : Type 0
ValueOne = (b : List ℕ) (i : ℕ) → 512 ≤ length b → 1 ≤ i → i ≤ 256 → CleanBut b i
    → (value_for b i ≤ 32748)
    × (check_of (put_at b i (value_for b i)) ≡ word_at (put_at b i (value_for b i)) 256)
    × ((v : ℕ) → v ≤ 32748 → check_of (put_at b i v) ≡ word_at (put_at b i v) 256 → v ≡ value_for b i)

-- every number of the list is a byte (past its end a list reads 0)
pub record Bytes (b : List ℕ) : Type 0 where
  pub byte : (k : ℕ) → get_or b k 0 < 256

-- A true block in which any one word was overwritten with a value above 32748 comes back: word for word, and of bytes byte for byte.
abbrev pub Restored : Type 0
Restored = (b : List ℕ) (i v : ℕ) → TrueBlock b → 1 ≤ i → i ≤ 256 → 32748 < v
    → ((k : ℕ) → 1 ≤ k → word_at (mended_block (put_at b i v)) k ≡ word_at b k)
    × (rebuilt (put_at b i v) ≡ i)
    × (Bytes b → mended_block (put_at b i v) ≡ b)

-- A block without a dirty word stays, and so does one with two.
abbrev pub CleanStays : Type 0
CleanStays = (b : List ℕ) → Small b 256 → (mended_block b ≡ b) × (rebuilt b ≡ 0)

abbrev pub TwoStay : Type 0
TwoStay = (b : List ℕ) (i j : ℕ) → 1 ≤ i → i ≤ 256 → 1 ≤ j → j ≤ 256 → i ≢ j → 32748 < word_at b i → 32748 < word_at b j
    → (mended_block b ≡ b) × (rebuilt b ≡ 0)

-- With one dirty word the value stands there afterwards; or, where the layout breaks with it, all is as it was.
abbrev pub OneMends : Type 0
OneMends = (b : List ℕ) (i : ℕ) → dirty_words b ≡ i ∷ []
    → (first_wrong (put_at b i (value_for b i)) ≡ 0 → (mended_block b ≡ put_at b i (value_for b i)) × (rebuilt b ≡ i))
    × (first_wrong (put_at b i (value_for b i)) ≢ 0 → (mended_block b ≡ b) × (rebuilt b ≡ 0))

-- The dirty words are word i alone exactly where word i exceeds 32748 and no other does.
abbrev pub DirtyMeans : Type 0
DirtyMeans = (b : List ℕ) (i : ℕ)
    → (dirty_words b ≡ i ∷ [] → (1 ≤ i) × (i ≤ 256) × (32748 < word_at b i) × CleanBut b i)
    × (1 ≤ i → i ≤ 256 → 32748 < word_at b i → CleanBut b i → dirty_words b ≡ i ∷ [])

-- A block that mending changed is true afterwards.
abbrev pub ChangedTrue : Type 0
ChangedTrue = (b : List ℕ) → 512 ≤ length b → mended_block b ≢ b → TrueBlock (mended_block b)

-- To mend a block twice is to mend it once.
abbrev pub MendTwice : Type 0
MendTwice = (b : List ℕ) → 512 ≤ length b → mended_block (mended_block b) ≡ mended_block b

-- The words that differ before and after are the one rebuilt, or none.
abbrev pub DiffersOne : Type 0
DiffersOne = (b : List ℕ) → 512 ≤ length b
    → those (λ k. not (eqb (word_at b k) (word_at (mended_block b) k))) 1 256 ≡ cond (eqb (rebuilt b) 0) [] (rebuilt b ∷ [])

-- Only the first 512 bytes count, and only they change.
abbrev pub FrontOnly : Type 0
FrontOnly = (b : List ℕ) → 512 ≤ length b → (mended_block b ≡ mended_block (take 512 b) ++ drop 512 b) × (length (mended_block b) ≡ length b)

-- ---- the pile
-- The pile is as long as it was, and each block of it is what that block is mended to.
abbrev pub PileBlocks : Type 0
PileBlocks = (pile : List ℕ) → (length (mended_pile pile) ≡ length pile)
    × ((a : ℕ) → In pile a → take 512 (rest_from (mended_pile pile) a) ≡ take 512 (mended_block (rest_from pile a)))

-- A block in which nothing is rebuilt stays, byte for byte; and one that does not stay is a true block afterwards.
abbrev pub BlockStays : Type 0
BlockStays = (pile : List ℕ) (a : ℕ) → In pile a → rebuilt (rest_from pile a) ≡ 0
    → take 512 (rest_from (mended_pile pile) a) ≡ take 512 (rest_from pile a)

abbrev pub BlockTrue : Type 0
BlockTrue = (pile : List ℕ) (a : ℕ) → In pile a → take 512 (rest_from (mended_pile pile) a) ≢ take 512 (rest_from pile a)
    → TrueBlock (rest_from (mended_pile pile) a)

-- Salvaged a second time, the pile stays, and no word is rebuilt; so the call answers 0.
abbrev pub PileTwice : Type 0
PileTwice = (pile : List ℕ) → (mended_pile (mended_pile pile) ≡ mended_pile pile) × (rebuilt_words (mended_pile pile) ≡ [])

abbrev pub SalvageTwice : Type 0
SalvageTwice = (pile : List ℕ) (numbers n : ℕ) → salvaging pile numbers ≡ done n
    → (salvaging (salvaged_pile pile numbers) numbers ≡ done 0)
    × (salvaged_pile (salvaged_pile pile numbers) numbers ≡ salvaged_pile pile numbers)

-- ---- the list of places
-- At most one word is rebuilt in a block, so the list has room for all.
abbrev pub RebuiltFew : Type 0
RebuiltFew = (pile : List ℕ) → length (rebuilt_words pile) ≤ blocks pile

-- A list of places has two numbers for each; each names a word of a block that differs before and after, and each such word is named.
abbrev pub PlacesMean : Type 0
PlacesMean = (pile : List ℕ)
    → let list = places (rebuilt_words pile) in
    (length list ≡ 2 * length (rebuilt_words pile))
    × ((n : ℕ) → 1 ≤ n → n ≤ length (rebuilt_words pile)
    → In pile (block_of list n) × (1 ≤ word_of list n) × (word_of list n ≤ 256)
    × (word pile (block_of list n) (word_of list n) ≢ word (mended_pile pile) (block_of list n) (word_of list n)))
    × ((a i : ℕ) → In pile a → 1 ≤ i → i ≤ 256 → word pile a i ≢ word (mended_pile pile) a i
    → (n : ℕ) × (1 ≤ n) × (n ≤ length (rebuilt_words pile)) × (block_of list n ≡ a) × (word_of list n ≡ i))

-- They stand in pile order, and no block is named twice.
abbrev pub PlacesRise : Type 0
PlacesRise = (pile : List ℕ) (m n : ℕ) → 1 ≤ m → m < n → n ≤ length (rebuilt_words pile)
    → block_of (places (rebuilt_words pile)) m < block_of (places (rebuilt_words pile)) n

-- The word named of a block is the one that the block has rebuilt.
abbrev pub PlaceRebuilt : Type 0
PlaceRebuilt = (pile : List ℕ) (a i : ℕ) → In pile a → 1 ≤ i → i ≤ 256 → word pile a i ≢ word (mended_pile pile) a i → rebuilt (rest_from pile a) ≡ i

-- ---- a pile whose blocks lost a word
-- the block c is the block b, or b with one word overwritten with a value above 32748
abbrev pub LostOne : List ℕ → List ℕ → Type 0
LostOne b c = (c ≡ b) ⊎ ((i : ℕ) × (v : ℕ) × (1 ≤ i) × (i ≤ 256) × (32748 < v) × (c ≡ put_at b i v))

-- the pile `lost` is the pile `good`, whole blocks, of which some have lost one word each so, and nothing else
pub record Scratched (good lost : List ℕ) : Type 0 where
  pub whole : length good % 512 ≡ 0
  pub long : length lost ≡ length good
  pub block : (a : ℕ) → In good a → LostOne (take 512 (rest_from good a)) (take 512 (rest_from lost a))

-- A true block of a pile that lost one word so comes back as it was, whatever the other blocks of the pile are.
abbrev pub RestoredBlock : Type 0
RestoredBlock = (good lost : List ℕ) (a : ℕ) → Bytes good → length lost ≡ length good → In good a → TrueBlock (rest_from good a)
    → LostOne (take 512 (rest_from good a)) (take 512 (rest_from lost a))
    → take 512 (rest_from (mended_pile lost) a) ≡ take 512 (rest_from good a)

-- A pile of true blocks, some of which lost one word each, comes back byte for byte.
abbrev pub RestoredPile : Type 0
RestoredPile = (good lost : List ℕ) → Bytes good → TrueBlocks good → Scratched good lost → mended_pile lost ≡ good
