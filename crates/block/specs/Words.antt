-- SCOPE 4: a block read as words of two bytes, the high byte in front, word 1 first; words, bytes, and the check of a list of bytes b.
-- Assumes nothing.
use Rattle.std.specs.Prelude.{ℕ, zero, suc, ◌+◌, ◌-◌, ◌*◌, ◌/◌, ◌%◌, ◌≤◌, List, [], ◌∷◌, get_or, set}

-- word i of the bytes b, i from 1: two bytes, the high one in front
unfoldable pub word_at : List ℕ → ℕ → ℕ
word_at b i = get_or b (2 * (i - 1)) 0 * 256 + get_or b (2 * (i - 1) + 1) 0

-- the bytes b with v written at word i
unfoldable pub put_at : List ℕ → ℕ → ℕ → List ℕ
put_at b i v = set (set b (2 * (i - 1)) (v / 256)) (2 * (i - 1) + 1) (v % 256)

-- a list of words as bytes, high byte first
unfoldable pub bytes_of : List ℕ → List ℕ
bytes_of [] = []
bytes_of (v ∷ vs) = v / 256 ∷ v % 256 ∷ bytes_of vs

-- words 1 to n are at most 32748
pub record Small (b : List ℕ) (n : ℕ) : Type 0 where
  pub small : (i : ℕ) → 1 ≤ i → i ≤ n → word_at b i ≤ 32748

-- 1 · f 1 + 2 · f 2 + .. + n · f n
unfoldable pub weighted : (ℕ → ℕ) → ℕ → ℕ
weighted f zero = 0
weighted f (suc n) = weighted f n + suc n * f (suc n)

-- SCOPE 4: the check, 1·word 1 + 2·word 2 + .. + 255·word 255 mod p
unfoldable pub check_of : List ℕ → ℕ
check_of b = weighted (word_at b) 255 % 32749
