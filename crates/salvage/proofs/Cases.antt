-- Case P11's block with a word lost, computed: word 8, and the check; and a block that is put back, since word 3 comes out above 8.
-- Assumes nothing.
use mathlib.Core.Path.{◌≡◌, refl}
use mathlib.Core.List.{List, [], ◌∷◌, ◌++◌}
use Prim.Native.Nat.{ℕ}
use lib.ListN.{replicate}
use Rattle.lists.specs.Places.{those, first_from}
use Rattle.lists.specs.Run.{run}
use Rattle.prime.specs.Prime.{minus}
use Rattle.prime.specs.Inverse.{inverse_in, inverse}
use Rattle.block.specs.Words.{word_at, put_at, bytes_of, weighted}
use Rattle.block.specs.Layout.{held_at, range_at, values_of, right_at, first_wrong}
use Rattle.salvage.specs.Mended.{dirty_words, sole, without, other_sum, value_for, kept, rebuilt, mended_block}

-- the block of case P11, with this holder, value and check
abbrev p11 : ℕ → ℕ → ℕ → List ℕ
p11 holder value check = bytes_of (1987 ∷ 7 ∷ holder ∷ 4 ∷ 3 ∷ 1 ∷ 1 ∷ value ∷ replicate 247 0 ++ check ∷ [])

-- word 8 reads 65535
pub word_8 : (rebuilt (p11 4 65535 12025) ≡ 8) × (mended_block (p11 4 65535 12025) ≡ p11 4 1246 12025)
unfolding mended_block rebuilt kept value_for other_sum without sole dirty_words those first_wrong first_from right_at held_at range_at values_of run minus inverse inverse_in weighted bytes_of word_at put_at
word_8 = (refl, refl)

-- word 256 reads 32749
pub word_256 : mended_block (p11 4 1246 32749) ≡ p11 4 1246 12025
unfolding mended_block rebuilt kept value_for other_sum without sole dirty_words those first_wrong first_from right_at held_at range_at values_of run minus inverse inverse_in weighted bytes_of word_at put_at
word_256 = refl

-- word 3 reads 40000 and word 8 is one too high: the check asks for no holder of 1 to 8
pub put_back : (rebuilt (p11 40000 1247 12025) ≡ 0) × (mended_block (p11 40000 1247 12025) ≡ p11 40000 1247 12025)
unfolding mended_block rebuilt kept value_for other_sum without sole dirty_words those first_wrong first_from right_at held_at range_at values_of run minus inverse inverse_in weighted bytes_of word_at put_at
put_back = (refl, refl)
