-- A pile whose blocks lost a word comes back, block by block. Assumes nothing.
use mathlib.Core.Path.{◌≡◌, refl, sym, ap, ap₂, ◌∙◌}
use mathlib.Core.Logic.{⊎_elim}
use mathlib.Core.List.{List, [], ◌∷◌, ◌++◌}
use Prim.Native.Nat.{ℕ, zero, suc, ◌+◌, ◌-◌, ◌*◌, ◌/◌, ◌≤◌, ◌<◌}
use native.Mathlib.Nat.{le_of_eq}
use native.Mathlib.Decide.{dec_lt}
use native.Mathlib.Omega.{arith}
use lib.ListN.{length, get_or, take, drop, length-drop, take-append-drop, get_or-eq_default}
use lib.Seq.{length-take-le, take_at, drop-drop, get_or-take, get_or-drop}
use Rattle.block.specs.Open.{TrueBlock}
use Rattle.block.proofs.StoreLaws.{word-take}
use Rattle.block.proofs.OnlyLaws.{only_true}
use Rattle.pile.specs.Blocks.{blocks, In, rest_from, TrueBlocks}
use Rattle.pile.proofs.PileLaws.{rest_long}
use Rattle.salvage.specs.Mended.{mended_block}
use Rattle.salvage.specs.Pile.{mended_pile}
use Rattle.salvage.specs.Laws.{Bytes, LostOne, Scratched}
use Rattle.salvage.proofs.MendLaws.{clean_stays, restored_bytes}
use Rattle.salvage.proofs.PartLaws.{front-only, length_mended}
use Rattle.salvage.proofs.PileLaws.{pile_blocks}

-- ---- the first 512 bytes alone
front_mended : (Y : List ℕ) → 512 ≤ length Y → take 512 (mended_block Y) ≡ mended_block (take 512 Y)
front_mended Y h =
    ap (take 512) (front-only Y h).0
    ∙ take_at (mended_block (take 512 Y)) (drop 512 Y) 512 (length_mended (take 512 Y) ∙ length-take-le 512 Y h)

front_true : (b : List ℕ) → TrueBlock b → TrueBlock (take 512 b)
front_true b t =
    only_true b (take 512 b) (λ k l h. sym (word-take b 512 k t.long l (omega arith))) t (le_of_eq (sym (length-take-le 512 b t.long)))

front_bytes : (b : List ℕ) → 512 ≤ length b → Bytes b → Bytes (take 512 b)
front_bytes b long y = record { byte = λ k. go k (dec_lt k 512) }
  where
    go : (k : ℕ) → Dec (k < 512) → get_or (take 512 b) k 0 < 256
    go k (yes h) = rw (get_or-take 512 b k 0 h) (y.byte k)
    go k (no f) = rw (get_or-eq_default (take 512 b) 0 {n = k} (omega (arith, length-take-le 512 b long))) (omega arith)

rest_bytes : (pile : List ℕ) (a : ℕ) → Bytes pile → Bytes (rest_from pile a)
unfolding rest_from
rest_bytes pile a y = record { byte = λ k. rw (get_or-drop (512 * (a - 1)) pile k 0) (y.byte (512 * (a - 1) + k)) }

-- a block that is true, or lost one word, is mended to what it was
mended_back : (b c : List ℕ) → TrueBlock b → Bytes b → LostOne b c → mended_block c ≡ b
mended_back b c t y =
    ⊎_elim (λ e. ap mended_block e ∙ (clean_stays b t.clean).0)
    (λ s. ap mended_block s.5 ∙ restored_bytes b s.0 s.1 t s.2 s.3 s.4 y)

-- ---- in a pile
pub restored_block : (good lost : List ℕ) (a : ℕ) → Bytes good → length lost ≡ length good → In good a → TrueBlock (rest_from good a)
    → LostOne (take 512 (rest_from good a)) (take 512 (rest_from lost a))
    → take 512 (rest_from (mended_pile lost) a) ≡ take 512 (rest_from good a)
unfolding blocks
restored_block good lost a y e h t s =
    let k : In lost a = (h.0, omega (arith, h.1, e)) in
    (pile_blocks lost).1 a k ∙ front_mended (rest_from lost a) (rest_long lost a k.0 k.1)
    ∙ mended_back (take 512 (rest_from good a)) (take 512 (rest_from lost a)) (front_true (rest_from good a) t)
    (front_bytes (rest_from good a) t.long (rest_bytes good a y)) s

-- lists of n blocks that agree block by block
blocks-same : (n : ℕ) (x y : List ℕ) → length x ≡ 512 * n → length y ≡ 512 * n
    → ((m : ℕ) → m < n → take 512 (drop (512 * m) x) ≡ take 512 (drop (512 * m) y)) → x ≡ y
blocks-same zero [] [] p q f = refl
blocks-same zero [] (v ∷ y) p q f = absurd (omega arith)
blocks-same zero (u ∷ x) y p q f = absurd (omega arith)
blocks-same (suc n) x y p q f =
    sym (take-append-drop 512 x)
    ∙ ap₂ (λ (s t : List ℕ). s ++ t) (f 0 (omega arith))
    (blocks-same n (drop 512 x) (drop 512 y) (omega (arith, length-drop 512 x)) (omega (arith, length-drop 512 y))
    (λ m l.
    let e : 512 + 512 * m ≡ 512 * suc m = omega arith in
    ap (take 512) (drop-drop (512 * m) 512 x ∙ ap (λ (k : ℕ). drop k x) e)
    ∙ f (suc m) (omega arith)
    ∙ ap (take 512) (ap (λ (k : ℕ). drop k y) (sym e) ∙ sym (drop-drop (512 * m) 512 y))))
    ∙ take-append-drop 512 y

pub restored_pile : (good lost : List ℕ) → Bytes good → TrueBlocks good → Scratched good lost → mended_pile lost ≡ good
unfolding rest_from blocks
restored_pile good lost y t s =
    blocks-same (length good / 512) (mended_pile lost) good (omega (arith, (pile_blocks lost).0, s.long, s.whole)) (omega (arith, s.whole))
    (λ m l.
    let e : suc m - 1 ≡ m = omega arith in
    let h : In good (suc m) = (omega arith, omega arith) in
    let r = restored_block good lost (suc m) y s.long h (t.block (suc m) h.0 h.1) (s.block (suc m) h) in
    rw e at r)
