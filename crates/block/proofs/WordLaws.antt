-- Words and bytes: which word stands where in a list of words as bytes, in the front of a list, and after a store.
-- Assumes nothing.
use mathlib.Core.Path.{◌≡◌, refl, sym, ap, ap₂, ◌∙◌}
use mathlib.Core.Logic.{◌≢◌}
use mathlib.Core.List.{List, [], ◌∷◌, ◌++◌, append_assoc, append-nil}
use Prim.Native.Nat.{ℕ, zero, suc, ◌+◌, ◌-◌, ◌*◌, ◌/◌, ◌%◌, ◌≤◌, ◌<◌}
use native.Mathlib.Nat.{not-suc-le-zero, div-add-mod'}
use native.Mathlib.Omega.{arith}
use lib.ListN.{length, get_or, take, drop, set, length-append, length-set, get_or-append}
use lib.Seq.{take-suc, drop-cons, set_at, get_or-set_same, get_or-set_other}
use Rattle.lists.specs.Run.{run}
use Rattle.lists.proofs.RunLaws.{run_end}
use Rattle.block.specs.Words.{word_at, put_at, bytes_of}

-- ---- a list of words as bytes
pub length-bytes : (ws : List ℕ) → length (bytes_of ws) ≡ 2 * length ws
unfolding bytes_of
length-bytes [] = refl
length-bytes (v ∷ vs) = let h : length (bytes_of vs) ≡ 2 * length vs = length-bytes vs in omega arith

pub bytes-append : (xs ys : List ℕ) → bytes_of (xs ++ ys) ≡ bytes_of xs ++ bytes_of ys
unfolding bytes_of
bytes-append [] ys = refl
bytes-append (x ∷ xs) ys = rw (bytes-append xs ys)

-- word i of the bytes is word i of the list
pub bytes_word : (ws rest : List ℕ) (i : ℕ) → 1 ≤ i → i ≤ length ws → word_at (bytes_of ws ++ rest) i ≡ get_or ws (i - 1) 0
unfolding word_at bytes_of
bytes_word [] rest i l h = absurd (omega arith)
bytes_word (v ∷ vs) rest zero l h = absurd (not-suc-le-zero l)
bytes_word (v ∷ vs) rest (suc zero) l h = div-add-mod' v 256
bytes_word (v ∷ vs) rest (suc (suc i)) l h =
    let a : 2 * (suc (suc i) - 1) ≡ suc (suc (2 * (suc i - 1))) = omega arith in
    let b : 2 * (suc (suc i) - 1) + 1 ≡ suc (suc (2 * (suc i - 1) + 1)) = omega arith in
    let e : suc (suc i) - 1 ≡ suc (suc i - 1) = omega arith in
    rw (b, a, e) (bytes_word vs rest (suc i) (omega arith) (omega arith))

pub bytes_word_alone : (ws : List ℕ) (i : ℕ) → 1 ≤ i → i ≤ length ws → word_at (bytes_of ws) i ≡ get_or ws (i - 1) 0
bytes_word_alone ws i l h = rw (append-nil (bytes_of ws)) at (bytes_word ws [] i l h)

-- ---- bytes below 256 are the bytes of their words
pub bytes_low : (ws : List ℕ) → ((i : ℕ) → get_or ws i 0 ≤ 65535) → (i : ℕ) → get_or (bytes_of ws) i 0 < 256
unfolding bytes_of
bytes_low [] h i = omega arith
bytes_low (v ∷ vs) h zero = let l = h 0 in omega arith
bytes_low (v ∷ vs) h (suc zero) = omega arith
bytes_low (v ∷ vs) h (suc (suc i)) = bytes_low vs (λ k. h (suc k)) i

pub bytes_of_words : (b : List ℕ) → ((i : ℕ) → get_or b i 0 < 256) → (n : ℕ) → 2 * n ≤ length b → take (2 * n) b ≡ bytes_of (run (word_at b) 1 n)
unfolding bytes_of run word_at
bytes_of_words b low zero h = refl
bytes_of_words b low (suc n) h =
    let two : 2 * suc n ≡ suc (suc (2 * n)) = omega arith in
    let at : 2 * (1 + n - 1) ≡ 2 * n = omega arith in
    let at' : 2 * (1 + n - 1) + 1 ≡ suc (2 * n) = omega arith in
    let hi = get_or b (2 * n) 0 in
    let lo = get_or b (suc (2 * n)) 0 in
    let u : lo < 256 = low (suc (2 * n)) in
    let word : word_at b (1 + n) ≡ hi * 256 + lo = rw (at', at) in
    let top : word_at b (1 + n) / 256 ≡ hi = omega arith in
    let end : word_at b (1 + n) % 256 ≡ lo = omega arith in
    rw two
    (take-suc b (suc (2 * n)) 0 (omega arith)
    ∙ ap (λ (l : List ℕ). l ++ lo ∷ []) (take-suc b (2 * n) 0 (omega arith))
    ∙ append_assoc (take (2 * n) b) (hi ∷ []) (lo ∷ [])
    ∙ ap₂ (λ (x y : List ℕ). x ++ y) (bytes_of_words b low n (omega arith)) (λ i. sym top i ∷ sym end i ∷ [])
    ∙ sym (bytes-append (run (word_at b) 1 n) (word_at b (1 + n) ∷ []))
    ∙ ap bytes_of (sym (run_end (word_at b) 1 n)))

-- ---- what follows does not change a word
pub word-front : (xs ys : List ℕ) (i : ℕ) → 1 ≤ i → 2 * i ≤ length xs → word_at (xs ++ ys) i ≡ word_at xs i
unfolding word_at
word-front xs ys i l h =
    rw (get_or-append xs ys 0 (2 * (i - 1)) (omega arith), get_or-append xs ys 0 (2 * (i - 1) + 1) (omega arith))

-- ---- a store of one word
pub length-put : (b : List ℕ) (i v : ℕ) → length (put_at b i v) ≡ length b
unfolding put_at
length-put b i v = simp length-set

module _ (b : List ℕ) (i v : ℕ) (from : 1 ≤ i) (room : 2 * i ≤ length b) where
  pub word-put-same : word_at (put_at b i v) i ≡ v
  unfolding word_at put_at
  word-put-same =
      rw (
        get_or-set_other (set b (2 * (i - 1)) (v / 256)) (2 * (i - 1) + 1) (2 * (i - 1)) (v % 256) 0 (omega arith),
        get_or-set_same b (2 * (i - 1)) (v / 256) 0 (omega arith),
        get_or-set_same (set b (2 * (i - 1)) (v / 256)) (2 * (i - 1) + 1) (v % 256) 0 (simp length-set (omega arith)),
      )
      (div-add-mod' v 256)

  pub word-put-other : (k : ℕ) → 1 ≤ k → k ≢ i → word_at (put_at b i v) k ≡ word_at b k
  unfolding word_at put_at
  word-put-other k l ne =
      rw (
        get_or-set_other (set b (2 * (i - 1)) (v / 256)) (2 * (i - 1) + 1) (2 * (k - 1)) (v % 256) 0 (λ e. ne (omega arith)),
        get_or-set_other b (2 * (i - 1)) (2 * (k - 1)) (v / 256) 0 (λ e. ne (omega arith)),
        get_or-set_other (set b (2 * (i - 1)) (v / 256)) (2 * (i - 1) + 1) (2 * (k - 1) + 1) (v % 256) 0 (λ e. ne (omega arith)),
        get_or-set_other b (2 * (i - 1)) (2 * (k - 1) + 1) (v / 256) 0 (λ e. ne (omega arith)),
      )

-- a store of the word that comes next: the words ws stand before it, what was there from it on is o's
pub put_next : (ws o : List ℕ) (i v : ℕ) → length ws + 1 ≡ i → 2 * i ≤ length o
    → put_at (bytes_of ws ++ drop (2 * (i - 1)) o) i v ≡ bytes_of (ws ++ v ∷ []) ++ drop (2 * i) o
unfolding put_at bytes_of
put_next ws o i v e h =
    let at = 2 * (i - 1) in
    let P = bytes_of ws in
    let n : length P ≡ at = let q : length (bytes_of ws) ≡ 2 * length ws = length-bytes ws in omega arith in
    let n' : length (P ++ v / 256 ∷ []) ≡ at + 1 = length-append P (v / 256 ∷ []) ∙ ap (λ (k : ℕ). k + 1) n in
    let j : 2 * i ≡ suc (suc at) = omega arith in
    let d : drop at o ≡ get_or o at 0 ∷ get_or o (suc at) 0 ∷ drop (2 * i) o =
    rw j (drop-cons o at 0 (omega arith) ∙ ap (λ (l : List ℕ). get_or o at 0 ∷ l) (drop-cons o (suc at) 0 (omega arith))) in
    rw (d, set_at P (get_or o at 0) (get_or o (suc at) 0 ∷ drop (2 * i) o) (v / 256) at n)
    (rw (← append_assoc P (v / 256 ∷ []) (get_or o (suc at) 0 ∷ drop (2 * i) o))
    (set_at (P ++ v / 256 ∷ []) (get_or o (suc at) 0) (drop (2 * i) o) (v % 256) (at + 1) n'
    ∙ append_assoc P (v / 256 ∷ []) (v % 256 ∷ drop (2 * i) o)
    ∙ sym (append_assoc P (v / 256 ∷ v % 256 ∷ []) (drop (2 * i) o))
    ∙ ap (λ (l : List ℕ). l ++ drop (2 * i) o) (sym (bytes-append ws (v ∷ [])))))
