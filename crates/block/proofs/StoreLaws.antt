-- Stores of a word, one after another and in the front of a list; and the words of a list's parts.
-- Assumes nothing.
use mathlib.Core.Path.{◌≡◌, sym, ap, ◌∙◌}
use mathlib.Core.List.{List, ◌++◌}
use Prim.Native.Nat.{ℕ, ◌+◌, ◌-◌, ◌*◌, ◌/◌, ◌%◌, ◌≤◌, ◌<◌}
use native.Mathlib.Omega.{arith}
use lib.ListN.{length, get_or, set, take, drop, length-set, take-append-drop}
use lib.Seq.{set-set, set_comm, set-get_or, set-append_left, length-take-le, get_or-append-add}
use Rattle.block.specs.Words.{word_at, put_at}
use Rattle.block.proofs.WordLaws.{word-front}

-- ---- stores
-- of two stores at one word the second counts
pub put-put : (b : List ℕ) (i u v : ℕ) → put_at (put_at b i u) i v ≡ put_at b i v
unfolding put_at
put-put b i u v =
    let m = 2 * (i - 1) in
    let n = 2 * (i - 1) + 1 in
    ap (λ (l : List ℕ). set l n (v % 256))
    (set_comm (set b m (u / 256)) n m (u % 256) (v / 256) (λ e. omega arith) ∙ ap (λ (l : List ℕ). set l n (u % 256)) (set-set b m (u / 256) (v / 256)))
    ∙ set-set (set b m (v / 256)) n (u % 256) (v % 256)

-- a word of bytes, stored where it stands
pub put_self : (b : List ℕ) (i : ℕ) → get_or b (2 * (i - 1) + 1) 0 < 256 → put_at b i (word_at b i) ≡ b
unfolding put_at word_at
put_self b i h =
    let x = get_or b (2 * (i - 1)) 0 in
    let y = get_or b (2 * (i - 1) + 1) 0 in
    let q : (x * 256 + y) / 256 ≡ x = omega arith in
    let r : (x * 256 + y) % 256 ≡ y = omega arith in
    rw (q, r, set-get_or b (2 * (i - 1)) 0) (set-get_or b (2 * (i - 1) + 1) 0)

-- a store in the front leaves what follows
pub put_front : (xs ys : List ℕ) (i v : ℕ) → 1 ≤ i → 2 * i ≤ length xs → put_at (xs ++ ys) i v ≡ put_at xs i v ++ ys
unfolding put_at
put_front xs ys i v l h =
    let m = 2 * (i - 1) in
    ap (λ (z : List ℕ). set z (m + 1) (v % 256)) (set-append_left xs ys m (v / 256) (omega arith))
    ∙ set-append_left (set xs m (v / 256)) ys (m + 1) (v % 256) (omega (arith, length-set xs m (v / 256)))

-- ---- words of a list's parts
-- behind a front of m whole words
pub word-behind : (xs ys : List ℕ) (m k : ℕ) → length xs ≡ 2 * m → 1 ≤ k → word_at (xs ++ ys) (m + k) ≡ word_at ys k
unfolding word_at
word-behind xs ys m k n l =
    let a : 2 * (m + k - 1) ≡ length xs + 2 * (k - 1) = omega arith in
    let b : 2 * (m + k - 1) + 1 ≡ length xs + (2 * (k - 1) + 1) = omega arith in
    rw (b, a, get_or-append-add xs ys (2 * (k - 1)) 0, get_or-append-add xs ys (2 * (k - 1) + 1) 0)

-- from word m + 1 on
pub word-drop : (l : List ℕ) (q m k : ℕ) → q ≡ 2 * m → q ≤ length l → 1 ≤ k → word_at l (m + k) ≡ word_at (drop q l) k
word-drop l q m k e h f =
    ap (λ (z : List ℕ). word_at z (m + k)) (sym (take-append-drop q l))
    ∙ word-behind (take q l) (drop q l) m k (length-take-le q l h ∙ e) f

-- in the first q bytes
pub word-take : (l : List ℕ) (q k : ℕ) → q ≤ length l → 1 ≤ k → 2 * k ≤ q → word_at (take q l) k ≡ word_at l k
word-take l q k h f t =
    sym (word-front (take q l) (drop q l) k f (omega (arith, length-take-le q l h)))
    ∙ ap (λ (z : List ℕ). word_at z k) (take-append-drop q l)
