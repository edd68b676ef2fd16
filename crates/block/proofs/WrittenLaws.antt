-- A block that was written is a true block, whatever follows it; it has its label and its values, opens to its words, and its value bytes
-- are its values. Assumes nothing.
use mathlib.Core.Path.{◌≡◌, sym, ap, ap₂, subst, ◌∙◌}
use mathlib.Core.Logic.{⊎_elim}
use mathlib.Core.List.{List, [], ◌∷◌, ◌++◌, append_assoc, append-nil}
use Prim.Native.Nat.{ℕ, zero, suc, ◌+◌, ◌-◌, ◌%◌, ◌≤◌, ◌<◌, zero-le}
use native.Mathlib.Nat.{eq-or-lt_of_le, mod-lt}
use native.Mathlib.Decide.{dec_lt}
use native.Mathlib.Omega.{arith}
use lib.ListN.{length, get_or, take, length-append, get_or-eq_default}
use lib.Seq.{get_or_at, take_all}
use Rattle.lists.specs.Run.{run}
use Rattle.lists.proofs.RunLaws.{run_is, run-same}
use Rattle.answer.specs.Outcome.{done}
use Rattle.block.specs.declared.Label.{Label}
use Rattle.block.specs.Words.{word_at, bytes_of, weighted, check_of}
use Rattle.block.specs.Layout.{front_words, width_of, held_at, Ranged, label_of, values_of}
use Rattle.block.specs.Open.{opening, value_bytes, TrueBlock}
use Rattle.block.specs.Written.{body, block_bytes, Buildable}
use Rattle.block.proofs.WordLaws.{length-bytes, bytes-append, bytes_word, bytes_low, bytes_of_words}
use Rattle.block.proofs.SumLaws.{check-same, check-front}
use Rattle.block.proofs.LayoutLaws.{held_rest, values-count}
use Rattle.block.proofs.RangeLaws.{ranges_of}
use Rattle.block.proofs.BodyLaws.{body_at, length-body, length-block}
use Rattle.block.proofs.OpenLaws.{true_opens}
use Rattle.block.proofs.ValueLaws.{value-bytes}
use Rattle.block.proofs.FrontLaws.{values-front}

check-most : (b : List ℕ) → check_of b ≤ 32748
unfolding check_of
check-most b = let l : weighted (word_at b) 255 % 32749 < 32749 = mod-lt (weighted (word_at b) 255) (omega arith) in omega arith

-- each byte of a block that is written is below 256
pub low_append : (xs ys : List ℕ) → ((i : ℕ) → get_or xs i 0 < 256) → ((i : ℕ) → get_or ys i 0 < 256) → (i : ℕ) → get_or (xs ++ ys) i 0 < 256
low_append [] ys f g i = g i
low_append (x ∷ xs) ys f g zero = f zero
low_append (x ∷ xs) ys f g (suc i) = low_append xs ys (λ k. f (suc k)) g i

pub block_low : (l : Label) (vs : List ℕ) → ((i : ℕ) → 1 ≤ i → i ≤ 255 → held_at l vs i ≤ 32748) → (i : ℕ) → get_or (block_bytes l vs) i 0 < 256
unfolding block_bytes
block_low l vs small =
    low_append (bytes_of (body l vs)) (bytes_of (check_of (bytes_of (body l vs)) ∷ []))
    (bytes_low (body l vs) (λ i. body_low i (dec_lt i 255)))
    (bytes_low (check_of (bytes_of (body l vs)) ∷ []) check_low)
  where
    body_low : (i : ℕ) → Dec (i < 255) → get_or (body l vs) i 0 ≤ 65535
    body_low i (yes h) =
        let e : suc i - 1 ≡ i = omega arith in
        let w : get_or (body l vs) i 0 ≡ held_at l vs (suc i) = rw e at (body_at l vs (suc i) (omega arith) h) in
        omega (arith, small (suc i) (omega arith) h)
    body_low i (no f) = omega (arith, get_or-eq_default (body l vs) 0 {n = i} (omega (arith, length-body l vs)))

    check_low : (i : ℕ) → get_or (check_of (bytes_of (body l vs)) ∷ []) i 0 ≤ 65535
    check_low zero = omega (arith, check-most (bytes_of (body l vs)))
    check_low (suc i) = zero-le

module _ (l : Label) (vs rest : List ℕ) where
  words : List ℕ
  words = body l vs

  check : ℕ
  check = check_of (bytes_of words)

  pile : List ℕ
  pile = block_bytes l vs ++ rest

  words_long : length words ≡ 255
  unfolding words
  words_long = length-body l vs

  pile_is : pile ≡ bytes_of words ++ (bytes_of (check ∷ []) ++ rest)
  unfolding pile block_bytes words check
  pile_is = append_assoc (bytes_of words) (bytes_of (check ∷ [])) rest

  -- words 1 to 255 are those of the table
  word-is : (i : ℕ) → 1 ≤ i → i ≤ 255 → word_at pile i ≡ held_at l vs i
  unfolding words
  word-is i from to =
      ap (λ (p : List ℕ). word_at p i) pile_is
      ∙ bytes_word words (bytes_of (check ∷ []) ++ rest) i from (omega (arith, words_long))
      ∙ body_at l vs i from to

  check-is : word_at pile 256 ≡ check
  check-is =
      ap (λ (p : List ℕ). word_at p 256)
      (pile_is ∙ sym (append_assoc (bytes_of words) (bytes_of (check ∷ [])) rest) ∙ ap (λ (p : List ℕ). p ++ rest) (sym (bytes-append words (check ∷ []))))
      ∙ bytes_word (words ++ check ∷ []) rest 256 (omega arith) (omega (arith, words_long, length-append words (check ∷ [])))
      ∙ get_or_at words check [] 0 255 words_long

  sum_is : check_of pile ≡ check
  unfolding check
  sum_is = ap check_of pile_is ∙ check-front (bytes_of words) (bytes_of (check ∷ []) ++ rest) (omega (arith, length-bytes words, words_long))

  -- it has the label and the values that it was written from
  label_is : label_of pile ≡ l
  unfolding held_at
  label_is = λ t.
      record {
        mark = word-is 1 (omega arith) (omega arith) t;
        number = word-is 2 (omega arith) (omega arith) t;
        holder = word-is 3 (omega arith) (omega arith) t;
        people = word-is 4 (omega arith) (omega arith) t;
        pieces = word-is 5 (omega arith) (omega arith) t;
        width = word-is 6 (omega arith) (omega arith) t;
        piece = word-is 7 (omega arith) (omega arith) t;
        year = word-is 24 (omega arith) (omega arith) t;
        set = word-is 25 (omega arith) (omega arith) t;
      }

  header_is : front_words pile ≡ run (held_at l vs) 1 7
  unfolding run
  header_is = λ t.
      word-is 1 (omega arith) (omega arith) t
      ∷ word-is 2 (omega arith) (omega arith) t
      ∷ word-is 3 (omega arith) (omega arith) t
      ∷ word-is 4 (omega arith) (omega arith) t
      ∷ word-is 5 (omega arith) (omega arith) t
      ∷ word-is 6 (omega arith) (omega arith) t
      ∷ word-is 7 (omega arith) (omega arith) t
      ∷ []

  module _ (ok : Buildable l vs) where
    width_is : width_of pile ≡ length vs
    width_is = ap (λ (x : Label). x.width) label_is ∙ ok.counted

    few : length vs ≤ 16
    few = omega (arith, (ranges_of l ok.ranged).width.1, ok.counted)

    values_are : values_of pile ≡ vs
    unfolding values_of
    values_are =
        sym (run_is (λ i. word_at pile (7 + i)) (width_of pile) vs (sym width_is)
        (λ i from to.
        let e : 7 + i - 8 ≡ i - 1 = omega arith in
        sym (word-is (7 + i) (omega arith) (omega (arith, few, width_is)) ∙ held_rest l vs (7 + i) (omega arith) (λ n. omega (arith, few, width_is)) (λ n. omega (arith, few, width_is)) ∙ ap (λ (k : ℕ). get_or vs k 0) e)))

    true_is : TrueBlock pile
    unfolding pile check
    true_is =
        record {
          long = simp length-append (omega (arith, length-block l vs));
          clean = record {
            small = λ i from to.
                ⊎_elim (λ (e : i ≡ 256). rw (e, check-is) (check-most (bytes_of words)))
                (λ (less : i < 256). rw (word-is i from (omega arith)) (ok.small i from (omega arith)))
                (eq-or-lt_of_le to);
          };
          sum = sum_is ∙ sym check-is;
          layout = record {
            word = λ i from to. word-is i from to ∙ sym (ap₂ (λ (x : Label) (ys : List ℕ). held_at x ys i) label_is values_are);
            ranged = subst Ranged (sym label_is) ok.ranged;
          };
        }

    opens-is : opening pile ≡ done (run (held_at l vs) 1 7)
    opens-is = true_opens pile true_is ∙ ap done header_is

-- the value bytes lie in the block, whose bytes are below 256
values-written : (l : Label) (vs rest : List ℕ) → Buildable l vs → value_bytes (block_bytes l vs ++ rest) ≡ bytes_of vs
unfolding pile
values-written l vs rest ok =
    let b = block_bytes l vs in
    let t : TrueBlock b = subst TrueBlock (append-nil b) (true_is l vs [] ok) in
    let v : values_of b ≡ vs = ap values_of (sym (append-nil b)) ∙ values_are l vs [] ok in
    values-front b rest t.long ∙ value-bytes b (block_low l vs ok.small) t ∙ ap bytes_of v

pub opens-written : (l : Label) (vs rest : List ℕ) → Buildable l vs
    → TrueBlock (block_bytes l vs ++ rest)
    × (opening (block_bytes l vs ++ rest) ≡ done (run (held_at l vs) 1 7))
    × (value_bytes (block_bytes l vs ++ rest) ≡ bytes_of vs)
unfolding pile
opens-written l vs rest ok = (true_is l vs rest ok, opens-is l vs rest ok, values-written l vs rest ok)

pub written-words : (l : Label) (vs rest : List ℕ) → Buildable l vs
    → ((i : ℕ) → 1 ≤ i → i ≤ 255 → word_at (block_bytes l vs ++ rest) i ≡ held_at l vs i)
    × (label_of (block_bytes l vs ++ rest) ≡ l)
    × (values_of (block_bytes l vs ++ rest) ≡ vs)
unfolding pile
written-words l vs rest ok = (word-is l vs rest, label_is l vs rest, values_are l vs rest ok)

-- ---- and the other way: a true block is the one written from the label and the values that it has
module _ (b : List ℕ) (t : TrueBlock b) where
  abbrev again : List ℕ
  again = block_bytes (label_of b) (values_of b)

  own_builds : Buildable (label_of b) (values_of b)
  own_builds =
      record {
        ranged = t.layout.ranged;
        counted = sym (values-count b);
        small = λ i from to. rw (← t.layout.word i from to) (t.clean.small i from (omega arith));
      }

  own-words : (i : ℕ) → 1 ≤ i → i ≤ 256 → word_at again i ≡ word_at b i
  unfolding pile
  own-words i from to =
      ⊎_elim
      (λ (e : i ≡ 256). rw e (sym true_again.sum ∙ check-same again b (λ k l h. below k l h) ∙ t.sum))
      (λ (less : i < 256). below i from (omega arith))
      (eq-or-lt_of_le to)
    where
      true_again : TrueBlock again
      true_again = subst TrueBlock (append-nil again) (true_is (label_of b) (values_of b) [] own_builds)

      below : (k : ℕ) → 1 ≤ k → k ≤ 255 → word_at again k ≡ word_at b k
      below k l h = ap (λ (x : List ℕ). word_at x k) (sym (append-nil again)) ∙ word-is (label_of b) (values_of b) [] k l h ∙ sym (t.layout.word k l h)

  own-bytes : ((i : ℕ) → get_or b i 0 < 256) → again ≡ take 512 b
  own-bytes low =
      let n : length again ≡ 512 = length-block (label_of b) (values_of b) in
      sym (take_all 512 again (omega arith))
      ∙ bytes_of_words again (block_low (label_of b) (values_of b) own_builds.small) 256 (omega arith)
      ∙ ap bytes_of (run-same (word_at again) (word_at b) 256 own-words)
      ∙ sym (bytes_of_words b low 256 t.long)

  pub true_written : Buildable (label_of b) (values_of b)
      × ((i : ℕ) → 1 ≤ i → i ≤ 256 → word_at again i ≡ word_at b i)
      × (((i : ℕ) → get_or b i 0 < 256) → again ≡ take 512 b)
  true_written = (own_builds, own-words, own-bytes)
