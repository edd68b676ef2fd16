-- The report: its lines as the loop writes them, how long it is, and that the list of the call has its places. Assumes nothing.
use mathlib.Core.Path.{◌≡◌, refl, sym, ap, ap₂, ◌∙◌}
use mathlib.Core.List.{List, [], ◌∷◌, ◌++◌, append-nil}
use Prim.Native.Nat.{ℕ, ◌+◌, ◌-◌, ◌*◌, ◌≤◌, ◌<◌}
use native.Mathlib.Omega.{arith}
use lib.ListN.{length, get_or, drop, replicate, length-append, get_or-append, drop_of_length-le}
use lib.Seq.{take_all}
use borrow.Author.Tests.{lt-ltb, le-ltb, ltb-false}
use Rattle.lists.specs.Over.{over}
use Rattle.answer.specs.Outcome.{Outcome, done, refused}
use Rattle.answer.specs.Checks.{first_fail}
use Rattle.answer.specs.Lent.{left}
use Rattle.answer.proofs.CheckLaws.{given, not_given, passed, done-passed}
use Rattle.block.specs.Open.{by_outcome}
use Rattle.pile.specs.Blocks.{blocks}
use Rattle.pile.specs.Lines.{too_long}
use Rattle.salvage.specs.Pile.{mended_pile, rebuilt_words, places, block_of, word_of, salvage_lines, salvaging}
use Rattle.salvage.proofs.Laws.{pile_blocks, places_mean, rebuilt-few}
use Rattle.print.specs.Lines.{feed, label, pair_line, rising, refused_line}
use Rattle.print.specs.Written.{Prints}
use Rattle.print.proofs.LineLaws.{label-few, pair_few, rising-same, rising-few}
use Rattle.salvaged_text.specs.Salvaged.{program_salvages, rebuilt_label, block_label, word_label, place_line, report, reported, salvaged_text, salvaged_bytes}

-- the line of place j + 1, as the loop reads it at j
pub place_at : (list : List ℕ) (j : ℕ) → pair_line block_label (get_or list (2 * j) 0) word_label (get_or list (2 * j + 1) 0) ≡ place_line list (j + 1)
unfolding place_line
place_at list j =
    let e : 2 * j ≡ 2 * (j + 1) - 1 - 1 = omega arith in
    let f : 2 * j + 1 ≡ 2 * (j + 1) - 1 = omega arith in
    ap₂ (λ (x y : ℕ). pair_line block_label (get_or list x 0) word_label (get_or list y 0)) e f

-- ---- how long it is
pub report-few : (n : ℕ) (list : List ℕ) → n ≤ 128 → ((j : ℕ) → 1 ≤ j → j ≤ n → (block_of list j ≤ 999) × (word_of list j ≤ 999)) → length (report n list) ≤ 2444
unfolding report place_line
report-few n list h low =
    omega (
      arith,
      length-append (label rebuilt_label n feed) (rising (place_line list) n),
      label-few rebuilt_label feed 2 n (omega arith),
      rising-few (place_line list) 19 n
          (λ j l u.
          let r = low j l u in
          omega (arith, pair_few block_label word_label 2 (block_of list j) 2 (word_of list j) (omega (arith, r.0)) (omega (arith, r.1)))),
    )

-- ---- a pile of more than 65,536 bytes, and one of at most so many
pub is-long : (pile : List ℕ) → 65536 < length pile → program_salvages pile ≡ refused 14 0 0
unfolding program_salvages
is-long pile h = given (too_long pile) [] (salvaging pile 256) (lt-ltb 65536 (length pile) h)

pub not-long : (pile : List ℕ) → length pile ≤ 65536 → program_salvages pile ≡ salvaging pile 256
unfolding program_salvages first_fail
not-long pile h = not_given (too_long pile) [] (salvaging pile 256) (le-ltb 65536 (length pile) h)

-- nothing is written, nothing is counted
none_printed : (old new : List ℕ) → new ≡ [] → Prints new old old 0
unfolding over
none_printed old new e = rw e (record { length-is = refl; bytes = refl; fits = omega arith; counts = refl })

-- ---- a pile that is refused
module _ (pile : List ℕ) (m a b : ℕ) (e : program_salvages pile ≡ refused m a b) where
  pub refusal-is : refused_line m a b ≡ salvaged_text pile
  unfolding salvaged_text
  refusal-is = sym (ap (λ (o : Outcome ℕ). reported o (places (rebuilt_words pile))) e)

  pub no_bytes : (new : List ℕ) → new ≡ by_outcome (program_salvages pile) (mended_pile pile) pile → Prints (salvaged_bytes pile) pile new 0
  unfolding salvaged_bytes
  no_bytes new is =
      let same : new ≡ pile = is ∙ ap (λ (o : Outcome ℕ). by_outcome o (mended_pile pile) pile) e in
      rw same (none_printed pile (salvaged_bytes pile) (ap (λ (o : Outcome ℕ). by_outcome o (mended_pile pile) []) e))

-- ---- a pile that is salvaged: n words are rebuilt
module _ (pile : List ℕ) (n : ℕ) (e : program_salvages pile ≡ done n) where
  accepted : (length pile ≤ 65536) × (salvaging pile 256 ≡ done n)
  unfolding program_salvages
  accepted =
      let r = done-passed (too_long pile ∷ []) (salvaging pile 256) n e in
      (ltb-false 65536 (length pile) (passed r.0).0, r.1)

  count : n ≡ length (rebuilt_words pile)
  unfolding salvaging
  count =
      let end : done (length (rebuilt_words pile)) ≡ done n =
      (done-passed (salvage_lines pile 256) (done (length (rebuilt_words pile))) n accepted.1).1 in
      let q : length (rebuilt_words pile) ≡ n = cc in
      sym q

  -- at most a word in each of 128 blocks
  pub few : n ≤ 128
  unfolding blocks
  few = omega (arith, count, accepted.0, rebuilt-few pile)

  long : length (places (rebuilt_words pile)) ≡ 2 * n
  long = (places_mean pile).0 ∙ ap (λ (k : ℕ). 2 * k) (sym count)

  pub bytes_printed : (new : List ℕ) → new ≡ by_outcome (program_salvages pile) (mended_pile pile) pile → Prints (salvaged_bytes pile) pile new (length new)
  unfolding salvaged_bytes over
  bytes_printed new is =
      let q : salvaged_bytes pile ≡ mended_pile pile = ap (λ (o : Outcome ℕ). by_outcome o (mended_pile pile) []) e in
      let size : length (mended_pile pile) ≡ length pile = (pile_blocks pile).0 in
      let now : new ≡ mended_pile pile = is ∙ ap (λ (o : Outcome ℕ). by_outcome o (mended_pile pile) pile) e in
      rw (q, now)
      (record {
        length-is = refl;
        bytes = sym (ap (λ (l : List ℕ). mended_pile pile ++ l) (drop_of_length-le pile {i = length (mended_pile pile)} (omega (arith, size))) ∙ append-nil (mended_pile pile));
        fits = omega arith;
        counts = sym (ap length (take_all (length (mended_pile pile)) (mended_pile pile) (omega arith)));
      })

  -- ---- the list that was lent
  module _ (list : List ℕ) (is : list ≡ left (program_salvages pile) (places (rebuilt_words pile)) (replicate 256 0)) where
    front : list ≡ places (rebuilt_words pile) ++ drop (length (places (rebuilt_words pile))) (replicate 256 0)
    unfolding over
    front = is ∙ ap (λ (o : Outcome ℕ). left o (places (rebuilt_words pile)) (replicate 256 0)) e

    at_place : (k : ℕ) → k < 2 * n → get_or list k 0 ≡ get_or (places (rebuilt_words pile)) k 0
    at_place k l = rw front (get_or-append (places (rebuilt_words pile)) _ 0 k (omega (arith, long)))

    line_same : (j : ℕ) → 1 ≤ j → j ≤ n → place_line list j ≡ place_line (places (rebuilt_words pile)) j
    unfolding place_line
    line_same j l u =
        ap₂ (λ (x y : ℕ). pair_line block_label x word_label y) (at_place (2 * j - 1 - 1) (omega arith)) (at_place (2 * j - 1) (omega arith))

    pub report-is : report n list ≡ salvaged_text pile
    unfolding report salvaged_text
    report-is =
        ap (λ (l : List ℕ). label rebuilt_label n feed ++ l) (rising-same (place_line list) (place_line (places (rebuilt_words pile))) n line_same)
        ∙ sym (ap (λ (o : Outcome ℕ). reported o (places (rebuilt_words pile))) e)

    pub report-fits : length (report n list) ≤ 2444
    unfolding blocks
    report-fits =
        report-few n list few
        (λ j l u.
        let r = (places_mean pile).1 j l (omega (arith, count)) in
        (omega (arith, accepted.0, at_place (2 * j - 1 - 1) (omega arith), r.0.1), omega (arith, at_place (2 * j - 1) (omega arith), r.2)))
