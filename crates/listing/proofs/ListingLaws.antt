-- The listing: what the loops write at each turn, how long it is, and that the table of rows says what the holdings say.
-- Assumes nothing.
use mathlib.Core.Path.{◌≡◌, refl, ap, ap₂, ◌∙◌}
use mathlib.Core.Bool.{Bool, true, false, cond, not}
use mathlib.Core.List.{List, [], ◌∷◌, ◌++◌, append-nil}
use native.Mathlib.Numerals.{add-one}
use native.Mathlib.Omega.{arith}
use Prim.Native.Nat.{ℕ, suc, ◌+◌, ◌-◌, ◌*◌, ◌^◌, ◌≤◌, ◌<◌}
use lib.ListN.{length, take, get_or, length-append}
use lib.Seq.{length-take-le, get_or-take}
use Rattle.answer.specs.Outcome.{done}
use Rattle.lists.specs.Places.{those}
use Rattle.lists.proofs.ThoseLaws.{at_in, in_those, those-few, those-same}
use Rattle.planning.specs.Sets.{member}
use Rattle.planning.specs.Groups.{group_of, holds, marked}
use Rattle.planning.specs.Policy.{Policy}
use Rattle.planning.specs.Planned.{planned, planned_rows}
use Rattle.planning.proofs.Laws.{accepted-listed, some-piece, rows_mean}
use Rattle.print.specs.Lines.{spaced, spaced_all, feed, label, rising}
use Rattle.print.proofs.LineLaws.{spaced-append, all-few, label-few, pair_few, rising-same, rising-few}
use Rattle.listing.specs.Inner.{marked_numbers, marks_line}
use Rattle.listing.specs.Listing.{people_label, pieces_label, piece_label, missing_label, holder_label, has_label, first_line, piece_line, holder_line, listing_by, listing}

-- ---- one number more, one line more
abbrev pub marked_part : (ℕ → Bool) → ℕ → List ℕ
marked_part t i = spaced_all (cond (t (i + 1)) ((i + 1) ∷ []) [])

pub marked_grows : (t : ℕ → Bool) (i : ℕ) → spaced_all (those t 1 (i + 1)) ≡ spaced_all (those t 1 i) ++ marked_part t i
unfolding those
marked_grows t i =
    let e : 1 + i ≡ suc i = omega arith in
    rw (add-one i) (spaced-append (those t 1 i) (cond (t (1 + i)) ((1 + i) ∷ []) [])
    ∙ ap (λ (n : ℕ). spaced_all (those t 1 i) ++ spaced_all (cond (t n) (n ∷ []) [])) e)

pub marked_yes : (t : ℕ → Bool) (i : ℕ) → t (i + 1) ≡ true → marked_part t i ≡ spaced (i + 1)
unfolding spaced_all
marked_yes t i e = rw e (append-nil (spaced (i + 1)))

pub marked_no : (t : ℕ → Bool) (i : ℕ) → t (i + 1) ≡ false → marked_part t i ≡ []
unfolding spaced_all
marked_no t i e = rw e

-- ---- how long it is
those-short : (t : ℕ → Bool) (w n : ℕ) → n < 10 ^ suc w → length (spaced_all (those t 1 n)) ≤ (w + 2) * length (those t 1 n)
those-short t w n h =
    all-few w (those t 1 n) (λ i l. omega (arith, (in_those t 1 n (get_or (those t 1 n) i 0) (at_in 0 (those t 1 n) i l)).1))

first_short : (n k : ℕ) → n ≤ 8 → k ≤ 70 → length (first_line n k) ≤ 19
unfolding first_line
first_short n k p q = omega (arith, pair_few people_label pieces_label 0 n 1 k (omega arith) (omega arith))

piece-short : (t : ℕ → Bool) (n j : ℕ) → n ≤ 8 → j ≤ 70 → length (piece_line t n j) ≤ 33
unfolding piece_line
piece-short t n j p q =
    omega (
      arith,
      length-append (label piece_label j missing_label ++ spaced_all (those t 1 n)) feed,
      length-append (label piece_label j missing_label) (spaced_all (those t 1 n)),
      label-few piece_label missing_label 1 j (omega arith),
      those-short t 0 n (omega arith),
      those-few t 1 n,
    )

holder-short : (t : ℕ → Bool) (k i : ℕ) → k ≤ 70 → i ≤ 8 → length (holder_line t k i) ≤ 223
unfolding holder_line
holder-short t k i p q =
    omega (
      arith,
      length-append (label holder_label i has_label ++ spaced_all (those t 1 k)) feed,
      length-append (label holder_label i has_label) (spaced_all (those t 1 k)),
      label-few holder_label has_label 0 i (omega arith),
      those-short t 1 k (omega arith),
      those-few t 1 k,
    )

-- no listing is longer than 4,113 bytes
pub listing-short : (lacks has : ℕ → ℕ → Bool) (n k : ℕ) → n ≤ 8 → k ≤ 70 → length (listing_by lacks has n k) ≤ 4113
unfolding listing_by
listing-short lacks has n k p q =
    let pieces = rising (λ j. piece_line (lacks j) n j) k in
    let holders = rising (λ i. holder_line (has i) k i) n in
    omega (
      arith,
      length-append (first_line n k ++ pieces) holders,
      length-append (first_line n k) pieces,
      first_short n k p q,
      rising-few (λ j. piece_line (lacks j) n j) 33 k (λ j f l. piece-short (lacks j) n j p (omega arith)),
      rising-few (λ i. holder_line (has i) k i) 223 n (λ i f l. holder-short (has i) k i q (omega arith)),
    )

-- ---- the same tests give the same listing
same-listing : (lacks has lacks' has' : ℕ → ℕ → Bool) (n k : ℕ)
    → ((i j : ℕ) → 1 ≤ i → i ≤ n → 1 ≤ j → j ≤ k → lacks j i ≡ lacks' j i)
    → ((i j : ℕ) → 1 ≤ i → i ≤ n → 1 ≤ j → j ≤ k → has i j ≡ has' i j)
    → listing_by lacks has n k ≡ listing_by lacks' has' n k
unfolding listing_by piece_line holder_line
same-listing lacks has lacks' has' n k p q =
    ap₂ (λ (pieces holders : List ℕ). first_line n k ++ pieces ++ holders)
    (rising-same (λ j. piece_line (lacks j) n j) (λ j. piece_line (lacks' j) n j) k
    (λ j l m. ap (λ (ns : List ℕ). label piece_label j missing_label ++ spaced_all ns ++ feed)
    (those-same (lacks j) (lacks' j) 1 n (λ i a b. p i j a (omega arith) l m))))
    (rising-same (λ i. holder_line (has i) k i) (λ i. holder_line (has' i) k i) n
    (λ i l m. ap (λ (ns : List ℕ). label holder_label i has_label ++ spaced_all ns ++ feed)
    (those-same (has i) (has' i) 1 k (λ j a b. q i j l m a (omega arith)))))

twice : (b : Bool) → b ≡ not (not b)
twice true = refl
twice false = refl

-- ---- a line by its marks
numbers-same : (marks : List Bool) (t : ℕ → Bool) (n : ℕ) → length marks ≡ n → ((i : ℕ) → i < n → get_or marks i false ≡ t (i + 1)) → marked_numbers marks ≡ those t 1 n
numbers-same marks t n l e =
    ap (those (λ i. get_or marks (i - 1) false) 1) l
    ∙ those-same (λ i. get_or marks (i - 1) false) t 1 n
    (λ i a b. let k : i - 1 + 1 ≡ i = omega arith in e (i - 1) (omega arith) ∙ ap t k)

pub row_line : (row : List Bool) (people j : ℕ) → people ≤ length row
    → marks_line piece_label j missing_label (take people row) ≡ piece_line (λ i. get_or row (i - 1) false) people j
unfolding piece_line
row_line row people j h =
    ap (λ (ns : List ℕ). label piece_label j missing_label ++ spaced_all ns ++ feed)
    (numbers-same (take people row) (λ i. get_or row (i - 1) false) people (length-take-le people row h)
    (λ i l. let k : i + 1 - 1 ≡ i = omega arith in rw k (get_or-take people row i false l)))

pub column_line : (rows : List (List Bool)) (has : List Bool) (pieces i : ℕ) → length has ≡ 70 → pieces ≤ 70
    → ((j : ℕ) → j < 70 → get_or has j false ≡ not (get_or (get_or rows j []) i false))
    → marks_line holder_label (i + 1) has_label (take pieces has) ≡ holder_line (λ j. not (marked rows j (i + 1))) pieces (i + 1)
unfolding holder_line
column_line rows has pieces i l h e =
    ap (λ (ns : List ℕ). label holder_label (i + 1) has_label ++ spaced_all ns ++ feed)
    (numbers-same (take pieces has) (λ j. not (marked rows j (i + 1))) pieces (length-take-le pieces has (omega arith))
    (λ j m.
    let k : j + 1 - 1 ≡ j = omega arith in
    let n : i + 1 - 1 ≡ i = omega arith in
    get_or-take pieces has j false m ∙ rw (k, n) (e j (omega arith))))

-- ---- the table of an accepted policy gives its listing
pub table-listing : (p : Policy) (k : ℕ) → planned p ≡ done k
    → let rows = planned_rows p in
    listing_by (marked rows) (λ i j. not (marked rows j i)) p.people k ≡ listing p.people p.required
unfolding listing holds
table-listing p k e =
    let rows = planned_rows p in
    let few = (accepted-listed p k e).few in
    let same : (i j : ℕ) → 1 ≤ i → i ≤ p.people → 1 ≤ j → j ≤ k → marked rows j i ≡ member i (group_of p.people p.required j) =
    λ i j l m a b. (rows_mean p k e i j l (omega arith) a).0 b
    in
    same-listing (marked rows) (λ i j. not (marked rows j i)) (λ j i. not (holds p.people p.required i j)) (holds p.people p.required) p.people k
    (λ i j l m a b. same i j l m a b ∙ twice (member i (group_of p.people p.required j)))
    (λ i j l m a b. ap not (same i j l m a b))
    ∙ ap (λ (c : ℕ). listing_by (λ j i. not (holds p.people p.required i j)) (holds p.people p.required) p.people c) (some-piece p k e).0
