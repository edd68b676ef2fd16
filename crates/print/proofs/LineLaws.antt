-- Numbers with a space before each, lines one after another, and how long they are.
-- Assumes nothing.
use mathlib.Core.Path.{◌≡◌, refl, sym, ap, ap₂, subst, ◌∙◌}
use mathlib.Core.List.{List, [], ◌∷◌, ◌++◌, append_assoc, append-nil}
use native.Mathlib.Nat.{le_refl}
use native.Mathlib.Numerals.{add-one}
use native.Mathlib.Omega.{arith}
use Prim.Native.Nat.{ℕ, zero, suc, ◌+◌, ◌-◌, ◌*◌, ◌^◌, ◌≤◌, ◌<◌, suc-le-suc, zero-le}
use lib.ListN.{length, take, drop, get_or, length-append, take-append-drop}
use lib.Seq.{take-suc}
use Rattle.answer.specs.declared.Kind.{Kind}
use Rattle.answer.specs.declared.Kind.TheVariants as kind
use Rattle.answer.specs.Outcome.{number}
use Rattle.print.specs.declared.page.Page.{Page}
use Rattle.print.specs.Inner.{Room, Writes}
use Rattle.print.specs.Lines.{spaced, spaced_all, feed, label, pair_line, rising, refused_word, secret_word, refused_line, secret_line}
use Rattle.print.proofs.DecimalLaws.{few}
use Rattle.print.proofs.WrittenLaws.{◌then◌, room-first, room_next, retold}

pub spaced-append : (ns ms : List ℕ) → spaced_all (ns ++ ms) ≡ spaced_all ns ++ spaced_all ms
unfolding spaced_all
spaced-append [] ms = refl
spaced-append (n ∷ ns) ms = ap (λ (l : List ℕ). spaced n ++ l) (spaced-append ns ms) ∙ sym (append_assoc (spaced n) (spaced_all ns) (spaced_all ms))

spaced_end : (ns : List ℕ) (n : ℕ) → spaced_all (ns ++ n ∷ []) ≡ spaced_all ns ++ spaced n
unfolding spaced_all
spaced_end ns n = spaced-append ns (n ∷ []) ∙ ap (λ (l : List ℕ). spaced_all ns ++ l) (append-nil (spaced n))

-- ---- a loop that writes the numbers of a list
module _ (ns : List ℕ) (i : ℕ) (h : i < length ns) where
  one_more : spaced_all (take (i + 1) ns) ≡ spaced_all (take i ns) ++ spaced (get_or ns i 0)
  one_more =
      let e : i + 1 ≡ suc i = omega arith in
      rw (e, take-suc ns i 0 h) (spaced_end (take i ns) (get_or ns i 0))

  -- the room for all is room for the next
  room_so_far : {old : Page} → Room (spaced_all ns) old → Room (spaced_all (take i ns) ++ spaced (get_or ns i 0)) old
  room_so_far {old} r =
      let e : spaced_all ns ≡ (spaced_all (take i ns) ++ spaced (get_or ns i 0)) ++ spaced_all (drop (i + 1) ns) =
      ap spaced_all (sym (take-append-drop (i + 1) ns)) ∙ spaced-append (take (i + 1) ns) (drop (i + 1) ns)
      ∙ ap (λ (l : List ℕ). l ++ spaced_all (drop (i + 1) ns)) one_more
      in
      room-first (spaced_all (take i ns) ++ spaced (get_or ns i 0)) (spaced_all (drop (i + 1) ns)) (subst (λ (l : List ℕ). Room l old) e r)

  module _ {old mid : Page} (w : Writes (spaced_all (take i ns)) old mid) (r : Room (spaced_all ns) old) where
    pub words-room : Room (spaced (get_or ns i 0)) mid
    words-room = room_next (spaced (get_or ns i 0)) w (room_so_far r)

    pub words_turn : {now : Page} → Writes (spaced (get_or ns i 0)) mid now → Writes (spaced_all (take (i + 1) ns)) old now
    words_turn v = retold (sym one_more) (◌then◌ w v (room_so_far r))

-- ---- lines one after another
-- index i stands for the number i + 1
pub here : (i : ℕ) → i + 1 - 1 ≡ i
here i = omega arith

pub rising_grows : (f : ℕ → List ℕ) (i : ℕ) → rising f (i + 1) ≡ rising f i ++ f (i + 1)
unfolding rising
rising_grows f i = rw (add-one i)

pub rising-same : (f g : ℕ → List ℕ) (n : ℕ) → ((i : ℕ) → 1 ≤ i → i ≤ n → f i ≡ g i) → rising f n ≡ rising g n
unfolding rising
rising-same f g zero h = refl
rising-same f g (suc n) h = ap₂ ◌++◌ (rising-same f g n (λ i l m. h i l (omega arith))) (h (suc n) (omega arith) (le_refl (suc n)))

-- ---- how long they are
pub spaced-few : (k n : ℕ) → n < 10 ^ suc k → length (spaced n) ≤ k + 2
unfolding spaced
spaced-few k n h = omega (arith, few 20 k n h)

-- numbers below 10 ^ (k + 1)
pub all-few : (k : ℕ) (ns : List ℕ) → ((i : ℕ) → i < length ns → get_or ns i 0 < 10 ^ suc k) → length (spaced_all ns) ≤ (k + 2) * length ns
unfolding spaced_all
all-few k [] h = zero-le
all-few k (n ∷ ns) h =
    omega (arith, length-append (spaced n) (spaced_all ns), spaced-few k n (h 0 (suc-le-suc zero-le)), all-few k ns (λ i l. h (suc i) (suc-le-suc l)))

pub label-few : (word more : List ℕ) (w n : ℕ) → n < 10 ^ suc w → length (label word n more) ≤ length word + (w + 2) + length more
unfolding label
label-few word more w n h = omega (arith, length-append (word ++ spaced n) more, length-append word (spaced n), spaced-few w n h)

pub pair_few : (word more : List ℕ) (v n w m : ℕ) → n < 10 ^ suc v → m < 10 ^ suc w
    → length (pair_line word n more m) ≤ length word + (v + 2) + length more + (w + 3)
unfolding pair_line
pair_few word more v n w m h k =
    omega (
      arith,
      length-append (label word n more ++ spaced m) feed,
      length-append (label word n more) (spaced m),
      label-few word more v n h,
      spaced-few w m k,
    )

pub rising-few : (f : ℕ → List ℕ) (most n : ℕ) → ((i : ℕ) → 1 ≤ i → i ≤ n → length (f i) ≤ most) → length (rising f n) ≤ most * n
unfolding rising
rising-few f most zero h = zero-le
rising-few f most (suc n) h =
    omega (arith, length-append (rising f n) (f (suc n)), rising-few f most n (λ i l m. h i l (omega arith)), h (suc n) (omega arith) (le_refl (suc n)))

number-few : (k : Kind) → number k < 10 ^ 20
number-few kind.People = omega arith
number-few kind.LongList = omega arith
number-few kind.Stranger = omega arith
number-few kind.Nobody = omega arith
number-few kind.Open = omega arith
number-few kind.Clash = omega arith
number-few kind.Deal = omega arith
number-few kind.Holder = omega arith
number-few kind.Secret = omega arith
number-few kind.Random = omega arith
number-few kind.Room = omega arith
number-few kind.Torn = omega arith
number-few kind.Long = omega arith
number-few kind.Unread = omega arith
number-few kind.Check = omega arith
number-few kind.Header = omega arith
number-few kind.Mixed = omega arith
number-few kind.Conflict = omega arith
number-few kind.Short = omega arith
number-few kind.Text = omega arith
number-few kind.Lone = omega arith
number-few kind.NotKey = omega arith
number-few kind.Unlike = omega arith
number-few kind.Year = omega arith
number-few kind.NoClient = omega arith
number-few kind.Busy = omega arith
number-few kind.Full = omega arith
number-few kind.Closed = omega arith
number-few kind.Rows = omega arith

-- every usize is below 10 ^ 20
pub refused-few : (k : Kind) (a b : ℕ) → a < 18446744073709551616 → b < 18446744073709551616 → length (refused_line (number k) a b) ≤ 71
unfolding refused_line
refused-few k a b q r =
    let m = number k in
    omega (
      arith,
      length-append (refused_word ++ spaced m ++ spaced a ++ spaced b) feed,
      length-append (refused_word ++ spaced m ++ spaced a) (spaced b),
      length-append (refused_word ++ spaced m) (spaced a),
      length-append refused_word (spaced m),
      spaced-few 19 m (number-few k),
      spaced-few 19 a (omega arith),
      spaced-few 19 b (omega arith),
    )

-- 16 words below 2 ^ 16
pub secret-few : (words : List ℕ) → length words ≤ 16 → ((i : ℕ) → i < length words → get_or words i 0 < 65536) → length (secret_line words) ≤ 103
unfolding secret_line
secret-few words h l =
    omega (
      arith,
      length-append (secret_word ++ spaced_all words) feed,
      length-append secret_word (spaced_all words),
      all-few 4 words (λ i k. omega (arith, l i k)),
    )
