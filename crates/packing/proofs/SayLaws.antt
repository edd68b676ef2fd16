-- What packing and unpacking say at each of their tests, and what they leave of what was lent.
-- Assumes nothing.
use mathlib.Core.Path.{◌≡◌, refl, sym, ap, ◌∙◌}
use mathlib.Core.Logic.{◌≢◌}
use mathlib.Core.Bool.{Bool, true, false, not, cond}
use mathlib.Core.List.{List, [], ◌∷◌, ◌++◌}
use Prim.Native.Nat.{ℕ, zero, suc, ◌≤◌, ◌<◌}
use native.Mathlib.Omega.{arith}
use borrow.Author.Tests.{eqb-true, eq-eqb, ne_eqb, lt-ltb, le-ltb, not-false}
use lib.Dec.{ltb, eqb}
use lib.ListN.{length, drop, replicate}
use Rattle.std.specs.Prelude.{⊤, Option, Some, None, Result, Ok, Err}
use Rattle.answer.specs.declared.Refusal.{Refusal}
use Rattle.answer.specs.Outcome.{Outcome, done, refused, number, outcome_by, checked}
use Rattle.answer.specs.Checks.{first_fail}
use Rattle.lists.specs.Places.{at, placed}
use Rattle.lists.specs.Over.{over}
use Rattle.answer.specs.Lent.{no_room, left}
use Rattle.answer.proofs.LentLaws.{room-refused, room-given}
use Rattle.lists.proofs.Truth.{never}
use Rattle.answer.proofs.CheckLaws.{given, not_given, passed_one, passed_none, passed, passed-done, done-passed, stops, goes_on}
use Rattle.lists.proofs.FirstLaws.{none_in, first-all, found_none, none_found, placed_some, placed_found, placed_none}
use Rattle.packing.specs.Key.{KeyWords, packed, unpacked, most, wrong_at, first_wrong, pack_lines, packing, packed_words, unpacking, unpacked_into, not_sixteen, not_key}
use Rattle.packing.specs.Laws as law
use Rattle.packing.proofs.PackLaws.{packed-words, unpacked_key, key_back, words_back}

-- ---- packing
pub says-secret : (key : List ℕ) → length key ≢ 16 → packing key ≡ refused 10 0 0
unfolding packing
says-secret key h = given (not_sixteen key) [] (done 10) (ap not (ne_eqb _ 16 h))

pub says-packed : (key : List ℕ) → length key ≡ 16 → packing key ≡ done 10
unfolding packing first_fail
says-packed key h = not_given (not_sixteen key) [] (done 10) (ap not (eq-eqb _ 16 h))

pub words-none : (key : List ℕ) → length key ≢ 16 → packed_words key ≡ 0 ∷ 0 ∷ 0 ∷ 0 ∷ 0 ∷ 0 ∷ 0 ∷ 0 ∷ 0 ∷ 0 ∷ []
unfolding packed_words
words-none key h = rw (ne_eqb (length key) 16 h)

pub words-made : (key : List ℕ) → length key ≡ 16 → packed_words key ≡ packed key
unfolding packed_words
words-made key h = rw (eq-eqb (length key) 16 h)

-- a result is no refusal
apart : (v m a b : ℕ) → done v ≡ refused m a b → ◌≡◌ {A = ℕ} 0 1
apart v m a b e = cc

-- a key that is refused has not sixteen bytes, and comes to ten zeros
zeros : (key : List ℕ) (m a b : ℕ) → packing key ≡ refused m a b → packed_words key ≡ replicate 10 0
zeros key m a b e = by (eqb (length key) 16) refl where
  by : (t : Bool) → eqb (length key) 16 ≡ t → packed_words key ≡ replicate 10 0
  by true h = absurd (omega (arith, apart 10 m a b (sym (says-packed key (eqb-true (length key) 16 h)) ∙ e)))
  by false h = words-none key (λ n. never h (eq-eqb (length key) 16 n))

-- so it does by any result that says what packing says, and is a refusal
pub comes-to-zeros : (key : List ℕ) (x : Result (List ℕ) Refusal) {r : Refusal} → outcome_by (λ (words : List ℕ). 10) x ≡ packing key → x ≡ Err r
    → replicate 10 0 ≡ packed_words key
comes-to-zeros key x {r} e q = sym (zeros key (number r.kind) r.a r.b (sym e ∙ ap (outcome_by (λ (words : List ℕ). 10)) q))

-- where packing gives a result, it is 10, and the words are the key's
pub packs : (key : List ℕ) (v : ℕ) → packing key ≡ done v → (packing key ≡ done 10) × (packed_words key ≡ packed key)
unfolding packing
packs key v e =
    let r = done-passed (pack_lines key) (done 10) v e in
    (e ∙ sym r.1, words-made key (eqb-true (length key) 16 (not-false _ (passed r.0).0)))

-- ---- NOTKEY
test_small : (m v : ℕ) → ltb m v ≡ false → v ≤ m
test_small m v e = let n : m < v → ⊥ = λ h. never e (lt-ltb m v h) in omega arith

most-small : (i v : ℕ) → v ≤ most i → v ≤ 8191
most-small i v h = by (eqb i 1) h where
  by : (b : Bool) → v ≤ cond b 2047 8191 → v ≤ 8191
  by true h = omega arith
  by false h = h

pub no_wrong : (words : List ℕ) → length words ≡ 10 → first_wrong words ≡ 0 → KeyWords words
unfolding first_wrong
no_wrong words n z =
    let small : (i : ℕ) → 1 ≤ i → i < 11 → wrong_at words i ≡ false = none_in (wrong_at words) 1 11 (omega arith) z in
    record {
      ten = n;
      first = test_small 2047 (at words 1) (small 1 (omega arith) (omega arith));
      others = λ i p q. most-small i (at words i) (test_small (most i) (at words i) (small i p (omega arith)));
    }

eqb_ten : (words : List ℕ) → not (eqb (length words) 10) ≡ false → length words ≡ 10
eqb_ten words e =
    let n : length words < 10 → ⊥ = λ h. never e (ap not (ne_eqb (length words) 10 (λ q. omega arith))) in
    let m : 10 < length words → ⊥ = λ h. never e (ap not (ne_eqb (length words) 10 (λ q. omega arith))) in
    omega arith

right-most : (words : List ℕ) → KeyWords words → (k : ℕ) → 1 ≤ k → k < 11 → at words k ≤ most k
right-most words w zero p q = omega arith
right-most words w (suc zero) p q = w.first
right-most words w (suc (suc k)) p q = rw (ne_eqb (suc (suc k)) 1 (λ e. omega arith)) (w.others (suc (suc k)) p (omega arith))

right-word : (words : List ℕ) → KeyWords words → (k : ℕ) → 1 ≤ k → k < 11 → wrong_at words k ≡ false
right-word words w k p q = le-ltb (most k) (at words k) (right-most words w k p q)

-- ---- what the check of the words says
right-lines : (words : List ℕ) → length words ≡ 10 → first_wrong words ≡ 0 → first_fail {A = ℕ} (not_key words) (done 0) ≡ done 0
right-lines words n z = passed-done (not_key words) (done 0) (passed_one (ap not (eq-eqb _ 10 n)) (passed_one (found_none z) passed_none))

module _ (words : List ℕ) where
  pub says-few : length words ≢ 10 → first_fail {A = ℕ} (not_key words) (done 0) ≡ refused 23 0 0
  says-few h = given _ _ (done 0) (ap not (ne_eqb _ 10 h))

  module _ (n : length words ≡ 10) {r : Option ℕ} (e : r ≡ placed (first_wrong words)) where
    pub says_wrong : {i : ℕ} → r ≡ Some i → first_fail {A = ℕ} (not_key words) (done 0) ≡ refused 23 i 0
    says_wrong q =
        not_given _ _ (done 0) (ap not (eq-eqb _ 10 n))
        ∙ given _ _ (done 0) (placed_found (first_wrong words) e q)
        ∙ ap (λ (a : ℕ). refused 23 a 0) (placed_some (first_wrong words) e q)

    pub says-right : r ≡ None → first_fail {A = ℕ} (not_key words) (done 0) ≡ done 0
    says-right q = right-lines words n (placed_none (first_wrong words) e q)

none_is_wrong : (words : List ℕ) → KeyWords words → first_wrong words ≡ 0
unfolding first_wrong
none_is_wrong words w = first-all (wrong_at words) 1 11 (right-word words w)

pub not_key_means : law.NotKeyMeans
not_key_means words = (
  λ p. let a = passed p in let b = passed a.1 in no_wrong words (eqb_ten words a.0) (none_found _ b.0),
  λ w. passed_one (ap not (eq-eqb _ 10 w.ten)) (passed_one (found_none (none_is_wrong words w)) passed_none),
)

-- ---- unpacking: what the check of the words says, and then ROOM
module _ (words : List ℕ) (room : ℕ) {x : Result ⊤ Refusal} (says : checked x ≡ first_fail (not_key words) (done 0)) where
  pub says-refused : {r : Refusal} → x ≡ Err r → unpacking words room ≡ refused (number r.kind) r.a r.b
  unfolding unpacking
  says-refused q = sym (stops (not_key words) says (no_room 16 16 room ∷ []) (done 16) q)

  module _ {u : ⊤} (q : x ≡ Ok u) where
    pub right-words : KeyWords words
    right-words = (not_key_means words).0 (done-passed (not_key words) (done 0) 0 (sym says ∙ ap checked q)).0

    past : unpacking words room ≡ first_fail (no_room 16 16 room ∷ []) (done 16)
    unfolding unpacking
    past = goes_on (not_key words) says (no_room 16 16 room ∷ []) (done 16) q

    pub says-room : room < 16 → unpacking words room ≡ refused 12 16 0
    says-room h = past ∙ room-refused 16 16 room (done 16) h

    pub says-done : 16 ≤ room → unpacking words room ≡ done 16
    says-done h = past ∙ room-given 16 16 room (done 16) h

-- what is lent stays, or the bytes stand over its front
pub lent_as : (words old : List ℕ) (p : Outcome ℕ) → unpacking words (length old) ≡ p → unpacked_into words old ≡ left p (unpacked words) old
unfolding unpacked_into
lent_as words old p e = ap (λ (x : Outcome ℕ). left x (unpacked words) old) e

pub lent-refused : (words old : List ℕ) (m a b : ℕ) → unpacking words (length old) ≡ refused m a b → old ≡ unpacked_into words old
lent-refused words old m a b e = sym (lent_as words old (refused m a b) e)

pub lent-written : (words old bytes : List ℕ) → bytes ≡ unpacked words → length bytes ≡ 16 → unpacking words (length old) ≡ done 16
    → bytes ++ drop 16 old ≡ unpacked_into words old
unfolding over
lent-written words old bytes e n d =
    ap (λ (k : ℕ). bytes ++ drop k old) (sym n) ∙ ap (λ (l : List ℕ). over l old) e ∙ sym (lent_as words old (done 16) d)

-- ---- one call after the other
pub unpacks : (words : List ℕ) (room : ℕ) → KeyWords words → 16 ≤ room → unpacking words room ≡ done 16
unpacks words room w h =
    let says = right-lines words w.ten (none_is_wrong words w) in
    says-done words room {x = Ok tt} (sym says) refl h

pub pack_unpack : law.PackUnpack
pack_unpack key out k h =
    let e = words-made key k.sixteen in
    let said = unpacks (packed key) (length out) (packed-words key k) h in (
      says-packed key k.sixteen,
      ap (λ (x : List ℕ). unpacking x (length out)) e ∙ said,
      ap (λ (x : List ℕ). unpacked_into x out) e ∙ lent_as (packed key) out (done 16) said ∙ ap (λ (x : List ℕ). over x out) (key_back key k),
    )

pub unpack_pack : law.UnpackPack
unpack_pack words out w h =
    let n = (unpacked_key words w).sixteen in
    (unpacks words (length out) w h, says-packed (unpacked words) n, words-made (unpacked words) n ∙ words_back words w)
