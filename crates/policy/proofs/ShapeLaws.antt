-- What a readable text looks like: each of its lines is written from a set, and its first from a digit.
-- Assumes nothing.
use borrow.Author.Tests.{ltb-false, leb-true, eqb-true}
use mathlib.Core.Path.{◌≡◌, refl, sym, ap, ap₂, subst, ◌∙◌}
use mathlib.Core.Bool.{Bool, true, false, cond, ◌&&◌, false≢true}
use mathlib.Core.List.Memᴰ
use mathlib.Core.List.{List, [], ◌∷◌, ◌++◌, Memᴰ}
use mathlib.Core.Logic.{⊎_elim}
use native.Mathlib.Omega.{arith}
use Prim.Native.Nat.{ℕ, suc, ◌-◌, ◌≤◌, ◌<◌}
use lib.Dec.{eqb, leb}
use lib.ListN.{length, drop, get_or}
use Rattle.answer.specs.Outcome.{done}
use Rattle.lists.proofs.FirstLaws.{none_in, none_found}
use Rattle.answer.proofs.CheckLaws.{done-passed, passed}
use Rattle.lists.proofs.Truth.{never, both}
use Rattle.print.specs.Decimal.{digit}
use Rattle.print.specs.Lines.{feed}
use Rattle.planning.specs.Policy.{Policy}
use Rattle.std.specs.Prelude.{Option, Some, None}
use Rattle.policy.specs.declared.Entry.{Entry}
use Rattle.policy.specs.declared.Entry.TheVariants.{Need, Bar}
use Rattle.policy.specs.Policy.{in_front, lines, begins, people_word, pick_found, one_digit, people_in, need_word, bar_word, members, pick_told, needs, bars, line_says}
use Rattle.policy.specs.Policy.{is_nothing, number_in, is_bad, add_need, add_bar, required_in, forbidden_in, bad_at, bad_line, policy_in, read_policy}
use Rattle.policy.specs.Laws.{set_of, written_line, written_lines, people_line, written_text, required_among, forbidden_among, Named, Written, EntryLine}
use Rattle.policy.proofs.LinesLaws.{says-need, says-bar}
use Rattle.policy.proofs.WritingLaws.{said_by, add_required, add_forbidden}
use Rattle.policy.proofs.BadLaws.{none-behind}
use Rattle.policy.proofs.MembersLaws.{no_number, members_shape}

-- ---- a text is its lines
joined : List (List ℕ) → List ℕ
joined [] = []
joined (l ∷ ls) = l ++ joined ls

joined-front : (b : ℕ) (ls : List (List ℕ)) → joined (in_front b ls) ≡ b ∷ joined ls
unfolding joined
joined-front b [] = refl
joined-front b (l ∷ ls) = refl

joined_by : (t : Bool) (b : ℕ) (text : List ℕ) → joined (lines text) ≡ text → joined (cond t ((b ∷ []) ∷ lines text) (in_front b (lines text))) ≡ b ∷ text
unfolding joined
joined_by true b text h = ap (λ (l : List ℕ). b ∷ l) h
joined_by false b text h = joined-front b (lines text) ∙ ap (λ (l : List ℕ). b ∷ l) h

joined-lines : (text : List ℕ) → joined (lines text) ≡ text
unfolding joined lines
joined-lines [] = refl
joined-lines (b ∷ text) = joined_by (eqb b 10) b text (joined-lines text)

-- ---- a line that begins with a word
begins_by : (t : Bool) (b w : ℕ) (word line : List ℕ) → eqb b w ≡ t → (begins word line ≡ true → line ≡ word ++ drop (length word) line)
    → cond t (begins word line) false ≡ true → b ∷ line ≡ w ∷ (word ++ drop (length word) line)
begins_by true b w word line e f h = ap₂ ◌∷◌ (eqb-true b w e) (f h)
begins_by false b w word line e f h = absurd (false≢true h)

begins-means : (word line : List ℕ) → begins word line ≡ true → line ≡ word ++ drop (length word) line
unfolding begins
begins-means [] line h = refl
begins-means (w ∷ word) [] h = absurd (false≢true h)
begins-means (w ∷ word) (b ∷ line) h = begins_by (eqb b w) b w word line refl (begins-means word line) h

-- ---- what a line says, back to the line
-- the line is that of the entry, and says its set
pub record Told (l : List ℕ) : Type 0 where
  pub line : EntryLine l
  pub says : line_says l ≡ said_by line.entry

told_by : (l : List ℕ) (t u : Bool) (f g : Option ℕ) → begins need_word l ≡ t → begins bar_word l ≡ u
    → members 48 0 (drop 4 l) ≡ f → members 48 0 (drop 3 l) ≡ g → is_bad (pick_told t (needs f) (pick_told u (bars g) None)) ≡ false → Told l
unfolding written_line
told_by l true u (Some s) g p q r v h =
    let m = members_shape (drop 4 l) s r in
    record {
      line = record { entry = Need s; named = m.0; written = begins-means need_word l p ∙ ap (λ (x : List ℕ). need_word ++ x) m.1 };
      says = says-need l p ∙ ap needs r;
    }
told_by l true u None g p q r v h = absurd (never h refl)
told_by l false true f (Some s) p q r v h =
    let m = members_shape (drop 3 l) s v in
    record {
      line = record { entry = Bar s; named = m.0; written = begins-means bar_word l q ∙ ap (λ (x : List ℕ). bar_word ++ x) m.1 };
      says = says-bar l p q ∙ ap bars v;
    }
told_by l false true f None p q r v h = absurd (never h refl)
told_by l false false f g p q r v h = absurd (never h refl)

pub told : (l : List ℕ) → is_bad (line_says l) ≡ false → Told l
unfolding line_says
told l h = told_by l (begins need_word l) (begins bar_word l) (members 48 0 (drop 4 l)) (members 48 0 (drop 3 l)) refl refl refl refl h

-- ---- the lines behind the first
record Entries (ls : List (List ℕ)) : Type 0 where
  entries : List Entry
  named : Named entries
  text : joined ls ≡ written_lines entries
  required : required_in ls ≡ required_among entries
  forbidden : forbidden_in ls ≡ forbidden_among entries

named_more : {e : Entry} {es : List Entry} → set_of e < 512 → Named es → Named (e ∷ es)
named_more {e} {es} h n = record {
  named = λ x m. ⊎_elim (λ (q : x ≡ e). subst (λ (y : Entry). set_of y < 512) (sym q) h) (λ (q : Memᴰ x es). n.named x q) (Memᴰ.cases_cons m);
}

entries_of : (ls : List (List ℕ)) → ((i : ℕ) → i < length ls → is_bad (line_says (get_or ls i [])) ≡ false) → Entries ls
unfolding joined written_lines required_in forbidden_in required_among forbidden_among
entries_of [] h =
    record { entries = []; named = record { named = λ x m. absurd (Memᴰ.not-nil m) }; text = refl; required = refl; forbidden = refl }
entries_of (l ∷ ls) h =
    let t = told l (h 0 (omega arith)) in
    let r = entries_of ls (λ i k. h (suc i) (omega arith)) in
    record {
      entries = t.line.entry ∷ r.entries;
      named = named_more t.line.named r.named;
      text = ap₂ ◌++◌ t.line.written r.text;
      required = ap₂ add_need t.says r.required ∙ add_required t.line.entry r.entries;
      forbidden = ap₂ add_bar t.says r.forbidden ∙ add_forbidden t.line.entry r.entries;
    }

-- ---- the first line
found_by : (t : Bool) (f : Option ℕ) (n : ℕ) → pick_found t f None ≡ Some n → (t ≡ true) × (f ≡ Some n)
found_by true f n e = (refl, e)
found_by false f n e = no_number e

digit_by : (t : Bool) (d b n : ℕ) → (leb 48 d && leb d 57 && eqb b 10) ≡ t → pick_found t (Some (d - 48)) None ≡ Some n
    → (n ≤ 9) × (d ∷ (b ∷ []) ≡ digit n ∷ feed)
digit_by true d b n q e =
    let x = both (leb 48 d && leb d 57) (eqb b 10) q in
    let y = both (leb 48 d) (leb d 57) x.0 in
    let low : 48 ≤ d = leb-true 48 d y.0 in
    let high : d ≤ 57 = leb-true d 57 y.1 in
    let z : d - 48 ≡ n = cc in
    let is : d ≡ digit n = omega arith in
    (omega arith, ap₂ (λ (u v : ℕ). u ∷ (v ∷ [])) is (eqb-true b 10 x.1))
digit_by false d b n q e = no_number e

digit_shape : (r : List ℕ) (n : ℕ) → one_digit r ≡ Some n → (n ≤ 9) × (r ≡ digit n ∷ feed)
unfolding one_digit
digit_shape [] n e = no_number e
digit_shape (d ∷ []) n e = no_number e
digit_shape (d ∷ (b ∷ [])) n e = digit_by (leb 48 d && leb d 57 && eqb b 10) d b n refl e
digit_shape (d ∷ (b ∷ (c ∷ r))) n e = no_number e

first_by : (x : Option ℕ) (l : List ℕ) → people_in l ≡ x → is_nothing x ≡ false → (number_in x ≤ 9) × (l ≡ people_line (number_in x))
unfolding people_in
first_by (Some n) l e h =
    let f = found_by (begins people_word l) (one_digit (drop 7 l)) n e in
    let d = digit_shape (drop 7 l) n f.1 in
    (d.0, begins-means people_word l f.0 ∙ ap (λ (x : List ℕ). people_word ++ x) d.1)
first_by None l e h = absurd (never h refl)

pub first_shape : (l : List ℕ) → is_nothing (people_in l) ≡ false → (number_in (people_in l) ≤ 9) × (l ≡ people_line (number_in (people_in l)))
first_shape l h = first_by (people_in l) l refl h

-- ---- the whole text
lines_shape : (ls : List (List ℕ)) → bad_line ls ≡ 0 → Written (joined ls) (policy_in ls)
unfolding bad_line bad_at people_in begins joined policy_in written_text
lines_shape [] z = absurd (false≢true (sym (none_in (bad_at []) 1 2 (omega arith) z 1 (omega arith) (omega arith))))
lines_shape (l ∷ ls) z =
    let n = none-behind l ls z in
    let es = entries_of ls n.1 in
    let f = first_shape l n.0 in
    record {
      entries = es.entries;
      people = f.0;
      named = es.named;
      written = ap₂ ◌++◌ f.1 es.text;
      required = es.required;
      forbidden = es.forbidden;
    }

pub only-written : (text : List ℕ) (p : Policy) → read_policy text ≡ done p → Written text p × (length text ≤ 16384)
unfolding read_policy
only-written text p h =
    let r = done-passed _ _ p h in
    let q = passed r.0 in
    let z = none_found (bad_line (lines text)) (passed q.1).0 in
    let same : policy_in (lines text) ≡ p = cc r.1 in (
      subst (λ (t : List ℕ). Written t p) (joined-lines text) (subst (Written (joined (lines text))) same (lines_shape (lines text) z)),
      ltb-false 16384 (length text) q.0,
    )
