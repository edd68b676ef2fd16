-- The two lists as they are read: one set more, one line more, the end.
-- Assumes nothing.
use mathlib.Core.Path.{◌≡◌, refl, sym, ap, subst, ◌∙◌}
use mathlib.Core.List.{List, [], ◌∷◌, ◌++◌, append_assoc, append-nil}
use native.Mathlib.Omega.{arith}
use Prim.Native.Nat.{ℕ, suc, ◌+◌, ◌-◌, ◌≤◌, ◌<◌}
use lib.ListN.{length, take, drop, set, replicate, length-append, length-drop}
use lib.Seq.{take_all, take_at, drop_at, take-append-le, set_at}
use Rattle.answer.specs.declared.Kind.TheVariants.{Text}
use Rattle.answer.specs.Outcome.{Outcome, done, refused, number, refusal}
use Rattle.lists.specs.Places.{first_in}
use Rattle.lists.proofs.FirstLaws.{first_hit, first_miss, first-none}
use Rattle.planning.specs.Policy.{Policy, policy_of}
use Rattle.std.proofs.Common.{length-take}
use Rattle.std.proofs.lemmas.List.{take_more_set}
use Rattle.std.specs.Prelude.{Option, Some, None, Result, Ok, Err}
use Rattle.std.specs.Option.{MatchOption}
use denote.Ref.{Bor}
use Rattle.answer.specs.declared.Kind.{Kind}
use Rattle.answer.specs.declared.Refusal.{Refusal}
use Rattle.policy.specs.declared.Sets.{Sets}
use Rattle.policy.specs.declared.PolicyText.{PolicyText}
use Rattle.policy.specs.declared.Entry.{Entry}
use Rattle.policy.specs.declared.Entry.TheVariants.{Need, Bar}
use Rattle.policy.specs.Policy.{lines, line_of, people_in, begins, line_says, is_nothing, is_bad, need_first, bar_first, required_in, forbidden_in}
use Rattle.policy.specs.Inner.{line_length, sets_in, Adds}
use Rattle.policy.specs.Policy.{bad_at, bad_line, policy_in, read_policy, Keeps, Holds}
use Rattle.policy.proofs.LinesLaws.{Cut}
use Rattle.policy.proofs.BadLaws.{end, text_bad, text_good, first-line, next_rest, in_lines, bad-there}

-- ---- what a result holds
pub refused_is : {o : Outcome Policy} {k : Kind} {a b : ℕ} {r : Result PolicyText Refusal} → o ≡ refused (number k) a b → r ≡ Err (refusal k a b) → Holds o r
refused_is {o} {k} {a} {b} {r} e f = rw (e, f) (refl, refl, refl)

-- ---- one set more
module _ (sets : List ℕ) (s : ℕ) where
  abbrev more : List ℕ
  more = sets ++ s ∷ []

  -- the set stands in the place of the first of the zeros
  pub kept_more : (kept : Sets) → kept.count < 257 → Keeps sets kept → Keeps more (record { sets = set kept.sets kept.count s; count = kept.count + 1 })
  kept_more kept h k =
      let n : length more ≡ length sets + 1 = length-append sets (s ∷ []) in
      let few : (kept.count ≡ length sets) × (length sets < 257) = omega (arith, k.counted, length-take 257 sets) in
      let all : take 257 sets ≡ sets = take_all 257 sets (omega (arith, few.1)) in
      let all_more : take 257 more ≡ more = take_all 257 more (omega (arith, few.1)) in
      let zeros : 257 - length sets ≡ suc (257 - length more) = omega (arith, few.1) in
      let zeros_behind : List ℕ = replicate (257 - length more) 0 in
      record {
        filled =
            ap (λ (l : List ℕ). set l kept.count s) (rw (all, zeros) at k.filled)
            ∙ set_at sets 0 zeros_behind s kept.count (sym few.0) ∙ sym (append_assoc sets (s ∷ []) zeros_behind)
            ∙ sym (ap (λ (l : List ℕ). l ++ zeros_behind) all_more);
        counted = omega (arith, few.0, ap length all_more);
      }

  -- there is no place for it
  pub kept_full : (kept : Sets) → 257 ≤ kept.count → Keeps sets kept → Keeps more kept
  kept_full kept h k =
      let n : length more ≡ length sets + 1 = length-append sets (s ∷ []) in
      let l : 257 ≤ length sets = omega (arith, k.counted, length-take 257 sets) in
      let same : take 257 more ≡ take 257 sets = take-append-le 257 sets (s ∷ []) l in
      let zeros : 257 - length more ≡ 257 - length sets = omega arith in
      record { filled = k.filled ∙ sym (rw (same, zeros)); counted = k.counted ∙ sym (ap length same) }

-- whatever stands in the array: the sets that the list has, and the one behind them where there is a place for it
module _ (list : Sets) (s : ℕ) (size : length list.sets ≡ 257) where
  abbrev one_more : List ℕ
  one_more = sets_in list ++ s ∷ []

  pub added_there : list.count < 257 → sets_in (record { sets = set list.sets list.count s; count = list.count + 1 }) ≡ take 257 one_more
  added_there h =
      let n : length one_more ≡ length (sets_in list) + 1 = length-append (sets_in list) (s ∷ []) in
      take_more_set list.sets list.count s (omega arith)
      ∙ sym (take_all 257 one_more (omega (arith, n, length-take list.count list.sets)))

  pub added_full : 257 ≤ list.count → sets_in list ≡ take 257 one_more
  added_full h =
      let all : sets_in list ≡ list.sets = take_all list.count list.sets (omega arith) in
      sym (take_at (sets_in list) (s ∷ []) 257 (ap length all ∙ size))

-- ---- the first line
-- a text with no bytes gives no people; another gives those of the line that was cut off
pub record First (text more : List ℕ) (people : Option ℕ) : Type 0 where
  pub gives : people_in (line_of (lines text) 1) ≡ people
  pub leaves : (n : ℕ) → people ≡ Some n → drop (line_length text) text ≡ more

no_people : (text : List ℕ) → length text ≡ 0 → people_in (line_of (lines text) 1) ≡ None
unfolding lines people_in begins
no_people [] h = refl
no_people (b ∷ text) h = absurd (omega arith)

pub first_read : (text more : List ℕ) (people : Option ℕ) (r : Option (Bor (List ℕ))) → MatchOption r (length text ≡ 0) (λ x. Cut text x.now more)
    → MatchOption r (people ≡ None) (λ x. people ≡ people_in x.now) → First text more people
first_read text more people None h e = record { gives = no_people text h ∙ sym e; leaves = λ n s. let z : None ≡ Some n = sym e ∙ s in cc }
first_read text more people (Some x) h e = record {
  gives = ap (λ (ls : List (List ℕ)). people_in (line_of ls 1)) h.lines-are ∙ sym e;
  leaves = λ n s. ap (drop (line_length text)) h.whole ∙ drop_at x.now more (line_length text) h.length-is;
}

no_bytes : (rest : List ℕ) → length rest ≡ 0 → rest ≡ []
no_bytes [] h = refl
no_bytes (b ∷ rest) h = absurd (omega arith)

-- ---- the loop over the lines: the sets so far and those of the rest are all the sets, and no line so far is bad
pub record Going (text : List ℕ) (read : PolicyText) (rest : List ℕ) (line : ℕ) : Type 0 where
  pub needs : List ℕ
  pub bars : List ℕ
  pub numbered : (2 ≤ line) × (line + length rest ≤ length text + 2)
  pub behind : drop (line - 1) (lines text) ≡ lines rest
  pub people-are : people_in (line_of (lines text) 1) ≡ Some read.people
  pub required_so_far : Keeps needs read.required
  pub forbidden_so_far : Keeps bars read.forbidden
  pub required-all : needs ++ required_in (lines rest) ≡ required_in (drop 1 (lines text))
  pub forbidden-all : bars ++ forbidden_in (lines rest) ≡ forbidden_in (drop 1 (lines text))
  pub bad-all : bad_line (lines text) ≡ first_in (bad_at (lines text)) line (end (lines text))

pub going_first : {text more : List ℕ} {read : PolicyText} {people : Option ℕ} → First text more people → people ≡ Some read.people
    → Keeps [] read.required → Keeps [] read.forbidden → Going text read more 2
unfolding bad_line bad_at
going_first {text} {more} {read} {people} f e p q =
    let r = (first-line text).1 in
    let m = f.leaves read.people e in
    let rest : drop 1 (lines text) ≡ lines more = r ∙ ap lines m in
    record {
      needs = [];
      bars = [];
      numbered = (omega arith, omega (arith, length-drop (line_length text) text, ap length m));
      behind = rest;
      people-are = f.gives ∙ e;
      required_so_far = p;
      forbidden_so_far = q;
      required-all = ap required_in (sym rest);
      forbidden-all = ap forbidden_in (sym rest);
      bad-all = first_miss (bad_at (lines text)) 1 (end (lines text)) (omega arith) (ap is_nothing (f.gives ∙ e));
    }

module _ {text : List ℕ} {read : PolicyText} {rest : List ℕ} {line : ℕ} (g : Going text read rest line) where
  module _ (l more : List ℕ) (k : Cut rest l more) where
    from_here : drop (line - 1) (lines text) ≡ l ∷ lines more
    from_here = g.behind ∙ k.lines-are

    -- a line that is not bad, with its set
    going_by : {next : PolicyText} (e : Entry) (needs bars : List ℕ) → line_says l ≡ Some e → next.people ≡ read.people
        → Keeps needs next.required → Keeps bars next.forbidden
        → ((sets : List ℕ) → needs ++ sets ≡ g.needs ++ need_first e sets) → ((sets : List ℕ) → bars ++ sets ≡ g.bars ++ bar_first e sets)
        → Going text next more (line + 1)
    unfolding required_in forbidden_in
    going_by e needs bars q n p r add-need add-bar = record {
      needs = needs;
      bars = bars;
      numbered = (omega (arith, g.numbered), omega (arith, g.numbered, ap length k.whole, length-append l more, k.some));
      behind = next_rest (lines text) line g.numbered.0 _ _ from_here;
      people-are = g.people-are ∙ ap Some (sym n);
      required_so_far = p;
      forbidden_so_far = r;
      required-all = add-need _ ∙ rw (k.lines-are, q) at g.required-all;
      forbidden-all = add-bar _ ∙ rw (k.lines-are, q) at g.forbidden-all;
      bad-all =
          g.bad-all
          ∙ first_miss (bad_at (lines text)) line (end (lines text)) (in_lines (lines text) line g.numbered.0 _ _ from_here)
          (bad-there (lines text) line g.numbered.0 _ _ from_here ∙ ap is_bad q);
    }

    pub going_on : {next : PolicyText} (e : Entry) → line_says l ≡ Some e → Adds e read next → Going text next more (line + 1)
    going_on (Need s) q a =
        going_by (Need s) (g.needs ++ s ∷ []) g.bars q a.0 (a.2 g.needs g.required_so_far) (subst (Keeps g.bars) (sym a.3) g.forbidden_so_far)
        (append_assoc g.needs (s ∷ [])) (λ sets. refl)
    going_on (Bar s) q a =
        going_by (Bar s) g.needs (g.bars ++ s ∷ []) q a.0 (subst (Keeps g.needs) (sym a.1) g.required_so_far) (a.3 g.bars g.forbidden_so_far) (λ sets. refl)
        (append_assoc g.bars (s ∷ []))

    pub going_bad : line_says l ≡ None → length text ≤ 16384 → read_policy text ≡ refused (number Text) line 0
    going_bad e few =
        text_bad text few line
        (g.bad-all
        ∙ first_hit (bad_at (lines text)) line (end (lines text)) (in_lines (lines text) line g.numbered.0 _ _ from_here)
        (bad-there (lines text) line g.numbered.0 _ _ from_here ∙ ap is_bad e))
        (omega (arith, g.numbered))

  pub going_done : length rest ≡ 0 → length text ≤ 16384 → Holds (read_policy text) (Ok read)
  unfolding policy_in required_in forbidden_in lines
  going_done h few =
      let n : lines rest ≡ [] = ap lines (no_bytes rest h) in
      let none : end (lines text) ≤ line = omega (arith, g.numbered, length-drop (line - 1) (lines text), ap length (g.behind ∙ n)) in
      let p : required_in (drop 1 (lines text)) ≡ g.needs = sym g.required-all ∙ rw n (append-nil g.needs) in
      let q : forbidden_in (drop 1 (lines text)) ≡ g.bars = sym g.forbidden-all ∙ rw n (append-nil g.bars) in
      let e : read_policy text ≡ done (policy_of read.people g.needs g.bars) =
      text_good text few (g.bad-all ∙ first-none (bad_at (lines text)) line (end (lines text)) none) ∙ rw (g.people-are, p, q)
      in
      rw e (record { people = refl; required = g.required_so_far; forbidden = g.forbidden_so_far })
