-- Dealing by sets by what the checks answered: a refusal is kept; the minimal sets of an accepted policy give the deal's own card.
-- Assumes nothing.
use Prim.Native.Nat.{ℕ, ◌≤◌}
use mathlib.Core.Path.{◌≡◌, sym, ap, ◌∙◌}
use mathlib.Core.List.{List, ◌++◌}
use native.Mathlib.Omega.{arith}
use lib.ListN.{length, take, replicate}
use lib.Seq.{take_at}
use Rattle.std.specs.Prelude.{⊤, Result, Ok, Err}
use Rattle.answer.specs.declared.Refusal.{Refusal}
use Rattle.answer.specs.Outcome.{Outcome, done, refused, number, checked}
use Rattle.answer.specs.Checks.{first_fail}
use Rattle.answer.specs.Laws.{Passed}
use Rattle.answer.specs.Lent.{left}
use Rattle.answer.proofs.CheckLaws.{stops, goes_on, done-passed, passed-append}
use Rattle.field.specs.Parts.{coefficients}
use Rattle.planning.specs.Sets.{member_count}
use Rattle.planning.specs.Policy.{Policy}
use Rattle.planning.specs.Planned.{list_lines, plan_lines}
use Rattle.planning.proofs.Laws.{listed-means}
use Rattle.minimal.specs.Minimal.{minimals, set_count, set_of, sets_with, counted}
use Rattle.minimal.specs.Laws.{Known}
use Rattle.minimal.proofs.Laws.{size_in}
use Rattle.minimal.proofs.MinimalLaws.{set_in, minimal_in, seventy}
use Rattle.dealing.specs.Deal.{Asked, Deal, asked_of}
use Rattle.dealing.specs.Dealt.{input_lines, card_lines}
use Rattle.dealing.proofs.InputLaws.{lines-given}
use Rattle.bysets.specs.Cards.{sizes, card_by, sets_of, sets_held, set_card}
use Rattle.bysets.specs.Dealt.{set_block_count, set_deal_lines, set_dealing, set_dealt_into}
use Rattle.bysets.specs.Inner.{Proper, SetsReady}

-- ---- what is lent: the sets that fill the front of the array
pub lent-sets : (made : List ℕ) (rest : ℕ) {all : List ℕ} {count : ℕ} → count ≡ length made → all ≡ made ++ replicate rest 0 → take count all ≡ made
lent-sets made rest {count = count} is filled = rw filled (take_at made (replicate rest 0) count (sym is))

-- ---- an accepted policy: its minimal sets are at most 70, each of 1 to n members
pub known : (p : Policy) → Passed (plan_lines p) → Known p.people p.required
unfolding plan_lines
known p passes =
    let l = listed-means p (passed-append (list_lines p) passes).0 in
    record { few = l.few; known = l.known-required; none_empty = l.none_empty }

pub minimals-proper : (n : ℕ) (required : List ℕ) → Known n required → Proper n (minimals n required)
minimals-proper n required k =
    record {
      count = seventy n required k.few;
      least = λ s l h. (in_set_lem s l h).2 (minimal_in n required k (set_of n required s) (set_in n required s l h)).1;
      most = λ s l h. (in_set_lem s l h).1;
    }
  where
    in_set_lem : (s : ℕ) → 1 ≤ s → s ≤ set_count n required → let g = set_of n required s in
        (counted g n ≡ member_count g) × (member_count g ≤ n) × (1 ≤ g → 1 ≤ member_count g)
    in_set_lem s l h = size_in n (set_of n required s) (omega (arith, k.few)) (minimal_in n required k (set_of n required s) (set_in n required s l h)).0

-- ---- inputs that passed
pub sets_ready : {asked : Asked} {list secret random : List ℕ} → asked.people ≤ 8 → Proper asked.people list
    → Passed (input_lines asked (coefficients (sizes list)) secret random) → SetsReady asked list secret random
sets_ready few proper p =
    let g = lines-given p in
    record {
      few = few;
      proper = proper;
      number_in_lem = g.number_in_lem;
      year_in = g.year_in;
      holder_in = g.holder_in;
      width_in = g.width_in;
      secret_in = g.secret_in;
      random_in = record { count = g.count; below = g.random_in };
    }

-- 8 to 12 for a list of sets, or how many blocks there are
abbrev pub sets_say : Asked → List ℕ → List ℕ → List ℕ → ℕ → Outcome ℕ
sets_say asked list secret random room =
    let blocks = length (sets_with list asked.holder (length list)) in
    first_fail (card_lines asked (coefficients (sizes list)) secret random blocks room) (done blocks)

-- ---- the code's chain: what planning's lines answered, x, and then what the deal of the sets answered
module _ (d : Deal) (holder : ℕ) {x : Result ⊤ Refusal} (says : checked x ≡ first_fail (plan_lines d.policy) (done 0)) where
  pub refused_deal : {r : Refusal} → x ≡ Err r → (out : List ℕ)
      → (refused (number r.kind) r.a r.b ≡ set_dealing d holder (length out)) × (out ≡ set_dealt_into d holder out)
  unfolding set_dealing set_deal_lines set_dealt_into
  refused_deal {r} q out =
      let e = stops (plan_lines d.policy) says _ (done (set_block_count d holder)) q in
      (e, ap (λ (o : Outcome ℕ). left o (set_card d holder) out) e)

  pub plan_passed : {u : ⊤} → x ≡ Ok u → Passed (plan_lines d.policy)
  plan_passed {u} q = (done-passed (plan_lines d.policy) (done 0) 0 (sym says ∙ ap checked q)).0

  pub deals : {u : ⊤} → x ≡ Ok u → (list : List ℕ) → list ≡ sets_of d → (o : Outcome ℕ) (out now : List ℕ)
      → o ≡ sets_say (asked_of d holder) list d.secret d.random (length out)
      → now ≡ left o (card_by (asked_of d holder) list d.secret d.random) out
      → (o ≡ set_dealing d holder (length out)) × (now ≡ set_dealt_into d holder out)
  unfolding set_dealing set_deal_lines set_dealt_into set_block_count sets_held set_card
  deals {u} q list same o out now s l =
      let on = goes_on (plan_lines d.policy) says _ (done (set_block_count d holder)) q in
      let e = s ∙ ap (λ (x : List ℕ). sets_say (asked_of d holder) x d.secret d.random (length out)) same ∙ sym on in
      (e, l ∙ (λ i. left (e i) (card_by (asked_of d holder) (same i) d.secret d.random) out))
