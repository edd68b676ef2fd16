-- A deal that was made by sets: what it has, that it deals every card, who holds what, and what its blocks and cards are.
-- Assumes nothing.
use Prim.Native.Nat.{ℕ, ◌-◌, ◌*◌, ◌≤◌, ◌<◌}
use mathlib.Core.Path.{◌≡◌, refl, sym, ap, ap₂, ◌∙◌}
use mathlib.Core.Bool.{true}
use mathlib.Core.Logic.{◌↔◌}
use mathlib.Core.List.{List, [], ◌∷◌, ◌++◌, map}
use native.Mathlib.Omega.{arith}
use lib.ListN.{length, drop}
use borrow.Author.Tests.{ltb-false}
use Rattle.lists.specs.Flat.{flat}
use Rattle.lists.specs.Over.{over}
use Rattle.lists.specs.Places.{at}
use Rattle.lists.specs.Run.{run}
use Rattle.lists.specs.Some.{◌∈◌}
use Rattle.lists.proofs.FlatLaws.{flat_map}
use Rattle.lists.proofs.ThoseLaws.{in_those, those_in, those_rise}
use Rattle.answer.specs.Outcome.{done}
use Rattle.answer.specs.Checks.{Line}
use Rattle.answer.specs.Laws.{Passed}
use Rattle.answer.specs.Lent.{no_room}
use Rattle.answer.proofs.CheckLaws.{append-lines, done-passed, passed-done, passed, passed-append}
use Rattle.answer.proofs.LentLaws as lent
use Rattle.prime.specs.Prime.{Below}
use Rattle.field.specs.Parts.{RandomAll}
use Rattle.field.proofs.ValuesLaws.{values_length}
use Rattle.planning.specs.Sets.{member, member_count}
use Rattle.planning.specs.Planned.{plan_lines}
use Rattle.minimal.specs.Minimal.{minimals, sets_with, number_in}
use Rattle.minimal.specs.Laws.{Known}
use Rattle.minimal.proofs.Laws as minimal
use Rattle.minimal.proofs.MinimalLaws.{set_in, minimal_in}
use Rattle.block.specs.Words.{bytes_of}
use Rattle.block.specs.Layout.{held_at}
use Rattle.block.specs.Open.{opening, value_bytes, TrueBlock}
use Rattle.block.specs.Written.{block_bytes, Buildable}
use Rattle.block.proofs.Laws.{opens-written}
use Rattle.dealing.specs.Deal.{Asked, Deal, again, asked_of}
use Rattle.dealing.specs.Dealt.{input_lines}
use Rattle.dealing.specs.Inner.{room_says}
use Rattle.dealing.proofs.HeldLaws.{map_same}
use Rattle.dealing.proofs.InputLaws.{given-lines}
use Rattle.bysets.specs.Cards.{set_label_for, set_block_for, sizes, block_by, sets_of, set_at, sets_held, set_values, own_values, set_label, set_block, set_card}
use Rattle.bysets.specs.Dealt.{set_coefficients, set_block_count, set_deal_lines, set_dealing, set_dealt_into, SetMade}
use Rattle.bysets.specs.Inner.{SetsReady}
use Rattle.bysets.proofs.SizeLaws.{has}
use Rattle.bysets.proofs.CardLaws.{block_size, set_builds, one_ready, own-piece}
use Rattle.bysets.proofs.DealLaws.{known, minimals-proper, sets_ready}

-- ---- who holds what
module _ (d : Deal) (i : ℕ) where
  pub who_holds : (s : ℕ) → (s ∈ sets_held d i) ↔ ((1 ≤ s) × (s ≤ length (sets_of d)) × (member i (set_at d s) ≡ true))
  unfolding sets_held sets_with
  who_holds s = (
    (λ m. let r = in_those (has (sets_of d) i) 1 (length (sets_of d)) s m in (r.0, omega (arith, r.1), r.2)),
    (λ r. those_in (has (sets_of d) i) 1 (length (sets_of d)) s r.0 (omega (arith, r.1)) r.2),
  )

  pub held_rise : (a b : ℕ) → 1 ≤ a → a < b → b ≤ length (sets_held d i) → at (sets_held d i) a < at (sets_held d i) b
  unfolding sets_held sets_with
  held_rise a b l h u = (those_rise (has (sets_of d) i) 1 (length (sets_of d))).rise (a - 1) (b - 1) (omega arith) (omega arith)

-- ---- there is a value for each word of the secret
pub values-count : (d : Deal) (s j : ℕ) → length (set_values d s j) ≡ length d.secret
unfolding set_values
values-count d s j = values_length (member_count (set_at d s) - 1) d.secret _ j

-- ---- what a card depends on
module _ (d d' : Deal) (holder : ℕ) (asked : asked_of d holder ≡ asked_of d' holder) (required : d.policy.required ≡ d'.policy.required) where
  sets_same : sets_of d ≡ sets_of d'
  sets_same = ap₂ (λ (n : ℕ) (r : List ℕ). minimals n r) (ap (λ (a : Asked). a.people) asked) required

  held_same : sets_held d holder ≡ sets_held d' holder
  unfolding sets_held
  held_same = ap (λ (sets : List ℕ). sets_with sets holder (length sets)) sets_same

  -- equal values are equally many: so are the words of the secrets
  block_same : (s : ℕ) → own_values d holder s ≡ own_values d' holder s → set_block d holder s ≡ set_block d' holder s
  unfolding set_block block_by set_block_for set_values
  block_same s e =
      let width : length d.secret ≡ length d'.secret
      = sym (values-count d s (number_in (set_at d s) holder)) ∙ ap length e ∙ values-count d' s (number_in (set_at d' s) holder) in
      λ t. block_bytes (set_label_for (asked t) (member_count (at (sets_same t) s)) (width t) (number_in (at (sets_same t) s) holder) s) (e t)

  pub card_depends : ((s : ℕ) → s ∈ sets_held d holder → own_values d holder s ≡ own_values d' holder s) → set_card d holder ≡ set_card d' holder
  unfolding set_card set_block sets_held
  card_depends e =
      ap flat
      (map_same (set_block d holder) (set_block d' holder) (sets_held d holder) (λ s m. block_same s (e s m))
      ∙ ap (map (set_block d' holder)) held_same)

-- ---- what every card of such a deal rests on: planning accepts its policy, and what is asked for some holder is in its range
pub record InRange (d : Deal) : Type 0 where
  pub plan_passes : Passed (plan_lines d.policy)
  pub holder : ℕ
  pub ready : SetsReady (asked_of d holder) (sets_of d) d.secret d.random

-- the same for another holder, another secret in range, other randomness in range
ready_with : (d : Deal) → InRange d → (holder : ℕ) → (1 ≤ holder) × (holder ≤ d.policy.people) → (secret random : List ℕ)
    → length secret ≡ length d.secret → Below secret → RandomAll (length secret) (sizes (sets_of d)) random
    → SetsReady (asked_of d holder) (sets_of d) secret random
ready_with d f holder h secret random e b r =
    record {
      few = f.ready.few;
      proper = f.ready.proper;
      number_in_lem = f.ready.number_in_lem;
      year_in = f.ready.year_in;
      holder_in = h;
      width_in = rw e f.ready.width_in;
      secret_in = b;
      random_in = r;
    }

pub again_in_range : (d : Deal) → InRange d → (secret random : List ℕ) → length secret ≡ length d.secret → Below secret
    → RandomAll (length secret) (sizes (sets_of d)) random → InRange (again d secret random)
again_in_range d f secret random e b r =
    record { plan_passes = f.plan_passes; holder = f.holder; ready = ready_with d f f.holder f.ready.holder_in secret random e b r }

-- ---- a card was dealt, so everything passed
-- refusals 8 to 11 of a deal
abbrev lines_for : Deal → ℕ → List Line
lines_for d holder = input_lines (asked_of d holder) (set_coefficients d) d.secret d.random

made-lines : (d : Deal) (m : SetMade d)
    → Passed (plan_lines d.policy)
    × Passed (lines_for d m.holder)
    × Passed (no_room (512 * set_block_count d m.holder) (set_block_count d m.holder) m.room ∷ [])
unfolding set_dealing set_deal_lines
made-lines d m =
    let all = (done-passed (set_deal_lines d m.holder m.room) (done (set_block_count d m.holder)) m.blocks m.answer).0 in
    let p = passed-append (plan_lines d.policy) all in
    let q = passed-append (lines_for d m.holder) p.1 in
    (p.0, q.0, q.1)

pub made_in_range : (d : Deal) → SetMade d → InRange d
made_in_range d m =
    let p = made-lines d m in
    let k = known d.policy p.0 in
    record { plan_passes = p.0; holder = m.holder; ready = sets_ready k.few (minimals-proper d.policy.people d.policy.required k) p.1 }

-- the holder whose card it was
pub made-holder : (d : Deal) (m : SetMade d) → (1 ≤ m.holder) × (m.holder ≤ d.policy.people)
unfolding made_in_range
made-holder d m = (made_in_range d m).ready.holder_in

-- ---- a card: blocks of 512 bytes
module _ (d : Deal) (holder : ℕ) where
  pub block-length : (s : ℕ) → length (set_block d holder s) ≡ 512
  unfolding set_block
  block-length s = block_size _ _ _ _ s

  pub card-length : length (set_card d holder) ≡ 512 * set_block_count d holder
  unfolding set_card set_block set_block_count sets_held
  card-length = flat_map (set_block d holder) block-length (sets_held d holder)

-- ---- the holders of a set's pieces
module _ (d : Deal) (f : InRange d) where
  pub known-sets : Known d.policy.people d.policy.required
  known-sets = known d.policy f.plan_passes

  pub piece-holder : (s : ℕ) → 1 ≤ s → s ≤ length (sets_of d) → (j : ℕ) → 1 ≤ j → j ≤ member_count (set_at d s)
      → (i : ℕ) × (1 ≤ i) × (i ≤ d.policy.people) × (s ∈ sets_held d i) × (number_in (set_at d s) i ≡ j)
      × ((k : ℕ) → 1 ≤ k → s ∈ sets_held d k → number_in (set_at d s) k ≡ j → k ≡ i)
  piece-holder s l h j a b =
      let n = d.policy.people in
      let below = (minimal_in n d.policy.required known-sets (set_at d s) (set_in n d.policy.required s l h)).0 in
      let r = minimal.one_holder n (set_at d s) j (omega (arith, f.ready.few)) below a b in
      (r.0, r.1, r.2, (who_holds d r.0 s).1 (l, h, r.3), r.4, λ k q m e. r.5 k q ((who_holds d k s).0 m).2 e)

  module _ (holder : ℕ) (least : 1 ≤ holder) (most : holder ≤ d.policy.people) where
    ready : SetsReady (asked_of d holder) (sets_of d) d.secret d.random
    ready = ready_with d f holder (least, most) d.secret d.random refl f.ready.secret_in f.ready.random_in

    pub few-blocks : set_block_count d holder ≤ 35
    unfolding set_block_count sets_held
    few-blocks = minimal.few_with d.policy.people d.policy.required f.ready.few holder least most

    -- ---- only the room is left to check
    pub only-room : (room : ℕ) → set_dealing d holder room ≡ room_says (set_block_count d holder) room
    unfolding set_dealing set_deal_lines
    only-room room =
        append-lines (plan_lines d.policy) _ (done (set_block_count d holder))
        ∙ passed-done (plan_lines d.policy) _ f.plan_passes
        ∙ append-lines (lines_for d holder) _ (done (set_block_count d holder))
        ∙ passed-done (lines_for d holder) (room_says (set_block_count d holder) room)
        (given-lines (record {
          number_in_lem = ready.number_in_lem;
          year_in = ready.year_in;
          holder_in = ready.holder_in;
          width_in = ready.width_in;
          secret_in = ready.secret_in;
          count = ready.random_in.count;
          random_in = ready.random_in.below;
        }))

    pub deals_all : (room : ℕ) → 512 * set_block_count d holder ≤ room → set_dealing d holder room ≡ done (set_block_count d holder)
    deals_all room h = only-room room ∙ lent.room-given (512 * set_block_count d holder) (set_block_count d holder) room (done (set_block_count d holder)) h

    -- ---- each block is true, and opens
    pub buildable : (s : ℕ) → s ∈ sets_held d holder → Buildable (set_label d holder s) (own_values d holder s)
    unfolding set_label set_values
    buildable s m =
        let h = (who_holds d holder s).0 m in
        let p = own-piece ready s h.2 in
        set_builds (one_ready ready s h.0 h.1) (number_in (set_at d s) holder) s (own_values d holder s) p.0 p.1
        (f.ready.proper.most s h.0 h.1) h.0 (omega (arith, h.1, f.ready.proper.count)) refl

    pub blocks_open : (s : ℕ) → s ∈ sets_held d holder → (rest : List ℕ)
        → TrueBlock (set_block d holder s ++ rest)
        × (opening (set_block d holder s ++ rest) ≡ done (run (held_at (set_label d holder s) (own_values d holder s)) 1 7))
        × (value_bytes (set_block d holder s ++ rest) ≡ bytes_of (own_values d holder s))
    unfolding set_block block_by set_block_for set_label set_values
    blocks_open s m rest = opens-written (set_label d holder s) (own_values d holder s) rest (buildable s m)

-- ---- what is left in the lent output
module _ (d : Deal) (holder : ℕ) (out : List ℕ) (blocks : ℕ) (e : set_dealing d holder (length out) ≡ done blocks) where
  made : SetMade d
  made = record { holder = holder; room = length out; blocks = blocks; answer = e }

  dealt_count : blocks ≡ set_block_count d holder
  unfolding set_dealing
  dealt_count =
      let end : done (set_block_count d holder) ≡ done blocks = (done-passed (set_deal_lines d holder (length out)) (done (set_block_count d holder)) blocks e).1 in
      cc

  room_enough : 512 * set_block_count d holder ≤ length out
  unfolding no_room made
  room_enough = ltb-false (length out) (512 * set_block_count d holder) (passed (made-lines d made).2).0

  pub result_writes : (blocks ≡ set_block_count d holder)
      × (length (set_card d holder) ≡ 512 * blocks)
      × (512 * blocks ≤ length out)
      × (set_dealt_into d holder out ≡ set_card d holder ++ drop (512 * blocks) out)
  unfolding set_dealt_into over
  result_writes =
      let n : length (set_card d holder) ≡ 512 * blocks = card-length d holder ∙ ap (λ (x : ℕ). 512 * x) (sym dealt_count) in (
        dealt_count,
        n,
        omega (arith, dealt_count, room_enough),
        lent.result_writes (set_dealing d holder (length out)) blocks (set_card d holder) out e ∙ ap (λ (x : ℕ). set_card d holder ++ drop x out) n,
      )
