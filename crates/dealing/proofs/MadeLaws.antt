-- A deal that was made: what it has, that it deals every card, and what its blocks and cards are.
-- Assumes nothing.
use Prim.Native.Nat.{ℕ, ◌*◌, ◌≤◌}
use mathlib.Core.Path.{◌≡◌, refl, sym, ap, ◌∙◌}
use mathlib.Core.List.{List, [], ◌∷◌, ◌++◌}
use native.Mathlib.Nat.{le_refl}
use native.Mathlib.Omega.{arith}
use lib.ListN.{length, drop}
use borrow.Author.Tests.{ltb-false}
use Rattle.lists.specs.Run.{run}
use Rattle.answer.specs.Outcome.{done}
use Rattle.answer.specs.Laws.{Passed}
use Rattle.answer.specs.Lent.{no_room}
use Rattle.lists.specs.Over.{over}
use Rattle.answer.proofs.CheckLaws.{append-lines, done-passed, passed-done, passed, passed-append}
use Rattle.answer.proofs.LentLaws as lent
use Rattle.prime.specs.Prime.{Below}
use Rattle.field.specs.Pieces.{Random}
use Rattle.lists.specs.Some.{◌∈◌}
use Rattle.planning.specs.Planned.{plan_lines, planned}
use Rattle.planning.proofs.Laws as plans
use Rattle.block.specs.Words.{bytes_of}
use Rattle.block.specs.Layout.{held_at}
use Rattle.block.specs.Open.{opening, value_bytes, TrueBlock}
use Rattle.block.specs.Written.{Buildable}
use Rattle.block.proofs.Laws.{opens-written}
use Rattle.dealing.specs.Deal.{Deal, again, block_for, asked_of, deal_pieces, held_by, piece_values, label, block_of, card}
use Rattle.dealing.specs.Dealt.{block_count, deal_lines, dealing, dealt_into, Made}
use Rattle.dealing.specs.Inner.{Ready, room_says}
use Rattle.dealing.proofs.HeldLaws.{held_in_lem}
use Rattle.dealing.proofs.InputLaws.{lines_ready, ready_lines}
use Rattle.dealing.proofs.CardLaws.{ready_builds, block_size}
use Rattle.lists.proofs.FlatLaws.{flat_map}
use Rattle.dealing.proofs.DealLaws.{lines_for, past_plan, plan_few}

-- ---- what every card of such a deal rests on: planning accepts its policy, and what is asked for some holder is in its range
pub record InRange (d : Deal) : Type 0 where
  pub plan_passes : Passed (plan_lines d.policy)
  pub holder : ℕ
  pub ready : Ready (asked_of d holder) (deal_pieces d) d.secret d.random

-- the same for another holder, another secret in range, other randomness in range
ready_with : (d : Deal) → InRange d → (holder : ℕ) → (1 ≤ holder) × (holder ≤ d.policy.people) → (secret random : List ℕ)
    → length secret ≡ length d.secret → Below secret → Random (length secret) (deal_pieces d) random
    → Ready (asked_of d holder) (deal_pieces d) secret random
ready_with d f holder h secret random e b r =
    record {
      few = f.ready.few;
      least = f.ready.least;
      most = f.ready.most;
      number_in_lem = f.ready.number_in_lem;
      year_in = f.ready.year_in;
      holder_in = h;
      width_in = rw e f.ready.width_in;
      secret_in = b;
      random_in = r;
    }

pub again_in_range : (d : Deal) → InRange d → (secret random : List ℕ) → length secret ≡ length d.secret → Below secret
    → Random (length secret) (deal_pieces d) random → InRange (again d secret random)
unfolding deal_pieces
again_in_range d f secret random e b r =
    record { plan_passes = f.plan_passes; holder = f.holder; ready = ready_with d f f.holder f.ready.holder_in secret random e b r }

-- ---- a card was dealt, so everything passed
plan_accepts : (d : Deal) → Passed (plan_lines d.policy) → planned d.policy ≡ done (deal_pieces d)
unfolding planned deal_pieces
plan_accepts d p = passed-done (plan_lines d.policy) (done (deal_pieces d)) p

made-lines : (d : Deal) (m : Made d)
    → Passed (plan_lines d.policy)
    × Passed (lines_for d m.holder)
    × Passed (no_room (512 * block_count d m.holder) (block_count d m.holder) m.room ∷ [])
unfolding dealing deal_lines
made-lines d m =
    let all = (done-passed (deal_lines d m.holder m.room) (done (block_count d m.holder)) m.blocks m.answer).0 in
    let p = passed-append (plan_lines d.policy) all in
    let q = passed-append (lines_for d m.holder) p.1 in
    (p.0, q.0, q.1)

pub made_in_range : (d : Deal) → Made d → InRange d
made_in_range d m =
    let p = made-lines d m in
    let f = plan_few d (plan_accepts d p.0) in
    record { plan_passes = p.0; holder = m.holder; ready = lines_ready f.0 f.1 f.2 p.1 }

-- the holder whose card it was
pub made-holder : (d : Deal) (m : Made d) → (1 ≤ m.holder) × (m.holder ≤ d.policy.people)
unfolding made_in_range
made-holder d m = (made_in_range d m).ready.holder_in

-- ---- a card: blocks of 512 bytes
module _ (d : Deal) (holder : ℕ) where
  pub block-length : (j : ℕ) → length (block_of d holder j) ≡ 512
  unfolding block_of
  block-length j = block_size _ _ _ _ j

  pub card-length : length (card d holder) ≡ 512 * block_count d holder
  unfolding card block_of block_count
  card-length = flat_map (block_of d holder) block-length (held_by d holder)

module _ (d : Deal) (f : InRange d) (holder : ℕ) (least : 1 ≤ holder) (most : holder ≤ d.policy.people) where
  ready : Ready (asked_of d holder) (deal_pieces d) d.secret d.random
  ready = ready_with d f holder (least, most) d.secret d.random refl f.ready.secret_in f.ready.random_in

  pub few-blocks : block_count d holder ≤ 35
  unfolding block_count held_by
  few-blocks = plans.few-blocks d.policy.people d.policy.required f.ready.few holder least most

  -- ---- only the room is left to check
  pub only-room : (room : ℕ) → dealing d holder room ≡ room_says (block_count d holder) room
  only-room room =
      past_plan d f.plan_passes holder room
      ∙ append-lines (lines_for d holder) _ (done (block_count d holder))
      ∙ passed-done (lines_for d holder) (room_says (block_count d holder) room) (ready_lines ready)

  pub deals_all : (room : ℕ) → 512 * block_count d holder ≤ room → dealing d holder room ≡ done (block_count d holder)
  deals_all room h = only-room room ∙ lent.room-given (512 * block_count d holder) (block_count d holder) room (done (block_count d holder)) h

  -- ---- each of them is true, and opens
  pub buildable : (j : ℕ) → j ∈ held_by d holder → Buildable (label d holder j) (piece_values d j)
  unfolding label piece_values
  buildable j m = let h = held_in_lem d holder j m in ready_builds ready j (piece_values d j) h.0 h.1 refl

  pub blocks_open : (j : ℕ) → j ∈ held_by d holder → (rest : List ℕ)
      → TrueBlock (block_of d holder j ++ rest)
      × (opening (block_of d holder j ++ rest) ≡ done (run (held_at (label d holder j) (piece_values d j)) 1 7))
      × (value_bytes (block_of d holder j ++ rest) ≡ bytes_of (piece_values d j))
  unfolding block_of block_for label piece_values
  blocks_open j m rest = opens-written (label d holder j) (piece_values d j) rest (buildable j m)

-- ---- what is in range can be dealt: into as much room as some card wants
pub in_range_made : (d : Deal) → InRange d → Made d
in_range_made d f =
    let room = 512 * block_count d f.holder in
    record {
      holder = f.holder;
      room = room;
      blocks = block_count d f.holder;
      answer = deals_all d f f.holder f.ready.holder_in.0 f.ready.holder_in.1 room (le_refl room);
    }

-- ---- what is left in the lent output
module _ (d : Deal) (holder : ℕ) (out : List ℕ) (blocks : ℕ) (e : dealing d holder (length out) ≡ done blocks) where
  made : Made d
  made = record { holder = holder; room = length out; blocks = blocks; answer = e }

  dealt_count : blocks ≡ block_count d holder
  unfolding dealing
  dealt_count =
      let end : done (block_count d holder) ≡ done blocks = (done-passed (deal_lines d holder (length out)) (done (block_count d holder)) blocks e).1 in
      cc

  room_enough : 512 * block_count d holder ≤ length out
  unfolding no_room made
  room_enough = ltb-false (length out) (512 * block_count d holder) (passed (made-lines d made).2).0

  pub result_writes : (blocks ≡ block_count d holder)
      × (length (card d holder) ≡ 512 * blocks)
      × (512 * blocks ≤ length out)
      × (dealt_into d holder out ≡ card d holder ++ drop (512 * blocks) out)
  unfolding dealt_into over made
  result_writes =
      let n : length (card d holder) ≡ 512 * blocks = card-length d holder ∙ ap (λ (x : ℕ). 512 * x) (sym dealt_count) in (
        dealt_count,
        n,
        omega (arith, dealt_count, room_enough),
        lent.result_writes (dealing d holder (length out)) blocks (card d holder) out e ∙ ap (λ (x : ℕ). card d holder ++ drop x out) n,
      )
