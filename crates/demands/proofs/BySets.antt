-- Demand 3 of deals by sets, proved: each statement by its name in specs/BySets.antt. Assumes nothing.
use Prim.Native.Nat.{ℕ}
use mathlib.Core.Path.{◌≡◌, refl, ap, ◌∙◌}
use mathlib.Core.List.{List, ◌++◌}
use native.Mathlib.Omega.{arith}
use lib.ListN.{length, drop}
use Rattle.answer.specs.Outcome.{done}
use Rattle.lists.specs.Flat.{flat}
use Rattle.field.proofs.HidingLaws.{none_favoured}
use Rattle.dealing.specs.Deal.{Deal}
use Rattle.bysets.specs.Cards.{sets_held, set_block, set_blocks, set_card}
use Rattle.bysets.proofs.ByteLaws.{card-long}
use Rattle.bysets.proofs.HideLaws as hide
use Rattle.bysets.proofs.MadeLaws.{made_in_range, card-length, few-blocks}
use Rattle.joining.specs.Joined.{joining}
use Rattle.joining.proofs.Laws.{joins_then, result_writes, refusal_keeps}
use Rattle.demands.specs.Group.{Member, members}
use Rattle.demands.specs.BySets as demand
use Rattle.demands.specs.BySets.{set_cards}
use Rattle.demands.proofs.GroupLaws.{in_members, members_in, contains_so, contains_not}
use Rattle.demands.proofs.AloneLaws.{plan_listed, listed_lacks}
use Rattle.demands.proofs.RowLaws.{row_pile, row-few, few-members}
use Rattle.demands.proofs.SetsReadLaws.{reads}
use Rattle.demands.proofs.SetsAnswerLaws as answer

pub sets_open : demand.SetsOpen
sets_open d made g group c pile w out h =
    let f = made_in_range d made in
    let r = reads d f g pile w in
    let auth = contains_so d g c in
    let e : joining pile (length out) ≡ done (length d.secret)
    = joins_then pile (length out) (length d.secret) (answer.joins d f g pile r auth (length out) h) in
    (e, (result_writes pile out (length d.secret) e).1 ∙ ap (λ (s : List ℕ). s ++ drop (length d.secret) out) (answer.secret-is d f g pile r auth))

pub sets-short : demand.SetsShort
sets-short d made g group n pile w out =
    let f = made_in_range d made in
    let e = answer.short d f g pile (reads d f g pile w) (contains_not d g n) (length out) in
    (e, refusal_keeps pile out 20 0 0 e)

pub sets_nobody_alone : demand.SetsNobodyAlone
sets_nobody_alone d made g group one = sets-short d made g group (listed_lacks d g (plan_listed d (made_in_range d made).plan_passes) one)

-- ---- hiding
pub sets_hide : demand.SetsHide
sets_hide d made g group n other e =
    hide.hidden d (made_in_range d made) g (contains_not d g n) other e (Member d g) (λ i m. (m.least, m.most, m.among))

pub sets_deal_alike : demand.SetsDealAlike
sets_deal_alike d made g other e h small random r i m out =
    hide.deal_alike d (made_in_range d made) other e small random (h.pairs.there random) r (h.pairs.there_in random r)
    i m.least m.most (h.same random r i m) out

pub sets_other_randomness : demand.SetsOtherRandomness
sets_other_randomness d made g group n other e =
    let h = sets_hide d made g group n other e in
    let r = (made_in_range d made).ready.random_in in
    (h.pairs.there d.random, h.pairs.there_in d.random r, λ i m. h.same d.random r i m)

pub sets_favour_none : demand.SetsFavourNone
sets_favour_none d made g group n other e c = none_favoured (sets_hide d made g group n other e) c

-- ---- cards in a row
card-is : (d : Deal) (i : ℕ) → set_card d i ≡ flat (set_blocks d i)
unfolding set_card set_blocks set_block sets_held
card-is d i = refl

pub sets_in_a_row : demand.SetsInARow
unfolding set_cards
sets_in_a_row d made g hs = row_pile (set_blocks d) (set_card d) (card-is d) (card-long d) (Member d g) hs

pub sets_once_each : demand.SetsOnceEach
unfolding set_cards
sets_once_each d made g =
    let f = made_in_range d made in
    sets_in_a_row d made g (members d g) (λ i m. in_members d g i m) (λ i m. members_in d g i m)
    (omega (
      arith,
      row-few (set_card d) 35 (members d g)
          (λ i k. let m = in_members d g i k in omega (arith, card-length d i, few-blocks d f i m.least m.most)),
      few-members d g f.ready.few,
    ))
