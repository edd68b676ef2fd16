-- The demands for cards that are added and renewed, proved: each statement by its name in specs/Renewal.antt. Assumes nothing.
use mathlib.Core.Path.{◌≡◌, refl, sym, ap, ◌∙◌}
use mathlib.Core.Logic.{⊎_elim}
use Rattle.field.proofs.HidingLaws.{none_favoured}
use Rattle.answer.proofs.WhichLaws.{refused-number}
use Rattle.block.specs.declared.deal.DealWords.{DealWords}
use Rattle.adding.specs.Sum.{pair_of, pair_in}
use Rattle.adding.specs.Adding.{add_lines, adding}
use Rattle.adding.proofs.Laws as law
use Rattle.dealing.specs.Deal.{deal_pieces}
use Rattle.pile.specs.Blocks.{rest_from}
use Rattle.joining.proofs.Laws.{joins_then, then_joins}
use Rattle.demands.specs.Group.{members, gathers, gathered}
use Rattle.demands.specs.Renewal as demand
use Rattle.demands.proofs.LineLaws.{ends}
use Rattle.demands.proofs.Demand3.{opens, short, nobody_alone}
use Rattle.demands.proofs.RenewalSums.{summed}
use Rattle.demands.proofs.RenewalJoins.{sums_join, secret-sum}
use Rattle.demands.proofs.RenewalCards.{renewed-made, each-accepted, new_card_lem, contains_there, contains_back, one_there, whole-cards}
use Rattle.demands.proofs.RenewalHiding.{hidden}

-- ---- demand 1
pub add_ends : demand.AddEnds
unfolding adding
add_ends one two new room = (ends (add_lines one two new room) 1, refused-number (add_lines one two new room) 1)

pub add_order : demand.AddOrder
unfolding add_lines
add_order one two new room = refl

pub add_keeps : demand.AddKeeps
add_keeps = law.refusal_keeps

-- ---- piles
pub sum-joins : demand.SumJoins
sum-joins one two new room w v same accepted e f =
    let t = then_joins one room w e in
    let s = then_joins two room v f in (
      joins_then (demand.sum_pile one two new) room w (sums_join (summed one two new same accepted) room w v t s),
      secret-sum (summed one two new same accepted) room w v t s,
    )

pub old_and_new : demand.OldAndNew
old_and_new one two new room e pile a b h k is old lent w joins =
    let t = ((law.add_exactly one two new room 1).0 e).0 in
    let same : pair_in (rest_from pile a) ≡ pair_in (rest_from pile b) =
    ap (λ (d : DealWords). pair_of d.number d.year) ((then_joins pile lent w joins).sound.one_deal a b h k) in
    ⊎_elim (λ (x : pair_in (rest_from pile b) ≡ pair_in one). t.unlike_one (sym is ∙ same ∙ x))
    (λ (x : pair_in (rest_from pile b) ≡ pair_in two). t.unlike_two (sym is ∙ same ∙ x)) old

-- ---- the new cards
pub renewed-card : demand.RenewedCard
renewed-card d z new r = (renewed-made d z new r, λ i l u. (each-accepted d z new r i l u, new_card_lem d z new r i l u))

pub renewed-opens : demand.RenewedOpens
renewed-opens d z new r g group c pile w out h =
    opens (demand.renewed d z new) (renewed-made d z new r) g group (contains_there d z new g c) pile (whole-cards d z new r g pile w) out h

pub renewed-short : demand.RenewedShort
unfolding gathered gathers members deal_pieces
renewed-short d z new r g group n pile w out =
    short (demand.renewed d z new) (renewed-made d z new r) g group (λ c. n (contains_back d z new g c)) pile (whole-cards d z new r g pile w) out

pub renewed_alone : demand.RenewedAlone
unfolding gathered gathers members deal_pieces
renewed_alone d z new r g group one pile w out =
    nobody_alone (demand.renewed d z new) (renewed-made d z new r) g group (one_there d z new g one) pile (whole-cards d z new r g pile w) out

-- ---- one group shows its old cards, another its new ones
pub renewal_hides : demand.RenewalHides
renewal_hides = hidden

pub renewal_favours_none : demand.RenewalFavoursNone
renewal_favours_none d z new r g h group none group' none' other e b c = none_favoured (hidden d z new r g h group none group' none' other e b) c
