-- Demand 1 of dealing by sets, proved: each statement by its name in specs/SetDealing.antt. Assumes nothing.
use mathlib.Core.Path.{refl, ◌∙◌}
use Rattle.answer.proofs.CheckLaws.{append-lines, same_refusal}
use Rattle.answer.proofs.WhichLaws.{refused-number, not_seven}
use Rattle.planning.specs.Planned.{plan_lines, planned}
use Rattle.dealing.specs.Dealt.{input_lines}
use Rattle.bysets.specs.Dealt.{set_block_count, set_deal_lines, set_dealing}
use Rattle.bysets.proofs.MadeLaws.{made_in_range}
use Rattle.demands.specs.SetDealing as demand
use Rattle.demands.proofs.LineLaws.{ends}

pub set_deal_ends : demand.SetDealEnds
unfolding set_dealing
set_deal_ends d holder room = ends (set_deal_lines d holder room) (set_block_count d holder)

pub set_deal_order : demand.SetDealOrder
unfolding set_deal_lines input_lines
set_deal_order d holder room = refl

pub set_deal_refuses : demand.SetDealRefuses
unfolding set_dealing
set_deal_refuses d holder room =
    (refused-number (set_deal_lines d holder room) (set_block_count d holder), not_seven (set_deal_lines d holder room) (set_block_count d holder))

pub set_deal_as_planned : demand.SetDealAsPlanned
unfolding set_dealing set_deal_lines planned
set_deal_as_planned d holder room m a b e = append-lines (plan_lines d.policy) _ _ ∙ same_refusal (plan_lines d.policy) _ _ m a b e

pub set_deal_small : demand.SetDealSmall
set_deal_small d holder room blocks e =
    let f = made_in_range d (record { holder = holder; room = room; blocks = blocks; answer = e }) in
    (f.ready.secret_in, f.ready.random_in.below)
