-- Demand 1, proved: each statement by its name in specs/Demand1.antt. Assumes nothing.
use mathlib.Core.Path.{refl, sym, subst⁻¹, ◌∙◌}
use lib.ListN.{length}
use Rattle.answer.proofs.WhichLaws.{refused-number, not_seven}
use Rattle.planning.specs.Groups.{piece_count}
use Rattle.planning.specs.Planned.{plan_lines, planned, list_lines}
use Rattle.block.specs.Layout.{front_words}
use Rattle.block.specs.Open.{block_lines, opening}
use Rattle.block.proofs.Laws.{which_refusals}
use Rattle.dealing.specs.Dealt.{input_lines, block_count, deal_lines, dealing}
use Rattle.dealing.proofs.DealLaws.{refused_deal}
use Rattle.dealing.proofs.MadeLaws.{made_in_range}
use Rattle.dealing.proofs.Laws as dealt
use Rattle.pile.specs.Blocks.{blocks, rest_from}
use Rattle.joining.specs.Pile.{own_width}
use Rattle.pile.specs.Lines.{every_block}
use Rattle.pile.proofs.LineLaws.{in_order}
use Rattle.joining.specs.Joined.{join_lines, joining}
use Rattle.joining.proofs.PlaceLaws.{join_lines_lem}
use Rattle.joining.proofs.Laws as joined
use Rattle.demands.specs.Demand1 as demand
use Rattle.demands.proofs.LineLaws.{ends}
use Rattle.demands.proofs.UnreadLaws.{unread}

-- ---- a result or a refusal
pub plan_ends : demand.PlanEnds
unfolding planned
plan_ends p = ends (plan_lines p) (piece_count p.people p.required)

pub deal_ends : demand.DealEnds
unfolding dealing
deal_ends d holder room = ends (deal_lines d holder room) (block_count d holder)

pub join_ends : demand.JoinEnds
unfolding joining
join_ends pile room = ends (join_lines pile room) (own_width pile)

pub open_ends : demand.OpenEnds
unfolding opening
open_ends pile = ends (demand.open_lines pile) (front_words pile)

-- ---- the order
pub plan_order : demand.PlanOrder
unfolding plan_lines list_lines
plan_order p = refl

pub deal_order : demand.DealOrder
unfolding deal_lines input_lines
deal_order d holder room = refl

pub open_order : demand.OpenOrder
open_order pile = refl

pub join_order : demand.JoinOrder
join_order = join_lines_lem

pub block_order : demand.BlockOrder
unfolding every_block
block_order pile = in_order pile (λ a. block_lines (rest_from pile a) a) (blocks pile) 1 (λ a l m. refl)

-- ---- the refusals of each call
pub plan_refuses : demand.PlanRefuses
unfolding planned
plan_refuses p =
    let k = piece_count p.people p.required in
    (refused-number (plan_lines p) k, not_seven (plan_lines p) k)

pub deal_refuses : demand.DealRefuses
unfolding dealing
deal_refuses d holder room =
    (refused-number (deal_lines d holder room) (block_count d holder), not_seven (deal_lines d holder room) (block_count d holder))

pub join_refuses : demand.JoinRefuses
unfolding joining
join_refuses pile room = refused-number (join_lines pile room) (own_width pile)

pub open_refuses : demand.OpenRefuses
unfolding opening
open_refuses pile = refused-number (demand.open_lines pile) (front_words pile)

pub opening-places : demand.OpeningPlaces
opening-places = which_refusals

pub deal_as_planned : demand.DealAsPlanned
deal_as_planned d holder room m a b e = sym (refused_deal d m a b e holder room)

-- ---- nothing lent is changed
pub deal_keeps : demand.DealKeeps
deal_keeps = dealt.refusal_keeps

pub join_keeps : demand.JoinKeeps
join_keeps = joined.refusal_keeps

pub either_joins : demand.EitherJoins
either_joins pile old x out p = (
  subst⁻¹ (demand.Ends (join_lines pile (length old)) (own_width pile)) p.says (join_ends pile (length old)),
  subst⁻¹ (demand.Refuses (join_lines pile (length old))) p.says (join_refuses pile (length old)),
  λ m a b e. p.leaves ∙ join_keeps pile old m a b (sym p.says ∙ e),
)

-- ---- slots
pub join_small : demand.JoinSmall
join_small pile room w e a i h l u = ((joined.then_joins pile room w e).sound.blocks_true.block a h.0 h.1).clean.small i l u

pub join_unread : demand.JoinUnread
join_unread pile room a i whole few k t dirty = unread pile a i dirty room whole few k t

pub deal_small : demand.DealSmall
deal_small d holder room blocks e =
    let f = made_in_range d (record { holder = holder; room = room; blocks = blocks; answer = e }) in
    (f.ready.secret_in, f.ready.random_in.below)
