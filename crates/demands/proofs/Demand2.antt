-- Demand 2, proved: each statement by its name in specs/Demand2.antt. Assumes nothing.
use mathlib.Core.Path.{refl, sym, ap, ◌∙◌}
use mathlib.Core.List.{List}
use Prim.Native.Nat.{ℕ, ◌-◌}
use native.Mathlib.Omega.{arith}
use lib.ListN.{length, drop, get_or-append}
use lib.Seq.{drop_at}
use Rattle.lists.specs.Places.{at}
use Rattle.lists.proofs.ThoseLaws.{those_rise}
use Rattle.planning.specs.Sets.{member}
use Rattle.planning.specs.Groups as groups
use Rattle.planning.specs.Groups.{holds}
use Rattle.lists.proofs.Truth.{not_so, so_not}
use Rattle.planning.proofs.Laws as planning
use Rattle.dealing.specs.Deal.{deal_pieces, held_by}
use Rattle.dealing.specs.Dealt.{Made, block_count}
use Rattle.dealing.proofs.HeldLaws.{held_in_lem, in_held}
use Rattle.dealing.proofs.MadeLaws.{made_in_range, made-holder}
use Rattle.dealing.proofs.Laws as dealing
use Rattle.bysets.proofs.ByteLaws.{each_word}
use Rattle.joining.specs.Secret.{secret}
use Rattle.joining.proofs.Laws as joining
use Rattle.demands.specs.Demand2 as demand
use Rattle.demands.proofs.GroupLaws.{all_held, held_all}
use Rattle.demands.proofs.PieceLaws.{is-maximal, maximal-is}
use Rattle.demands.proofs.CardLaws.{block_at}

pub the_pieces : demand.ThePieces
unfolding deal_pieces
the_pieces d =
    let n = d.policy.people in
    let required = d.policy.required in (
      (λ j l u. let r = (planning.groups_are n required (demand.group_of d j)).1 (j, l, u, refl) in is-maximal d (demand.group_of d j) r.0 r.1),
      (λ g m. (planning.groups_are n required g).0 (m.group, maximal-is d g m)),
      planning.groups_rise n required,
    )

pub who_holds : demand.WhoHolds
unfolding held_by groups.held holds
who_holds d i = (
  (λ j. (
    (λ m. let r = held_in_lem d i j m in (r.0, r.1, not_so (member i (demand.group_of d j)) r.2)),
    (λ r. in_held d i j r.0 r.1 (so_not r.2)),
  )),
  (λ a b l h u.
      (those_rise (holds d.policy.people d.policy.required i) 1 (groups.piece_count d.policy.people d.policy.required)).rise (a - 1) (b - 1)
      (omega arith) (omega arith)),
)

pub who_opens : demand.WhoOpens
who_opens d made g group = let few = (made_in_range d made).ready.few in (all_held d g few group, held_all d g few group)

pub one_block : demand.OneBlock
one_block d holder j b c x y = each_word b c (λ i l u. x.words i l u ∙ sym (y.words i l u)) x.check y.check

pub every_byte : demand.EveryByte
unfolding block_count
every_byte d holder out blocks e =
    let made : Made d = record { holder = holder; room = length out; blocks = blocks; answer = e } in
    let h = made-holder d made in
    let r = dealing.result_writes d holder out blocks e in
    (r.0, r.1, λ a l u. block_at d (made_in_range d made) holder h.0 h.1 a l (omega (arith, r.0)), r.3)

pub clash_exactly : demand.ClashExactly
clash_exactly p h = let r = planning.clash_families p h in (r.2, r.0, r.1)

pub joins_exactly : demand.JoinsExactly
joins_exactly pile room w = (joining.then_joins pile room w, joining.joins_then pile room w)

pub join_gives : demand.JoinGives
join_gives pile out w e =
    let r = joining.result_writes pile out w e in (
      (λ i l u.
          let s = joining.joined-secret pile (length out) w i e l u in
          (s.0, s.1, ap (λ (x : List ℕ). at x i) r.1 ∙ get_or-append (secret pile) (drop w out) 0 (i - 1) (omega (arith, r.0)) ∙ s.2)),
      ap (drop w) r.1 ∙ drop_at (secret pile) (drop w out) w r.0,
    )
