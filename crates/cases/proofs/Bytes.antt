-- P11 and P12 on the bytes: the deal is made, the block of holder 4, and the pile of holders 1 and 4.
-- Assumes nothing.
use mathlib.Core.Path.{◌≡◌, refl, ◌∙◌, ap, subst⁻¹}
use mathlib.Core.List.{List}
use Prim.Native.Nat.{ℕ, ◌*◌, ◌≤◌}
use native.Mathlib.Omega.{arith}
use lib.ListN.{length}
use Rattle.lists.specs.Run.{run}
use Rattle.answer.specs.Outcome.{done, refused}
use Rattle.answer.specs.Checks.{first_fail}
use Rattle.lists.specs.Places.{first_from, first_place, those}
use Rattle.answer.specs.Lent.{no_room}
use Rattle.field.specs.Poly.{value}
use Rattle.field.specs.Pieces.{values as valuesIn}
use Rattle.lists.specs.Some.{each, some}
use Rattle.planning.specs.Sets.{inside, member, stranger, member_count, one_member}
use Rattle.planning.specs.Groups as planning
use Rattle.planning.specs.Groups.{authorised, tight, maximal_by, groups_by, holds}
use Rattle.planning.specs.Planned.{people, long, strangers, nobody, opens, lone, clash_place, clash, list_lines, plan_lines}
use Rattle.block.specs.Words.{word_at, bytes_of, weighted, check_of}
use Rattle.block.specs.Layout.{held_at, range_at, values_of, right_at, first_wrong}
use Rattle.block.specs.Open.{first_above}
use Rattle.block.specs.Written.{body, block_bytes}
use Rattle.dealing.specs.Deal.{block_for, deal_pieces, held_by, card}
use Rattle.lists.specs.Flat.{flat}
use Rattle.dealing.specs.Dealt.{bad_holder, bad_width, bad_secret, bad_count, bad_random, input_lines, block_count, deal_lines, dealing, Made}
use Rattle.dealing.proofs.Laws as law
use Rattle.pile.specs.Blocks.{blocks, rest_from}
use Rattle.block.specs.Deals.{bad_number, bad_year, same_deal}
use Rattle.joining.specs.Pile.{heap_of, in_largest, own_block, place_of, differ_in, present}
use Rattle.pile.specs.Lines.{lines_from, every_block}
use Rattle.joining.specs.Checks.{mixed_at, other_values, other_count, contradicts, contradicted_by, conflict_at, pile_lines}
use Rattle.joining.specs.Joined.{join_lines, joining}
use Rattle.cases.specs.Plain.{set}
use Rattle.cases.specs.Table.{deal_in, deal11, words11, words2026, pile12}

-- holder 4 has one block
one_block : block_count deal11 4 ≡ 1
unfolding block_count held_by planning.held holds groups_by those maximal_by tight authorised some each inside member set
one_block = refl

-- the deal can be made
pub made : Made deal11
unfolding dealing deal_lines first_fail plan_lines list_lines people long strangers nobody opens lone clash clash_place stranger member_count one_member input_lines bad_number bad_year bad_holder bad_width bad_secret bad_count bad_random no_room block_count held_by deal_pieces first_place first_from planning.held holds groups_by those maximal_by tight authorised some each inside member set
made = record { holder = 4; room = 512; blocks = 1; answer = refl }

-- every byte of that block
pub the_block : card deal11 4 ≡ bytes_of words11
unfolding card flat block_for held_by deal_pieces valuesIn value planning.held holds groups_by those maximal_by tight authorised some each inside member set block_bytes body run held_at bytes_of check_of weighted word_at
the_block = refl

-- and of that of the year 2026
pub the_year : card (deal_in 2026) 4 ≡ bytes_of words2026
unfolding card flat block_for held_by deal_pieces valuesIn value planning.held holds groups_by those maximal_by tight authorised some each inside member set block_bytes body run held_at bytes_of check_of weighted word_at
the_year = refl

-- it is dealt into every output that has room for it
pub dealt : (out : List ℕ) → 512 ≤ length out → dealing deal11 4 (length out) ≡ done 1
dealt out room =
    law.deals_all deal11 made 4 (omega arith) (omega arith) (length out) (subst⁻¹ (λ b. 512 * b ≤ length out) one_block room)
    ∙ ap done one_block

-- no output is too short for SHORT: ROOM comes after it
pub short_two : (room : ℕ) → joining pile12 room ≡ refused 20 2 3
unfolding joining join_lines pile_lines lines_from every_block mixed_at other_values other_count contradicts contradicted_by conflict_at blocks rest_from heap_of in_largest own_block same_deal place_of differ_in present first_fail first_from first_above range_at values_of right_at first_wrong card flat block_for held_by deal_pieces valuesIn value planning.held holds groups_by those maximal_by tight authorised some each inside member set block_bytes body run held_at bytes_of check_of weighted word_at
short_two room = refl
