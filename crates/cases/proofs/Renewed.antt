-- The worked case of renewal, proved: by computation at an output of 512 bytes, and for whatever output is lent by the laws of adding.
-- Assumes nothing.
use mathlib.Core.Path.{◌≡◌, refl, ◌∙◌, ap}
use mathlib.Core.List.{List, ◌++◌}
use Prim.Native.Nat.{ℕ, ◌≤◌}
use lib.ListN.{length, drop}
use Rattle.lists.specs.Run.{run}
use Rattle.lists.specs.Places.{first_from, those}
use Rattle.lists.specs.Some.{each, some}
use Rattle.lists.specs.Flat.{flat}
use Rattle.answer.specs.Outcome.{done}
use Rattle.answer.specs.Checks.{first_fail}
use Rattle.answer.specs.Lent.{no_room}
use Rattle.prime.specs.Prime.{minus}
use Rattle.field.specs.Poly.{value}
use Rattle.field.specs.Pieces.{values as valuesIn}
use Rattle.field.specs.Added.{added}
use Rattle.field.specs.Joined.{joined, joined_in, diffs}
use Rattle.planning.specs.Sets.{inside, member}
use Rattle.planning.specs.Groups as planning
use Rattle.planning.specs.Groups.{authorised, tight, maximal_by, groups_by, holds}
use Rattle.block.specs.Words.{word_at, bytes_of, weighted, check_of}
use Rattle.block.specs.Deals.{bad_number, bad_year}
use Rattle.block.specs.Layout.{held_at, range_at, values_of, right_at, first_wrong}
use Rattle.block.specs.Open.{first_above, first_foreign}
use Rattle.block.specs.Written.{body, block_bytes}
use Rattle.dealing.specs.Deal.{block_for, deal_pieces, held_by, card}
use Rattle.adding.specs.Sum.{pair_of, unlike_at, sum_of}
use Rattle.adding.specs.Adding.{same_pair, add_lines, adding}
use Rattle.adding.proofs.Laws.{add_exactly, result_writes}
use Rattle.cases.specs.Plain.{set}
use Rattle.cases.specs.Table.{deal11}
use Rattle.cases.specs.Renewed.{zeros11, renewed11, Renewed}

-- every byte of the sum
the_sum : sum_of (card deal11 4) (card zeros11 4) (pair_of 9 0) ≡ bytes_of renewed11
unfolding sum_of added values_of card flat block_for held_by deal_pieces valuesIn value planning.held holds groups_by those maximal_by tight authorised some each inside member set block_bytes body run held_at bytes_of check_of weighted word_at
the_sum = refl

-- the two blocks add up into 512 bytes
adds_in_512 : adding (card deal11 4) (card zeros11 4) (pair_of 9 0) 512 ≡ done 1
unfolding adding add_lines unlike_at first_fail first_from first_above range_at right_at first_wrong first_foreign bad_number bad_year same_pair no_room values_of card flat block_for held_by deal_pieces valuesIn value planning.held holds groups_by those maximal_by tight authorised some each inside member set block_bytes body run held_at bytes_of check_of weighted word_at
adds_in_512 = refl

adds : (room : ℕ) → 512 ≤ room → adding (card deal11 4) (card zeros11 4) (pair_of 9 0) room ≡ done 1
adds room h =
    let y = ((add_exactly (card deal11 4) (card zeros11 4) (pair_of 9 0) 512 1).0 adds_in_512).0 in
    (add_exactly (card deal11 4) (card zeros11 4) (pair_of 9 0) room 1).1 (
      record {
        whole_one = y.whole_one;
        whole_two = y.whole_two;
        true_one = y.true_one;
        true_two = y.true_two;
        mark_one = y.mark_one;
        mark_two = y.mark_two;
        alike = y.alike;
        number_in_lem = y.number_in_lem;
        year_in = y.year_in;
        unlike_one = y.unlike_one;
        unlike_two = y.unlike_two;
        fits = h;
      },
      refl,
    )

pub renewed : Renewed
unfolding run value joined joined_in diffs minus added
renewed =
    record {
      zeros = refl;
      pieces = refl;
      joins = refl;
      block = λ out h.
          let e = adds (length out) h in
          (e, result_writes (card deal11 4) (card zeros11 4) (pair_of 9 0) out e ∙ ap (λ (b : List ℕ). b ++ drop 512 out) the_sum);
    }
