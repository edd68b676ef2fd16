-- P1 to P12, proved: by computation, and for whatever output is lent by the laws of dealing and joining.
-- Assumes nothing.
use mathlib.Core.Path.{refl, ◌∙◌, ap}
use mathlib.Core.List.{◌++◌}
use lib.ListN.{length, drop}
use Rattle.answer.specs.Checks.{first_fail}
use Rattle.lists.specs.Places.{first_from, first_place, those}
use Rattle.field.specs.Poly.{value}
use Rattle.lists.specs.Run.{run}
use Rattle.field.specs.Joined.{joined, joined_in, diffs}
use Rattle.field.specs.Differences.{rows_in, rows, firsts, with_plus, with_minus, alternating, by_differences}
use Rattle.field.specs.Lagrange.{weighed}
use Rattle.triangle.specs.Triangle.{choose, weight}
use Rattle.prime.specs.Prime.{minus}
use Rattle.planning.specs.Sets.{member, inside, stranger, member_count, one_member, marks}
use Rattle.lists.specs.Some.{each, some}
use Rattle.planning.specs.Groups.{authorised, tight, maximal_by, groups_by, holds, held, rows_of}
use Rattle.planning.specs.Planned.{people, long, strangers, nobody, opens, lone, clash_place, clash, list_lines, plan_lines, planned, planned_rows}
use Rattle.dealing.proofs.Laws as dealing
use Rattle.joining.proofs.Laws as joining
use Rattle.cases.specs.Plain.{set}
use Rattle.cases.specs.Table.{deal11, pile12, Table}
use Rattle.cases.proofs.Listing.{prints}
use Rattle.cases.proofs.Bytes.{the_block, the_year, dealt, short_two}

pub table : Table
unfolding planned planned_rows rows_of marks plan_lines list_lines people long strangers nobody opens lone clash_place clash first_fail first_from first_place those member each inside stranger member_count one_member some authorised tight maximal_by groups_by holds held set run value joined joined_in diffs rows_in rows firsts with_plus with_minus alternating by_differences minus choose weight weighed
table =
    record {
      p1 = (record { answer = refl; groups_are = refl; rows = refl }, refl, prints);
      p2 = refl;
      p3 = (record { answer = refl; groups_are = refl; rows = refl }, refl);
      p4 = (record { answer = refl; groups_are = refl; rows = refl }, refl);
      p5 = refl;
      p6 = record { answer = refl; groups_are = refl; rows = refl };
      p7 = refl;
      p8 = refl;
      p8_by_differences = (refl, refl, refl, refl);
      p8_by_weights = refl;
      p9 = refl;
      p10 = (refl, refl);
      p11 = (the_block, λ out room. (dealt out room, (dealing.result_writes deal11 4 out 1 (dealt out room)).3 ∙ ap (λ b. b ++ drop 512 out) the_block));
      p11-year = the_year;
      p12 = λ out. (short_two (length out), joining.refusal_keeps pile12 out 20 2 3 (short_two (length out)));
    }
