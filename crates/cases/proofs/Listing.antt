-- P1 on the bytes: what the listing program prints for the text, by computation.
-- Assumes nothing.
use mathlib.Core.Path.{◌≡◌, refl}
use Rattle.answer.specs.Checks.{first_fail}
use Rattle.lists.specs.Places.{first_from, first_place, those}
use Rattle.planning.specs.Sets.{member, inside, stranger, member_count, one_member}
use Rattle.lists.specs.Some.{each, some}
use Rattle.planning.specs.Groups.{authorised, tight, maximal_by, groups_by, holds}
use Rattle.planning.specs.Planned.{people, long, strangers, nobody, opens, lone, clash_place, clash, list_lines, plan_lines, planned}
use Rattle.print.specs.Decimal.{digits}
use Rattle.print.specs.Lines.{spaced, spaced_all, label, pair_line, rising}
use Rattle.policy.specs.Policy.{lines, begins, one_digit, people_in, members, line_says, required_in, forbidden_in, bad_at, bad_line, policy_in, read_policy}
use Rattle.listing.specs.Listing.{first_line, piece_line, holder_line, listing_by, listing, listed_plan, listed}
use Rattle.cases.specs.Plain.{bytes, text_of}
use Rattle.cases.specs.Table.{text1, printed1}

pub prints : listed text1 ≡ printed1
unfolding listed listed_plan listing listing_by rising holder_line piece_line first_line pair_line label spaced_all spaced digits lines begins one_digit people_in members line_says required_in forbidden_in bad_at bad_line policy_in read_policy bytes text_of planned plan_lines list_lines people long strangers nobody opens lone clash_place clash first_fail first_from first_place those member each inside stranger member_count one_member some authorised tight maximal_by groups_by holds
prints = refl
