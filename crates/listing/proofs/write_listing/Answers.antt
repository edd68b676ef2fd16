-- `listing::write_listing` meets its contract: the first line, the pieces, the holders.
-- Assumes nothing.
use mathlib.Core.Bool.{not}
use mathlib.Core.List.{List}
use Prim.Native.Nat.{ℕ}
use Rattle.planning.specs.Groups.{marked}
use Rattle.planning.specs.declared.table.Plan.{Plan}
use Rattle.print.specs.Lines.{rising}
use Rattle.print.proofs.WrittenLaws.{room_1, room_2, room_3, three_written}
use Rattle.listing.specs.Listing.{first_line, piece_line, holder_line, listing_by}
use Rattle.listing.proofs.write_listing.Goals as goal

abbrev pieces : ℕ → Plan → List ℕ
pieces people plan = rising (λ j. piece_line (marked plan.rows j) people j) plan.pieces

abbrev holders : ℕ → Plan → List ℕ
holders people plan = rising (λ i. holder_line (λ j. not (marked plan.rows j i)) plan.pieces i) people

pub write_pair-requires : goal.write_pair-requires
unfolding listing_by first_line
write_pair-requires c =
    let n = c.args.people in
    let p = c.args.plan.now in
    room_1 (first_line n p.pieces) (pieces n p) (holders n p) c.requires.room

pub write_pieces-requires-clause-room : goal.write_pieces-requires-clause-room
unfolding listing_by first_line
write_pieces-requires-clause-room c =
    let n = c.args.people in
    let p = c.args.plan.now in
    room_2 (first_line n p.pieces) (pieces n p) (holders n p) c.requires.room c.write_pair.ensures.written

pub write_holders-requires-clause-room : goal.write_holders-requires-clause-room
unfolding listing_by first_line
write_holders-requires-clause-room c =
    let n = c.args.people in
    let p = c.args.plan.now in
    room_3 (first_line n p.pieces) (pieces n p) (holders n p) c.requires.room c.write_pair.ensures.written c.write_pieces.ensures.written

pub returns-clause-written : goal.returns-clause-written
unfolding listing_by first_line
returns-clause-written c =
    let n = c.args.people in
    let p = c.args.plan.now in
    three_written (first_line n p.pieces) (pieces n p) (holders n p) c.requires.room c.write_pair.ensures.written c.write_pieces.ensures.written
    c.write_holders.ensures.written
