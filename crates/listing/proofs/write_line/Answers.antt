-- `listing::write_line` meets its contract: the label, the numbers, the line feed.
-- Assumes nothing.
use Rattle.print.specs.Lines.{spaced_all, feed, label}
use Rattle.print.proofs.WrittenLaws.{room_1, room_2, room_3, three_written}
use Rattle.listing.specs.Inner.{marked_numbers}
use Rattle.listing.proofs.write_line.Goals as goal

pub write_label-requires : goal.write_label-requires
write_label-requires c =
    room_1 (label c.args.word.now c.args.number c.args.more.now) (spaced_all (marked_numbers c.args.marks.now)) feed c.requires

pub write_marked-requires : goal.write_marked-requires
write_marked-requires c =
    room_2 (label c.args.word.now c.args.number c.args.more.now) (spaced_all (marked_numbers c.args.marks.now)) feed c.requires
    c.write_label.ensures.written

pub write_bytes-requires : goal.write_bytes-requires
write_bytes-requires c =
    room_3 (label c.args.word.now c.args.number c.args.more.now) (spaced_all (marked_numbers c.args.marks.now)) feed c.requires
    c.write_label.ensures.written c.write_marked.ensures.written

pub returns-clause-written : goal.returns-clause-written
returns-clause-written c =
    three_written (label c.args.word.now c.args.number c.args.more.now) (spaced_all (marked_numbers c.args.marks.now)) feed c.requires
    c.write_label.ensures.written c.write_marked.ensures.written c.write_bytes.ensures.written
