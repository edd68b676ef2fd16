-- `print::page::Page::write_pair` meets its contract: the label, the second number, the line feed. Assumes nothing.
use Rattle.print.specs.Lines.{spaced, feed, label, pair_line}
use Rattle.print.proofs.WrittenLaws.{room_1, room_2, room_3, three_written}
use Rattle.print.proofs.page.Page.write_pair.Goals as goal

pub write_label-requires : goal.write_label-requires
unfolding pair_line
write_label-requires c =
    room_1 (label c.args.word.now c.args.n c.args.more.now) (spaced c.args.m) feed c.requires

pub write_number-requires : goal.write_number-requires
unfolding pair_line
write_number-requires c =
    room_2 (label c.args.word.now c.args.n c.args.more.now) (spaced c.args.m) feed c.requires c.write_label.ensures.written

pub write_bytes-requires : goal.write_bytes-requires
unfolding pair_line
write_bytes-requires c =
    room_3 (label c.args.word.now c.args.n c.args.more.now) (spaced c.args.m) feed c.requires c.write_label.ensures.written c.write_number.ensures.written

pub returns-clause-written : goal.returns-clause-written
unfolding pair_line
returns-clause-written c =
    three_written (label c.args.word.now c.args.n c.args.more.now) (spaced c.args.m) feed c.requires c.write_label.ensures.written c.write_number.ensures.written c.write_bytes.ensures.written
