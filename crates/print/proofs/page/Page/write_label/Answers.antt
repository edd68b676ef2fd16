-- `print::page::Page::write_label` meets its contract: the word, the number, and how the line goes on. Assumes nothing.
use Rattle.print.specs.Lines.{spaced, label}
use Rattle.print.proofs.WrittenLaws.{room_1, room_2, room_3, three_written}
use Rattle.print.proofs.page.Page.write_label.Goals as goal

pub write_bytes-requires : goal.write_bytes-requires
unfolding label
write_bytes-requires c =
    room_1 c.args.word.now (spaced c.args.n) c.args.more.now c.requires

pub write_number-requires : goal.write_number-requires
unfolding label
write_number-requires c =
    room_2 c.args.word.now (spaced c.args.n) c.args.more.now c.requires c.write_bytes.ensures.written

pub write_bytes-requires-2 : goal.write_bytes-requires-2
unfolding label
write_bytes-requires-2 c =
    room_3 c.args.word.now (spaced c.args.n) c.args.more.now c.requires c.write_bytes.ensures.written c.write_number.ensures.written

pub returns-clause-written : goal.returns-clause-written
unfolding label
returns-clause-written c =
    three_written c.args.word.now (spaced c.args.n) c.args.more.now c.requires c.write_bytes.ensures.written c.write_number.ensures.written c.write_bytes-2.ensures.written
