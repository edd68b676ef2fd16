-- `print::page::Page::write_secret` meets its contract: the word, the numbers, the line feed. Assumes nothing.
use Rattle.print.specs.Lines.{spaced_all, feed, secret_word, secret_line}
use Rattle.print.proofs.WrittenLaws.{room_1, room_2, room_3, three_written}
use Rattle.print.proofs.page.Page.write_secret.Goals as goal

pub write_bytes-requires : goal.write_bytes-requires
unfolding secret_line
write_bytes-requires c =
    room_1 secret_word (spaced_all c.args.words.now) feed c.requires

pub write_words-requires : goal.write_words-requires
unfolding secret_line
write_words-requires c =
    room_2 secret_word (spaced_all c.args.words.now) feed c.requires c.write_bytes.ensures.written

pub write_bytes-requires-2 : goal.write_bytes-requires-2
unfolding secret_line
write_bytes-requires-2 c =
    room_3 secret_word (spaced_all c.args.words.now) feed c.requires c.write_bytes.ensures.written c.write_words.ensures.written

pub returns-clause-written : goal.returns-clause-written
unfolding secret_line
returns-clause-written c =
    three_written secret_word (spaced_all c.args.words.now) feed c.requires c.write_bytes.ensures.written c.write_words.ensures.written c.write_bytes-2.ensures.written
