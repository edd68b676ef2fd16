-- `salvaged_text::write_report` meets its contract: the first line, then the places.
-- Assumes nothing.
use Rattle.print.specs.Lines.{feed, label, rising}
use Rattle.print.proofs.WrittenLaws.{◌then◌, room-first, room_next}
use Rattle.salvaged_text.specs.Salvaged.{rebuilt_label, place_line, report}
use Rattle.salvaged_text.proofs.write_report.Goals as goal

pub write_label-requires : goal.write_label-requires
unfolding report
write_label-requires c = room-first (label rebuilt_label c.args.n feed) (rising (place_line c.args.list.now) c.args.n) c.requires.room

pub write_places-requires-clause-room : goal.write_places-requires-clause-room
unfolding report
write_places-requires-clause-room c = room_next (rising (place_line c.args.list.now) c.args.n) c.write_label.ensures.written c.requires.room

pub returns-clause-written : goal.returns-clause-written
unfolding report
returns-clause-written c = ◌then◌ c.write_label.ensures.written c.write_places.ensures.written c.requires.room
