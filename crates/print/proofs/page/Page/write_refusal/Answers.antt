-- `print::page::Page::write_refusal` meets its contract: the line, part by part.
-- Assumes nothing.
use mathlib.Core.Path.{◌≡◌, ap}
use mathlib.Core.List.{List, ◌++◌}
use Prim.Native.Nat.{ℕ}
use Rattle.answer.specs.Outcome.{number}
use Rattle.print.specs.declared.page.Page.{Page}
use Rattle.print.specs.Inner.{Room, Writes}
use Rattle.print.specs.Lines.{spaced, feed, refused_word, refused_line}
use Rattle.print.proofs.WrittenLaws.{room-first, room_1, room_2, room_3, three_written, retold}
use Rattle.print.proofs.page.Page.write_refusal.Goals as goal

-- the line's front, up to a
abbrev front : ℕ → ℕ → List ℕ
front n a = refused_word ++ spaced n ++ spaced a

module _ (n a b : ℕ) {old : Page} (r : Room (refused_line n a b) old) where
  whole_room : Room (front n a ++ spaced b ++ feed) old
  unfolding refused_line
  whole_room = r

  front_room : Room (front n a) old
  front_room = room-first (front n a) (spaced b) (room-first (front n a ++ spaced b) feed whole_room)

  module _ {k : ℕ} (e : k ≡ n) {m1 : Page} (w1 : Writes refused_word old m1) where
    number_next : Room (spaced k) m1
    number_next = rw e (room_2 refused_word (spaced n) (spaced a) front_room w1)

    module _ {m2 : Page} (w2 : Writes (spaced k) m1 m2) where
      numbered : Writes (spaced n) m1 m2
      numbered = retold (ap spaced e) w2

      a_next : Room (spaced a) m2
      a_next = room_3 refused_word (spaced n) (spaced a) front_room w1 numbered

      module _ {m3 : Page} (w3 : Writes (spaced a) m2 m3) where
        front_written : Writes (front n a) old m3
        front_written = three_written refused_word (spaced n) (spaced a) front_room w1 numbered w3

        b_next : Room (spaced b) m3
        b_next = room_2 (front n a) (spaced b) feed whole_room front_written

        module _ {m4 : Page} (w4 : Writes (spaced b) m3 m4) where
          feed_next : Room feed m4
          feed_next = room_3 (front n a) (spaced b) feed whole_room front_written w4

          whole : {m5 : Page} → Writes feed m4 m5 → Writes (refused_line n a b) old m5
          unfolding refused_line
          whole w5 = three_written (front n a) (spaced b) feed whole_room front_written w4 w5

pub write_bytes-requires : goal.write_bytes-requires
write_bytes-requires c =
    let n = number c.args.refusal.kind in
    let a = c.args.refusal.a in
    room_1 refused_word (spaced n) (spaced a) (front_room n a c.args.refusal.b c.requires)

pub write_number-requires : goal.write_number-requires
write_number-requires c = number_next (number c.args.refusal.kind) c.args.refusal.a c.args.refusal.b c.requires c.from.ensures c.write_bytes.ensures.written

pub write_number-requires-2 : goal.write_number-requires-2
write_number-requires-2 c = a_next (number c.args.refusal.kind) c.args.refusal.a c.args.refusal.b c.requires c.from.ensures c.write_bytes.ensures.written c.write_number.ensures.written

pub write_number-requires-3 : goal.write_number-requires-3
write_number-requires-3 c = b_next (number c.args.refusal.kind) c.args.refusal.a c.args.refusal.b c.requires c.from.ensures c.write_bytes.ensures.written c.write_number.ensures.written c.write_number-2.ensures.written

pub write_bytes-requires-2 : goal.write_bytes-requires-2
write_bytes-requires-2 c = feed_next (number c.args.refusal.kind) c.args.refusal.a c.args.refusal.b c.requires c.from.ensures c.write_bytes.ensures.written c.write_number.ensures.written c.write_number-2.ensures.written c.write_number-3.ensures.written

pub returns-clause-written : goal.returns-clause-written
returns-clause-written c = whole (number c.args.refusal.kind) c.args.refusal.a c.args.refusal.b c.requires c.from.ensures c.write_bytes.ensures.written c.write_number.ensures.written c.write_number-2.ensures.written c.write_number-3.ensures.written c.write_bytes-2.ensures.written
