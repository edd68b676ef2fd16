-- Writes, one behind the other: what stands in the buffer after them.
-- Assumes nothing.
use mathlib.Core.Path.{◌≡◌, sym, ap, subst, ◌∙◌}
use mathlib.Core.List.{List, [], ◌++◌, append_assoc}
use native.Mathlib.Nat.{le_refl}
use native.Mathlib.Omega.{arith}
use native.Mathlib.Numerals.{unary_clauses}
use Prim.Native.Nat.{ℕ, zero, suc, ◌+◌, ◌-◌, ◌≤◌, ◌<◌}
use lib.ListN.{length, take, drop, length-append, length-drop, take-append-drop}
use lib.Seq.{length-take-le, take_at, drop-append-add, drop-drop}
use borrow.Rule.Slice.PartMut.{put_mid}
use Rattle.lists.specs.Over.{over}
use Rattle.print.specs.declared.page.Page.{Page}
use Rattle.print.specs.Written.{Prints}
use Rattle.print.specs.Inner.{written, Room, Writes}

-- ---- one write
written_none : (at : ℕ) (old : List ℕ) → written at [] old ≡ old
unfolding written
written_none at old = simp unary_clauses (take-append-drop at old)

length-written : (new : List ℕ) (page : Page) → Room new page → length (written page.at new page.out.now) ≡ length page.out.now
unfolding written
length-written new page h =
    let t : length (take page.at page.out.now) ≡ page.at = length-take-le page.at page.out.now (omega (arith, h.room)) in
    simp (length-append, t, length-drop) (omega (arith, h.room))

-- a copy into the stretch that the bytes take
pub copied : (at k : ℕ) (new old now : List ℕ) → k ≡ length new → now ≡ new → put_mid at k old now ≡ written at new old
unfolding written
copied at k new old now e f = rw (f, e, drop-drop (length new) at old)

-- ---- two writes
written-written : (at : ℕ) (new more old : List ℕ) → at + (length new + length more) ≤ length old
    → written (at + length new) more (written at new old) ≡ written at (new ++ more) old
unfolding written
written-written at new more old h =
    let t : length (take at old) ≡ at = length-take-le at old (omega arith) in
    let l : length (take at old ++ new) ≡ at + length new = rw (length-append, t) in
    let x : take (at + length new) (take at old ++ (new ++ drop (at + length new) old)) ≡ take at old ++ new =
    rw (← append_assoc (take at old) new, take_at (take at old ++ new) (drop (at + length new) old) (at + length new) l)
    in
    let y : drop (at + length new + length more) (take at old ++ (new ++ drop (at + length new) old)) ≡ drop (at + length (new ++ more)) old =
    let f : at + length (new ++ more) ≡ at + length new + length more = omega (arith, length-append new more) in
    rw (f, ← append_assoc (take at old) new)
    ((rw l at (drop-append-add (take at old ++ new) (drop (at + length new) old) (length more))) ∙ drop-drop (length more) (at + length new) old)
    in
    rw (x, y) (simp append_assoc)

-- ---- calls, one behind the other
pub nothing : (page : Page) → Writes [] page page
nothing page = record { behind = omega arith; bytes = sym (written_none page.at page.out.now) }

pub same_length : {new : List ℕ} {old now : Page} → Writes new old now → Room new old → length now.out.now ≡ length old.out.now
same_length {new} {old} {now} w h = ap length w.bytes ∙ length-written new old h

pub ◌then◌ : {new more : List ℕ} {old mid now : Page} → Writes new old mid → Writes more mid now → Room (new ++ more) old → Writes (new ++ more) old now
◌then◌ {new} {more} {old} {mid} {now} w v h =
    let l = length-append new more in record {
      behind = omega (arith, v.behind, w.behind);
      bytes = v.bytes ∙ rw (w.bytes, w.behind) (written-written old.at new more old.out.now (omega (arith, h.room)));
    }

-- the same bytes, told in another way
pub retold : {new more : List ℕ} {old now : Page} → new ≡ more → Writes new old now → Writes more old now
retold {new} {more} {old} {now} e w = subst (λ (l : List ℕ). Writes l old now) e w

-- room for two writes is room for the first, and then for the second
pub room-first : (new more : List ℕ) {page : Page} → Room (new ++ more) page → Room new page
room-first new more h = record { room = omega (arith, length-append new more, h.room) }

pub room_next : {new : List ℕ} (more : List ℕ) {old mid : Page} → Writes new old mid → Room (new ++ more) old → Room more mid
room_next {new} more {old} {mid} w h =
    record { room = omega (arith, length-append new more, h.room, w.behind, same_length w (room-first new more h)) }

-- ---- three calls
module _ (one two three : List ℕ) {old : Page} (h : Room (one ++ two ++ three) old) where
  pub room_1 : Room one old
  room_1 = room-first one two (room-first (one ++ two) three h)

  module _ {mid : Page} (v : Writes one old mid) where
    pub room_2 : Room two mid
    room_2 = room_next two v (room-first (one ++ two) three h)

    module _ {next : Page} (w : Writes two mid next) where
      both : Writes (one ++ two) old next
      both = ◌then◌ v w (room-first (one ++ two) three h)

      pub room_3 : Room three next
      room_3 = room_next three both h

      pub three_written : {now : Page} → Writes three next now → Writes (one ++ two ++ three) old now
      three_written x = ◌then◌ both x h

-- ---- a loop of calls: what is written grows by a part at each turn
module _ (whole part : ℕ → List ℕ) (grows : (i : ℕ) → whole (i + 1) ≡ whole i ++ part i) where
  longer : (i more : ℕ) → length (whole i) ≤ length (whole (i + more))
  longer i zero = let e : i + 0 ≡ i = omega arith in rw e (le_refl (length (whole i)))
  longer i (suc more) =
      let e : i + suc more ≡ i + more + 1 = omega arith in
      rw (e, grows (i + more)) (omega (arith, longer i more, length-append (whole (i + more)) (part (i + more))))

  module _ (i n : ℕ) (l : i < n) {old mid : Page} (h : Room (whole n) old) (w : Writes (whole i) old mid) where
    room_so_far : Room (whole i ++ part i) old
    room_so_far =
        let e : i + 1 + (n - (i + 1)) ≡ n = omega arith in
        record { room = omega (arith, h.room, ap length (grows i), rw e at (longer (i + 1) (n - (i + 1)))) }

    pub turn_room : Room (part i) mid
    turn_room = room_next (part i) w room_so_far

    pub turn_written : {now : Page} → Writes (part i) mid now → Writes (whole (i + 1)) old now
    turn_written v = retold (sym (grows i)) (◌then◌ w v room_so_far)

-- a page with nothing written on it has room for what the buffer has room for
pub room_in_front : (new : List ℕ) {page : Page} → page.at ≡ 0 → length new ≤ length page.out.now → Room new page
room_in_front new z h = record { room = omega arith }

-- what is written from the start on is printed
written-front : (new old : List ℕ) → written 0 new old ≡ over new old
unfolding written over
written-front new old = let z : 0 + length new ≡ length new = omega arith in ap (λ (k : ℕ). new ++ drop k old) z

pub printed : {new lent : List ℕ} {old now : Page} → old.out.now ≡ lent → old.at ≡ 0 → Writes new old now → Room new old → Prints new lent now.out.now now.at
printed {new} {lent} {old} {now} e z w h =
    let l : length now.out.now ≡ length old.out.now = same_length w h in
    let f : now.at ≤ length now.out.now = omega (arith, w.behind, h.room) in record {
      length-is = omega (arith, w.behind);
      bytes = w.bytes ∙ ap (λ (k : ℕ). written k new old.out.now) z ∙ written-front new old.out.now ∙ ap (over new) e;
      fits = f;
      counts = sym (length-take-le now.at now.out.now f);
    }
