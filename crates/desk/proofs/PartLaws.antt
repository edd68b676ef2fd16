-- The state after a call, put together from the parts that the functions on values make. Assumes nothing.
use mathlib.Core.Path.{◌≡◌, refl}
use mathlib.Core.List.{List}
use Prim.Native.Nat.{ℕ}
use Rattle.answer.specs.Outcome.{Outcome, done, refused}
use Rattle.block.specs.Open.{by_outcome}
use Rattle.desk.specs.declared.Opening.{Opening}
use Rattle.desk.specs.declared.Clients.{Clients}
use Rattle.desk.specs.declared.Desk.{Desk}
use Rattle.desk.specs.Opens.{no_words, words_of}
use Rattle.desk.specs.Slots.{cleared}
use Rattle.desk.specs.Lines.{with_slots, open_at, open_desk, hand_slots, hand_at, hand_desk, close_at, close_desk}
use Rattle.desk.specs.Parts.{put, open_clients, hand_into, close_clients, close_into}

-- the desk with these words of both
abbrev pub with_clients : Desk → Clients → Desk
with_clients d both = record { slots = d.slots; clients = both }

-- antt compares two records by their fields
abbrev made : List ℕ → Clients → Desk
made slots both = record { slots = slots; clients = both }

by_parts : (x : Outcome ℕ) (l m : List ℕ) (a b : Clients) → made (by_outcome x l m) (by_outcome x a b) ≡ by_outcome x (made l a) (made m b)
by_parts (done v) l m a b = refl
by_parts (refused n u w) l m a b = refl

by_clients : (x : Outcome ℕ) (l : List ℕ) (a b : Clients) → made l (by_outcome x a b) ≡ by_outcome x (made l a) (made l b)
by_clients (done v) l a b = refl
by_clients (refused n u w) l a b = refl

by_slots : (x : Outcome ℕ) (l m : List ℕ) (a : Clients) → made (by_outcome x l m) a ≡ by_outcome x (made l a) (made m a)
by_slots (done v) l m a = refl
by_slots (refused n u w) l m a = refl

pub open_parts : (d : Desk) (c : ℕ) (new : Opening) → with_clients d (open_clients d.clients c new) ≡ open_desk d c new
unfolding open_desk
open_parts d c new = by_clients (open_at d c new) d.slots (put d.clients c new) d.clients

pub hand_parts : (d : Desk) (c : ℕ) (b : List ℕ) → with_slots d (hand_into d.slots (words_of d c) c b) ≡ hand_desk d c b
unfolding hand_desk
hand_parts d c b = by_slots (hand_at d c b) (hand_slots d.slots (words_of d c) c b) d.slots d.clients

pub close_parts : (d : Desk) (c : ℕ)
    → with_slots (with_clients d (close_clients d.clients c)) (close_into d.slots (words_of d c) c) ≡ close_desk d c
unfolding close_desk
close_parts d c = by_parts (close_at d c) (cleared d.slots (words_of d c) c) d.slots (put d.clients c no_words) d.clients
