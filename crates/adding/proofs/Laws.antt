-- This room's laws, proved: each by its name in specs/Laws.antt. Assumes nothing.
use mathlib.Core.Path.{refl, sym, ap, ◌∙◌}
use mathlib.Core.List.{[], ◌∷◌, ◌++◌}
use Prim.Native.Nat.{ℕ}
use lib.ListN.{drop}
use Rattle.lists.specs.Over.{over}
use Rattle.lists.specs.Some.{some}
use Rattle.answer.specs.Outcome.{done}
use Rattle.answer.specs.Lent.{no_room}
use Rattle.answer.proofs.CheckLaws.{passed-append}
use Rattle.answer.proofs.WhichLaws.{only_one, first_found}
use Rattle.block.specs.Deals.{bad_number, bad_year}
use Rattle.block.specs.Open.{one_lines}
use Rattle.block.proofs.OpenLaws.{one_true}
use Rattle.adding.specs.Sum.{differ, unlike_at, sum_of}
use Rattle.adding.specs.Adding.{unlike, repeated, add_lines, adding}
use Rattle.adding.specs.Laws as law
use Rattle.adding.proofs.AddLaws.{addable, of_addable}
use Rattle.adding.proofs.SumLaws as sum

pub add_exactly : law.AddExactly
add_exactly one two new room n = (addable one two new room n, λ y. of_addable one two new room y.0 ∙ ap done (sym y.1))

pub sum_true : law.SumTrue
sum_true one two new room e = let y = (addable one two new room 1 e).0 in (sum.sum-length y, sum.sum_true y, sum.sum-label y, sum.sum-values y)

pub add_exchange : law.AddExchange
add_exchange one two new room e = let y = (addable one two new room 1 e).0 in (of_addable two one new room (sum.turned y), sum.sum_exchanged y)

pub add_groups : law.AddGroups
add_groups one two three left right new room e f g h = sum.sum_grouped (addable one two left room 1 e).0 (addable two three right room 1 g).0 new

pub unlike-places : law.UnlikePlaces
unfolding adding add_lines unlike_at some bad_number bad_year no_room
unlike-places one two new room a b e =
    let r =
    only_one 24 (one_lines one 1 ++ one_lines two 2) (unlike one two) (bad_number new.number ∷ bad_year new.year ∷ repeated one two new ∷ no_room 512 1 room ∷ []) 1 a b e refl refl in
    let p = passed-append (one_lines one 1) r.0 in
    ((one_true one 1 p.0).1, (one_true two 2 p.1).1, first_found (differ one two) 3 8 r.1.given r.1.a-is, sym r.1.b-is)

pub result_writes : law.ResultWrites
unfolding over
result_writes one two new out e =
    sum.sum_left one two new out 1 e ∙ ap (λ (n : ℕ). sum_of one two new ++ drop n out) (sum.sum-length (addable one two new _ 1 e).0)

pub refusal_keeps : law.RefusalKeeps
refusal_keeps = sum.refusal_left
