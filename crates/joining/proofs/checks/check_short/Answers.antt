-- `joining::checks::check_short` meets its contract: the mark says the scheme, and with it which line SHORT is. Assumes nothing.
use mathlib.Core.Path.{◌≡◌, sym, ap, ap₂, ◌∙◌}
use mathlib.Core.List.{[]}
use Prim.Native.Nat.{◌≤◌}
use native.Mathlib.Omega.{arith}
use lib.ListN.{length}
use Rattle.answer.specs.Outcome.{done, refused, checked}
use Rattle.answer.proofs.SaysLaws.{whole, passes, silent}
use Rattle.lists.proofs.FirstLaws.{placed_none}
use Rattle.pile.proofs.PileLaws.{placed_is}
use Rattle.joining.specs.Pile.{present}
use Rattle.joining.proofs.PileLaws.{deal_pieces_in}
use Rattle.joining.proofs.SortedLaws.{by_sets, by_deal, pieces_read}
use Rattle.joining.proofs.ShortLaws.{present-is, set_refuses, set_passes, few_refuses, few_passes}
use Rattle.joining.proofs.checks.check_short.Goals as goal

pub returns-in-Some : goal.returns-in-Some
returns-in-Some c =
    let s = c.args.sorted.now in
    let is = placed_is _ c.chosen.ensures c.in-Some.is in
    silent (passes (whole _) (set_passes s.pile.now (by_sets s.pile.now s.own_is c.if-sorted-eq1988.true) (omega (arith, is.0, is.1))))

pub returns-in-None : goal.returns-in-None
returns-in-None c =
    let s = c.args.sorted.now in
    ap checked c.refuse.ensures
    ∙ sym (set_refuses s.pile.now (by_sets s.pile.now s.own_is c.if-sorted-eq1988.true) [] (done 0) (placed_none _ c.chosen.ensures c.in-None.is))

pub count_present-here-requires : goal.count_present-here-requires
count_present-here-requires c =
    let s = c.args.sorted.now in
    omega (arith, pieces_read s.pile.now s.own_is, (deal_pieces_in s.unmixed (by_deal s.pile.now s.own_is c.if-sorted-eq1988.false)).1)

pub returns-then-here-k : goal.returns-then-here-k
returns-then-here-k c =
    let s = c.args.sorted.now in
    let p = s.pile.now in
    let none = by_deal p s.own_is c.if-sorted-eq1988.false in
    let k = pieces_read p s.own_is in
    let few : s.own.pieces ≤ 70 = omega (arith, k, (deal_pieces_in s.unmixed none).1) in
    let here : c.count_present-here.result ≡ length (present p) = c.count_present-here.ensures ∙ present-is p s.places.now _ k few s.places_are in
    ap checked c.refuse-then-here-k.ensures ∙ ap₂ (refused 20) here k ∙ sym (few_refuses p none [] (done 0) (rw (here, k) at c.if-here-k.true))

pub returns : goal.returns
returns c =
    let s = c.args.sorted.now in
    let p = s.pile.now in
    let none = by_deal p s.own_is c.if-sorted-eq1988.false in
    let k = pieces_read p s.own_is in
    let few : s.own.pieces ≤ 70 = omega (arith, k, (deal_pieces_in s.unmixed none).1) in
    let here : c.count_present-here.result ≡ length (present p) = c.count_present-here.ensures ∙ present-is p s.places.now _ k few s.places_are in
    silent (passes (whole _) (few_passes p none s.unmixed.some (rw (here, k) at c.if-here-k.false)))
