-- Two blocks are of one deal exactly where the words that say so are the same. Assumes nothing.
use mathlib.Core.Path.{◌≡◌, refl}
use mathlib.Core.Bool.{true, false, ◌&&◌}
use lib.Dec.{eqb}
use borrow.Author.Tests.{eqb-true, eq-eqb}
use Rattle.lists.proofs.Truth.{both, isn't}
use Rattle.block.specs.declared.deal.DealWords.{DealWords}
use Rattle.block.specs.Deals.{same_deal}

pub deal_same : (x : DealWords) → same_deal x x ≡ true
unfolding same_deal
deal_same x =
    rw (
      eq-eqb x.mark x.mark refl,
      eq-eqb x.number x.number refl,
      eq-eqb x.people x.people refl,
      eq-eqb x.pieces x.pieces refl,
      eq-eqb x.width x.width refl,
      eq-eqb x.year x.year refl,
    )

pub same_deal_lem : (x y : DealWords) → same_deal x y ≡ true → x ≡ y
unfolding same_deal
same_deal_lem x y e =
    let mark = eqb x.mark y.mark in
    let number = eqb x.number y.number in
    let people = eqb x.people y.people in
    let pieces = eqb x.pieces y.pieces in
    let width = eqb x.width y.width in
    let f = both (mark && number && people && pieces && width) (eqb x.year y.year) e in
    let d = both (mark && number && people && pieces) width f.0 in
    let c = both (mark && number && people) pieces d.0 in
    let b = both (mark && number) people c.0 in
    let a = both mark number b.0 in
    λ i.
    record {
      mark = eqb-true x.mark y.mark a.0 i;
      number = eqb-true x.number y.number a.1 i;
      people = eqb-true x.people y.people b.1 i;
      pieces = eqb-true x.pieces y.pieces c.1 i;
      width = eqb-true x.width y.width d.1 i;
      year = eqb-true x.year y.year f.1 i;
    }

pub other_deal_lem : (x y : DealWords) → (x ≡ y → ⊥) → same_deal x y ≡ false
other_deal_lem x y h = isn't (λ t. h (same_deal_lem x y t))
