-- `minimal::minimal_sets` meets its contract: the minimal sets below g fill the front of the array. Assumes nothing.
use mathlib.Core.Path.{◌≡◌, sym, ◌∙◌}
use mathlib.Core.Bool.{true}
use mathlib.Core.List.{List}
use Prim.Native.Nat.{ℕ, ◌^◌, ◌≤◌, ◌<◌}
use native.Mathlib.Omega.{arith}
use Rattle.planning.proofs.GroupLaws.{size_le}
use Rattle.minimal.specs.Minimal.{least, minimals}
use Rattle.minimal.proofs.MinimalLaws.{seventy}
use Rattle.minimal.proofs.LoopLaws.{Filling, fill_start, fill_miss, fill_room, fill_hit}
use Rattle.minimal.proofs.minimal_sets.Goals as goal
use Rattle.minimal.proofs.minimal_sets.Goals.{then-minimal, else-minimal}

-- while a minimal set is still to come there is room for it
room : (people g count size : ℕ) (required sets : List ℕ) → people ≤ 8 → Filling (least required) g count sets → size ≡ 2 ^ people → g < size
    → least required g ≡ true → count < 70
unfolding minimals
room people g count size required sets few h e l t =
    fill_room h (2 ^ people) (omega arith) t (seventy people required few)

pub loop-g-init : goal.loop-g-init
loop-g-init c = (c.group_count-size.ensures, size_le _ _ c.requires c.group_count-size.ensures, fill_start _)

pub offset_bounds-sets-count : goal.offset_bounds-sets-count
offset_bounds-sets-count c =
    let l = c.loop-g in
    omega (arith, room _ _ _ _ _ _ c.requires l.invariant.2 l.invariant.0 c.loop-g-test.true (sym c.minimal.ensures ∙ c.if-minimal.true))

pub bounds-sets-count : goal.bounds-sets-count
bounds-sets-count c =
    let l = c.loop-g in
    room _ _ _ _ _ _ c.requires l.invariant.2 l.invariant.0 c.loop-g-test.true (sym c.minimal.ensures ∙ c.if-minimal.true)

pub overflow_add-count : goal.overflow_add-count
overflow_add-count c =
    let l = c.loop-g in
    omega (arith, room _ _ _ _ _ _ c.requires l.invariant.2 l.invariant.0 c.loop-g-test.true (sym c.minimal.ensures ∙ c.if-minimal.true))

pub loop-g-preserved : goal.loop-g-preserved
loop-g-preserved c =
    let l = c.loop-g in
    let h = l.invariant.2 in
    let m = sym c.minimal.ensures in (
      l.invariant.0,
      l.invariant.1,
      elim c.if-minimal.branch [
        | then-minimal w ↦
            let t = m ∙ w.if-minimal.true in
            rw (w.sets-is, w.count-is) (fill_hit h t (room _ _ _ _ _ _ c.requires h l.invariant.0 c.loop-g-test.true t))
        | else-minimal w ↦ rw (w.sets-is, w.count-is) (fill_miss h (m ∙ w.if-minimal.false))
      ],
    )

pub returns : goal.returns
unfolding minimals
returns c =
    let l = c.loop-g in
    let h = l.invariant.2 in
    let e : l.g ≡ 2 ^ c.args.people = omega arith in
    rw (← e) (record { counts = h.count-is; lists = h.filled })
