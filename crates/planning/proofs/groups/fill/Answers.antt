-- `planning::groups::fill` meets its contract: the maximal groups below g have their rows, and k counts them.
-- Assumes nothing.
use mathlib.Core.Path.{◌≡◌, sym, ap, ◌∙◌}
use mathlib.Core.Bool.{Bool, true}
use mathlib.Core.List.{List}
use Prim.Native.Nat.{ℕ, ◌≤◌, ◌^◌, ◌<◌}
use native.Mathlib.Omega.{arith}
use lib.ListN.{set}
use borrow.Author.Rules.{rules}
use Rattle.planning.specs.Groups.{maximal, groups_by}
use Rattle.planning.proofs.GroupLaws.{size_le}
use Rattle.planning.proofs.ApartLaws.{few-rows}
use Rattle.planning.proofs.RowLaws.{Filling, filling_start, filling_miss, filling_hit, filling_as, filling_room, filling_end}
use Rattle.planning.proofs.groups.fill.Goals as goal
use Rattle.planning.proofs.groups.fill.Goals.{then-maximal, else-maximal}

pub loop-g-init : goal.loop-g-init
loop-g-init c =
    let p = c.requires in
    (c.group_count-size.ensures, size_le _ _ p.0 c.group_count-size.ensures, filling_start p.1)

-- while a maximal group is still to come there is room for its row
room : (people g k size : ℕ) (required : List ℕ) (rows : List (List Bool)) → people ≤ 8 → Filling (maximal people required) g k rows → size ≡ 2 ^ people
    → g < size → maximal people required g ≡ true → k < 70
unfolding groups_by
room people g k size required rows few h e l t =
    filling_room h (2 ^ people) (omega arith) t (few-rows people required few)

pub offset_bounds-rows-k : goal.offset_bounds-rows-k
offset_bounds-rows-k c =
    let l = c.loop-g in
    omega (arith, room _ _ _ _ _ _ c.requires.0 l.invariant.2 l.invariant.0 (omega arith) (sym c.maximal.ensures ∙ c.if-maximal.true))

pub bounds-rows-k : goal.bounds-rows-k
bounds-rows-k c =
    let l = c.loop-g in
    room _ _ _ _ _ _ c.requires.0 l.invariant.2 l.invariant.0 (omega arith) (sym c.maximal.ensures ∙ c.if-maximal.true)

pub overflow_add-k : goal.overflow_add-k
overflow_add-k c =
    let l = c.loop-g in
    omega (arith, room _ _ _ _ _ _ c.requires.0 l.invariant.2 l.invariant.0 (omega arith) (sym c.maximal.ensures ∙ c.if-maximal.true))

pub loop-g-preserved : goal.loop-g-preserved
loop-g-preserved c =
    let l = c.loop-g in
    let h = l.invariant.2 in
    let m = sym c.maximal.ensures in (
      search rules,
      search rules,
      elim c.if-maximal.branch [
        | then-maximal w ↦
            let t = m ∙ w.if-maximal.true in
            let n = room _ _ _ _ _ _ c.requires.0 h l.invariant.0 (omega arith) t in
            filling_as (filling_hit h t n) w.k-is (w.rows-is ∙ ap (set l.rows l.k) w.marks.ensures)
        | else-maximal w ↦ filling_as (filling_miss h (m ∙ w.if-maximal.false)) w.k-is w.rows-is
      ],
    )

pub returns : goal.returns
unfolding groups_by
returns c =
    let l = c.loop-g in
    let e = filling_end l.invariant.2 (2 ^ c.args.people) (omega arith) in
    record { counts = sym e.0; table = e.1 }
