-- `block::reading::values` meets its contract: a block that opens is true, so its value bytes lie within the pile; and where the part points.
-- Assumes nothing.
use mathlib.Core.Path.{◌≡◌, sym, ap, ◌∙◌}
use Prim.Native.Nat.{ℕ, ◌+◌, ◌*◌}
use native.Mathlib.Nat.{add-sub_cancel_left}
use native.Mathlib.Omega.{arith}
use lib.ListN.{take, drop}
use Rattle.block.specs.Open.{opened}
use Rattle.block.proofs.ValueLaws.{values_head, refused_empty}
use Rattle.block.proofs.reading.values.Goals as goal

-- a part's pointer, as the borrow checker has it, and as the contract says it
at_offset : (b o : ℕ) {n m : ℕ} → m ≡ n → ◌≡◌ {A = ℕ × ℕ} (b, n + o) (b, o + m)
at_offset b o {n} {m} e = let f : n + o ≡ o + m = omega arith in rw f

pub slice_bounds-result-end : goal.slice_bounds-result-end
slice_bounds-result-end c =
    omega (arith, (values_head c.args.pile.now c.in-Ok.h (sym c.open.ensures ∙ ap opened c.in-Ok.is)).0)

pub returns-in-Ok : goal.returns-in-Ok
returns-in-Ok c =
    let p = c.args.pile in
    let r = values_head p.now c.in-Ok.h (sym c.open.ensures ∙ ap opened c.in-Ok.is) in
    record {
      content = ap (λ (n : ℕ). take n (drop 14 p.now)) (add-sub_cancel_left 14 (2 * c.in-Ok.h.width)) ∙ r.1;
      place = at_offset p.ref_ptr.0 p.ref_ptr.1 r.2;
    }

pub returns-in-Err : goal.returns-in-Err
returns-in-Err c =
    let p = c.args.pile in
    let r = refused_empty p.now _ _ _ (sym c.open.ensures ∙ ap opened c.in-Err.is) in
    record { content = sym r.0; place = at_offset p.ref_ptr.0 p.ref_ptr.1 r.1 }
