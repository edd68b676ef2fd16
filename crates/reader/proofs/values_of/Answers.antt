-- `reader::values_of` meets its contract: the part from block a on, and the value bytes within it; and where the part points.
-- Assumes nothing.
use mathlib.Core.Path.{◌≡◌, sym, ap, ◌∙◌}
use Prim.Native.Nat.{ℕ, ◌+◌, ◌-◌, ◌*◌}
use native.Mathlib.Omega.{arith}
use Rattle.pile.specs.Blocks.{blocks, rest_from}
use Rattle.pile.proofs.PileLaws.{part_rest}
use Rattle.block.specs.Open.{value_bytes, value_start}
use Rattle.reader.proofs.SeeingLaws.{values_in, no_block, past_blocks, values-none}
use Rattle.reader.proofs.values_of.Goals as goal

-- a part's pointer, as the borrow checker has it, and as the contract says it
at_offset : (b o : ℕ) {n m : ℕ} → m ≡ n → ◌≡◌ {A = ℕ × ℕ} (b, n + o) (b, o + m)
at_offset b o {n} {m} e = let f : n + o ≡ o + m = omega arith in rw f

-- a part of a part
within : (b o n m : ℕ) {k : ℕ} → k ≡ n + m → ◌≡◌ {A = ℕ × ℕ} (b, n + o + m) (b, o + k)
within b o n m {k} e = let f : n + o + m ≡ o + k = omega arith in rw f

pub returns-then-a-eq0 : goal.returns-then-a-eq0
returns-then-a-eq0 c =
    let p = c.args.pile in
    let r = values-none p.now _ (no_block p.now _ c.if-a-eq0.true) in
    (sym r.0, at_offset p.ref_ptr.0 p.ref_ptr.1 r.1)

pub returns-then-pile-a : goal.returns-then-pile-a
unfolding blocks
returns-then-pile-a c =
    let p = c.args.pile in
    let r = values-none p.now _ (past_blocks p.now _ c.if-pile-a.true) in
    (sym r.0, at_offset p.ref_ptr.0 p.ref_ptr.1 r.1)

pub returns : goal.returns
unfolding blocks rest_from
returns c =
    let p = c.args.pile in
    let a = c.args.a in
    let e = part_rest p.now (512 * (a - 1)) in
    let r = values_in p.now a (omega (arith, c.if-a-eq0.false)) c.if-pile-a.false in (
      c.values.ensures.content ∙ ap value_bytes e ∙ sym r.0,
      c.values.ensures.place ∙ within p.ref_ptr.0 p.ref_ptr.1 (512 * (a - 1)) _ (r.1 ∙ ap (λ x. 512 * (a - 1) + value_start x) (sym e)),
    )
