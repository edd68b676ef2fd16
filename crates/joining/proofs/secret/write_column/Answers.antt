-- `joining::secret::write_column` meets its contract. The invariant: the values of pieces 1 to j stand in front. Assumes nothing.
use native.Mathlib.Omega.{arith}
use mathlib.Core.Path.{◌≡◌, refl, ap, ◌∙◌}
use mathlib.Core.List.{List}
use Prim.Native.Nat.{ℕ, ◌+◌, ◌≤◌, ◌<◌}
use lib.ListN.{get_or}
use Rattle.lists.specs.Run.{run}
use Rattle.lists.specs.Over.{over}
use Rattle.lists.proofs.RunLaws.{run_length}
use Rattle.lists.proofs.OverLaws.{over_on}
use Rattle.field.specs.Secret.{column}
use Rattle.block.specs.Layout.{piece_in}
use Rattle.pile.specs.Blocks.{In}
use Rattle.joining.specs.Pile.{chosen, own_pieces, own_place, value_of, value_at}
use Rattle.joining.specs.Inner.{Full, own_places}
use Rattle.joining.proofs.PileLaws.{width_in}
use Rattle.joining.proofs.TableLaws.{run-next, place-most}
use Rattle.joining.proofs.SecretLaws.{over_all, places_length}
use Rattle.joining.proofs.secret.write_column.Goals as goal

-- the block of piece j + 1
module _ (p : List ℕ) (f : Full p) (places : List ℕ) (e : places ≡ own_places p) (j : ℕ) (few : j < own_pieces p) where
  place : get_or places j 0 ≡ own_place p (j + 1)
  place = ap (λ (u : List ℕ). get_or u j 0) e ∙ run-next (own_place p) (own_pieces p) j few

  inside : In p (get_or places j 0)
  inside =
      (omega (arith, place, f.place (j + 1) (omega arith) (omega arith)), omega (arith, place, place-most p (piece_in (chosen p) (j + 1))))

pub loop-j-init : goal.loop-j-init
unfolding run over
loop-j-init c = refl

pub bounds-places-j : goal.bounds-places-j
bounds-places-j c = omega (arith, places_length c.args.pile.now c.args.places.now c.requires.places_value, c.requires.values_len)

pub word-requires : goal.word-requires
word-requires c =
    let a = c.args in
    let i = inside a.pile.now c.requires.full a.places.now c.requires.places_value c.loop-j.j (omega (arith, c.requires.values_len)) in
    let most : a.i ≤ 16 = omega (arith, c.requires.le_i.1, (width_in c.requires.full.unmixed).1) in
    (i.0, i.1, omega arith, omega (arith, most))

pub loop-j-preserved : goal.loop-j-preserved
loop-j-preserved c =
    let a = c.args in
    let l = c.loop-j in
    let p = a.pile.now in
    let e = place p c.requires.full a.places.now c.requires.places_value l.j (omega (arith, c.requires.values_len)) in
    over_on (λ m. value_at p m a.i) a.values.now l.values l.j c.word.result (omega arith)
    (c.word.ensures ∙ ap (λ (b : ℕ). value_of p b a.i) e) l.invariant

pub returns : goal.returns
unfolding column
returns c =
    let p = c.args.pile.now in
    let f : ℕ → ℕ = λ m. value_at p m c.args.i in
    let all : c.loop-j.j ≡ own_pieces p = omega (arith, c.requires.values_len) in
    c.loop-j.invariant ∙ ap (λ (n : ℕ). over (run f 1 n) c.args.values.now) all
    ∙ over_all (column (value_at p) (own_pieces p) c.args.i) c.args.values.now (omega (arith, run_length f 1 (own_pieces p), c.requires.values_len))
