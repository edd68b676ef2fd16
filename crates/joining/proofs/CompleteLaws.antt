-- What it means of a sound pile that a set is complete: some block is of it, and all the pieces that it has are there. Assumes nothing.
use mathlib.Core.Path.{◌≡◌, sym, ap, ◌∙◌}
use mathlib.Core.Bool.{true}
use mathlib.Core.List.{List}
use Prim.Native.Nat.{ℕ, ◌≤◌}
use native.Mathlib.Nat.{le_refl}
use native.Mathlib.Omega.{arith}
use Rattle.block.specs.Layout.{piece_in}
use Rattle.pile.specs.Blocks.{blocks, In}
use Rattle.joining.specs.Pile.{in_sets, set_at, pieces_at, number_at, place_in, set_pieces, complete}
use Rattle.joining.specs.Inner.{Unmixed}
use Rattle.joining.specs.Laws.{Sound, HasSet, CompleteMeans}
use Rattle.joining.proofs.PileLaws.{ranges, of_set}
use Rattle.joining.proofs.ChosenLaws.{place-held, complete-places, places-complete, set-block, sound-unmixed}

module _ (pile : List ℕ) (s : ℕ) (t : Sound pile) (some : 1 ≤ blocks pile) (e : in_sets pile ≡ true) (l : 1 ≤ s) where
  u : Unmixed pile
  u = sound-unmixed t some

  has-set : complete pile s ≡ true → HasSet pile s
  has-set c =
      let p = complete-places pile s c in
      let b = set-block u e s 1 l (le_refl 1) (omega arith) p.0 in
      record {
        some = (place_in pile s 1, b.0, b.1);
        all = λ a h q j m n.
            let k : pieces_at pile a ≡ set_pieces pile s = t.one_count a (place_in pile s 1) h b.0 (q ∙ sym b.1) in
            let c = set-block u e s j l m (omega (arith, n, (of_set u e a h).few)) (p.1 j m (omega (arith, n, k))) in
            (place_in pile s j, c.0, c.1, c.2);
      }

  set-has : HasSet pile s → complete pile s ≡ true
  set-has h =
      let a = h.some in
      let held : (b j : ℕ) → In pile b → set_at pile b ≡ s → number_at pile b ≡ j → 1 ≤ place_in pile s j
      = λ b j i q n. place-held pile (piece_in s j) b i (ap (λ (x : ℕ). piece_in x (number_at pile b)) q ∙ ap (piece_in s) n) in
      let one = h.all a.0 a.1 a.2 1 (le_refl 1) (ranges u a.0 a.1).pieces.0 in
      let p = held one.0 1 one.1 one.2 one.3 in
      let b = set-block u e s 1 l (le_refl 1) (omega arith) p in
      places-complete pile s p (λ j m n. let c = h.all (place_in pile s 1) b.0 b.1 j m n in held c.0 j c.1 c.2 c.3)

pub complete-means : CompleteMeans
complete-means pile s t some e l h = (has-set pile s t some e l, set-has pile s t some e l)
