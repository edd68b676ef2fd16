-- `joining::secret::write_secret` meets its contract. The invariant: the first i words of the secret are written. Assumes nothing.
use native.Mathlib.Omega.{arith}
use mathlib.Core.Path.{◌≡◌, refl, sym, ap, subst, ◌∙◌}
use Prim.Native.Nat.{ℕ}
use lib.ListN.{length, drop, length-append, length-drop}
use lib.Seq.{length-take-le}
use Rattle.lists.specs.Run.{run}
use Rattle.lists.specs.Over.{over}
use Rattle.lists.proofs.OverLaws.{over_on}
use Rattle.prime.specs.Prime.{Below}
use Rattle.field.specs.Joined.{joined}
use Rattle.field.specs.Secret.{column, secret_of}
use Rattle.field.proofs.SecretLaws.{column-below, column-length, secret-length}
use Rattle.joining.specs.Pile.{own_pieces, own_width, value_at}
use Rattle.joining.proofs.SecretLaws.{over_all, places_length, value-below}
use Rattle.joining.proofs.secret.write_secret.Goals as goal

pub loop-i-init : goal.loop-i-init
unfolding secret_of run over
loop-i-init g c = (refl, refl)

pub slice_bounds-values-end : goal.slice_bounds-values-end
slice_bounds-values-end g c =
    omega (arith, c.loop-i.invariant.0, places_length c.args.pile.now c.args.places.now c.requires.places_value, c.requires.full.pieces_in.1)

pub slice_bounds-column-end : goal.slice_bounds-column-end
slice_bounds-column-end g c =
    let few = places_length c.args.pile.now c.args.places.now c.requires.places_value in
    sym (length-take-le (length c.args.places.now) c.loop-i.values (omega (arith, c.loop-i.invariant.0, few, c.requires.full.pieces_in.1)))

pub write_column-requires : goal.write_column-requires
write_column-requires g c =
    let few = places_length c.args.pile.now c.args.places.now c.requires.places_value in
    record {
      full = c.requires.full;
      places_value = c.requires.places_value;
      le_i = (omega arith, omega (arith, c.requires.words_len));
      values_len =
          length-take-le (length c.args.places.now) c.loop-i.values (omega (arith, c.loop-i.invariant.0, few, c.requires.full.pieces_in.1)) ∙ few;
    }

pub word-requires : goal.word-requires
word-requires g c =
    let p = c.args.pile.now in
    let f = c.requires.full in
    let is = c.write_column.ensures in
    let long : length c.write_column.new.values ≡ own_pieces p = ap length is ∙ column-length (value_at p) (own_pieces p) _ in
    record {
      joins = subst (λ n. g.J.Joiner.joins c.args.joiner.now n) (sym long) c.requires.joins;
      few = omega (arith, long, f.pieces_in.1);
      below = subst Below (sym is)
          (column-below (value_at p) (own_pieces p) _ (λ j l h. value-below f j _ l h (omega arith) (omega (arith, c.requires.words_len))));
    }

pub loop-i-preserved : goal.loop-i-preserved
unfolding secret_of
loop-i-preserved g c =
    let p = c.args.pile.now in
    let f = c.requires.full in
    let v = c.loop-i.invariant in
    let s = c.word in
    let few = places_length p c.args.places.now c.requires.places_value in
    let long : length c.write_column.new.values ≡ own_pieces p = ap length c.write_column.ensures ∙ column-length (value_at p) (own_pieces p) _ in (
      omega (
        arith,
        length-append s.new.column (drop (length c.args.places.now) c.loop-i.values),
        length-drop (length c.args.places.now) c.loop-i.values,
        s.auto.column,
        long,
        few,
        v.0,
        f.pieces_in.1,
      ),
      over_on (λ m. joined (column (value_at p) (own_pieces p) m)) c.args.words.now c.loop-i.words c.loop-i.i s.result (omega arith)
          (s.ensures ∙ ap joined c.write_column.ensures) v.1,
    )

pub returns : goal.returns
returns g c =
    let p = c.args.pile.now in
    let all : c.loop-i.i ≡ own_width p = omega (arith, c.requires.words_len) in
    c.loop-i.invariant.1 ∙ ap (λ (n : ℕ). over (secret_of (value_at p) (own_pieces p) n) c.args.words.now) all
    ∙ over_all (secret_of (value_at p) (own_pieces p) (own_width p)) c.args.words.now
    (omega (arith, secret-length (value_at p) (own_pieces p) (own_width p), c.requires.words_len))
