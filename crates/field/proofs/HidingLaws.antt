-- Pairings turned round; and what is hidden is not favoured by what is seen.
-- Assumes nothing.
use mathlib.Core.Path.{sym, ap, ◌∙◌}
use mathlib.Core.List.{List}
use Prim.Native.Nat.{ℕ}
use Rattle.field.specs.Hiding.{Matched, Hidden, Gives}

unfoldable pub matched_back : {X Y : Type 0} {A : X → Type 0} {B : Y → Type 0} → Matched A B → Matched B A
matched_back m = record {
  there = m.back;
  back = m.there;
  there_in = m.back_in;
  back_in = m.there_in;
  back-there = m.there_back;
  there_back = m.back-there;
}

module _ {X Y W : Type 0} {A : X → Type 0} {B : Y → Type 0} {one : X → W → List ℕ} {other : Y → W → List ℕ} {member : W → Type 0} where
  unfoldable pub hidden_back : Hidden A B one other member → Hidden B A other one member
  unfolding matched_back
  hidden_back h = record {
    pairs = matched_back h.pairs;
    same = λ r b i m.
        sym (h.same (h.pairs.back r) (h.pairs.back_in r b) i m) ∙ ap (λ (x : Y). other x i) (h.pairs.there_back r b);
  }

  gives-there : (h : Hidden A B one other member) (c : W → List ℕ) (r : X) → Gives A one member c r → Gives B other member c (h.pairs.there r)
  gives-there h c r g = record {
    random = h.pairs.there_in r g.random;
    gives = λ i m. h.same r g.random i m ∙ g.gives i m;
  }

pub none_favoured : {X Y W : Type 0} {A : X → Type 0} {B : Y → Type 0} {one : X → W → List ℕ} {other : Y → W → List ℕ} {member : W → Type 0}
    → Hidden A B one other member → (c : W → List ℕ) → Matched (Gives A one member c) (Gives B other member c)
unfolding hidden_back matched_back
none_favoured h c = record {
  there = h.pairs.there;
  back = h.pairs.back;
  there_in = gives-there h c;
  back_in = gives-there (hidden_back h) c;
  back-there = λ r g. h.pairs.back-there r g.random;
  there_back = λ r g. h.pairs.there_back r g.random;
}
