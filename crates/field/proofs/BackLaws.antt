-- A list that is gone through from its back: what is left is its front, and each turn takes the last number of that.
-- Assumes nothing.
use mathlib.Core.Path.{◌≡◌, refl, sym, ap, ◌∙◌}
use mathlib.Core.List.{List, [], ◌∷◌, ◌++◌, append-nil}
use Prim.Native.Nat.{ℕ}
use lib.ListN.{length, drop}
use lib.Seq.{drop-length, drop_at, append_snoc}

-- `left` is the front of `all`
pub record Front (all left : List ℕ) : Type 0 where
  pub whole : left ++ drop (length left) all ≡ all

pub front_start : (all left : List ℕ) → left ≡ all → Front all left
front_start all left e = rw e record { whole = rw drop-length (append-nil all) }

-- the number that a turn takes stands before those that were taken
pub front_taken : (all left less : List ℕ) (x : ℕ) → left ≡ less ++ x ∷ [] → Front all left
    → drop (length less) all ≡ x ∷ drop (length left) all
front_taken all left less x e f =
    let w : less ++ x ∷ drop (length left) all ≡ all = sym (append_snoc less x (drop (length left) all)) ∙ ap (λ (l : List ℕ). l ++ drop (length left) all) (sym e) ∙ f.whole in
    ap (λ (l : List ℕ). drop (length less) l) (sym w) ∙ drop_at less (x ∷ drop (length left) all) (length less) refl

pub front_turn : (all left less : List ℕ) (x : ℕ) → left ≡ less ++ x ∷ [] → Front all left → Front all less
front_turn all left less x e f = record {
  whole = ap (λ (l : List ℕ). less ++ l) (front_taken all left less x e f)
      ∙ sym (append_snoc less x (drop (length left) all))
      ∙ ap (λ (l : List ℕ). l ++ drop (length left) all) (sym e)
      ∙ f.whole;
}
