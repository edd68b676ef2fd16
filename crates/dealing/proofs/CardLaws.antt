-- A card as the code makes it: the pieces held row by row, and one block.
-- Assumes nothing.
use Prim.Native.Nat.{ℕ, ◌+◌, ◌-◌, ◌≤◌}
use mathlib.Core.Path.{◌≡◌, refl, sym, ap, ◌∙◌}
use mathlib.Core.Bool.{Bool, false, not}
use mathlib.Core.List.{List, []}
use native.Mathlib.Omega.{arith}
use lib.ListN.{length, get_or}
use Rattle.lists.proofs.ThoseLaws.{those-few}
use Rattle.field.specs.Pieces.{values}
use Rattle.field.proofs.ValuesLaws.{values_length, values-below}
use Rattle.planning.specs.Groups.{marked}
use Rattle.block.specs.Written.{block_bytes, Buildable}
use Rattle.block.specs.Laws.{first}
use Rattle.block.proofs.BodyLaws.{length-block, builds}
use Rattle.block.specs.declared.Label.{Label}
use Rattle.dealing.specs.Deal.{Asked, label_for, block_for}
use Rattle.dealing.specs.Inner.{shared_label}
use Rattle.dealing.specs.Inner.{Ready, Writable, held_in}

-- ---- the pieces held, row by row; rows count from 0
-- the row of piece j does not mark the holder
abbrev pub unmarked : List (List Bool) → ℕ → ℕ → Bool
unmarked rows holder j = not (marked rows j holder)

module _ (rows : List (List Bool)) (holder : ℕ) where
  -- row c is that of piece c + 1
  pub next-piece : (c : ℕ) {b : Bool} → not (get_or (get_or rows c []) (holder - 1) false) ≡ b → unmarked rows holder (c + 1) ≡ b
  next-piece c e = let z : c + 1 - 1 ≡ c = omega arith in rw z e

  pub held-few : (c : ℕ) → length (held_in rows holder c) ≤ c
  unfolding held_in
  held-few c = those-few (unmarked rows holder) 1 c

-- ---- one block
pub block_size : (asked : Asked) (k : ℕ) (secret random : List ℕ) (j : ℕ) → length (block_for asked k secret random j) ≡ 512
unfolding block_for
block_size asked k secret random j = length-block (label_for asked k (length secret) j) (values (k - 1) secret random j)

pub ready_builds : {asked : Asked} {k : ℕ} {secret random : List ℕ} → Ready asked k secret random → (j : ℕ) (vs : List ℕ) → 1 ≤ j → j ≤ k
    → vs ≡ values (k - 1) secret random j → Buildable (label_for asked k (length secret) j) vs
ready_builds {asked} {k} {secret} {random} r j vs l u e =
    builds (label_for asked k (length secret) j) vs
    (record {
      number = r.number_in_lem.0;
      holder = (r.holder_in.0, omega (arith, r.holder_in.1, r.few));
      people = (omega (arith, r.holder_in.0, r.holder_in.1), r.few, r.holder_in.1);
      pieces = (r.least, r.most);
      width = r.width_in;
      piece = (l, u);
      scheme = first refl refl;
    })
    r.number_in_lem.1
    r.year_in
    (λ i. rw e (omega (arith, (values-below (k - 1) secret random j).each i)))
    (sym (ap length e ∙ values_length (k - 1) secret random j))

-- the label of piece j of k, as the code makes it of what the labels of the card share
abbrev pub piece_label : Label → ℕ → ℕ → Label
piece_label shared k j =
    record {
      mark = 1987;
      number = shared.number;
      holder = shared.holder;
      people = shared.people;
      pieces = k;
      width = shared.width;
      piece = j;
      year = shared.year;
      set = shared.set;
    }

module _ (asked : Asked) (k : ℕ) (secret random : List ℕ) {shared : Label} (e : shared ≡ shared_label asked (length secret)) (j : ℕ) where
  pub block-is : block_bytes (piece_label shared k j) (values (k - 1) secret random j) ≡ block_for asked k secret random j
  unfolding block_for
  block-is = ap (λ (l : Label). block_bytes (piece_label l k j) (values (k - 1) secret random j)) e

  pub ready_writable : Ready asked k secret random → 1 ≤ j → j ≤ k → Writable (piece_label shared k j) secret random
  ready_writable r l u =
      rw e (record {
        some_piece = r.least;
        width_in = r.width_in.1;
        secret_in = r.secret_in;
        random_in = r.random_in;
        buildable = ready_builds r j (values (k - 1) secret random j) l u refl;
      })
