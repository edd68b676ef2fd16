-- The pieces that a person holds, their values, what a card depends on, and what it was in the former layout.
-- Assumes nothing.
use Prim.Native.Nat.{ℕ, ◌-◌, ◌≤◌}
use mathlib.Core.Path.{◌≡◌, refl, sym, ap, ap₂, ◌∙◌}
use mathlib.Core.Bool.{true}
use mathlib.Core.List.Memᴰ
use mathlib.Core.List.{List, [], ◌∷◌, map}
use native.Mathlib.Omega.{arith}
use lib.ListN.{length}
use Rattle.field.proofs.ValuesLaws as field
use Rattle.planning.specs.Groups as planning
use Rattle.lists.specs.Some.{◌∈◌}
use Rattle.planning.specs.Groups.{holds}
use Rattle.planning.proofs.Laws.{held_are}
use Rattle.block.specs.Written.{block_bytes}
use Rattle.block.specs.Earlier.{former_bytes}
use Rattle.block.proofs.Laws.{earlier_block}
use Rattle.dealing.specs.Deal.{Asked, Deal, label_for, block_for, asked_of, deal_pieces, held_by, piece_values, label, block_of, card}
use Rattle.dealing.specs.Laws.{EarlierCards}
use Rattle.lists.specs.Flat.{flat}

-- ---- which pieces a person holds
module _ (d : Deal) (holder j : ℕ) where
  pub held_in_lem : j ∈ held_by d holder → (1 ≤ j) × (j ≤ deal_pieces d) × (holds d.policy.people d.policy.required holder j ≡ true)
  unfolding held_by deal_pieces
  held_in_lem m = (held_are d.policy.people d.policy.required holder j).0 m

  pub in_held : 1 ≤ j → j ≤ deal_pieces d → holds d.policy.people d.policy.required holder j ≡ true → j ∈ held_by d holder
  unfolding held_by deal_pieces
  in_held l h t = (held_are d.policy.people d.policy.required holder j).1 (l, h, t)

-- ---- there is a value for each word of the secret
pub values_length : (d : Deal) (j : ℕ) → length (piece_values d j) ≡ length d.secret
unfolding piece_values
values_length d j = field.values_length (deal_pieces d - 1) d.secret d.random j

-- ---- what a card depends on
pub map_same : (f g : ℕ → List ℕ) (l : List ℕ) → ((j : ℕ) → j ∈ l → f j ≡ g j) → map f l ≡ map g l
map_same f g [] e = refl
map_same f g (j ∷ l) e =
    ap₂ (λ (x : List ℕ) (xs : List (List ℕ)). x ∷ xs) (e j (Memᴰ.head refl)) (map_same f g l (λ i m. e i (Memᴰ.tail m)))

module _ (d d' : Deal) (holder : ℕ) (asked : asked_of d holder ≡ asked_of d' holder) (required : d.policy.required ≡ d'.policy.required) where
  abbrev people : d.policy.people ≡ d'.policy.people
  people = ap (λ (a : Asked). a.people) asked

  count_same : deal_pieces d ≡ deal_pieces d'
  unfolding deal_pieces
  count_same = ap₂ planning.piece_count people required

  held_same : held_by d holder ≡ held_by d' holder
  unfolding held_by
  held_same = ap₂ (λ (n : ℕ) (r : List ℕ). planning.held n r holder) people required

  -- equal values are equally many: so are the words of the secrets
  block_same : (j : ℕ) → piece_values d j ≡ piece_values d' j → block_of d holder j ≡ block_of d' holder j
  unfolding block_of block_for piece_values
  block_same j e =
      let width : length d.secret ≡ length d'.secret = sym (values_length d j) ∙ ap length e ∙ values_length d' j in
      λ t. block_bytes (label_for (asked t) (count_same t) (width t) j) (e t)

  pub card_depends : ((j : ℕ) → j ∈ held_by d holder → piece_values d j ≡ piece_values d' j) → card d holder ≡ card d' holder
  unfolding card block_of
  card_depends e =
      ap flat
      (map_same (block_of d holder) (block_of d' holder) (held_by d holder) (λ j m. block_same j (e j m))
      ∙ ap (map (block_of d' holder)) held_same)

-- ---- cards made earlier: each block is the former one, under year 0 where there was no year
pub earlier_cards : EarlierCards
unfolding card block_for label piece_values
earlier_cards dated d holder year few =
    ap flat
    (map_same (block_for (asked_of d holder) (deal_pieces d) d.secret d.random) (λ j. former_bytes dated (label d holder j) (piece_values d j)) (held_by d holder)
    (λ j m. earlier_block dated (label d holder j) (piece_values d j) refl refl year (omega (arith, values_length d j))))
