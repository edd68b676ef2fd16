-- A card by sets, set by set: what a set's block is written from, and which part of the randomness it has.
-- Assumes nothing.
use mathlib.Core.Path.{◌≡◌, refl, sym, ap, subst, ◌∙◌}
use mathlib.Core.Bool.{true}
use mathlib.Core.List.{List}
use Prim.Native.Nat.{ℕ, ◌+◌, ◌-◌, ◌*◌, ◌≤◌, ◌<◌}
use native.Mathlib.Nat.{mul-le-mul, le_refl}
use native.Mathlib.Omega.{arith}
use lib.ListN.{length, get_or, take, drop}
use Rattle.lists.specs.Places.{at}
use Rattle.field.specs.Pieces.{values, Random}
use Rattle.field.specs.Parts.{coefficients, part_of}
use Rattle.field.proofs.ValuesLaws.{values_length, values-below}
use Rattle.field.proofs.PartLaws as part
use Rattle.planning.specs.Sets.{member, member_count}
use Rattle.minimal.specs.Minimal.{counted, number_in}
use Rattle.minimal.proofs.CountLaws.{member-piece}
use Rattle.block.specs.Written.{block_bytes, Buildable}
use Rattle.block.specs.Laws.{sets}
use Rattle.block.proofs.BodyLaws.{length-block, builds}
use Rattle.dealing.specs.Inner.{Ready, Writable}
use Rattle.bysets.specs.Cards.{set_label_for, set_block_for, sizes, block_by}
use Rattle.bysets.specs.Inner.{SetsReady}
use Rattle.block.specs.declared.Label.{Label}
use Rattle.dealing.specs.Deal.{Asked}
use Rattle.dealing.specs.Inner.{shared_label}
use Rattle.bysets.proofs.SizeLaws.{size_at, sizes-length, after, set_after, size_after, coefficients_more}

-- ---- one block
pub block_size : (asked : Asked) (list secret random : List ℕ) (s : ℕ) → length (block_by asked list secret random s) ≡ 512
unfolding block_by set_block_for
block_size asked list secret random s = length-block _ _

pub set_builds : {asked : Asked} {k : ℕ} {secret random : List ℕ} → Ready asked k secret random → (j place : ℕ) (vs : List ℕ)
    → 1 ≤ j → j ≤ k → k ≤ asked.people → 1 ≤ place → place ≤ 70
    → vs ≡ values (k - 1) secret random j → Buildable (set_label_for asked k (length secret) j place) vs
set_builds {asked} {k} {secret} {random} r j place vs l u few from to e =
    builds (set_label_for asked k (length secret) j place) vs
    (record {
      number = r.number_in_lem.0;
      holder = (r.holder_in.0, omega (arith, r.holder_in.1, r.few));
      people = (omega (arith, r.holder_in.0, r.holder_in.1), r.few, r.holder_in.1);
      pieces = (r.least, r.most);
      width = r.width_in;
      piece = (l, u);
      scheme = sets refl from to few;
    })
    r.number_in_lem.1
    r.year_in
    (λ i. rw e (omega (arith, (values-below (k - 1) secret random j).each i)))
    (sym (ap length e ∙ values_length (k - 1) secret random j))

-- the label of piece j of the k pieces of the set at this place, as the code makes it of what the labels of the card share
abbrev pub piece_label : Label → ℕ → ℕ → ℕ → Label
piece_label shared k j place =
    record {
      mark = 1988;
      number = shared.number;
      holder = shared.holder;
      people = shared.people;
      pieces = k;
      width = shared.width;
      piece = j;
      year = shared.year;
      set = place;
    }

module _ (asked : Asked) (k : ℕ) (secret random : List ℕ) {shared : Label} (e : shared ≡ shared_label asked (length secret)) (j place : ℕ) where
  pub block-is : block_bytes (piece_label shared k j place) (values (k - 1) secret random j) ≡ set_block_for asked k secret random j place
  unfolding set_block_for
  block-is = ap (λ (l : Label). block_bytes (piece_label l k j place) (values (k - 1) secret random j)) e

  pub set_writable : Ready asked k secret random → 1 ≤ j → j ≤ k → k ≤ asked.people → 1 ≤ place → place ≤ 70
      → Writable (piece_label shared k j place) secret random
  set_writable r l u few from to =
      rw e (record {
        some_piece = r.least;
        width_in = r.width_in.1;
        secret_in = r.secret_in;
        random_in = r.random_in;
        buildable = set_builds r j place (values (k - 1) secret random j) l u few from to refl;
      })

-- before the first set no randomness is used
pub none_used : (width : ℕ) (ks : List ℕ) → 0 ≡ width * coefficients (take 0 ks)
unfolding coefficients
none_used width ks = omega arith

-- ---- what is ready for all sets is ready for each of them, with its part of the randomness
module _ {asked : Asked} {list secret random : List ℕ} (r : SetsReady asked list secret random) where
  abbrev width : ℕ
  width = length secret

  pub one_ready : (s : ℕ) → 1 ≤ s → s ≤ length list → Ready asked (member_count (at list s)) secret (part_of width (sizes list) random s)
  one_ready s l h = record {
    few = r.few;
    least = r.proper.least s l h;
    most = omega (arith, r.proper.most s l h, r.few);
    number_in_lem = r.number_in_lem;
    year_in = r.year_in;
    holder_in = r.holder_in;
    width_in = r.width_in;
    secret_in = r.secret_in;
    random_in =
        subst (λ (n : ℕ). Random width n (part_of width (sizes list) random s)) (size_at list s)
        (part.part_random width (sizes list) random r.random_in s l (omega (arith, sizes-length list)));
  }

  -- the holder's piece of a set that has the holder
  pub own-piece : (s : ℕ) → member asked.holder (at list s) ≡ true
      → (1 ≤ number_in (at list s) asked.holder) × (number_in (at list s) asked.holder ≤ member_count (at list s))
  own-piece s t = member-piece (at list s) asked.holder r.holder_in.0 (omega (arith, r.holder_in.1, r.few)) t

  -- ---- the set after c others, of k members, where the sets before have used so many words
  module _ (c k used : ℕ) (next : c < length list) (is : k ≡ counted (get_or list c 0) 16) (so_far : used ≡ width * coefficients (take c (sizes list))) where
    k_is : k ≡ member_count (at list (c + 1))
    k_is = size_after list c k is

    pub size_in : (1 ≤ k) × (k ≤ asked.people)
    size_in =
        (omega (arith, k_is, r.proper.least (c + 1) (omega arith) (omega arith)), omega (arith, k_is, r.proper.most (c + 1) (omega arith) (omega arith)))

    pub few_words : width * (k - 1) ≤ 16 * 7
    few_words = let m : k - 1 ≤ 7 = omega (arith, size_in.1, r.few) in mul-le-mul r.width_in.1 m

    -- where its part ends
    pub used_next : used + width * (k - 1) ≡ width * coefficients (take (c + 1) (sizes list))
    used_next = rw (coefficients_more list c k next is) (ap (λ (x : ℕ). x + width * (k - 1)) so_far ∙ omega arith)

    pub used_in : used + width * (k - 1) ≤ length random
    used_in =
        let m : width * coefficients (take (c + 1) (sizes list)) ≤ width * coefficients (sizes list)
        = mul-le-mul (le_refl width) (part.coefficients_more (sizes list) (c + 1)) in
        omega (arith, used_next, r.random_in.count)

    -- the part, as the code cuts it out
    abbrev cut : List ℕ
    cut = take (used + width * (k - 1) - used) (drop used random)

    cut_is : cut ≡ part_of width (sizes list) random (c + 1)
    unfolding part_of
    cut_is =
        let z : used + width * (k - 1) - used ≡ width * (k - 1) = omega arith in
        rw (z, size_at list (c + 1), ← k_is, so_far, after c)

    -- it is ready for this set
    pub cut_ready : Ready asked k secret cut
    cut_ready = subst (λ (n : ℕ). Ready asked n secret cut) (sym k_is) (rw cut_is (one_ready (c + 1) (omega arith) (omega arith)))

    -- the holder's piece, as the code counts it
    module _ (j : ℕ) (j-is : j ≡ counted (get_or list c 0) asked.holder) where
      piece_is : j ≡ number_in (at list (c + 1)) asked.holder
      piece_is = j-is ∙ ap (λ (x : ℕ). counted x asked.holder) (sym (set_after list c))

      pub piece_in_lem : member asked.holder (at list (c + 1)) ≡ true → (1 ≤ j) × (j ≤ k)
      piece_in_lem t = let p = own-piece (c + 1) t in (omega (arith, piece_is, p.0), omega (arith, piece_is, k_is, p.1))

      -- and the block is that of set c + 1
      pub cut_block : set_block_for asked k secret cut j (c + 1) ≡ block_by asked list secret random (c + 1)
      unfolding block_by
      cut_block = λ i. set_block_for asked (k_is i) secret (cut_is i) (piece_is i) (c + 1)
