-- Cards laid one after another are a pile made of whole cards, whatever the blocks of each holder's card are; and each member's card once is at
-- most 560 blocks. Assumes nothing.
use Prim.Native.Nat.{ℕ, ◌*◌, ◌≤◌, zero-le}
use mathlib.Core.Path.{◌≡◌, refl, sym, ap, ap₂, subst, ◌∙◌}
use mathlib.Core.List.{List, [], ◌∷◌, ◌++◌, map, Memᴰ}
use mathlib.Core.Logic.{⊎_elim}
use native.Mathlib.Omega.{arith}
use lib.ListN.{length, length-append}
use Rattle.lists.proofs.ThoseLaws.{those-few}
use Rattle.planning.specs.Sets.{member}
use Rattle.planning.specs.Groups as planning
use Rattle.lists.specs.Some.{◌∈◌}
use Rattle.planning.specs.Groups.{holds}
use Rattle.dealing.specs.Deal.{Deal, deal_pieces, held_by, block_of, card_blocks, card}
use Rattle.lists.specs.Flat.{flat}
use Rattle.dealing.specs.Dealt.{Made, block_count}
use Rattle.dealing.proofs.MadeLaws.{InRange, made_in_range, card-length}
use Rattle.lists.proofs.FlatLaws.{Long, flat_append, flat-length}
use Rattle.demands.specs.Group.{Member, CardsOf, PileOf, WholeCards, cards, members}
use Rattle.demands.proofs.GroupLaws.{in_members, members_in}
use Rattle.demands.proofs.LaidLaws.{whole_long}
use Rattle.demands.proofs.CardLaws.{card-long}

-- ---- cards in a row, whatever the blocks of each holder's card are
module _ (blocksOf : ℕ → List (List ℕ)) where
  -- the blocks of these holders' cards
  row_blocks : List ℕ → List (List ℕ)
  row_blocks [] = []
  row_blocks (h ∷ hs) = blocksOf h ++ row_blocks hs

  row_from : (hs b : List ℕ) → Memᴰ b (row_blocks hs) → (i : ℕ) × (i ∈ hs) × Memᴰ b (blocksOf i)
  unfolding row_blocks
  row_from [] b m = absurd (mathlib.Core.List.Memᴰ.not-nil m)
  row_from (h ∷ hs) b m =
      ⊎_elim (λ (k : Memᴰ b (blocksOf h)). (h, mathlib.Core.List.Memᴰ.head refl, k))
      (λ (k : Memᴰ b (row_blocks hs)). let r = row_from hs b k in (r.0, mathlib.Core.List.Memᴰ.tail r.1, r.2))
      (mathlib.Core.List.Memᴰ.append_cases (blocksOf h) m)

  row_has : (hs : List ℕ) (i : ℕ) → i ∈ hs → (b : List ℕ) → Memᴰ b (blocksOf i) → Memᴰ b (row_blocks hs)
  unfolding row_blocks
  row_has [] i m b k = absurd (mathlib.Core.List.Memᴰ.not-nil m)
  row_has (h ∷ hs) i m b k =
      ⊎_elim (λ (e : i ≡ h). mathlib.Core.List.Memᴰ.append_left (row_blocks hs) (subst (λ (x : ℕ). Memᴰ b (blocksOf x)) e k))
      (λ (n : i ∈ hs). mathlib.Core.List.Memᴰ.append_right (blocksOf h) (row_has hs i n b k))
      (mathlib.Core.List.Memᴰ.cases_cons m)

  row-whole : (member : ℕ → Type 0) (hs : List ℕ) → ((i : ℕ) → i ∈ hs → member i) → ((i : ℕ) → member i → i ∈ hs)
      → CardsOf blocksOf member (row_blocks hs)
  row-whole member hs theirs all = record {
    theirs = λ b m. let r = row_from hs b m in (r.0, theirs r.0 r.1, r.2);
    all = λ i m b k. row_has hs i (all i m) b k;
  }

  module _ (card : ℕ → List ℕ) (is : (i : ℕ) → card i ≡ flat (blocksOf i)) where
    row-bytes : (hs : List ℕ) → flat (map card hs) ≡ flat (row_blocks hs)
    unfolding flat row_blocks
    row-bytes [] = refl
    row-bytes (h ∷ hs) = ap₂ (λ (x y : List ℕ). x ++ y) (is h) (row-bytes hs) ∙ sym (flat_append (blocksOf h) (row_blocks hs))

    pub row_pile : ((i : ℕ) → Long 512 (blocksOf i)) → (member : ℕ → Type 0) (hs : List ℕ)
        → ((i : ℕ) → i ∈ hs → member i) → ((i : ℕ) → member i → i ∈ hs)
        → length (flat (map card hs)) ≤ 512 * 560 → PileOf blocksOf member (flat (map card hs))
    row_pile long member hs theirs all few =
        let bs = row_blocks hs in
        let whole = row-whole member hs theirs all in
        record {
          blocks = bs;
          whole = whole;
          bytes = row-bytes hs;
          few = omega (arith, ap length (row-bytes hs), flat-length bs (whole_long blocksOf long member bs whole));
        }

-- cards of at most m blocks each
pub row-few : (card : ℕ → List ℕ) (m : ℕ) (hs : List ℕ) → ((i : ℕ) → i ∈ hs → length (card i) ≤ 512 * m) → length (flat (map card hs)) ≤ 512 * m * length hs
unfolding flat
row-few card m [] t = zero-le
row-few card m (h ∷ hs) t =
    omega (
      arith,
      length-append (card h) (flat (map card hs)),
      t h (mathlib.Core.List.Memᴰ.head refl),
      row-few card m hs (λ i k. t i (mathlib.Core.List.Memᴰ.tail k)),
    )

-- there are at most eight members
pub few-members : (d : Deal) (g : ℕ) → d.policy.people ≤ 8 → length (members d g) ≤ 8
unfolding members
few-members d g few = omega (arith, those-few (λ i. member i g) 1 d.policy.people)

-- ---- the cards of the first scheme
module _ (d : Deal) where
  card-is : (i : ℕ) → card d i ≡ flat (card_blocks d i)
  unfolding card card_blocks block_of
  card-is i = refl

  pub row : (g : ℕ) (hs : List ℕ) → ((i : ℕ) → i ∈ hs → Member d g i) → ((i : ℕ) → Member d g i → i ∈ hs)
      → length (cards d hs) ≤ 512 * 560 → WholeCards d g (cards d hs)
  unfolding cards
  row g hs = row_pile (card_blocks d) (card d) card-is (card-long d) (Member d g) hs

  -- a card has at most k blocks, and k is at most 70
  card-few : InRange d → (i : ℕ) → length (card d i) ≤ 512 * 70
  unfolding block_count held_by planning.held deal_pieces
  card-few f i =
      omega (arith, card-length d i, f.ready.most, those-few (holds d.policy.people d.policy.required i) 1 (deal_pieces d))

pub once_each : (d : Deal) → Made d → (g : ℕ) → WholeCards d g (cards d (members d g))
unfolding cards
once_each d made g =
    let f = made_in_range d made in
    row d g (members d g) (λ i m. in_members d g i m) (λ i m. members_in d g i m)
    (omega (arith, row-few (card d) 70 (members d g) (λ i m. card-few d f i), few-members d g f.ready.few))
