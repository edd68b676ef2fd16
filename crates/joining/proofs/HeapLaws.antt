-- The largest heap: some block lies in one, so a first one does; and which deal it is of. The blocks of two deals lie apart, so two heaps
-- are together no more than the pile. Assumes nothing.
use mathlib.Core.Path.{◌≡◌, refl, sym, ap, ◌∙◌}
use mathlib.Core.Bool.{Bool, true, false}
use mathlib.Core.Logic.{◌≢◌, ⊎_elim}
use mathlib.Core.List.{List}
use Prim.Native.Nat.{ℕ, zero, suc, ◌+◌, ◌-◌, ◌*◌, ◌≤◌, ◌<◌}
use native.Mathlib.Nat.{le_refl, le_of_eq, eq-or-lt_of_le}
use native.Mathlib.Omega.{arith}
use lib.Dec.{leb}
use lib.ListN.{length}
use borrow.Author.Tests.{le-leb, leb-true, leb-false, not-false}
use Rattle.lists.specs.Places.{those, at}
use Rattle.lists.specs.Laws.{IsFirst}
use Rattle.lists.proofs.Truth.{never, isn't, surely}
use Rattle.lists.proofs.EachLaws.{each_at, each_of, each_fails}
use Rattle.lists.proofs.FirstLaws.{first_of, is-first, first-all, none_in, below_end}
use Rattle.lists.proofs.ThoseLaws.{at_in, in_those, those-apart, those-few, count_hit, count_miss}
use Rattle.block.specs.declared.deal.DealWords.{DealWords}
use Rattle.block.specs.Deals.{same_deal}
use Rattle.block.proofs.DealLaws.{same_deal_lem, deal_same, other_deal_lem}
use Rattle.pile.specs.Blocks.{blocks, In, deal_at}
use Rattle.joining.specs.Pile.{heap_of, heap, in_largest, own_block, own_deal}
use Rattle.joining.specs.Checks.{strays, first_stray, mixed_at}

-- a function has a greatest value among the numbers 1 to n
record Greatest (f : ℕ → ℕ) (n a : ℕ) : Type 0 where
  from : 1 ≤ a
  to : a ≤ n
  most : (b : ℕ) → 1 ≤ b → b ≤ n → f b ≤ f a

one_more : (f : ℕ → ℕ) (n a : ℕ) → Greatest f n a → (x : Bool) → leb (f (suc n)) (f a) ≡ x → (c : ℕ) × Greatest f (suc n) c
one_more f n a g true t = (
  a,
  record {
    from = g.from;
    to = omega (arith, g.to);
    most = λ b l m. ⊎_elim (λ (q : b ≡ suc n). rw q (leb-true (f (suc n)) (f a) t)) (λ (s : b < suc n). g.most b l (omega arith)) (eq-or-lt_of_le m);
  },
)
one_more f n a g false e = (
  suc n,
  record {
    from = omega arith;
    to = le_refl (suc n);
    most = λ b l m.
        ⊎_elim (λ (q : b ≡ suc n). le_of_eq (ap f q)) (λ (s : b < suc n). omega (arith, g.most b l (omega arith), leb-false (f (suc n)) (f a) e)) (eq-or-lt_of_le m);
  },
)

greatest : (f : ℕ → ℕ) (n : ℕ) → 1 ≤ n → (a : ℕ) × Greatest f n a
greatest f zero h = absurd (omega arith)
greatest f (suc zero) h = (1, record { from = le_refl 1; to = le_refl 1; most = λ b l m. let e : b ≡ 1 = omega arith in le_of_eq (ap f e) })
greatest f (suc (suc n)) h = let r = greatest f (suc n) (omega arith) in one_more f (suc n) r.0 r.1 (leb (f (suc (suc n))) (f r.0)) refl

module _ (pile : List ℕ) where
  -- block a lies in a largest heap, as a test
  in_largest_lem : (a : ℕ) → ((b : ℕ) → In pile b → heap pile b ≤ heap pile a) → in_largest pile a ≡ true
  unfolding in_largest
  in_largest_lem a h = each_of (blocks pile) (λ b. leb (heap pile b) (heap pile a)) (λ b l m. le-leb (heap pile b) (heap pile a) (h b (l, m)))

  largest_in : (a : ℕ) → in_largest pile a ≡ true → (b : ℕ) → In pile b → heap pile b ≤ heap pile a
  unfolding in_largest
  largest_in a t b h = leb-true (heap pile b) (heap pile a) (each_at (blocks pile) (λ b. leb (heap pile b) (heap pile a)) t b h.0 h.1)

  -- the own block is the first such block
  own_first : 1 ≤ blocks pile → IsFirst (in_largest pile) 1 (blocks pile + 1) (own_block pile)
  unfolding own_block
  own_first some =
      let g = greatest (heap pile) (blocks pile) some in
      (first_of (in_largest pile) 1 (blocks pile + 1) g.0 g.1.from (omega (arith, g.1.to)) (in_largest_lem g.0 (λ b h. g.1.most b h.0 h.1))).0

  -- the pile's own deal is that of one of its blocks
  pub own_in : 1 ≤ blocks pile → In pile (own_block pile)
  own_in some = let f = own_first some in (f.from, omega (arith, f.to))

  pub own_largest : 1 ≤ blocks pile → (a : ℕ) → In pile a → heap pile a ≤ heap pile (own_block pile)
  own_largest some = largest_in (own_block pile) (own_first some).has

  -- a block before the own one lies in a smaller heap
  pub own_earliest : (a : ℕ) → 1 ≤ a → a < own_block pile → heap pile a < heap pile (own_block pile)
  unfolding in_largest own_block
  own_earliest a l h =
      let some : 1 ≤ blocks pile = omega (arith, below_end (in_largest pile) (blocks pile)) in
      let f = own_first some in
      let r = each_fails (blocks pile) (λ b. leb (heap pile b) (heap pile a)) (f.least a l h) in
      omega (arith, leb-false (heap pile r.0) (heap pile a) r.3, own_largest some r.0 (r.1, r.2))

  -- whatever block is like that is the own one
  pub is-own : (a : ℕ) → In pile a → ((b : ℕ) → In pile b → heap pile b ≤ heap pile a) → ((b : ℕ) → 1 ≤ b → b < a → heap pile b < heap pile a)
      → own_block pile ≡ a
  unfolding own_block
  is-own a h most first =
      is-first (in_largest pile) 1 (blocks pile + 1) a
      (record {
        from = h.0;
        to = omega (arith, h.1);
        has = in_largest_lem a most;
        least = λ b l m. isn't (λ t. omega (arith, largest_in b t a h, first b l m));
      })

  -- ---- one deal
  pub one_deal_own : 1 ≤ blocks pile → ((a : ℕ) → In pile a → deal_at pile a ≡ deal_at pile 1) → own_block pile ≡ 1
  one_deal_own some same = is-own 1 (le_refl 1, some) (λ b h. le_of_eq (ap (heap_of pile) (same b h))) (λ b l m. absurd (omega arith))

  -- no block strays from the deal d exactly where all are of it
  pub none-strays : (d : DealWords) → first_stray pile d ≡ 0 → (a : ℕ) → In pile a → deal_at pile a ≡ d
  none-strays d z a h =
      same_deal_lem (deal_at pile a) d
      (not-false _ (none_in (strays pile d) 1 (blocks pile + 1) (le_refl 1) z a h.0 (omega (arith, h.1))))

  pub all_of : (d : DealWords) → ((a : ℕ) → In pile a → deal_at pile a ≡ d) → first_stray pile d ≡ 0
  all_of d same = first-all (strays pile d) 1 (blocks pile + 1) (λ a l h. rw (same a (l, omega arith), deal_same d))

  -- whether a block strays can be seen against block 1
  pub unmixed-first : 1 ≤ blocks pile → first_stray pile (deal_at pile 1) ≡ 0 → mixed_at pile ≡ 0
  unfolding mixed_at
  unmixed-first some z =
      let same = none-strays (deal_at pile 1) z in
      all_of (own_deal pile) (λ a h. same a h ∙ sym (same (own_block pile) (own_in some)))

  -- ---- more than half
  -- a heap that is not empty has a block
  some_of : (d : DealWords) → 1 ≤ heap_of pile d → (a : ℕ) × In pile a × (deal_at pile a ≡ d)
  unfolding heap_of
  some_of d h =
      let test : ℕ → Bool = λ b. same_deal (deal_at pile b) d in
      let r = in_those test 1 (blocks pile) _ (at_in 0 (those test 1 (blocks pile)) 0 h) in
      (at (those test 1 (blocks pile)) 1, (r.0, omega (arith, r.1)), same_deal_lem _ d r.2)

  two_heaps : (d e : DealWords) → d ≢ e → heap_of pile d + heap_of pile e ≤ blocks pile
  unfolding heap_of
  two_heaps d e apart =
      those-apart (λ b. same_deal (deal_at pile b) d) (λ b. same_deal (deal_at pile b) e) 1 (blocks pile)
      (λ b l m t. other_deal_lem (deal_at pile b) e (λ q. apart (sym (same_deal_lem (deal_at pile b) d t) ∙ q)))

  pub majority_own : (d : DealWords) → blocks pile < 2 * heap_of pile d → own_deal pile ≡ d
  majority_own d h =
      let s = some_of d (omega arith) in
      let most : heap_of pile d ≤ heap pile (own_block pile)
      = rw s.2 at (own_largest (omega (arith, s.1.0, s.1.1)) s.0 s.1) in
      same_deal_lem (own_deal pile) d
      (surely (λ e. omega (arith, h, most, two_heaps (own_deal pile) d (λ q. never e (ap (λ (x : DealWords). same_deal x d) q ∙ deal_same d)))))

  -- ---- counting a heap: the blocks before block a are counted
  abbrev pub counted : DealWords → ℕ → ℕ
  counted d a = length (those (λ b. same_deal (deal_at pile b) d) 1 (a - 1))

  pub counted-few : (d : DealWords) (a : ℕ) → counted d a ≤ a - 1
  counted-few d a = those-few (λ b. same_deal (deal_at pile b) d) 1 (a - 1)

  module _ (d : DealWords) (a n : ℕ) (l : 1 ≤ a) (h : n ≡ counted d a) where
    here : 1 + (a - 1) ≡ a
    here = omega arith

    next : a - 1 + 1 ≡ a + 1 - 1
    next = omega arith

    pub count_in : same_deal (deal_at pile a) d ≡ true → n + 1 ≡ counted d (a + 1)
    count_in t = rw next at (count_hit (λ b. same_deal (deal_at pile b) d) 1 (a - 1) n h (rw here t))

    pub count_out : same_deal (deal_at pile a) d ≡ false → n ≡ counted d (a + 1)
    count_out e = rw next at (count_miss (λ b. same_deal (deal_at pile b) d) 1 (a - 1) n h (rw here e))

  -- ---- comparing heaps: of the blocks before block a, this one is the first that lies in a largest heap
  pub record Best (a own : ℕ) : Type 0 where
    pub from : 1 ≤ own
    pub to : own < a
    pub most : (b : ℕ) → 1 ≤ b → b < a → heap pile b ≤ heap pile own
    pub first : (b : ℕ) → 1 ≤ b → b < own → heap pile b < heap pile own

  pub best_one : Best 2 1
  best_one = record {
    from = le_refl 1;
    to = le_refl 2;
    most = λ b l m. let e : b ≡ 1 = omega arith in le_of_eq (ap (heap pile) e);
    first = λ b l m. absurd (omega arith);
  }

  -- one block more: its heap is larger, or not
  pub best_new : (a own : ℕ) → Best a own → heap pile own < heap pile a → Best (a + 1) a
  best_new a own r h = record {
    from = omega (arith, r.from, r.to);
    to = omega arith;
    most = λ b l m.
        ⊎_elim (λ (q : b ≡ a). le_of_eq (ap (heap pile) q)) (λ (s : b < a). omega (arith, r.most b l s)) (eq-or-lt_of_le (omega arith));
    first = λ b l m. omega (arith, r.most b l m);
  }

  pub best_old : (a own : ℕ) → Best a own → heap pile a ≤ heap pile own → Best (a + 1) own
  best_old a own r h = record {
    from = r.from;
    to = omega (arith, r.to);
    most = λ b l m. ⊎_elim (λ (q : b ≡ a). rw q h) (λ (s : b < a). r.most b l s) (eq-or-lt_of_le (omega arith));
    first = r.first;
  }

  pub best_all : (own : ℕ) → Best (blocks pile + 1) own → own ≡ own_block pile
  best_all own r = sym (is-own own (r.from, omega (arith, r.to)) (λ b h. r.most b h.0 (omega (arith, h.1))) r.first)
