-- The words of a client: what it is that they are accepted, what a sound desk stores, and which client a number is.
-- Assumes nothing.
use mathlib.Core.Path.{◌≡◌, refl, sym, ap, subst, ◌∙◌}
use mathlib.Core.Bool.{Bool, true, false, cond, not, ◌&&◌, false≢true}
use mathlib.Core.Logic.{◌⊎◌, ⊎_elim}
use mathlib.Core.List.{List}
use Prim.Native.Nat.{ℕ, zero, suc, ◌≤◌}
use native.Mathlib.Omega.{arith}
use lib.Dec.{eqb}
use borrow.Author.Tests.{eqb-true, eq-eqb, ne_eqb, ltb-false}
use Rattle.std.specs.Prelude.{Option}
use Rattle.std.specs.Option.{is_some}
use Rattle.lists.specs.Places.{outside, placed}
use Rattle.lists.proofs.Truth.{both, or_cases}
use Rattle.lists.proofs.RangeLaws.{in_range}
use Rattle.prime.specs.Prime.{too_large}
use Rattle.block.specs.Words.{word_at}
use Rattle.block.specs.Deals.{deal_words, same_deal}
use Rattle.desk.specs.declared.Opening.{Opening}
use Rattle.desk.specs.Opens.{no_words, bad_word, is_client, accepted, reserved, opening_of, alike}
use Rattle.desk.specs.Inner.{Small}
use Rattle.desk.specs.History.{Client, first, second}

pub client_of_lem : (c : ℕ) → is_client c ≡ true → Client c
client_of_lem c e =
    ⊎_elim (λ (t : eqb c 1 ≡ true). subst Client (sym (eqb-true c 1 t)) first) (λ (t : eqb c 2 ≡ true). subst Client (sym (eqb-true c 2 t)) second)
    (or_cases (eqb c 1) (eqb c 2) e)

pub is_client_lem : (c : ℕ) → Client c → is_client c ≡ true
is_client_lem c first = refl
is_client_lem c second = refl

-- ---- accepted words
pub record Ranged (o : Opening) : Type 0 where
  pub deal : (1 ≤ o.deal) × (o.deal ≤ 32748)
  pub people : (1 ≤ o.people) × (o.people ≤ 8)
  pub pieces : (1 ≤ o.pieces) × (o.pieces ≤ 70)
  pub width : (1 ≤ o.width) × (o.width ≤ 16)
  pub year : o.year ≤ 32748

cond_zero : (b : Bool) (n x : ℕ) → 1 ≤ n → cond b n x ≡ 0 → (b ≡ false) × (x ≡ 0)
cond_zero true n x l e = absurd (omega arith)
cond_zero false n x l e = (refl, e)

pub ranged : (o : Opening) → accepted o ≡ true → Ranged o
unfolding bad_word
ranged o e =
    let z = eqb-true (bad_word o) 0 e in
    let a = cond_zero (outside 32748 o.deal) 2 _ (omega arith) z in
    let b = cond_zero (outside 8 o.people) 4 _ (omega arith) a.1 in
    let c = cond_zero (outside 70 o.pieces) 5 _ (omega arith) b.1 in
    let d = cond_zero (outside 16 o.width) 6 _ (omega arith) c.1 in
    let f = cond_zero (too_large o.year) 24 0 (omega arith) d.1 in
    record {
      deal = in_range 32748 o.deal a.0;
      people = in_range 8 o.people b.0;
      pieces = in_range 70 o.pieces c.0;
      width = in_range 16 o.width d.0;
      year = ltb-false 32748 o.year f.0;
    }

-- the first word that is bad, by the tests of those before it
module _ (o : Opening) where
  pub bad_deal : outside 32748 o.deal ≡ true → 2 ≡ bad_word o
  unfolding bad_word
  bad_deal a = rw a

  module _ (a : outside 32748 o.deal ≡ false) where
    pub bad-people : outside 8 o.people ≡ true → 4 ≡ bad_word o
    unfolding bad_word
    bad-people b = rw (a, b)

    module _ (b : outside 8 o.people ≡ false) where
      pub bad-pieces : outside 70 o.pieces ≡ true → 5 ≡ bad_word o
      unfolding bad_word
      bad-pieces c = rw (a, b, c)

      module _ (c : outside 70 o.pieces ≡ false) where
        pub bad-width : outside 16 o.width ≡ true → 6 ≡ bad_word o
        unfolding bad_word
        bad-width d = rw (a, b, c, d)

        module _ (d : outside 16 o.width ≡ false) where
          pub bad-year : too_large o.year ≡ true → 24 ≡ bad_word o
          unfolding bad_word
          bad-year e = rw (a, b, c, d, e)

          pub bad-none : too_large o.year ≡ false → 0 ≡ bad_word o
          unfolding bad_word
          bad-none e = rw (a, b, c, d, e)

pub small_of : (o : Opening) → accepted o ≡ true → Small o
small_of o t = let r = ranged o t in record { pieces = r.pieces.1; width = r.width.1 }

-- a word that was looked for and not found: the words are accepted
pub placed_accepted : (a : ℕ) {r : Option ℕ} {b : Bool} → r ≡ placed a → is_some r ≡ not b → b ≡ eqb a 0
placed_accepted zero {r} {b} e q = go b (sym q ∙ ap is_some e)
  where
    go : (x : Bool) → not x ≡ false → x ≡ true
    go true h = refl
    go false h = absurd (false≢true (sym h))
placed_accepted (suc a) {r} {b} e q = go b (sym q ∙ ap is_some e) ∙ sym (ne_eqb (suc a) 0 (λ z. omega arith))
  where
    go : (x : Bool) → not x ≡ true → x ≡ false
    go true h = absurd (false≢true h)
    go false h = refl

-- two openings that are compared word by word are alike as they stand
pub same_alike : (x y : Opening) {b : Bool}
    → b ≡ eqb x.deal y.deal && (eqb x.people y.people && (eqb x.pieces y.pieces && (eqb x.width y.width && eqb x.year y.year))) → b ≡ alike x y
unfolding alike
same_alike x y e = e

-- ---- stored words: accepted ones, or none
abbrev pub Stored : Opening → Type 0
Stored o = (accepted o ≡ true) ⊎ (o ≡ no_words)

pub none_closed : accepted no_words ≡ false
unfolding bad_word
none_closed = refl

pub stored_pieces : (o : Opening) → Stored o → o.pieces ≤ 70
stored_pieces o s = ⊎_elim (λ t. (ranged o t).pieces.1) (λ (n : o ≡ no_words). rw n (omega arith)) s

pub stored_width : (o : Opening) → Stored o → o.width ≤ 16
stored_width o s = ⊎_elim (λ t. (ranged o t).width.1) (λ (n : o ≡ no_words). rw n (omega arith)) s

pub stored_closed : (o : Opening) → Stored o → accepted o ≡ false → o ≡ no_words
stored_closed o s e = ⊎_elim (λ (t : accepted o ≡ true). absurd (false≢true (sym e ∙ t))) (λ (n : o ≡ no_words). n) s

pub stored_reserved : (o : Opening) → Stored o → reserved o ≡ o.pieces
stored_reserved o s =
    ⊎_elim (λ (t : accepted o ≡ true). ap (λ (b : Bool). cond b o.pieces 0) t)
    (λ (n : o ≡ no_words). ap reserved n ∙ ap (λ (b : Bool). cond b 0 0) none_closed ∙ sym (ap (λ (x : Opening). x.pieces) n)) s

-- ---- words that are alike
pub alike_same : (x y : Opening) → alike x y ≡ true → x ≡ y
unfolding alike
alike_same x y e =
    let a = both (eqb x.deal y.deal) _ e in
    let b = both (eqb x.people y.people) _ a.1 in
    let c = both (eqb x.pieces y.pieces) _ b.1 in
    let d = both (eqb x.width y.width) _ c.1 in
    λ i.
    record {
      deal = eqb-true x.deal y.deal a.0 i;
      people = eqb-true x.people y.people b.0 i;
      pieces = eqb-true x.pieces y.pieces c.0 i;
      width = eqb-true x.width y.width d.0 i;
      year = eqb-true x.year y.year d.1 i;
    }

-- the test that joining has for two blocks, of the first scheme both
bracketed : (a b c d e : Bool) → a && (b && (c && (d && e))) ≡ a && b && c && d && e
bracketed false b c d e = refl
bracketed true false c d e = refl
bracketed true true false d e = refl
bracketed true true true false e = refl
bracketed true true true true e = refl

pub alike_deal : (b b' : List ℕ) → word_at b 1 ≡ 1987 → word_at b' 1 ≡ 1987 → alike (opening_of b) (opening_of b') ≡ same_deal (deal_words b) (deal_words b')
unfolding alike same_deal
alike_deal b b' e f =
    rw (
      eq-eqb (word_at b 1) (word_at b' 1) (e ∙ sym f),
      ne_eqb (word_at b 1) 1988 (λ (q : word_at b 1 ≡ 1988). omega arith),
      ne_eqb (word_at b' 1) 1988 (λ (q : word_at b' 1 ≡ 1988). omega arith),
    )
    (bracketed (eqb (word_at b 2) (word_at b' 2)) (eqb (word_at b 4) (word_at b' 4)) (eqb (word_at b 5) (word_at b' 5)) (eqb (word_at b 6) (word_at b' 6))
    (eqb (word_at b 24) (word_at b' 24)))
