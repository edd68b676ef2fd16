-- A maximal group, told by one walk over the required list: what the group lacks of each set. And what that comes to, in members.
-- Assumes nothing.
use mathlib.Core.Path.{◌≡◌, refl, sym, ap, ◌∙◌}
use mathlib.Core.Bool.{Bool, true, false, cond, not, ◌||◌}
use mathlib.Core.List.{List}
use mathlib.Core.Logic.{◌↔◌, ⊎_elim}
use Prim.Native.Nat.{ℕ, ◌+◌, ◌-◌, ◌^◌, ◌≤◌, ◌<◌, zero-le}
use native.Mathlib.Numerals.{add-one}
use native.Mathlib.Omega.{arith}
use lib.Dec.{eqb}
use lib.ListN.{length, get_or, drop}
use lib.Pow.{pow_mono}
use lib.Seq.{drop-cons, drop-length}
use Rattle.lists.specs.Some.{◌∈◌, some}
use Rattle.lists.proofs.Truth.{never, decided, isn't, both, and_both, or_cases, or_l, or_r, not_so, so_not}
use Rattle.lists.proofs.EachLaws.{each_at, each_of, each_same}
use Rattle.lists.proofs.SomeLaws.{some_in, in_some}
use Rattle.planning.specs.Sets.{worth, member, inside, one_member}
use Rattle.planning.specs.Groups.{authorised, tight, maximal_by, maximal}
use Rattle.planning.specs.Inner.{Lacked, Either}
use Rattle.planning.specs.Laws.{OnlyLacks}
use Rattle.planning.proofs.SetLaws.{inside_fails}
use Rattle.planning.proofs.LackLaws.{inside_everyone, only_lack, lacks_nobody, lacks_one}

-- ---- at index i: what is still ahead says, with what was found, the same as the whole list
pub record Walked (l : List ℕ) (g i : ℕ) (within : Bool) (found : ℕ) : Type 0 where
  pub in_list : i ≤ length l
  pub inside-said : authorised l g ≡ (within || authorised (drop i l) g)
  pub others-said : (p : ℕ) → 1 ≤ p → p ≤ 16 → member p g ≡ false
      → authorised l (g + worth p) ≡ ((within || member p found) || authorised (drop i l) (g + worth p))
  pub own : (p : ℕ) → 1 ≤ p → p ≤ 16 → member p g ≡ true → member p found ≡ true

pub walk_start : (l : List ℕ) (g : ℕ) → Walked l g 0 false g
walk_start l g = record { in_list = zero-le; inside-said = refl; others-said = λ p _ _ o. rw o; own = λ p _ _ m. m }

-- the next set: inside, or with one person more, or neither
one_more : (w t rest : Bool) → (w || (t || rest)) ≡ ((w || t) || rest)
one_more true t rest = refl
one_more false t rest = refl

two_more : (w f t a rest : Bool) → ((w || f) || ((t || a) || rest)) ≡ (((w || t) || (f || a)) || rest)
two_more true f t a rest = refl
two_more false true true a rest = refl
two_more false true false a rest = refl
two_more false false true a rest = refl
two_more false false false a rest = refl

or_none : (b : Bool) → (b || false) ≡ b
or_none true = refl
or_none false = refl

module _ {l : List ℕ} {g i : ℕ} {within : Bool} {found : ℕ} (h : Walked l g i within found) where
  pub walk_next : {s a f : ℕ} → i < length l → Lacked (get_or l i 0) g s → a ≡ cond (one_member s) s 0 → Either found a f
      → Walked l g (i + 1) (within || eqb s 0) f
  unfolding authorised some
  walk_next {s} {a} {f} in-it s-is a-is f-is = record {
    in_list = omega arith;
    inside-said = h.inside-said ∙ rw (drop-cons l i 0 in-it, lacks_nobody s-is, add-one i) (one_more within (eqb s 0) _);
    others-said = λ p pos few o.
        h.others-said p pos few o
        ∙ rw (drop-cons l i 0 in-it, lacks_one s-is a p a-is pos few o, add-one i, f-is.has p pos few) (two_more within (member p found) (eqb s 0) (member p a) _);
    own = λ p pos few m. f-is.has p pos few ∙ or_l (member p a) (h.own p pos few m);
  }

  pub walk_inside : (n : ℕ) → within ≡ true → false ≡ maximal n l g
  unfolding maximal_by
  walk_inside n t = rw (h.inside-said, t)

  pub walk_end : (n : ℕ) → n ≤ 16 → length l ≤ i → within ≡ false → inside (2 ^ n - 1) found ≡ maximal n l g
  unfolding maximal_by tight authorised some
  walk_end n few past e =
      let z : i ≡ length l = omega (arith, h.in_list) in
      inside_everyone n found few
      ∙ each_same n (λ p. member p found) (λ p. member p g || authorised l (g + worth p)) (λ p pos k. person p pos (omega arith) z)
      ∙ rw (h.inside-said, e, z, drop-length l)
    where
      person : (p : ℕ) → 1 ≤ p → p ≤ 16 → i ≡ length l → member p found ≡ (member p g || authorised l (g + worth p))
      person p pos k z =
          ⊎_elim (λ (m : member p g ≡ true). h.own p pos k m ∙ rw m)
          (λ (o : member p g ≡ false). rw (o, h.others-said p pos k o, e, z, drop-length l) (sym (or_none (member p found))))
          (decided (member p g))

-- ---- in members
module _ (n : ℕ) (required : List ℕ) (g : ℕ) (few : n ≤ 16) where
  lacks_each : maximal n required g ≡ true
      → ((s : ℕ) → s ∈ required → inside s g ≡ false)
      × ((i : ℕ) → 1 ≤ i → i ≤ n → member i g ≡ false → (s : ℕ) × (s ∈ required) × OnlyLacks g s i)
  unfolding maximal_by tight authorised
  lacks_each t = (outside, person)
    where
      told : (not (authorised required g) ≡ true) × (tight (authorised required) n g ≡ true)
      told = both (not (authorised required g)) (tight (authorised required) n g) t

      outside : (s : ℕ) → s ∈ required → inside s g ≡ false
      outside s m = isn't (λ u. never (not_so (authorised required g) told.0) (in_some (λ r. inside r g) required s m u))

      person : (i : ℕ) → 1 ≤ i → i ≤ n → member i g ≡ false → (s : ℕ) × (s ∈ required) × OnlyLacks g s i
      person i l h o =
          ⊎_elim (λ (m : member i g ≡ true). absurd (never o m))
          (λ (a : authorised required (g + worth i) ≡ true).
          let r = some_in (λ s. inside s (g + worth i)) required a in
          let one = (only_lack r.0 g i l o).0 r.2 in
          let f = inside_fails r.0 g (outside r.0 r.1) in
          (r.0, r.1, (ap (λ (x : ℕ). member x r.0) (sym (one f.0 f.1 f.2 f.3 f.4)) ∙ f.3, o, one)))
          (or_cases (member i g) (authorised required (g + worth i)) (each_at n (λ j. member j g || authorised required (g + worth j)) told.1 i l h))

  each_lacks : ((s : ℕ) → s ∈ required → inside s g ≡ false)
      × ((i : ℕ) → 1 ≤ i → i ≤ n → member i g ≡ false → (s : ℕ) × (s ∈ required) × OnlyLacks g s i)
      → maximal n required g ≡ true
  unfolding maximal_by tight authorised
  each_lacks h =
      and_both
      (so_not (isn't (λ u. let r = some_in (λ s. inside s g) required u in never (h.0 r.0 r.1) r.2)))
      (each_of n (λ i. member i g || authorised required (g + worth i))
      (λ i l k. ⊎_elim (λ (m : member i g ≡ true). or_l (authorised required (g + worth i)) m)
      (λ (o : member i g ≡ false).
      let w = h.1 i l k o in
      or_r (member i g) (in_some (λ s. inside s (g + worth i)) required w.0 w.1 ((only_lack w.0 g i l o).1 w.2.2)))
      (decided (member i g))))

pub maximal_by_missing : (n : ℕ) (required : List ℕ) (g : ℕ) → n ≤ 16
    → (maximal n required g ≡ true)
    ↔ (((s : ℕ) → s ∈ required → inside s g ≡ false)
    × ((i : ℕ) → 1 ≤ i → i ≤ n → member i g ≡ false → (s : ℕ) × (s ∈ required) × OnlyLacks g s i))
maximal_by_missing n required g few = (lacks_each n required g few, each_lacks n required g few)

-- ---- at most eight people
pub size_le : (n s : ℕ) → n ≤ 8 → s ≡ 2 ^ n → s ≤ 256
size_le n s few e = let p : 2 ^ n ≤ 2 ^ 8 = pow_mono few in omega arith
