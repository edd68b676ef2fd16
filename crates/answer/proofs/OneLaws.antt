-- `number` and `outcome` tell all apart: each has a map back, kind by kind, so equal images have equal origins.
-- Assumes nothing.
use mathlib.Core.Path.{◌≡◌, refl, ap, sym, ◌∙◌}
use mathlib.Core.List.{[], ◌∷◌}
use mathlib.Core.Logic.{◌≢◌}
use Prim.Native.Nat.{ℕ}
use native.Mathlib.Omega.{arith}
use lib.ListN.{get_or}
use Rattle.answer.specs.declared.Kind.{Kind}
use Rattle.answer.specs.declared.Kind.TheVariants.{People, LongList, Stranger, Nobody, Open, Clash, Deal, Holder, Secret, Random}
use Rattle.answer.specs.declared.Kind.TheVariants.{Room, Torn, Long, Unread, Check, Header, Mixed, Conflict, Short, Text, Lone, NotKey, Unlike, Year}
use Rattle.answer.specs.declared.Kind.TheVariants.{NoClient, Busy, Full, Closed, Rows}
use Rattle.answer.specs.declared.Refusal.{Refusal}
use Rattle.std.specs.Prelude.{⊤, Result, Ok, Err}
use Rattle.answer.specs.Outcome.{Answer, number, outcome_by, outcome, checked}

-- the kind of a number; no kind has 0 or 7
kind_of : ℕ → Kind
kind_of n =
    get_or
    (Rows ∷ People ∷ LongList ∷ Stranger ∷ Nobody ∷ Open ∷ Clash ∷ Rows ∷ Deal ∷ Holder ∷ Secret ∷ Random
    ∷ Room ∷ Torn ∷ Long ∷ Unread ∷ Check ∷ Header ∷ Mixed ∷ Conflict ∷ Short ∷ Text ∷ Lone ∷ NotKey
    ∷ Unlike ∷ Year ∷ NoClient ∷ Busy ∷ Full ∷ Closed ∷ [])
    n Rows

kind-back : (k : Kind) → kind_of (number k) ≡ k
unfolding kind_of
kind-back People = refl
kind-back LongList = refl
kind-back Stranger = refl
kind-back Nobody = refl
kind-back Open = refl
kind-back Clash = refl
kind-back Deal = refl
kind-back Holder = refl
kind-back Secret = refl
kind-back Random = refl
kind-back Room = refl
kind-back Torn = refl
kind-back Long = refl
kind-back Unread = refl
kind-back Check = refl
kind-back Header = refl
kind-back Mixed = refl
kind-back Conflict = refl
kind-back Short = refl
kind-back Text = refl
kind-back Lone = refl
kind-back NotKey = refl
kind-back Unlike = refl
kind-back Year = refl
kind-back NoClient = refl
kind-back Busy = refl
kind-back Full = refl
kind-back Closed = refl
kind-back Rows = refl

pub number_one : (j k : Kind) → number j ≡ number k → j ≡ k
number_one j k e = sym (kind-back j) ∙ ap kind_of e ∙ kind-back k

-- 7 is the number of no kind
pub seven_vacant : (k : Kind) → number k ≢ 7
unfolding kind_of
seven_vacant k e = let q : k ≡ Rows = sym (kind-back k) ∙ ap kind_of e in omega (arith, ap number q)

-- antt compares two records by their fields: what is shown of `made` at a refusal's fields is shown of the refusal
abbrev made : Kind → ℕ → ℕ → Refusal
made k a b = record { kind = k; a = a; b = b }

-- two refusals with one number and the same places are one refusal
pub refusal_one : (r s : Refusal) → number r.kind ≡ number s.kind → r.a ≡ s.a → r.b ≡ s.b → r ≡ s
refusal_one r s n p q =
    let k : r.kind ≡ s.kind = number_one r.kind s.kind n in
    let h : made r.kind r.a r.b ≡ made s.kind s.a s.b = cc in
    h

-- answers whose results say different things differ
pub answer_one : {T A : Type 0} (f : T → A) → ((v w : T) → f v ≡ f w → v ≡ w) → (x y : Result T Refusal) → outcome_by f x ≡ outcome_by f y → x ≡ y
answer_one f one (Ok v) (Ok w) e = let h : f v ≡ f w = cc in ap Ok (one v w h)
answer_one f one (Ok v) (Err s) e = cc
answer_one f one (Err r) (Ok w) e = cc
answer_one f one (Err r) (Err s) e =
    let n : number r.kind ≡ number s.kind = cc in
    let p : r.a ≡ s.a = cc in
    let q : r.b ≡ s.b = cc in
    ap Err (refusal_one r s n p q)

pub outcome_one : (x y : Answer) → outcome x ≡ outcome y → x ≡ y
outcome_one = answer_one (λ v. v) (λ v w e. e)

pub checked_one : (x y : Result ⊤ Refusal) → checked x ≡ checked y → x ≡ y
checked_one = answer_one (λ _. 0) (λ v w e. refl)
