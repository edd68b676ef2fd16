-- A sound desk: how a desk is that began fresh and that only the calls touched; what a call of one client changes.
-- Assumes nothing.
use mathlib.Core.Path.{◌≡◌, refl}
use mathlib.Core.Logic.{inr}
use Prim.Native.Nat.{ℕ, ◌+◌, ◌≤◌, ◌<◌}
use native.Mathlib.Omega.{arith}
use native.Mathlib.Decide.{dec_lt}
use lib.ListN.{length, get_or, replicate, length-replicate, get_or-replicate, get_or-eq_default}
use Rattle.desk.specs.declared.Opening.{Opening}
use Rattle.desk.specs.declared.Desk.{Desk}
use Rattle.desk.specs.Opens.{fresh_desk, other, words_of}
use Rattle.desk.specs.Lines.{with_words}
use Rattle.desk.specs.History.{Client, first, second}
use Rattle.desk.proofs.WordLaws.{Stored}
use Rattle.desk.proofs.RegionLaws.{In}

-- 1,190 numbers; each client has accepted words or none; their slots are at most 70; a number in no client's slots is 0
pub record Sound (d : Desk) : Type 0 where
  pub size : length d.slots ≡ 1190
  pub one_stored : Stored d.clients.one
  pub two_stored : Stored d.clients.two
  pub fit : d.clients.one.pieces + d.clients.two.pieces ≤ 70
  pub quiet : (i : ℕ) → (In 1 d.clients.one.pieces i → ⊥) → (In 2 d.clients.two.pieces i → ⊥) → get_or d.slots i 0 ≡ 0

-- zeros read 0 at every place
pub zeros : (n i : ℕ) → get_or {A = ℕ} (replicate n 0) i 0 ≡ 0
zeros n i = go (dec_lt i n)
  where
    go : Dec (i < n) → get_or {A = ℕ} (replicate n 0) i 0 ≡ 0
    go (yes h) = get_or-replicate {A = ℕ} n i 0 0 h
    go (no h) = get_or-eq_default {A = ℕ} (replicate n 0) 0 {n = i} (omega (arith, length-replicate {A = ℕ} n 0))

pub sound_fresh : Sound fresh_desk
unfolding fresh_desk
sound_fresh = record { size = length-replicate {A = ℕ} 1190 0; one_stored = inr refl; two_stored = inr refl; fit = omega arith; quiet = λ i a b. zeros 1190 i }

-- ---- the same, said of client c and the other
module _ (d : Desk) (s : Sound d) where
  pub stored_of : (c : ℕ) → Client c → Stored (words_of d c)
  stored_of c first = s.one_stored
  stored_of c second = s.two_stored

  pub fit_of : (c : ℕ) → Client c → (words_of d c).pieces + (words_of d (other c)).pieces ≤ 70
  fit_of c first = s.fit
  fit_of c second = omega (arith, s.fit)

  pub quiet_of : (c i : ℕ) → Client c → (In c (words_of d c).pieces i → ⊥) → (In (other c) (words_of d (other c)).pieces i → ⊥) → get_or d.slots i 0 ≡ 0
  quiet_of c i first a b = s.quiet i a b
  quiet_of c i second a b = s.quiet i b a

-- what makes a desk sound, said so
pub record Soundly (d : Desk) (c : ℕ) : Type 0 where
  pub size : length d.slots ≡ 1190
  pub stored : Stored (words_of d c)
  pub others : Stored (words_of d (other c))
  pub fit : (words_of d c).pieces + (words_of d (other c)).pieces ≤ 70
  pub quiet : (i : ℕ) → (In c (words_of d c).pieces i → ⊥) → (In (other c) (words_of d (other c)).pieces i → ⊥) → get_or d.slots i 0 ≡ 0

pub soundly : (d : Desk) (c : ℕ) → Client c → Soundly d c → Sound d
soundly d c first h = record { size = h.size; one_stored = h.stored; two_stored = h.others; fit = h.fit; quiet = λ i a b. h.quiet i a b }
soundly d c second h = record { size = h.size; one_stored = h.others; two_stored = h.stored; fit = omega (arith, h.fit); quiet = λ i a b. h.quiet i b a }

-- ---- words of one client stored
pub words-set : (d : Desk) (c : ℕ) (o : Opening) → Client c → words_of (with_words d c o) c ≡ o
words-set d c o first = refl
words-set d c o second = refl

pub words-kept : (d : Desk) (c : ℕ) (o : Opening) → Client c → words_of (with_words d c o) (other c) ≡ words_of d (other c)
words-kept d c o first = refl
words-kept d c o second = refl

-- ---- e is d with changes that are client c's alone
pub record Touched (c : ℕ) (d e : Desk) : Type 0 where
  pub others : words_of e (other c) ≡ words_of d (other c)
  pub outside : (i : ℕ) → (In c (words_of d c).pieces i → ⊥) → get_or e.slots i 0 ≡ get_or d.slots i 0

pub untouched : (c : ℕ) (d : Desk) → Touched c d d
untouched c d = record { others = refl; outside = λ i n. refl }
