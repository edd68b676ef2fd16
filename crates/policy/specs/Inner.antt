-- What policy's own functions say to one another: where a line ends, and what one set more makes of a policy text. No promise to a caller
-- names this. Assumes nothing.
use Rattle.std.specs.Prelude.{◌≡◌, ℕ, suc, cond, List, [], ◌∷◌, ◌++◌, eqb, take}
use Rattle.policy.specs.declared.Entry.{Entry}
use Rattle.policy.specs.declared.Entry.TheVariants.{Need, Bar}
use Rattle.policy.specs.declared.Sets.{Sets}
use Rattle.policy.specs.declared.PolicyText.{PolicyText}
use Rattle.policy.specs.Policy.{Keeps}

-- how many bytes the first line has
unfoldable pub line_length : List ℕ → ℕ
line_length [] = 0
line_length (b ∷ text) = cond (eqb b 10) 1 (suc (line_length text))

-- the sets of a list, without what stands behind them
abbrev pub sets_in : Sets → List ℕ
sets_in list = take list.count list.sets

-- a list with one set more: whichever sets the old list keeps, the new one keeps these and the one behind them
abbrev pub KeepsMore : ℕ → Sets → Sets → Type 0
KeepsMore s old new = (sets : List ℕ) → Keeps sets old → Keeps (sets ++ s ∷ []) new

-- the text's sets with one more behind those of its list, where there is a place for it
abbrev pub Adds : Entry → PolicyText → PolicyText → Type 0
Adds (Need s) old new =
    (new.people ≡ old.people) × (sets_in new.required ≡ take 257 (sets_in old.required ++ s ∷ [])) × KeepsMore s old.required new.required
    × (new.forbidden ≡ old.forbidden)
Adds (Bar s) old new =
    (new.people ≡ old.people) × (new.required ≡ old.required) × (sets_in new.forbidden ≡ take 257 (sets_in old.forbidden ++ s ∷ []))
    × KeepsMore s old.forbidden new.forbidden
