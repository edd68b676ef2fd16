-- What listing's own functions say to one another. No promise to a caller names this. Assumes nothing.
use Rattle.std.specs.Prelude.{◌≡◌, Bool, false, not, List, ◌++◌, ℕ, ◌-◌, ◌≤◌, length, get_or, Result, Ok, Err}
use Rattle.answer.specs.declared.Refusal.{Refusal}
use Rattle.answer.specs.Outcome.{number}
use Rattle.lists.specs.Places.{those}
use Rattle.planning.specs.Groups.{marked}
use Rattle.print.specs.Lines.{spaced_all, feed, label, refused_line}
use Rattle.listing.specs.declared.PlannedText.{PlannedText}
use Rattle.listing.specs.Listing.{listing_by, listed}

-- the numbers of the marks that are set
abbrev pub marked_numbers : List Bool → List ℕ
marked_numbers marks = those (λ i. get_or marks (i - 1) false) 1 (length marks)

-- a line of a word, a number and how it goes on, and behind it the numbers of the marks that are set
abbrev pub marks_line : List ℕ → ℕ → List ℕ → List Bool → List ℕ
marks_line word number more marks = label word number more ++ spaced_all (marked_numbers marks) ++ feed

-- what is printed for a text: the listing of this plan, which is in the bounds of planning; or this refusal
abbrev pub Plans : List ℕ → Result PlannedText Refusal → Type 0
Plans text (Ok p) =
    (p.people ≤ 8) × (p.plan.pieces ≤ 70)
    × (listing_by (marked p.plan.rows) (λ i j. not (marked p.plan.rows j i)) p.people p.plan.pieces ≡ listed text)
Plans text (Err r) = refused_line (number r.kind) r.a r.b ≡ listed text
