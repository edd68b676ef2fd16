-- Demand 1 of the other calls (SCOPE 6.3): reading a policy text, the listing program, and the reader.
-- Assumes nothing.
use Rattle.std.specs.Prelude.{ℕ, ◌+◌, ◌<◌, ◌≡◌, List, [], ◌∷◌, ◌++◌, ltb, length}
use Rattle.lists.specs.Places.{found}
use Rattle.answer.specs.declared.Kind.TheVariants.{Text}
use Rattle.answer.specs.Outcome.{done, refused}
use Rattle.answer.specs.Checks.{Line, line}
use Rattle.planning.specs.Policy.{Policy}
use Rattle.planning.specs.Planned.{planned}
use Rattle.block.specs.Layout.{front_words}
use Rattle.block.specs.Open.{block_lines}
use Rattle.pile.specs.Blocks.{blocks, rest_from}
use Rattle.pile.specs.Lines.{torn_pile, every_block}
use Rattle.reader.specs.Seeing.{told, opening_at, seeing, reading}
use Rattle.print.specs.Lines.{refused_line}
use Rattle.policy.specs.Policy.{lines, bad_line, policy_in, read_policy}
use Rattle.listing.specs.Listing.{listing, listed}
use Rattle.demands.specs.Demand1.{Ends, Refuses}

-- ---- reading a policy text
-- its lines: TEXT for its length, then TEXT for its first bad line
abbrev pub text_lines : List ℕ → List Line
text_lines text = line Text (ltb 16384 (length text)) 0 0 ∷ line Text (found (bad_line (lines text))) (bad_line (lines text)) 0 ∷ []

abbrev pub ReadEnds : Type 0
ReadEnds = (text : List ℕ) → Ends (text_lines text) (policy_in (lines text)) (read_policy text)

abbrev pub ReadRefuses : Type 0
ReadRefuses = (text : List ℕ) → Refuses (text_lines text) (read_policy text)

-- ---- the listing program: the text's refusal, else planning's, else the listing
abbrev pub ListEnds : Type 0
ListEnds = (text : List ℕ)
    → ((m a b : ℕ) → read_policy text ≡ refused m a b → listed text ≡ refused_line m a b)
    × ((p : Policy) (m a b : ℕ) → read_policy text ≡ done p → planned p ≡ refused m a b → listed text ≡ refused_line m a b)
    × ((p : Policy) (k : ℕ) → read_policy text ≡ done p → planned p ≡ done k → listed text ≡ listing p.people p.required)

-- ---- the reader
-- For its next block it says what the block's lines say, with the block's number in the pile.
abbrev pub NextEnds : Type 0
NextEnds = (pile : List ℕ) (n : ℕ) → n < blocks pile
    → (seeing pile n ≡ told (opening_at pile (n + 1)))
    × Ends (block_lines (rest_from pile (n + 1)) (n + 1)) (front_words (rest_from pile (n + 1))) (opening_at pile (n + 1))

-- A whole pile: the lines of its blocks, then TORN, else how many blocks it has.
abbrev pub AllEnds : Type 0
AllEnds = (pile : List ℕ) → Ends (every_block pile ++ torn_pile pile ∷ []) (blocks pile) (reading pile)
