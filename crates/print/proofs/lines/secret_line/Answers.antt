-- `print::lines::secret_line` meets its contract: no secret line of 16 words is longer than 103 bytes.
-- Assumes nothing.
use Rattle.std.proofs.Common.{rules}
use mathlib.Core.Path.{◌≡◌, ap, ◌∙◌}
use mathlib.Core.List.{List}
use native.Mathlib.Omega.{arith}
use Prim.Native.Nat.{ℕ, ◌<◌, min}
use lib.ListN.{length, take, get_or}
use lib.Seq.{get_or-take}
use Rattle.print.specs.declared.page.Page.{Page}
use Rattle.print.specs.Inner.{Room}
use Rattle.print.specs.Lines.{secret_line}
use Rattle.print.proofs.WrittenLaws.{room_in_front, printed, retold}
use Rattle.print.proofs.LineLaws.{secret-few}
use Rattle.print.proofs.lines.secret_line.Goals as goal

-- the words up to their end or to the sixteenth are the first sixteen
first_words : (words : List ℕ) (n : ℕ) → n ≡ min (length words) 16 → take n words ≡ take 16 words
first_words words n e = search rules

fits : (words : List ℕ) → ((i : ℕ) → get_or words i 0 < 65536) → (page : Page) → page.at ≡ 0 → (lent : List ℕ) → page.out.now ≡ lent → length lent ≡ 128
    → Room (secret_line (take 16 words)) page
fits words small page z lent e l =
    room_in_front _ z
    (omega (
      arith,
      secret-few (take 16 words) (search rules) (λ i m. rw (get_or-take 16 words i 0 (search rules)) (small i)),
      ap length e ∙ l,
    ))

pub write_secret-requires : goal.write_secret-requires
write_secret-requires c =
    rw (first_words c.args.words.now c.min.result c.min.ensures)
    (fits c.args.words.now (λ i. omega (arith, c.type_inv.words i)) c.new-page.result c.new-page.ensures.front c.args.out.now c.new-page.ensures.bytes c.told-out)

pub returns : goal.returns
returns c =
    let ws = c.args.words.now in
    let same : take c.min.result ws ≡ take 16 ws = first_words ws c.min.result c.min.ensures in
    let w = retold (ap secret_line same) c.write_secret.ensures.written in
    printed c.new-page.ensures.bytes c.new-page.ensures.front w
    (fits ws (λ i. omega (arith, c.type_inv.words i)) c.new-page.result c.new-page.ensures.front c.args.out.now c.new-page.ensures.bytes c.told-out)
