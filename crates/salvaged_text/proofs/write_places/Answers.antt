-- `salvaged_text::write_places` meets its contract: the lines so far are written.
-- Assumes nothing.
use mathlib.Core.Path.{◌≡◌, refl, sym, ap₂, subst, ◌∙◌}
use mathlib.Core.List.{List}
use Prim.Native.Nat.{ℕ, ◌+◌}
use Rattle.print.specs.Inner.{Room}
use Rattle.print.specs.Lines.{pair_line, rising}
use Rattle.print.proofs.WrittenLaws.{nothing, retold, turn_room, turn_written}
use Rattle.print.proofs.LineLaws.{rising_grows}
use Rattle.salvaged_text.specs.Salvaged.{block_label, word_label, place_line}
use Rattle.salvaged_text.proofs.ReportLaws.{place_at}
use Rattle.salvaged_text.proofs.write_places.Goals as goal

pub loop-j-init : goal.loop-j-init
unfolding rising
loop-j-init c = (refl, nothing _)

pub write_pair-requires : goal.write_pair-requires
write_pair-requires c =
    let list = c.args.list.now in
    let l = c.loop-j in
    let line : pair_line block_label c.from-block.result word_label c.from-word.result ≡ place_line list (l.j + 1) =
    ap₂ (λ (block word : ℕ). pair_line block_label block word_label word) c.from-block.ensures c.from-word.ensures ∙ place_at list l.j
    in
    subst (λ (x : List ℕ). Room x l.page) (sym line)
    (turn_room (rising (place_line list)) (λ n. place_line list (n + 1)) (rising_grows (place_line list)) l.j c.args.n c.loop-j-test.true c.requires.room
    l.invariant.1)

pub loop-j-preserved : goal.loop-j-preserved
loop-j-preserved c =
    let list = c.args.list.now in
    let l = c.loop-j in
    let line : pair_line block_label c.from-block.result word_label c.from-word.result ≡ place_line list (l.j + 1) =
    ap₂ (λ (block word : ℕ). pair_line block_label block word_label word) c.from-block.ensures c.from-word.ensures ∙ place_at list l.j
    in (
      c.write_pair.ensures.same_buffer ∙ l.invariant.0,
      turn_written (rising (place_line list)) (λ n. place_line list (n + 1)) (rising_grows (place_line list)) l.j c.args.n c.loop-j-test.true c.requires.room
          l.invariant.1 (retold line c.write_pair.ensures.written),
    )
