-- `salvaged_text::salvaged_text` meets its contract: the report of a salvaged pile, or the refusal; and it fits. Assumes nothing.
use mathlib.Core.Path.{◌≡◌, sym, ap, ◌∙◌}
use mathlib.Core.List.{List}
use native.Mathlib.Omega.{arith}
use Prim.Native.Nat.{ℕ, ◌≤◌, ◌<◌}
use lib.ListN.{length}
use Rattle.answer.specs.declared.Refusal.{Refusal}
use Rattle.answer.specs.Outcome.{number}
use Rattle.print.specs.declared.page.Page.{Page}
use Rattle.print.specs.Inner.{Room}
use Rattle.print.specs.Lines.{refused_line}
use Rattle.print.proofs.WrittenLaws.{room_in_front, retold, printed}
use Rattle.print.proofs.LineLaws.{refused-few}
use Rattle.salvaged_text.proofs.ReportLaws.{refusal-is, no_bytes, few, bytes_printed, report-is, report-fits}
use Rattle.salvaged_text.proofs.salvaged_text.Goals as goal
use Rattle.salvaged_text.proofs.salvaged_text.Goals.{in-Ok, in-Err}

-- the page stands at the front of a buffer of 2,444 bytes
module _ (page : Page) (z : page.at ≡ 0) (lent : List ℕ) (e : page.out.now ≡ lent) (l : length lent ≡ 2444) where
  fits : (line : List ℕ) → length line ≤ 2444 → Room line page
  fits line h = room_in_front line z (omega (arith, h, ap length e ∙ l))

  refusal_fits : (r : Refusal) → r.a < 18446744073709551616 → r.b < 18446744073709551616 → Room (refused_line (number r.kind) r.a r.b) page
  refusal_fits r p q = fits _ (omega (arith, refused-few r.kind r.a r.b p q))

pub write_report-requires-clause-listed : goal.write_report-requires-clause-listed
write_report-requires-clause-listed c =
    omega (arith, few c.args.pile.now c.in-Ok.n (sym c.in-Ok.ensures.says))

pub write_report-requires-clause-room : goal.write_report-requires-clause-room
write_report-requires-clause-room c =
    fits c.new-page.result c.new-page.ensures.front c.args.out.now c.new-page.ensures.bytes c.told-out _
    (report-fits c.args.pile.now c.in-Ok.n (sym c.in-Ok.ensures.says) c.salvage_pile.new.list c.salvage_pile.ensures.lists)

pub write_refusal-requires : goal.write_refusal-requires
write_refusal-requires c =
    refusal_fits c.new-page.result c.new-page.ensures.front c.args.out.now c.new-page.ensures.bytes c.told-out c.in-Err.refusal (omega arith) (omega arith)

pub returns-clause-text : goal.returns-clause-text
returns-clause-text c =
    let pile = c.args.pile.now in
    let page = c.new-page in
    elim c.match-salvage_pile.branch [
      | in-Ok w ↦
          let says = sym w.in-Ok.ensures.says in
          let list = c.salvage_pile.new.list in
          let is = report-is pile w.in-Ok.n says list c.salvage_pile.ensures.lists in
          rw w.page-is
          (printed page.ensures.bytes page.ensures.front (retold is w.write_report.ensures.written)
          (rw is at (fits page.result page.ensures.front c.args.out.now page.ensures.bytes c.told-out _ (report-fits pile w.in-Ok.n says list c.salvage_pile.ensures.lists))))
      | in-Err w ↦
          let is = refusal-is pile _ _ _ (sym w.in-Err.ensures.says) in
          rw w.page-is
          (printed page.ensures.bytes page.ensures.front (retold is w.write_refusal.ensures.written)
          (rw is at (refusal_fits page.result page.ensures.front c.args.out.now page.ensures.bytes c.told-out w.in-Err.refusal (omega arith) (omega arith))))
    ]

pub returns-clause-bytes : goal.returns-clause-bytes
returns-clause-bytes c =
    let pile = c.args.pile.now in
    elim c.match-salvage_pile.branch [
      | in-Ok w ↦ rw w.bytes-is (bytes_printed pile w.in-Ok.n (sym w.in-Ok.ensures.says) c.salvage_pile.new.pile c.salvage_pile.ensures.mends)
      | in-Err w ↦ rw w.bytes-is (no_bytes pile _ _ _ (sym w.in-Err.ensures.says) c.salvage_pile.new.pile c.salvage_pile.ensures.mends)
    ]
