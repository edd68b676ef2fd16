-- `listing::listing` meets its contract: what is printed for the text that was read, and it fits.
-- Assumes nothing.
use mathlib.Core.Path.{◌≡◌, ap, ◌∙◌}
use mathlib.Core.Bool.{not}
use mathlib.Core.List.{List}
use native.Mathlib.Omega.{arith}
use Prim.Native.Nat.{ℕ, ◌≤◌, ◌<◌}
use lib.ListN.{length}
use Rattle.answer.specs.declared.Refusal.{Refusal}
use Rattle.answer.specs.Outcome.{number}
use Rattle.planning.specs.Groups.{marked}
use Rattle.planning.specs.declared.table.Plan.{Plan}
use Rattle.print.specs.declared.page.Page.{Page}
use Rattle.print.specs.Inner.{Room}
use Rattle.print.specs.Lines.{refused_line}
use Rattle.print.proofs.WrittenLaws.{room_in_front, retold, printed}
use Rattle.print.proofs.LineLaws.{refused-few}
use Rattle.listing.specs.Listing.{listing_by}
use Rattle.listing.proofs.ListingLaws.{listing-short}
use Rattle.listing.proofs.listing.Goals as goal
use Rattle.listing.proofs.listing.Goals.{in-Ok, in-Err}

-- the page stands at the front of a buffer of 4,113 bytes
module _ (page : Page) (z : page.at ≡ 0) (lent : List ℕ) (e : page.out.now ≡ lent) (l : length lent ≡ 4113) where
  listing_fits : (people : ℕ) (plan : Plan) → people ≤ 8 → plan.pieces ≤ 70
      → Room (listing_by (marked plan.rows) (λ i j. not (marked plan.rows j i)) people plan.pieces) page
  listing_fits people plan p q =
      room_in_front _ z (omega (arith, listing-short (marked plan.rows) (λ i j. not (marked plan.rows j i)) people plan.pieces p q, ap length e ∙ l))

  refusal_fits : (r : Refusal) → r.a < 18446744073709551616 → r.b < 18446744073709551616 → Room (refused_line (number r.kind) r.a r.b) page
  refusal_fits r p q = room_in_front _ z (omega (arith, refused-few r.kind r.a r.b p q, ap length e ∙ l))

pub write_listing-requires-clause-room : goal.write_listing-requires-clause-room
write_listing-requires-clause-room c =
    let t = c.in-Ok.planned in
    listing_fits c.new-page.result c.new-page.ensures.front c.args.out.now c.new-page.ensures.bytes c.told-out t.people t.plan c.in-Ok.ensures.0 c.in-Ok.ensures.1

pub write_refusal-requires : goal.write_refusal-requires
write_refusal-requires c =
    refusal_fits c.new-page.result c.new-page.ensures.front c.args.out.now c.new-page.ensures.bytes c.told-out c.in-Err.refusal (omega arith) (omega arith)

pub returns : goal.returns
returns c =
    let page = c.new-page in
    elim c.match-plan_text.branch [
      | in-Ok w ↦
          let t = w.in-Ok.planned in
          rw w.page-is
          (printed page.ensures.bytes page.ensures.front (retold w.in-Ok.ensures.2 w.write_listing.ensures.written)
          (rw w.in-Ok.ensures.2 at (listing_fits page.result page.ensures.front c.args.out.now page.ensures.bytes c.told-out t.people t.plan w.in-Ok.ensures.0 w.in-Ok.ensures.1)))
      | in-Err w ↦
          rw w.page-is
          (printed page.ensures.bytes page.ensures.front (retold w.in-Err.ensures w.write_refusal.ensures.written)
          (rw w.in-Err.ensures at (refusal_fits page.result page.ensures.front c.args.out.now page.ensures.bytes c.told-out w.in-Err.refusal (omega arith) (omega arith))))
    ]
