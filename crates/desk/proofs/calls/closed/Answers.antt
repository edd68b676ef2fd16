-- `desk::calls::closed` meets its contract: the checks speak, and a result sets the client's slots and words to 0.
-- Assumes nothing.
use mathlib.Core.Path.{sym, ap, ◌∙◌}
use Prim.Native.Nat.{ℕ, ◌*◌}
use lib.ListN.{replicate}
use Rattle.answer.specs.Outcome.{outcome}
use Rattle.answer.proofs.PassedOn.{passed_on}
use Rattle.desk.specs.declared.Opening.{Opening}
use Rattle.desk.specs.Opens.{no_words, words_in}
use Rattle.desk.specs.Slots.{region_start, over_at, cleared}
use Rattle.desk.specs.Lines.{close_says}
use Rattle.desk.specs.Parts.{put}
use Rattle.desk.proofs.WordLaws.{ranged}
use Rattle.desk.proofs.ChainLaws.{past_open, close_stops, close_goes}
use Rattle.desk.proofs.NextLaws.{by_done, by_refused}
use Rattle.desk.proofs.calls.closed.Goals as goal

pub returns-in_err-check_open : goal.returns-in_err-check_open
returns-in_err-check_open c =
    let g = c.args in
    let o = words_in g.both.now g.client in
    let e = sym (ap (λ (x : Opening). close_says x g.client) c.words_of-o.ensures) ∙ close_stops c.words_of-o.result g.client c.check_open.ensures c.in_err-check_open.was in
    record {
      says = ap outcome (passed_on c.from_residual.ensures.1) ∙ sym e;
      leaves = (
        sym (by_refused (close_says o g.client) (cleared g.slots.now o g.client) g.slots.now _ _ _ e),
        sym (by_refused (close_says o g.client) (put g.both.now g.client no_words) g.both.now _ _ _ e),
      );
    }

pub region_start-at-requires : goal.region_start-at-requires
region_start-at-requires c =
    (ranged c.words_of-o.result (past_open c.words_of-o.result c.args.client c.check_open.ensures c.in_ok-check_open.was)).pieces.1

pub returns : goal.returns
unfolding cleared
returns c =
    let g = c.args in
    let o = c.words_of-o.result in
    let e = sym (ap (λ (x : Opening). close_says x g.client) c.words_of-o.ensures) ∙ close_goes o g.client c.check_open.ensures c.in_ok-check_open.was in
    record {
      says = sym e;
      leaves = (
        c.put_zeros.ensures
            ∙ ap (λ (x : ℕ). over_at x (replicate (17 * o.pieces) 0) g.slots.now) c.region_start-at.ensures.0
            ∙ ap (λ (x : Opening). over_at (region_start g.client x.pieces) (replicate (17 * x.pieces) 0) g.slots.now) c.words_of-o.ensures
            ∙ sym (by_done (close_says (words_in g.both.now g.client) g.client) _ g.slots.now o.pieces e),
        c.put.ensures ∙ ap (put g.both.now g.client) c.none.ensures
            ∙ sym (by_done (close_says (words_in g.both.now g.client) g.client) (put g.both.now g.client no_words) g.both.now o.pieces e),
      );
    }
