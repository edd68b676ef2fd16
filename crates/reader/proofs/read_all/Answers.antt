-- `reader::read_all` meets its contract. The invariant: the blocks after the passed ones are still to speak. Assumes nothing.
use mathlib.Core.Path.{◌≡◌, sym, ap, ◌∙◌}
use mathlib.Core.List.{List}
use Prim.Native.Nat.{ℕ}
use Rattle.std.specs.Prelude.{Option, Result, Some}
use denote.Ref.{Bor}
use Rattle.answer.specs.Outcome.{done, outcome}
use Rattle.answer.specs.declared.Refusal.{Refusal}
use Rattle.answer.proofs.PassedOn.{passed_on}
use Rattle.block.specs.declared.Words.{Words}
use Rattle.reader.specs.declared.Reader.{Reader}
use Rattle.reader.specs.Seeing.{sight, seeing, after, stepped}
use Rattle.reader.proofs.ReadingLaws.{ahead_start, ahead_on, ahead_less, refused-at, ended_at, ended_stays}
use Rattle.reader.proofs.read_all.Goals as goal

-- what the reader said, of the pile that it was made for
said : {pile : List ℕ} (r : Reader) {seen x : Option (Result Words Refusal)} → r.pile.now ≡ pile → sight seen ≡ seeing r.pile.now r.block → seen ≡ x
    → sight x ≡ seeing pile r.block
said {pile} r e s f = sym (ap sight f) ∙ s ∙ ap (λ (bytes : List ℕ). seeing bytes r.block) e

-- where it stands then
stands : {pile : List ℕ} (r : Reader) {next : Reader} → r.pile.now ≡ pile → next ≡ stepped r → (next.pile.now ≡ pile) × (next.block ≡ after pile r.block)
stands {pile} r e s =
    (ap (λ (n : Reader). n.pile.now) s ∙ e, ap (λ (n : Reader). n.block) s ∙ ap (λ (bytes : List ℕ). after bytes r.block) e)

pub loop-seen-init : goal.loop-seen-init
loop-seen-init c = (ap (λ (p : Bor (List ℕ)). p.now) c.new-r.ensures.0, rw c.new-r.ensures.1 (ahead_start c.args.pile.now))

pub loop-seen-smaller : goal.loop-seen-smaller
loop-seen-smaller c =
    let l = c.loop-seen in
    rw (stands l.r l.invariant.0 c.next.ensures.1).1
    (ahead_less c.args.pile.now l.r.block (said l.r l.invariant.0 c.next.ensures.0 (c.in-Some.is ∙ ap Some c.in_ok-seen.was)))

pub loop-seen-preserved : goal.loop-seen-preserved
loop-seen-preserved c =
    let l = c.loop-seen in
    let s = stands l.r l.invariant.0 c.next.ensures.1 in
    (s.0, rw s.1 (ahead_on c.args.pile.now l.r.block l.invariant.1 (said l.r l.invariant.0 c.next.ensures.0 (c.in-Some.is ∙ ap Some c.in_ok-seen.was))))

pub returns-in_err-seen : goal.returns-in_err-seen
returns-in_err-seen c =
    let l = c.loop-seen in
    ap outcome (passed_on c.from_residual.ensures.1)
    ∙ refused-at c.args.pile.now l.r.block _ _ _ l.invariant.1 (said l.r l.invariant.0 c.next.ensures.0 (c.in-Some.is ∙ ap Some c.in_err-seen.was))

pub returns : goal.returns
returns c =
    let l = c.loop-seen in
    let e = said l.r l.invariant.0 c.next.ensures.0 c.in_default.is in
    ap done ((stands l.r l.invariant.0 c.next.ensures.1).1 ∙ ended_stays c.args.pile.now l.r.block e) ∙ ended_at c.args.pile.now l.r.block l.invariant.1 e
