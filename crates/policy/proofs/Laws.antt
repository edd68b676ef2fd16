-- This room's laws, proved: each by its name in specs/Laws.antt. Assumes nothing.
use mathlib.Core.Path.{◌≡◌, sym, ap, ◌∙◌}
use mathlib.Core.List.{List}
use Prim.Native.Nat.{ℕ}
use Rattle.std.specs.Prelude.{Ok, Err}
use Rattle.answer.specs.Outcome.{done, refused}
use Rattle.answer.proofs.OneLaws.{refusal_one}
use Rattle.planning.specs.Policy.{Policy}
use Rattle.policy.specs.declared.Sets.{Sets}
use Rattle.policy.specs.declared.PolicyText.{PolicyText}
use Rattle.policy.specs.Policy.{Keeps, Says}
use Rattle.policy.specs.Laws as law
use Rattle.policy.proofs.WritingLaws as writing
use Rattle.policy.proofs.ShapeLaws as shape
use Rattle.policy.proofs.TextLaws as refusals

pub reads_written : law.ReadsWritten
reads_written = writing.reads_written

pub only-written : law.OnlyWritten
only-written = shape.only-written

pub text_refusal : law.TextRefusal
text_refusal = refusals.text_refusal

pub text_long : law.TextLong
text_long = refusals.text_long

pub text_line : law.TextLine
text_line = refusals.text_line

-- antt compares two records by their fields: what is shown of these at a value's fields is shown of the value
abbrev sets_of_lem : List ℕ → ℕ → Sets
sets_of_lem s c = record { sets = s; count = c }

abbrev text_of : ℕ → Sets → Sets → PolicyText
text_of n r f = record { people = n; required = r; forbidden = f }

sets_one : {sets : List ℕ} {x y : Sets} → Keeps sets x → Keeps sets y → x ≡ y
sets_one {sets} {x} {y} h k =
    let e : x.sets ≡ y.sets = h.filled ∙ sym k.filled in
    let f : x.count ≡ y.count = h.counted ∙ sym k.counted in
    let g : sets_of_lem x.sets x.count ≡ sets_of_lem y.sets y.count = cc in
    g

text_one : {p : Policy} {x y : PolicyText} → Says p x → Says p y → x ≡ y
text_one {p} {x} {y} h k =
    let e : x.people ≡ y.people = h.people ∙ sym k.people in
    let f : x.required ≡ y.required = sets_one h.required k.required in
    let g : x.forbidden ≡ y.forbidden = sets_one h.forbidden k.forbidden in
    let t : text_of x.people x.required x.forbidden ≡ text_of y.people y.required y.forbidden = cc in
    t

pub read_one : law.ReadOne
read_one (done p) (Ok x) (Ok y) h k = ap Ok (text_one h k)
read_one (done p) (Ok x) (Err s) h k = absurd k
read_one (done p) (Err r) y h k = absurd h
read_one (refused m a b) (Ok x) y h k = absurd h
read_one (refused m a b) (Err r) (Ok y) h k = absurd k
read_one (refused m a b) (Err r) (Err s) h k = ap Err (refusal_one r s (h.0 ∙ sym k.0) (h.1 ∙ sym k.1) (h.2 ∙ sym k.2))
