-- This room's laws, proved: each by its name in specs/Laws.antt. Assumes nothing.
use mathlib.Core.Path.{◌≡◌, sym, ap, ◌∙◌}
use mathlib.Core.Bool.{Bool}
use mathlib.Core.List.{List}
use Prim.Native.Nat.{ℕ}
use Rattle.std.specs.Prelude.{Result, Ok, Err, IfOk}
use Rattle.answer.specs.declared.Refusal.{Refusal}
use Rattle.answer.specs.Outcome.{number, outcome_by}
use Rattle.answer.proofs.OneLaws.{refusal_one}
use Rattle.planning.specs.declared.table.Plan.{Plan}
use Rattle.planning.specs.Policy.{Policy}
use Rattle.planning.specs.Planned.{planned_rows}
use Rattle.planning.specs.Laws as law
use Rattle.planning.proofs.SetLaws as set
use Rattle.planning.proofs.CountLaws as count
use Rattle.planning.proofs.ListedLaws as lists
use Rattle.planning.proofs.GroupLaws as group
use Rattle.planning.proofs.HoldingLaws as holding
use Rattle.planning.proofs.ApartLaws as apart
use Rattle.planning.proofs.PlaceLaws as place
use Rattle.planning.proofs.ClashLaws as clash
use Rattle.planning.proofs.AcceptedLaws as accepted

pub stranger-means : law.StrangerMeans
stranger-means = set.stranger-means

pub inside-means : law.InsideMeans
inside-means = set.inside-means

pub one_member_means : law.OneMemberMeans
one_member_means = count.one_member_means

pub listed-means : law.ListedMeans
listed-means = lists.listed

pub long-places : law.LongPlaces
long-places = place.long-places

pub stranger-places : law.StrangerPlaces
stranger-places = place.stranger-places

pub open_places : law.OpenPlaces
open_places = place.open_places

pub lone-places : law.LonePlaces
lone-places = place.lone-places

pub clash_families : law.ClashFamilies
clash_families = clash.clash_families

pub clash-places : law.ClashPlaces
clash-places = clash.clash-places

pub maximal_by_missing : law.MaximalByMissing
maximal_by_missing = group.maximal_by_missing

pub groups_are : law.GroupsAre
groups_are = holding.groups_are

pub groups_rise : law.GroupsRise
groups_rise = holding.groups_rise

pub held_are : law.HeldAre
held_are = holding.held_are

pub gathers : law.Gathers
gathers = holding.gathers

pub lacks : law.Lacks
lacks = holding.lacks

pub groups-apart : law.GroupsApart
groups-apart = apart.groups-apart

pub few-groups : law.FewGroups
few-groups = apart.few-groups

pub few-blocks : law.FewBlocks
few-blocks = apart.few-blocks

pub accepted-listed : law.AcceptedListed
accepted-listed = accepted.accepted-listed

pub some-piece : law.SomePiece
some-piece = accepted.some-pieces

pub forbidden_free : law.ForbiddenFree
forbidden_free = accepted.forbidden_free

pub rows_mean : law.RowsMean
rows_mean = accepted.rows_mean

pub refused-rows : law.RefusedRows
refused-rows = accepted.refused-rows

-- antt compares two records by their fields: what is shown of `made` at a plan's fields is shown of the plan
abbrev made : ℕ → List (List Bool) → Plan
made k t = record { pieces = k; rows = t }

same_plan : (x y : Plan) → x.pieces ≡ y.pieces → x.rows ≡ y.rows → x ≡ y
same_plan x y e f = let g : made x.pieces x.rows ≡ made y.pieces y.rows = cc in g

-- with the tables equal too, plans are told apart by their number of pieces
both_plans : (p : Policy) (x y : Result Plan Refusal) → outcome_by (λ (v : Plan). v.pieces) x ≡ outcome_by (λ (v : Plan). v.pieces) y
    → IfOk x (λ (v : Plan). v.rows ≡ planned_rows p) → IfOk y (λ (v : Plan). v.rows ≡ planned_rows p) → x ≡ y
both_plans p (Ok v) (Ok w) e h k = let n : v.pieces ≡ w.pieces = cc in ap Ok (same_plan v w n (h ∙ sym k))
both_plans p (Ok v) (Err s) e h k = cc
both_plans p (Err r) (Ok w) e h k = cc
both_plans p (Err r) (Err s) e h k =
    let n : number r.kind ≡ number s.kind = cc in
    let a : r.a ≡ s.a = cc in
    let b : r.b ≡ s.b = cc in
    ap Err (refusal_one r s n a b)

pub plan_one : law.PlanOne
plan_one p x y h k = both_plans p x y (h.says ∙ sym k.says) h.table k.table
