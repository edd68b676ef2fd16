-- This room's laws, proved: each by its name in specs/Laws.antt. Assumes nothing.
use native.Mathlib.Omega.{arith}
use lib.Pow.{pow_mono}
use Prim.Native.Nat.{◌^◌, ◌≤◌}
use Rattle.planning.proofs.CountLaws.{some-member}
use Rattle.minimal.specs.Laws as law
use Rattle.minimal.proofs.CountLaws as count
use Rattle.minimal.proofs.MinimalLaws as minimal

pub the_sets : law.TheSets
the_sets = minimal.the_sets

pub minimal_groups : law.MinimalGroups
minimal_groups = minimal.minimal_groups

pub set-places : law.SetPlaces
set-places = minimal.set-places

pub sets_rise : law.SetsRise
sets_rise = minimal.sets_rise

pub sets-apart : law.SetsApart
sets-apart = minimal.sets-apart

pub few-sets : law.FewSets
few-sets = minimal.few-sets

pub few_with : law.FewWith
few_with = minimal.few-held

pub contains_one : law.ContainsOne
contains_one = minimal.contains_one

pub member-piece : law.MemberPiece
member-piece = count.member-piece

pub pieces_rise : law.PiecesRise
pieces_rise = count.pieces_rise

pub one_holder : law.OneHolder
one_holder = count.one_holder

pub size_in : law.SizeIn
size_in n set l h =
    let p : 2 ^ n ≤ 2 ^ 16 = pow_mono l in
    (count.size_up_to n set l h, omega (arith, count.size_up_to n set l h, count.count-few set n), some-member set (omega arith))

pub lacks_of_each : law.LacksOfEach
lacks_of_each n required k g u s l h =
    let r = minimal.lacks_of_each n required k g u s l h in
    (minimal.lacking n required g s, r.0, r.1, r.2)
