-- P11 (SCOPE 8.1), and a block of a deal by sets, by computation: every byte of the block, and that it can be written.
-- Assumes nothing.
use mathlib.Core.Path.{◌≡◌, refl}
use mathlib.Core.List.{[], ◌∷◌, ◌++◌}
use Prim.Native.Nat.{ℕ, zero, suc, ◌≤◌, zero-le}
use native.Mathlib.Omega.{arith}
use lib.ListN.{get_or, replicate}
use Rattle.lists.specs.Run.{run}
use Rattle.block.specs.declared.Label.{Label}
use Rattle.block.specs.Words.{word_at, bytes_of, weighted, check_of}
use Rattle.block.specs.Layout.{held_at}
use Rattle.block.specs.Written.{body, block_bytes, Buildable}
use Rattle.block.specs.Laws.{first, sets, Ranges}
use Rattle.block.proofs.BodyLaws.{builds}

-- deal 7 of a year, of four people, three pieces and one secret word: piece 1 on holder 4's card
abbrev p11-label : ℕ → Label
p11-label year = record { mark = 1987; number = 7; holder = 4; people = 4; pieces = 3; width = 1; piece = 1; year = year; set = 0 }

pub p11 : block_bytes (p11-label 0) (1246 ∷ []) ≡ bytes_of (1987 ∷ 7 ∷ 4 ∷ 4 ∷ 3 ∷ 1 ∷ 1 ∷ 1246 ∷ replicate 247 0 ++ 12025 ∷ [])
unfolding block_bytes body held_at run bytes_of check_of weighted word_at
p11 = refl

-- the year is word 24, with the check that goes with it
pub p11-year : block_bytes (p11-label 2026) (1246 ∷ [])
    ≡ bytes_of (1987 ∷ 7 ∷ 4 ∷ 4 ∷ 3 ∷ 1 ∷ 1 ∷ 1246 ∷ replicate 15 0 ++ 2026 ∷ replicate 231 0 ++ 27900 ∷ [])
unfolding block_bytes body held_at run bytes_of check_of weighted word_at
p11-year = refl

-- deal 7 of year 0 by sets, of four people: of set 1, which has two members, piece 1 on holder 1's card
abbrev by_sets_lem : Label
by_sets_lem = record { mark = 1988; number = 7; holder = 1; people = 4; pieces = 2; width = 1; piece = 1; year = 0; set = 1 }

pub in_set_one : block_bytes by_sets_lem (1239 ∷ []) ≡ bytes_of (1988 ∷ 7 ∷ 1 ∷ 4 ∷ 2 ∷ 1 ∷ 1 ∷ 1239 ∷ replicate 16 0 ++ 1 ∷ replicate 230 0 ++ 11981 ∷ [])
unfolding block_bytes body held_at run bytes_of check_of weighted word_at
in_set_one = refl

value-small : {v : ℕ} → v ≤ 32748 → (i : ℕ) → get_or (v ∷ []) i 0 ≤ 32748
value-small h zero = h
value-small h (suc i) = zero-le

p11_ranges : Ranges (p11-label 0)
p11_ranges =
    record {
      number = omega arith;
      holder = omega arith;
      people = omega arith;
      pieces = omega arith;
      width = omega arith;
      piece = omega arith;
      scheme = first refl refl;
    }

pub p11_buildable : Buildable (p11-label 0) (1246 ∷ [])
p11_buildable = builds (p11-label 0) (1246 ∷ []) p11_ranges (omega arith) (omega arith) (value-small (omega arith)) refl

sets_ranges : Ranges by_sets_lem
sets_ranges =
    record {
      number = omega arith;
      holder = omega arith;
      people = omega arith;
      pieces = omega arith;
      width = omega arith;
      piece = omega arith;
      scheme = sets refl (omega arith) (omega arith) (omega arith);
    }

pub sets_buildable : Buildable by_sets_lem (1239 ∷ [])
sets_buildable = builds by_sets_lem (1239 ∷ []) sets_ranges (omega arith) (omega arith) (value-small (omega arith)) refl
