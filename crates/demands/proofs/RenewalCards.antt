-- The new cards of a renewal are the cards of the renewed deal; so a pile of new cards is a pile of whole cards of that deal.
-- Assumes nothing.
use Prim.Native.Nat.{ℕ, ◌≤◌}
use mathlib.Core.Path.{◌≡◌, sym, ap, subst}
use mathlib.Core.List.{List, Memᴰ}
use Rattle.lists.specs.Some.{◌∈◌}
use Rattle.lists.specs.Flat.{flat}
use Rattle.answer.specs.Outcome.{done}
use Rattle.adding.specs.declared.Pair.{Pair}
use Rattle.adding.specs.Sum.{pair_of, sum_of}
use Rattle.adding.specs.Adding.{adding}
use Rattle.dealing.specs.Deal.{Deal, held_by, block_of, card_blocks, card}
use Rattle.dealing.specs.Dealt.{Made}
use Rattle.dealing.proofs.HeldLaws.{map_same}
use Rattle.dealing.proofs.MadeLaws.{in_range_made}
use Rattle.demands.specs.Group.{Contains, Member, AtMostOne, WholeCards}
use Rattle.demands.specs.Renewal.{Renewal, new_blocks, new_card, renewed, WholeNew}
use Rattle.demands.proofs.RenewalBlocks.{zero_deal, as_zeros, renewed_in, accepted, sum-block}

-- what holds of every deal of zeros by the policy of d holds of a renewal's
pub by_zeros : (d : Deal) (new : Pair) (P : Deal → Type 0)
    → ((own : Pair) (random : List ℕ) → Renewal d (zero_deal d own random) new → P (zero_deal d own random))
    → (z : Deal) → Renewal d z new → P z
by_zeros d new P h z r = subst (λ (x : Deal). Renewal d x new → P x) (sym (as_zeros r)) (h (pair_of z.number z.year) z.random) r

pub renewed-made : (d z : Deal) (new : Pair) → Renewal d z new → Made (renewed d z new)
renewed-made d z new r =
    by_zeros d new (λ (x : Deal). Made (renewed d x new))
    (λ own random s. in_range_made (renewed d (zero_deal d own random) new) (renewed_in d own random new s)) z r

module _ (d z : Deal) (new : Pair) (r : Renewal d z new) (i : ℕ) (least : 1 ≤ i) (most : i ≤ d.policy.people) where
  pub each-accepted : (j : ℕ) → j ∈ held_by d i → adding (block_of d i j) (block_of z i j) new 512 ≡ done 1
  each-accepted j has =
      by_zeros d new (λ (x : Deal). adding (block_of d i j) (block_of x i j) new 512 ≡ done 1)
      (λ own random s. accepted d own random new s i j least most has) z r

  pub new_blocks_lem : new_blocks d z new i ≡ card_blocks (renewed d z new) i
  unfolding new_blocks card_blocks held_by
  new_blocks_lem =
      by_zeros d new (λ (x : Deal). new_blocks d x new i ≡ card_blocks (renewed d x new) i)
      (λ own random s.
      map_same (λ j. sum_of (block_of d i j) (block_of (zero_deal d own random) i j) new) (block_of (renewed d (zero_deal d own random) new) i) (held_by d i)
      (λ j has. sum-block d own random new s i j least most has))
      z r

  pub new_card_lem : new_card d z new i ≡ card (renewed d z new) i
  unfolding new_card card card_blocks block_of
  new_card_lem = ap flat new_blocks_lem

-- ---- groups depend on the policy alone
module _ (d z : Deal) (new : Pair) (g : ℕ) where
  pub contains_there : Contains d g → Contains (renewed d z new) g
  contains_there c = record { set = c.set; required = c.required; within = c.within }

  pub contains_back : Contains (renewed d z new) g → Contains d g
  contains_back c = record { set = c.set; required = c.required; within = c.within }

  pub member-there : (i : ℕ) → Member d g i → Member (renewed d z new) g i
  member-there i m = record { least = m.least; most = m.most; among = m.among }

  pub member_back : (i : ℕ) → Member (renewed d z new) g i → Member d g i
  member_back i m = record { least = m.least; most = m.most; among = m.among }

  pub one_there : AtMostOne d g → AtMostOne (renewed d z new) g
  one_there one i j m n = one i j (member_back i m) (member_back j n)

-- ---- the pile
pub whole-cards : (d z : Deal) (new : Pair) → Renewal d z new → (g : ℕ) (pile : List ℕ) → WholeNew d z new g pile → WholeCards (renewed d z new) g pile
whole-cards d z new r g pile w = record {
  blocks = w.blocks;
  whole = record {
    theirs = λ b m.
        let t = w.whole.theirs b m in
        let e = new_blocks_lem d z new r t.0 t.1.least t.1.most in
        (t.0, member-there d z new g t.0 t.1, subst (λ (bs : List (List ℕ)). Memᴰ b bs) e t.2);
    all = λ i m b h.
        w.whole.all i (member_back d z new g i m) b
        (subst (λ (bs : List (List ℕ)). Memᴰ b bs) (sym (new_blocks_lem d z new r i m.least m.most)) h);
  };
  bytes = w.bytes;
  few = w.few;
}
