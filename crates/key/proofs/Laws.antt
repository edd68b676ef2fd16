-- This room's laws, proved: each by its name in specs/Laws.antt. Assumes nothing.
use mathlib.Core.Path.{◌≡◌, refl, sym, ap, ◌∙◌}
use mathlib.Core.Bool.{Bool, true, false, not, cond}
use mathlib.Core.Logic.{inl, inr, ⊎_elim}
use mathlib.Core.List.{List, [], ◌∷◌, ◌++◌, append_assoc}
use Prim.Native.Nat.{ℕ, ◌-◌, ◌*◌, ◌≤◌}
use native.Mathlib.Omega.{arith}
use lib.Dec.{eqb}
use lib.ListN.{length, get_or}
use borrow.Author.Tests.{le-ltb, eqb-true, eqb-false, not-true, not-false}
use Rattle.lists.specs.Places.{found, outside, first_place, at}
use Rattle.lists.specs.Some.{some}
use Rattle.lists.proofs.FirstLaws.{first-all, found_none, some_placed}
use Rattle.prime.specs.Prime.{too_large}
use Rattle.answer.specs.declared.Kind.TheVariants.{Secret}
use Rattle.answer.specs.Outcome.{Outcome, done, refused}
use Rattle.answer.specs.Checks.{Line, line, pick, first_fail}
use Rattle.answer.specs.Lent.{no_room}
use Rattle.answer.specs.Laws.{Passed}
use Rattle.answer.proofs.CheckLaws.{same_refusal, not_given, same_after, append-lines, passed_both, passed-done}
use Rattle.answer.proofs.WhichLaws.{Without, Gives, none-gives, after-others, one_of_two, first-is}
use Rattle.packing.specs.Key.{KeyWords, packed, wrong_at, first_wrong, not_key, unpacking}
use Rattle.packing.proofs.PackLaws.{packed-ten, packed-small}
use Rattle.packing.proofs.SayLaws.{not_key_means, no_wrong, says-few, says_wrong}
use Rattle.planning.specs.Planned.{plan_lines}
use Rattle.dealing.specs.Deal.{deal_pieces}
use Rattle.block.specs.Deals.{bad_number, bad_year}
use Rattle.dealing.specs.Dealt.{bad_holder, bad_width, bad_secret, bad_count, bad_random, input_lines, block_count, deal_lines, dealing}
use Rattle.pile.specs.Blocks.{blocks}
use Rattle.pile.specs.Lines.{torn_pile, long_pile, every_block}
use Rattle.joining.specs.Checks.{whole_lines, pile_lines}
use Rattle.joining.specs.Secret.{secret}
use Rattle.joining.proofs.ShortLaws.{short-number}
use Rattle.joining.proofs.PlaceLaws.{blocks-without}
use Rattle.key.specs.Dealt.{key_secret, key_deal}
use Rattle.key.specs.Joined.{key_lines, joining_key}
use Rattle.key.specs.Laws as law
use Rattle.key.proofs.KeyLaws.{passed-joins, key_unpacks}

-- ---- dealing a key: no word of it is too large, so of SECRET the count alone is left
small : (key : List ℕ) (x : Bool) (i : ℕ) → get_or (cond x (packed key) []) i 0 ≤ 32748
small key true i = omega (arith, packed-small key i)
small key false i = omega arith

none_large : (key : List ℕ) → found (first_place too_large (key_secret key)) ≡ false
unfolding key_secret first_place
none_large key =
    found_none (first-all (λ i. too_large (at (key_secret key) i)) 1 _ (λ k l h. le-ltb 32748 _ (small key (eqb (length key) 16) (k - 1))))

width : (key : List ℕ) (x : Bool) → outside 16 (length (cond x (packed key) [])) ≡ not x
width key true = rw (packed-ten key)
width key false = refl

width-line : (key : List ℕ) → bad_width (key_secret key) ≡ line Secret (not (eqb (length key) 16)) 0 0
unfolding key_secret bad_width
width-line key = ap (λ (x : Bool). line Secret x 0 0) (width key (eqb (length key) 16))

pub key_deal_order : law.KeyDealOrder
unfolding dealing deal_lines input_lines first_fail bad_secret bad_number bad_year bad_holder bad_width
key_deal_order policy deal year key random holder room =
    let d = key_deal policy deal year key random in
    let one = bad_number deal in
    let two = bad_year year in
    let three = bad_holder policy.people holder in
    let rest = bad_count (deal_pieces d - 1) (key_secret key) random ∷ bad_random random ∷ no_room (512 * block_count d holder) (block_count d holder) room ∷ [] in
    let end : Outcome ℕ = done (block_count d holder) in
    same_after (plan_lines policy) _ _ end end
    (λ p.
    ap
    (λ (o : Outcome ℕ).
    pick one.given (refused 8 0 0)
    (pick two.given (refused 25 0 0) (pick three.given (refused 9 0 0) (pick (bad_width (key_secret key)).given (refused 10 0 0) o))))
    (not_given (bad_secret (key_secret key)) rest end (none_large key))
    ∙ ap (λ (l : Line). first_fail (one ∷ two ∷ three ∷ l ∷ rest) end) (width-line key))

-- ---- NOTKEY comes from behind the pile's lines
record Behind (pile : List ℕ) (room a b : ℕ) : Type 0 where
  passed : Passed (pile_lines pile)
  says : unpacking (secret pile) room ≡ refused 23 a b

whole-without : (pile : List ℕ) → Without 23 (whole_lines pile)
unfolding some
whole-without pile = rw (short-number pile)

behind : (pile : List ℕ) (room a b : ℕ) → joining_key pile room ≡ refused 23 a b → Behind pile room a b
unfolding joining_key key_lines unpacking pile_lines every_block some
behind pile room a b e =
    let words = not_key (secret pile) ++ no_room 16 16 room ∷ [] in
    let early = torn_pile pile ∷ long_pile pile ∷ every_block pile in
    let end : Outcome ℕ = done 16 in
    let lines : first_fail (early ++ (whole_lines pile ++ words)) end ≡ refused 23 a b =
    ap (λ (ls : List Line). first_fail ls end) (sym (append_assoc early (whole_lines pile) words)) ∙ e in
    let r = after-others 23 early (whole_lines pile ++ words) end a b lines (blocks-without pile 23 (blocks pile) 1 refl refl refl) in
    let s = after-others 23 (whole_lines pile) words end a b r.1 (whole-without pile) in
    record { passed = passed_both early r.0 s.0; says = s.1 }

not_words : (words : List ℕ) (room a b : ℕ) → unpacking words room ≡ refused 23 a b → KeyWords words → ⊥
unfolding unpacking some no_room
not_words words room a b e w =
    none-gives 23 (no_room 16 16 room ∷ []) 16 a b
    (sym (append-lines (not_key words) (no_room 16 16 room ∷ []) (done 16) ∙ passed-done (not_key words) _ ((not_key_means words).1 w)) ∙ e) refl

-- what NOTKEY's lines refuse, unpacking refuses
not_unpacked : (words : List ℕ) (room a b : ℕ) → first_fail {A = ℕ} (not_key words) (done 0) ≡ refused 23 a b → unpacking words room ≡ refused 23 a b
unfolding unpacking
not_unpacked words room a b e =
    append-lines (not_key words) (no_room 16 16 room ∷ []) (done 16) ∙ same_refusal (not_key words) 0 _ 23 a b e

says_not : (words : List ℕ) (room : ℕ) → (KeyWords words → ⊥) → (a : ℕ) × (b : ℕ) × (unpacking words room ≡ refused 23 a b)
says_not words room n = ten (eqb (length words) 10) refl
  where
    pos_of : {f : ℕ} → (f ≡ 0 → ⊥) → 1 ≤ f
    pos_of h = omega arith

    right : (e : length words ≡ 10) (x : Bool) → eqb (first_wrong words) 0 ≡ x → (a : ℕ) × (b : ℕ) × (unpacking words room ≡ refused 23 a b)
    right e true z = absurd (n (no_wrong words e (eqb-true _ 0 z)))
    right e false z = (let f = first_wrong words in let n : 1 ≤ f = pos_of (eqb-false f 0 z) in (f, 0, not_unpacked words room f 0 (says_wrong words e refl (sym (some_placed refl n)))))

    ten : (x : Bool) → eqb (length words) 10 ≡ x → (a : ℕ) × (b : ℕ) × (unpacking words room ≡ refused 23 a b)
    ten true e = right (eqb-true _ 10 e) (eqb (first_wrong words) 0) refl
    ten false e = (0, 0, not_unpacked words room 0 0 (says-few words (eqb-false _ 10 e)))

pub not_key_exactly : law.NotKeyExactly
not_key_exactly pile room = (
  λ t.
      let h = behind pile room t.0 t.1 t.2 in
      (passed-joins pile h.passed, not_words (secret pile) room t.0 t.1 h.says),
  λ t.
      let r = says_not (secret pile) room t.1 in
      (r.0, r.1, key_unpacks pile _ room t.0 ∙ r.2),
)

pub not_key_places : law.NotKeyPlaces
unfolding unpacking first_wrong some no_room
not_key_places pile room a b e =
    let words = secret pile in
    let few = line _ (not (eqb (length words) 10)) 0 0 in
    let wrong = line _ (found (first_wrong words)) (first_wrong words) 0 in
    ⊎_elim
    (λ (g : Gives few 23 a b). (inl (eqb-false _ 10 (not-true _ g.given), sym g.a-is), sym g.b-is))
    (λ (s : (few.given ≡ false) × Gives wrong 23 a b).
    (inr (eqb-true _ 10 (not-false _ s.0), first-is (wrong_at words) 10 s.1.given s.1.a-is), sym s.1.b-is))
    (one_of_two 23 [] few wrong (no_room 16 16 room ∷ []) 16 a b (behind pile room a b e).says refl refl)
