-- Laws of the pass from the last part to the first: what each part holds, and the parts on each path in ascending order.
use Prim.Native.Nat.{ℕ, zero, suc, ◌+◌, ◌-◌, ◌^◌, ◌<◌, ◌≤◌}
use mathlib.Core.Path.{◌≡◌, refl, sym, ap, ap₂, subst, ◌∙◌}
use mathlib.Core.List.{List, [], ◌∷◌, Memᴰ}
use native.Mathlib.Decide.{dec_lt, ℕ_discrete}
use native.Mathlib.Nat.{pow-suc}
use native.Mathlib.Omega.{arith}
use lib.ListN.{length, get_or, set, drop, replicate, length-set, get_or-replicate, get_or-eq_default, length-replicate}
use lib.Seq.{get_or-set_same, get_or-set_other}
use lib.Bits.{or_zero_l, or_zero_r, or_lt}
use lib.Pow.{pow_mono}
use lib.Dec.{eqb}
use mathlib.Core.Bool.{Bool, true, false, cond}
use borrow.Author.Tests.{lt-ltb, le-ltb, eq-eqb, ne_eqb}
use Rattle.std.specs.Prelude.{Option, Some, None, Ok, Err}
use Rattle.files.specs.declared.reader.Reader.{Reader}
use Rattle.files.specs.declared.refusal.Refusal.{Refusal}
use Rattle.files.specs.Format.{want, done, Outcome, got, refused}
use Rattle.files.specs.Number.{Begun, Is, Refused, number_in}
use Rattle.files.specs.Refusals.{condition_number}
use Rattle.files.specs.Readers.{Same, Reads}
use Rattle.files.specs.RuleFile.{any}
use Rattle.files.specs.Sets.{union, with_path}
use Rattle.files.proofs.Readers.{any_is}
use Rattle.files.proofs.SetBits.{bit_union, same_bits}
use Rattle.documents.specs.PartList.{part_limit, Entry}
use Rattle.documents.specs.Reading.{on_kid, kids_from, kids_at, entries_from}
use Rattle.documents.specs.Checking.{held_by, held_from}
use Rattle.documents.specs.Held.{set_at, held_among, part_number, Laid, next_on, Linked}
use Rattle.documents.proofs.PartReader.{stands_there, kids_one}
use Rattle.documents.proofs.PartLists.{entry_at}

-- ---- union

union_none : (a : ℕ) → union 0 a ≡ a
unfolding union
union_none a = or_zero_l a

union_nothing : (a : ℕ) → union a 0 ≡ a
unfolding union
union_nothing a = or_zero_r a

union_under : (k a b : ℕ) → a < 2 ^ k → b < 2 ^ k → union a b < 2 ^ k
unfolding union
union_under k a b f g = or_lt k a b f g

under_pow : (n : ℕ) → n < 2 ^ n
under_pow zero = omega arith
under_pow (suc n) = omega (arith, under_pow n, pow-suc 2 n)

union_assoc : (a b c : ℕ) → union (union a b) c ≡ union a (union b c)
union_assoc a b c =
    same_bits k (union (union a b) c) (union a (union b c)) (lt (union a b) c (lt a b fa fb) fc) (lt a (union b c) fa (lt b c fb fc))
    (λ i h. let x = bit_union (union a b) c i in let y = bit_union a b i in let z = bit_union a (union b c) i in let w =
    bit_union b c i in omega arith)
  where
    k : ℕ
    k = a + b + c

    small : (n : ℕ) → n ≤ k → n < 2 ^ k
    small n h = omega (arith, under_pow n, pow_mono {i = n} {j = k} h)

    fa : a < 2 ^ k
    fa = small a (omega arith)

    fb : b < 2 ^ k
    fb = small b (omega arith)

    fc : c < 2 ^ k
    fc = small c (omega arith)

    lt : (x y : ℕ) → x < 2 ^ k → y < 2 ^ k → union x y < 2 ^ k
    lt x y f g = union_under k x y f g

-- ---- what children hold

pub set_in : (sets : List ℕ) (k : ℕ) → k < part_limit → get_or sets k 0 ≡ set_at sets k
unfolding set_at
set_in sets k h = rw (lt-ltb k part_limit h)

pub set_past : (sets : List ℕ) (k : ℕ) → part_limit ≤ k → 0 ≡ set_at sets k
unfolding set_at
set_past sets k h = rw (le-ltb k part_limit h)

-- an array has the set of each part, and none past it
pub set_is : (sets : List ℕ) (k : ℕ) → length sets ≡ part_limit → get_or sets k 0 ≡ set_at sets k
set_is sets k long = by (dec_lt k part_limit)
  where
    by : Dec (k < part_limit) → get_or sets k 0 ≡ set_at sets k
    by (yes h) = set_in sets k h
    by (no h) = get_or-eq_default sets 0 {n = k} (omega (arith, long)) ∙ set_past sets k (omega arith)

-- no number stands where the reader stands
none_there : (old new : Reader) (e : Refusal) → Reads Same (want any (λ (n : ℕ). done n)) old new (Err e)
    → (k : ℕ) × (number_in (drop old.at old.bytes.now) ≡ Refused k)
none_there old new e r = by (number_in (drop old.at old.bytes.now)) refl
  where
    by : (m : Begun) → number_in (drop old.at old.bytes.now) ≡ m → (k : ℕ) × (number_in (drop old.at old.bytes.now) ≡ Refused k)
    by (Is n width) i =
        absurd (let f : ◌≡◌ {A = Outcome ℕ} (refused (condition_number e.condition) e.offset) (got n (old.at + width)) = sym r.answer ∙ any_is old.bytes.now old.at i in let z : ◌≡◌ {A = ℕ} 0 1 = cc in omega arith)
    by (Refused k) i = (k, i)

-- what so many children hold is what those that were read hold, and what is left
pub record HeldSoFar (s sets : List ℕ) (at : ℕ) (now : Reader) (many i set : ℕ) : Type 0 where
  pub bytes : now.bytes.now ≡ s
  pub rest : union set (held_among sets (kids_from s now.at (many - i))) ≡ held_among sets (kids_at s at)

module _ (s sets : List ℕ) (start : Reader) (e : start.bytes.now ≡ s) (first : Reader) where
  pub children_none : (x : Refusal) → Reads Same (want any (λ (n : ℕ). done n)) start first (Err x) → 0 ≡ held_among sets (kids_at s start.at)
  unfolding kids_at on_kid held_among
  children_none x r = let n : (k : ℕ) × (number_in (drop start.at start.bytes.now) ≡ Refused k) = none_there start first x r in rw (← e, n.1)

  pub children_start : (many : ℕ) → Reads Same (want any (λ (n : ℕ). done n)) start first (Ok many) → HeldSoFar s sets start.at first many 0 0
  unfolding kids_at on_kid
  children_start many r =
      let t : (width : ℕ) × (number_in (drop start.at start.bytes.now) ≡ Is r.answer.0 width) × (first.at ≡ start.at + width) =
      stands_there any start.bytes.now start.at r.answer.1 in
      let left : many - 0 ≡ many = omega arith in
      record {
        bytes = ap (λ b. b.now) r.bytes ∙ e;
        rest =
            union_none (held_among sets (kids_from s first.at (many - 0)))
            ∙ ap₂ (λ (at k : ℕ). held_among sets (kids_from s at k)) t.2 (left ∙ r.answer.2)
            ∙ sym
            (ap (λ (m : List ℕ). held_among sets (on_kid (λ k width. kids_from s (start.at + width) k) (number_in (drop start.at m)))) (sym e)
            ∙ ap (λ (m : Begun). held_among sets (on_kid (λ k width. kids_from s (start.at + width) k) m)) t.1);
      }

module _ (s sets : List ℕ) (at : ℕ) (now : Reader) (many i set : ℕ) (inv : HeldSoFar s sets at now many i set) where
  pub children_end : many ≤ i → set ≡ held_among sets (kids_at s at)
  unfolding kids_from held_among
  children_end h =
      let e : many - i ≡ 0 = omega arith in
      sym (union_nothing set) ∙ ap (λ (k : ℕ). union set (held_among sets (kids_from s now.at k))) (sym e) ∙ inv.rest

  module _ (h : i < many) (new : Reader) where
    pub children_stop : (x : Refusal) → Reads Same (want any (λ (n : ℕ). done n)) now new (Err x) → set ≡ held_among sets (kids_at s at)
    unfolding kids_from on_kid held_among
    children_stop x r =
        let n : (k : ℕ) × (number_in (drop now.at now.bytes.now) ≡ Refused k) = none_there now new x r in
        let g : many - i ≡ suc (many - (i + 1)) = omega arith in
        let o : kids_from s now.at (many - i) ≡ [] =
        ap (kids_from s now.at) g
        ∙ ap (λ (m : List ℕ). on_kid (λ x size. x ∷ kids_from s (now.at + size) (many - (i + 1))) (number_in (drop now.at m))) (sym inv.bytes)
        ∙ ap (on_kid (λ x size. x ∷ kids_from s (now.at + size) (many - (i + 1)))) n.1 in
        sym (union_nothing set) ∙ ap (λ (l : List ℕ). union set (held_among sets l)) (sym o) ∙ inv.rest

    pub children_more : (k u : ℕ) → Reads Same (want any (λ (n : ℕ). done n)) now new (Ok k) → length sets ≡ part_limit → u ≡ union set (get_or sets k 0)
        → HeldSoFar s sets at new many (i + 1) u
    unfolding held_among
    children_more k u r long b =
        let one : kids_from now.bytes.now now.at (many - i) ≡ r.answer.0 ∷ kids_from now.bytes.now new.at (many - i - 1) =
        kids_one any now.bytes.now now.at (many - i) (omega arith) r.answer.1 in
        let fewer : many - i - 1 ≡ many - (i + 1) = omega arith in
        let here : kids_from s now.at (many - i) ≡ k ∷ kids_from s new.at (many - (i + 1)) =
        ap (λ (t : List ℕ). kids_from t now.at (many - i)) (sym inv.bytes) ∙ one
        ∙ ap (λ (t : List ℕ). r.answer.0 ∷ kids_from t new.at (many - i - 1)) inv.bytes
        ∙ ap (λ (y : ℕ). y ∷ kids_from s new.at (many - i - 1)) (sym r.answer.2)
        ∙ ap (λ (y : ℕ). k ∷ kids_from s new.at y) fewer in
        record {
          bytes = ap (λ b. b.now) r.bytes ∙ inv.bytes;
          rest =
              ap (λ (x : ℕ). union x (held_among sets (kids_from s new.at (many - (i + 1))))) (b ∙ ap (union set) (set_is sets k long))
              ∙ union_assoc set (set_at sets k) (held_among sets (kids_from s new.at (many - (i + 1))))
              ∙ ap (λ (l : List ℕ). union set (held_among sets l)) (sym here)
              ∙ inv.rest;
        }

-- ---- part after part, from the last

-- no part before part n is found from part n on
pub next_least : (s path place : List ℕ) (c k n : ℕ) → n + k ≤ part_limit → n ≤ next_on c n (entries_from s path place n k)
unfolding entries_from next_on
next_least s path place c zero n e = omega arith
next_least s path place c (suc k) n e = by (eqb (get_or path n 0) c) (next_least s path place c k (n + 1) (omega arith))
  where
    by : (t : Bool) → n + 1 ≤ next_on c (n + 1) (entries_from s path place (n + 1) k)
        → n ≤ cond t n (next_on c (n + 1) (entries_from s path place (n + 1) k))
    by true h = omega arith
    by false h = omega arith

-- no part follows another in an array that has none
none_at : (many k j : ℕ) → get_or (replicate {A = Option ℕ} many None) k None ≡ Some j → ⊥
none_at many k j e = by (dec_lt k many)
  where
    by : Dec (k < many) → ⊥
    by (yes h) = let f : None ≡ Some j = sym (get_or-replicate many k None None h) ∙ e in absurd (let z : ◌≡◌ {A = ℕ} 0 1 = cc in omega arith)
    by (no h) =
        let f : None ≡ Some j = sym (get_or-eq_default (replicate {A = Option ℕ} many None) None {n = k} (omega (arith, length-replicate {A = Option ℕ} many None))) ∙ e in
        absurd (let z : ◌≡◌ {A = ℕ} 0 1 = cc in omega arith)

module _ (s path place : List ℕ) (count : ℕ) where
  -- the parts from number n on
  abbrev pub from : ℕ → List Entry
  from n = entries_from s path place n (count - n)

  pub from_part : (n : ℕ) → n < count → from n ≡ entry_at s path place n ∷ from (n + 1)
  unfolding entries_from
  from_part n h = let e : count - n ≡ suc (count - (n + 1)) = omega arith in ap (entries_from s path place n) e

  pub from_end : (n : ℕ) → count ≤ n → from n ≡ []
  unfolding entries_from
  from_end n h = let e : count - n ≡ 0 = omega arith in ap (entries_from s path place n) e

  -- what part n holds
  pub held_of : ℕ → ℕ
  held_of n = get_or (held_from n (from n)) 0 0

  pub held_part : (n : ℕ) → n < count → held_from n (from n) ≡ held_of n ∷ held_from (n + 1) (from (n + 1))
  unfolding held_of held_from
  held_part n h = rw (from_part n h)

  held_at : (d n : ℕ) → n + d < count → get_or (held_from n (from n)) d 0 ≡ held_of (n + d)
  unfolding held_of
  held_at zero n h = let e : n ≡ n + 0 = omega arith in ap (λ (k : ℕ). get_or (held_from k (from k)) 0 0) e
  held_at (suc d) n h =
      let e : n + 1 + d ≡ n + suc d = omega arith in
      ap (λ (l : List ℕ). get_or l (suc d) 0) (held_part n (omega arith))
      ∙ held_at d (n + 1) (omega arith) ∙ ap (λ (k : ℕ). get_or (held_from k (from k)) 0 0) e

  -- the same sets, as the array has them
  held_same : (sets hs : List ℕ) (first : ℕ) (ks : List ℕ) → ((k : ℕ) → Memᴰ k ks → set_at sets k ≡ get_or hs (k - first) 0)
      → held_among sets ks ≡ held_by first hs ks
  unfolding held_among held_by
  held_same sets hs first [] h = refl
  held_same sets hs first (k ∷ ks) h =
      ap₂ union (h k (Memᴰ.head refl)) (held_same sets hs first ks (λ j m. h j (Memᴰ.tail m)))

  held_own : (n : ℕ) → n < count
      → held_of n ≡ with_path (held_by (n + 1) (held_from (n + 1) (from (n + 1))) (kids_at s (get_or place n 0))) (get_or path n 0)
  unfolding held_of held_from
  held_own n h = rw (from_part n h)

  next_part_lem : (c n : ℕ) → n < count → (get_or path n 0 ≡ c) → next_on c n (from n) ≡ n
  unfolding next_on
  next_part_lem c n h e = rw (from_part n h, eq-eqb (get_or path n 0) c e)

  next_later : (c n : ℕ) → n < count → (get_or path n 0 ≡ c → ⊥) → next_on c n (from n) ≡ next_on c (n + 1) (from (n + 1))
  unfolding next_on
  next_later c n h e = rw (from_part n h, ne_eqb (get_or path n 0) c e)

  pub link_start : (sets : List ℕ) (first next : List (Option ℕ)) → length sets ≡ part_limit → first ≡ replicate 256 None → next ≡ replicate part_limit None
      → Linked s path place count count sets first next
  unfolding next_on
  link_start sets first next a b c =
      record {
        within = omega arith;
        sets_long = a;
        first_long = ap length b;
        next_long = ap length c;
        held = λ k h l. absurd (omega arith);
        firsts = λ k h. ap (λ (l : List (Option ℕ)). part_number (get_or l k None)) b ∙ ap part_number (get_or-replicate 256 k None None h)
            ∙ ap (next_on k count) (sym (from_end count (omega arith)));
        nexts = λ k h l. absurd (omega arith);
        linking =
            record {
              firsts = λ k. record { below = λ j e. absurd (none_at 256 k j (ap (λ (l : List (Option ℕ)). get_or l k None) (sym b) ∙ e)) };
              nexts =
                  record {
                    greater = λ k j e. absurd (none_at part_limit k j (ap (λ (l : List (Option ℕ)). get_or l k None) (sym c) ∙ e));
                    inside = λ k j e. absurd (none_at part_limit k j (ap (λ (l : List (Option ℕ)). get_or l k None) (sym c) ∙ e));
                  };
            };
      }

  module _ (few : count ≤ part_limit) (laid : Laid s path place count) (sets : List ℕ) (first next : List (Option ℕ)) where
    module _ (m : ℕ) (inv : Linked s path place count (m + 1) sets first next) (p w v : ℕ) (a : p ≡ get_or path m 0)
        (b : w ≡ held_among sets (kids_at s (get_or place m 0))) (c : v ≡ with_path w p) where
      below : m < count
      below = omega (arith, inv.within)

      small : p < 256
      small = omega (arith, laid.small m below)

      child : (k : ℕ) → Memᴰ k (kids_at s (get_or place m 0)) → set_at sets k ≡ get_or (held_from (m + 1) (from (m + 1))) (k - (m + 1)) 0
      unfolding held_of
      child k x =
          let l = laid.later m k below x in
          let e : m + 1 + (k - (m + 1)) ≡ k = omega arith in
          sym (set_in sets k (omega arith)) ∙ inv.held k (omega arith) l.1 ∙ ap held_of (sym e)
          ∙ sym (held_at (k - (m + 1)) (m + 1) (omega arith))

      own : v ≡ held_of m
      own =
          c ∙ ap₂ with_path (b ∙ held_same sets (held_from (m + 1) (from (m + 1))) (m + 1) (kids_at s (get_or place m 0)) child) a
          ∙ sym (held_own m below)

      held_now : (k : ℕ) → m ≤ k → k < count → Dec (k ≡ m) → get_or (set sets m v) k 0 ≡ get_or (held_from k (from k)) 0 0
      unfolding held_of
      held_now k h l (yes e) = rw e (get_or-set_same sets m v 0 (omega (arith, inv.sets_long)) ∙ own)
      held_now k h l (no n) = get_or-set_other sets m k v 0 n ∙ inv.held k (omega arith) l

      firsts_now : (x : ℕ) → x < 256 → Dec (x ≡ p) → part_number (get_or (set first p (Some m)) x None) ≡ next_on x m (from m)
      firsts_now x h (yes e) =
          ap (λ (y : ℕ). part_number (get_or (set first p (Some m)) y None)) e
          ∙ ap part_number (get_or-set_same first p (Some m) None (omega (arith, inv.first_long))) ∙ sym (next_part_lem x m below (sym a ∙ sym e))
      firsts_now x h (no n) =
          ap part_number (get_or-set_other first p x (Some m) None n) ∙ inv.firsts x h ∙ sym (next_later x m below (λ z. n (sym z ∙ sym a)))

      nexts_now : (k : ℕ) → m ≤ k → k < count → Dec (k ≡ m)
          → part_number (get_or (set next m (get_or first p None)) k None) ≡ next_on (get_or path k 0) (k + 1) (from (k + 1))
      nexts_now k h l (yes e) =
          rw e
          (ap part_number (get_or-set_same next m (get_or first p None) None (omega (arith, inv.next_long)))
          ∙ inv.firsts p small ∙ ap (λ (y : ℕ). next_on y (m + 1) (from (m + 1))) a)
      nexts_now k h l (no n) = ap part_number (get_or-set_other next m k (get_or first p None) None n) ∙ inv.nexts k (omega arith) l

      first_inside : (x k : ℕ) → get_or (set first p (Some m)) x None ≡ Some k → Dec (x ≡ p) → k < part_limit
      first_inside x k e (yes f) =
          let g : Some m ≡ Some k =
          sym (ap (λ (y : ℕ). get_or (set first p (Some m)) y None) f ∙ get_or-set_same first p (Some m) None (omega (arith, inv.first_long))) ∙ e in
          let z : m ≡ k = cc in
          omega arith
      first_inside x k e (no n) = (inv.linking.firsts x).below k (sym (get_or-set_other first p x (Some m) None n) ∙ e)

      next_inside : (n k : ℕ) → get_or (set next m (get_or first p None)) n None ≡ Some k → Dec (n ≡ m) → (n < k) × (k < part_limit)
      next_inside n k e (yes f) =
          let g : get_or first p None ≡ Some k =
          sym (ap (λ (y : ℕ). get_or (set next m (get_or first p None)) y None) f ∙ get_or-set_same next m (get_or first p None) None (omega (arith, inv.next_long))) ∙ e in
          let far : m + 1 ≤ next_on p (m + 1) (from (m + 1)) = next_least s path place p (count - (m + 1)) (m + 1) (omega arith) in
          let is : k ≡ next_on p (m + 1) (from (m + 1)) = ap part_number (sym g) ∙ inv.firsts p small in
          (omega (arith, f), (inv.linking.firsts p).below k g)
      next_inside n k e (no n') =
          let g : get_or next n None ≡ Some k = sym (get_or-set_other next m n (get_or first p None) None n') ∙ e in
          (inv.linking.nexts.greater n k g, inv.linking.nexts.inside n k g)

      linked : Linked s path place count m (set sets m v) (set first p (Some m)) (set next m (get_or first p None))
      linked =
          record {
            within = omega arith;
            sets_long = length-set sets m v ∙ inv.sets_long;
            first_long = length-set first p (Some m) ∙ inv.first_long;
            next_long = length-set next m (get_or first p None) ∙ inv.next_long;
            held = λ k h l. held_now k h l (ℕ_discrete k m);
            firsts = λ x h. firsts_now x h (ℕ_discrete x p);
            nexts = λ k h l. nexts_now k h l (ℕ_discrete k m);
            linking =
                record {
                  firsts = λ x. record { below = λ k e. first_inside x k e (ℕ_discrete x p) };
                  nexts =
                      record {
                        greater = λ n k e. (next_inside n k e (ℕ_discrete n m)).0;
                        inside = λ n k e. (next_inside n k e (ℕ_discrete n m)).1;
                      };
                };
          }

    pub link_more : (n : ℕ) → Linked s path place count n sets first next → 0 < n → (p w v : ℕ) → p ≡ get_or path (n - 1) 0
        → w ≡ held_among sets (kids_at s (get_or place (n - 1) 0)) → v ≡ with_path w p
        → Linked s path place count (n - 1) (set sets (n - 1) v) (set first p (Some (n - 1))) (set next (n - 1) (get_or first p None))
    link_more n inv h p w v a b c =
        let e : n ≡ n - 1 + 1 = omega arith in
        linked (n - 1) (subst (λ (k : ℕ). Linked s path place count k sets first next) e inv) p w v a b c

  -- the set of a part in the array is what it holds
  pub linked_held : (sets : List ℕ) (first next : List (Option ℕ)) → Linked s path place count 0 sets first next → (n : ℕ) → n < count
      → get_or sets n 0 ≡ held_of n
  unfolding held_of
  linked_held sets first next linked n h = linked.held n (omega arith) h
