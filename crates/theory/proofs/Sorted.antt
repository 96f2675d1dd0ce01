-- Numbered, sorted and matching lists: sorted lists with the same members are equal, and numbers go with the order.
use Prim.Native.Nat.{ℕ, zero, suc, ◌+◌, ◌≤◌, ◌<◌}
use mathlib.Core.Path.{◌≡◌, refl, sym, ap, ap₂, subst, ◌∙◌}
use mathlib.Core.Logic.{◌⊎◌, inl, inr}
use mathlib.Core.List.Memᴰ
use mathlib.Core.List.{
  List,
  [],
  ◌∷◌,
  ◌++◌,
  map,
  Memᴰ,
}
use native.Mathlib.Nat.{zero-add, suc-add}
use native.Mathlib.Decide.{dec_lt}
use native.Mathlib.Omega.{arith}
use lib.ListN.{length, get_or}
use Rattle.files.proofs.TableTests.{ascending_from}
use Rattle.files.specs.Sets.{Ascending}
use Rattle.theory.specs.Order.{NumberedIn, Sorted, Matches}
use Rattle.theory.specs.Handed.{each_of}

module _ {A : Type 0} where
  pub numbered_member : {l : List A} {n : ℕ} {a : A} → NumberedIn l n a → Memᴰ a l
  numbered_member NumberedIn.first = Memᴰ.head refl
  numbered_member (NumberedIn.later m) = Memᴰ.tail (numbered_member m)

  pub member_numbered : {a : A} {l : List A} → Memᴰ a l → (n : ℕ) × NumberedIn l n a
  member_numbered (Memᴰ.head {x = x} {xs = xs} e) = (0, subst (λ (z : A). NumberedIn (x ∷ xs) 0 z) (sym e) NumberedIn.first)
  member_numbered (Memᴰ.tail m) = let r = member_numbered m in (suc r.0, NumberedIn.later r.1)

  pub numbered_unique : {l : List A} {n : ℕ} {a b : A} → NumberedIn l n a → NumberedIn l n b → a ≡ b
  numbered_unique NumberedIn.first NumberedIn.first = refl
  numbered_unique (NumberedIn.later m) (NumberedIn.later k) = numbered_unique m k

  pub numbered_lt : {l : List A} {n : ℕ} {a : A} → NumberedIn l n a → n < length l
  numbered_lt NumberedIn.first = omega arith
  numbered_lt (NumberedIn.later m) = omega (arith, numbered_lt m)

  pub numbered_under : (l : List A) (n : ℕ) → n < length l → (a : A) × NumberedIn l n a
  numbered_under [] n h = absurd (omega arith)
  numbered_under (a ∷ l) zero h = (a, NumberedIn.first)
  numbered_under (a ∷ l) (suc n) h = let r = numbered_under l n (omega arith) in (r.0, NumberedIn.later r.1)

  pub numbered_at : {l : List A} {n : ℕ} {a : A} (d : A) → NumberedIn l n a → get_or l n d ≡ a
  numbered_at d NumberedIn.first = refl
  numbered_at d (NumberedIn.later m) = numbered_at d m

  pub numbered_left : {l : List A} {n : ℕ} {a : A} (m : List A) → NumberedIn l n a → NumberedIn (l ++ m) n a
  numbered_left m NumberedIn.first = NumberedIn.first
  numbered_left m (NumberedIn.later k) = NumberedIn.later (numbered_left m k)

  pub numbered_right : {m : List A} {n : ℕ} {a : A} (l : List A) → NumberedIn m n a → NumberedIn (l ++ m) (length l + n) a
  numbered_right {m} {n} {a} [] k = rw zero-add k
  numbered_right {m} {n} {a} (x ∷ l) k = rw suc-add (NumberedIn.later (numbered_right l k))

  pub numbered_map : {B : Type 0} {l : List A} {n : ℕ} {a : A} (f : A → B) → NumberedIn l n a → NumberedIn (map f l) n (f a)
  numbered_map f NumberedIn.first = NumberedIn.first
  numbered_map f (NumberedIn.later m) = NumberedIn.later (numbered_map f m)

  module _ {Before : A → A → Type 0} where
    -- of two numbered members of a sorted list the one with the lesser number stands before
    pub sorted_before : {l : List A} {i j : ℕ} {a b : A} → Sorted Before l → NumberedIn l i a → NumberedIn l j b → i < j → Before a b
    sorted_before {i = i} {j = j} {a = a} {b = b} Sorted.none x7 _ l = elim x7 [ ]
    sorted_before (Sorted.next h s) NumberedIn.first NumberedIn.first l = absurd (omega arith)
    sorted_before {b = b} (Sorted.next h s) NumberedIn.first (NumberedIn.later k) l = h b (numbered_member k)
    sorted_before (Sorted.next h s) (NumberedIn.later m) NumberedIn.first l = absurd (omega arith)
    sorted_before (Sorted.next h s) (NumberedIn.later m) (NumberedIn.later k) l = sorted_before s m k (omega arith)

    pub sorted_append : {l m : List A} → Sorted Before l → Sorted Before m
        → ((a b : A) → Memᴰ a l → Memᴰ b m → Before a b) → Sorted Before (l ++ m)
    sorted_append Sorted.none t h = t
    sorted_append {m = m} (Sorted.next {a = a} {rest = rest} k s) t h =
        Sorted.next (λ b n. pick b (Memᴰ.append_cases rest n)) (sorted_append s t (λ x y p q. h x y (Memᴰ.tail p) q))
      where
        pick : (b : A) → Memᴰ b rest ⊎ Memᴰ b m → Before a b
        pick b (inl n) = k b n
        pick b (inr n) = h a b (Memᴰ.head refl) n

    module _ (asym : (a b : A) → Before a b → Before b a → ⊥) where
      -- a member that stands before another has the lesser number
      pub sorted_less : {l : List A} {i j : ℕ} {a b : A} → Sorted Before l → NumberedIn l i a → NumberedIn l j b → Before a b → i < j
      sorted_less {l} {i} {j} {a} {b} s m k h = pick (dec_lt i j) (dec_lt j i)
        where
          pick : Dec (i < j) → Dec (j < i) → i < j
          pick (yes p) q = p
          pick (no p) (yes q) = absurd (asym a b h (sorted_before s k m q))
          pick (no p) (no q) =
              let n : i ≡ j = omega arith in
              let e : a ≡ b = numbered_unique (subst (λ (z : ℕ). NumberedIn l z a) n m) k in
              absurd (asym a a (subst (λ (z : A). Before a z) (sym e) h) (subst (λ (z : A). Before a z) (sym e) h))

      -- a member of a sorted list has one number
      pub sorted_number : {l : List A} {i j : ℕ} {a : A} → Sorted Before l → NumberedIn l i a → NumberedIn l j a → i ≡ j
      sorted_number {l} {i} {j} {a} s m k = pick (dec_lt i j) (dec_lt j i)
        where
          never : Before a a → ⊥
          never h = asym a a h h

          pick : Dec (i < j) → Dec (j < i) → i ≡ j
          pick (yes p) q = absurd (never (sorted_before s m k p))
          pick (no p) (yes q) = absurd (never (sorted_before s k m q))
          pick (no p) (no q) = omega arith

      tail_into : {a b : A} {l m : List A} → a ≡ b → ((x : A) → Memᴰ x l → Before a x)
          → ((x : A) → Memᴰ x (a ∷ l) → Memᴰ x (b ∷ m)) → (x : A) → Memᴰ x l → Memᴰ x m
      tail_into {a} {b} {l} {m} e h into x n = pick (Memᴰ.cases_cons (into x (Memᴰ.tail n)))
        where
          pick : (x ≡ b) ⊎ Memᴰ x m → Memᴰ x m
          pick (inl p) =
              let k : Before a a = subst (λ (z : A). Before a z) (p ∙ sym e) (h x n) in
              absurd (asym a a k k)
          pick (inr k) = k

      -- two sorted lists with the same members are equal
      pub sorted_unique : {l m : List A} → Sorted Before l → Sorted Before m → ((a : A) → Memᴰ a l → Memᴰ a m)
          → ((a : A) → Memᴰ a m → Memᴰ a l) → l ≡ m
      sorted_unique Sorted.none Sorted.none into back = refl
      sorted_unique Sorted.none (Sorted.next {a = b} k t) into back = absurd (Memᴰ.not-nil (back b (Memᴰ.head refl)))
      sorted_unique (Sorted.next {a = a} h s) Sorted.none into back = absurd (Memᴰ.not-nil (into a (Memᴰ.head refl)))
      sorted_unique (Sorted.next {a = a} {rest = l} h s) (Sorted.next {a = b} {rest = m} k t) into back =
          let e : a ≡ b = pick (Memᴰ.cases_cons (into a (Memᴰ.head refl))) (Memᴰ.cases_cons (back b (Memᴰ.head refl))) in
          ap₂ ◌∷◌ e (sorted_unique s t (tail_into e h into) (tail_into (sym e) k back))
        where
          pick : (a ≡ b) ⊎ Memᴰ a m → (b ≡ a) ⊎ Memᴰ b l → a ≡ b
          pick (inl e) q = e
          pick (inr p) (inl e) = sym e
          pick (inr p) (inr q) = absurd (asym a b (h b q) (k a p))

-- what f gives for a member of the list
pub record From {A B : Type 0} (f : A → List B) (l : List A) (b : B) : Type 0 where
  pub source : A
  pub listed : Memᴰ source l
  pub member : Memᴰ b (f source)

module _ {A B : Type 0} where
  pub each_from : (f : A → List B) (l : List A) (b : B) → Memᴰ b (each_of f l) → From f l b
  unfolding each_of
  each_from f [] b m = absurd (Memᴰ.not-nil m)
  each_from f (a ∷ l) b m = pick (Memᴰ.append_cases (f a) m) (each_from f l b)
    where
      pick : Memᴰ b (f a) ⊎ Memᴰ b (each_of f l) → (Memᴰ b (each_of f l) → From f l b) → From f (a ∷ l) b
      pick (inl n) again = record { source = a; listed = Memᴰ.head refl; member = n }
      pick (inr n) again =
          let r = again n in
          record { source = r.source; listed = Memᴰ.tail r.listed; member = r.member }

  pub from_each : (f : A → List B) {a : A} {l : List A} {b : B} → Memᴰ a l → Memᴰ b (f a) → Memᴰ b (each_of f l)
  unfolding each_of
  from_each f {b = b} (Memᴰ.head {x = x} {xs = xs} e) m =
      Memᴰ.append_left (each_of f xs) (subst (λ (z : A). Memᴰ b (f z)) e m)
  from_each f (Memᴰ.tail {x = x} k) m = Memᴰ.append_right (f x) (from_each f k m)

  pub map_from : (f : A → B) (l : List A) (b : B) → Memᴰ b (map f l) → (a : A) × Memᴰ a l × (b ≡ f a)
  map_from f [] b m = absurd (Memᴰ.not-nil m)
  map_from f (a ∷ l) b m = pick (Memᴰ.cases_cons m) (map_from f l b)
    where
      pick : (b ≡ f a) ⊎ Memᴰ b (map f l) → (Memᴰ b (map f l) → (x : A) × Memᴰ x l × (b ≡ f x))
          → (x : A) × Memᴰ x (a ∷ l) × (b ≡ f x)
      pick (inl e) again = (a, Memᴰ.head refl, e)
      pick (inr n) again = let r = again n in (r.0, Memᴰ.tail r.1, r.2)

  pub from_map : (f : A → B) {a : A} {l : List A} → Memᴰ a l → Memᴰ (f a) (map f l)
  from_map f (Memᴰ.head e) = Memᴰ.head (ap f e)
  from_map f (Memᴰ.tail m) = Memᴰ.tail (from_map f m)

  module _ {Earlier : A → A → Type 0} {Before : B → B → Type 0} where
    pub sorted_map : (f : A → B) {l : List A} → Sorted Earlier l → ((a b : A) → Earlier a b → Before (f a) (f b))
        → Sorted Before (map f l)
    sorted_map f Sorted.none h = Sorted.none
    sorted_map f (Sorted.next {a = a} {rest = l} k s) h =
        Sorted.next
        (λ b m. let r = map_from f l b m in subst (λ (z : B). Before (f a) z) (sym r.2) (h a r.0 (k r.0 r.1)))
        (sorted_map f s h)

    -- what f gives for the members of a sorted list is sorted where it is for each and stands before what later members give
    pub sorted_each : (f : A → List B) {l : List A} → Sorted Earlier l → ((a : A) → Memᴰ a l → Sorted Before (f a))
        → ((a b : A) (x y : B) → Earlier a b → Memᴰ a l → Memᴰ b l → Memᴰ x (f a) → Memᴰ y (f b) → Before x y)
        → Sorted Before (each_of f l)
    unfolding each_of
    sorted_each f Sorted.none h k = Sorted.none
    sorted_each f (Sorted.next {a = a} {rest = l} e s) h k =
        sorted_append (h a (Memᴰ.head refl))
        (sorted_each f s (λ b m. h b (Memᴰ.tail m)) (λ b c x y r p q. k b c x y r (Memᴰ.tail p) (Memᴰ.tail q)))
        (λ x y p q.
        let r = each_from f l y q in
        k a r.source x y (e r.source r.listed) (Memᴰ.head refl) (Memᴰ.tail r.listed) p r.member)

module _ {A B : Type 0} {Fit : A → B → Type 0} where
  pub matches_append : {l m : List A} {s t : List B} → Matches Fit l s → Matches Fit m t → Matches Fit (l ++ m) (s ++ t)
  matches_append Matches.none k = k
  matches_append (Matches.next h m) k = Matches.next h (matches_append m k)

  pub matches_each : {C : Type 0} (f : C → List A) (g : C → List B) (l : List C) → ((c : C) → Memᴰ c l → Matches Fit (f c) (g c))
      → Matches Fit (each_of f l) (each_of g l)
  unfolding each_of
  matches_each f g [] h = Matches.none
  matches_each f g (c ∷ l) h = matches_append (h c (Memᴰ.head refl)) (matches_each f g l (λ d m. h d (Memᴰ.tail m)))

  pub matches_map : {C : Type 0} (f : C → A) (g : C → B) (l : List C) → ((c : C) → Memᴰ c l → Fit (f c) (g c))
      → Matches Fit (map f l) (map g l)
  matches_map f g [] h = Matches.none
  matches_map f g (c ∷ l) h = Matches.next (h c (Memᴰ.head refl)) (matches_map f g l (λ d m. h d (Memᴰ.tail m)))

  pub matches_length : {l : List A} {m : List B} → Matches Fit l m → length l ≡ length m
  matches_length Matches.none = refl
  matches_length (Matches.next h m) = ap suc (matches_length m)

  pub matches_right : {l : List A} {m : List B} {n : ℕ} {a : A} → Matches Fit l m → NumberedIn l n a
      → (b : B) × NumberedIn m n b × Fit a b
  matches_right {n = n} {a = a} Matches.none x4 = elim x4 [ ]
  matches_right (Matches.next {b = b} h m) NumberedIn.first = (b, NumberedIn.first, h)
  matches_right (Matches.next h m) (NumberedIn.later k) = let r = matches_right m k in (r.0, NumberedIn.later r.1, r.2)

  pub matches_partner : {l : List A} {m : List B} {b : B} → Matches Fit l m → Memᴰ b m → (a : A) × Memᴰ a l × Fit a b
  matches_partner {b = b} Matches.none x4 = elim x4 [ ]
  matches_partner (Matches.next {a = a} h m) (Memᴰ.head e) = (a, Memᴰ.head refl, subst (Fit a) (sym e) h)
  matches_partner (Matches.next h m) (Memᴰ.tail k) = let r = matches_partner m k in (r.0, Memᴰ.tail r.1, r.2)

  -- a list that matches a sorted one is sorted where partners are
  pub matches_sorted : {Before : A → A → Type 0} {After : B → B → Type 0} {l : List A} {m : List B} → Sorted Before l → Matches Fit l m
      → ((a b : A) (x y : B) → Before a b → Fit a x → Fit b y → After x y) → Sorted After m
  matches_sorted Sorted.none Matches.none h = Sorted.none
  matches_sorted (Sorted.next {a = a} k s) (Matches.next {b = x} f m) h =
      Sorted.next (λ y n. let r = matches_partner m n in h a r.0 x y (k r.0 r.1) f r.2) (matches_sorted s m h)

  -- where a partner is determined, so is the list
  pub matches_unique : {l : List A} {m n : List B} → ((a : A) (x y : B) → Memᴰ a l → Fit a x → Fit a y → x ≡ y)
      → Matches Fit l m → Matches Fit l n → m ≡ n
  matches_unique h Matches.none Matches.none = refl
  matches_unique h (Matches.next {a = a} {b = x} p m) (Matches.next {b = y} q n) =
      ap₂ ◌∷◌ (h a x y (Memᴰ.head refl) p q) (matches_unique (λ b u v k. h b u v (Memᴰ.tail k)) m n)

-- strictly ascending is sorted by number
pub ascending_sorted : {low : ℕ} {l : List ℕ} → Ascending low l → Sorted ◌<◌ l
ascending_sorted Ascending.none = Sorted.none
ascending_sorted (Ascending.next h s) = Sorted.next (ascending_from s) (ascending_sorted s)

pub sorted_ascending : {low : ℕ} {l : List ℕ} → Sorted ◌<◌ l → ((a : ℕ) → Memᴰ a l → low ≤ a) → Ascending low l
sorted_ascending Sorted.none h = Ascending.none
sorted_ascending (Sorted.next {a = a} k s) h = Ascending.next (h a (Memᴰ.head refl)) (sorted_ascending s k)
