-- The words of goals per path say which parts a document has.
use Prim.Native.Nat.{ℕ, zero, suc, ◌+◌, ◌^◌, ◌≤◌, ◌<◌}
use mathlib.Core.Path.{◌≡◌, refl, sym, ap, ◌∙◌}
use mathlib.Core.Logic.Iff
use mathlib.Core.Logic.{◌⊎◌, inl, inr, ◌↔◌}
use mathlib.Core.Bool.{Bool, true, false, not}
use mathlib.Core.List.Memᴰ
use mathlib.Core.List.{List, [], ◌∷◌, ◌++◌, Memᴰ}
use native.Mathlib.Nat.{add-zero}
use native.Mathlib.Decide.{ℕ_discrete}
use native.Mathlib.Omega.{arith}
use lib.Dec.{eqb, lit<}
use lib.ListN.{length, get_or, length-append, get_or-append}
use lib.Seq.{get_or_at}
use borrow.Author.Tests.{eqb-true, eqb-false}
use Rattle.files.specs.Table.{Rule}
use Rattle.files.specs.Sets.{Has, hasb, with_path, common}
use Rattle.files.proofs.SetBits.{hasb_true, hasb_false, not_has, has_with, with_lt, common_lt}
use Rattle.files.proofs.SetMembers.{size_le}
use Rattle.documents.specs.Paths.{Descending}
use Rattle.documents.proofs.Paths.{parent_le, parent_fuel}
use Rattle.theory.specs.Parts.{Part, Decides, meet_all}
use Rattle.theory.specs.Reachable.{subtree}
use Rattle.theory.specs.Order.{Only}
use Rattle.theory.specs.Handed.{
  Start,
  ReachWords,
  word_reach,
  severalb,
  one_kids,
  chain,
  all_kids,
  kids_at,
  root_goals,
  goals_on,
  rows_from,
  goal_rows,
}
use Rattle.theory.proofs.Reachable.{T-hasb}
use Rattle.theory.proofs.Kids.{Goals}
use Rattle.theory.proofs.HandedWords.{has_none, gather_iff, gather_small, Given}
use Rattle.theory.proofs.HandedKids.{GoalWord}
use Rattle.theory.proofs.HandedFill.{kid_word_small}

-- the goals of part 0 as a list and as a set, with their context
pub record Begins (parent : ℕ → ℕ) (count : ℕ) (goals : List ℕ) (start : Start) : Type 0 where
  pub goals_in : Goals parent count 0 goals
  pub word : GoalWord goals start.goals
  pub top : start.top ≡ meet_all parent goals
  pub plain : (g : ℕ) → Only goals g → goals ≡ g ∷ []

-- a part with the one goal g
abbrev pub one_part : (c g : ℕ) → Part
one_part c g = record { path = c; goals = g ∷ [] }

-- a part with all goals
abbrev pub all_part : (c : ℕ) (goals : List ℕ) → Part
all_part c goals = record { path = c; goals = goals }

-- the set of one goal
pub one_word : (g : ℕ) → g < 64 → GoalWord (g ∷ []) (with_path 0 g)
one_word g l = record {
  small = with_lt 0 g (lit< tt);
  is = λ h. (λ m. out h ((has_with 0 g h l).0 m), λ m. (has_with 0 g h l).1 (inl (Memᴰ.eq_of_singleton m)));
}
  where
    out : (h : ℕ) → (h ≡ g) ⊎ Has 0 h → Memᴰ h (g ∷ [])
    out h (inl e) = Memᴰ.head e
    out h (inr m) = absurd (has_none m)

module _ {parent : ℕ → ℕ} {rules : List Rule} {count : ℕ} {R : ℕ → ℕ → ℕ} (words : ReachWords parent rules count R) where
  -- the words decide what is reachable
  pub words_decide : Decides parent rules count (word_reach R)
  words_decide = record { exactly = λ c x y b h k. Iff.trans (T-hasb (R c x) y) (words.exactly c x y b h) }

module _ (parent : ℕ → ℕ) (count : ℕ) (R : ℕ → ℕ → ℕ) (start : Start) where
  -- the goals of the one-goal parts on path k
  abbrev pub row : ℕ → ℕ
  row k = get_or (goal_rows parent count R start) k 0

  named_more : (c here : ℕ) (named : List ℕ) → length named ≡ c → here ≡ row c
      → ((j : ℕ) → j < c → get_or named j 0 ≡ kids_at parent count R start j (row j))
      → (j : ℕ) → j < suc c → get_or (named ++ (kids_at parent count R start c here ∷ [])) j 0 ≡ kids_at parent count R start j (row j)
  named_more c here named l e h j k = pick (ℕ_discrete j c)
    where
      more : List ℕ
      more = named ++ (kids_at parent count R start c here ∷ [])

      pick : Dec (j ≡ c) → get_or more j 0 ≡ kids_at parent count R start j (row j)
      pick (yes p) =
          ap (λ (z : ℕ). get_or more z 0) p ∙ get_or_at named (kids_at parent count R start c here) [] 0 c l
          ∙ ap (kids_at parent count R start c) e ∙ sym (ap (λ (z : ℕ). kids_at parent count R start z (row z)) p)
      pick (no n) = get_or-append named (kids_at parent count R start c here ∷ []) 0 j (omega arith) ∙ h j (omega arith)

  -- the goals on a path of the table, given those on its parent
  abbrev pub row_next : ℕ → ℕ
  row_next k = common (kids_at parent count R start (parent k) (row (parent k))) (subtree parent count k)

  rows_law : ((x : ℕ) → 0 < x → parent x < x) → (left c : ℕ) (named : List ℕ) → length named ≡ c
      → ((j : ℕ) → j < c → get_or named j 0 ≡ kids_at parent count R start j (row j))
      → ((i : ℕ) → i < left → get_or (rows_from parent count R start left c named) i 0 ≡ row (c + i))
      → (i : ℕ) → i < left → (c + i ≡ 0 → row (c + i) ≡ root_goals parent count R start) × (0 < c + i → row (c + i) ≡ row_next (c + i))
  unfolding rows_from goals_on
  rows_law less zero c named l h is i k = absurd (omega arith)
  rows_law less (suc left) c named l h is zero k =
      let e : c + 0 ≡ c = omega arith in
      rw e (pick (eqb c 0) refl)
    where
      here : goals_on parent count R start c named ≡ row c
      here = is 0 (omega arith) ∙ ap row (add-zero c)

      pick : (b : Bool) → eqb c 0 ≡ b → (c ≡ 0 → row c ≡ root_goals parent count R start) × (0 < c → row c ≡ row_next c)
      pick true e = (λ p. sym (rw (goals_on, e) at here), λ p. absurd (omega (arith, eqb-true c 0 e)))
      pick false e = (
        λ p. absurd (eqb-false c 0 e p),
        λ p. sym (rw (goals_on, e) at here) ∙ ap (λ (z : ℕ). common z (subtree parent count c)) (h (parent c) (less c p)),
      )
  rows_law less (suc left) c named l h is (suc i) k =
      let e : c + suc i ≡ suc c + i = omega arith in
      rw e (rows_law less left (suc c) (named ++ (kids_at parent count R start c (goals_on parent count R start c named) ∷ []))
      (length-append named (kids_at parent count R start c (goals_on parent count R start c named) ∷ []) ∙ omega arith)
      (named_more c (goals_on parent count R start c named) named l (is 0 (omega arith) ∙ ap row (add-zero c)) h)
      (λ j q. let f : c + suc j ≡ suc c + j = omega arith in rw f at (is (suc j) (omega arith))) i (omega arith))

  module _ (desc : Descending parent) where
    laws : (k : ℕ) → k < count → (k ≡ 0 → row k ≡ root_goals parent count R start) × (0 < k → row k ≡ row_next k)
    unfolding goal_rows
    laws k l =
        let e : 0 + k ≡ k = omega arith in
        rw e at (rows_law desc.smaller count 0 [] refl (λ j h. absurd (omega arith))
        (λ i h. let f : 0 + i ≡ i = omega arith in rw f refl) k l)

    pub row_root : 0 < count → row 0 ≡ root_goals parent count R start
    row_root l = (laws 0 l).0 refl

    pub row_next_lem : (k : ℕ) → 0 < k → k < count → row k ≡ row_next k
    row_next_lem k p l = (laws k l).1 p

  pub all_kids_small : (c : ℕ) → start.goals < 2 ^ 64 → all_kids parent count R start c < 2 ^ 64
  unfolding all_kids
  all_kids_small c l = kid_word_small parent count R c start.goals start.top (not (eqb c start.top)) l

  pub one_kids_small : (c g : ℕ) → one_kids parent count R c g < 2 ^ 64
  unfolding one_kids
  one_kids_small c g = kid_word_small parent count R c (with_path 0 g) g false (with_lt 0 g (lit< tt))

  -- y is a child's goal: of the part with all goals, or of a part with one
  pub data KidGoal (c here y : ℕ) : Type 0 where
    of_all : Has (chain parent count R start) c → Has (all_kids parent count R start c) y → KidGoal c here y
    of_one : (g : ℕ) → Has here g → Has (one_kids parent count R c g) y → KidGoal c here y

  pub kids_at_iff : (c here y : ℕ) → here < 2 ^ 64 → Has (kids_at parent count R start c here) y ↔ KidGoal c here y
  unfolding kids_at
  kids_at_iff c here y l = pick (hasb (chain parent count R start) c) refl
    where
      given_one : Given (one_kids parent count R c) here y → KidGoal c here y
      given_one g = of_one g.source g.member g.has

      out : Has (chain parent count R start) c → Has (all_kids parent count R start c) y ⊎ Given (one_kids parent count R c) here y
          → KidGoal c here y
      out h (inl k) = of_all h k
      out h (inr g) = given_one g

      none_out : Has 0 y ⊎ Given (one_kids parent count R c) here y → KidGoal c here y
      none_out (inl k) = absurd (has_none k)
      none_out (inr g) = given_one g

      into : KidGoal c here y → Has (all_kids parent count R start c) y ⊎ Given (one_kids parent count R c) here y
      into (of_all h k) = inl k
      into (of_one g h k) = inr (record { source = g; member = h; has = k })

      none_into : (Has (chain parent count R start) c → ⊥) → KidGoal c here y → Has 0 y ⊎ Given (one_kids parent count R c) here y
      none_into n (of_all h k) = absurd (n h)
      none_into n (of_one g h k) = inr (record { source = g; member = h; has = k })

      pick : (b : Bool) → hasb (chain parent count R start) c ≡ b → Has (kids_at parent count R start c here) y ↔ KidGoal c here y
      pick true e =
          let r = gather_iff (one_kids parent count R c) 64 here (all_kids parent count R start c) y l (size_le here) in
          rw (e, kids_at) (λ h. out (hasb_true (chain parent count R start) c e) (r.0 h), λ k. r.1 (into k))
      pick false e =
          let r = gather_iff (one_kids parent count R c) 64 here 0 y l (size_le here) in
          rw (e, kids_at) (λ h. none_out (r.0 h), λ k. r.1 (none_into (not_has (hasb_false (chain parent count R start) c e)) k))

  kids_at_small : (c here : ℕ) → here < 2 ^ 64 → start.goals < 2 ^ 64 → kids_at parent count R start c here < 2 ^ 64
  unfolding kids_at
  kids_at_small c here l s = pick (hasb (chain parent count R start) c) refl
    where
      pick : (b : Bool) → hasb (chain parent count R start) c ≡ b → kids_at parent count R start c here < 2 ^ 64
      pick true e =
          rw (e, kids_at) (gather_small (one_kids parent count R c) 64 here (all_kids parent count R start c) l (all_kids_small c s)
          (λ g m. one_kids_small c g))
      pick false e = rw (e, kids_at) (gather_small (one_kids parent count R c) 64 here 0 l (lit< tt) (λ g m. one_kids_small c g))

  root_small : start.goals < 2 ^ 64 → root_goals parent count R start < 2 ^ 64
  unfolding root_goals
  root_small l = pick (severalb start.goals) refl
    where
      pick : (b : Bool) → severalb start.goals ≡ b → root_goals parent count R start < 2 ^ 64
      pick true e = rw (e, root_goals) (lit< tt)
      pick false e = rw (e, root_goals) l

  module _ (desc : Descending parent) (small : start.goals < 2 ^ 64) where
    row_small_in : (left k : ℕ) → k ≤ left → k < count → row k < 2 ^ 64
    row_small_in zero k h l =
        let e : k ≡ 0 = omega arith in
        rw (e, row_root desc (omega arith)) (root_small small)
    row_small_in (suc left) k h l = pick (ℕ_discrete k 0) (λ p. row_small_in left (parent k) (parent_fuel desc k left h) p)
      where
        pick : Dec (k ≡ 0) → (parent k < count → row (parent k) < 2 ^ 64) → row k < 2 ^ 64
        pick (yes e) again = rw (e, row_root desc (omega arith)) (root_small small)
        pick (no n) again =
            rw (row_next_lem desc k (omega arith) l)
            (common_lt _ (subtree parent count k) (kids_at_small (parent k) (row (parent k)) (again (omega (arith, parent_le desc k))) small))

    pub row_small : (k : ℕ) → k < count → row k < 2 ^ 64
    row_small k l = row_small_in k k (omega arith) l
