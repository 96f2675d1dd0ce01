-- The parts of a document are those that the words name: with all goals on the chain, with one goal as the rows say.
use Prim.Native.Nat.{ℕ, zero, suc, ◌^◌, ◌≤◌, ◌<◌}
use mathlib.Core.Path.{◌≡◌, refl, sym, ap, subst, ◌∙◌}
use mathlib.Core.Logic.{◌⊎◌, inl, inr, ◌↔◌}
use mathlib.Core.Bool.{Bool, true, false, not, false≢true, true≢false}
use mathlib.Core.List.{List, [], ◌∷◌, Memᴰ}
use native.Mathlib.Decide.{ℕ_discrete}
use native.Mathlib.Omega.{arith}
use lib.Dec.{eqb}
use borrow.Author.Tests.{eqb-true, eqb-false}
use Rattle.files.specs.Table.{Rule}
use Rattle.files.specs.Sets.{Has, lowest, without_lowest}
use Rattle.files.proofs.SetBits.{has_common}
use Rattle.files.proofs.SetLowest.{has_lowest, has_without_lowest, without_lowest_lt}
use Rattle.documents.specs.Paths.{Below, Descending, towards}
use Rattle.documents.specs.Parts.{Named, given, further, MayStand}
use Rattle.documents.proofs.Paths.{below_root, below_le, towards_below, towards_unique, parent_strictly, parent_le, parent_fuel}
use Rattle.theory.specs.Parts.{Part, path_of, RulesIn, meet_all, child_for, child_for_all, kids_of, part_zero}
use Rattle.theory.specs.Reachable.{subtree}
use Rattle.theory.specs.Least.{some_in}
use Rattle.theory.specs.Order.{Several, Only}
use Rattle.theory.specs.Handed.{Start, ReachWords, word_reach, severalb, one_kids, chain, all_kids, kids_at, root_goals}
use Rattle.theory.proofs.Reachable.{subtree_iff}
use Rattle.theory.proofs.Kids.{Goals, kids_are, kid_stands, meet_above}
use Rattle.theory.proofs.Completeness.{named_goals, chain_named}
use Rattle.theory.proofs.HandedWords.{has_none, climb_iff}
use Rattle.theory.proofs.HandedKids.{KidBy, all, alone, Mode, on_way, meeting, single}
use Rattle.theory.proofs.HandedFill.{kid_word_lem}
use Rattle.theory.proofs.HandedRows.{
  Begins,
  one_part,
  all_part,
  one_word,
  words_decide,
  row,
  row_root,
  row_next_lem,
  row_small,
  KidGoal,
  of_all,
  of_one,
  kids_at_iff,
}

-- a part that the words name
pub data Found (parent : ℕ → ℕ) (count : ℕ) (R : ℕ → ℕ → ℕ) (goals : List ℕ) (start : Start) (a : Part) : Type 0 where
  many : (c : ℕ) → Has (chain parent count R start) c → a ≡ all_part c goals → Found parent count R goals start a
  one : (c g : ℕ) → c < count → Has (row parent count R start c) g → a ≡ one_part c g → Found parent count R goals start a

-- the parts that part 0 names
abbrev pub NamedPart : (parent : ℕ → ℕ) (count : ℕ) (R : ℕ → ℕ → ℕ) (goals : List ℕ) → Part → Type 0
NamedPart parent count R goals a = Named (kids_of parent count (word_reach R)) (part_zero goals ∷ []) a

-- the goals are several, or there is one
pub data HowMany (goals : List ℕ) (w : ℕ) : Type 0 where
  several : severalb w ≡ true → Several goals → HowMany goals w
  unique : severalb w ≡ false → (g : ℕ) → goals ≡ g ∷ [] → HowMany goals w

module _ {parent : ℕ → ℕ} {count : ℕ} {goals : List ℕ} {start : Start} (begins : Begins parent count goals start) where
  pub how_many : HowMany goals start.goals
  unfolding severalb some_in
  how_many = pick (eqb (without_lowest w) 0) refl
    where
      w : ℕ
      w = start.goals

      some : Has w begins.goals_in.some
      some = (begins.word.is begins.goals_in.some).1 begins.goals_in.listed

      positive : 0 < w
      positive = out (ℕ_discrete w 0)
        where
          out : Dec (w ≡ 0) → 0 < w
          out (yes e) = absurd (has_none (subst (λ (z : ℕ). Has z begins.goals_in.some) e some))
          out (no n) = omega arith

      low : Has w (lowest w)
      low = has_lowest w positive begins.word.small

      only : without_lowest w ≡ 0 → Only goals (lowest w)
      only e = record { listed = (begins.word.is (lowest w)).0 low; alone = λ h m. same h m (ℕ_discrete h (lowest w)) }
        where
          same : (h : ℕ) → Memᴰ h goals → Dec (h ≡ lowest w) → h ≡ lowest w
          same h m (yes p) = p
          same h m (no n) =
              absurd (has_none (subst (λ (z : ℕ). Has z h) e ((has_without_lowest w h).1 (n, (begins.word.is h).1 m))))

      pick : (b : Bool) → eqb (without_lowest w) 0 ≡ b → HowMany goals w
      pick true e = unique (rw (severalb, some_in, e) refl) (lowest w) (begins.plain (lowest w) (only (eqb-true (without_lowest w) 0 e)))
      pick false e =
          let v = without_lowest w in
          let m = has_lowest v (omega (arith, eqb-false v 0 e)) (without_lowest_lt w begins.word.small) in
          let r = (has_without_lowest w (lowest v)).0 m in
          several (rw (severalb, some_in, e) refl) (record {
            one = lowest w;
            other = lowest v;
            one_listed = (begins.word.is (lowest w)).0 low;
            other_listed = (begins.word.is (lowest v)).0 r.1;
            differ = λ p. r.0 (sym p);
          })

  module _ (desc : Descending parent) (few : count ≤ 64) (R : ℕ → ℕ → ℕ) where
    pub top_small : start.top < count
    top_small =
        omega (
          arith,
          begins.top,
          below_le desc (meet_above desc begins.goals_in.listed),
          begins.goals_in.small begins.goals_in.some begins.goals_in.listed,
        )

    -- the chain: the paths at or above the goals' context, if the goals are several
    pub chain_iff : (c : ℕ) → Has (chain parent count R start) c ↔ ((severalb start.goals ≡ true) × Below parent c start.top)
    unfolding chain
    chain_iff c = pick (severalb start.goals) refl
      where
        out : Has 0 c ⊎ Below parent c start.top → Below parent c start.top
        out (inl h) = absurd (has_none h)
        out (inr b) = b

        pick : (b : Bool) → severalb start.goals ≡ b
            → Has (chain parent count R start) c ↔ ((severalb start.goals ≡ true) × Below parent c start.top)
        pick true e =
            let r = climb_iff desc start.top start.top 0 c (omega arith) (omega (arith, top_small)) in
            (λ h. (e, out (r.0 (rw (chain, e) at h))), λ p. rw (chain, e) (r.1 (inr p.1)))
        pick false e = (λ h. absurd (has_none (rw (chain, e) at h)), λ p. absurd (false≢true (sym e ∙ p.0)))

    -- how a part with all goals hands them on
    mode_of : (c : ℕ) → Mode parent c goals start.top (not (eqb c start.top))
    mode_of c = pick (eqb c start.top) refl
      where
        pick : (b : Bool) → eqb c start.top ≡ b → Mode parent c goals start.top (not (eqb c start.top))
        pick true e = rw e (meeting (eqb-true c start.top e ∙ begins.top))
        pick false e = rw e (on_way (λ p. eqb-false c start.top e (p ∙ sym begins.top)) begins.top)

module _ {parent : ℕ → ℕ} {rules : List Rule} {count : ℕ} {R : ℕ → ℕ → ℕ} {goals : List ℕ} {start : Start} (desc : Descending parent)
    (within : RulesIn count rules) (few : count ≤ 64) (words : ReachWords parent rules count R)
    (begins : Begins parent count goals start) where
  pub goals_of : {a : Part} → NamedPart parent count R goals a → Goals parent count a.path a.goals
  goals_of n = named_goals desc within (words_decide words) begins.goals_in n

  -- a child of a named part may stand under it
  pub kid_may_stand : {a k : Part} → NamedPart parent count R goals a → Memᴰ k (kids_of parent count (word_reach R) a)
      → MayStand parent count path_of a.path k
  kid_may_stand {a} {k} n m =
      kid_stands desc within (words_decide words) (goals_of n) (kids_are desc within (words_decide words) a k (goals_of n) m)

  pub chain_in_table : {c : ℕ} → Has (chain parent count R start) c → c < count
  chain_in_table {c} h = omega (arith, below_le desc ((chain_iff begins desc few R c).0 h).1, top_small begins desc few R)

  -- the parts on the chain are named
  pub all_named : {c : ℕ} → Has (chain parent count R start) c → NamedPart parent count R goals (all_part c goals)
  all_named {c} h =
      chain_named desc within (words_decide words) begins.goals_in
      (subst (λ (z : ℕ). Below parent c z) begins.top ((chain_iff begins desc few R c).0 h).1)

  -- their children
  pub kids_of_all : {c : ℕ} → Has (chain parent count R start) c → (k : Part)
      → Memᴰ k (kids_of parent count (word_reach R) (all_part c goals))
      ↔ KidBy parent c goals (not (eqb c start.top)) (all_kids parent count R start c) k
  unfolding all_kids
  kids_of_all {c} h k = kid_word_lem desc within few words (goals_of (all_named h)) begins.word (mode_of begins desc few R c) k

  -- the children of a part with one goal
  pub kids_of_one : {c g : ℕ} → NamedPart parent count R goals (one_part c g) → (k : Part)
      → Memᴰ k (kids_of parent count (word_reach R) (one_part c g)) ↔ KidBy parent c (g ∷ []) false (one_kids parent count R c g) k
  unfolding one_kids
  kids_of_one {c} {g} n k =
      let v = goals_of n in
      kid_word_lem desc within few words v (one_word g (omega (arith, v.small g (mathlib.Core.List.Memᴰ.head refl)))) {top = g} (single g refl) k

  small_goals : start.goals < 2 ^ 64
  small_goals = begins.word.small

  -- the row of the root
  root_row : (g : ℕ) → 0 < count → Has (row parent count R start 0) g ↔ ((severalb start.goals ≡ false) × Has start.goals g)
  unfolding root_goals
  root_row g l = rw (row_root parent count R start desc l) (pick (severalb start.goals) refl)
    where
      pick : (b : Bool) → severalb start.goals ≡ b
          → Has (root_goals parent count R start) g ↔ ((severalb start.goals ≡ false) × Has start.goals g)
      pick true e = (λ h. absurd (has_none (rw (root_goals, e) at h)), λ h. absurd (true≢false (sym e ∙ h.0)))
      pick false e = (λ h. (e, rw (root_goals, e) at h), λ h. rw (root_goals, e) h.1)

  -- the row of any other path
  pub next_row : (k g : ℕ) → 0 < k → k < count → Has (row parent count R start k) g
      ↔ (KidGoal parent count R start (parent k) (row parent count R start (parent k)) g × Below parent k g × (g < count))
  next_row k g p l =
      let below = subtree_iff desc k count l few g in
      let s = row_small parent count R start desc small_goals (parent k) (omega (arith, parent_le desc k)) in
      let both = has_common (kids_at parent count R start (parent k) (row parent count R start (parent k))) (subtree parent count k) g in
      let kids = kids_at_iff parent count R start (parent k) (row parent count R start (parent k)) g s in
      rw (row_next_lem parent count R start desc k p l) (
        λ h. let r = both.0 h in let b = below.0 r.1 in (kids.0 r.0, b.1, b.0),
        λ h. both.1 (kids.1 h.0, below.1 (h.2, h.1)),
      )

  zero_in : 0 < count
  zero_in = omega (arith, begins.goals_in.small begins.goals_in.some begins.goals_in.listed)

  root_named : (g : ℕ) → Has (row parent count R start 0) g → NamedPart parent count R goals (one_part 0 g)
  root_named g h = pick (how_many begins) ((root_row g zero_in).0 h)
    where
      pick : HowMany goals start.goals → (severalb start.goals ≡ false) × Has start.goals g
          → NamedPart parent count R goals (one_part 0 g)
      pick (several e s) r = absurd (true≢false (sym e ∙ r.0))
      pick (unique e f s) r =
          let p : g ≡ f = mathlib.Core.List.Memᴰ.eq_of_singleton (subst (λ (l : List ℕ). Memᴰ g l) s ((begins.word.is g).0 r.1)) in
          given (mathlib.Core.List.Memᴰ.head (ap (all_part 0) (ap (λ (z : ℕ). z ∷ []) p ∙ sym s)))

  towards_is : (c g : ℕ) → 0 < c → Below parent c g → towards parent (parent c) g ≡ c
  towards_is c g p b = sym (towards_unique desc (parent_strictly desc c p) refl b)

  child_is : (c g : ℕ) → 0 < c → Below parent c g → child_for parent (parent c) g ≡ one_part c g
  child_is c g p b = ap (λ (z : ℕ). one_part z g) (towards_is c g p b)

  row_named_in : (left c g : ℕ) → c ≤ left → c < count → Has (row parent count R start c) g → NamedPart parent count R goals (one_part c g)
  row_named_in zero c g l s h =
      let e : c ≡ 0 = omega arith in
      subst (λ (z : ℕ). NamedPart parent count R goals (one_part z g)) (sym e)
      (root_named g (subst (λ (z : ℕ). Has (row parent count R start z) g) e h))
  row_named_in (suc left) c g l s h =
      pick (ℕ_discrete c 0)
      (λ f m. row_named_in left (parent c) f (parent_fuel desc c left l) (omega (arith, parent_le desc c)) m)
    where
      kid : 0 < c → Below parent c g → KidGoal parent count R start (parent c) (row parent count R start (parent c)) g
          → ((f : ℕ) → Has (row parent count R start (parent c)) f → NamedPart parent count R goals (one_part (parent c) f))
          → NamedPart parent count R goals (one_part c g)
      kid p b (of_all q k) again =
          subst (NamedPart parent count R goals) (child_is c g p b)
          (further (all_part (parent c) goals) (all_named q) ((kids_of_all q (child_for parent (parent c) g)).1 (alone g k refl)))
      kid p b (of_one f q k) again =
          let n = again f q in
          subst (NamedPart parent count R goals) (child_is c g p b)
          (further (one_part (parent c) f) n ((kids_of_one n (child_for parent (parent c) g)).1 (alone g k refl)))

      pick : Dec (c ≡ 0) → ((f : ℕ) → Has (row parent count R start (parent c)) f → NamedPart parent count R goals (one_part (parent c) f))
          → NamedPart parent count R goals (one_part c g)
      pick (yes e) again =
          subst (λ (z : ℕ). NamedPart parent count R goals (one_part z g)) (sym e)
          (root_named g (subst (λ (z : ℕ). Has (row parent count R start z) g) e h))
      pick (no n) again = let r = (next_row c g (omega arith) s).0 h in kid (omega arith) r.1 r.0 again

  -- the parts of the rows are named
  pub row_named : {c g : ℕ} → c < count → Has (row parent count R start c) g → NamedPart parent count R goals (one_part c g)
  row_named {c} {g} s h = row_named_in c c g (omega arith) s h

  -- a child with one goal is in the row of its path
  kid_found : {c : ℕ} {a k : Part} (h : ℕ) → a.path ≡ c → NamedPart parent count R goals a
      → Memᴰ k (kids_of parent count (word_reach R) a)
      → k ≡ child_for parent c h → KidGoal parent count R start c (row parent count R start c) h → Found parent count R goals start k
  kid_found {c} {a} {k} h on n m e q =
      let s = kid_may_stand n m in
      let v = goals_of (further a n m) in
      let p : k.path ≡ towards parent c h = ap path_of e in
      let d : Memᴰ h k.goals = subst (λ (z : Part). Memᴰ h z.goals) (sym e) (mathlib.Core.List.Memᴰ.head refl) in
      let f : parent k.path ≡ c = s.parent_is ∙ on in
      one k.path h s.small
      ((next_row k.path h s.inner s.small).1
      (subst (λ (z : ℕ). KidGoal parent count R start z (row parent count R start z) h) (sym f) q, v.below h d, v.small h d))
      (e ∙ ap (λ (z : ℕ). one_part z h) (sym p))

  -- every named part is one of these
  pub named_found : {a : Part} → NamedPart parent count R goals a → Found parent count R goals start a
  named_found {a} (given m) = pick (how_many begins)
    where
      e : a ≡ part_zero goals
      e = mathlib.Core.List.Memᴰ.eq_of_singleton m

      pick : HowMany goals start.goals → Found parent count R goals start a
      pick (several p s) = many 0 ((chain_iff begins desc few R 0).1 (p, below_root desc start.top)) e
      pick (unique p g s) =
          one 0 g zero_in
          ((root_row g zero_in).1 (p, (begins.word.is g).1 (subst (λ (l : List ℕ). Memᴰ g l) (sym s) (mathlib.Core.List.Memᴰ.head refl))))
          (e ∙ ap (all_part 0) s)
  named_found {a} (further b n m) = pick (named_found n)
    where
      handed_on : (c : ℕ) → Has (chain parent count R start) c → not (eqb c start.top) ≡ true → a ≡ child_for_all parent c goals
          → Found parent count R goals start a
      handed_on c h e p = out (eqb c start.top) refl
        where
          out : (t : Bool) → eqb c start.top ≡ t → Found parent count R goals start a
          out true f = absurd (false≢true (rw f at e))
          out false f =
              let r = (chain_iff begins desc few R c).0 h in
              let b = towards_below desc (record { below = r.1; other = eqb-false c start.top f }) in
              many (towards parent c (meet_all parent goals))
              ((chain_iff begins desc few R (towards parent c (meet_all parent goals))).1
              (r.0, subst (λ (z : ℕ). Below parent (towards parent c z) start.top) begins.top b)) p

      from_all : (c : ℕ) → Has (chain parent count R start) c → b ≡ all_part c goals
          → KidBy parent c goals (not (eqb c start.top)) (all_kids parent count R start c) a → Found parent count R goals start a
      from_all c h e (all f p) = handed_on c h f p
      from_all c h e (alone g k p) = kid_found g (ap path_of e) n m p (of_all h k)

      from_one : (c g : ℕ) → Has (row parent count R start c) g → b ≡ one_part c g
          → KidBy parent c (g ∷ []) false (one_kids parent count R c g) a → Found parent count R goals start a
      from_one c g h e (all f p) = absurd (false≢true f)
      from_one c g h e (alone x k p) = kid_found x (ap path_of e) n m p (of_one g h k)

      pick : Found parent count R goals start b → Found parent count R goals start a
      pick (many c h e) =
          from_all c h e ((kids_of_all h a).0 (subst (λ (z : Part). Memᴰ a (kids_of parent count (word_reach R) z)) e m))
      pick (one c g l h e) =
          from_one c g h e ((kids_of_one (row_named l h) a).0 (subst (λ (z : Part). Memᴰ a (kids_of parent count (word_reach R) z)) e m))
