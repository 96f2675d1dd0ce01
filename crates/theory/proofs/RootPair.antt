-- The root pair of an inconsistent set and its lowest dead path are computed exactly if there are such.
use Prim.Native.Nat.{ℕ, ◌^◌, ◌≤◌, ◌<◌}
use mathlib.Core.Path.{◌≡◌, refl, sym, subst}
use mathlib.Core.Logic.Iff
use mathlib.Core.Logic.{◌⊎◌, inl, inr, ◌↔◌}
use mathlib.Core.Bool.{Bool, ◌&&◌}
use mathlib.Core.List.Memᴰ
use mathlib.Core.List.{List, [], ◌∷◌, Memᴰ}
use native.Mathlib.Omega.{arith}
use lib.Dec.{lit<, T, eqb, ltb, eqb→eq, ltb→lt, lt→ltb}
use lib.Ieee.Fits.{and_i, and_l, and_r}
use lib.ListN.{length}
use Rattle.files.specs.Table.{Rule}
use Rattle.files.specs.Sets.{Has, hasb, common, lowest, with_path, members}
use Rattle.files.proofs.SetBits.{has_with, with_lt, has_under, same_sets, not_has, bit_of_zero, has_common, common_lt}
use Rattle.files.proofs.SetMembers.{mem_members}
use Rattle.files.proofs.SetLowest.{lowest_first}
use Rattle.documents.specs.Paths.{same, Context, context_of}
use Rattle.documents.proofs.Paths.{below_zero, context_of_context, context_is}
use Rattle.theory.specs.Walk.{Reach, Dead, PairBy}
use Rattle.theory.specs.Required.{Needed, root, listed}
use Rattle.theory.specs.Reachable.{Fits, reachb}
use Rattle.theory.specs.Least.{passing}
use Rattle.theory.specs.Decide.{
  RootPair,
  LeastRootPair,
  LowestDead,
  asked_in,
  reacher,
  root_sides,
  rootb,
  root_rule,
  is_root_pair,
  root_first,
  root_second,
  is_dead,
  dead_asked,
  is_asked_dead,
  dead_paths,
}
use Rattle.theory.proofs.Walks.{numbered_lt}
use Rattle.theory.proofs.Reachable.{T-hasb, reachb_iff}
use Rattle.theory.proofs.Least.{least_passes, least_least, least_some, passing_iff, passing_small, some_lowest, has_some}
use Rattle.theory.proofs.Decide.{rule_at_numbered, AbsenceWith, absence_test, is_dead_iff}

-- the set asked for has the paths that every document asked for has
pub asked_in_iff : (required : List ℕ) → ((x : ℕ) → Memᴰ x required → x < 64) → (x : ℕ)
    → Has (asked_in required) x ↔ Needed required x
unfolding asked_in
asked_in_iff [] low x = (λ h. root (only ((has_with 0 0 x (omega arith)).0 h)), λ h. (has_with 0 0 x (omega arith)).1 (inl (root_of_lem h)))
  where
    only : (x ≡ 0) ⊎ Has 0 x → x ≡ 0
    only (inl e) = e
    only (inr h) = absurd (not_has (bit_of_zero x) h)

    root_of_lem : Needed [] x → x ≡ 0
    root_of_lem (root e) = e
    root_of_lem (listed m) = absurd (Memᴰ.not-nil m)
asked_in_iff (a ∷ rest) low x =
    let again = asked_in_iff rest (λ z m. low z (Memᴰ.tail m)) x in
    let one = has_with (asked_in rest) a x (low a (Memᴰ.head refl)) in
    (λ h. out again.0 (one.0 h), λ h. one.1 (into again.1 h))
  where
    deeper : Needed rest x → Needed (a ∷ rest) x
    deeper (root e) = root e
    deeper (listed m) = listed (Memᴰ.tail m)

    out : (Has (asked_in rest) x → Needed rest x) → (x ≡ a) ⊎ Has (asked_in rest) x → Needed (a ∷ rest) x
    out again (inl e) = listed (Memᴰ.head e)
    out again (inr h) = deeper (again h)

    tail_of : (Needed rest x → Has (asked_in rest) x) → (x ≡ a) ⊎ Memᴰ x rest → (x ≡ a) ⊎ Has (asked_in rest) x
    tail_of again (inl e) = inl e
    tail_of again (inr k) = inr (again (listed k))

    into : (Needed rest x → Has (asked_in rest) x) → Needed (a ∷ rest) x → (x ≡ a) ⊎ Has (asked_in rest) x
    into again (root e) = inr (again (root e))
    into again (listed m) = tail_of again (Memᴰ.cases_cons m)

-- as a word it is below 2 ^ 64
pub asked_in_small : (required : List ℕ) → asked_in required < 2 ^ 64
unfolding asked_in
asked_in_small [] = with_lt 0 0 (lit< tt)
asked_in_small (x ∷ rest) = with_lt (asked_in rest) x (asked_in_small rest)

-- where the required paths are the members of a set, it is that set with the root
pub asked_in_members : (w : ℕ) → w < 2 ^ 64 → asked_in (members w) ≡ with_path w 0
asked_in_members w h =
    same_sets (asked_in (members w)) (with_path w 0) (asked_in_small (members w)) (with_lt w 0 h) (λ x l. Iff.trans (asked x)
    (Iff.trans (λ n. in_or_root x n, λ n. needed x n) (Iff.symm (has_with w 0 x (omega arith)))))
  where
    asked : (x : ℕ) → Has (asked_in (members w)) x ↔ Needed (members w) x
    asked = asked_in_iff (members w) (λ x m. has_under w 64 x h ((mem_members w x h).0 m))

    in_or_root : (x : ℕ) → Needed (members w) x → (x ≡ 0) ⊎ Has w x
    in_or_root x (root e) = inl e
    in_or_root x (listed m) = inr ((mem_members w x h).0 m)

    needed : (x : ℕ) → (x ≡ 0) ⊎ Has w x → Needed (members w) x
    needed x (inl e) = root e
    needed x (inr m) = listed ((mem_members w x h).1 m)

-- there is one least root pair
pub least_root_pair_unique : {parent : ℕ → ℕ} {rules : List Rule} {asked x y r u v s : ℕ} → LeastRootPair parent rules asked x y r
    → LeastRootPair parent rules asked u v s → (x ≡ u) × (y ≡ v) × (r ≡ s)
least_root_pair_unique {parent} {rules} {asked} {x} {y} {r} {u} {v} {s} a b =
    let e : r ≡ s = omega (arith, a.least_rule u v s b.by, b.least_rule x y r a.by) in
    let at-r : RootPair parent rules asked u v r = subst (λ (z : ℕ). RootPair parent rules asked u v z) (sym e) b.by in
    let at-s : RootPair parent rules asked x y s = subst (λ (z : ℕ). RootPair parent rules asked x y z) e a.by in
    (omega (arith, a.least_first u v at-r, b.least_first x y at-s), omega (arith, a.least_second u v at-r, b.least_second x y at-s), e)

-- t is reachable inside the root from x, which is asked for
record Asked (parent : ℕ → ℕ) (rules : List Rule) (asked x t : ℕ) : Type 0 where
  member : Has asked x
  reached : Reach parent rules 0 x t

module _ {parent : ℕ → ℕ} {rules : List Rule} {count : ℕ} (fits : Fits parent rules count) (asked : ℕ)
    (some-path : 0 < count) (in_table : (x : ℕ) → Has asked x → x < count) where
  reacher_test : (t x : ℕ) → Bool
  reacher_test t x = hasb asked x && reachb parent rules count 0 x t

  reacher_test_lem : (t x : ℕ) → x < count → T (reacher_test t x) ↔ Asked parent rules asked x t
  unfolding reacher_test
  reacher_test_lem t x h =
      let a = hasb asked x in
      let b = reachb parent rules count 0 x t in (
        λ u. record { member = (T-hasb asked x).0 (and_l a b u); reached = (reachb_iff fits 0 x some-path h t).0 (and_r a b u) },
        λ u. and_i a b ((T-hasb asked x).1 u.member) ((reachb_iff fits 0 x some-path h t).1 u.reached),
      )

  -- the lowest that reaches t
  reacher_found : (t : ℕ) → T (ltb (reacher parent rules count asked t) count)
      → Asked parent rules asked (reacher parent rules count asked t) t
  unfolding reacher reacher_test
  reacher_found t h =
      let under = ltb→lt (reacher parent rules count asked t) count h in
      (reacher_test_lem t (reacher parent rules count asked t) under).0 (least_passes (reacher_test t) count under)

  reacher_lowest : (t x : ℕ) → Asked parent rules asked x t → reacher parent rules count asked t ≤ x
  unfolding reacher reacher_test
  reacher_lowest t x a = least_least (reacher_test t) count x ((reacher_test_lem t x (in_table x a.member)).1 a)

  reacher_some : (t x : ℕ) → Asked parent rules asked x t → T (ltb (reacher parent rules count asked t) count)
  reacher_some t x a =
      lt→ltb (reacher parent rules count asked t) count (omega (arith, reacher_lowest t x a, in_table x a.member))

  -- a root pair: the context of the rule is the root
  at_root_lem : {x y r : ℕ} (d : PairBy parent rules 0 x y r) → context_of parent d.ru.left d.ru.right ≡ 0
  at_root_lem d = context_is fits.descending (subst (λ (z : ℕ). Context parent d.ru.left d.ru.right z)
      (below_zero fits.descending d.prefix) d.is_context)

  left_asked : {x y r : ℕ} (d : RootPair parent rules asked x y r) → Asked parent rules asked x d.by.ru.left
  left_asked {x} d = record {
    member = d.first;
    reached = subst (λ (z : ℕ). Reach parent rules z x d.by.ru.left) (below_zero fits.descending d.by.prefix) d.by.left;
  }

  right_asked : {x y r : ℕ} (d : RootPair parent rules asked x y r) → Asked parent rules asked y d.by.ru.right
  right_asked {y = y} d = record {
    member = d.second;
    reached = subst (λ (z : ℕ). Reach parent rules z y d.by.ru.right) (below_zero fits.descending d.by.prefix) d.by.right;
  }

  -- a rule that passes the test excludes the lowest paths that reach its sides
  root_found : (r : ℕ) → T (rootb parent rules count asked r)
      → RootPair parent rules asked (root_first parent rules count asked r) (root_second parent rules count asked r) r
  unfolding rootb root_sides root_first root_second
  root_found r t = of ((absence_test rules r (root_sides parent rules count asked)).0 t)
    where
      of : AbsenceWith rules r (λ ru. T (root_sides parent rules count asked ru))
          → RootPair parent rules asked (root_first parent rules count asked r) (root_second parent rules count asked r) r
      of a =
          let ru = a.ru in
          let e = eqb (context_of parent ru.left ru.right) 0 in
          let l = ltb (reacher parent rules count asked ru.left) count in
          let k = ltb (reacher parent rules count asked ru.right) count in
          let first = reacher_found ru.left (and_l l k (and_r e (l && k) a.holds)) in
          let second = reacher_found ru.right (and_r l k (and_r e (l && k) a.holds)) in
          let at_zero = eqb→eq (context_of parent ru.left ru.right) 0 (and_l e (l && k) a.holds) in
          rw (rule_at_numbered a.rule) (record {
            first = first.member;
            second = second.member;
            by = record {
              ru = ru;
              rule = a.rule;
              absence = a.absence;
              context = 0;
              is_context = subst (λ (z : ℕ). Context parent ru.left ru.right z) at_zero
                  (context_of_context fits.descending ru.left ru.right);
              prefix = same refl;
              left = first.reached;
              right = second.reached;
            };
          })

  root_test : {x y r : ℕ} → RootPair parent rules asked x y r → T (rootb parent rules count asked r)
  unfolding rootb root_sides
  root_test {x} {y} {r} d =
      let ru = d.by.ru in
      let e = eqb (context_of parent ru.left ru.right) 0 in
      let l = ltb (reacher parent rules count asked ru.left) count in
      let k = ltb (reacher parent rules count asked ru.right) count in
      (absence_test rules r (root_sides parent rules count asked)).1 (record {
        ru = ru;
        rule = d.by.rule;
        absence = d.by.absence;
        holds = and_i e (l && k) (rw (at_root_lem d.by) tt)
            (and_i l k (reacher_some ru.left x (left_asked d)) (reacher_some ru.right y (right_asked d)));
      })

  -- a root pair has its least rule and lowest paths, as computed
  pub root_pair_least : (x y r : ℕ) → RootPair parent rules asked x y r
      → LeastRootPair parent rules asked (root_first parent rules count asked (root_rule parent rules count asked))
      (root_second parent rules count asked (root_rule parent rules count asked)) (root_rule parent rules count asked)
  unfolding root_rule root_first root_second
  root_pair_least x y r d =
      let rule = root_rule parent rules count asked in
      let low = least_least (rootb parent rules count asked) (length rules) r (root_test d) in
      let under : rule < length rules = omega (arith, numbered_lt d.by.rule) in
      record {
        by = root_found rule (least_passes (rootb parent rules count asked) (length rules) under);
        least_rule = λ u v s e. least_least (rootb parent rules count asked) (length rules) s (root_test e);
        least_first = λ u v e. rw (rule_at_numbered e.by.rule) (reacher_lowest e.by.ru.left u (left_asked e));
        least_second = λ u v e. rw (rule_at_numbered e.by.rule) (reacher_lowest e.by.ru.right v (right_asked e));
      }

  -- the test decides root pairs
  pub is_root_pair_iff : T (is_root_pair parent rules count asked) ↔ ((x : ℕ) × (y : ℕ) × (r : ℕ) × RootPair parent rules asked x y r)
  unfolding is_root_pair root_rule
  is_root_pair_iff = (
    λ t.
        let r = root_rule parent rules count asked in (
          root_first parent rules count asked r,
          root_second parent rules count asked r,
          r,
          root_found r (least_passes (rootb parent rules count asked) (length rules) (ltb→lt r (length rules) t)),
        ),
    λ d. least_some (rootb parent rules count asked) (length rules) d.2 (numbered_lt d.3.by.rule) (root_test d.3),
  )

  -- the dead paths asked for
  dead_asked_iff : (x : ℕ) → Has (common (dead_paths parent rules count) asked) x ↔ (Has asked x × Dead parent rules x)
  unfolding dead_paths
  dead_asked_iff x =
      let both = has_common (passing (is_dead parent rules count) count) asked x in
      let passes = passing_iff (is_dead parent rules count) count x fits.few in (
        λ h. ((both.0 h).1, (is_dead_iff fits x (in_table x (both.0 h).1)).0 (passes.0 (both.0 h).0).1),
        λ d. both.1 (passes.1 (in_table x d.0, (is_dead_iff fits x (in_table x d.0)).1 d.1), d.0),
      )

  -- where a dead path is asked for, the computed one is the lowest
  pub dead_asked_lowest : T (is_asked_dead parent rules count asked) → LowestDead parent rules asked (dead_asked parent rules count asked)
  unfolding is_asked_dead dead_asked dead_paths
  dead_asked_lowest t =
      let w = common (dead_paths parent rules count) asked in
      let small = common_lt (dead_paths parent rules count) asked (passing_small (is_dead parent rules count) count) in
      let found = (dead_asked_iff (lowest w)).0 (some_lowest w small t) in
      record {
        member = found.0;
        dead = found.1;
        lowest = λ z h d. lowest_first w z ((dead_asked_iff z).1 (h, d));
      }

  -- the test decides whether a path asked for is dead
  pub is_asked_dead_iff : T (is_asked_dead parent rules count asked) ↔ ((x : ℕ) × Has asked x × Dead parent rules x)
  unfolding is_asked_dead
  is_asked_dead_iff = (
    λ t. let l = dead_asked_lowest t in (dead_asked parent rules count asked, l.member, l.dead),
    λ d. has_some (common (dead_paths parent rules count) asked) d.0 ((dead_asked_iff d.0).1 (d.1, d.2)),
  )
