-- The laws of below, context, child towards and depth, over any parents that descend.
use Prim.Native.Nat.{ℕ, zero, suc, ◌+◌, ◌≤◌, ◌<◌}
use mathlib.Core.Path.{◌≡◌, refl, sym, ap, ◌∙◌, subst}
use mathlib.Core.Logic.{◌⊎◌, inl, inr, ◌↔◌}
use mathlib.Core.Bool.{Bool, true, false}
use mathlib.Core.List.{List}
use native.Mathlib.Omega.{arith}
use lib.Dec.{T, eqb, ltb, eqb→eq, eqb_refl, ltb→lt, nltb→le}
pub use borrow.Author.Tests.{eqb-true, eqb-false}
use Rattle.files.specs.Table.{Path, parent_in, Depth, root, under}
use Rattle.documents.specs.Paths.{
  Below,
  same,
  up,
  StrictlyBelow,
  Context,
  Descending,
  climbs_to,
  belowb,
  meet,
  context_of,
  climb_under,
  towards,
  climbs,
  depth_of,
}

-- x is below itself
pub below_refl : {parent : ℕ → ℕ} (x : ℕ) → Below parent x x
below_refl x = same refl

-- below is handed down
pub below_trans : {parent : ℕ → ℕ} {a b c : ℕ} → Below parent a b → Below parent b c → Below parent a c
below_trans {parent} {a} h (same e) = subst (λ (z : ℕ). Below parent a z) e h
below_trans h (up k) = up (below_trans h k)

-- below c is c itself, or has its parent below c
pub below_step : {parent : ℕ → ℕ} {c x : ℕ} → Below parent c x → (c ≡ x) ⊎ Below parent c (parent x)
below_step (same e) = inl e
below_step (up h) = inr h

-- strictly below c is a path whose parent is below c
pub strictly_up : {parent : ℕ → ℕ} {c x : ℕ} → StrictlyBelow parent c x → Below parent c (parent x)
strictly_up {parent} {c} {x} s = pick (below_step s.below)
  where
    pick : (c ≡ x) ⊎ Below parent c (parent x) → Below parent c (parent x)
    pick (inl e) = absurd (s.other e)
    pick (inr h) = h

-- a parent is above its child
pub parent_below : {parent : ℕ → ℕ} (x : ℕ) → Below parent (parent x) x
parent_below x = up (same refl)

-- two prefixes of one path: one is below the other
pub below_comparable : {parent : ℕ → ℕ} {a b x : ℕ} → Below parent a x → Below parent b x
    → Below parent a b ⊎ Below parent b a
below_comparable {parent} {b = b} (same e) k = inr (subst (λ (z : ℕ). Below parent b z) (sym e) k)
below_comparable {parent} {a} {b} {x} (up h) k = pick (below_step k) (λ (k' : Below parent b (parent x)). below_comparable h k')
  where
    pick : (b ≡ x) ⊎ Below parent b (parent x) → (Below parent b (parent x) → Below parent a b ⊎ Below parent b a)
        → Below parent a b ⊎ Below parent b a
    pick (inl e) again = inl (subst (λ (z : ℕ). Below parent a z) (sym e) (up h))
    pick (inr k') again = again k'

module _ {parent : ℕ → ℕ} (desc : Descending parent) where
  -- no parent has a greater number
  pub parent_le : (x : ℕ) → parent x ≤ x
  parent_le zero = rw desc.root (omega arith)
  parent_le (suc x) = let h : parent (suc x) < suc x = desc.smaller (suc x) (omega arith) in omega arith

  -- what is below c has no smaller number
  pub below_le : {c x : ℕ} → Below parent c x → c ≤ x
  below_le (same e) = omega arith
  below_le (up {x = x} h) = omega (arith, below_le h, parent_le x)

  -- what is strictly below c has a greater number
  pub strictly_lt : {c x : ℕ} → StrictlyBelow parent c x → c < x
  strictly_lt s = omega (arith, below_le s.below, s.other)

  -- two paths below one another are one
  pub below_antisym : {a b : ℕ} → Below parent a b → Below parent b a → a ≡ b
  below_antisym h k = omega (arith, below_le h, below_le k)

  -- only the root is above the root
  pub below_zero : {c : ℕ} → Below parent c 0 → c ≡ 0
  below_zero h = omega (arith, below_le h)

  -- every path other than the root is strictly below its parent
  pub parent_strictly : (x : ℕ) → 0 < x → StrictlyBelow parent (parent x) x
  parent_strictly x h = record { below = parent_below x; other = λ e. let s : parent x < x = desc.smaller x h in omega arith }

  -- below a path strictly below c is strictly below c
  pub strictly_trans : {a b c : ℕ} → StrictlyBelow parent a b → Below parent b c → StrictlyBelow parent a c
  strictly_trans s h = record { below = below_trans s.below h; other = λ e. omega (arith, strictly_lt s, below_le h) }

  -- a climb takes one from the fuel
  pub parent_fuel : (x fuel : ℕ) → x ≤ suc fuel → parent x ≤ fuel
  parent_fuel zero fuel h = rw desc.root (omega arith)
  parent_fuel (suc x) fuel h = omega (arith, desc.smaller (suc x) (omega arith))

  root_in_lem : (fuel x : ℕ) → x ≤ fuel → Below parent 0 x
  root_in_lem zero x h = same {x = x} (omega arith)
  root_in_lem (suc fuel) x h = up (root_in_lem fuel (parent x) (parent_fuel x fuel h))

  -- everything is below the root
  pub below_root : (x : ℕ) → Below parent 0 x
  below_root x = root_in_lem x x (omega arith)

  climbs_found : (c fuel x : ℕ) → x ≤ fuel → Below parent c x → T (climbs_to parent c fuel x)
  unfolding climbs_to
  climbs_found c zero x h b = subst (λ (z : ℕ). T (eqb c z)) (omega (arith, below_le b)) (eqb_refl c)
  climbs_found c (suc fuel) x h b =
      pick (eqb c x) refl (λ (k : Below parent c (parent x)). climbs_found c fuel (parent x) (parent_fuel x fuel h) k)
    where
      onward : eqb c x ≡ false → (c ≡ x) ⊎ Below parent c (parent x)
          → (Below parent c (parent x) → T (climbs_to parent c fuel (parent x))) → T (climbs_to parent c fuel (parent x))
      onward e (inl p) again = absurd (eqb-false c x e p)
      onward e (inr k) again = again k

      pick : (t : Bool) → eqb c x ≡ t → (Below parent c (parent x) → T (climbs_to parent c fuel (parent x)))
          → T (climbs_to parent c (suc fuel) x)
      pick true e again = rw (e, climbs_to) tt
      pick false e again = rw (e, climbs_to) (onward e (below_step b) again)

  climbs_below : (c fuel x : ℕ) → T (climbs_to parent c fuel x) → Below parent c x
  unfolding climbs_to
  climbs_below c zero x t = same (eqb→eq c x t)
  climbs_below c (suc fuel) x t = pick (eqb c x) refl (climbs_below c fuel (parent x))
    where
      pick : (b : Bool) → eqb c x ≡ b → (T (climbs_to parent c fuel (parent x)) → Below parent c (parent x)) → Below parent c x
      pick true e again = same (eqb-true c x e)
      pick false e again = up (again (rw (climbs_to, e) at t))

  -- the test decides below
  pub belowb_iff : (c x : ℕ) → T (belowb parent c x) ↔ Below parent c x
  unfolding belowb
  belowb_iff c x = (climbs_below c x x, climbs_found c x x (omega arith))

  -- below is decided
  pub below_dec : (c x : ℕ) → Dec (Below parent c x)
  below_dec c x = pick (belowb parent c x) refl
    where
      pick : (b : Bool) → belowb parent c x ≡ b → Dec (Below parent c x)
      pick true e = yes ((belowb_iff c x).0 (rw e tt))
      pick false e = no (λ h. rw e at ((belowb_iff c x).1 h))

  -- what is below c is c, or strictly below it
  pub below_strictly : {c x : ℕ} → Below parent c x → (c ≡ x) ⊎ StrictlyBelow parent c x
  below_strictly {c} {x} h = pick (eqb c x) refl
    where
      pick : (b : Bool) → eqb c x ≡ b → (c ≡ x) ⊎ StrictlyBelow parent c x
      pick true e = inl (eqb-true c x e)
      pick false e = inr (record { below = h; other = eqb-false c x e })

  -- two paths have one context
  pub context_unique : {p q c d : ℕ} → Context parent p q c → Context parent p q d → c ≡ d
  context_unique {c = c} {d = d} x y = below_antisym (y.longest c x.left x.right) (x.longest d y.left y.right)

  -- the context does not depend on the order of the two
  pub context_sym : {p q c : ℕ} → Context parent p q c → Context parent q p c
  context_sym x = record { left = x.right; right = x.left; longest = λ d h k. x.longest d k h }

  -- the context of a path and a prefix of it is the prefix
  pub context_prefix : {p q : ℕ} → Below parent p q → Context parent p q p
  context_prefix {p} h = record { left = below_refl p; right = h; longest = λ d k l. k }

  -- of two unequal paths the greater number climbs
  context_climb : {p q c : ℕ} → p < q → Context parent p (parent q) c → Context parent p q c
  context_climb {p} {q} {c} l x =
      record { left = x.left; right = up x.right; longest = λ d h k. x.longest d h (pick d h (below_step k)) }
    where
      pick : (d : ℕ) → Below parent d p → (d ≡ q) ⊎ Below parent d (parent q) → Below parent d (parent q)
      pick d h (inl e) = let s : d ≤ p = below_le h in absurd (omega arith)
      pick d h (inr k) = k

  meet_context : (fuel p q : ℕ) → p + q ≤ fuel → Context parent p q (meet parent fuel p q)
  unfolding meet
  meet_context zero p q h = context_prefix (same {x = q} (omega arith))
  meet_context (suc fuel) p q h =
      pick (eqb p q) (ltb p q) refl refl
      (λ l. meet_context fuel p (parent q) (omega (arith, desc.smaller q (omega arith))))
      (λ l. meet_context fuel (parent p) q (omega (arith, desc.smaller p (omega arith))))
    where
      pick : (s t : Bool) → eqb p q ≡ s → ltb p q ≡ t → (p < q → Context parent p (parent q) (meet parent fuel p (parent q)))
          → (q < p → Context parent (parent p) q (meet parent fuel (parent p) q)) → Context parent p q (meet parent (suc fuel) p q)
      pick true t e f right left = rw (e, meet) (context_prefix (same (eqb-true p q e)))
      pick false true e f right left = let l : p < q = ltb→lt p q (rw f tt) in rw (e, f, meet) (context_climb l (right l))
      pick false false e f right left =
          let l : q < p = omega (arith, nltb→le p q (rw f tt), eqb-false p q e) in
          rw (e, f, meet) (context_sym (context_climb l (context_sym (left l))))

  -- the computed context is the context
  pub context_of_context : (p q : ℕ) → Context parent p q (context_of parent p q)
  unfolding context_of
  context_of_context p q = meet_context (p + q) p q (omega arith)

  -- whatever is the context is the computed one
  pub context_is : {p q c : ℕ} → Context parent p q c → context_of parent p q ≡ c
  context_is {p} {q} x = context_unique (context_of_context p q) x

  -- the computed context of a path with itself
  pub context_of_self : (p : ℕ) → context_of parent p p ≡ p
  context_of_self p = context_is (context_prefix (below_refl p))

  -- what climbing under c ends at, for x strictly below c
  record Child (c k x : ℕ) : Type 0 where
    parent_is : parent k ≡ c
    strictly : StrictlyBelow parent c k
    towards_it : Below parent k x

  climb_child : (c fuel x : ℕ) → x ≤ fuel → StrictlyBelow parent c x → Child c (climb_under parent c fuel x) x
  unfolding climb_under
  climb_child c zero x h s = absurd (omega (arith, strictly_lt s))
  climb_child c (suc fuel) x h s =
      pick (eqb (parent x) c) refl (climb_child c fuel (parent x) (parent_fuel x fuel h))
    where
      pick : (t : Bool) → eqb (parent x) c ≡ t
          → (StrictlyBelow parent c (parent x) → Child c (climb_under parent c fuel (parent x)) (parent x))
          → Child c (climb_under parent c (suc fuel) x) x
      pick true e again = rw (e, climb_under) (record { parent_is = eqb-true (parent x) c e; strictly = s; towards_it = below_refl x })
      pick false e again =
          let k = again (record { below = strictly_up s; other = λ p. eqb-false (parent x) c e (sym p) }) in
          rw (e, climb_under) (record { parent_is = k.parent_is; strictly = k.strictly; towards_it = up k.towards_it })

  -- the child path of c towards g has c as parent
  pub towards_parent : {c g : ℕ} → StrictlyBelow parent c g → parent (towards parent c g) ≡ c
  unfolding towards
  towards_parent {c} {g} s = (climb_child c g g (omega arith) s).parent_is

  -- it is strictly below c
  pub towards_strictly : {c g : ℕ} → StrictlyBelow parent c g → StrictlyBelow parent c (towards parent c g)
  unfolding towards
  towards_strictly {c} {g} s = (climb_child c g g (omega arith) s).strictly

  -- g is below it
  pub towards_below : {c g : ℕ} → StrictlyBelow parent c g → Below parent (towards parent c g) g
  unfolding towards
  towards_below {c} {g} s = (climb_child c g g (omega arith) s).towards_it

  -- what is above g and strictly below c is below the child path towards g
  pub towards_highest : {c g m : ℕ} → StrictlyBelow parent c m → Below parent m g → Below parent (towards parent c g) m
  towards_highest {c} {g} {m} s h = pick (below_comparable (towards_below t) h)
    where
      t : StrictlyBelow parent c g
      t = strictly_trans s h

      climbed : (m ≡ towards parent c g) ⊎ Below parent m (parent (towards parent c g)) → Below parent (towards parent c g) m
      climbed (inl e) = same (sym e)
      climbed (inr k) = absurd (s.other (below_antisym s.below (subst (λ (z : ℕ). Below parent m z) (towards_parent t) k)))

      pick : Below parent (towards parent c g) m ⊎ Below parent m (towards parent c g) → Below parent (towards parent c g) m
      pick (inl k) = k
      pick (inr k) = climbed (below_step k)

  -- it is the only child path of c that g is below
  pub towards_unique : {c g k : ℕ} → StrictlyBelow parent c k → parent k ≡ c → Below parent k g → k ≡ towards parent c g
  towards_unique {c} {g} {k} s e h = pick (below_step (towards_highest s h))
    where
      pick : (towards parent c g ≡ k) ⊎ Below parent (towards parent c g) (parent k) → k ≡ towards parent c g
      pick (inl p) = sym p
      pick (inr b) =
          let l : c < towards parent c g = strictly_lt (towards_strictly (strictly_trans s h)) in
          absurd (omega (arith, below_le b))

  climbs_root : (fuel : ℕ) → climbs parent fuel 0 ≡ 1
  unfolding climbs
  climbs_root zero = refl
  climbs_root (suc fuel) = refl

  climbs_suc : (fuel x : ℕ) → 0 < x → climbs parent (suc fuel) x ≡ suc (climbs parent fuel (parent x))
  unfolding climbs
  climbs_suc fuel x h = pick (eqb x 0) refl
    where
      pick : (t : Bool) → eqb x 0 ≡ t → climbs parent (suc fuel) x ≡ suc (climbs parent fuel (parent x))
      pick true e = absurd (omega (arith, eqb-true x 0 e))
      pick false e = rw (e, climbs)

  climbs_up : (n m x : ℕ) → climbs parent n (parent x) ≡ climbs parent m (parent x)
      → climbs parent (suc n) x ≡ climbs parent (suc m) x
  climbs_up n m zero e = climbs_root (suc n) ∙ sym (climbs_root (suc m))
  climbs_up n m (suc x) e = climbs_suc n (suc x) (omega arith) ∙ ap suc e ∙ sym (climbs_suc m (suc x) (omega arith))

  climbs_none : (n x : ℕ) → x ≤ 0 → climbs parent n x ≡ 1
  climbs_none n x h = let e : x ≡ 0 = omega arith in rw e (climbs_root n)

  climbs_fuel : (n m x : ℕ) → x ≤ n → x ≤ m → climbs parent n x ≡ climbs parent m x
  climbs_fuel zero m x h k = climbs_none 0 x h ∙ sym (climbs_none m x h)
  climbs_fuel (suc n) zero x h k = climbs_none (suc n) x k ∙ sym (climbs_none 0 x k)
  climbs_fuel (suc n) (suc m) x h k = climbs_up n m x (climbs_fuel n m (parent x) (parent_fuel x n h) (parent_fuel x m k))

  -- the root has depth 1
  pub depth_root : depth_of parent 0 ≡ 1
  unfolding depth_of
  depth_root = climbs_root 0

  -- every other path is one deeper than its parent
  pub depth_child : (x : ℕ) → 0 < x → depth_of parent x ≡ suc (depth_of parent (parent x))
  unfolding depth_of
  depth_child x h =
      climbs_fuel x (suc x) x (omega arith) (omega arith)
      ∙ climbs_suc x x h
      ∙ ap suc (climbs_fuel x (parent x) (parent x) (parent_le x) (omega arith))

  -- what is below c is at least as deep
  pub depth_below : {c x : ℕ} → Below parent c x → depth_of parent c ≤ depth_of parent x
  depth_below {c} (same e) = rw (← e) (omega arith)
  depth_below (up {x = zero} h) = rw desc.root at (depth_below h)
  depth_below (up {x = suc x} h) = omega (arith, depth_below h, depth_child (suc x) (omega arith))

  -- what is strictly below c is deeper
  pub depth_strictly : {c x : ℕ} → StrictlyBelow parent c x → depth_of parent c < depth_of parent x
  depth_strictly {c} {x} s =
      let l : c < x = strictly_lt s in
      omega (arith, depth_below (strictly_up s), depth_child x (omega arith))

  -- of a path's prefixes each has its own depth
  pub prefix_depth : {c d x : ℕ} → Below parent c x → Below parent d x → depth_of parent c ≡ depth_of parent d → c ≡ d
  prefix_depth {c} {d} a b e = pick (below_comparable a b)
    where
      strict : {x y : ℕ} → depth_of parent x ≡ depth_of parent y → (x ≡ y) ⊎ StrictlyBelow parent x y → x ≡ y
      strict e (inl p) = p
      strict e (inr s) = absurd (omega (arith, depth_strictly s))

      pick : Below parent c d ⊎ Below parent d c → c ≡ d
      pick (inl k) = strict e (below_strictly k)
      pick (inr k) = sym (strict (sym e) (below_strictly k))

-- what is computed by climbing is the depth of 01, and no other number is
module _ (ps : List Path) (desc : Descending (parent_in ps)) where
  depth_only : {x d : ℕ} → Depth ps x d → d ≡ depth_of (parent_in ps) x
  depth_only root = sym (depth_root desc)
  depth_only (under {x} h r) = ap suc (depth_only r) ∙ sym (depth_child desc x h)

  depth_within : (fuel x : ℕ) → x < fuel → Depth ps x (depth_of (parent_in ps) x)
  depth_within zero x h = absurd (omega arith)
  depth_within (suc fuel) zero h = subst (Depth ps 0) (sym (depth_root desc)) root
  depth_within (suc fuel) (suc x) h =
      let s : parent_in ps (suc x) < suc x = desc.smaller (suc x) (omega arith) in
      subst (Depth ps (suc x)) (sym (depth_child desc (suc x) (omega arith)))
      (under {x = suc x} (omega arith) (depth_within fuel (parent_in ps (suc x)) (omega arith)))

  pub depth_exactly : (x d : ℕ) → Depth ps x d ↔ (d ≡ depth_of (parent_in ps) x)
  depth_exactly x d = (depth_only, λ e. rw e (depth_within (suc x) x (omega arith)))
