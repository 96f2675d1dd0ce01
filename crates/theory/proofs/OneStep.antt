-- The single step on words: a path is in `one_step` of a set exactly if it was in it or some step leads to it from a member.
use Prim.Native.Nat.{ℕ, zero, suc, ◌+◌, ◌*◌, ◌^◌, ◌≤◌, ◌<◌}
use mathlib.Core.Path.{◌≡◌, refl, sym, ap, ◌∙◌}
use mathlib.Core.Logic.{◌⊎◌, inl, inr}
use mathlib.Core.Bool.{Bool, true, false, ◌&&◌, and-eq-true_iff}
use mathlib.Core.List.{List, [], ◌∷◌}
use native.Mathlib.Omega.{arith}
use native.Mathlib.Nat.{le_refl, le_trans, eq-zero-or-pos}
use native.Mathlib.Decide.{ℕ_discrete}
use lib.Dec.{eqb}
use borrow.Author.Tests.{eqb-true}
use Rattle.files.specs.Table.{Rule, Numbered, first, later}
use Rattle.files.specs.Sets.{Has, hasb}
use Rattle.files.proofs.SetBits.{has_with, has_under, hasb_true, hasb_has, with_ge, with_lt}
use Rattle.theory.proofs.Walks.{numbered_lt}
use Rattle.theory.specs.Walk.{Step, climb, along, against}
use Rattle.theory.specs.Reachable.{
  Way,
  onward,
  backward,
  tail,
  tip,
  foot,
  head,
  goes_along,
  goes_against,
  carry,
  by_rule,
  by_rules,
  by_climbs,
  one_step,
}

-- y is within, and an edge leads to it from a member of s
pub record Led (within s : ℕ) (Edge : ℕ → ℕ → Type 0) (y : ℕ) : Type 0 where
  pub start : ℕ
  pub member : Has s start
  pub inside : Has within y
  pub edge : Edge start y

-- the function adds to a set exactly what the edges lead to from s
pub record Joins (within s : ℕ) (f : ℕ → ℕ) (Edge : ℕ → ℕ → Type 0) : Type 0 where
  pub either : (w y : ℕ) → Has (f w) y → Has w y ⊎ Led within s Edge y
  pub keeps : (w y : ℕ) → Has w y → Has (f w) y
  pub adds : (w y : ℕ) → Led within s Edge y → Has (f w) y
  pub grows : (w : ℕ) → w ≤ f w
  pub small : (w : ℕ) → w < 2 ^ 64 → f w < 2 ^ 64

module _ {within s : ℕ} where
  -- nothing is added by no edge
  joins_none : Joins within s (λ w. w) (λ x y. ⊥)
  joins_none = record {
    either = λ w y h. inl h;
    keeps = λ w y h. h;
    adds = λ w y l. absurd l.edge;
    grows = λ w. le_refl w;
    small = λ w h. h;
  }

  -- one after the other
  joins_both : {f g : ℕ → ℕ} {E F : ℕ → ℕ → Type 0} → Joins within s f E → Joins within s g F
      → Joins within s (λ w. g (f w)) (λ x y. E x y ⊎ F x y)
  joins_both {f} {g} {E} {F} a b = record {
    either = λ w y h. later_one w y (b.either (f w) y h);
    keeps = λ w y h. b.keeps (f w) y (a.keeps w y h);
    adds = λ w y l. side w y l l.edge;
    grows = λ w. le_trans (a.grows w) (b.grows (f w));
    small = λ w h. b.small (f w) (a.small w h);
  }
    where
      first_one : (w y : ℕ) → Has w y ⊎ Led within s E y → Has w y ⊎ Led within s (λ x y. E x y ⊎ F x y) y
      first_one w y (inl h) = inl h
      first_one w y (inr l) = inr (record { start = l.start; member = l.member; inside = l.inside; edge = inl l.edge })

      later_one : (w y : ℕ) → Has (f w) y ⊎ Led within s F y → Has w y ⊎ Led within s (λ x y. E x y ⊎ F x y) y
      later_one w y (inl h) = first_one w y (a.either w y h)
      later_one w y (inr l) = inr (record { start = l.start; member = l.member; inside = l.inside; edge = inr l.edge })

      side : (w y : ℕ) (l : Led within s (λ x y. E x y ⊎ F x y) y) → E l.start y ⊎ F l.start y → Has (g (f w)) y
      side w y l (inl e) =
          b.keeps (f w) y (a.adds w y (record { start = l.start; member = l.member; inside = l.inside; edge = e }))
      side w y l (inr e) = b.adds (f w) y (record { start = l.start; member = l.member; inside = l.inside; edge = e })

  -- the same edges, said in another way
  joins_as : {f : ℕ → ℕ} {E F : ℕ → ℕ → Type 0} → ((x y : ℕ) → E x y → F x y) → ((x y : ℕ) → F x y → E x y)
      → Joins within s f E → Joins within s f F
  joins_as {f} {E} {F} to back a = record {
    either = λ w y h. said w y (a.either w y h);
    keeps = a.keeps;
    adds = λ w y l.
        a.adds w y (record { start = l.start; member = l.member; inside = l.inside; edge = back l.start y l.edge });
    grows = a.grows;
    small = a.small;
  }
    where
      said : (w y : ℕ) → Has w y ⊎ Led within s E y → Has w y ⊎ Led within s F y
      said w y (inl h) = inl h
      said w y (inr l) = inr (record { start = l.start; member = l.member; inside = l.inside; edge = to l.start y l.edge })

-- one edge, where a test passes
pub record Single (test : Bool) (a b x y : ℕ) : Type 0 where
  passes : test ≡ true
  starts : a ≡ x
  ends : b ≡ y

-- what `carry` waits for
record Open (within s : ℕ) (test : Bool) (a b : ℕ) : Type 0 where
  passes : test ≡ true
  member : Has s a
  inside : Has within b
  low : b < 64

module _ {within s : ℕ} (fits : within < 2 ^ 64) (test : Bool) (a b : ℕ) where
  open_of : (test && hasb s a && hasb within b) ≡ true → Open within s test a b
  open_of e =
      let p = (and-eq-true_iff (test && hasb s a) (hasb within b)).0 e in
      let q = (and-eq-true_iff test (hasb s a)).0 p.0 in
      let i : Has within b = hasb_true within b p.1 in
      record { passes = q.0; member = hasb_true s a q.1; inside = i; low = has_under within 64 b fits i }

  carry_joins : Joins within s (carry test within s a b) (Single test a b)
  unfolding carry
  carry_joins = record {
    either = λ w y h. either_of w y (test && hasb s a && hasb within b) refl h;
    keeps = λ w y h. kept w y (test && hasb s a && hasb within b) refl h;
    adds = λ w y l. added w y l;
    grows = λ w. grown w (test && hasb s a && hasb within b) refl;
    small = λ w h. below w h (test && hasb s a && hasb within b) refl;
  }
    where
      new : (w y : ℕ) → Open within s test a b → (y ≡ b) ⊎ Has w y → Has w y ⊎ Led within s (Single test a b) y
      new w y o (inl e) =
          let one : Single test a b a y = record { passes = o.passes; starts = refl; ends = sym e } in
          inr (record { start = a; member = o.member; inside = rw e o.inside; edge = one })
      new w y o (inr h) = inl h

      either_of : (w y : ℕ) (t : Bool) → (test && hasb s a && hasb within b) ≡ t → Has (carry test within s a b w) y
          → Has w y ⊎ Led within s (Single test a b) y
      either_of w y true e h = new w y (open_of e) ((has_with w b y (open_of e).low).0 (rw (carry, e) at h))
      either_of w y false e h = inl (rw (carry, e) at h)

      kept : (w y : ℕ) (t : Bool) → (test && hasb s a && hasb within b) ≡ t → Has w y → Has (carry test within s a b w) y
      kept w y true e h = rw (carry, e) ((has_with w b y (open_of e).low).1 (inr h))
      kept w y false e h = rw (carry, e) h

      added : (w y : ℕ) → Led within s (Single test a b) y → Has (carry test within s a b w) y
      added w y l =
          let m : hasb s a ≡ true = hasb_has s a (rw (← l.edge.starts) at l.member) in
          let i : Has within b = rw (← l.edge.ends) at l.inside in
          rw (carry, l.edge.passes, m, hasb_has within b i)
          ((has_with w b y (has_under within 64 b fits i)).1 (inl (sym l.edge.ends)))

      grown : (w : ℕ) (t : Bool) → (test && hasb s a && hasb within b) ≡ t → w ≤ carry test within s a b w
      grown w true e = rw (carry, e) (with_ge w b)
      grown w false e = rw (carry, e) (le_refl w)

      below : (w : ℕ) → w < 2 ^ 64 → (t : Bool) → (test && hasb s a && hasb within b) ≡ t → carry test within s a b w < 2 ^ 64
      below w h true e = rw (carry, e) (with_lt w b h)
      below w h false e = rw (carry, e) h

-- a rule of the list leads from x to y
pub record Turned (way : Way) (rules : List Rule) (x y : ℕ) : Type 0 where
  r : ℕ
  ru : Rule
  rule : Numbered rules r ru
  turn : Single (goes_along ru) (tail way ru) (tip way ru) x y ⊎ Single (goes_against ru) (tip way ru) (tail way ru) x y

-- a climb from a path below n leads from x to y
pub record Climbed (way : Way) (parent : ℕ → ℕ) (n x y : ℕ) : Type 0 where
  low : ℕ
  under : low < n
  starts : foot way parent low ≡ x
  ends : head way parent low ≡ y

module _ {within s : ℕ} (fits : within < 2 ^ 64) (way : Way) where
  pub rules_join : (rules : List Rule) → Joins within s (by_rules way within s rules) (Turned way rules)
  unfolding by_rules by_rule
  rules_join [] = joins_as (λ x y e. absurd e) (λ x y t. let l : t.r < 0 = numbered_lt t.rule in omega arith) joins_none
  rules_join (ru ∷ rest) =
      joins_as to back
      (joins_both (joins_both (carry_joins fits (goes_along ru) (tail way ru) (tip way ru))
      (carry_joins fits (goes_against ru) (tip way ru) (tail way ru))) (rules_join rest))
    where
      Own : ℕ → ℕ → Type 0
      Own x y = Single (goes_along ru) (tail way ru) (tip way ru) x y ⊎ Single (goes_against ru) (tip way ru) (tail way ru) x y

      to : (x y : ℕ) → Own x y ⊎ Turned way rest x y → Turned way (ru ∷ rest) x y
      to x y (inl t) = record { r = 0; ru = ru; rule = first; turn = t }
      to x y (inr t) = record { r = suc t.r; ru = t.ru; rule = later t.rule; turn = t.turn }

      split : {r : ℕ} {u : Rule} (x y : ℕ) → Numbered (ru ∷ rest) r u
          → Single (goes_along u) (tail way u) (tip way u) x y ⊎ Single (goes_against u) (tip way u) (tail way u) x y
          → Own x y ⊎ Turned way rest x y
      split x y first t = inl t
      split x y (later {ru = u} {r = r} n) t = inr (record { r = r; ru = u; rule = n; turn = t })

      back : (x y : ℕ) → Turned way (ru ∷ rest) x y → Own x y ⊎ Turned way rest x y
      back x y t = split x y t.rule t.turn

  pub climbs_join : (parent : ℕ → ℕ) (n : ℕ) → Joins within s (by_climbs way parent within s n) (Climbed way parent n)
  unfolding by_climbs
  climbs_join parent zero = joins_as (λ x y e. absurd e) (λ x y t. let l = t.under in omega arith) joins_none
  climbs_join parent (suc n) =
      joins_as to back (joins_both (carry_joins fits true (foot way parent n) (head way parent n)) (climbs_join parent n))
    where
      to : (x y : ℕ) → Single true (foot way parent n) (head way parent n) x y ⊎ Climbed way parent n x y → Climbed way parent (suc n) x y
      to x y (inl e) = record { low = n; under = omega arith; starts = e.starts; ends = e.ends }
      to x y (inr c) = record { low = c.low; under = omega (arith, c.under); starts = c.starts; ends = c.ends }

      back : (x y : ℕ) → Climbed way parent (suc n) x y → Single true (foot way parent n) (head way parent n) x y ⊎ Climbed way parent n x y
      back x y c = pick (ℕ_discrete c.low n)
        where
          pick : Dec (c.low ≡ n) → Single true (foot way parent n) (head way parent n) x y ⊎ Climbed way parent n x y
          pick (yes e) = inl (record { passes = refl; starts = rw e at c.starts; ends = rw e at c.ends })
          pick (no d) = inr (record { low = c.low; under = omega (arith, c.under); starts = c.starts; ends = c.ends })

-- a step from x to y with some code, or back from its end x to its start y
pub data Stepped (parent : ℕ → ℕ) (rules : List Rule) (x y : ℕ) : Way → Type 0 where
  ahead : (code : ℕ) → Step parent rules x code y → Stepped parent rules x y onward
  behind : (code : ℕ) → Step parent rules y code x → Stepped parent rules x y backward

pub along_kind : (ru : Rule) → goes_along ru ≡ true → (ru.kind ≡ 1) ⊎ (ru.kind ≡ 3)
unfolding goes_along
along_kind ru h = pick (eqb ru.kind 1) refl
  where
    pick : (b : Bool) → eqb ru.kind 1 ≡ b → (ru.kind ≡ 1) ⊎ (ru.kind ≡ 3)
    pick true e = inl (eqb-true ru.kind 1 e)
    pick false e = inr (eqb-true ru.kind 3 (rw e at h))

pub kind_along : (ru : Rule) → (ru.kind ≡ 1) ⊎ (ru.kind ≡ 3) → goes_along ru ≡ true
unfolding goes_along
kind_along ru (inl e) = rw e refl
kind_along ru (inr e) = rw e refl

pub against_kind : (ru : Rule) → goes_against ru ≡ true → ru.kind ≡ 3
unfolding goes_against
against_kind ru h = eqb-true ru.kind 3 h

pub kind_against : (ru : Rule) → ru.kind ≡ 3 → goes_against ru ≡ true
unfolding goes_against
kind_against ru e = rw e refl

module _ {parent : ℕ → ℕ} {rules : List Rule} {x y : ℕ} where
  turned_step : (way : Way) → Turned way rules x y → Stepped parent rules x y way
  unfolding tail tip
  turned_step onward t = pick t.turn
    where
      pick : Single (goes_along t.ru) t.ru.left t.ru.right x y ⊎ Single (goes_against t.ru) t.ru.right t.ru.left x y
          → Stepped parent rules x y onward
      pick (inl e) = ahead (2 * t.r + 1) (along t.r t.ru t.rule (along_kind t.ru e.passes) refl e.starts e.ends)
      pick (inr e) = ahead (2 * t.r + 2) (against t.r t.ru t.rule (against_kind t.ru e.passes) refl e.starts e.ends)
  turned_step backward t = pick t.turn
    where
      pick : Single (goes_along t.ru) t.ru.right t.ru.left x y ⊎ Single (goes_against t.ru) t.ru.left t.ru.right x y
          → Stepped parent rules x y backward
      pick (inl e) = behind (2 * t.r + 1) (along t.r t.ru t.rule (along_kind t.ru e.passes) refl e.ends e.starts)
      pick (inr e) = behind (2 * t.r + 2) (against t.r t.ru t.rule (against_kind t.ru e.passes) refl e.ends e.starts)

  -- the climb of a step is one from a path below count
  step_edge : {count : ℕ} (way : Way) → x < count → y < count → Stepped parent rules x y way
      → Climbed way parent count x y ⊎ Turned way rules x y
  unfolding tail tip foot head
  step_edge onward h k (ahead code (climb z e p)) = inl (record { low = x; under = h; starts = refl; ends = p })
  step_edge onward h k (ahead code (along r ru n g e a b)) =
      inr (record { r = r; ru = ru; rule = n; turn = inl (record { passes = kind_along ru g; starts = a; ends = b }) })
  step_edge onward h k (ahead code (against r ru n g e a b)) =
      inr (record { r = r; ru = ru; rule = n; turn = inr (record { passes = kind_against ru g; starts = a; ends = b }) })
  step_edge backward h k (behind code (climb z e p)) = inl (record { low = y; under = k; starts = p; ends = refl })
  step_edge backward h k (behind code (along r ru n g e a b)) =
      inr (record { r = r; ru = ru; rule = n; turn = inl (record { passes = kind_along ru g; starts = b; ends = a }) })
  step_edge backward h k (behind code (against r ru n g e a b)) =
      inr (record { r = r; ru = ru; rule = n; turn = inr (record { passes = kind_against ru g; starts = b; ends = a }) })

  -- a climb is a step, or stays at the root
  climbed_step : {count : ℕ} (way : Way) → parent 0 ≡ 0 → Climbed way parent count x y
      → Stepped parent rules x y way ⊎ (x ≡ y)
  unfolding foot head
  climbed_step onward root c = pick (eq-zero-or-pos c.low)
    where
      pick : (c.low ≡ 0) ⊎ (0 < c.low) → Stepped parent rules x y onward ⊎ (x ≡ y)
      pick (inl e) = inr (sym c.starts ∙ e ∙ sym root ∙ ap parent (sym e) ∙ c.ends)
      pick (inr h) = inl (ahead 0 (climb (rw c.starts at h) refl (rw c.starts at c.ends)))
  climbed_step backward root c = pick (eq-zero-or-pos c.low)
    where
      pick : (c.low ≡ 0) ⊎ (0 < c.low) → Stepped parent rules x y backward ⊎ (x ≡ y)
      pick (inl e) = inr (sym c.starts ∙ ap parent e ∙ root ∙ sym e ∙ c.ends)
      pick (inr h) = inl (behind 0 (climb (rw c.ends at h) refl (rw c.ends at c.starts)))

-- the law of the single step: what joins a set within a table of `count` paths is exactly what a step leads to
pub record StepLaw (way : Way) (parent : ℕ → ℕ) (rules : List Rule) (count within s : ℕ) : Type 0 where
  pub either : (y : ℕ) → Has (one_step way parent rules count within s) y
      → Has s y ⊎ Led within s (λ x y. Stepped parent rules x y way) y
  pub keeps : (y : ℕ) → Has s y → Has (one_step way parent rules count within s) y
  pub adds : (y : ℕ) → Led within s (λ x y. Stepped parent rules x y way) y → Has (one_step way parent rules count within s) y
  pub grows : s ≤ one_step way parent rules count within s
  pub small : s < 2 ^ 64 → one_step way parent rules count within s < 2 ^ 64

pub onestep_law : (way : Way) (parent : ℕ → ℕ) (rules : List Rule) (count within s : ℕ) → parent 0 ≡ 0 → within < 2 ^ 64
    → ((x : ℕ) → Has within x → x < count) → ((x : ℕ) → Has s x → x < count) → StepLaw way parent rules count within s
unfolding one_step
onestep_law way parent rules count within s root fits inside members =
    let j = joins_both (climbs_join {s = s} fits way parent count) (rules_join fits way rules) in
    record {
      either = λ y h. found y (j.either s y h);
      keeps = λ y h. j.keeps s y h;
      adds = λ y l.
          j.adds s y (record {
            start = l.start;
            member = l.member;
            inside = l.inside;
            edge = step_edge way (members l.start l.member) (inside y l.inside) l.edge;
          });
      grows = j.grows s;
      small = j.small s;
    }
  where
    Stepped' : ℕ → ℕ → Type 0
    Stepped' x y = Stepped parent rules x y way

    Edges : ℕ → ℕ → Type 0
    Edges x y = Climbed way parent count x y ⊎ Turned way rules x y

    by_climb : (y : ℕ) (l : Led within s Edges y) → Stepped' l.start y ⊎ (l.start ≡ y) → Has s y ⊎ Led within s Stepped' y
    by_climb y l (inl e) = inr (record { start = l.start; member = l.member; inside = l.inside; edge = e })
    by_climb y l (inr e) = inl (rw e at l.member)

    edge_of : (y : ℕ) (l : Led within s Edges y) → Edges l.start y → Has s y ⊎ Led within s Stepped' y
    edge_of y l (inl c) = by_climb y l (climbed_step way root c)
    edge_of y l (inr t) =
        inr (record { start = l.start; member = l.member; inside = l.inside; edge = turned_step way t })

    found : (y : ℕ) → Has s y ⊎ Led within s Edges y → Has s y ⊎ Led within s Stepped' y
    found y (inl h) = inl h
    found y (inr l) = edge_of y l l.edge
