-- Laws of the test behind refusal 12, in the words of the code.
use Prim.Native.Nat.{ℕ, zero, suc, ◌+◌, ◌-◌, ◌^◌, ◌<◌, ◌≤◌}
use mathlib.Core.Path.{◌≡◌, refl, sym, ap, ◌∙◌}
use mathlib.Core.Bool.{Bool, true, false, not, false≢true}
use mathlib.Core.List.{List, [], ◌∷◌, ◌++◌}
use mathlib.Core.Logic.{◌⊎◌, inl, inr, ⊎_elim}
use native.Mathlib.Omega.{arith}
use lib.ListN.{length, get_or, set, replicate}
use lib.Dec.{ltb, eqb}
use borrow.Author.Tests.{eqb-true, eqb-false, eq-eqb, ne_eqb, lt-ltb, le-ltb, ltb-true, ltb-false, not-true, not-false}
use Rattle.std.specs.Prelude.{Result}
use Rattle.std.specs.Result.{is_err}
use Rattle.files.specs.declared.kind.Kind.{Kind}
use Rattle.files.specs.declared.kind.UnknownKind.{UnknownKind}
use Rattle.files.specs.declared.rules.Rules.{Rules}
use Rattle.files.specs.Kinds.{kind_in}
use Rattle.files.specs.Number.{limit}
use Rattle.files.specs.RuleFile.{between, deeper, depths, parent_test, label_test}
use Rattle.files.specs.Rules.{paths_from, rules_from, padded}
use Rattle.files.specs.Sets.{common, difference, below_all}
use Rattle.files.specs.Table.{Path}
use Rattle.files.specs.TableTest.{path_passes, passing_depth, paths_pass, rule_at, rule_passes, rules_pass, required_pass, paths_valid, rules_valid, table_passes}
use Rattle.files.proofs.Collect.{rules_step}
use Rattle.files.proofs.Padded.{padded_get, padded_store}
use Rattle.files.proofs.PathTests.{between_low, between_past, between_in, paths_step, paths_own, parent_padded, parent_below, parent_shallow}
use Rattle.files.proofs.Depths.{depths_snoc, depths_length}

-- ---- one path

-- path number x, as the arrays have it
abbrev path_at : List ℕ → List ℕ → ℕ → Path
path_at parent label x = record { parent = get_or parent x 0; label = get_or label x 0 }

module _ (parent label depth : List ℕ) (own p w : ℕ) (least : 1 ≤ own)
    (known : depth ≡ padded 64 (depths (paths_from parent label 1 (own - 1))))
    (is : p ≡ get_or parent own 0) (tested : w ≡ parent_test depth own p) where
  ps : List Path
  ps = paths_from parent label 1 (own - 1)

  -- the test of the parent among the paths so far
  same_test : parent_test (depths ps) (1 + length ps) (get_or parent own 0) ≡ w
  unfolding ps
  same_test =
      ap (parent_test (depths ps) (1 + length ps)) (sym is)
      ∙ parent_padded ps depth own p known (paths_own parent label own least)
      ∙ sym tested

  pub depth_parent : (w ≡ 0 → ⊥) → 0 ≡ passing_depth (paths_from parent label 1 (own - 1)) (get_or parent own 0) (get_or label own 0)
  unfolding passing_depth path_passes ps
  depth_parent h = rw (same_test, ne_eqb w 0 h)

  module _ (v : ℕ) (small : w ≡ 0) (again : v ≡ label_test (paths_from parent label 1 (own - 1)) p (get_or label own 0)) where
    same_label : label_test ps (get_or parent own 0) (get_or label own 0) ≡ v
    unfolding ps
    same_label = ap (λ (q : ℕ). label_test (paths_from parent label 1 (own - 1)) q (get_or label own 0)) (sym is) ∙ sym again

    none : eqb w 0 ≡ true
    none = eq-eqb w 0 small

    pub depth_repeats : (v ≡ 0 → ⊥) → 0 ≡ passing_depth (paths_from parent label 1 (own - 1)) (get_or parent own 0) (get_or label own 0)
    unfolding passing_depth path_passes ps
    depth_repeats h = rw (same_test, none, same_label, ne_eqb v 0 h)

    pub depth_label : v ≡ 0 → 16384 ≤ get_or label own 0
        → 0 ≡ passing_depth (paths_from parent label 1 (own - 1)) (get_or parent own 0) (get_or label own 0)
    unfolding passing_depth path_passes ps
    depth_label e h = rw (same_test, none, same_label, eq-eqb v 0 e, le-ltb (get_or label own 0) limit h)

    pub depth_passes : v ≡ 0 → get_or label own 0 < 16384
        → get_or depth p 0 + 1 ≡ passing_depth (paths_from parent label 1 (own - 1)) (get_or parent own 0) (get_or label own 0)
    unfolding passing_depth path_passes ps
    depth_passes e h =
        let same : get_or depth p 0 ≡ get_or (depths ps) (get_or parent own 0) 0 =
        rw (is, known) (padded_get 64 (depths ps) (get_or parent own 0)) in
        rw (same_test, none, same_label, eq-eqb v 0 e, lt-ltb (get_or label own 0) limit h, same) (omega arith)

module _ (depth : List ℕ) (own p w : ℕ) (tested : w ≡ parent_test depth own p) (small : w ≡ 0) where
  pub parent_inside : own ≤ 64 → p < 64
  parent_inside h = omega (arith, parent_below depth own p w tested (omega arith))

  pub parent_deeper : get_or depth p 0 + 1 < 2 ^ 8
  parent_deeper = omega (arith, parent_shallow depth own p w tested (omega arith))

pub ruleset depth_laws = (depth_parent, depth_repeats, depth_label, depth_passes, parent_inside, parent_deeper)

-- ---- all paths

paths_snoc : (parent label : List ℕ) (x k : ℕ)
    → paths_from parent label x (suc k) ≡ paths_from parent label x k ++ (path_at parent label (x + k) ∷ [])
unfolding paths_from
paths_snoc parent label x zero = let e : x + 0 ≡ x = omega arith in rw e
paths_snoc parent label x (suc k) =
    let e : x + 1 + k ≡ x + suc k = omega arith in
    ap (λ (ps : List Path). path_at parent label x ∷ ps) (paths_snoc parent label (x + 1) k ∙ rw e)

-- one path more
paths_grow : (parent label : List ℕ) (own : ℕ) → 1 ≤ own
    → paths_from parent label 1 (own + 1 - 1) ≡ paths_from parent label 1 (own - 1) ++ (path_at parent label own ∷ [])
paths_grow parent label own h =
    let e : own + 1 - 1 ≡ suc (own - 1) = omega arith in
    let f : 1 + (own - 1) ≡ own = omega arith in
    ap (paths_from parent label 1) e
    ∙ paths_snoc parent label 1 (own - 1)
    ∙ ap (λ (k : ℕ). paths_from parent label 1 (own - 1) ++ (path_at parent label k ∷ [])) f

pub pass_start : (parent label : List ℕ) (count : ℕ)
    → paths_pass (paths_from parent label 1 (1 - 1)) (paths_from parent label 1 (count - 1))
    ≡ paths_pass [] (paths_from parent label 1 (count - 1))
unfolding paths_from
pass_start parent label count = refl

pub pass_depths : (parent label : List ℕ) → set (replicate 64 0) 0 1 ≡ padded 64 (depths (paths_from parent label 1 (1 - 1)))
unfolding paths_from depths deeper padded
pass_depths parent label = refl

-- whether a path passes, by its depth
passes_by : (ps : List Path) (p l d : ℕ) → d ≡ passing_depth ps p l
    → ((d ≡ 0) × (path_passes ps (record { parent = p; label = l }) ≡ false))
    ⊎ ((d ≡ 1 + get_or (depths ps) p 0) × (path_passes ps (record { parent = p; label = l }) ≡ true))
unfolding passing_depth
passes_by ps p l d e = by (path_passes ps (record { parent = p; label = l })) refl
  where
    by : (t : Bool) → path_passes ps (record { parent = p; label = l }) ≡ t
        → ((d ≡ 0) × (path_passes ps (record { parent = p; label = l }) ≡ false))
        ⊎ ((d ≡ 1 + get_or (depths ps) p 0) × (path_passes ps (record { parent = p; label = l }) ≡ true))
    by true f = inr (e ∙ rw f, f)
    by false f = inl (e ∙ rw f, f)

module _ (ps : List Path) (p l d : ℕ) (e : d ≡ passing_depth ps p l) where
  passes_not : d ≡ 0 → path_passes ps (record { parent = p; label = l }) ≡ false
  passes_not h = ⊎_elim (λ w. w.1) (λ w. absurd (omega (arith, w.0))) (passes_by ps p l d e)

  passes_at : (d ≡ 0 → ⊥) → (d ≡ 1 + get_or (depths ps) p 0) × (path_passes ps (record { parent = p; label = l }) ≡ true)
  passes_at h = ⊎_elim (λ w. absurd (h w.0)) (λ w. w) (passes_by ps p l d e)

module _ (parent label : List ℕ) (own d : ℕ) (least : 1 ≤ own)
    (is : d ≡ passing_depth (paths_from parent label 1 (own - 1)) (get_or parent own 0) (get_or label own 0)) where
  module _ (count : ℕ) (more : own < count) (w : Bool)
      (inv : paths_pass (paths_from parent label 1 (own - 1)) (paths_from parent label own (count - own)) ≡ w) where
    pub pass_stop : d ≡ 0 → false ≡ w
    unfolding paths_pass
    pass_stop h = rw (paths_step parent label own count more, passes_not _ _ _ d is h) at inv

    pub pass_on : (d ≡ 0 → ⊥)
        → paths_pass (paths_from parent label 1 (own + 1 - 1)) (paths_from parent label (own + 1) (count - (own + 1))) ≡ w
    unfolding paths_pass
    pass_on h = rw (paths_grow parent label own least) (rw (paths_step parent label own count more, (passes_at _ _ _ d is h).1) at inv)

  pub pass_deeper : (depth : List ℕ) (count : ℕ) → (d ≡ 0 → ⊥) → depth ≡ padded 64 (depths (paths_from parent label 1 (own - 1)))
      → own < count → count ≤ 64 → set depth own d ≡ padded 64 (depths (paths_from parent label 1 (own + 1 - 1)))
  pass_deeper depth count h known more most =
      let ps : List Path = paths_from parent label 1 (own - 1) in
      rw (known, (passes_at ps _ _ d is h).0)
      (padded_store 64 (depths ps) own _ (depths_length ps ∙ paths_own parent label own least) (omega arith)
      ∙ ap (padded 64) (sym (depths_snoc ps (path_at parent label own)))
      ∙ ap (λ (qs : List Path). padded 64 (depths qs)) (sym (paths_grow parent label own least)))

pub pass_end : (parent label : List ℕ) (own count : ℕ) (ps : List Path) (w : Bool)
    → paths_pass ps (paths_from parent label own (count - own)) ≡ w → count ≤ own → true ≡ w
unfolding paths_pass paths_from
pass_end parent label own count ps w inv h = rw (let e : count - own ≡ 0 = omega arith in e) at inv

pub ruleset pass_laws = (pass_start, pass_depths, pass_stop, pass_on, pass_deeper, pass_end)

module _ (parent label : List ℕ) (count : ℕ) where
  pub paths_few : count < 1 → false ≡ paths_valid parent label count
  unfolding paths_valid
  paths_few h = rw (between_low 1 65 3 count h)

  pub paths_many : 64 < count → false ≡ paths_valid parent label count
  unfolding paths_valid
  paths_many h = rw (between_past 1 65 3 count (omega arith) h)

  module _ (least : 1 ≤ count) (most : count ≤ 64) where
    within : between 1 65 3 count ≡ 0
    within = between_in 1 65 3 count least (omega arith)

    pub paths_root : 16384 ≤ get_or label 0 0 → false ≡ paths_valid parent label count
    unfolding paths_valid
    paths_root h = rw (within, le-ltb (get_or label 0 0) limit h)

    pub paths_all : (t : Bool) → get_or label 0 0 < 16384
        → t ≡ paths_pass [] (paths_from parent label 1 (count - 1)) → t ≡ paths_valid parent label count
    unfolding paths_valid
    paths_all t h e = rw (within, lt-ltb (get_or label 0 0) limit h) e

pub ruleset paths_valid_laws = (paths_few, paths_many, paths_root, paths_all)

-- ---- required paths

pub required_root : (count w a : ℕ) → a ≡ common w 1 → (a ≡ 0 → ⊥) → false ≡ required_pass count w
unfolding required_pass
required_root count w a e h = rw (← e, ne_eqb a 0 h)

pub required_in : (count w a b d : ℕ) → a ≡ common w 1 → a ≡ 0 → b ≡ below_all count → d ≡ difference w b → eqb d 0 ≡ required_pass count w
unfolding required_pass
required_in count w a b d e h f g = rw (← e, eq-eqb a 0 h, ← f, ← g)

pub ruleset required_laws = (required_root, required_in)

-- ---- rules

module _ (count : ℕ) (kind left right : List ℕ) (x : ℕ) where
  module _ (low : 1 ≤ get_or kind x 0) (high : get_or kind x 0 ≤ 3) (l : ℕ) (a : l ≡ get_or left x 0) where
    kind_in_lem : between 1 4 9 (get_or kind x 0) ≡ 0
    kind_in_lem = between_in 1 4 9 (get_or kind x 0) low (omega arith)

    pub rule_left_lem : count ≤ l → false ≡ rule_passes count (rule_at kind left right x)
    unfolding rule_passes
    rule_left_lem h = rw (kind_in_lem, ← a, between_past 0 count 10 l (omega arith) h)

    -- the same of the test that the code makes
    pub left_test : count ≤ l → ltb l count ≡ rule_passes count (rule_at kind left right x)
    left_test h = le-ltb l count h ∙ rule_left_lem h

    pub rule_right_lem : (r : ℕ) → l < count → r ≡ get_or right x 0 → ltb r count ≡ rule_passes count (rule_at kind left right x)
    unfolding rule_passes
    rule_right_lem r h b = rw (kind_in_lem, ← a, between_in 0 count 10 l (omega arith) h, ← b) (by (ltb r count) refl)
      where
        by : (t : Bool) → ltb r count ≡ t → ltb r count ≡ eqb (between 0 count 10 r) 0
        by true e = rw (between_in 0 count 10 r (omega arith) (ltb-true r count e)) e
        by false e = rw (between_past 0 count 10 r (omega arith) (ltb-false r count e)) e

-- a number that has a kind is 1, 2 or 3
kind_cases : (n : ℕ) → ((is_err (kind_in n) ≡ true) × (between 1 4 9 n ≡ 9)) ⊎ ((is_err (kind_in n) ≡ false) × ((1 ≤ n) × (n ≤ 3)))
kind_cases n = by (eqb n 1) refl (eqb n 2) refl (eqb n 3) refl
  where
    by : (a : Bool) → eqb n 1 ≡ a → (b : Bool) → eqb n 2 ≡ b → (d : Bool) → eqb n 3 ≡ d
        → ((is_err (kind_in n) ≡ true) × (between 1 4 9 n ≡ 9)) ⊎ ((is_err (kind_in n) ≡ false) × ((1 ≤ n) × (n ≤ 3)))
    by true f b g d h = inr (rw f refl, (let z : n ≡ 1 = eqb-true n 1 f in (omega arith, omega arith)))
    by false f true g d h = inr (rw (f, g) refl, (let z : n ≡ 2 = eqb-true n 2 g in (omega arith, omega arith)))
    by false f false g true h = inr (rw (f, g, h) refl, (let z : n ≡ 3 = eqb-true n 3 h in (omega arith, omega arith)))
    by false f false g false h =
        inl (
          rw (f, g, h) refl,
          (let a : n ≡ 1 → ⊥ = eqb-false n 1 f in
              let b : n ≡ 2 → ⊥ = eqb-false n 2 g in
              let d : n ≡ 3 → ⊥ = eqb-false n 3 h in
              ⊎_elim (λ (z : n < 1). between_low 1 4 9 n z) (λ (z : 4 ≤ n). between_past 1 4 9 n (omega arith) z) (outside a b d)),
        )
      where
        outside : (n ≡ 1 → ⊥) → (n ≡ 2 → ⊥) → (n ≡ 3 → ⊥) → (n < 1) ⊎ (4 ≤ n)
        outside a b d = at (ltb n 1) refl
          where
            at : (t : Bool) → ltb n 1 ≡ t → (n < 1) ⊎ (4 ≤ n)
            at true e = inl (ltb-true n 1 e)
            at false e = inr (let z : 1 ≤ n = ltb-false n 1 e in omega (arith, a, b, d))

module _ (n k : ℕ) (is : n ≡ k) (r : Result Kind UnknownKind) (read : r ≡ kind_in n) where
  module _ (known : is_err r ≡ false) where
    known_kind : (1 ≤ n) × (n ≤ 3)
    known_kind = ⊎_elim (λ z. absurd (false≢true (sym (rw read at known) ∙ z.0))) (λ z. z.1) (kind_cases n)

    pub kind_least : 1 ≤ k
    kind_least = omega (arith, known_kind.0)

    pub kind_most : k ≤ 3
    kind_most = omega (arith, known_kind.1)

  pub kind_unknown : (count : ℕ) (kind left right : List ℕ) (x : ℕ) → k ≡ get_or kind x 0 → is_err r ≡ true
      → false ≡ rule_passes count (rule_at kind left right x)
  unfolding rule_passes
  kind_unknown count kind left right x e known =
      let f : between 1 4 9 n ≡ 9 = ⊎_elim (λ z. z.1) (λ z. absurd (false≢true (sym z.0 ∙ rw read at known))) (kind_cases n) in
      rw (← e, ← is, f)

pub ruleset rule_laws = (left_test, rule_right_lem, kind_least, kind_most, kind_unknown)

pub all_start : (kind left right : List ℕ) (many count : ℕ)
    → rules_pass count (rules_from kind left right 0 (many - 0)) ≡ rules_pass count (rules_from kind left right 0 many)
all_start kind left right many count = rw (let e : many - 0 ≡ many = omega arith in e)

module _ (kind left right : List ℕ) (x many count : ℕ) (w : Bool) (inv : rules_pass count (rules_from kind left right x (many - x)) ≡ w) where
  module _ (t : Bool) (more : x < many) (is : t ≡ rule_passes count (rule_at kind left right x)) where
    pub all_stop : not t ≡ true → false ≡ w
    unfolding rules_pass
    all_stop e = rw (rules_step kind left right x many more, ← is, not-true t e) at inv

    pub all_on : not t ≡ false → rules_pass count (rules_from kind left right (x + 1) (many - (x + 1))) ≡ w
    unfolding rules_pass
    all_on e = rw (rules_step kind left right x many more, ← is, not-false t e) at inv

  pub all_end : many ≤ x → true ≡ w
  unfolding rules_pass rules_from
  all_end h = rw (let e : many - x ≡ 0 = omega arith in e) at inv

pub ruleset all_laws = (all_start, all_stop, all_on, all_end)

module _ (kind left right : List ℕ) (many count : ℕ) where
  pub rules_many : 256 < many → false ≡ rules_valid kind left right many count
  unfolding rules_valid
  rules_many h = rw (between_past 0 257 8 many (omega arith) h)

  pub rules_all : (t : Bool) → many ≤ 256
      → t ≡ rules_pass count (rules_from kind left right 0 many) → t ≡ rules_valid kind left right many count
  unfolding rules_valid
  rules_all t h e = rw (between_in 0 257 8 many (omega arith) (omega arith)) e

pub ruleset rules_valid_laws = (rules_many, rules_all)

-- ---- the table

module _ (t : Rules) (a : Bool) (f : a ≡ paths_valid t.parent t.label t.paths) where
  pub table_paths : not a ≡ true → false ≡ table_passes t
  unfolding table_passes
  table_paths h = rw (← f, not-true a h)

  module _ (b : Bool) (h : not a ≡ false) (g : b ≡ required_pass t.paths t.required) where
    pub table_required : not b ≡ true → false ≡ table_passes t
    unfolding table_passes
    table_required i = rw (← f, not-false a h, ← g, not-true b i)

    pub table_rules : (c : Bool) → not b ≡ false → c ≡ rules_valid t.kind t.left t.right t.rules t.paths → c ≡ table_passes t
    unfolding table_passes
    table_rules c i e = rw (← f, not-false a h, ← g, not-false b i) e

pub ruleset table_laws = (table_paths, table_required, table_rules)
