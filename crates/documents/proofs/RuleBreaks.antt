-- Judging by sets finds the least broken rule and the least part that breaks it.
use Prim.Native.Nat.{ℕ, zero, suc, ◌+◌, ◌<◌, ◌≤◌}
use mathlib.Core.Path.{◌≡◌, refl, sym, subst, subst₂, ◌∙◌}
use mathlib.Core.Logic.{◌↔◌, inl, inr}
use mathlib.Core.Bool.{Bool, true, false, cond, not, false≢true}
use mathlib.Core.List.{List, [], ◌∷◌}
use native.Mathlib.Decide.{ℕ_discrete}
use native.Mathlib.Omega.{arith}
use lib.ListN.{length, get_or}
use lib.Dec.{eqb}
use borrow.Author.Tests.{eq-eqb, ne_eqb, eqb-true}
use Rattle.files.specs.Sets.{Has, hasb}
use Rattle.files.specs.Table.{Rule, Numbered, first, later}
use Rattle.files.proofs.SetBits.{hasb_true, hasb_has}
use Rattle.documents.specs.Answers.{Place, At, Nowhere, Break, Unbroken}
use Rattle.documents.specs.Paths.{context_of}
use Rattle.documents.specs.PartList.{Entry, entry_path}
use Rattle.documents.specs.Checking.{breaks, break_from, or_later, broken_from}
use Rattle.documents.specs.Judgement.{Violates, without, against, both}

-- ---- one set against one rule

pub violates_map : (ru : Rule) {P Q : ℕ → Type 0} → ((y : ℕ) → P y ↔ Q y) → Violates ru P → Violates ru Q
violates_map ru f (without k a b) = without k ((f ru.left).0 a) (λ c. b ((f ru.right).1 c))
violates_map ru f (against k a b) = against k (λ c. a ((f ru.left).1 c)) ((f ru.right).0 b)
violates_map ru f (both k a b) = both k ((f ru.left).0 a) ((f ru.right).0 b)

module _ (ru : Rule) (w : ℕ) where
  by_kind : Bool → Bool → Bool
  by_kind p q =
      cond (eqb ru.kind 1) (cond p (not q) false) (cond (eqb ru.kind 2) (cond p q false) (cond p (not q) q))

  breaks_is : breaks ru w ≡ by_kind (hasb w ru.left) (hasb w ru.right)
  unfolding breaks by_kind
  breaks_is = refl

  absent : (i : ℕ) → hasb w i ≡ false → ¬ Has w i
  absent i e h = false≢true (sym e ∙ hasb_has w i h)

  pub breaks_only : 1 ≤ ru.kind → ru.kind ≤ 3 → breaks ru w ≡ true → Violates ru (Has w)
  unfolding by_kind
  breaks_only some few e =
      by (ℕ_discrete ru.kind 1) (ℕ_discrete ru.kind 2) (hasb w ru.left) (hasb w ru.right) refl refl (sym breaks_is ∙ e)
    where
      by : Dec (ru.kind ≡ 1) → Dec (ru.kind ≡ 2) → (p q : Bool) → hasb w ru.left ≡ p → hasb w ru.right ≡ q → by_kind p q ≡ true
          → Violates ru (Has w)
      by (yes k) d true false f g t = without (inl k) (hasb_true w ru.left f) (absent ru.right g)
      by (yes k) d true true f g t = absurd (false≢true (sym (rw (eq-eqb ru.kind 1 k)) ∙ t))
      by (yes k) d false q f g t = absurd (false≢true (sym (rw (eq-eqb ru.kind 1 k)) ∙ t))
      by (no n) (yes k) true true f g t = both k (hasb_true w ru.left f) (hasb_true w ru.right g)
      by (no n) (yes k) true false f g t = absurd (false≢true (sym (rw (ne_eqb ru.kind 1 n, eq-eqb ru.kind 2 k)) ∙ t))
      by (no n) (yes k) false q f g t = absurd (false≢true (sym (rw (ne_eqb ru.kind 1 n, eq-eqb ru.kind 2 k)) ∙ t))
      by (no n) (no m) true false f g t =
          without (inr (let z : ru.kind ≡ 3 = omega (arith, n, m) in z)) (hasb_true w ru.left f) (absent ru.right g)
      by (no n) (no m) true true f g t = absurd (false≢true (sym (rw (ne_eqb ru.kind 1 n, ne_eqb ru.kind 2 m)) ∙ t))
      by (no n) (no m) false true f g t =
          against (let z : ru.kind ≡ 3 = omega (arith, n, m) in z) (absent ru.left f) (hasb_true w ru.right g)
      by (no n) (no m) false false f g t = absurd (false≢true (sym (rw (ne_eqb ru.kind 1 n, ne_eqb ru.kind 2 m)) ∙ t))

  hasb_not : (i : ℕ) → ¬ Has w i → hasb w i ≡ false
  hasb_not i n = by (hasb w i) refl
    where
      by : (t : Bool) → hasb w i ≡ t → hasb w i ≡ false
      by true e = absurd (n (hasb_true w i e))
      by false e = e

  pub breaks_if : Violates ru (Has w) → breaks ru w ≡ true
  unfolding by_kind
  breaks_if (without (inl k) a b) =
      breaks_is ∙ rw (hasb_has w ru.left a, hasb_not ru.right b, eq-eqb ru.kind 1 k)
  breaks_if (without (inr k) a b) =
      breaks_is
      ∙ rw (
        hasb_has w ru.left a,
        hasb_not ru.right b,
        ne_eqb ru.kind 1 (λ (z : ru.kind ≡ 1). omega arith),
        ne_eqb ru.kind 2 (λ (z : ru.kind ≡ 2). omega arith),
      )
  breaks_if (against k a b) =
      breaks_is
      ∙ rw (
        hasb_not ru.left a,
        hasb_has w ru.right b,
        ne_eqb ru.kind 1 (λ (z : ru.kind ≡ 1). omega arith),
        ne_eqb ru.kind 2 (λ (z : ru.kind ≡ 2). omega arith),
      )
  breaks_if (both k a b) =
      breaks_is
      ∙ rw (
        hasb_has w ru.left a,
        hasb_has w ru.right b,
        ne_eqb ru.kind 1 (λ (z : ru.kind ≡ 1). omega arith),
        eq-eqb ru.kind 2 k,
      )

-- ---- the least part

-- part i on path c breaks the rule by its set
pub record Hit (ru : Rule) (c : ℕ) (es : List Entry) (sets : List ℕ) (i : ℕ) : Type 0 where
  pub listed : i < length es
  pub on : entry_path es i ≡ c
  pub breaks : breaks ru (get_or sets i 0) ≡ true

-- what looking for the least part says
pub data Search (ru : Rule) (c n : ℕ) (es : List Entry) (sets : List ℕ) : Place → Type 0 where
  found : (i : ℕ) → Hit ru c es sets i → ((j : ℕ) → j < i → ¬ Hit ru c es sets j) → Search ru c n es sets (At (n + i))
  nowhere : ((j : ℕ) → ¬ Hit ru c es sets j) → Search ru c n es sets Nowhere

module _ (ru : Rule) (c : ℕ) where
  hit_later : (e : Entry) (es : List Entry) (w : ℕ) (sets : List ℕ) (i : ℕ) → Hit ru c es sets i → Hit ru c (e ∷ es) (w ∷ sets) (suc i)
  unfolding entry_path
  hit_later e es w sets i h = record { listed = omega (arith, h.listed); on = h.on; breaks = h.breaks }

  hit_back : (e : Entry) (es : List Entry) (w : ℕ) (sets : List ℕ) (i : ℕ) → Hit ru c (e ∷ es) (w ∷ sets) (suc i) → Hit ru c es sets i
  unfolding entry_path
  hit_back e es w sets i h = record { listed = omega (arith, h.listed); on = h.on; breaks = h.breaks }

  -- the first part is no hit, so the search goes on
  miss : (e : Entry) (es : List Entry) (w : ℕ) (sets : List ℕ) → cond (eqb e.path c) (breaks ru w) false ≡ false
      → ¬ Hit ru c (e ∷ es) (w ∷ sets) 0
  unfolding entry_path
  miss e es w sets f h = false≢true (sym f ∙ rw (eq-eqb e.path c h.on) h.breaks)

  pub search_is : (n : ℕ) (es : List Entry) (sets : List ℕ) → length sets ≡ length es → Search ru c n es sets (break_from ru c n es sets)
  unfolding break_from entry_path
  search_is n [] sets l = nowhere (λ j h. omega (arith, h.listed))
  search_is n (e ∷ es) [] l = absurd (omega arith)
  search_is n (e ∷ es) (w ∷ sets) l =
      by (cond (eqb e.path c) (breaks ru w) false) refl (search_is (n + 1) es sets (omega arith))
    where
      here : (t u : Bool) → eqb e.path c ≡ t → breaks ru w ≡ u → cond t u false ≡ true → Hit ru c (e ∷ es) (w ∷ sets) 0
      here true true f g h = record { listed = omega arith; on = eqb-true e.path c f; breaks = g }
      here true false f g h = absurd (false≢true h)
      here false u f g h = absurd (false≢true h)

      none : cond (eqb e.path c) (breaks ru w) false ≡ false → ((j : ℕ) → ¬ Hit ru c es sets j) → (j : ℕ)
          → ¬ Hit ru c (e ∷ es) (w ∷ sets) j
      none f m zero h = miss e es w sets f h
      none f m (suc j) h = m j (hit_back e es w sets j h)

      before : cond (eqb e.path c) (breaks ru w) false ≡ false → (i : ℕ) → ((j : ℕ) → j < i → ¬ Hit ru c es sets j)
          → (j : ℕ) → j < suc i → ¬ Hit ru c (e ∷ es) (w ∷ sets) j
      before f i m zero l h = miss e es w sets f h
      before f i m (suc j) l h = m j (omega arith) (hit_back e es w sets j h)

      on : {p : Place} → cond (eqb e.path c) (breaks ru w) false ≡ false → Search ru c (n + 1) es sets p
          → Search ru c n (e ∷ es) (w ∷ sets) p
      on f (found i h m) =
          let z : n + suc i ≡ n + 1 + i = omega arith in
          subst (λ (k : ℕ). Search ru c n (e ∷ es) (w ∷ sets) (At k)) z (found (suc i) (hit_later e es w sets i h) (before f i m))
      on f (nowhere m) = nowhere (none f m)

      by : (t : Bool) → cond (eqb e.path c) (breaks ru w) false ≡ t → Search ru c (n + 1) es sets (break_from ru c (n + 1) es sets)
          → Search ru c n (e ∷ es) (w ∷ sets) (cond t (At n) (break_from ru c (n + 1) es sets))
      by true f again =
          let z : n + 0 ≡ n = omega arith in
          subst (λ (k : ℕ). Search ru c n (e ∷ es) (w ∷ sets) (At k)) z
          (found 0 (here (eqb e.path c) (breaks ru w) refl refl f) (λ j l. absurd (omega arith)))
      by false f again = on f again

-- ---- the least rule

-- some part breaks the rule at its context
abbrev pub HitBy : (parent : ℕ → ℕ) → List Entry → List ℕ → Rule → ℕ → Type 0
HitBy parent es sets ru i = Hit ru (context_of parent ru.left ru.right) es sets i

-- what looking for the least rule says
pub data RuleSearch (parent : ℕ → ℕ) (es : List Entry) (sets : List ℕ) (n : ℕ) (rules : List Rule) : Break → Type 0 where
  broken : (k i : ℕ) (ru : Rule) → Numbered rules k ru → HitBy parent es sets ru i → ((j : ℕ) → j < i → ¬ HitBy parent es sets ru j)
      → ((r : ℕ) (q : Rule) → r < k → Numbered rules r q → (j : ℕ) → ¬ HitBy parent es sets q j)
      → RuleSearch parent es sets n rules (Break.Broken (n + k) i)
  unbroken : ((r : ℕ) (q : Rule) → Numbered rules r q → (j : ℕ) → ¬ HitBy parent es sets q j) → RuleSearch parent es sets n rules Unbroken

-- a rule number names one rule
pub numbered_unique : {rules : List Rule} {r : ℕ} {a b : Rule} → Numbered rules r a → Numbered rules r b → a ≡ b
numbered_unique first first = refl
numbered_unique (later m) (later n) = numbered_unique m n

no_rule_lem : {r : ℕ} {q : Rule} → Numbered [] r q → ⊥
no_rule_lem h = elim h [ ]

module _ (parent : ℕ → ℕ) (es : List Entry) (sets : List ℕ) (long : length sets ≡ length es) where
  pub rule_search : (n : ℕ) (rules : List Rule) → RuleSearch parent es sets n rules (broken_from parent n rules es sets)
  unfolding broken_from or_later
  rule_search n [] = unbroken (λ r q m. absurd (no_rule_lem m))
  rule_search n (ru ∷ rules) =
      by (search_is ru (context_of parent ru.left ru.right) 0 es sets long) (rule_search (n + 1) rules)
    where
      earlier : ((j : ℕ) → ¬ HitBy parent es sets ru j) → (k : ℕ)
          → ((r : ℕ) (q : Rule) → r < k → Numbered rules r q → (j : ℕ) → ¬ HitBy parent es sets q j)
          → {r : ℕ} {q : Rule} → Numbered (ru ∷ rules) r q → r < suc k → (j : ℕ) → ¬ HitBy parent es sets q j
      earlier m k f first l = m
      earlier m k f {q = q} (later {r = r} a) l = f r q (omega arith) a

      all : ((j : ℕ) → ¬ HitBy parent es sets ru j) → ((r : ℕ) (q : Rule) → Numbered rules r q → (j : ℕ) → ¬ HitBy parent es sets q j)
          → {r : ℕ} {q : Rule} → Numbered (ru ∷ rules) r q → (j : ℕ) → ¬ HitBy parent es sets q j
      all m f first = m
      all m f {q = q} (later {r = r} a) = f r q a

      on : {b : Break} → ((j : ℕ) → ¬ HitBy parent es sets ru j) → RuleSearch parent es sets (n + 1) rules b
          → RuleSearch parent es sets n (ru ∷ rules) b
      on m (broken k i q a h p f) =
          let z : n + suc k ≡ n + 1 + k = omega arith in
          subst (λ (x : ℕ). RuleSearch parent es sets n (ru ∷ rules) (Break.Broken x i)) z
          (broken (suc k) i q (later a) h p (λ r x l y. earlier m k f y l))
      on m (unbroken f) = unbroken (λ r q a. all m f a)

      by : {p : Place} → Search ru (context_of parent ru.left ru.right) 0 es sets p
          → RuleSearch parent es sets (n + 1) rules (broken_from parent (n + 1) rules es sets)
          → RuleSearch parent es sets n (ru ∷ rules) (or_later n p (broken_from parent (n + 1) rules es sets))
      by (found i h m) again =
          let z : n + 0 ≡ n = omega arith in
          let y : i ≡ 0 + i = omega arith in
          subst₂ (λ (x v : ℕ). RuleSearch parent es sets n (ru ∷ rules) (Break.Broken x v)) z y
          (broken 0 i ru first h m (λ r q l. absurd (omega arith)))
      by (nowhere m) again = on m again
