-- Laws of judging: rule after rule, the verdict, and that going along the parts on a path misses none.
use Prim.Native.Nat.{ℕ, zero, suc, ◌+◌, ◌-◌, ◌<◌, ◌≤◌}
use mathlib.Core.Path.{◌≡◌, refl, sym, ap, ap₂, ◌∙◌}
use mathlib.Core.Bool.{Bool, true, false, cond}
use mathlib.Core.List.{List, [], ◌∷◌}
use native.Mathlib.Decide.{dec_lt, ℕ_discrete}
use native.Mathlib.Omega.{arith}
use lib.ListN.{get_or}
use lib.Dec.{ltb, eqb}
use borrow.Author.Tests.{lt-ltb, le-ltb, eq-eqb, ne_eqb, eqb-true}
use Rattle.std.specs.Prelude.{Option, None}
use Rattle.std.specs.Result.{result_unwrap_or}
use Rattle.files.specs.declared.kind.Kind.{Kind}
use Rattle.files.specs.declared.kind.Kind.TheVariants.{CoOccurrence}
use Rattle.files.specs.declared.rules.Rules.{Rules}
use Rattle.files.specs.Kinds.{kind_number, kind_in}
use Rattle.files.specs.Rules.{rules_from, rules_of}
use Rattle.files.specs.Sets.{difference, lowest, UpTo64}
use Rattle.files.specs.Table.{Rule}
use Rattle.documents.specs.Answers.{Checked, Obeys, Missing, Place, At, Nowhere, Break, Unbroken}
use Rattle.documents.specs.Paths.{context_of}
use Rattle.documents.specs.PartList.{part_limit, Entry}
use Rattle.documents.specs.Reading.{entries_from}
use Rattle.documents.specs.Checking.{held_from, held, breaks, break_from, or_later, broken_from, or_missing, verdict}
use Rattle.documents.specs.Held.{part_number, Laid, next_on, Linking, Linked, rule, first_on, break_along, broken_along}
use Rattle.documents.proofs.Breaking.{along_out, along_breaks, along_keeps}
use Rattle.documents.proofs.Holding.{from, from_part, from_end, next_least, held_of, held_part, linked_held}

-- ---- rule after rule

-- a rule that each set breaks as it breaks another is broken along the parts where the other is
along_same : (ru q : Rule) → ((set : ℕ) → breaks ru set ≡ breaks q set) → (sets : List ℕ) (next : List (Option ℕ)) (count fuel n : ℕ)
    → break_along ru sets next count fuel n ≡ break_along q sets next count fuel n
unfolding break_along
along_same ru q h sets next count zero n = refl
along_same ru q h sets next count (suc fuel) n =
    rw (h (get_or sets n 0))
    (ap (λ (p : Place). cond (ltb n count) (cond (breaks q (get_or sets n 0)) (At n) p) Nowhere)
    (along_same ru q h sets next count fuel (part_number (get_or next n None))))

-- a rule whose kind no valid table has is broken as a co-occurrence is
kind_same : (n m : ℕ) (k : Kind) → m ≡ n → k ≡ result_unwrap_or (kind_in m) CoOccurrence → (left right set : ℕ) → breaks (rule (kind_number k) left right) set ≡ breaks (rule n left right) set
unfolding breaks rule
kind_same n m k e f left right set =
    ap (λ (q : Kind). breaks (rule (kind_number q) left right) set) (f ∙ ap (λ (x : ℕ). result_unwrap_or (kind_in x) CoOccurrence) e)
    ∙ by (ℕ_discrete n 1) (ℕ_discrete n 2) (ℕ_discrete n 3)
  where
    by : Dec (n ≡ 1) → Dec (n ≡ 2) → Dec (n ≡ 3) → breaks (rule (kind_number (result_unwrap_or (kind_in n) CoOccurrence)) left right) set ≡ breaks (rule n left right) set
    by (yes a) b c = rw a refl
    by (no a) (yes b) c = rw b refl
    by (no a) (no b) (yes c) = rw c refl
    by (no a) (no b) (no c) = rw (ne_eqb n 1 a, ne_eqb n 2 b, ne_eqb n 3 c) refl

-- rule after rule, whatever its kind's number and however many parts
module _ (parent : ℕ → ℕ) (count : ℕ) (sets : List ℕ) (first next : List (Option ℕ)) (kind left right : List ℕ) (many r : ℕ) (w : Break)
    (inv : broken_along parent count sets first next r (rules_from kind left right r (many - r)) ≡ w) where
  module _ (h : r < many) (q : Place) (e : q ≡ break_along (rule (get_or kind r 0) (get_or left r 0) (get_or right r 0)) sets next count count
      (first_on first (context_of parent (get_or left r 0) (get_or right r 0)))) where
    one : or_later r q (broken_along parent count sets first next (r + 1) (rules_from kind left right (r + 1) (many - (r + 1)))) ≡ w
    unfolding broken_along rules_from rule
    one =
        let f : many - r ≡ suc (many - (r + 1)) = omega arith in
        ap (λ (p : Place). or_later r p
        (broken_along parent count sets first next (r + 1) (rules_from kind left right (r + 1) (many - (r + 1))))) e
        ∙ ap (λ (k : ℕ). broken_along parent count sets first next r (rules_from kind left right r k)) (sym f)
        ∙ inv

    pub rules_on_lem : q ≡ Nowhere → broken_along parent count sets first next (r + 1) (rules_from kind left right (r + 1) (many - (r + 1))) ≡ w
    unfolding or_later
    rules_on_lem f = rw f at one

-- the same by the code's kinds
module _ (parent : ℕ → ℕ) (sets : List ℕ) (first next : List (Option ℕ)) (kind left right : List ℕ) (many r : ℕ) (w : Break)
    (inv : broken_along parent part_limit sets first next r (rules_from kind left right r (many - r)) ≡ w) where
  pub rules_end : many ≤ r → Unbroken ≡ w
  unfolding broken_along rules_from
  rules_end h = let e : many - r ≡ 0 = omega arith in rw e at inv

  module _ (h : r < many) (q : Place) (k : Kind) (n : ℕ) (a : n ≡ get_or kind r 0) (b : k ≡ result_unwrap_or (kind_in n) CoOccurrence)
      (e : q ≡ break_along (rule (kind_number k) (get_or left r 0) (get_or right r 0)) sets next part_limit part_limit
      (first_on first (context_of parent (get_or left r 0) (get_or right r 0)))) where
    is : q ≡ break_along (rule (get_or kind r 0) (get_or left r 0) (get_or right r 0)) sets next part_limit part_limit
        (first_on first (context_of parent (get_or left r 0) (get_or right r 0)))
    is =
        e
        ∙ along_same (rule (kind_number k) (get_or left r 0) (get_or right r 0)) (rule (get_or kind r 0) (get_or left r 0) (get_or right r 0))
        (kind_same (get_or kind r 0) n k a b (get_or left r 0) (get_or right r 0)) sets next part_limit part_limit
        (first_on first (context_of parent (get_or left r 0) (get_or right r 0)))

    pub rules_here : {n : ℕ} → q ≡ At n → Break.Broken r n ≡ w
    unfolding or_later
    rules_here f = rw f at (one parent part_limit sets first next kind left right many r w inv h q is)

    pub rules_next : q ≡ Nowhere → broken_along parent part_limit sets first next (r + 1) (rules_from kind left right (r + 1) (many - (r + 1))) ≡ w
    rules_next f = rules_on_lem parent part_limit sets first next kind left right many r w inv h q is f

pub rules_start : (parent : ℕ → ℕ) (sets : List ℕ) (first next : List (Option ℕ)) (kind left right : List ℕ) (many : ℕ)
    → broken_along parent part_limit sets first next 0 (rules_from kind left right 0 (many - 0))
    ≡ broken_along parent part_limit sets first next 0 (rules_from kind left right 0 many)
rules_start parent sets first next kind left right many =
    let e : many - 0 ≡ many = omega arith in ap (λ (k : ℕ). broken_along parent part_limit sets first next 0 (rules_from kind left right 0 k)) e

pub ruleset rules_laws = (rules_start, rules_here, rules_next, rules_end)

-- ---- the verdict

module _ (required set rest : ℕ) (e : rest ≡ difference required set) where
  pub missing_none : rest ≡ 0 → Obeys ≡ or_missing required set
  unfolding or_missing
  missing_none h = rw (← e, eq-eqb rest 0 h)

  pub missing_some : (x : ℕ) → (rest ≡ 0 → ⊥) → UpTo64 (lowest rest) x → Missing x ≡ or_missing required set
  unfolding or_missing
  missing_some x h u = rw (← e, ne_eqb rest 0 h) (ap Missing u.is)

pub ruleset missing_laws = (missing_none, missing_some)

-- ---- along the parts is among all parts

module _ (s path place : List ℕ) (count : ℕ) (few : count ≤ part_limit) where
  -- the parts from number n on
  rest : ℕ → List Entry
  rest n = from s path place count n

  -- the part found is on the path
  next_on_lem : (c k n : ℕ) → n + k ≡ count → next_on c n (entries_from s path place n k) < count
      → get_or path (next_on c n (entries_from s path place n k)) 0 ≡ c
  unfolding entries_from next_on
  next_on_lem c zero n e h = absurd (omega arith)
  next_on_lem c (suc k) n e h = by (eqb (get_or path n 0) c) refl h (next_on_lem c k (n + 1) (omega arith))
    where
      by : (t : Bool) → eqb (get_or path n 0) c ≡ t → cond t n (next_on c (n + 1) (entries_from s path place (n + 1) k)) < count
          → (next_on c (n + 1) (entries_from s path place (n + 1) k) < count
          → get_or path (next_on c (n + 1) (entries_from s path place (n + 1) k)) 0 ≡ c)
          → get_or path (cond t n (next_on c (n + 1) (entries_from s path place (n + 1) k))) 0 ≡ c
      by true f g again = eqb-true (get_or path n 0) c f
      by false f g again = again g

  -- where no part is found the number is 512
  next_past : (c k n : ℕ) → n + k ≡ count → count ≤ next_on c n (entries_from s path place n k) → next_on c n (entries_from s path place n k) ≡ part_limit
  unfolding entries_from next_on
  next_past c zero n e h = refl
  next_past c (suc k) n e h = by (eqb (get_or path n 0) c) h (next_past c k (n + 1) (omega arith))
    where
      by : (t : Bool) → count ≤ cond t n (next_on c (n + 1) (entries_from s path place (n + 1) k))
          → (count ≤ next_on c (n + 1) (entries_from s path place (n + 1) k) → next_on c (n + 1) (entries_from s path place (n + 1) k) ≡ part_limit)
          → cond t n (next_on c (n + 1) (entries_from s path place (n + 1) k)) ≡ part_limit
      by true g again = absurd (omega arith)
      by false g again = again g

  -- no part is on a path past those that the parts are on
  next_none : (c k n : ℕ) → n + k ≡ count → ((i : ℕ) → i < count → get_or path i 0 ≡ c → ⊥) → next_on c n (entries_from s path place n k) ≡ part_limit
  unfolding entries_from next_on
  next_none c zero n e h = refl
  next_none c (suc k) n e h = rw (ne_eqb (get_or path n 0) c (h n (omega arith))) (next_none c k (n + 1) (omega arith) h)

  module _ (ru : Rule) (c : ℕ) where
    -- what breaks the rule among the parts from number n on
    among : ℕ → Place
    among n = break_from ru c n (rest n) (held_from n (rest n))

    among_end : (n : ℕ) → count ≤ n → among n ≡ Nowhere
    unfolding among break_from rest
    among_end n h = rw (from_end s path place count n h)

    among_part : (n : ℕ) → n < count
        → among n ≡ cond (cond (eqb (get_or path n 0) c) (breaks ru (held_of s path place count n)) false) (At n) (among (n + 1))
    unfolding among break_from rest
    among_part n h =
        ap (break_from ru c n (from s path place count n)) (held_part s path place count n h)
        ∙ ap (λ (l : List Entry). break_from ru c n l (held_of s path place count n ∷ held_from (n + 1) (from s path place count (n + 1))))
        (from_part s path place count n h)

    -- the parts on other paths are passed over
    among_skip : (k n : ℕ) → n + k ≡ count → among n ≡ among (next_on c n (entries_from s path place n k))
    unfolding entries_from next_on
    among_skip zero n e = among_end n (omega arith) ∙ sym (among_end part_limit few)
    among_skip (suc k) n e = by (eqb (get_or path n 0) c) refl (among_skip k (n + 1) (omega arith))
      where
        by : (t : Bool) → eqb (get_or path n 0) c ≡ t → among (n + 1) ≡ among (next_on c (n + 1) (entries_from s path place (n + 1) k))
            → among n ≡ among (cond t n (next_on c (n + 1) (entries_from s path place (n + 1) k)))
        by true f again = refl
        by false f again = among_part n (omega arith)
            ∙ ap (λ (t : Bool). cond (cond t (breaks ru (held_of s path place count n)) false) (At n) (among (n + 1))) f ∙ again

    module _ (sets : List ℕ) (first next : List (Option ℕ)) (linked : Linked s path place count 0 sets first next) where
      next_is : (n : ℕ) → n < count → get_or path n 0 ≡ c
          → part_number (get_or next n None) ≡ next_on c (n + 1) (entries_from s path place (n + 1) (count - (n + 1)))
      next_is n h on = linked.nexts n (omega arith) h
          ∙ ap (λ (x : ℕ). next_on x (n + 1) (entries_from s path place (n + 1) (count - (n + 1)))) on

      -- along the parts on the path nothing is missed
      along_among : (fuel n : ℕ) → part_limit - n ≤ fuel → (n < count → get_or path n 0 ≡ c) → (count ≤ n → n ≡ part_limit)
          → break_along ru sets next part_limit fuel n ≡ among n
      along_among zero n enough on past = along_out ru sets next 0 n (omega arith) ∙ sym (among_end n (omega arith))
      along_among (suc fuel) n enough on past = by (dec_lt n count) (along_among fuel)
        where
          IH : Type 0
          IH = (m : ℕ) → part_limit - m ≤ fuel → (m < count → get_or path m 0 ≡ c) → (count ≤ m → m ≡ part_limit) → break_along ru sets next part_limit fuel m ≡ among m

          set_is : n < count → breaks ru (held_of s path place count n) ≡ breaks ru (get_or sets n 0)
          set_is h = ap (breaks ru) (sym (linked_held s path place count sets first next linked n h))

          tested : (t : Bool) → breaks ru (get_or sets n 0) ≡ t → n < count → IH → break_along ru sets next part_limit (suc fuel) n ≡ among n
          tested true f h again =
              along_breaks ru sets next fuel n (omega arith) f
              ∙ sym (among_part n h ∙ rw (eq-eqb (get_or path n 0) c (on h), set_is h, f))
          tested false f h again =
              let tail : n + 1 + (count - (n + 1)) ≡ count = omega arith in
              let m : ℕ = next_on c (n + 1) (entries_from s path place (n + 1) (count - (n + 1))) in
              let e : part_number (get_or next n None) ≡ m = next_is n h (on h) in
              let far : n + 1 ≤ m = next_least s path place c (count - (n + 1)) (n + 1) (omega arith) in
              along_keeps ru sets next fuel n (omega arith) f
              ∙ ap (break_along ru sets next part_limit fuel) e
              ∙ again m (omega arith) (next_on_lem c (count - (n + 1)) (n + 1) tail) (next_past c (count - (n + 1)) (n + 1) tail)
              ∙ sym (among_skip (count - (n + 1)) (n + 1) tail)
              ∙ sym (among_part n h ∙ rw (eq-eqb (get_or path n 0) c (on h), set_is h, f))

          by : Dec (n < count) → IH → break_along ru sets next part_limit (suc fuel) n ≡ among n
          by (yes h) again = tested (breaks ru (get_or sets n 0)) refl h again
          by (no h) again = along_out ru sets next (suc fuel) n (omega (arith, past)) ∙ sym (among_end n (omega arith))

      -- the first part on the path
      first_is : Laid s path place count → first_on first c ≡ next_on c 0 (entries_from s path place 0 count)
      unfolding first_on
      first_is laid = by (dec_lt c 256)
        where
          whole : count - 0 ≡ count
          whole = omega arith

          by : Dec (c < 256) → cond (ltb c 256) (part_number (get_or first c None)) part_limit ≡ next_on c 0 (entries_from s path place 0 count)
          by (yes h) = rw (lt-ltb c 256 h) (linked.firsts c h ∙ ap (λ (k : ℕ). next_on c 0 (entries_from s path place 0 k)) whole)
          by (no h) = rw (le-ltb c 256 (omega arith)) (sym (next_none c count 0 (omega arith) (λ i l e. omega (arith, laid.small i l))))

      part_found : Laid s path place count
          → break_along ru sets next part_limit part_limit (first_on first c)
          ≡ break_from ru c 0 (entries_from s path place 0 count) (held_from 0 (entries_from s path place 0 count))
      unfolding among rest
      part_found laid =
          let whole : count - 0 ≡ count = omega arith in
          ap (break_along ru sets next part_limit part_limit) (first_is laid)
          ∙ along_among part_limit (next_on c 0 (entries_from s path place 0 count)) (omega arith) (next_on_lem c count 0 (omega arith)) (next_past c count 0 (omega arith))
          ∙ sym (among_skip count 0 (omega arith))
          ∙ ap (λ (k : ℕ). break_from ru c 0 (entries_from s path place 0 k) (held_from 0 (entries_from s path place 0 k))) whole

  module _ (parent : ℕ → ℕ) (sets : List ℕ) (first next : List (Option ℕ)) (linked : Linked s path place count 0 sets first next)
      (laid : Laid s path place count) where
    rules_found : (r : ℕ) (rules : List Rule) → broken_along parent part_limit sets first next r rules
        ≡ broken_from parent r rules (entries_from s path place 0 count) (held_from 0 (entries_from s path place 0 count))
    unfolding broken_along broken_from
    rules_found r [] = refl
    rules_found r (ru ∷ rules) =
        ap₂ (or_later r) (part_found ru (context_of parent ru.left ru.right) sets first next linked laid) (rules_found (r + 1) rules)

    -- the least broken rule by the arrays is the least on the parts
    pub judge_rules : (kind left right : List ℕ) (many : ℕ) (found : Break)
        → found ≡ broken_along parent part_limit sets first next 0 (rules_from kind left right 0 many)
        → found ≡ broken_from parent 0 (rules_from kind left right 0 many) (entries_from s path place 0 count) (held (entries_from s path place 0 count))
    unfolding held
    judge_rules kind left right many found f = f ∙ rules_found 0 (rules_from kind left right 0 many)

    pub judge_set : 1 ≤ count → get_or sets 0 0 ≡ get_or (held (entries_from s path place 0 count)) 0 0
    unfolding held
    judge_set some =
        let whole : count - 0 ≡ count = omega arith in
        linked.held 0 (omega arith) some ∙ ap (λ (k : ℕ). get_or (held_from 0 (entries_from s path place 0 k)) 0 0) whole

    pub judge_broken : (t : Rules) {r n : ℕ} → Break.Broken r n ≡ broken_along parent part_limit sets first next 0 (rules_from t.kind t.left t.right 0 t.rules)
        → Checked.Broken r n ≡ verdict t.required (get_or (held (entries_from s path place 0 count)) 0 0)
        (broken_from parent 0 (rules_of t).rules (entries_from s path place 0 count) (held (entries_from s path place 0 count)))
    unfolding verdict rules_of
    judge_broken t f = ap (verdict t.required (get_or (held (entries_from s path place 0 count)) 0 0)) (judge_rules t.kind t.left t.right t.rules _ f)

    pub judge_missing : (t : Rules) (q : Checked) → 1 ≤ count → Unbroken ≡ broken_along parent part_limit sets first next 0 (rules_from t.kind t.left t.right 0 t.rules)
        → q ≡ or_missing t.required (get_or sets 0 0)
        → q ≡ verdict t.required (get_or (held (entries_from s path place 0 count)) 0 0)
        (broken_from parent 0 (rules_of t).rules (entries_from s path place 0 count) (held (entries_from s path place 0 count)))
    unfolding verdict rules_of
    judge_missing t q some f g =
        g ∙ ap (or_missing t.required) (judge_set some)
        ∙ ap (verdict t.required (get_or (held (entries_from s path place 0 count)) 0 0)) (judge_rules t.kind t.left t.right t.rules Unbroken f)

  pub linked_linking : (sets : List ℕ) (first next : List (Option ℕ)) → Linked s path place count 0 sets first next → Linking first next
  linked_linking sets first next linked = linked.linking

pub ruleset judge_laws = (judge_broken, judge_missing, linked_linking)
