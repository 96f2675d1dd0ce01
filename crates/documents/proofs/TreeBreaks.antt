-- Judging the parts of a valid list by their sets is judging the document that the list stands for.
use Prim.Native.Nat.{ℕ, ◌^◌, ◌<◌, ◌≤◌}
use mathlib.Core.Path.{◌≡◌, sym, subst, ◌∙◌}
use mathlib.Core.Logic.{◌↔◌, ◌⊎◌, inl, inr, ⊎_elim}
use mathlib.Core.List.{List, [], ◌∷◌, Memᴰ}
use native.Mathlib.Decide.{dec_lt, ℕ_discrete}
use native.Mathlib.Omega.{arith}
use lib.ListN.{length, get_or}
use Rattle.files.specs.Sets.{Has, bit, difference, lowest, members}
use Rattle.files.specs.Table.{Rule}
use Rattle.files.proofs.SetBits.{bit_of_zero, bit_absent, bit_cases, not_has, dec_has, has_difference, difference_lt}
use Rattle.files.proofs.SetLowest.{has_lowest, lowest_first}
use Rattle.files.proofs.SetMembers.{mem_members}
use Rattle.documents.specs.Paths.{Context, Descending}
use Rattle.documents.specs.Tree.{Forest, Node, NodeHolds, Holds}
use Rattle.documents.specs.Obey.{ObeysRule, HoldsAll}
use Rattle.documents.specs.Parts.{Unfolds, PartHolds, Named, PartsImplication}
use Rattle.documents.specs.PartList.{Entry, entry_path, entry_kids, ValidParts, StandsFor}
use Rattle.documents.specs.Checking.{held}
use Rattle.documents.specs.Judgement.{Violates, without, against, both, PartBreaks, LeastMissing}
use Rattle.documents.proofs.Paths.{context_is, context_sym, context_of_context}
use Rattle.documents.proofs.Parts.{named_copy, copy_holds, one_holds, parts_rule}
use Rattle.documents.proofs.PartTrees.{named_listed, all_named}
use Rattle.documents.proofs.HeldWords.{held_is}
use Rattle.documents.proofs.RuleBreaks.{violates_map, breaks_only, breaks_if, HitBy}

-- a document that obeys a rule has no node on the context that breaks it
obeyed : {parent : ℕ → ℕ} → Descending parent → {ru : Rule} {d : Forest} → ObeysRule parent ru d → {c : ℕ} {under : Forest}
    → Context parent ru.left ru.right c
    → Node c under d → ¬ Violates ru (NodeHolds c under)
obeyed desc o {c} {under} x n (without (inl k) a b) = b ((o.implication k).every c x under n a)
obeyed desc o {c} {under} x n (without (inr k) a b) = b ((o.along k).every c x under n a)
obeyed desc o {c} {under} x n (against k a b) = a ((o.against k).every c (context_sym desc x) under n b)
obeyed desc o {c} {under} x n (both k a b) = (o.absence k).never c x under n a b

module _ {parent : ℕ → ℕ} (desc : Descending parent) {count : ℕ} (table : count ≤ 64) {es : List Entry} (valid : ValidParts parent count es)
    {d : Forest} (tree : StandsFor es d) where
  -- the set of part i has what its copies hold
  word_node : (i : ℕ) → i < length es → {under : Forest} → Unfolds (entry_path es) (entry_kids es) (entry_kids es i) under
      → (y : ℕ) → Has (get_or (held es) i 0) y ↔ NodeHolds (entry_path es i) under y
  word_node i h u y =
      let a = held_is valid table i y h in
      let b = copy_holds {p = i} u in
      (λ k. b.0 (a.0 k), λ k. a.1 (b.1 k))

  -- a part that breaks the rule by its set, and its copy
  pub hit_part : (ru : Rule) (i : ℕ) → 1 ≤ ru.kind → ru.kind ≤ 3 → HitBy parent es (held es) ru i → PartBreaks parent ru es d i
  hit_part ru i some few h =
      let k = named_copy tree.unfolds (all_named valid i h.listed) in
      record {
        listed = h.listed;
        context = subst (Context parent ru.left ru.right) (sym h.on) (context_of_context desc ru.left ru.right);
        under = k.under;
        copy = k.unfolds;
        node = k.node;
        breaks = violates_map ru (word_node i h.listed k.unfolds) (breaks_only ru (get_or (held es) i 0) some few h.breaks);
      }

  pub part_hit : (ru : Rule) (i : ℕ) → PartBreaks parent ru es d i → HitBy parent es (held es) ru i
  part_hit ru i b =
      record {
        listed = b.listed;
        on = sym (context_is desc b.context);
        breaks = breaks_if ru (get_or (held es) i 0)
            (violates_map ru (λ y. let w = word_node i b.listed b.copy y in (w.1, w.0)) b.breaks);
      }

  pub part_broken : (ru : Rule) (i : ℕ) → PartBreaks parent ru es d i → ¬ ObeysRule parent ru d
  part_broken ru i b o = obeyed desc o b.context b.node b.breaks

  -- where no part breaks the rule by its set, the document obeys it
  module _ (ru : Rule) (none : (j : ℕ) → ¬ HitBy parent es (held es) ru j) where
    clear : (a c : ℕ) → Named (entry_kids es) (0 ∷ []) a → Context parent ru.left ru.right c → entry_path es a ≡ c
        → ¬ Violates ru (PartHolds (entry_path es) (entry_kids es) a)
    clear a c n x on v =
        let h = named_listed valid n in
        none a
        (record {
          listed = h;
          on = on ∙ sym (context_is desc x);
          breaks = breaks_if ru (get_or (held es) a 0) (violates_map ru (λ y. let w = held_is valid table a y h in (w.1, w.0)) v);
        })

    holds_or : (a y : ℕ) → Named (entry_kids es) (0 ∷ []) a → ¬ ¬ PartHolds (entry_path es) (entry_kids es) a y
        → PartHolds (entry_path es) (entry_kids es) a y
    holds_or a y n k = by (dec_has (get_or (held es) a 0) y)
      where
        w : Has (get_or (held es) a 0) y ↔ PartHolds (entry_path es) (entry_kids es) a y
        w = held_is valid table a y (named_listed valid n)

        by : Dec (Has (get_or (held es) a 0) y) → PartHolds (entry_path es) (entry_kids es) a y
        by (yes h) = w.0 h
        by (no h) = absurd (k (λ p. h (w.1 p)))

    along : (ru.kind ≡ 1) ⊎ (ru.kind ≡ 3) → PartsImplication parent (entry_path es) (entry_kids es) (0 ∷ []) ru.left ru.right
    along k = record { every = λ c x a n on hp. holds_or a ru.right n (λ hq. clear a c n x on (without k hp hq)) }

    pub rule_obeyed : ObeysRule parent ru d
    rule_obeyed =
        (parts_rule tree.unfolds ru).0
        (record {
          implication = λ k. along (inl k);
          absence = λ k. record { never = λ c x a n on hp hq. clear a c n x on (both k hp hq) };
          along = λ k. along (inr k);
          against = λ k. record {
            every = λ c x a n on hq. holds_or a ru.left n (λ hp. clear a c n (context_sym desc x) on (against k hp hq));
          };
        })

  -- ---- the required paths

  root_holds : (y : ℕ) → Has (get_or (held es) 0 0) y ↔ Holds d y
  root_holds y =
      let a = held_is valid table 0 y valid.some in
      let b = one_holds tree.unfolds in
      (λ h. b.0 (a.0 h), λ h. a.1 (b.1 h))

  module _ (required : ℕ) (fits : required < 2 ^ 64) where
    rest : ℕ
    rest = difference required (get_or (held es) 0 0)

    rest_is : (y : ℕ) → Has rest y ↔ (Has required y × (bit (get_or (held es) 0 0) y ≡ 0))
    unfolding rest
    rest_is y = has_difference required (get_or (held es) 0 0) y

    held_or : (y : ℕ) → Memᴰ y (members required) → ¬ Has rest y → Holds d y
    held_or y m n =
        ⊎_elim (λ (h : Has (get_or (held es) 0 0) y). (root_holds y).0 h)
        (λ (z : bit (get_or (held es) 0 0) y ≡ 0). absurd (n ((rest_is y).1 ((mem_members required y fits).0 m, z))))
        (bit_cases (get_or (held es) 0 0) y)

    pub all_held : difference required (get_or (held es) 0 0) ≡ 0 → HoldsAll (members required) d
    unfolding rest
    all_held e = record { each = λ y m. held_or y m (λ h. not_has (bit_of_zero y) (subst (λ (w : ℕ). Has w y) e h)) }

    pub none_missing : HoldsAll (members required) d → difference required (get_or (held es) 0 0) ≡ 0
    unfolding rest
    none_missing h = by (ℕ_discrete rest 0)
      where
        by : Dec (rest ≡ 0) → rest ≡ 0
        by (yes e) = e
        by (no n) =
            let l = has_lowest rest (omega (arith, n)) (difference_lt required (get_or (held es) 0 0) fits) in
            let r = (rest_is (lowest rest)).0 l in
            absurd (not_has r.1 ((root_holds (lowest rest)).1
            (h.each (lowest rest) ((mem_members required (lowest rest) fits).1 r.0))))

    pub least_missing : (difference required (get_or (held es) 0 0) ≡ 0 → ⊥)
        → LeastMissing (members required) d (lowest (difference required (get_or (held es) 0 0)))
    unfolding rest
    least_missing n =
        let l = has_lowest rest (omega (arith, n)) (difference_lt required (get_or (held es) 0 0) fits) in
        let r = (rest_is (lowest rest)).0 l in
        record {
          required_is = (mem_members required (lowest rest) fits).1 r.0;
          missing = λ h. not_has r.1 ((root_holds (lowest rest)).1 h);
          before = λ y b m. held_or y m (λ h. omega (arith, lowest_first rest y h));
        }

    -- a required path that is missing is the least one only if it is the lowest of the rest
    pub missing_is : (x : ℕ) → LeastMissing (members required) d x
        → (difference required (get_or (held es) 0 0) ≡ 0 → ⊥) × (lowest (difference required (get_or (held es) 0 0)) ≡ x)
    unfolding rest
    missing_is x m =
        let absent : bit (get_or (held es) 0 0) x ≡ 0 = bit_absent (get_or (held es) 0 0) x (λ h. m.missing ((root_holds x).0 h)) in
        let there : Has rest x = (rest_is x).1 ((mem_members required x fits).0 m.required_is, absent) in
        let some : rest ≡ 0 → ⊥ = λ e. not_has (bit_of_zero x) (subst (λ (w : ℕ). Has w x) e there) in
        let l = has_lowest rest (omega (arith, some)) (difference_lt required (get_or (held es) 0 0) fits) in
        let r = (rest_is (lowest rest)).0 l in
        (some, by (dec_lt (lowest rest) x) (lowest_first rest x there) r.0 r.1)
      where
        by : Dec (lowest rest < x) → lowest rest ≤ x → Has required (lowest rest) → bit (get_or (held es) 0 0) (lowest rest) ≡ 0
            → lowest rest ≡ x
        by (yes h) le a b =
            absurd (not_has b ((root_holds (lowest rest)).1 (m.before (lowest rest) h ((mem_members required (lowest rest) fits).1 a))))
        by (no h) le a b = omega arith
