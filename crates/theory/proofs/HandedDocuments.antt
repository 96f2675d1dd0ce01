-- The documents handed back for the three answers: what each begins with, that it is the one written down, and what its tree shows.
use Prim.Native.Nat.{ℕ, ◌<◌, ◌≤◌}
use mathlib.Core.Path.{◌≡◌, refl, sym, ap, subst, ◌∙◌}
use mathlib.Core.Logic.Iff
use mathlib.Core.Logic.{◌⊎◌, inl, inr}
use mathlib.Core.Bool.{Bool, true, false, ◌&&◌}
use mathlib.Core.List.Memᴰ
use mathlib.Core.List.{List, [], ◌∷◌, Memᴰ}
use native.Mathlib.Omega.{arith}
use lib.Dec.{T, eqb, lit<}
use lib.ListN.{length}
use borrow.Author.Tests.{eqb-true, eqb-false}
use Rattle.files.specs.Table.{Rule}
use Rattle.files.specs.Number.{bytes_of_all}
use Rattle.files.specs.Sets.{Has, with_path}
use Rattle.files.proofs.SetBits.{has_with, with_lt}
use Rattle.documents.specs.Paths.{Descending, context_of, depth_of}
use Rattle.documents.specs.Tree.{Forest}
use Rattle.documents.specs.PartList.{Entry, StandsFor, ValidParts}
use Rattle.documents.proofs.Paths.{below_le, below_zero, context_of_context, context_of_self}
use Rattle.theory.specs.Required.{Needed, root, listed}
use Rattle.theory.specs.Follows.{BreaksImplication, BreaksAbsence, Witnesses}
use Rattle.theory.specs.Parts.{meet_all, both_goals, kids_of, part_zero}
use Rattle.theory.specs.Reachable.{Fits, reachable, reachb}
use Rattle.theory.specs.Decide.{asked_in}
use Rattle.theory.specs.Evidence.{impliesb, excludesb, consistentb}
use Rattle.theory.specs.Order.{Only, WritesParts, WritesDocument}
use Rattle.theory.specs.Handed.{
  Start,
  ReachWords,
  start_implication,
  start_both,
  start_absence,
  start_consistency,
  handed_entries,
  handed_numbers,
}
use Rattle.theory.proofs.Reachable.{reachable_iff, reachable_small}
use Rattle.theory.proofs.RootPair.{asked_in_iff, asked_in_small}
use Rattle.theory.proofs.Writes.{implies_iff, excludes_iff}
use Rattle.theory.proofs.Answers.{reach_decides, consistent_some}
use Rattle.theory.proofs.Kids.{meet_above}
use Rattle.theory.proofs.Children.{computed_words, words_computed}
use Rattle.theory.proofs.Completeness.{tree_exists}
use Rattle.theory.proofs.HandedBack.{
  both_cases,
  both_left,
  both_right,
  one_goals,
  both_goals_lem,
  needed_goals,
  implication_no,
  absence_no,
  consistency_yes,
}
use Rattle.theory.proofs.Equivalences.{consistent_exactly}
use Rattle.theory.proofs.HandedWords.{has_none}
use Rattle.theory.proofs.HandedKids.{meet_one}
use Rattle.theory.proofs.HandedRows.{Begins, one_word}
use Rattle.theory.proofs.Order.{document_unique}
use Rattle.theory.proofs.Handed.{handed_writes}
use Rattle.theory.proofs.Sizes.{parts_few, bytes_few}
use Rattle.theory.proofs.HandedTree.{
  document_valid,
  document_stands,
  stands_breaks_implication,
  stands_breaks_absence,
  stands_witnesses,
}

module _ {parent : ℕ → ℕ} {count : ℕ} (desc : Descending parent) (few : count ≤ 64) where
  -- what the document for an implication's no begins with
  pub begins_implication : {p : ℕ} → p < count → Begins parent count (p ∷ []) (start_implication p)
  begins_implication {p} l = record {
    goals_in = one_goals desc l;
    word = one_word p (omega arith);
    top = sym (meet_one parent p);
    plain = λ g o. ap (λ (z : ℕ). z ∷ []) (o.alone p (Memᴰ.head refl));
  }

  both_top : (p q : ℕ) → context_of parent p q ≡ meet_all parent (both_goals p q)
  unfolding both_goals meet_all
  both_top p q = pick (eqb p q) refl
    where
      pick : (b : Bool) → eqb p q ≡ b → context_of parent p q ≡ meet_all parent (both_goals p q)
      pick true e = rw (both_goals, e) (ap (context_of parent p) (sym (eqb-true p q e)) ∙ context_of_self desc p)
      pick false e = rw (both_goals, e) refl

  both_plain : (p q g : ℕ) → Only (both_goals p q) g → both_goals p q ≡ g ∷ []
  unfolding both_goals
  both_plain p q g o = pick (eqb p q) refl
    where
      pick : (b : Bool) → eqb p q ≡ b → both_goals p q ≡ g ∷ []
      pick true e = rw (both_goals, e) (ap (λ (z : ℕ). z ∷ []) (o.alone p (both_left p q)))
      pick false e = absurd (eqb-false p q e (o.alone p (both_left p q) ∙ sym (o.alone q (both_right p q))))

  -- what the document for an absence's no begins with
  pub begins_absence : {p q : ℕ} → p < count → q < count → Begins parent count (both_goals p q) (start_absence parent p q)
  begins_absence {p} {q} l k = record {
    goals_in = both_goals_lem desc l k;
    word = record {
      small = with_lt (with_path 0 q) p (with_lt 0 q (lit< tt));
      is = λ g. (λ h. out g ((has_with (with_path 0 q) p g (omega arith)).0 h), λ m. into g (both_cases p q g m));
    };
    top = both_top p q;
    plain = both_plain p q;
  }
    where
      later : (g : ℕ) → (g ≡ q) ⊎ Has 0 g → Memᴰ g (both_goals p q)
      later g (inl e) = subst (λ (z : ℕ). Memᴰ z (both_goals p q)) (sym e) (both_right p q)
      later g (inr h) = absurd (has_none h)

      out : (g : ℕ) → (g ≡ p) ⊎ Has (with_path 0 q) g → Memᴰ g (both_goals p q)
      out g (inl e) = subst (λ (z : ℕ). Memᴰ z (both_goals p q)) (sym e) (both_left p q)
      out g (inr h) = later g ((has_with 0 q g (omega arith)).0 h)

      into : (g : ℕ) → (g ≡ p) ⊎ (g ≡ q) → Has (with_path (with_path 0 q) p) g
      into g (inl e) = (has_with (with_path 0 q) p g (omega arith)).1 (inl e)
      into g (inr e) = (has_with (with_path 0 q) p g (omega arith)).1 (inr ((has_with 0 q g (omega arith)).1 (inl e)))

  -- what the document for consistency begins with
  pub begins_consistency : {required : List ℕ} → 0 < count → ((x : ℕ) → Memᴰ x required → x < count)
      → ((x : ℕ) → Memᴰ x required → 0 < x) → Begins parent count (0 ∷ required) (start_consistency (asked_in required))
  begins_consistency {required} z in_table inner = record {
    goals_in = needed_goals desc z in_table;
    word = record {
      small = asked_in_small required;
      is = λ g. Iff.trans (asked_in_iff required (λ x m. omega (arith, in_table x m)) g)
          (goal g, need g);
    };
    top = sym (below_zero desc (meet_above desc (Memᴰ.head refl)));
    plain = λ g o. single required inner g o;
  }
    where
      goal : (g : ℕ) → Needed required g → Memᴰ g (0 ∷ required)
      goal g (root e) = Memᴰ.head e
      goal g (listed m) = Memᴰ.tail m

      need : (g : ℕ) → Memᴰ g (0 ∷ required) → Needed required g
      need g m = pick (Memᴰ.cases_cons m)
        where
          pick : (g ≡ 0) ⊎ Memᴰ g required → Needed required g
          pick (inl e) = root e
          pick (inr k) = listed k

      single : (l : List ℕ) → ((x : ℕ) → Memᴰ x l → 0 < x) → (g : ℕ) → Only (0 ∷ l) g → 0 ∷ l ≡ g ∷ []
      single [] h g o = ap (λ (z : ℕ). z ∷ []) (o.alone 0 (Memᴰ.head refl))
      single (x ∷ l) h g o =
          absurd (omega (
            arith,
            h x (Memᴰ.head refl),
            o.alone 0 (Memᴰ.head refl),
            o.alone x
                (Memᴰ.tail (Memᴰ.head refl)),
          ))

module _ {parent : ℕ → ℕ} {rules : List Rule} {count : ℕ} (fits : Fits parent rules count) where
  -- the computed reachable sets are the words from which a document is made
  pub reachable_words : ReachWords parent rules count (reachable parent rules count)
  reachable_words = record {
    small = λ c x b l. reachable_small fits c x (omega (arith, below_le fits.descending b)) l;
    exactly = λ c x y b l. reachable_iff fits c x (omega (arith, below_le fits.descending b)) l y;
  }

  module _ (shallow : (x : ℕ) → x < count → depth_of parent x ≤ 8) where
    -- the computed document is the one written down by the computed children
    document_writes : {goals : List ℕ} {start : Start} → Begins parent count goals start
        → WritesParts parent (kids_of parent count (reachb parent rules count)) (part_zero goals)
        (handed_entries parent count (reachable parent rules count) start)
    unfolding reachb
    document_writes begins = handed_writes fits.descending fits.rules_in fits.few shallow reachable_words begins

    -- and stands for a tree
    pub document_tree : {goals : List ℕ} {start : Start} → Begins parent count goals start
        → (d : Forest) × StandsFor (handed_entries parent count (reachable parent rules count) start) d
    document_tree begins =
        document_stands fits.descending fits.rules_in (reach_decides fits) begins.goals_in begins.plain (document_writes begins)

    module _ {goals : List ℕ} {start : Start} (begins : Begins parent count goals start) where
      -- it is the document that 01's words give
      pub document_written : WritesDocument parent rules (part_zero goals) (handed_entries parent count (reachable parent rules count) start)
      document_written = computed_words fits.descending fits.rules_in (reach_decides fits) begins.goals_in (document_writes begins)

      -- and they give no other
      pub document_only : {es : List Entry} → WritesDocument parent rules (part_zero goals) es
          → es ≡ handed_entries parent count (reachable parent rules count) start
      document_only w =
          document_unique fits.descending fits.rules_in (reach_decides fits) begins.goals_in begins.plain
          (words_computed fits.descending fits.rules_in (reach_decides fits) begins.goals_in w) (document_writes begins)

      -- at most 449 parts
      pub document_parts : length (handed_entries parent count (reachable parent rules count) start) ≤ 449
      document_parts = parts_few fits.descending fits.rules_in fits.few shallow reachable_words begins

      -- at most 65,536 bytes
      pub document_bytes_lem : length (bytes_of_all (handed_numbers parent count (reachable parent rules count) start)) ≤ 65536
      document_bytes_lem = bytes_few fits.descending fits.rules_in fits.few shallow reachable_words begins

      -- a part list that breaks no condition of 01
      pub document_part_list : ValidParts parent count (handed_entries parent count (reachable parent rules count) start)
      document_part_list =
          document_valid fits.descending fits.rules_in (reach_decides fits) begins.goals_in begins.plain (document_writes begins)
          (omega (arith, document_parts))

    -- an implication answered no: the document obeys the rules and breaks the implication
    pub implication_document : (p q : ℕ) → p < count → q < count → (T (impliesb parent rules count p q) → ⊥) → (d : Forest)
        → StandsFor (handed_entries parent count (reachable parent rules count) (start_implication p)) d
        → BreaksImplication parent rules count p q d
    implication_document p q l k far d s =
        let desc = fits.descending in
        let begins = begins_implication desc fits.few l in
        let t = tree_exists desc fits.rules_in (reach_decides fits) begins.goals_in in
        let iff = implies_iff fits p q l k in
        stands_breaks_implication desc fits.rules_in (reach_decides fits) begins.goals_in begins.plain (document_writes begins) s
        t.1
        (implication_no desc fits.rules_in (reach_decides fits) l (context_of_context desc p q) (λ r. far (iff.1 (inl r)))
        (λ r. far (iff.1 (inr r))) t.1)

    -- a co-occurrence answered no: the document obeys the rules and breaks the first failing direction
    pub co_occurrence_document : (p q : ℕ) → p < count → q < count
        → (T (impliesb parent rules count p q && impliesb parent rules count q p) → ⊥) → (d : Forest)
        → StandsFor (handed_entries parent count (reachable parent rules count) (start_both parent rules count p q)) d
        → BreaksImplication parent rules count p q d
        ⊎ (T (impliesb parent rules count p q) × BreaksImplication parent rules count q p d)
    unfolding start_both
    co_occurrence_document p q l k far d s = pick (impliesb parent rules count p q) refl
      where
        pick : (b : Bool) → impliesb parent rules count p q ≡ b
            → BreaksImplication parent rules count p q d
            ⊎ (T (impliesb parent rules count p q) × BreaksImplication parent rules count q p d)
        pick true e =
            inr (rw e tt, implication_document q p k l (λ t. far (rw e t)) d (rw (start_both, e) at s))
        pick false e = inl (implication_document p q l k (λ t. rw e at t) d (rw (start_both, e) at s))

    -- an absence answered no: the document obeys the rules and breaks the absence
    pub absence_document : (p q : ℕ) → p < count → q < count → (T (excludesb parent rules count p q) → ⊥) → (d : Forest)
        → StandsFor (handed_entries parent count (reachable parent rules count) (start_absence parent p q)) d
        → BreaksAbsence parent rules count p q d
    absence_document p q l k free d s =
        let desc = fits.descending in
        let begins = begins_absence desc fits.few l k in
        let t = tree_exists desc fits.rules_in (reach_decides fits) begins.goals_in in
        stands_breaks_absence desc fits.rules_in (reach_decides fits) begins.goals_in begins.plain (document_writes begins) s t.1
        (absence_no desc fits.rules_in (reach_decides fits) l k (context_of_context desc p q)
        (λ r. free ((excludes_iff fits p q l k).1 r)) t.1)

    -- consistent: the document obeys the rules and holds every required path
    pub consistency_document : (required : List ℕ) → 0 < count → ((x : ℕ) → Memᴰ x required → x < count)
        → ((x : ℕ) → Memᴰ x required → 0 < x) → T (consistentb parent rules count (asked_in required)) → (d : Forest)
        → StandsFor (handed_entries parent count (reachable parent rules count) (start_consistency (asked_in required))) d
        → Witnesses parent rules count required d
    consistency_document required z in_table inner c d s =
        let desc = fits.descending in
        let begins = begins_consistency desc fits.few z in_table inner in
        let t = tree_exists desc fits.rules_in (reach_decides fits) begins.goals_in in
        stands_witnesses desc fits.rules_in (reach_decides fits) begins.goals_in begins.plain (document_writes begins) s t.1
        (consistency_yes desc fits.rules_in (reach_decides fits) z in_table
        ((consistent_exactly desc fits.rules_in (reach_decides fits) z in_table).0 ((consistent_some fits required z in_table).0 c)) t.1)
