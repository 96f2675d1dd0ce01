-- The walks found by the words of a sheet are the written walks of the table, and a walk is found exactly if there is one.
use Prim.Native.Nat.{ℕ, ◌<◌}
use mathlib.Core.Path.{◌≡◌, refl, sym, subst}
use mathlib.Core.Logic.{◌↔◌}
use mathlib.Core.Bool.{Bool, true, false, ◌&&◌, ◌||◌}
use mathlib.Core.List.{List}
use native.Mathlib.Omega.{arith}
use native.Mathlib.Decide.{ℕ_discrete, dec_lt}
use lib.Dec.{T, eqb, ltb}
use borrow.Author.Tests.{eq-eqb, ne_eqb, le-ltb}
use Rattle.files.specs.Table.{Rule}
use Rattle.documents.specs.Paths.{context_of}
use Rattle.documents.proofs.Paths.{context_is, context_of_context}
use Rattle.theory.specs.Walk.{Reach}
use Rattle.theory.specs.Least.{some_in}
use Rattle.theory.specs.Reachable.{Fits, reachb}
use Rattle.theory.specs.Evidence.{direct_numbers}
use Rattle.theory.specs.Search.{rule_move, least_move, written_walk}
use Rattle.files.specs.Sets.{hasb}
use Rattle.theory.proofs.Walks.{reach_refl}
use Rattle.theory.proofs.Reachable.{reachb_iff}
use Rattle.theory.proofs.Evidence.{meets_in_table}
use Rattle.reachable.specs.Sheet.{row, below_at, context_in, parent_in, rules_on}
use Rattle.reachable.specs.SheetWords.{LaidOut}
use Rattle.evidence.specs.Nearer.{nearer, walk_on}
use Rattle.evidence.specs.Grounds.{direct_in, direct_on}
use Rattle.evidence.proofs.Nearing.{nearer_some, nearer_none, codes_written}

-- two tests that pass together are equal
pub same_test : (a b : Bool) → T a ↔ T b → a ≡ b
same_test true true h = refl
same_test true false h = absurd (h.0 tt)
same_test false true h = absurd (h.1 tt)
same_test false false h = refl

pub true_of : (b : Bool) → b ≡ true → T b
true_of b e = rw e tt

pub T_true : (b : Bool) → T b → b ≡ true
T_true true t = refl
T_true false t = absurd t

module _ {parent : ℕ → ℕ} {rules : List Rule} {count : ℕ} (fits : Fits parent rules count) {sheet : List ℕ} (laid : LaidOut parent rules count sheet) where
  -- the least step by the sheet is that by the table
  move_same : (x s : ℕ) → x < count → least_move (parent_in sheet) (rules_on sheet) x s ≡ least_move parent rules x s
  unfolding least_move
  move_same x s h = pick (dec_lt 0 x)
    where
      pick : Dec (0 < x) → least_move (parent_in sheet) (rules_on sheet) x s ≡ least_move parent rules x s
      pick (yes z) =
          λ i. elim (ltb 0 x && hasb s (laid.paths.parent_is x z h i)) [
            | true ↦ record { code = 0; to = laid.paths.parent_is x z h i }
            | false ↦ rule_move (laid.list.list i) 0 x s
          ]
      pick (no n) = rw (least_move, le-ltb 0 x (omega (arith, n)), laid.list.list)

  module _ (c x y : ℕ) (inner : c < count) (given : x < count) where
    pub walk_same : walk_on sheet c x y ≡ written_walk parent rules count c x y
    unfolding walk_on
    walk_same =
        codes_written fits c y inner sheet (row below_at sheet c) (λ z. laid.paths.below c z inner)
        (λ u z l. laid.steps.turned u z l) laid.steps.turned_small move_same x given

  module _ (p q : ℕ) (first : p < count) (second : q < count) where
    pub context_same : context_in sheet p q ≡ context_of parent p q
    context_same = sym (context_is fits.descending (laid.paths.context p q first second))

    c : ℕ
    c = context_of parent p q

    low : c < count
    unfolding c
    low = meets_in_table fits p q first

    pub direct_same : direct_in sheet p q ≡ reachb parent rules count (context_of parent p q) p q
    unfolding direct_in c some_in
    direct_same = rw context_same (pick (ℕ_discrete p q))
      where
        within : ℕ
        within = row below_at sheet c

        test : Bool
        test = some_in (nearer sheet within p q)

        iff : T (reachb parent rules count c p q) ↔ Reach parent rules c p q
        iff = reachb_iff fits c p low first q

        pick : Dec (p ≡ q) → (eqb p q || test) ≡ reachb parent rules count c p q
        pick (yes e) =
            rw (eq-eqb p q e)
            (sym (T_true (reachb parent rules count c p q) (iff.1 (subst (λ (v : ℕ). Reach parent rules c p v) e (reach_refl (context_of_context fits.descending p q).left)))))
        pick (no n) =
            rw (ne_eqb p q n)
            (same_test test (reachb parent rules count c p q) (
              λ t. reached t,
              λ t. nearer_some fits c q low sheet within (λ z. laid.paths.below c z low) (λ u z l. laid.steps.turned u z l)
                  laid.steps.turned_small p first n (iff.0 t),
            ))
          where
            reached : T test → T (reachb parent rules count c p q)
            reached t = choose (reachb parent rules count c p q) refl
              where
                choose : (b : Bool) → reachb parent rules count c p q ≡ b → T (reachb parent rules count c p q)
                choose true e = rw e tt
                choose false e =
                    absurd (rw (nearer_none fits c q low sheet within (λ z. laid.paths.below c z low) (λ u z l. laid.steps.turned u z l)
                    laid.steps.turned_small p (λ r. rw e at (iff.1 r))) at t)

    pub direct_numbers_lem : direct_on sheet p q ≡ direct_numbers parent rules count p q
    unfolding direct_on direct_numbers c
    direct_numbers_lem = rw (context_same, walk_same c p q low first)
