-- The computed answers say what holds in every document that obeys the rules.
use Prim.Native.Nat.{ℕ, ◌<◌}
use mathlib.Core.Logic.Iff
use mathlib.Core.Logic.{◌↔◌}
use mathlib.Core.Bool.{Bool, true, false, ◌&&◌}
use mathlib.Core.List.{List, Memᴰ}
use native.Mathlib.Omega.{arith}
use lib.Dec.{T}
use lib.Ieee.Fits.{and_i, and_l, and_r}
use Rattle.files.specs.Table.{Rule}
use Rattle.files.specs.Sets.{Has}
use Rattle.documents.specs.Paths.{context_of}
use Rattle.documents.proofs.Paths.{below_le, context_of_context}
use Rattle.theory.specs.Walk.{Dead}
use Rattle.theory.specs.Required.{Needed, root, listed, Conflict, pair, dead}
use Rattle.theory.specs.Parts.{Decides}
use Rattle.theory.specs.Follows.{Implied, Excluded, Together, Consistent}
use Rattle.theory.specs.Reachable.{Fits, reachb}
use Rattle.theory.specs.Decide.{RootPair, asked_in, is_dead}
use Rattle.theory.specs.Evidence.{impliesb, excludesb, consistentb}
use Rattle.theory.proofs.Reachable.{reachb_iff}
use Rattle.theory.proofs.Decide.{is_dead_iff}
use Rattle.theory.proofs.RootPair.{asked_in_iff}
use Rattle.theory.proofs.Evidence.{meets_in_table}
use Rattle.theory.proofs.Writes.{implies_iff, excludes_iff, consistent_iff}
use Rattle.theory.proofs.Equivalences.{implication_exactly, absence_exactly, consistent_exactly}

-- what a test decides is decided
decided : {P : Type 0} (b : Bool) → T b ↔ P → Dec P
decided true e = yes (e.0 tt)
decided false e = no (λ h. e.1 h)

module _ {parent : ℕ → ℕ} {rules : List Rule} {count : ℕ} (fits : Fits parent rules count) where
  -- the computed test decides reachable
  pub reach_decides : Decides parent rules count (reachb parent rules count)
  reach_decides = record { exactly = λ c x y b h k. reachb_iff fits c x (omega (arith, below_le fits.descending b)) h y }

  module _ (p q : ℕ) (first : p < count) (second : q < count) where
    -- an implication is answered yes exactly if it holds in every document that obeys the rules
    pub implies_every : T (impliesb parent rules count p q) ↔ Implied parent rules count p q
    implies_every =
        Iff.trans (implies_iff fits p q first second) (Iff.symm
        (implication_exactly fits.descending fits.rules_in reach_decides first (context_of_context fits.descending p q)
        (decided (reachb parent rules count (context_of parent p q) p q)
        (reachb_iff fits (context_of parent p q) p (meets_in_table fits p q first) first q))
        (decided (is_dead parent rules count p) (is_dead_iff fits p first))))

    -- an absence is answered yes exactly if it holds in every document that obeys the rules
    pub excludes_every : T (excludesb parent rules count p q) ↔ Excluded parent rules count p q
    excludes_every =
        Iff.trans (excludes_iff fits p q first second) (Iff.symm
        (absence_exactly fits.descending fits.rules_in reach_decides first second (context_of_context fits.descending p q)
        (decided (excludesb parent rules count p q) (excludes_iff fits p q first second))))

  -- a co-occurrence is answered yes exactly if it holds in every document that obeys the rules
  pub together_every : (p q : ℕ) → p < count → q < count
      → T (impliesb parent rules count p q && impliesb parent rules count q p) ↔ Together parent rules count p q
  together_every p q h k = (
    λ t. record {
      along = (implies_every p q h k).0 (and_l (impliesb parent rules count p q) (impliesb parent rules count q p) t);
      against = (implies_every q p k h).0 (and_r (impliesb parent rules count p q) (impliesb parent rules count q p) t);
    },
    λ s. and_i (impliesb parent rules count p q) (impliesb parent rules count q p)
        ((implies_every p q h k).1 s.along) ((implies_every q p k h).1 s.against),
  )

  -- the rules are computed to be consistent with the required paths exactly if some document that obeys them holds these
  pub consistent_some : (required : List ℕ) → 0 < count → ((x : ℕ) → Memᴰ x required → x < count)
      → T (consistentb parent rules count (asked_in required)) ↔ Consistent parent rules count required
  consistent_some required z in_table =
      Iff.trans (consistent_iff fits (asked_in required) z asked_in_lem)
      (Iff.trans (to_free, from_free) (Iff.symm (consistent_exactly fits.descending fits.rules_in reach_decides z in_table)))
    where
      needed : (x : ℕ) → Has (asked_in required) x ↔ Needed required x
      needed = asked_in_iff required (λ x m. omega (arith, in_table x m, fits.few))

      needed_in : (x : ℕ) → Needed required x → x < count
      needed_in x (root e) = omega arith
      needed_in x (listed m) = in_table x m

      asked_in_lem : (x : ℕ) → Has (asked_in required) x → x < count
      asked_in_lem x h = needed_in x ((needed x).0 h)

      Free : Type 0
      Free =
          ((x y r : ℕ) → RootPair parent rules (asked_in required) x y r → ⊥)
          × ((x : ℕ) → Has (asked_in required) x → Dead parent rules x → ⊥)

      to_free : Free → Conflict parent rules required → ⊥
      to_free f (pair {first} {second} r h k d) =
          f.0 first second r (record { first = (needed first).1 h; second = (needed second).1 k; by = d })
      to_free f (dead {p} h d) = f.1 p ((needed p).1 h) d

      from_free : (Conflict parent rules required → ⊥) → Free
      from_free n = (
        λ x y r d. n (pair r ((needed x).0 d.first) ((needed y).0 d.second) d.by),
        λ x h d. n (dead ((needed x).0 h) d),
      )
