-- The three equivalences: an implication, an absence and consistency hold exactly if walks, dead paths and pairs say so.
use Prim.Native.Nat.{ℕ, ◌<◌}
use mathlib.Core.Logic.{◌⊎◌, inl, inr, ◌↔◌}
use mathlib.Core.Bool.{Bool}
use mathlib.Core.List.{List, Memᴰ}
use Rattle.files.specs.Table.{Rule}
use Rattle.documents.specs.Paths.{Context, Descending}
use Rattle.documents.proofs.Paths.{context_sym}
use Rattle.theory.specs.Walk.{Reach, Dead, Pair}
use Rattle.theory.specs.Required.{Conflict}
use Rattle.theory.specs.Follows.{Implied, Excluded, Together, Consistent}
use Rattle.theory.specs.Parts.{RulesIn, Decides}
use Rattle.theory.proofs.Soundness.{implication_sound, absence_sound, conflict_sound}
use Rattle.theory.proofs.Completeness.{tree_exists}
use Rattle.theory.proofs.HandedBack.{
  one_goals,
  both_goals_lem,
  needed_goals,
  implication_no,
  absence_no,
  consistency_yes,
}

module _ {parent : ℕ → ℕ} {rules : List Rule} {count : ℕ} {reach : ℕ → ℕ → ℕ → Bool} (desc : Descending parent)
    (within : RulesIn count rules) (decides : Decides parent rules count reach) where
  -- an implication holds in every document that obeys exactly if its right side is reachable from its left inside their
  -- context, or its left side is dead
  pub implication_exactly : {p q c : ℕ} → p < count → Context parent p q c → Dec (Reach parent rules c p q) → Dec (Dead parent rules p)
      → Implied parent rules count p q ↔ (Reach parent rules c p q ⊎ Dead parent rules p)
  implication_exactly {p} {q} {c} l x r k =
      (λ h. pick h r k, λ s. record { every = λ d doc o. implication_sound desc doc o x s })
    where
      pick : Implied parent rules count p q → Dec (Reach parent rules c p q) → Dec (Dead parent rules p)
          → Reach parent rules c p q ⊎ Dead parent rules p
      pick h (yes a) k = inl a
      pick h (no a) (yes b) = inr b
      pick h (no a) (no b) =
          let t = tree_exists desc within decides (one_goals desc l) in
          let w = implication_no desc within decides l x a b t.1 in
          absurd (w.breaks (h.every t.0 w.is_document w.obeys))

  -- a co-occurrence holds in every document that obeys exactly if both implications do
  pub together_exactly : {p q c : ℕ} → p < count → q < count → Context parent p q c → Dec (Reach parent rules c p q)
      → Dec (Dead parent rules p) → Dec (Reach parent rules c q p) → Dec (Dead parent rules q)
      → Together parent rules count p q
      ↔ ((Reach parent rules c p q ⊎ Dead parent rules p) × (Reach parent rules c q p ⊎ Dead parent rules q))
  together_exactly lp lq x r k s j =
      let along = implication_exactly lp x r k in
      let against = implication_exactly lq (context_sym desc x) s j in
      (λ h. (along.0 h.along, against.0 h.against), λ h. record { along = along.1 h.0; against = against.1 h.1 })

  -- an absence holds in every document that obeys exactly if a side is dead or a pair excludes them
  pub absence_exactly : {p q c : ℕ} → p < count → q < count → Context parent p q c
      → Dec (Dead parent rules p ⊎ (Dead parent rules q ⊎ Pair parent rules c p q))
      → Excluded parent rules count p q ↔ (Dead parent rules p ⊎ (Dead parent rules q ⊎ Pair parent rules c p q))
  absence_exactly {p} {q} {c} lp lq x k = (λ h. pick h k, λ s. record { every = λ d doc o. absence_sound desc doc o x s })
    where
      pick : Excluded parent rules count p q → Dec (Dead parent rules p ⊎ (Dead parent rules q ⊎ Pair parent rules c p q))
          → Dead parent rules p ⊎ (Dead parent rules q ⊎ Pair parent rules c p q)
      pick h (yes a) = a
      pick h (no a) =
          let t = tree_exists desc within decides (both_goals_lem desc lp lq) in
          let w = absence_no desc within decides lp lq x a t.1 in
          absurd (w.breaks (h.every t.0 w.is_document w.obeys))

  -- the rules are consistent with the required paths exactly if these do not conflict
  pub consistent_exactly : {required : List ℕ} → 0 < count → ((g : ℕ) → Memᴰ g required → g < count)
      → Consistent parent rules count required ↔ (Conflict parent rules required → ⊥)
  consistent_exactly z h = (
    λ s k. conflict_sound desc s.witnesses.is_document s.witnesses.obeys k s.witnesses.holds,
    λ free.
        let t = tree_exists desc within decides (needed_goals desc z h) in
        record { document = t.0; witnesses = consistency_yes desc within decides z h free t.1 },
  )
