-- The evidence computed for a question answered yes, and for an inconsistent set, is the one that is written, and the only one.
use Prim.Native.Nat.{ℕ, ◌<◌}
use mathlib.Core.Path.{◌≡◌, refl, sym, ap₂, ◌∙◌, subst}
use mathlib.Core.Logic.{◌⊎◌, inl, inr, ◌↔◌}
use mathlib.Core.Bool.{Bool, true, false, ◌&&◌, ◌||◌}
use mathlib.Core.List.{List, ◌++◌}
use native.Mathlib.Omega.{arith}
use lib.Dec.{T}
use lib.Ieee.Fits.{and_l, and_r}
use Rattle.files.specs.Table.{Rule}
use Rattle.files.specs.Sets.{Has}
use Rattle.documents.specs.Paths.{context_of}
use Rattle.documents.proofs.Paths.{context_of_context, context_is}
use Rattle.theory.specs.Walk.{Reach, Dead, Pair}
use Rattle.theory.specs.Walk
use Rattle.theory.specs.Reachable.{Fits, reachb}
use Rattle.theory.specs.Decide.{
  Sided,
  LeastPair,
  RootPair,
  is_dead,
  pair_rule,
  pair_side,
  is_pair,
  is_root_pair,
  root_rule,
  root_first,
  root_second,
  dead_asked,
  is_asked_dead,
}
use Rattle.theory.specs.Decide
use Rattle.theory.specs.Evidence.{
  WritesDead,
  WritesImplication,
  WritesAbsence,
  Writes,
  WritesInconsistent,
  impliesb,
  excludesb,
  yesb,
  consistentb,
  pair_numbers,
  implication_numbers,
  absence_numbers,
  evidence_numbers,
  inconsistent_numbers,
}
use Rattle.theory.proofs.Reachable.{reachb_iff}
use Rattle.theory.proofs.Decide.{is_dead_iff}
use Rattle.theory.proofs.Pairs.{either_iff, pair_least, is_pair_iff, least_pair_unique}
use Rattle.theory.proofs.RootPair.{root_pair_least, least_root_pair_unique, is_root_pair_iff, dead_asked_lowest, is_asked_dead_iff}
use Rattle.theory.proofs.Evidence.{
  meets_in_table,
  direct_written,
  direct_only,
  dead_written,
  dead_only,
  pair_numbers_written,
  pair_numbers_only,
}

-- what a test's value says
data Told (P : Type 0) (b : Bool) : Type 0 where
  holds : b ≡ true → P → Told P b
  fails : b ≡ false → (P → ⊥) → Told P b

told : {P : Type 0} (b : Bool) → T b ↔ P → Told P b
told true e = holds refl (e.0 tt)
told false e = fails refl (λ h. e.1 h)

module _ {parent : ℕ → ℕ} {rules : List Rule} {count : ℕ} (fits : Fits parent rules count) where
  module _ (p q : ℕ) (first : p < count) (second : q < count) where
    reach_iff : T (reachb parent rules count (context_of parent p q) p q) ↔ Reach parent rules (context_of parent p q) p q
    reach_iff = reachb_iff fits (context_of parent p q) p (meets_in_table fits p q first) first q

    -- an implication is answered yes exactly if direct or dead
    pub implies_iff : T (impliesb parent rules count p q) ↔ (Reach parent rules (context_of parent p q) p q ⊎ Dead parent rules p)
    unfolding impliesb
    implies_iff = (
      λ t. to ((either_iff (reachb parent rules count (context_of parent p q) p q) (is_dead parent rules count p)).0 t),
      λ d. (either_iff (reachb parent rules count (context_of parent p q) p q) (is_dead parent rules count p)).1 (back d),
    )
      where
        to : T (reachb parent rules count (context_of parent p q) p q) ⊎ T (is_dead parent rules count p)
            → Reach parent rules (context_of parent p q) p q ⊎ Dead parent rules p
        to (inl t) = inl (reach_iff.0 t)
        to (inr t) = inr ((is_dead_iff fits p first).0 t)

        back : Reach parent rules (context_of parent p q) p q ⊎ Dead parent rules p
            → T (reachb parent rules count (context_of parent p q) p q) ⊎ T (is_dead parent rules count p)
        back (inl a) = inl (reach_iff.1 a)
        back (inr d) = inr ((is_dead_iff fits p first).1 d)

    -- an absence is answered yes exactly if a side is dead or there is a pair
    pub excludes_iff : T (excludesb parent rules count p q)
        ↔ (Dead parent rules p ⊎ (Dead parent rules q ⊎ Pair parent rules (context_of parent p q) p q))
    unfolding excludesb
    excludes_iff = (λ t. to ((either_iff dead_p (dead_q || pair)).0 t), λ d. (either_iff dead_p (dead_q || pair)).1 (back d))
      where
        dead_p : Bool
        dead_p = is_dead parent rules count p

        dead_q : Bool
        dead_q = is_dead parent rules count q

        pair : Bool
        pair = is_pair parent rules count (context_of parent p q) p q

        to_q : T dead_q ⊎ T pair → Dead parent rules q ⊎ Pair parent rules (context_of parent p q) p q
        to_q (inl t) = inl ((is_dead_iff fits q second).0 t)
        to_q (inr t) = inr ((is_pair_iff fits (context_of parent p q) p q first second).0 t)

        to : T dead_p ⊎ T (dead_q || pair) → Dead parent rules p ⊎ (Dead parent rules q ⊎ Pair parent rules (context_of parent p q) p q)
        to (inl t) = inl ((is_dead_iff fits p first).0 t)
        to (inr t) = inr (to_q ((either_iff dead_q pair).0 t))

        back_q : Dead parent rules q ⊎ Pair parent rules (context_of parent p q) p q → T dead_q ⊎ T pair
        back_q (inl d) = inl ((is_dead_iff fits q second).1 d)
        back_q (inr d) = inr ((is_pair_iff fits (context_of parent p q) p q first second).1 d)

        back : Dead parent rules p ⊎ (Dead parent rules q ⊎ Pair parent rules (context_of parent p q) p q) → T dead_p ⊎ T (dead_q || pair)
        back (inl d) = inl ((is_dead_iff fits p first).1 d)
        back (inr d) = inr ((either_iff dead_q pair).1 (back_q d))

    pub implication_written : T (impliesb parent rules count p q)
        → WritesImplication parent rules p q (implication_numbers parent rules count p q)
    unfolding implication_numbers
    implication_written t = pick (told (reachb parent rules count (context_of parent p q) p q) reach_iff) (implies_iff.0 t)
      where
        pick : Told (Reach parent rules (context_of parent p q) p q) (reachb parent rules count (context_of parent p q) p q)
            → Reach parent rules (context_of parent p q) p q ⊎ Dead parent rules p
            → WritesImplication parent rules p q (implication_numbers parent rules count p q)
        pick (holds e a) d = rw (implication_numbers, e) (WritesImplication.direct (direct_written fits p q first a))
        pick (fails e n) (inl a) = absurd (n a)
        pick (fails e n) (inr d) =
            rw (implication_numbers, e) (WritesImplication.dead (context_of parent p q) (context_of_context fits.descending p q) n
            (dead_written fits p first d))

    pub implication_only : {numbers : List ℕ} → WritesImplication parent rules p q numbers
        → numbers ≡ implication_numbers parent rules count p q
    unfolding implication_numbers
    implication_only {numbers} w = pick w (told (reachb parent rules count (context_of parent p q) p q) reach_iff)
      where
        pick : WritesImplication parent rules p q numbers
            → Told (Reach parent rules (context_of parent p q) p q) (reachb parent rules count (context_of parent p q) p q)
            → numbers ≡ implication_numbers parent rules count p q
        pick (WritesImplication.direct d) (holds e a) = rw (implication_numbers, e) (direct_only fits first d)
        pick (WritesImplication.direct d) (fails e n) =
            absurd (n (subst (λ (c : ℕ). Reach parent rules c p q) (sym (context_is fits.descending d.is_context))
            (record { codes = d.codes; walk = d.walk.walk })))
        pick (WritesImplication.dead c is n d) (holds e a) =
            absurd (n (subst (λ (c : ℕ). Reach parent rules c p q) (context_is fits.descending is) a))
        pick (WritesImplication.dead c is n d) (fails e m) = rw (implication_numbers, e) (dead_only fits p first d)

    pub absence_written : T (excludesb parent rules count p q) → WritesAbsence parent rules p q (absence_numbers parent rules count p q)
    unfolding absence_numbers
    absence_written t =
        pick (told (is_dead parent rules count p) (is_dead_iff fits p first)) (told (is_dead parent rules count q) (is_dead_iff fits q second))
        (excludes_iff.0 t)
      where
        c : ℕ
        c = context_of parent p q

        r : ℕ
        r = pair_rule parent rules count c p q

        side : ℕ
        side = pair_side parent rules count c p q r

        least : Pair parent rules c p q → LeastPair parent rules c p q r side
        least (Walk.straight s d) = pair_least fits c p q first second s (inl d)
        least (Walk.crossed s d) = pair_least fits c p q first second s (inr d)

        excluded : (Dead parent rules p → ⊥) → (Dead parent rules q → ⊥) → LeastPair parent rules c p q r side
            → WritesAbsence parent rules p q (pair_numbers parent rules count p q r side)
        excluded n m l =
            WritesAbsence.pair n m c r side (context_of_context fits.descending p q) l (pair_numbers_written fits first second l.by)

        pick : Told (Dead parent rules p) (is_dead parent rules count p) → Told (Dead parent rules q) (is_dead parent rules count q)
            → Dead parent rules p ⊎ (Dead parent rules q ⊎ Pair parent rules c p q)
            → WritesAbsence parent rules p q (absence_numbers parent rules count p q)
        pick (holds e d) k s = rw (absence_numbers, e) (WritesAbsence.dead_first (dead_written fits p first d))
        pick (fails e n) (holds f d) s = rw (absence_numbers, e, f) (WritesAbsence.dead_second n (dead_written fits q second d))
        pick (fails e n) (fails f m) (inl d) = absurd (n d)
        pick (fails e n) (fails f m) (inr (inl d)) = absurd (m d)
        pick (fails e n) (fails f m) (inr (inr d)) = rw (absence_numbers, e, f) (excluded n m (least d))

    pub absence_only : {numbers : List ℕ} → WritesAbsence parent rules p q numbers → numbers ≡ absence_numbers parent rules count p q
    unfolding absence_numbers
    absence_only {numbers} w =
        pick w (told (is_dead parent rules count p) (is_dead_iff fits p first))
        (told (is_dead parent rules count q) (is_dead_iff fits q second))
      where
        dead_of : {x : ℕ} → WritesDead parent rules x numbers → Dead parent rules x
        dead_of d = record { y = d.y; r = d.r; by = d.least.by }

        c : ℕ
        c = context_of parent p q

        least : {r side : ℕ} → Sided parent rules c p q r side
            → LeastPair parent rules c p q (pair_rule parent rules count c p q)
            (pair_side parent rules count c p q (pair_rule parent rules count c p q))
        least {r} (Decide.straight d) = pair_least fits c p q first second r (inl d)
        least {r} (Decide.crossed n d) = pair_least fits c p q first second r (inr d)

        pick : WritesAbsence parent rules p q numbers → Told (Dead parent rules p) (is_dead parent rules count p)
            → Told (Dead parent rules q) (is_dead parent rules count q) → numbers ≡ absence_numbers parent rules count p q
        pick (WritesAbsence.dead_first d) (holds e k) s = rw (absence_numbers, e) (dead_only fits p first d)
        pick (WritesAbsence.dead_first d) (fails e n) s = absurd (n (dead_of d))
        pick (WritesAbsence.dead_second n d) (holds e k) s = absurd (n k)
        pick (WritesAbsence.dead_second n d) (fails e m) (holds f k) = rw (absence_numbers, e, f) (dead_only fits q second d)
        pick (WritesAbsence.dead_second n d) (fails e m) (fails f k) = absurd (k (dead_of d))
        pick (WritesAbsence.pair n m a r side is l d) (holds e k) s = absurd (n k)
        pick (WritesAbsence.pair n m a r side is l d) (fails e k) (holds f j) = absurd (m j)
        pick (WritesAbsence.pair n m a r side is l d) (fails e k) (fails f j) =
            let at_c : LeastPair parent rules c p q r side =
            subst (λ (z : ℕ). LeastPair parent rules z p q r side) (sym (context_is fits.descending is)) l in
            let same = least_pair_unique at_c (least at_c.by) in
            rw (absence_numbers, e, f) (cc (same.0, same.1, pair_numbers_only fits first second d))

    -- both implications' evidence, p to q first
    both_iff : T (impliesb parent rules count p q && impliesb parent rules count q p)
        → T (impliesb parent rules count p q) × T (impliesb parent rules count q p)
    both_iff t = (
      and_l (impliesb parent rules count p q) (impliesb parent rules count q p) t,
      and_r (impliesb parent rules count p q) (impliesb parent rules count q p) t,
    )

  -- the evidence computed for a question answered yes is the one that is written
  pub evidence_written : (kind p q : ℕ) → p < count → q < count → (kind ≡ 1) ⊎ ((kind ≡ 2) ⊎ (kind ≡ 3))
      → T (yesb parent rules count kind p q) → Writes parent rules kind p q (evidence_numbers parent rules count kind p q)
  unfolding yesb evidence_numbers
  evidence_written kind p q h k (inl e) t = rw e (Writes.implication refl (implication_written p q h k (rw e at t)))
  evidence_written kind p q h k (inr (inl e)) t = rw e (Writes.absence refl (absence_written p q h k (rw e at t)))
  evidence_written kind p q h k (inr (inr e)) t =
      let both = both_iff p q h k (rw e at t) in
      rw e (Writes.co_occurrence refl (record {
        there = implication_numbers parent rules count p q;
        back = implication_numbers parent rules count q p;
        writes_there = implication_written p q h k both.0;
        writes_back = implication_written q p k h both.1;
        are = refl;
      }))

  -- no other evidence is written for a question
  pub evidence_only : (kind p q : ℕ) {numbers : List ℕ} → p < count → q < count → Writes parent rules kind p q numbers
      → numbers ≡ evidence_numbers parent rules count kind p q
  unfolding evidence_numbers
  evidence_only kind p q h k (Writes.implication e w) = rw e (implication_only p q h k w)
  evidence_only kind p q h k (Writes.absence e w) = rw e (absence_only p q h k w)
  evidence_only kind p q h k (Writes.co_occurrence e w) =
      rw e (w.are ∙ ap₂ ◌++◌ (implication_only p q h k w.writes_there) (implication_only q p k h w.writes_back))

  module _ (asked : ℕ) (some-path : 0 < count) (in_table : (x : ℕ) → Has asked x → x < count) where
    -- a set is computed to be consistent exactly if there is no root pair and no dead path asked for
    pub consistent_iff : T (consistentb parent rules count asked)
        ↔ (((x y r : ℕ) → RootPair parent rules asked x y r → ⊥) × ((x : ℕ) → Has asked x → Dead parent rules x → ⊥))
    unfolding consistentb
    consistent_iff =
        pick (told (is_root_pair parent rules count asked) (is_root_pair_iff fits asked some-path in_table))
        (told (is_asked_dead parent rules count asked) (is_asked_dead_iff fits asked some-path in_table))
      where
        pick : Told ((x : ℕ) × (y : ℕ) × (r : ℕ) × RootPair parent rules asked x y r) (is_root_pair parent rules count asked)
            → Told ((x : ℕ) × Has asked x × Dead parent rules x) (is_asked_dead parent rules count asked)
            → T (consistentb parent rules count asked)
            ↔ (((x y r : ℕ) → RootPair parent rules asked x y r → ⊥) × ((x : ℕ) → Has asked x → Dead parent rules x → ⊥))
        pick (holds e d) k = rw (consistentb, e) (λ t. absurd t, λ n. n.0 d.0 d.1 d.2 d.3)
        pick (fails e n) (holds f d) = rw (consistentb, e, f) (λ t. absurd t, λ m. m.1 d.0 d.1 d.2)
        pick (fails e n) (fails f m) = rw (consistentb, e, f) (λ t. (λ x y r d. n (x, y, r, d), λ x h d. m (x, h, d)), λ k. tt)

    pub inconsistent_written : (T (consistentb parent rules count asked) → ⊥)
        → WritesInconsistent parent rules asked (inconsistent_numbers parent rules count asked)
    unfolding inconsistent_numbers consistentb
    inconsistent_written never =
        pick (told (is_root_pair parent rules count asked) (is_root_pair_iff fits asked some-path in_table))
        (told (is_asked_dead parent rules count asked) (is_asked_dead_iff fits asked some-path in_table))
      where
        by_pair : {x y r : ℕ} → RootPair parent rules asked x y r
            → WritesInconsistent parent rules asked (pair_numbers parent rules count
            (root_first parent rules count asked (root_rule parent rules count asked))
            (root_second parent rules count asked (root_rule parent rules count asked)) (root_rule parent rules count asked) 0)
        by_pair {x} {y} {r} d =
            let l = root_pair_least fits asked some-path in_table x y r d in
            WritesInconsistent.pair
            (root_first parent rules count asked (root_rule parent rules count asked))
            (root_second parent rules count asked (root_rule parent rules count asked)) (root_rule parent rules count asked) l
            (pair_numbers_written fits (in_table _ l.by.first) (in_table _ l.by.second) (Decide.straight l.by.by))

        pick : Told ((x : ℕ) × (y : ℕ) × (r : ℕ) × RootPair parent rules asked x y r) (is_root_pair parent rules count asked)
            → Told ((x : ℕ) × Has asked x × Dead parent rules x) (is_asked_dead parent rules count asked)
            → WritesInconsistent parent rules asked (inconsistent_numbers parent rules count asked)
        pick (holds e d) k = rw (inconsistent_numbers, e) (by_pair d.3)
        pick (fails e n) (holds f d) =
            let l = dead_asked_lowest fits asked some-path in_table (rw f tt) in
            rw (inconsistent_numbers, e) (WritesInconsistent.dead (λ x y r k. n (x, y, r, k)) (dead_asked parent rules count asked) l
            (dead_written fits (dead_asked parent rules count asked) (in_table _ l.member) l.dead))
        pick (fails e n) (fails f m) = absurd (never (consistent_iff.1 (λ x y r d. n (x, y, r, d), λ x h d. m (x, h, d))))

    pub inconsistent_only : {numbers : List ℕ} → WritesInconsistent parent rules asked numbers
        → numbers ≡ inconsistent_numbers parent rules count asked
    unfolding inconsistent_numbers
    inconsistent_only {numbers} w = pick w (told (is_root_pair parent rules count asked) (is_root_pair_iff fits asked some-path in_table))
      where
        pick : WritesInconsistent parent rules asked numbers
            → Told ((x : ℕ) × (y : ℕ) × (r : ℕ) × RootPair parent rules asked x y r) (is_root_pair parent rules count asked)
            → numbers ≡ inconsistent_numbers parent rules count asked
        pick (WritesInconsistent.pair x y r l d) (holds e k) =
            let same = least_root_pair_unique l (root_pair_least fits asked some-path in_table x y r l.by) in
            rw (inconsistent_numbers, e)
            (cc (same.0, same.1, same.2, pair_numbers_only fits (in_table x l.by.first) (in_table y l.by.second) d))
        pick (WritesInconsistent.pair x y r l d) (fails e n) = absurd (n (x, y, r, l.by))
        pick (WritesInconsistent.dead n x l d) (holds e k) = absurd (n k.0 k.1 k.2 k.3)
        pick (WritesInconsistent.dead n x l d) (fails e m) =
            let low = dead_asked_lowest fits asked some-path in_table
            ((is_asked_dead_iff fits asked some-path in_table).1 (x, l.member, l.dead)) in
            let same : x ≡ dead_asked parent rules count asked =
            omega (arith, l.lowest (dead_asked parent rules count asked) low.member low.dead, low.lowest x l.member l.dead) in
            rw (inconsistent_numbers, e, ← same) (dead_only fits x (in_table x l.member) d)
