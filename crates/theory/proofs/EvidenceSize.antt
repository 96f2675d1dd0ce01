-- The evidence that is written has at most 392 numbers, each at most 512: at most 784 bytes.
use Prim.Native.Nat.{ℕ, suc, ◌+◌, ◌≤◌, ◌<◌}
use mathlib.Core.Path.{◌≡◌}
use mathlib.Core.Logic.{◌⊎◌, inl, inr}
use mathlib.Core.List.Memᴰ
use mathlib.Core.List.{List, ◌∷◌, ◌++◌, Memᴰ}
use native.Mathlib.Omega.{arith}
use lib.ListN.{length, length-append}
use Rattle.files.specs.Table.{Rule}
use Rattle.files.specs.Sets.{Has}
use Rattle.theory.specs.Walk.{Step, climb, along, against, Walk, stay, step}
use Rattle.theory.specs.Written.{Written}
use Rattle.theory.specs.Reachable.{Fits}
use Rattle.theory.specs.Evidence.{
  walk_numbers,
  DirectNumbers,
  DeadNumbers,
  Ends,
  straight,
  crossed,
  PairNumbers,
  WritesImplication,
  WritesAbsence,
  Writes,
  WritesInconsistent,
  Bounded,
}
use Rattle.theory.proofs.Walks.{numbered_lt}
use Rattle.theory.proofs.Reachable.{walk_in_table}
use Rattle.theory.proofs.Cut.{written_bound}

bounded_more : {n m : ℕ} {l : List ℕ} → n ≤ m → Bounded n l → Bounded m l
bounded_more h b = record { few = omega (arith, b.few); small = b.small }

bounded_cons : {n k : ℕ} {l : List ℕ} → k ≤ 512 → Bounded n l → Bounded (suc n) (k ∷ l)
bounded_cons {n} {k} {l} h b = record { few = omega (arith, b.few); small = λ j m. pick j (Memᴰ.cases_cons m) }
  where
    pick : (j : ℕ) → (j ≡ k) ⊎ Memᴰ j l → j ≤ 512
    pick j (inl e) = omega arith
    pick j (inr m) = b.small j m

bounded_append : {n m : ℕ} {s t : List ℕ} → Bounded n s → Bounded m t → Bounded (n + m) (s ++ t)
bounded_append {n} {m} {s} {t} a b = record {
  few = omega (arith, length-append s t, a.few, b.few);
  small = λ j k. pick j (Memᴰ.append_cases s k);
}
  where
    pick : (j : ℕ) → Memᴰ j s ⊎ Memᴰ j t → j ≤ 512
    pick j (inl k) = a.small j k
    pick j (inr k) = b.small j k

module _ {parent : ℕ → ℕ} {rules : List Rule} {count : ℕ} (fits : Fits parent rules count) where
  -- a code is at most 512, of 256 rules
  code_small : {x code y : ℕ} → Step parent rules x code y → code ≤ 512
  code_small (climb h e p) = omega arith
  code_small (along r ru n k e a b) = omega (arith, numbered_lt n, fits.few_rules)
  code_small (against r ru n k e a b) = omega (arith, numbered_lt n, fits.few_rules)

  codes_small : {c x y : ℕ} {codes : List ℕ} → Walk parent rules c x codes y → Bounded (length codes) codes
  codes_small (stay b) = record { few = omega arith; small = λ k m. absurd (Memᴰ.not-nil m) }
  codes_small (step b s w) = bounded_cons (code_small s) (codes_small w)

  -- a written walk takes at most 64 numbers
  walk_bounded : {c x y : ℕ} {codes : List ℕ} → x < count → Written parent rules c x codes y → Bounded 64 (walk_numbers codes)
  unfolding walk_numbers
  walk_bounded h w =
      let few = written_bound fits h w in
      bounded_cons (omega arith) (bounded_more few (codes_small w.walk))

  direct_bounded : {p q : ℕ} {numbers : List ℕ} → p < count → DirectNumbers parent (Written parent rules) p q numbers → Bounded 65 numbers
  direct_bounded h d = rw d.are (bounded_cons (omega arith) (walk_bounded h d.walk))

  dead_bounded : {p y r : ℕ} {numbers : List ℕ} → p < count → DeadNumbers parent rules (Written parent rules) p y r numbers
      → Bounded 196 numbers
  dead_bounded {p} {y} {r} h d =
      let k : y < count = walk_in_table fits h d.here.walk in
      let small : p ≤ 512 = omega (arith, fits.few) in
      let goal : y ≤ 512 = omega (arith, fits.few) in
      let rule : r ≤ 512 = omega (arith, numbered_lt d.rule, fits.few_rules) in
      rw d.are (bounded_cons (omega arith) (bounded_cons small (bounded_cons goal (bounded_cons rule
      (bounded_append (walk_bounded h d.here) (bounded_append (walk_bounded k d.left) (walk_bounded k d.right)))))))

  pair_bounded : {x y r side : ℕ} {numbers : List ℕ} → x < count → y < count
      → PairNumbers parent rules (Written parent rules) x y r side numbers → Bounded 133 numbers
  pair_bounded {x} {y} {r} {side} h k d =
      let first : x ≤ 512 = omega (arith, fits.few) in
      let second : y ≤ 512 = omega (arith, fits.few) in
      let rule : r ≤ 512 = omega (arith, numbered_lt d.rule, fits.few_rules) in
      rw d.are (bounded_cons (omega arith) (bounded_cons first (bounded_cons second (bounded_cons rule (bounded_cons (at_most d.ends)
      (bounded_append (walk_bounded h d.first) (walk_bounded k d.second)))))))
    where
      at_most : {ru : Rule} {s u v : ℕ} → Ends ru s u v → s ≤ 512
      at_most straight = omega arith
      at_most crossed = omega arith

  implication_bounded : {p q : ℕ} {numbers : List ℕ} → p < count → WritesImplication parent rules p q numbers → Bounded 196 numbers
  implication_bounded h (WritesImplication.direct d) = bounded_more (omega arith) (direct_bounded h d)
  implication_bounded h (WritesImplication.dead c is n w) = dead_bounded h w.by

  absence_bounded : {p q : ℕ} {numbers : List ℕ} → p < count → q < count → WritesAbsence parent rules p q numbers → Bounded 196 numbers
  absence_bounded h k (WritesAbsence.dead_first w) = dead_bounded h w.by
  absence_bounded h k (WritesAbsence.dead_second n w) = dead_bounded k w.by
  absence_bounded h k (WritesAbsence.pair n m c r side is l w) = bounded_more (omega arith) (pair_bounded h k w)

  -- the evidence for a question has at most 392 numbers
  pub evidence_bounded : {kind p q : ℕ} {numbers : List ℕ} → p < count → q < count → Writes parent rules kind p q numbers
      → Bounded 392 numbers
  evidence_bounded h k (Writes.implication e w) = bounded_more (omega arith) (implication_bounded h w)
  evidence_bounded h k (Writes.absence e w) = bounded_more (omega arith) (absence_bounded h k w)
  evidence_bounded h k (Writes.co_occurrence e w) =
      rw w.are (bounded_append (implication_bounded h w.writes_there) (implication_bounded k w.writes_back))

  -- the evidence for an inconsistent set has at most 196
  pub inconsistent_bounded : {asked : ℕ} {numbers : List ℕ} → ((x : ℕ) → Has asked x → x < count)
      → WritesInconsistent parent rules asked numbers → Bounded 196 numbers
  inconsistent_bounded in_table (WritesInconsistent.pair x y r l w) =
      bounded_more (omega arith) (pair_bounded (in_table x l.by.first) (in_table y l.by.second) w)
  inconsistent_bounded in_table (WritesInconsistent.dead n x l w) = dead_bounded (in_table x l.member) w.by
