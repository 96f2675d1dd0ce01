-- Direct evidence, evidence for a dead path and for a pair: the computed numbers are those that are written, and the only ones.
use Prim.Native.Nat.{ℕ, ◌<◌}
use mathlib.Core.Path.{◌≡◌, refl, ap, ◌∙◌}
use mathlib.Core.List.{List, ◌∷◌, ◌++◌}
use native.Mathlib.Omega.{arith}
use Rattle.files.specs.Table.{Rule, Numbered}
use Rattle.documents.specs.Paths.{Context, context_of}
use Rattle.documents.proofs.Paths.{below_le, context_of_context, context_is}
use Rattle.theory.specs.Walk.{Reach, DeadBy, Dead, PairBy}
use Rattle.theory.specs.Written.{Written}
use Rattle.theory.specs.Reachable.{Fits}
use Rattle.theory.specs.Search.{written_walk}
use Rattle.theory.specs.Decide
use Rattle.theory.specs.Decide.{Sided, dead_path, dead_rule}
use Rattle.theory.specs.Evidence.{
  walk_numbers,
  DirectNumbers,
  DeadNumbers,
  Ends,
  straight,
  crossed,
  PairNumbers,
  WritesDead,
  direct_numbers,
  dead_numbers_by,
  dead_numbers,
  first_side,
  second_side,
  pair_numbers,
}
use Rattle.theory.proofs.Reachable.{walk_in_table}
use Rattle.theory.proofs.Search.{written_walk_written, written_is}
use Rattle.theory.proofs.Decide.{rule_at_numbered, context_in_table, dead_least, least_dead_unique}

module _ {parent : ℕ → ℕ} {rules : List Rule} {count : ℕ} (fits : Fits parent rules count) where
  -- a rule's context is a path of the table
  context_under : {r a : ℕ} {ru : Rule} → Numbered rules r ru → Context parent ru.left ru.right a → a < count
  context_under {r} {a} {ru} n is = rw (context_is fits.descending is) at (context_in_table fits r ru n)

  -- the context of a path of the table and another is a path of the table
  pub meets_in_table : (p q : ℕ) → p < count → context_of parent p q < count
  meets_in_table p q h = omega (arith, below_le fits.descending (context_of_context fits.descending p q).left)

  -- ---- direct

  pub direct_written : (p q : ℕ) → p < count → Reach parent rules (context_of parent p q) p q
      → DirectNumbers parent (Written parent rules) p q (direct_numbers parent rules count p q)
  unfolding direct_numbers
  direct_written p q h a = record {
    context = context_of parent p q;
    is_context = context_of_context fits.descending p q;
    codes = written_walk parent rules count (context_of parent p q) p q;
    walk = written_walk_written fits (context_of parent p q) q (meets_in_table p q h) p h a;
    are = refl;
  }

  pub direct_only : {p q : ℕ} {numbers : List ℕ} → p < count → DirectNumbers parent (Written parent rules) p q numbers
      → numbers ≡ direct_numbers parent rules count p q
  unfolding direct_numbers
  direct_only {p} {q} h d =
      let e : context_of parent p q ≡ d.context = context_is fits.descending d.is_context in
      rw e (d.are ∙ ap (λ (l : List ℕ). 1 ∷ walk_numbers l)
      (written_is fits d.context q (rw e at (meets_in_table p q h)) h d.walk))

  -- ---- dead

  dead_numbers_are : {r a : ℕ} {ru : Rule} (p y : ℕ) → Numbered rules r ru → Context parent ru.left ru.right a
      → dead_numbers_by parent rules count p y r
      ≡ 2 ∷ (p ∷ (y ∷ (r ∷ (walk_numbers (written_walk parent rules count 0 p y)
      ++ (walk_numbers (written_walk parent rules count a y ru.left) ++ walk_numbers (written_walk parent rules count a y ru.right))))))
  unfolding dead_numbers_by
  dead_numbers_are p y n is = rw (rule_at_numbered n, context_is fits.descending is) refl

  dead_numbers_written : {p y r : ℕ} → p < count → DeadBy parent rules p y r
      → DeadNumbers parent rules (Written parent rules) p y r (dead_numbers_by parent rules count p y r)
  dead_numbers_written {p} {y} {r} h d =
      let k : y < count = walk_in_table fits h d.here.walk in
      let m = context_under d.rule d.is_context in
      record {
        ru = d.ru;
        rule = d.rule;
        absence = d.absence;
        context = d.context;
        is_context = d.is_context;
        to_y = written_walk parent rules count 0 p y;
        to_left = written_walk parent rules count d.context y d.ru.left;
        to_right = written_walk parent rules count d.context y d.ru.right;
        here = written_walk_written fits 0 y (omega arith) p h d.here;
        left = written_walk_written fits d.context d.ru.left m y k d.left;
        right = written_walk_written fits d.context d.ru.right m y k d.right;
        are = dead_numbers_are p y d.rule d.is_context;
      }

  dead_numbers_only : {p y r : ℕ} {numbers : List ℕ} → p < count → DeadNumbers parent rules (Written parent rules) p y r numbers
      → numbers ≡ dead_numbers_by parent rules count p y r
  dead_numbers_only {p} {y} {r} h d =
      let k : y < count = walk_in_table fits h d.here.walk in
      let m = context_under d.rule d.is_context in
      let here = written_is fits 0 y (omega arith) h d.here in
      let left = written_is fits d.context d.ru.left m k d.left in
      let right = written_is fits d.context d.ru.right m k d.right in
      cc (dead_numbers_are p y d.rule d.is_context)

  -- the evidence for a dead path
  pub dead_written : (p : ℕ) → p < count → Dead parent rules p → WritesDead parent rules p (dead_numbers parent rules count p)
  unfolding dead_numbers
  dead_written p h d =
      let l = dead_least fits p h d in
      record {
        y = dead_path parent rules count p;
        r = dead_rule parent rules count p;
        least = l;
        by = dead_numbers_written h l.by;
      }

  -- there is no other
  pub dead_only : (p : ℕ) {numbers : List ℕ} → p < count → WritesDead parent rules p numbers → numbers ≡ dead_numbers parent rules count p
  unfolding dead_numbers
  dead_only p h d =
      let l = dead_least fits p h (record { y = d.y; r = d.r; by = d.least.by }) in
      let same = least_dead_unique d.least l in
      rw (← same.0, ← same.1) (dead_numbers_only h d.by)

  -- ---- pairs

  pair_numbers_are : {r a side u v : ℕ} {ru : Rule} (x y : ℕ) → Numbered rules r ru → Context parent ru.left ru.right a
      → Ends ru side u v → pair_numbers parent rules count x y r side
      ≡ 3 ∷ (x ∷ (y ∷ (r ∷ (side ∷ (walk_numbers (written_walk parent rules count a x u)
      ++ walk_numbers (written_walk parent rules count a y v))))))
  unfolding pair_numbers first_side second_side
  pair_numbers_are x y n is straight = rw (rule_at_numbered n, context_is fits.descending is) refl
  pair_numbers_are x y n is crossed = rw (rule_at_numbered n, context_is fits.descending is) refl

  -- the evidence that a rule makes of x and y, whichever side each of them reaches
  sided_written : {c p q x y r side u v : ℕ} → x < count → y < count → (d : PairBy parent rules c p q r) → Ends d.ru side u v
      → Reach parent rules d.context x u → Reach parent rules d.context y v
      → PairNumbers parent rules (Written parent rules) x y r side (pair_numbers parent rules count x y r side)
  sided_written {x = x} {y = y} {u = u} {v = v} h k d ends a b =
      let m = context_under d.rule d.is_context in
      record {
        ru = d.ru;
        rule = d.rule;
        absence = d.absence;
        context = d.context;
        is_context = d.is_context;
        first_end = u;
        second_end = v;
        ends = ends;
        from_first = written_walk parent rules count d.context x u;
        from_second = written_walk parent rules count d.context y v;
        first = written_walk_written fits d.context u m x h a;
        second = written_walk_written fits d.context v m y k b;
        are = pair_numbers_are x y d.rule d.is_context ends;
      }

  pub pair_numbers_written : {c x y r side : ℕ} → x < count → y < count → Sided parent rules c x y r side
      → PairNumbers parent rules (Written parent rules) x y r side (pair_numbers parent rules count x y r side)
  pair_numbers_written h k (Decide.straight d) = sided_written h k d straight d.left d.right
  pair_numbers_written h k (Decide.crossed n d) = sided_written h k d crossed d.right d.left

  pub pair_numbers_only : {x y r side : ℕ} {numbers : List ℕ} → x < count → y < count
      → PairNumbers parent rules (Written parent rules) x y r side numbers → numbers ≡ pair_numbers parent rules count x y r side
  pair_numbers_only {x} {y} h k d =
      let m = context_under d.rule d.is_context in
      let first = written_is fits d.context d.first_end m h d.first in
      let second = written_is fits d.context d.second_end m k d.second in
      cc (pair_numbers_are x y d.rule d.is_context d.ends)
