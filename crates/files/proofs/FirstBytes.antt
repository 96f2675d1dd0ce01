-- The first bytes of a rule file decide: what stands after the first 1,926 changes no answer.
use Prim.Native.Nat.{ℕ, zero, suc, ◌+◌, ◌-◌, ◌*◌, ◌≤◌}
use mathlib.Core.Path.{◌≡◌, refl, sym, ap, ◌∙◌}
use mathlib.Core.List.{List, [], ◌∷◌, ◌++◌}
use native.Mathlib.Omega.{arith}
use lib.ListN.{length, drop, take, length-append, length-drop, length-take, take-append-drop}
use lib.Seq.{drop-append-le}
use borrow.Author.Tests.{lt-ltb}
use Rattle.files.specs.Number.{Begun, Is, Refused, number_in, second_in}
use Rattle.files.specs.Format.{Format, done, want, and_then, Outcome, got, refused, run, at_end, run_all}
use Rattle.files.specs.RuleFile.{one_path, path_label, more_paths, one_rule, rule_left, rule_right, more_rules, rules_to_end, after_required, required_on, after_paths, after_root, after_count, rule_file, more_ascending}
use Rattle.files.specs.Reading.{reading_of, read_answer}
use Rattle.files.specs.Table.{Path, Rule}
use Rattle.files.proofs.Formats.{run_bad, run_own, run_next}
use Rattle.files.proofs.Numbers.{number_bounds}
use Rattle.files.proofs.Rows.{between_passes}

-- with n numbers to spend, any that pass their tests lead to a value, and of it and of what is then left to spend P holds
pub data Spends {A : Type 0} (P : A → ℕ → Type 0) : ℕ → Format A → Type 0 where
  end : (a : A) (n : ℕ) → P a n → Spends P n (done a)
  more : {test : ℕ → ℕ} {next : ℕ → Format A} (n : ℕ) → ((x : ℕ) → test x ≡ 0 → Spends P n (next x)) → Spends P (suc n) (want test next)

-- ---- for every format

-- two bytes say what number they begin with, whatever follows
number_front : (s t : List ℕ) → 2 ≤ length s → number_in (s ++ t) ≡ number_in s
unfolding number_in second_in
number_front [] t h = absurd (omega arith)
number_front (a ∷ []) t h = absurd (omega arith)
number_front (a ∷ b ∷ s) t h = refl

module _ {A : Type 0} {P : A → ℕ → Type 0} where
  -- reading does not look past the bytes that the numbers to spend may take
  run_front : {n : ℕ} {f : Format A} → Spends P n f → (at : ℕ) (s t : List ℕ) → 2 * n + 2 ≤ length s → run f at (s ++ t) ≡ run f at s
  unfolding run
  run_front (end a n p) at s t h = refl
  run_front (more {test} {next} n k) at s t h = by (number_in s) refl (λ x e. run_front (k x e))
    where
      Goal : Type 0
      Goal = run (want test next) at (s ++ t) ≡ run (want test next) at s

      IH : Type 0
      IH = (x : ℕ) → test x ≡ 0 → (at : ℕ) (s t : List ℕ) → 2 * n + 2 ≤ length s → run (next x) at (s ++ t) ≡ run (next x) at s

      front : number_in (s ++ t) ≡ number_in s
      front = number_front s t (omega arith)

      tested : (x size m : ℕ) → number_in s ≡ Is x size → test x ≡ m → IH → Goal
      tested x size zero e u ih =
          let b = number_bounds s x size e in
          run_next test next at (s ++ t) x size (front ∙ e) u
          ∙ ap (run (next x) (at + size)) (drop-append-le size s t b.3)
          ∙ ih x u (at + size) (drop size s) t (omega (arith, length-drop size s, b.2))
          ∙ sym (run_next test next at s x size e u)
      tested x size (suc m) e u ih = run_own test next at (s ++ t) x size m (front ∙ e) u ∙ sym (run_own test next at s x size m e u)

      by : (r : Begun) → number_in s ≡ r → IH → Goal
      by (Is x size) e ih = tested x size (test x) e refl ih
      by (Refused j) e ih = run_bad test next at (s ++ t) j (front ∙ e) ∙ sym (run_bad test next at s j e)

  -- and what it reads ends there
  run_place : {n : ℕ} {f : Format A} → Spends P n f → (at : ℕ) (s : List ℕ) (a : A) (next : ℕ) → run f at s ≡ got a next → next ≤ at + 2 * n
  unfolding run
  run_place (end b n p) at s a next e = let same : at ≡ next = cc in omega arith
  run_place (more {test} {next = follow} n k) at s a next e = by (number_in s) refl (λ x u. run_place (k x u))
    where
      IH : Type 0
      IH = (x : ℕ) → test x ≡ 0 → (at : ℕ) (s : List ℕ) (a : A) (next : ℕ) → run (follow x) at s ≡ got a next → next ≤ at + 2 * n

      tested : (x size m : ℕ) → number_in s ≡ Is x size → test x ≡ m → IH → next ≤ at + 2 * suc n
      tested x size zero f u ih =
          omega (
            arith,
            ih x u (at + size) (drop size s) a next (sym (run_next test follow at s x size f u) ∙ e),
            number_bounds s x size f,
          )
      tested x size (suc m) f u ih =
          absurd (let g : refused (suc m) at ≡ got a next = sym (run_own test follow at s x size m f u) ∙ e in
          let z : ◌≡◌ {A = ℕ} 0 1 = cc in omega arith)

      by : (r : Begun) → number_in s ≡ r → IH → next ≤ at + 2 * suc n
      by (Is x size) f ih = tested x size (test x) f refl ih
      by (Refused j) f ih =
          absurd (let g : refused j at ≡ got a next = sym (run_bad test follow at s j f) ∙ e in let z : ◌≡◌ {A = ℕ} 0 1 = cc in omega arith)

  -- so what follows them changes no answer: bytes are left over either way, or the refusal is met before
  pub front_decides : {n : ℕ} {f : Format A} → Spends P n f → (s t : List ℕ) → 2 * n + 2 ≤ length s → run_all f (s ++ t) ≡ run_all f s
  unfolding run_all at_end
  front_decides {n} {f} k s t h = ap (at_end (length (s ++ t))) (run_front k 0 s t h) ∙ by (run f 0 s) refl
    where
      by : (o : Outcome A) → run f 0 s ≡ o → at_end (length (s ++ t)) (run f 0 s) ≡ at_end (length s) (run f 0 s)
      by (got a next) e =
          let low : next ≤ 0 + 2 * n = run_place k 0 s a next e in
          rw (e, lt-ltb next (length (s ++ t)) (omega (arith, length-append s t)), lt-ltb next (length s) (omega arith))
      by (refused j at) e = rw e

  -- more to spend does no harm where P asks for at least so much
  spends_more : {n m : ℕ} {f : Format A} → ((a : A) (i j : ℕ) → P a i → i ≤ j → P a j) → n ≤ m → Spends P n f → Spends P m f
  spends_more {m = m} up h (end a n p) = end a m (up a n m p h)
  spends_more {m = zero} up h (more n k) = absurd (omega arith)
  spends_more {m = suc m} up h (more n k) = more m (λ x u. spends_more up (omega arith) (k x u))

  -- one format after another
  spends_then : {B : Type 0} {Q : B → ℕ → Type 0} {n : ℕ} {f : Format A} {g : A → Format B} → Spends P n f
      → ((a : A) (m : ℕ) → P a m → Spends Q m (g a)) → Spends Q n (and_then f g)
  unfolding and_then
  spends_then (end a n p) h = h a n p
  spends_then (more n k) h = more n (λ x u. spends_then (k x u) h)

-- ---- the rule file

-- so much is left to spend
abbrev pub Leaves : {A : Type 0} → ℕ → A → ℕ → Type 0
Leaves n a m = n ≤ m

-- so much is left to spend, and the list has so many members
abbrev pub Long : {A : Type 0} → ℕ → ℕ → List A → ℕ → Type 0
Long many n l m = (length l ≡ many) × (n ≤ m)

leaves_up : {A : Type 0} (n : ℕ) (a : A) (i j : ℕ) → Leaves n a i → i ≤ j → Leaves n a j
leaves_up n a i j h l = omega arith

long_up : {A : Type 0} (many n : ℕ) (a : List A) (i j : ℕ) → Long many n a i → i ≤ j → Long many n a j
long_up many n a i j h l = (h.0, omega (arith, h.1))

path_spends : (ps : List Path) (n : ℕ) → Spends (Leaves n) (suc (suc n)) (one_path ps)
unfolding one_path path_label
path_spends ps n = more (suc n) (λ p t. more n (λ l u. end (record { parent = p; label = l }) n (omega arith)))

paths_spend : (many k : ℕ) (ps : List Path) (n : ℕ) → length ps + k ≡ many → Spends (Long many n) (2 * k + n) (more_paths k ps)
unfolding more_paths
paths_spend many zero ps n e = end ps (2 * 0 + n) (omega arith, omega arith)
paths_spend many (suc k) ps n e =
    spends_more (long_up many n) (omega arith)
    (spends_then (path_spends ps (2 * k + n)) (λ p m h.
    spends_more (long_up many n) h (paths_spend many k (ps ++ (p ∷ [])) n (omega (arith, e, length-append ps (p ∷ []))))))

required_spend : (count k last : ℕ) (xs : List ℕ) (n : ℕ) → Spends (Leaves n) (suc (count - suc last + n)) (more_ascending 7 count k last xs)
unfolding more_ascending
required_spend count zero last xs n = end xs (suc (count - suc last + n)) (omega arith)
required_spend count (suc k) last xs n =
    more (count - suc last + n) (λ x t.
    let b = (between_passes (last + 1) count 7 x (omega arith)).0 t in
    spends_more (leaves_up n) (omega (arith, b)) (required_spend count k x (xs ++ (x ∷ [])) n))

rule_spends : (count n : ℕ) → Spends (Leaves n) (suc (suc (suc n))) (one_rule count)
unfolding one_rule rule_left rule_right
rule_spends count n =
    more (suc (suc n)) (λ k t. more (suc n) (λ l u. more n (λ r v. end (record { kind = k; left = l; right = r }) n (omega arith))))

rules_spend : (count k : ℕ) (rs : List Rule) (n : ℕ) → Spends (Leaves n) (3 * k + n) (more_rules count k rs)
unfolding more_rules
rules_spend count zero rs n = end rs (3 * 0 + n) (omega arith)
rules_spend count (suc k) rs n =
    spends_more (leaves_up n) (omega arith)
    (spends_then (rule_spends count (3 * k + n)) (λ r m h. spends_more (leaves_up n) h (rules_spend count k (rs ++ (r ∷ [])) n)))

-- the rules, to the end
end_spends : (root : ℕ) (ps : List Path) (req : List ℕ) (k : ℕ) → k ≤ 256 → Spends (Leaves 0) 768 (rules_to_end root ps req k)
unfolding rules_to_end
end_spends root ps req k few =
    spends_then (spends_more (leaves_up 0) (omega arith) (rules_spend (1 + length ps) k [] 0))
    (λ rs m h. end (record { root = root; paths = ps; required = req; rules = rs }) m (omega arith))

-- the required paths, and on
required_on_lem : (root : ℕ) (ps : List Path) (k : ℕ) → length ps ≤ 63 → Spends (Leaves 0) 833 (required_on root ps k)
unfolding required_on after_required
required_on_lem root ps k few =
    spends_then (spends_more (leaves_up 769) (omega arith) (required_spend (1 + length ps) k 0 [] 769))
    (λ req m h. spends_more (leaves_up 0) h (more 768 (λ many t.
    end_spends root ps req many (omega (arith, (between_passes 0 257 8 many (omega arith)).0 t)))))

-- a rule file has at most 962 numbers up to where reading stops
pub file_spends : Spends (Leaves 0) 962 rule_file
unfolding rule_file after_count after_root after_paths
file_spends =
    more 961 (λ count t.
    let b = (between_passes 1 65 3 count (omega arith)).0 t in
    more 960 (λ root u.
    spends_then (spends_more (long_up (count - 1) 834) (omega (arith, b)) (paths_spend (count - 1) (count - 1) [] 834 (omega arith)))
    (λ ps m h. spends_more (leaves_up 0) h.1 (more 833 (λ k v. required_on_lem root ps k (omega (arith, b, h.0)))))))

-- a rule file longer than its first n bytes is answered as these are, for any n from 1,926 on
pub first_decide : (s : List ℕ) (n : ℕ) → 1926 ≤ n → n ≤ length s → read_answer s ≡ read_answer (take n s)
unfolding read_answer
first_decide s n low h =
    ap reading_of
    (ap (run_all rule_file) (sym (take-append-drop n s))
    ∙ front_decides file_spends (take n s) (drop n s) (omega (arith, length-take n s)))
