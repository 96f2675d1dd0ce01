-- Laws of formats: what reading answers is exactly what the bytes are, both ways, for every format.
use Prim.Native.Nat.{ℕ, zero, suc, ◌+◌, ◌<◌, ◌≤◌}
use mathlib.Core.Path.{◌≡◌, refl, sym, ap, subst, ◌∙◌}
use mathlib.Core.Bool.{Bool, true, false, cond}
use mathlib.Core.List.{List, [], ◌∷◌, ◌++◌, append_assoc, append-nil}
use native.Mathlib.Omega.{arith}
use native.Mathlib.Nat.{le_refl}
use lib.ListN.{length, drop, length-append}
use lib.Seq.{drop-drop, drop-append_seam, get_or-append-add}
use lib.Dec.{ltb}
use borrow.Author.Tests.{lt-ltb, le-ltb, ltb-true, ltb-false}
use Rattle.files.specs.Number.{Begun, Is, Refused, limit, bytes_of, bytes_of_all, number_in, Bytes, Begins, number, cut as begins-cut, long as begins-long}
use Rattle.files.specs.Format.{Format, done, want, and_then, Outcome, got, refused, run, at_end, on_test, on_number, run_all, Leads, here, take, Stops, cut, long, own, left, Accepted, RefusedAt}
use Rattle.files.proofs.Numbers.{read_back, in_cut, in_long, begins}

module _ {A : Type 0} (test : ℕ → ℕ) (next : ℕ → Format A) where
  -- what a wanted number answers, by what stands there
  pub run_bad : (at : ℕ) (s : List ℕ) (k : ℕ) → number_in s ≡ Refused k → run (want test next) at s ≡ refused k at
  unfolding run on_number on_test
  run_bad at s k e = rw e

  pub run_own : (at : ℕ) (s : List ℕ) (n size k : ℕ) → number_in s ≡ Is n size → test n ≡ suc k → run (want test next) at s ≡ refused (suc k) at
  unfolding run on_number on_test
  run_own at s n size k e t = rw (e, t)

  pub run_next : (at : ℕ) (s : List ℕ) (n size : ℕ) → number_in s ≡ Is n size → test n ≡ 0
      → run (want test next) at s ≡ run (next n) (at + size) (drop size s)
  unfolding run on_number on_test
  run_next at s n size e t = rw (e, t)

  -- the same in the bytes of the whole file
  pub run_on : (s : List ℕ) (at n size : ℕ) → number_in (drop at s) ≡ Is n size → test n ≡ 0
      → run (want test next) at (drop at s) ≡ run (next n) (at + size) (drop (at + size) s)
  run_on s at n size e t = run_next at (drop at s) n size e t ∙ ap (run (next n) (at + size)) (drop-drop size at s)

-- going on after an outcome, in the bytes of the whole file
unfoldable pub onward : {A B : Type 0} → (A → Format B) → List ℕ → Outcome A → Outcome B
onward g s (got a at) = run (g a) at (drop at s)
onward g s (refused k at) = refused k at

-- reading one format after another is reading the first, and going on
pub run_then : {A B : Type 0} (f : Format A) (g : A → Format B) (s : List ℕ) (at : ℕ)
    → run (and_then f g) at (drop at s) ≡ onward g s (run f at (drop at s))
unfolding run and_then onward on_number on_test
run_then (done a) g s at = refl
run_then (want test next) g s at = by (number_in (drop at s)) refl (λ n. run_then (next n) g s)
  where
    Goal : Type 0
    Goal = run (and_then (want test next) g) at (drop at s) ≡ onward g s (run (want test next) at (drop at s))

    IH : Type 0
    IH = (n k : ℕ) → run (and_then (next n) g) k (drop k s) ≡ onward g s (run (next n) k (drop k s))

    tested : (n size m : ℕ) → number_in (drop at s) ≡ Is n size → test n ≡ m → IH → Goal
    tested n size zero e t ih = rw (e, t, drop-drop size at s) (ih n (at + size))
    tested n size (suc m) e t ih = rw (e, t)

    by : (r : Begun) → number_in (drop at s) ≡ r → IH → Goal
    by (Is n size) e ih = tested n size (test n) e refl ih
    by (Refused k) e ih = rw e

-- a list that is read one by one has as many more as were wanted
pub list_many : {A : Type 0} (one : List A → Format A) (more : ℕ → List A → Format (List A))
    → ((l : List A) → more 0 l ≡ done l) → ((k : ℕ) (l : List A) → more (suc k) l ≡ and_then (one l) (λ a. more k (l ++ (a ∷ []))))
    → (s : List ℕ) (k : ℕ) (l : List A) (at : ℕ) (r : List A) (next : ℕ) → run (more k l) at (drop at s) ≡ got r next → length r ≡ length l + k
unfolding run onward
list_many {A} one more base step s zero l at r next e =
    let f : got l at ≡ got r next = ap (λ (m : Format (List A)). run m at (drop at s)) (sym (base l)) ∙ e in
    let same : l ≡ r = cc in
    omega (arith, ap length same)
list_many {A} one more base step s (suc k) l at r next e =
    by (run (one l) at (drop at s))
    (sym (ap (λ (m : Format (List A)). run m at (drop at s)) (step k l) ∙ run_then (one l) (λ a. more k (l ++ (a ∷ []))) s at) ∙ e)
    (λ a. list_many one more base step s k (l ++ (a ∷ [])))
  where
    by : (o : Outcome A) → onward (λ a. more k (l ++ (a ∷ []))) s o ≡ got r next
        → ((a : A) (at : ℕ) (r : List A) (next : ℕ) → run (more k (l ++ (a ∷ []))) at (drop at s) ≡ got r next → length r ≡ length (l ++ (a ∷ [])) + k)
        → length r ≡ length l + suc k
    by (got a at') f ih = ih a at' r next f ∙ omega (arith, length-append l (a ∷ []))
    by (refused j place) f ih = absurd (let z : ◌≡◌ {A = ℕ} 0 1 = cc in omega arith)

-- numbers that lead from one format to another are read off the front of the bytes
pub run_leads : {A : Type 0} {f g : Format A} {ns : List ℕ} → Leads f ns g → (at : ℕ) (rest : List ℕ)
    → run f at (bytes_of_all ns ++ rest) ≡ run g (at + length (bytes_of_all ns)) rest
unfolding bytes_of_all
run_leads {f = f} here at rest = ap (λ (k : ℕ). run f k rest) (omega arith)
run_leads {g = g} (take {test} {next} {n} {ns} small ok l) at rest =
    rw append_assoc
    (run_next test next at (bytes_of n ++ (bytes_of_all ns ++ rest)) n (length (bytes_of n)) (read_back n (bytes_of_all ns ++ rest) small) ok
    ∙ rw (drop-append_seam (bytes_of n) (bytes_of_all ns ++ rest))
    (run_leads l (at + length (bytes_of n)) rest
    ∙ ap (λ (k : ℕ). run g k rest) (omega (arith, length-append (bytes_of n) (bytes_of_all ns)))))

-- where reading stops, that is its refusal
pub run_stops : {A : Type 0} {g : Format A} {s : List ℕ} {k : ℕ} → Stops g s k → (at size : ℕ) → at + length s ≡ size → at_end size (run g at s) ≡ refused k at
unfolding run at_end
run_stops (cut {test} {next} {s} c) at size e = ap (at_end size) (run_bad test next at s 1 (in_cut c))
run_stops (long {test} {next} {s} c) at size e = ap (at_end size) (run_bad test next at s 2 (in_long c))
run_stops (own {test} {next} {n} {k} {s} rest small b t) at size e =
    ap (at_end size) (run_own test next at s n (length (bytes_of n)) k (rw b (read_back n rest small)) t)
run_stops (left {a} {b} {s}) at size e = rw (lt-ltb at size (omega (arith, e)))

-- what reading a format answers
pub data Ran {A : Type 0} (f : Format A) (at : ℕ) (s : List ℕ) : Outcome A → Type 0 where
  ran : {a : A} (ns rest : List ℕ) → Leads f ns (done a) → s ≡ bytes_of_all ns ++ rest → Ran f at s (got a (at + length (bytes_of_all ns)))
  stopped : {k : ℕ} (ns rest : List ℕ) (test : ℕ → ℕ) (next : ℕ → Format A) → Leads f ns (want test next) → s ≡ bytes_of_all ns ++ rest
      → Stops (want test next) rest k → Ran f at s (refused k (at + length (bytes_of_all ns)))

bytes_after : (p q : List ℕ) → Bytes (p ++ q) → Bytes q
bytes_after p q bs = record { below = λ i. rw (← get_or-append-add p q i 0) (bs.below (length p + i)) }

module _ {A : Type 0} (test : ℕ → ℕ) (next : ℕ → Format A) (n : ℕ) (small : n < limit) (ok : test n ≡ 0) (rest : List ℕ) (at : ℕ) where
  -- one number more in front
  ran_more : (o : Outcome A) → Ran (next n) (at + length (bytes_of n)) rest o → Ran (want test next) at (bytes_of n ++ rest) o
  unfolding bytes_of_all
  ran_more o (ran {a} ns rest' l b) =
      subst (λ (k : ℕ). Ran (want test next) at (bytes_of n ++ rest) (got a k)) (omega (arith, length-append (bytes_of n) (bytes_of_all ns)))
      (ran (n ∷ ns) rest' (take small ok l) (rw (b, append_assoc)))
  ran_more o (stopped {k} ns rest' t x l b st) =
      subst (λ (j : ℕ). Ran (want test next) at (bytes_of n ++ rest) (refused k j)) (omega (arith, length-append (bytes_of n) (bytes_of_all ns)))
      (stopped (n ∷ ns) rest' t x (take small ok l) (rw (b, append_assoc)) st)

-- a refusal at the first number wanted
ran_stop : {A : Type 0} (test : ℕ → ℕ) (next : ℕ → Format A) (at : ℕ) (s : List ℕ) (k : ℕ) → Stops (want test next) s k → Ran (want test next) at s (refused k at)
unfolding bytes_of_all
ran_stop test next at s k st = subst (λ (j : ℕ). Ran (want test next) at s (refused k j)) (omega arith) (stopped [] s test next here refl st)

pub run_ran : {A : Type 0} (f : Format A) (at : ℕ) (s : List ℕ) → Bytes s → Ran f at s (run f at s)
unfolding run bytes_of_all
run_ran (done a) at s bs = subst (λ (j : ℕ). Ran (done a) at s (got a j)) (omega arith) (ran [] s here refl)
run_ran {A} (want test next) at s bs = by (begins s bs) bs (λ n. run_ran (next n))
  where
    IH : Type 0
    IH = (n k : ℕ) (r : List ℕ) → Bytes r → Ran (next n) k r (run (next n) k r)

    tested : (n m : ℕ) (rest : List ℕ) → n < limit → test n ≡ m → Bytes (bytes_of n ++ rest) → IH
        → Ran (want test next) at (bytes_of n ++ rest) (run (want test next) at (bytes_of n ++ rest))
    tested n zero rest small ok bs' ih =
        rw (run_next test next at (bytes_of n ++ rest) n (length (bytes_of n)) (read_back n rest small) ok, drop-append_seam (bytes_of n) rest)
        (ran_more test next n small ok rest at _ (ih n (at + length (bytes_of n)) rest (bytes_after (bytes_of n) rest bs')))
    tested n (suc m) rest small e bs' ih =
        rw (run_own test next at (bytes_of n ++ rest) n (length (bytes_of n)) m (read_back n rest small) e)
        (ran_stop test next at _ (suc m) (own rest small refl e))

    by : {t : List ℕ} {r : Begun} → Begins t r → Bytes t → IH → Ran (want test next) at t (run (want test next) at t)
    by (number {n} rest small) bs' ih = tested n (test n) rest small refl bs' ih
    by (begins-cut {s = t} c) bs' ih = rw (run_bad test next at t 1 (in_cut c)) (ran_stop test next at t 1 (cut c))
    by (begins-long {s = t} c) bs' ih = rw (run_bad test next at t 2 (in_long c)) (ran_stop test next at t 2 (long c))

-- a list of length 0 is empty
none_left : {B : Type 0} (l : List B) → length l ≤ 0 → l ≡ []
none_left [] h = refl
none_left (x ∷ l) h = absurd (omega arith)

-- a whole file: accepted and refused, each exactly then
module _ {A : Type 0} (f : Format A) (s : List ℕ) where
  pub accepted_if : (a : A) → Accepted f s a → run_all f s ≡ got a (length s)
  unfolding run_all run at_end
  accepted_if a h =
      let e : run f 0 s ≡ got a (length s) =
      ap (run f 0) (h.bytes ∙ sym (append-nil _)) ∙ run_leads h.leads 0 [] ∙ ap (got a) (omega (arith, ap length h.bytes)) in
      rw (e, le-ltb (length s) (length s) (le_refl (length s)))

  pub refused_if : (k at : ℕ) → RefusedAt f s k at → run_all f s ≡ refused k at
  unfolding run_all
  refused_if k at h =
      let n : ℕ = length (bytes_of_all h.numbers) in
      let all : n + length h.rest ≡ length s = sym (ap length h.bytes ∙ length-append (bytes_of_all h.numbers) h.rest) in
      ap (λ (t : List ℕ). at_end (length s) (run f 0 t)) h.bytes
      ∙ ap (at_end (length s)) (run_leads h.leads 0 h.rest)
      ∙ run_stops h.stops (0 + n) (length s) (omega arith)
      ∙ ap (refused k) (omega (arith, h.place))

  -- what was read, when the rest of the file is looked at
  ended : (a a' : A) (at : ℕ) (ns rest : List ℕ) (t : Bool) → ltb (0 + length (bytes_of_all ns)) (length s) ≡ t → Leads f ns (done a') → s ≡ bytes_of_all ns ++ rest
      → cond t (refused 11 (0 + length (bytes_of_all ns))) (got a' (0 + length (bytes_of_all ns))) ≡ got a at → Accepted f s a × (at ≡ length s)
  ended a a' at ns rest true t l b e = absurd (let z : ◌≡◌ {A = ℕ} 0 1 = cc in omega arith)
  ended a a' at ns rest false t l b e =
      let same : a' ≡ a = cc in
      let place : 0 + length (bytes_of_all ns) ≡ at = cc in
      let all : length s ≡ length (bytes_of_all ns) + length rest = ap length b ∙ length-append (bytes_of_all ns) rest in
      let over : length s ≤ 0 + length (bytes_of_all ns) = ltb-false _ _ t in
      let whole : s ≡ bytes_of_all ns = b ∙ ap (λ (r : List ℕ). bytes_of_all ns ++ r) (none_left rest (omega arith)) ∙ append-nil _ in
      (record { numbers = ns; leads = subst (λ (x : A). Leads f ns (done x)) same l; bytes = whole }, omega arith)

  pub accepted_only : Bytes s → (a : A) (at : ℕ) → run_all f s ≡ got a at → Accepted f s a × (at ≡ length s)
  unfolding run_all at_end
  accepted_only bs a at e = by (run_ran f 0 s bs) e
    where
      by : {o : Outcome A} → Ran f 0 s o → at_end (length s) o ≡ got a at → Accepted f s a × (at ≡ length s)
      by (ran {a = a'} ns rest l b) e' = ended a a' at ns rest (ltb (0 + length (bytes_of_all ns)) (length s)) refl l b e'
      by (stopped ns rest t x l b st) e' = absurd (let z : ◌≡◌ {A = ℕ} 0 1 = cc in omega arith)

  leftover : (k at : ℕ) (a : A) (ns rest : List ℕ) (t : Bool) → ltb (0 + length (bytes_of_all ns)) (length s) ≡ t → Leads f ns (done a) → s ≡ bytes_of_all ns ++ rest
      → cond t (refused 11 (0 + length (bytes_of_all ns))) (got a (0 + length (bytes_of_all ns))) ≡ refused k at → RefusedAt f s k at
  leftover k at a ns [] true t l b e =
      absurd (omega (arith, ap length b ∙ length-append (bytes_of_all ns) [], ltb-true (0 + length (bytes_of_all ns)) (length s) t))
  leftover k at a ns (x ∷ rest) true t l b e =
      let same : 11 ≡ k = cc in
      let place : 0 + length (bytes_of_all ns) ≡ at = cc in
      record { numbers = ns; rest = x ∷ rest; wanted = done a; leads = l; bytes = b; place = omega arith; stops = subst (λ (j : ℕ). Stops (done a) (x ∷ rest) j) same left }
  leftover k at a ns rest false t l b e = absurd (let z : ◌≡◌ {A = ℕ} 0 1 = cc in omega arith)

  pub refused_only : Bytes s → (k at : ℕ) → run_all f s ≡ refused k at → RefusedAt f s k at
  unfolding run_all at_end
  refused_only bs k at e = by (run_ran f 0 s bs) e
    where
      by : {o : Outcome A} → Ran f 0 s o → at_end (length s) o ≡ refused k at → RefusedAt f s k at
      by (ran {a = a} ns rest l b) e' = leftover k at a ns rest (ltb (0 + length (bytes_of_all ns)) (length s)) refl l b e'
      by (stopped {k = j} ns rest t x l b st) e' =
          let same : j ≡ k = cc in
          let place : 0 + length (bytes_of_all ns) ≡ at = cc in
          record { numbers = ns; rest = rest; wanted = want t x; leads = l; bytes = b; place = omega arith; stops = subst (λ (i : ℕ). Stops (want t x) rest i) same st }
