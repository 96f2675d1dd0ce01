-- Laws of readers: a format is read part after part.
use Prim.Native.Nat.{ℕ, zero, suc, ◌+◌, ◌-◌, ◌<◌, ◌≤◌}
use mathlib.Core.Path.{◌≡◌, refl, sym, ap, ap₂, subst, ◌∙◌}
use mathlib.Core.List.{List, [], ◌∷◌, ◌++◌}
use native.Mathlib.Omega.{arith}
use lib.ListN.{length, drop, length-append}
use mathlib.Core.Bool.{Bool, true, false, cond}
use lib.Dec.{ltb, leb}
use borrow.Author.Tests.{lt-ltb, le-ltb, ltb-true, leb-true}
use Rattle.std.specs.Prelude.{Result, Ok, Err, IfOk, MatchResult}
use Rattle.files.specs.declared.reader.Reader.{Reader}
use Rattle.files.specs.declared.refusal.Condition.{Condition}
use Rattle.files.specs.declared.refusal.Condition.TheVariants.{LeftOver}
use Rattle.files.specs.declared.refusal.Refusal.{Refusal}
use Rattle.files.specs.Number.{Begun, Is, Refused, limit, number_in}
use Rattle.files.specs.Format.{Format, done, want, and_then, Outcome, got, refused, run, at_end, run_all}
use Rattle.files.specs.Refusals.{condition_number}
use Rattle.files.specs.RuleFile.{any, between}
use Rattle.files.specs.Readers.{Same, Reads}
use Rattle.files.proofs.Formats.{onward, run_then, run_bad, run_own, run_on}
use Rattle.files.proofs.Conditions.{number_some}
use Rattle.files.proofs.Numbers.{number_bounds}

-- ---- one number

module _ (s : List ℕ) (at : ℕ) where
  pub any_bad : {k : ℕ} → number_in (drop at s) ≡ Refused k → run (want any (λ (n : ℕ). done n)) at (drop at s) ≡ refused k at
  any_bad {k} e = run_bad any (λ (n : ℕ). done n) at (drop at s) k e

  pub any_is : {n size : ℕ} → number_in (drop at s) ≡ Is n size → run (want any (λ (n : ℕ). done n)) at (drop at s) ≡ got n (at + size)
  unfolding run
  any_is {n} {size} e = run_on any (λ (n : ℕ). done n) s at n size e refl

  -- what a number that was read with no test says of one with a test
  module _ {A : Type 0} (test : ℕ → ℕ) (next : ℕ → Format A) where
    by_any : (o : Outcome ℕ) → run (want any (λ (n : ℕ). done n)) at (drop at s) ≡ o → Type 0
    by_any (got n place) e = (n < limit) × (test n ≡ 0 → run (want test next) at (drop at s) ≡ run (next n) place (drop place s))
        × ((k : ℕ) → test n ≡ suc k → run (want test next) at (drop at s) ≡ refused (suc k) at)
    by_any (refused k place) e = run (want test next) at (drop at s) ≡ refused k place

    says : (m : Begun) → number_in (drop at s) ≡ m → (o : Outcome ℕ) (e : run (want any (λ (n : ℕ). done n)) at (drop at s) ≡ o) → by_any o e
    unfolding by_any
    says (Is n size) i (got m place) e =
        let f : got m place ≡ got n (at + size) = sym e ∙ any_is i in
        let a : n ≡ m = cc in
        let b : at + size ≡ place = cc in
        rw (← a, ← b) ((number_bounds (drop at s) n size i).0, λ t. run_on test next s at n size i t, λ k t. run_own test next at (drop at s) n size k i t)
    says (Is n size) i (refused k place) e =
        absurd (let f : got n (at + size) ≡ refused k place = sym (any_is i) ∙ e in let z : ◌≡◌ {A = ℕ} 0 1 = cc in omega arith)
    says (Refused k) i (got m place) e =
        absurd (let f : got m place ≡ refused k at = sym e ∙ any_bad i in let z : ◌≡◌ {A = ℕ} 0 1 = cc in omega arith)
    says (Refused k) i (refused j place) e =
        let f : ◌≡◌ {A = Outcome ℕ} (refused j place) (refused k at) = sym e ∙ any_bad i in
        let a : k ≡ j = cc in
        let b : at ≡ place = cc in
        run_bad test next at (drop at s) k i ∙ ap₂ refused a b

    pub tested_out : {k place : ℕ} → run (want any (λ (n : ℕ). done n)) at (drop at s) ≡ refused k place → run (want test next) at (drop at s) ≡ refused k place
    unfolding by_any
    tested_out {k} {place} e = says _ refl (refused k place) e

    pub tested_on : {n place : ℕ} → run (want any (λ (n : ℕ). done n)) at (drop at s) ≡ got n place → test n ≡ 0
        → run (want test next) at (drop at s) ≡ run (next n) place (drop place s)
    unfolding by_any
    tested_on {n} {place} e t = (says _ refl (got n place) e).1 t

    pub tested_own : {n place k : ℕ} → run (want any (λ (n : ℕ). done n)) at (drop at s) ≡ got n place → test n ≡ suc k
        → run (want test next) at (drop at s) ≡ refused (suc k) at
    unfolding by_any
    tested_own {n} {place} {k} e t = (says _ refl (got n place) e).2 k t

    -- a test that says a condition
    pub tested_fails : {n place : ℕ} (c : Condition) → run (want any (λ (n : ℕ). done n)) at (drop at s) ≡ got n place → test n ≡ condition_number c
        → run (want test next) at (drop at s) ≡ refused (condition_number c) at
    tested_fails c e t =
        let some : (j : ℕ) × (condition_number c ≡ suc j) = number_some c in
        tested_own e (t ∙ some.1) ∙ ap (λ (k : ℕ). refused k at) (sym some.1)

  -- a test that says nothing
  pub tested_is : (test : ℕ → ℕ) {n place : ℕ} → run (want any (λ (n : ℕ). done n)) at (drop at s) ≡ got n place → test n ≡ 0
      → run (want test (λ (n : ℕ). done n)) at (drop at s) ≡ got n place
  unfolding run
  tested_is test e t = tested_on test (λ (n : ℕ). done n) e t

  pub any_small : {n place : ℕ} → run (want any (λ (n : ℕ). done n)) at (drop at s) ≡ got n place → n < limit
  unfolding by_any
  any_small {n} {place} e = (says any (λ (n : ℕ). done n) _ refl (got n place) e).0

-- ---- part after part

module _ {T U A B : Type 0} (stands : T → A → Type 0) (holds : U → B → Type 0) (f : Format A) (g : A → Format B) (old mid : Reader) where
  pub reads_out : (e : Refusal) → Reads stands f old mid (Err e) → Reads holds (and_then f g) old mid (Err e)
  unfolding onward
  reads_out e h =
      record {
        bytes = h.bytes;
        answer = run_then f g old.bytes.now old.at ∙ ap (onward g old.bytes.now) h.answer;
      }

  pub reads_then : (x : T) (new : Reader) (r : Result U Refusal) → Reads stands f old mid (Ok x)
      → ((a : A) → stands x a → Reads holds (g a) mid new r) → Reads holds (and_then f g) old new r
  unfolding onward
  reads_then x new (Ok y) h k =
      let first = h.answer in
      let rest = k first.0 first.2 in
      record {
        bytes = rest.bytes ∙ h.bytes;
        answer = (
          rest.answer.0,
          run_then f g old.bytes.now old.at ∙ ap (onward g old.bytes.now) first.1
              ∙ ap (λ (s : List ℕ). run (g first.0) mid.at (drop mid.at s)) (sym (ap (λ b. b.now) h.bytes))
              ∙ rest.answer.1,
          rest.answer.2,
        );
      }
  reads_then x new (Err e) h k =
      let first = h.answer in
      let rest = k first.0 first.2 in
      record {
        bytes = rest.bytes ∙ h.bytes;
        answer =
            run_then f g old.bytes.now old.at ∙ ap (onward g old.bytes.now) first.1
            ∙ ap (λ (s : List ℕ). run (g first.0) mid.at (drop mid.at s)) (sym (ap (λ b. b.now) h.bytes))
            ∙ rest.answer;
      }

-- ---- a number, and on

-- a number that was read has passed its test
got_passes : (test : ℕ → ℕ) (s : List ℕ) (at : ℕ) {a place : ℕ} → run (want test (λ (n : ℕ). done n)) at (drop at s) ≡ got a place → (test a ≡ 0) × (a < limit)
unfolding run
got_passes test s at {a} {place} e = by (number_in (drop at s)) refl
  where
    by : (m : Begun) → number_in (drop at s) ≡ m → (test a ≡ 0) × (a < limit)
    by (Is n size) i = on (test n) refl
      where
        on : (k : ℕ) → test n ≡ k → (test a ≡ 0) × (a < limit)
        on zero t =
            let f : got n (at + size) ≡ got a place = sym (run_on test (λ (n : ℕ). done n) s at n size i t) ∙ e in
            let same : n ≡ a = cc in
            (ap test (sym same) ∙ t, subst (λ (k : ℕ). k < limit) same (number_bounds (drop at s) n size i).0)
        on (suc k) t =
            absurd (let f : ◌≡◌ {A = Outcome ℕ} (refused (suc k) at) (got a place) = sym (run_own test (λ (n : ℕ). done n) at (drop at s) n size k i t) ∙ e in let z : ◌≡◌ {A = ℕ} 0 1 = cc in omega arith)
    by (Refused k) i =
        absurd (let f : ◌≡◌ {A = Outcome ℕ} (refused k at) (got a place) = sym (run_bad test (λ (n : ℕ). done n) at (drop at s) k i) ∙ e in let z : ◌≡◌ {A = ℕ} 0 1 = cc in omega arith)

module _ (test : ℕ → ℕ) (old mid : Reader) (x : ℕ) (h : Reads Same (want test (λ (n : ℕ). done n)) old mid (Ok x)) where
  pub read_passes : test x ≡ 0
  read_passes = ap test h.answer.2 ∙ (got_passes test old.bytes.now old.at h.answer.1).0

  pub read_small : x < limit
  read_small = subst (λ (k : ℕ). k < limit) (sym h.answer.2) (got_passes test old.bytes.now old.at h.answer.1).1

-- a number that stands between two others
pub between_within : (low past : ℕ) (c : Condition) (old mid : Reader) (r : Result ℕ Refusal)
    → Reads Same (want (between low past (condition_number c)) (λ (n : ℕ). done n)) old mid r → IfOk r (λ n. (low ≤ n) × (n < past))
unfolding between
between_within low past c old mid (Err e) h = tt
between_within low past c old mid (Ok n) h = by (leb low n) refl (ltb n past) refl (read_passes (between low past (condition_number c)) old mid n h)
  where
    some : (j : ℕ) × (condition_number c ≡ suc j)
    some = number_some c

    by : (t : Bool) → leb low n ≡ t → (u : Bool) → ltb n past ≡ u → between low past (condition_number c) n ≡ 0 → (low ≤ n) × (n < past)
    by true f true g e = (leb-true low n f, ltb-true n past g)
    by true f false g e = absurd (let z : condition_number c ≡ 0 = sym (rw (f, g)) ∙ e in omega (arith, some.1))
    by false f u g e = absurd (let z : condition_number c ≡ 0 = sym (rw f) ∙ e in omega (arith, some.1))

module _ {U B : Type 0} (holds : U → B → Type 0) (test : ℕ → ℕ) (g : ℕ → Format B) (old mid : Reader) where
  pub wants_out : (e : Refusal) → Reads Same (want test (λ (n : ℕ). done n)) old mid (Err e) → Reads holds (want test g) old mid (Err e)
  unfolding and_then
  wants_out e h = reads_out Same holds (want test (λ (n : ℕ). done n)) g old mid e h

  pub wants_then : (x : ℕ) (new : Reader) (r : Result U Refusal) → Reads Same (want test (λ (n : ℕ). done n)) old mid (Ok x)
      → Reads holds (g x) mid new r → Reads holds (want test g) old new r
  unfolding and_then
  wants_then x new r h k =
      reads_then Same holds (want test (λ (n : ℕ). done n)) g old mid x new r h (λ a e. subst (λ (n : ℕ). Reads holds (g n) mid new r) e k)

-- what is wanted no further
pub reads_done : {T A : Type 0} (stands : T → A → Type 0) (x : T) (a : A) (old : Reader) → stands x a → Reads stands (done a) old old (Ok x)
unfolding run
reads_done stands x a old h = record { bytes = refl; answer = (a, refl, h) }

-- ---- things read one by one

-- the first x of so many are read, as xs, and reading goes on where the reader stands
pub record SoFar {A : Type 0} (more : ℕ → List A → Format (List A)) (old now : Reader) (many x : ℕ) (xs : List A) : Type 0 where
  pub bytes : now.bytes ≡ old.bytes
  pub count : length xs ≡ x
  pub rest : run (more (many - x) xs) now.at (drop now.at old.bytes.now) ≡ run (more many []) old.at (drop old.at old.bytes.now)

module _ {A : Type 0} (one : List A → Format A) (more : ℕ → List A → Format (List A)) (base : (l : List A) → more 0 l ≡ done l)
    (step : (k : ℕ) (l : List A) → more (suc k) l ≡ and_then (one l) (λ a. more k (l ++ (a ∷ [])))) where
  pub so_start : (old : Reader) (many : ℕ) → SoFar more old old many 0 []
  so_start old many = record { bytes = refl; count = refl; rest = (let e : many - 0 ≡ many = omega arith in ap (λ (k : ℕ). run (more k []) old.at (drop old.at old.bytes.now)) e) }

  module _ (old now : Reader) (many x : ℕ) (xs : List A) (inv : SoFar more old now many x xs) where
    -- while some are left, what remains is one and what remains after it
    one_more : x < many → run (more many []) old.at (drop old.at old.bytes.now)
        ≡ onward (λ a. more (many - (x + 1)) (xs ++ (a ∷ []))) old.bytes.now (run (one xs) now.at (drop now.at old.bytes.now))
    one_more h =
        let e : many - x ≡ suc (many - (x + 1)) = omega arith in
        sym inv.rest
        ∙ ap (λ (k : ℕ). run (more k xs) now.at (drop now.at old.bytes.now)) e
        ∙ ap (λ (f : Format (List A)). run f now.at (drop now.at old.bytes.now)) (step (many - (x + 1)) xs)
        ∙ run_then (one xs) (λ a. more (many - (x + 1)) (xs ++ (a ∷ []))) old.bytes.now now.at

    module _ {T : Type 0} (stands : T → A → Type 0) (h : x < many) (new : Reader) where
      -- the same bytes are read
      here : {o : Outcome A} → run (one xs) now.at (drop now.at now.bytes.now) ≡ o → run (one xs) now.at (drop now.at old.bytes.now) ≡ o
      here e = ap (λ (s : List ℕ). run (one xs) now.at (drop now.at s)) (sym (ap (λ b. b.now) inv.bytes)) ∙ e

      pub so_out : {U : Type 0} (holds : U → List A → Type 0) (e : Refusal) → Reads stands (one xs) now new (Err e) → Reads holds (more many []) old new (Err e)
      unfolding onward
      so_out holds e r =
          record {
            bytes = r.bytes ∙ inv.bytes;
            answer = one_more h ∙ ap (onward (λ a. more (many - (x + 1)) (xs ++ (a ∷ []))) old.bytes.now) (here r.answer);
          }

      pub so_next : (v : T) (r : Reads stands (one xs) now new (Ok v)) → SoFar more old new many (x + 1) (xs ++ (r.answer.0 ∷ []))
      unfolding onward
      so_next v r =
          record {
            bytes = r.bytes ∙ inv.bytes;
            count = omega (arith, length-append xs (r.answer.0 ∷ []), inv.count);
            rest = sym (one_more h ∙ ap (onward (λ a. more (many - (x + 1)) (xs ++ (a ∷ []))) old.bytes.now) (here r.answer.1));
          }

    pub so_end : {U : Type 0} (holds : U → List A → Type 0) (v : U) → many ≤ x → holds v xs → Reads holds (more many []) old now (Ok v)
    unfolding run
    so_end holds v h k =
        let e : many - x ≡ 0 = omega arith in
        record {
          bytes = inv.bytes;
          answer = (
            xs,
            sym inv.rest ∙ ap (λ (k : ℕ). run (more k xs) now.at (drop now.at old.bytes.now)) e
                ∙ ap (λ (f : Format (List A)). run f now.at (drop now.at old.bytes.now)) (base xs),
            k,
          );
        }

-- ---- a format to the end of the bytes

module _ {T A : Type 0} (stands : T → A → Type 0) (f : Format A) (s : List ℕ) (start new : Reader) (bytes : start.bytes.now ≡ s) (first : start.at ≡ 0) where
  -- reading from the start
  from_start : {o : Outcome A} → run f start.at (drop start.at start.bytes.now) ≡ o → run f 0 s ≡ o
  from_start e = sym (ap₂ (λ (at : ℕ) (t : List ℕ). run f at (drop at t)) first bytes) ∙ e

  pub whole_out : (e : Refusal) → Reads stands f start new (Err e) → run_all f s ≡ refused (condition_number e.condition) e.offset
  unfolding run_all at_end
  whole_out e h = ap (at_end (length s)) (from_start h.answer)

  module _ (x : T) (h : Reads stands f start new (Ok x)) where
    size : length s ≡ length new.bytes.now
    size = ap length (sym bytes) ∙ ap (λ b. length b.now) (sym h.bytes)

    pub whole_left : new.at < length new.bytes.now → run_all f s ≡ refused 11 new.at
    unfolding run_all at_end
    whole_left l =
        ap (at_end (length s)) (from_start h.answer.1)
        ∙ ap (λ (t : Bool). cond t (refused 11 new.at) (got h.answer.0 new.at)) (ap (ltb new.at) size ∙ lt-ltb new.at (length new.bytes.now) l)

    pub whole_is : length new.bytes.now ≤ new.at → (a : A) × (at : ℕ) × (run_all f s ≡ got a at) × stands x a
    unfolding run_all at_end
    whole_is l = (
      h.answer.0,
      new.at,
      ap (at_end (length s)) (from_start h.answer.1)
          ∙ ap (λ (t : Bool). cond t (refused 11 new.at) (got h.answer.0 new.at)) (ap (ltb new.at) size ∙ le-ltb new.at (length new.bytes.now) l),
      h.answer.2,
    )

    -- and nothing after it
    pub whole_end : {U : Type 0} (r : Result U Refusal)
        → MatchResult r (λ u. length new.bytes.now ≤ new.at) (λ e. (new.at < length new.bytes.now) × (e ≡ record { condition = LeftOver; offset = new.at }))
        → MatchResult r (λ u. (a : A) × (at : ℕ) × (run_all f s ≡ got a at) × stands x a) (λ e. run_all f s ≡ refused (condition_number e.condition) e.offset)
    whole_end (Ok u) l = whole_is l
    whole_end (Err e) l = whole_left l.0 ∙ ap (λ r. refused (condition_number r.condition) r.offset) (sym l.1)
