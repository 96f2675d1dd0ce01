-- Laws of the part-list reader's functions: the tests of a part's path, its children, and one part.
use Prim.Native.Nat.{ℕ, zero, suc, ◌+◌, ◌-◌, ◌^◌, ◌<◌, ◌≤◌}
use mathlib.Core.Path.{◌≡◌, refl, sym, ap, subst, ◌∙◌}
use mathlib.Core.Bool.{Bool, true, false, cond}
use mathlib.Core.List.{List, [], ◌∷◌, ◌++◌, append_assoc, append-nil}
use native.Mathlib.Decide.{dec_lt, ℕ_discrete}
use native.Mathlib.Nat.{zero-add}
use native.Mathlib.Omega.{arith}
use lib.ListN.{length, get_or, set, drop, length-set}
use lib.Seq.{get_or-set_same, get_or-set_other}
use lib.Pow.{pow_mono}
use lib.Dec.{eqb}
use borrow.Author.Tests.{lt-ltb, le-ltb, eq-eqb, ne_eqb}
use Rattle.std.specs.Prelude.{Ok, Err}
use Rattle.files.specs.declared.reader.Reader.{Reader}
use Rattle.files.specs.declared.refusal.Refusal.{Refusal}
use Rattle.files.specs.Number.{Begun, Is, Refused, number_in}
use Rattle.files.specs.Sets.{with_path}
use Rattle.files.specs.Format.{done, want, Outcome, run, got, refused}
use Rattle.files.specs.Readers.{Same, Reads}
use Rattle.files.specs.RuleFile.{between, any, more_ascending}
use Rattle.files.proofs.Ascending.{AscendingSoFar, ascending_start, ascending_out, ascending_next, ascending_end}
use Rattle.files.proofs.Formats.{run_bad, run_own, run_on}
use Rattle.files.proofs.Readers.{wants_out, wants_then, reads_out, reads_then, reads_done}
use Rattle.files.proofs.SetBits.{bit_of_zero, with_new, with_past, with_old, has_with}
use Rattle.documents.specs.PartList.{part_limit, listed, named_test, path_test, kids_on, part_at}
use Rattle.documents.specs.Reading.{on_kid, kids_from, kids_at, Marked, KidsAre, PartIs}

-- the set of one path
pub with_zero : (x : ℕ) → x < 64 → with_path 0 x ≡ 2 ^ x
with_zero x h = with_new 0 x h (bit_of_zero x) ∙ zero-add (2 ^ x)

-- ---- the test of a part's path

module _ (parent : ℕ → ℕ) (set p : ℕ) where
  pub named_none : set ≡ 0 → 17 ≡ named_test parent set p
  unfolding named_test
  named_none e = rw (eq-eqb set 0 e)

  module _ (some : set ≡ 0 → ⊥) where
    pub named_root : p ≡ 0 → 18 ≡ named_test parent set p
    unfolding named_test
    named_root e = rw (ne_eqb set 0 some, eq-eqb p 0 e)

    module _ (inner : p ≡ 0 → ⊥) where
      pub named_good : set ≡ 2 ^ parent p → 0 ≡ named_test parent set p
      unfolding named_test
      named_good e = rw (ne_eqb set 0 some, ne_eqb p 0 inner, eq-eqb set (2 ^ parent p) e)

      pub named_else : (set ≡ 2 ^ parent p → ⊥) → 18 ≡ named_test parent set p
      unfolding named_test
      named_else e = rw (ne_eqb set 0 some, ne_eqb p 0 inner, ne_eqb set (2 ^ parent p) e)

    module _ (inner : p ≡ 0 → ⊥) (y x w : ℕ) (a : y ≡ parent p) (b : x ≡ y) (e : w ≡ with_path 0 x) where
      pub named_fits : set ≡ w → 0 ≡ named_test parent set p
      named_fits f = named_good inner (by (dec_lt x 64))
        where
          by : Dec (x < 64) → set ≡ 2 ^ parent p
          by (yes h) = f ∙ e ∙ with_zero x h ∙ ap (λ (k : ℕ). 2 ^ k) (b ∙ a)
          by (no h) = absurd (some (f ∙ e ∙ with_past 0 x (omega arith)))

      pub named_other : (set ≡ w → ⊥) → set < 2 ^ 64 → 18 ≡ named_test parent set p
      named_other f fits = named_else inner (by (dec_lt x 64))
        where
          by : Dec (x < 64) → set ≡ 2 ^ parent p → ⊥
          by (yes h) g = f (g ∙ ap (λ (k : ℕ). 2 ^ k) (sym (b ∙ a)) ∙ sym (with_zero x h) ∙ sym e)
          by (no h) g = omega (arith, g, pow_mono {i = 64} {j = parent p} (omega arith))

pub ruleset named_laws = (named_none, named_root, named_fits, named_other)

module _ (parent : ℕ → ℕ) (count n set p : ℕ) where
  pub path_zero : n ≡ 0 → p ≡ 0 → 0 ≡ path_test parent count n set p
  unfolding path_test
  path_zero e f = rw (eq-eqb n 0 e, eq-eqb p 0 f)

  pub path_root : n ≡ 0 → (p ≡ 0 → ⊥) → 16 ≡ path_test parent count n set p
  unfolding path_test
  path_root e f = rw (eq-eqb n 0 e, ne_eqb p 0 f)

  module _ (later : n ≡ 0 → ⊥) where
    pub path_named : (r : ℕ) → p < count → r ≡ named_test parent set p → r ≡ path_test parent count n set p
    unfolding path_test
    path_named r h e = rw (ne_eqb n 0 later, lt-ltb p count h) e

    pub path_far : count ≤ p → 16 ≡ path_test parent count n set p
    unfolding path_test
    path_far h = rw (ne_eqb n 0 later, le-ltb p count h)

pub ruleset path_laws = (path_zero, path_root, path_named, path_far)

-- a path that passes is one of the 64
pub path_small : (parent : ℕ → ℕ) (count n set p : ℕ) → count ≤ 64 → path_test parent count n set p ≡ 0 → p < 64
path_small parent count n set p few e = by (ℕ_discrete n 0) (ℕ_discrete p 0) (dec_lt p count)
  where
    by : Dec (n ≡ 0) → Dec (p ≡ 0) → Dec (p < count) → p < 64
    by a (yes f) c = omega arith
    by a (no f) (yes h) = omega arith
    by (yes a) (no f) (no h) = absurd (omega (arith, path_root parent count n set p a f))
    by (no a) (no f) (no h) = absurd (omega (arith, path_far parent count n set p a (omega arith)))

-- ---- so many children

-- a number that was read stands where the reader stood
pub stands_there : (test : ℕ → ℕ) (s : List ℕ) (at : ℕ) {x after : ℕ} → run (want test (λ (n : ℕ). done n)) at (drop at s) ≡ got x after
    → (width : ℕ) × (number_in (drop at s) ≡ Is x width) × (after ≡ at + width)
unfolding run
stands_there test s at {x} {after} e = by (number_in (drop at s)) refl
  where
    by : (m : Begun) → number_in (drop at s) ≡ m → (width : ℕ) × (number_in (drop at s) ≡ Is x width) × (after ≡ at + width)
    by (Is n width) i = on (test n) refl
      where
        on : (k : ℕ) → test n ≡ k → (width : ℕ) × (number_in (drop at s) ≡ Is x width) × (after ≡ at + width)
        on zero t =
            let f : got n (at + width) ≡ got x after = sym (run_on test (λ (n : ℕ). done n) s at n width i t) ∙ e in
            let same : n ≡ x = cc in
            let place : at + width ≡ after = cc in
            (width, i ∙ ap (λ (k : ℕ). Is k width) same, sym place)
        on (suc k) t =
            absurd (let f : ◌≡◌ {A = Outcome ℕ} (refused (suc k) at) (got x after) = sym (run_own test (λ (n : ℕ). done n) at (drop at s) n width k i t) ∙ e in let z : ◌≡◌ {A = ℕ} 0 1 = cc in omega arith)
    by (Refused k) i =
        absurd (let f : ◌≡◌ {A = Outcome ℕ} (refused k at) (got x after) = sym (run_bad test (λ (n : ℕ). done n) at (drop at s) k i) ∙ e in let z : ◌≡◌ {A = ℕ} 0 1 = cc in omega arith)

-- a number that was read where a child is wanted is that child
pub kids_one : (test : ℕ → ℕ) (s : List ℕ) (next left : ℕ) {x after : ℕ} → 0 < left → run (want test (λ (n : ℕ). done n)) next (drop next s) ≡ got x after
    → kids_from s next left ≡ x ∷ kids_from s after (left - 1)
unfolding kids_from on_kid
kids_one test s next left {x} {after} h e =
    let t : (width : ℕ) × (number_in (drop next s) ≡ Is x width) × (after ≡ next + width) = stands_there test s next e in
    let f : left ≡ suc (left - 1) = omega arith in
    ap (kids_from s next) f ∙ ap (on_kid (λ x size. x ∷ kids_from s (next + size) (left - 1))) t.1
    ∙ ap (λ (k : ℕ). x ∷ kids_from s k (left - 1)) (sym t.2)

listed_snoc : (m : ℕ) (ks : List ℕ) (x : ℕ) → listed m (ks ++ (x ∷ [])) ≡ cond (listed m ks) true (eqb x m)
unfolding listed
listed_snoc m [] x = by (eqb x m)
  where
    by : (t : Bool) → cond t true false ≡ t
    by true = refl
    by false = refl
listed_snoc m (k ∷ ks) x = by (eqb k m) (listed_snoc m ks x)
  where
    by : (t : Bool) → listed m (ks ++ (x ∷ [])) ≡ cond (listed m ks) true (eqb x m)
        → cond t true (listed m (ks ++ (x ∷ []))) ≡ cond (cond t true (listed m ks)) true (eqb x m)
    by true e = refl
    by false e = e

-- a path that is in the set already is not added again
with_twice : (w p : ℕ) → with_path (with_path w p) p ≡ with_path w p
with_twice w p = by (dec_lt p 64)
  where
    by : Dec (p < 64) → with_path (with_path w p) p ≡ with_path w p
    by (yes h) = with_old (with_path w p) p h ((has_with w p p h).1 (mathlib.Core.Logic.inl refl))
    by (no h) = with_past (with_path w p) p (omega arith)

mark_none : (p : ℕ) (l : List ℕ) → Marked p [] l l
unfolding listed
mark_none p l = record { same = refl; each = λ m h. refl }

mark_more : (p : ℕ) (ks before after : List ℕ) (x : ℕ) → Marked p ks before after → length after ≡ part_limit → x < part_limit
    → Marked p (ks ++ (x ∷ [])) before (set after x (with_path (get_or after x 0) p))
mark_more p ks before after x inv long h =
    record {
      same = length-set after x (with_path (get_or after x 0) p) ∙ inv.same;
      each = λ m l. rw (listed_snoc m ks x) (by m l (ℕ_discrete m x));
    }
  where
    Goal : ℕ → Bool → Type 0
    Goal m t =
        get_or (set after x (with_path (get_or after x 0) p)) m 0
        ≡ cond (cond (listed m ks) true t) (with_path (get_or before m 0) p) (get_or before m 0)

    at : (m : ℕ) (t : Bool) → listed m ks ≡ t → get_or after m 0 ≡ cond t (with_path (get_or before m 0) p) (get_or before m 0)
        → with_path (get_or after m 0) p ≡ with_path (get_or before m 0) p
    at m true f e = ap (λ (w : ℕ). with_path w p) e ∙ with_twice (get_or before m 0) p
    at m false f e = ap (λ (w : ℕ). with_path w p) e

    either : {A : Type 0} (t : Bool) (a b : A) → a ≡ cond (cond t true true) a b
    either true a b = refl
    either false a b = refl

    keeps : {A : Type 0} (t : Bool) (a b : A) → cond t a b ≡ cond (cond t true false) a b
    keeps true a b = refl
    keeps false a b = refl

    by : (m : ℕ) → m < part_limit → Dec (m ≡ x) → Goal m (eqb x m)
    by m l (yes e) =
        subst (Goal m) (sym (eq-eqb x m (sym e)))
        (ap (λ (k : ℕ). get_or (set after x (with_path (get_or after x 0) p)) k 0) e
        ∙ get_or-set_same after x (with_path (get_or after x 0) p) 0 (omega arith)
        ∙ ap (λ (k : ℕ). with_path (get_or after k 0) p) (sym e)
        ∙ at m (listed m ks) refl (inv.each m l)
        ∙ either (listed m ks) _ _)
    by m l (no n) =
        subst (Goal m) (sym (ne_eqb x m (λ z. n (sym z))))
        (get_or-set_other after x m (with_path (get_or after x 0) p) 0 n ∙ inv.each m l ∙ keeps (listed m ks) _ _)

-- the children so far are read and marked
pub record KidsSoFar (old now : Reader) (size n p many i : ℕ) (before after : List ℕ) (last : ℕ) : Type 0 where
  pub ks : List ℕ
  pub read : AscendingSoFar old now 19 size many n i last ks
  pub kids : ks ++ kids_from old.bytes.now now.at (many - i) ≡ kids_from old.bytes.now old.at many
  pub marked : Marked p ks before after
  pub long : length after ≡ part_limit
  pub small : last < part_limit

pub kids_start : (old : Reader) (size n p many : ℕ) (l : List ℕ) → length l ≡ part_limit → n < part_limit → KidsSoFar old old size n p many 0 l l n
kids_start old size n p many l long h =
    record {
      ks = [];
      read = ascending_start old 19 size many n;
      kids = (let e : many - 0 ≡ many = omega arith in ap (kids_from old.bytes.now old.at) e);
      marked = mark_none p l;
      long = long;
      small = h;
    }

module _ (old now : Reader) (size n p many i : ℕ) (before after : List ℕ) (last : ℕ) (inv : KidsSoFar old now size n p many i before after last) where
  pub kids_small : last < part_limit
  kids_small = inv.small

  module _ (h : i < many) (new : Reader) where
    pub kids_refused : (e : Refusal) → Reads Same (want (between (last + 1) size 19) (λ (n : ℕ). done n)) now new (Err e)
        → Reads (KidsAre old many p before after) (more_ascending 19 size many n []) old new (Err e)
    kids_refused e r = ascending_out old now 19 size many n i last inv.ks inv.read h new (KidsAre old many p before after) e r

    pub kids_more : (x q w : ℕ) → Reads Same (want (between (last + 1) size 19) (λ (n : ℕ). done n)) now new (Ok x) → x < part_limit → q ≡ p
        → w ≡ with_path (get_or after x 0) q → KidsSoFar old new size n p many (i + 1) before (set after x w) x
    kids_more x q w r small g e =
        let k : set after x w ≡ set after x (with_path (get_or after x 0) p) = ap (set after x) (e ∙ ap (with_path (get_or after x 0)) g) in
        let bytes : now.bytes.now ≡ old.bytes.now = ap (λ b. b.now) inv.read.bytes in
        let one : kids_from now.bytes.now now.at (many - i) ≡ r.answer.0 ∷ kids_from now.bytes.now new.at (many - i - 1) =
        kids_one (between (last + 1) size 19) now.bytes.now now.at (many - i) (omega arith) r.answer.1 in
        let fewer : many - i - 1 ≡ many - (i + 1) = omega arith in
        let here : kids_from old.bytes.now now.at (many - i) ≡ x ∷ kids_from old.bytes.now new.at (many - (i + 1)) =
        ap (λ (s : List ℕ). kids_from s now.at (many - i)) (sym bytes) ∙ one
        ∙ ap (λ (s : List ℕ). r.answer.0 ∷ kids_from s new.at (many - i - 1)) bytes
        ∙ ap (λ (y : ℕ). y ∷ kids_from old.bytes.now new.at (many - i - 1)) (sym r.answer.2)
        ∙ ap (λ (y : ℕ). x ∷ kids_from old.bytes.now new.at y) fewer in
        record {
          ks = inv.ks ++ (x ∷ []);
          read = ascending_next old now 19 size many n i last inv.ks inv.read h new x r;
          kids = append_assoc inv.ks (x ∷ []) (kids_from old.bytes.now new.at (many - (i + 1))) ∙ ap (λ (t : List ℕ). inv.ks ++ t) (sym here) ∙ inv.kids;
          marked = subst (Marked p (inv.ks ++ (x ∷ [])) before) (sym k) (mark_more p inv.ks before after x inv.marked inv.long small);
          long = ap length k ∙ length-set after x (with_path (get_or after x 0) p) ∙ inv.long;
          small = small;
        }

  pub kids_end : many ≤ i → Reads (KidsAre old many p before after) (more_ascending 19 size many n []) old now (Ok tt)
  unfolding kids_from
  kids_end h =
      let e : many - i ≡ 0 = omega arith in
      let k : kids_from old.bytes.now old.at many ≡ inv.ks =
      sym inv.kids ∙ ap (λ (j : ℕ). inv.ks ++ kids_from old.bytes.now now.at j) e ∙ append-nil inv.ks in
      ascending_end old now 19 size many n i last inv.ks inv.read (KidsAre old many p before after) tt h (record { kids = k; marked = inv.marked })

-- ---- one part

module _ (parent : ℕ → ℕ) (count size n set p : ℕ) (before after : List ℕ) (old : Reader) where
  pub part_out : (mid : Reader) (e : Refusal) → Reads Same (want (path_test parent count n set) (λ (n : ℕ). done n)) old mid (Err e)
      → Reads (PartIs old.bytes.now before after) (part_at parent count size n set) old mid (Err e)
  unfolding part_at
  part_out mid e r = wants_out (PartIs old.bytes.now before after) _ _ old mid e r

  module _ (first : Reader) (a : Reads Same (want (path_test parent count n set) (λ (n : ℕ). done n)) old first (Ok p)) where
    pub part_count_out : (new : Reader) (e : Refusal) → Reads Same (want any (λ (n : ℕ). done n)) first new (Err e)
        → Reads (PartIs old.bytes.now before after) (part_at parent count size n set) old new (Err e)
    unfolding part_at kids_on
    part_count_out new e r =
        wants_then (PartIs old.bytes.now before after) _ _ old first p new (Err e) a (wants_out (PartIs old.bytes.now before after) _ _ first new e r)

    module _ (second new : Reader) (many : ℕ) (b : Reads Same (want any (λ (n : ℕ). done n)) first second (Ok many)) where
      pub part_kids_out : (e : Refusal) → Reads (KidsAre second many p before after) (more_ascending 19 size many n []) second new (Err e)
          → Reads (PartIs old.bytes.now before after) (part_at parent count size n set) old new (Err e)
      unfolding part_at kids_on
      part_kids_out e r =
          wants_then (PartIs old.bytes.now before after) _ _ old first p new (Err e) a
          (wants_then (PartIs old.bytes.now before after) _ _ first second many new (Err e) b
          (reads_out (KidsAre second many p before after) (PartIs old.bytes.now before after) _ _ second new e r))

      pub part_is : Reads (KidsAre second many p before after) (more_ascending 19 size many n []) second new (Ok tt)
          → Reads (PartIs old.bytes.now before after) (part_at parent count size n set) old new (Ok (record { path = p; place = first.at }))
      unfolding part_at kids_on kids_at on_kid
      part_is r =
          let same : first.bytes.now ≡ old.bytes.now = ap (λ b. b.now) a.bytes in
          let also : second.bytes.now ≡ old.bytes.now = ap (λ b. b.now) b.bytes ∙ same in
          let there : (width : ℕ) × (number_in (drop first.at first.bytes.now) ≡ Is b.answer.0 width) × (second.at ≡ first.at + width) =
          stands_there any first.bytes.now first.at b.answer.1 in
          wants_then (PartIs old.bytes.now before after) _ _ old first p new _ a
          (wants_then (PartIs old.bytes.now before after) _ _ first second many new _ b
          (reads_then (KidsAre second many p before after) (PartIs old.bytes.now before after) _ _ second new tt new _ r
          (λ ks are. reads_done (PartIs old.bytes.now before after) _ _ new
          (record {
            path = refl;
            kids =
                ap (λ (s : List ℕ). on_kid (λ k width. kids_from s (first.at + width) k) (number_in (drop first.at s))) (sym same)
                ∙ ap (on_kid (λ k width. kids_from first.bytes.now (first.at + width) k)) there.1
                ∙ ap (λ (k : ℕ). kids_from first.bytes.now (first.at + there.0) k) (sym b.answer.2)
                ∙ ap (λ (at : ℕ). kids_from first.bytes.now at many) (sym there.2)
                ∙ ap (λ (s : List ℕ). kids_from s second.at many) (same ∙ sym also)
                ∙ are.kids;
            marked = are.marked;
          }))))
