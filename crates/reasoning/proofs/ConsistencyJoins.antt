-- What consistency answers and leaves is what its contract says by cases, and no second answer and no second buffer are in one.
use Prim.Native.Nat.{ℕ, ◌^◌, ◌≤◌, ◌<◌}
use mathlib.Core.Path.{◌≡◌, refl, sym, ap, subst, ◌∙◌}
use mathlib.Core.Logic.{◌↔◌, ◌⊎◌, inl, inr}
use mathlib.Core.Bool.{Bool, true, false}
use mathlib.Core.List.{List, ◌∷◌}
use native.Mathlib.Omega.{arith}
use lib.Dec.{T}
use lib.ListN.{length, take}
use Rattle.files.specs.declared.rules.Rules.{Rules}
use Rattle.files.specs.Number.{bytes_of_all}
use Rattle.files.specs.Rules.{rules_of, ValidTable}
use Rattle.files.specs.TableTest.{table_passes}
use Rattle.files.specs.Writing.{put}
use Rattle.files.proofs.TableTests.{passes_valid}
use Rattle.std.specs.Prelude.{Result, Ok, Err}
use Rattle.files.specs.declared.refusal.Refusal.{Refusal}
use Rattle.files.specs.Refusals.{condition_number}
use Rattle.files.proofs.Conditions.{refusal_once}
use Rattle.reasoning.specs.declared.consistency.Verdict.{Verdict as Returned}
use Rattle.reasoning.specs.Verdict.{Verdict, verdict}
use Rattle.documents.specs.Judgement.{parents_of}
use Rattle.reasoning.specs.Calls.{
  rule_list_of,
  asked_of,
  Answered,
  answered,
  document_bytes,
  inconsistent_bytes,
  consistency_answer,
  Fills,
  HandsBack,
  BringsEvidence,
  Agrees,
  VerdictBytes,
  VerdictCase,
  DecidesConsistency,
}
use Rattle.theory.specs.Decide.{asked_in}
use Rattle.theory.specs.Evidence.{consistentb, inconsistent_numbers, ShowsInconsistent, WritesInconsistent, Bounded}
use Rattle.theory.specs.Follows.{Witnesses}
use Rattle.theory.specs.Handed.{start_consistency}
use Rattle.theory.proofs.Answers.{consistent_some}
use Rattle.theory.proofs.EvidenceSize.{inconsistent_bounded}
use Rattle.theory.proofs.HandedRows.{Begins}
use Rattle.theory.proofs.HandedDocuments.{begins_consistency, consistency_document}
use Rattle.reasoning.proofs.Placed.{Placed, fills, too_long, placed_at, fills_take, fills_same}
use Rattle.reasoning.proofs.ReadBack.{hands_back, document_is, document_same, document_room, bounded_bytes}
use Rattle.theory.proofs.Shows.{inconsistent_shows}
use Rattle.reasoning.proofs.ValidFits.{table_fits, table_shallow, required_in, required_inner, asked_is, asked_in_lem}
use Rattle.theory.proofs.Writes.{inconsistent_written, inconsistent_only}

-- whether the rules of a table are computed to be consistent with its required paths
abbrev agreesb : Rules → Bool
agreesb t = consistentb (parents_of t) (rule_list_of t) t.paths (asked_of t)

-- ---- the answer by its tests

module _ (t : Rules) (out : List ℕ) where
  pub consistency_invalid : table_passes t ≡ false → consistency_answer t out ≡ record { answer = Verdict.Refused 12 0; buffer = out }
  unfolding consistency_answer
  consistency_invalid e = rw (consistency_answer, e) refl

  pub consistency_agrees : table_passes t ≡ true → consistentb (parents_of t) (rule_list_of t) t.paths (asked_of t) ≡ true
      → consistency_answer t out
      ≡ answered Verdict.Consistent Verdict.Refused (put (document_bytes t (start_consistency (asked_of t))) out)
  unfolding consistency_answer
  consistency_agrees e f = rw (consistency_answer, e, f) refl

  pub consistency_conflicts : table_passes t ≡ true → consistentb (parents_of t) (rule_list_of t) t.paths (asked_of t) ≡ false
      → consistency_answer t out ≡ answered Verdict.Inconsistent Verdict.Refused (put (inconsistent_bytes t) out)
  unfolding consistency_answer
  consistency_conflicts e f = rw (consistency_answer, e, f) refl

-- ---- what a valid table's answers show

module _ (t : Rules) (word : t.required < 2 ^ 64) (v : ValidTable t) where
  -- the computed test says whether some document does
  agrees_some : T (agreesb t) ↔ Agrees t
  agrees_some =
      subst (λ (w : ℕ). T (consistentb (parents_of t) (rule_list_of t) t.paths w) ↔ Agrees t) (sym (asked_is t word))
      (consistent_some (table_fits t v) (rules_of t).required v.some (required_in t v))

  begins : Begins (parents_of t) t.paths (0 ∷ (rules_of t).required) (start_consistency (asked_in (rules_of t).required))
  begins = begins_consistency (table_fits t v).descending (table_fits t v).few v.some (required_in t v) (required_inner t v)

  -- what the document of a consistent table begins with
  pub asked_begins : Begins (parents_of t) t.paths (0 ∷ (rules_of t).required) (start_consistency (asked_of t))
  asked_begins =
      subst (λ (w : ℕ). Begins (parents_of t) t.paths (0 ∷ (rules_of t).required) (start_consistency w)) (sym (asked_is t word)) begins

  -- that document is handed back
  agrees_document : T (agreesb t)
      → HandsBack t (document_bytes t (start_consistency (asked_of t)))
      (Witnesses (parents_of t) (rule_list_of t) t.paths (rules_of t).required)
  agrees_document =
      subst
      (λ (w : ℕ). T (consistentb (parents_of t) (rule_list_of t) t.paths w) → HandsBack t (document_bytes t (start_consistency w))
      (Witnesses (parents_of t) (rule_list_of t) t.paths (rules_of t).required))
      (sym (asked_is t word))
      (λ c. hands_back t v begins
      (consistency_document (table_fits t v) (table_shallow t v) (rules_of t).required v.some (required_in t v) (required_inner t v) c))

  -- and takes at most 65,536 bytes
  pub consistent_room : length (document_bytes t (start_consistency (asked_of t))) ≤ 65536
  consistent_room = document_room t v asked_begins

  module _ (never : T (agreesb t) → ⊥) where
    -- the evidence of an inconsistent one is the one that 01 writes
    written : WritesInconsistent (parents_of t) (rule_list_of t) (asked_of t)
        (inconsistent_numbers (parents_of t) (rule_list_of t) t.paths (asked_of t))
    written = inconsistent_written (table_fits t v) (asked_of t) v.some (asked_in_lem t word v) never

    -- its bytes are of numbers of which holds what holds of those
    conflict_brings : {Shown : List ℕ → Type 0} → Shown (inconsistent_numbers (parents_of t) (rule_list_of t) t.paths (asked_of t))
        → BringsEvidence (inconsistent_bytes t) Shown
    unfolding inconsistent_bytes
    conflict_brings s = record {
      numbers = inconsistent_numbers (parents_of t) (rule_list_of t) t.paths (asked_of t);
      are = refl;
      shown = s;
    }

    -- it has at most 196 numbers
    pub conflict_bounded : Bounded 196 (inconsistent_numbers (parents_of t) (rule_list_of t) t.paths (asked_of t))
    conflict_bounded = inconsistent_bounded (table_fits t v) (asked_in_lem t word v) written

    -- and so at most 392 bytes
    pub inconsistent_room : length (inconsistent_bytes t) ≤ 392
    unfolding inconsistent_bytes
    inconsistent_room = bounded_bytes conflict_bounded

  -- no other bytes answer
  bytes_same : {bytes others : List ℕ} → VerdictBytes t bytes → VerdictBytes t others → bytes ≡ others
  bytes_same (VerdictBytes.witness a d) (VerdictBytes.witness b e) = document_same t v begins d e
  bytes_same (VerdictBytes.witness a d) (VerdictBytes.conflict n e) = absurd (n a)
  bytes_same (VerdictBytes.conflict n d) (VerdictBytes.witness a e) = absurd (n a)
  bytes_same (VerdictBytes.conflict n d) (VerdictBytes.conflict m e) =
      d.are
      ∙ ap bytes_of_all
      (inconsistent_only (table_fits t v) (asked_of t) v.some (asked_in_lem t word v) d.shown
      ∙ sym (inconsistent_only (table_fits t v) (asked_of t) v.some (asked_in_lem t word v) e.shown))
      ∙ sym e.are

-- ---- the cases of an answer

module _ (t : Rules) (out : List ℕ) (r : Verdict) (after : List ℕ) (word : t.required < 2 ^ 64)
    (is : r ≡ (consistency_answer t out).answer) (leaves : after ≡ (consistency_answer t out).buffer) where
  -- the answer is in one of the cases
  consistency_case : VerdictCase t out r after
  consistency_case = pick (table_passes t) refl (agreesb t) refl
    where
      agreed : ValidTable t → T (agreesb t)
          → Placed Verdict.Consistent Verdict.Refused (document_bytes t (start_consistency (asked_of t))) out r after
          → VerdictCase t out r after
      agreed v c p = by p
        where
          some : Agrees t
          some = (agrees_some t word v).0 c

          by : Placed Verdict.Consistent Verdict.Refused (document_bytes t (start_consistency (asked_of t))) out r after → VerdictCase t out r after
          by (fills e f) =
              VerdictCase.consistent v some (document_bytes t (start_consistency (asked_of t))) (document_is t v (asked_begins t word v))
              (agrees_document t word v c) e f
          by (too_long h e s) =
              VerdictCase.no_room v (document_bytes t (start_consistency (asked_of t)))
              (VerdictBytes.witness some (document_is t v (asked_begins t word v))) h e s

      conflicting : ValidTable t → (T (agreesb t) → ⊥)
          → Placed Verdict.Inconsistent Verdict.Refused (inconsistent_bytes t) out r after → VerdictCase t out r after
      conflicting v n p = by p
        where
          none : Agrees t → ⊥
          none c = n ((agrees_some t word v).1 c)

          by : Placed Verdict.Inconsistent Verdict.Refused (inconsistent_bytes t) out r after → VerdictCase t out r after
          by (fills e f) =
              VerdictCase.inconsistent v none (inconsistent_bytes t) (conflict_brings t word v n (written t word v n))
              (conflict_brings t word v n (inconsistent_shows (table_fits t v).descending (written t word v n))) e f
          by (too_long h e s) =
              VerdictCase.no_room v (inconsistent_bytes t) (VerdictBytes.conflict none (conflict_brings t word v n (written t word v n))) h e s

      pick : (a : Bool) → table_passes t ≡ a → (b : Bool) → agreesb t ≡ b → VerdictCase t out r after
      pick false e b f =
          let z = consistency_invalid t out e in
          VerdictCase.not_valid (λ v. subst T (sym ((passes_valid t word).1 v) ∙ e) tt)
          (is ∙ ap (λ (x : Answered Verdict). x.answer) z) (leaves ∙ ap (λ (x : Answered Verdict). x.buffer) z)
      pick true e true f =
          agreed ((passes_valid t word).0 e) (subst T (sym f) tt)
          (placed_at Verdict.Consistent Verdict.Refused (document_bytes t (start_consistency (asked_of t))) out
          (consistency_agrees t out e f) is leaves)
      pick true e false f =
          conflicting ((passes_valid t word).0 e) (λ c. subst T f c)
          (placed_at Verdict.Inconsistent Verdict.Refused (inconsistent_bytes t) out (consistency_conflicts t out e f) is leaves)

-- ---- what follows from the case

-- a refusal has no length
refused_length : (r : Verdict) {k : ℕ} → r ≡ Verdict.Refused k 0 → (m : ℕ) → (r ≡ Verdict.Consistent m) ⊎ (r ≡ Verdict.Inconsistent m) → ⊥
refused_length r e m (inl f) = let z : ◌≡◌ {A = ℕ} 0 1 = cc in omega arith
refused_length r e m (inr f) = let z : ◌≡◌ {A = ℕ} 0 1 = cc in omega arith

module _ (t : Rules) (out : List ℕ) (word : t.required < 2 ^ 64) where
  -- the answer of a valid table takes at most 65,536 bytes
  verdict_room : ValidTable t → {bytes : List ℕ} → VerdictBytes t bytes → length bytes ≤ 65536
  verdict_room v (VerdictBytes.witness a d) = omega (
    arith,
    ap length (document_same t v (begins t word v) d (document_is t v (asked_begins t word v))),
    consistent_room t word v,
  )
  verdict_room v (VerdictBytes.conflict n d) =
      let never : T (agreesb t) → ⊥ = λ c. n ((agrees_some t word v).0 c) in
      omega (
        arith,
        ap length (bytes_same t word v (VerdictBytes.conflict n d) (VerdictBytes.conflict n (conflict_brings t word v never (written t word v never)))),
        inconsistent_room t word v never,
      )

  module _ (r : Verdict) (after : List ℕ) where
    case_decides : r ≡ (consistency_answer t out).answer → after ≡ (consistency_answer t out).buffer → VerdictCase t out r after
        → DecidesConsistency t out r after
    case_decides is leaves (VerdictCase.not_valid n e s) = record {
      answer = is;
      buffer = leaves;
      means = VerdictCase.not_valid n e s;
      invalid = (λ f. n, λ f. e);
      short = (λ f. absurd (let z : ◌≡◌ {A = ℕ} 12 20 = cc in omega arith), λ f. absurd (n f.0));
      refused = λ k at f. (inl (let z : ◌≡◌ {A = ℕ} k 12 = cc in z), let z : ◌≡◌ {A = ℕ} at 0 = cc in z, s);
      consistent = λ m f. absurd (let z : ◌≡◌ {A = ℕ} 0 1 = cc in omega arith);
      inconsistent = λ m f. absurd (let z : ◌≡◌ {A = ℕ} 0 1 = cc in omega arith);
      within = λ m f. absurd (refused_length r e m f);
      room = λ h f. let z : ◌≡◌ {A = ℕ} 12 20 = cc in omega arith;
    }
    case_decides is leaves (VerdictCase.no_room v bytes b l e s) = record {
      answer = is;
      buffer = leaves;
      means = VerdictCase.no_room v bytes b l e s;
      invalid = (λ f. absurd (let z : ◌≡◌ {A = ℕ} 12 20 = cc in omega arith), λ f. absurd (f v));
      short = (λ f. (v, (bytes, b, l)), λ f. e);
      refused = λ k at f. (inr (let z : ◌≡◌ {A = ℕ} k 20 = cc in z), let z : ◌≡◌ {A = ℕ} at 0 = cc in z, s);
      consistent = λ m f. absurd (let z : ◌≡◌ {A = ℕ} 0 1 = cc in omega arith);
      inconsistent = λ m f. absurd (let z : ◌≡◌ {A = ℕ} 0 1 = cc in omega arith);
      within = λ m f. absurd (refused_length r e m f);
      room = λ h f. omega (arith, verdict_room v b);
    }
    case_decides is leaves (VerdictCase.consistent v a bytes d h e f) = record {
      answer = is;
      buffer = leaves;
      means = VerdictCase.consistent v a bytes d h e f;
      invalid = (λ g. absurd (let z : ◌≡◌ {A = ℕ} 0 1 = cc in omega arith), λ g. absurd (g v));
      short = (
        λ g. absurd (let z : ◌≡◌ {A = ℕ} 0 1 = cc in omega arith),
        λ g. absurd (omega (arith, f.fits, ap length (bytes_same t word v (VerdictBytes.witness a d) g.1.1), g.1.2)),
      );
      refused = λ k at g. absurd (let z : ◌≡◌ {A = ℕ} 0 1 = cc in omega arith);
      consistent = λ m g.
          let z : length bytes ≡ m = cc in
          subst (λ (b : List ℕ). HandsBack t b (Witnesses (parents_of t) (rule_list_of t) t.paths (rules_of t).required))
          (sym (subst (λ (k : ℕ). take k after ≡ bytes) z (fills_take f))) h;
      inconsistent = λ m g. absurd (let z : ◌≡◌ {A = ℕ} 0 1 = cc in omega arith);
      within = λ m. length_within m;
      room = λ l g. let z : ◌≡◌ {A = ℕ} 0 1 = cc in omega arith;
    }
      where
        length_within : (m : ℕ) → (r ≡ Verdict.Consistent m) ⊎ (r ≡ Verdict.Inconsistent m) → m ≤ length out
        length_within m (inl g) = let z : length bytes ≡ m = cc in omega (arith, f.fits)
        length_within m (inr g) = absurd (let z : ◌≡◌ {A = ℕ} 0 1 = cc in omega arith)
    case_decides is leaves (VerdictCase.inconsistent v n bytes d h e f) = record {
      answer = is;
      buffer = leaves;
      means = VerdictCase.inconsistent v n bytes d h e f;
      invalid = (λ g. absurd (let z : ◌≡◌ {A = ℕ} 0 1 = cc in omega arith), λ g. absurd (g v));
      short = (
        λ g. absurd (let z : ◌≡◌ {A = ℕ} 0 1 = cc in omega arith),
        λ g. absurd (omega (arith, f.fits, ap length (bytes_same t word v (VerdictBytes.conflict n d) g.1.1), g.1.2)),
      );
      refused = λ k at g. absurd (let z : ◌≡◌ {A = ℕ} 0 1 = cc in omega arith);
      consistent = λ m g. absurd (let z : ◌≡◌ {A = ℕ} 0 1 = cc in omega arith);
      inconsistent = λ m g.
          let z : length bytes ≡ m = cc in (
            n,
            subst (λ (b : List ℕ). BringsEvidence b (ShowsInconsistent (parents_of t) (rule_list_of t) (asked_of t)))
                (sym (subst (λ (k : ℕ). take k after ≡ bytes) z (fills_take f))) h,
          );
      within = λ m. length_within m;
      room = λ l g. let z : ◌≡◌ {A = ℕ} 0 1 = cc in omega arith;
    }
      where
        length_within : (m : ℕ) → (r ≡ Verdict.Consistent m) ⊎ (r ≡ Verdict.Inconsistent m) → m ≤ length out
        length_within m (inl g) = absurd (let z : ◌≡◌ {A = ℕ} 0 1 = cc in omega arith)
        length_within m (inr g) = let z : length bytes ≡ m = cc in omega (arith, f.fits)

  -- no second answer, and no second buffer, has that meaning
  pub verdict_unique : {r q : Verdict} {after other : List ℕ} → VerdictCase t out r after → VerdictCase t out q other
      → (r ≡ q) × (after ≡ other)
  verdict_unique (VerdictCase.not_valid n e s) (VerdictCase.not_valid m f u) = (e ∙ sym f, s ∙ sym u)
  verdict_unique (VerdictCase.not_valid n e s) (VerdictCase.no_room v bytes b l f u) = absurd (n v)
  verdict_unique (VerdictCase.not_valid n e s) (VerdictCase.consistent v a bytes d h f u) = absurd (n v)
  verdict_unique (VerdictCase.not_valid n e s) (VerdictCase.inconsistent v a bytes d h f u) = absurd (n v)
  verdict_unique (VerdictCase.no_room v bytes b l e s) (VerdictCase.not_valid n f u) = absurd (n v)
  verdict_unique (VerdictCase.no_room v bytes b l e s) (VerdictCase.no_room w others c k f u) = (e ∙ sym f, s ∙ sym u)
  verdict_unique (VerdictCase.no_room v bytes b l e s) (VerdictCase.consistent w a others d h f u) =
      absurd (omega (arith, u.fits, ap length (bytes_same t word v b (VerdictBytes.witness a d))))
  verdict_unique (VerdictCase.no_room v bytes b l e s) (VerdictCase.inconsistent w a others d h f u) =
      absurd (omega (arith, u.fits, ap length (bytes_same t word v b (VerdictBytes.conflict a d))))
  verdict_unique (VerdictCase.consistent v a bytes d h e s) (VerdictCase.not_valid n f u) = absurd (n v)
  verdict_unique (VerdictCase.consistent v a bytes d h e s) (VerdictCase.no_room w others c k f u) =
      absurd (omega (arith, s.fits, ap length (bytes_same t word v c (VerdictBytes.witness a d))))
  verdict_unique {r} {q} {after} {other} (VerdictCase.consistent v a bytes d h e s) (VerdictCase.consistent w c others i j f u) =
      let z = bytes_same t word v (VerdictBytes.witness a d) (VerdictBytes.witness c i) in (
        e ∙ ap (λ (l : List ℕ). Verdict.Consistent (length l)) z ∙ sym f,
        fills_same s (subst (λ (l : List ℕ). Fills l out other) (sym z) u),
      )
  verdict_unique (VerdictCase.consistent v a bytes d h e s) (VerdictCase.inconsistent w n others i j f u) = absurd (n a)
  verdict_unique (VerdictCase.inconsistent v n bytes d h e s) (VerdictCase.not_valid m f u) = absurd (m v)
  verdict_unique (VerdictCase.inconsistent v n bytes d h e s) (VerdictCase.no_room w others c k f u) =
      absurd (omega (arith, s.fits, ap length (bytes_same t word v c (VerdictBytes.conflict n d))))
  verdict_unique (VerdictCase.inconsistent v n bytes d h e s) (VerdictCase.consistent w a others i j f u) = absurd (n a)
  verdict_unique {r} {q} {after} {other} (VerdictCase.inconsistent v n bytes d h e s) (VerdictCase.inconsistent w m others i j f u) =
      let z = bytes_same t word v (VerdictBytes.conflict n d) (VerdictBytes.conflict m i) in (
        e ∙ ap (λ (l : List ℕ). Verdict.Inconsistent (length l)) z ∙ sym f,
        fills_same s (subst (λ (l : List ℕ). Fills l out other) (sym z) u),
      )

-- what consistency answers and leaves is what the contract says
pub consistency_decides : (t : Rules) (out : List ℕ) (r : Verdict) (after : List ℕ) → t.required < 2 ^ 64 → r ≡ (consistency_answer t out).answer
    → after ≡ (consistency_answer t out).buffer → DecidesConsistency t out r after
consistency_decides t out r after word is leaves = case_decides t out word r after is leaves (consistency_case t out r after word is leaves)

-- so the contract has one answer and one buffer
pub consistency_unique : (t : Rules) (out : List ℕ) (r q : Verdict) (after other : List ℕ) → DecidesConsistency t out r after
    → DecidesConsistency t out q other → (r ≡ q) × (after ≡ other)
consistency_unique t out r q after other h k = (h.answer ∙ sym k.answer, h.buffer ∙ sym k.buffer)

-- a result is known by its verdict
pub verdict_known : (r q : Result Returned Refusal) → verdict r ≡ verdict q → r ≡ q
verdict_known (Ok (Returned.Consistent n)) (Ok (Returned.Consistent m)) e = let f : n ≡ m = cc in ap (λ (k : ℕ). Ok (Returned.Consistent k)) f
verdict_known (Ok (Returned.Consistent n)) (Ok (Returned.Inconsistent m)) e = absurd (let z : ◌≡◌ {A = ℕ} 0 1 = cc in omega arith)
verdict_known (Ok (Returned.Consistent n)) (Err q) e = absurd (let z : ◌≡◌ {A = ℕ} 0 1 = cc in omega arith)
verdict_known (Ok (Returned.Inconsistent n)) (Ok (Returned.Consistent m)) e = absurd (let z : ◌≡◌ {A = ℕ} 0 1 = cc in omega arith)
verdict_known (Ok (Returned.Inconsistent n)) (Ok (Returned.Inconsistent m)) e = let f : n ≡ m = cc in ap (λ (k : ℕ). Ok (Returned.Inconsistent k)) f
verdict_known (Ok (Returned.Inconsistent n)) (Err q) e = absurd (let z : ◌≡◌ {A = ℕ} 0 1 = cc in omega arith)
verdict_known (Err r) (Ok (Returned.Consistent m)) e = absurd (let z : ◌≡◌ {A = ℕ} 0 1 = cc in omega arith)
verdict_known (Err r) (Ok (Returned.Inconsistent m)) e = absurd (let z : ◌≡◌ {A = ℕ} 0 1 = cc in omega arith)
verdict_known (Err r) (Err q) e =
    let a : condition_number r.condition ≡ condition_number q.condition = cc in
    let b : r.offset ≡ q.offset = cc in
    ap Err (refusal_once r q a b)
