-- The text of a verdict on a valid table: one call lays out the whole of it, what it says, and that it is no refusal.
use Prim.Native.Nat.{ℕ, ◌+◌, ◌*◌, ◌^◌, ◌≤◌, ◌<◌}
use mathlib.Core.Path.{◌≡◌, refl, sym, ap, ap₂, subst, ◌∙◌}
use mathlib.Core.Bool.{Bool, true, false}
use mathlib.Core.List.Memᴰ
use mathlib.Core.List.{List, [], ◌∷◌, Memᴰ}
use mathlib.Core.Logic.{⊎_elim}
use native.Mathlib.Decide.{dec_lt}
use native.Mathlib.Omega.{arith}
use lib.Dec.{T}
use lib.ListN.{length, take, replicate, get_or, length-take, length-replicate, get_or-eq_default}
use lib.Seq.{get_or-take}
use Rattle.files.specs.declared.rules.Rules.{Rules}
use Rattle.files.specs.Format.{Format, Leads}
use Rattle.files.specs.Number.{Bytes, bytes_of_all}
use Rattle.files.specs.Rules.{rules_of, ValidTable}
use Rattle.files.specs.TableTest.{table_passes}
use Rattle.files.proofs.TableTests.{passes_valid}
use Rattle.documents.specs.Judgement.{parents_of}
use Rattle.documents.specs.PartList.{document_numbers, entry_path, ValidParts}
use Rattle.documents.proofs.CheckingJoins.{few_paths, below_64}
use Rattle.documents.proofs.ValidLists.{read_valid, valid_leads}
use Rattle.theory.specs.Evidence.{consistentb, inconsistent_numbers, ShowsInconsistent, WritesInconsistent}
use Rattle.theory.specs.Follows.{Witnesses}
use Rattle.theory.specs.Handed.{start_consistency}
use Rattle.theory.proofs.EvidenceSize.{inconsistent_bounded}
use Rattle.theory.proofs.Shows.{inconsistent_shows}
use Rattle.theory.proofs.Writes.{inconsistent_written}
use Rattle.listing.specs.declared.lay.Stage.{Stage}
use Rattle.listing.specs.Text.{Stored}
use Rattle.listing.specs.Lay.{inconsistent_text, consistent_text, laid_text}
use Rattle.listing.proofs.Lengths.{Small, document_length, evidence_length}
use Rattle.listing.proofs.Whole.{whole_document, whole_evidence}
use Rattle.reasoning.specs.Verdict.{Verdict}
use Rattle.reasoning.specs.Calls.{rule_list_of, asked_of, document_bytes, inconsistent_bytes, consistency_answer, HandsBack}
use Rattle.reasoning.proofs.ConsistencyJoins.{consistency_agrees, consistency_conflicts}
use Rattle.reasoning.proofs.Placed.{Placed, fills, too_long, placed_at, fills_take}
use Rattle.reasoning.proofs.ValidFits.{table_fits, asked_in_lem}
use Rattle.printing.specs.Printing.{DOCUMENT, TEXT, parts_listing, verdict_text, rules_text, lists, shows, Decided, PrintsRules}

-- how a verdict comes about: the table fails its test, or a document or evidence is put into the buffer
data Came (t : Rules) (out : List ℕ) (v : Verdict) (after : List ℕ) : Type 0 where
  fails : table_passes t ≡ false → Came t out v after
  agrees : Placed Verdict.Consistent Verdict.Refused (document_bytes t (start_consistency (asked_of t))) out v after → Came t out v after
  conflicts : consistentb (parents_of t) (rule_list_of t) t.paths (asked_of t) ≡ false
      → Placed Verdict.Inconsistent Verdict.Refused (inconsistent_bytes t) out v after → Came t out v after

came : (t : Rules) (out : List ℕ) (v : Verdict) (after : List ℕ) → v ≡ (consistency_answer t out).answer → after ≡ (consistency_answer t out).buffer
    → Came t out v after
came t out v after is leaves = pick (table_passes t) refl (consistentb (parents_of t) (rule_list_of t) t.paths (asked_of t)) refl
  where
    pick : (a : Bool) → table_passes t ≡ a → (b : Bool) → consistentb (parents_of t) (rule_list_of t) t.paths (asked_of t) ≡ b → Came t out v after
    pick false e b f = fails e
    pick true e true f =
        agrees (placed_at Verdict.Consistent Verdict.Refused (document_bytes t (start_consistency (asked_of t))) out (consistency_agrees t out e f) is leaves)
    pick true e false f =
        conflicts f (placed_at Verdict.Inconsistent Verdict.Refused (inconsistent_bytes t) out (consistency_conflicts t out e f) is leaves)

-- numbers that lead through a format are numbers of a file
leads_small : {A : Type 0} {f g : Format A} {ns : List ℕ} → Leads f ns g → Small ns
leads_small Leads.here n m = absurd (Memᴰ.not-nil m)
leads_small (Leads.take {n = x} h e l) n m =
    ⊎_elim (λ (same : n ≡ x). omega arith) (λ (i : Memᴰ n _). leads_small l n i) (Memᴰ.cases_cons m)

-- the first bytes of bytes are bytes
bytes_taken : (n : ℕ) (s : List ℕ) → ((i : ℕ) → get_or s i 0 < 256) → Bytes (take n s)
bytes_taken n s h = record { below = λ i. by i (dec_lt i n) }
  where
    by : (i : ℕ) → Dec (i < n) → get_or (take n s) i 0 < 256
    by i (yes l) = omega (arith, get_or-take n s i 0 l, h i)
    by i (no l) = omega (arith, get_or-eq_default (take n s) 0 {n = i} (omega (arith, length-take n s)))

-- a part of the bytes is as long as it is asked for
pub taken_all : (n : ℕ) (s : List ℕ) → n ≤ length s → n ≡ length (take n s)
taken_all n s h = omega (arith, length-take n s)

-- evidence has a first number
no_evidence : {parent : ℕ → ℕ} {rules : List _} {asked : ℕ} → ShowsInconsistent parent rules asked [] → ⊥
no_evidence (ShowsInconsistent.pair x y a b s) = let e = s.by.are in let z : ◌≡◌ {A = ℕ} 0 1 = cc in omega arith
no_evidence (ShowsInconsistent.dead x a s) = let e = s.by.are in let z : ◌≡◌ {A = ℕ} 0 1 = cc in omega arith

module _ (t : Rules) (word : t.required < 2 ^ 64) (v : Verdict) (bytes out : List ℕ) (h : Decided t v bytes out) where
  valid : ValidTable t
  valid = h.table.valid

  how : Came t (replicate DOCUMENT 0) v bytes
  how = came t (replicate DOCUMENT 0) v bytes h.decides.answer h.decides.buffer

  room : length {A = ℕ} (replicate DOCUMENT 0) ≡ 65536
  room = length-replicate {A = ℕ} DOCUMENT 0

  passes : table_passes t ≡ false → ⊥
  passes e = subst T (sym ((passes_valid t word).1 valid) ∙ e) tt

  text_is : rules_text t ≡ verdict_text t v bytes
  unfolding rules_text
  text_is = ap₂ (verdict_text t) (sym h.decides.answer) (sym h.decides.buffer)

  -- the verdict is no refusal: the table is valid, and every answer has room
  pub never_refused : (k at : ℕ) → v ≡ Verdict.Refused k at → ⊥
  never_refused k at e = by how
    where
      by : Came t (replicate DOCUMENT 0) v bytes → ⊥
      by (fails f) = passes f
      by (agrees (fills f s)) = let z : ◌≡◌ {A = ℕ} 0 1 = cc in omega arith
      by (agrees (too_long l f s)) = h.decides.room (omega (arith, room)) f
      by (conflicts c (fills f s)) = let z : ◌≡◌ {A = ℕ} 0 1 = cc in omega arith
      by (conflicts c (too_long l f s)) = h.decides.room (omega (arith, room)) f

  module _ (n : ℕ) (e : v ≡ Verdict.Consistent n) where
    pub document_within : n ≤ length bytes
    document_within = by how
      where
        by : Came t (replicate DOCUMENT 0) v bytes → n ≤ length bytes
        by (fails f) = absurd (passes f)
        by (agrees (fills f s)) =
            let z : length (document_bytes t (start_consistency (asked_of t))) ≡ n = cc in omega (arith, s.fits, room, h.all)
        by (agrees (too_long l f s)) = absurd (let z : ◌≡◌ {A = ℕ} 0 1 = cc in omega arith)
        by (conflicts c (fills f s)) = absurd (let z : ◌≡◌ {A = ℕ} 0 1 = cc in omega arith)
        by (conflicts c (too_long l f s)) = absurd (let z : ◌≡◌ {A = ℕ} 0 1 = cc in omega arith)

    module _ (below : (i : ℕ) → get_or bytes i 0 < 256) where
      hands : HandsBack t (take n bytes) (Witnesses (parents_of t) (rule_list_of t) t.paths (rules_of t).required)
      hands = h.decides.consistent n e

      read : ValidParts (parents_of t) t.paths hands.parts × (take n bytes ≡ bytes_of_all (document_numbers hands.parts))
          × (length (take n bytes) ≡ length (take n bytes))
      read =
          read_valid (parents_of t) t.paths valid.some (few_paths t valid) (below_64 t valid) hands.parts (take n bytes) (bytes_taken n bytes below)
          (length (take n bytes)) hands.read

      document_says : rules_text t ≡ consistent_text hands.parts
      unfolding verdict_text parts_listing
      document_says =
          text_is ∙ ap (λ (r : Verdict). verdict_text t r bytes) e ∙ ap parts_listing hands.read

      small : Small (document_numbers hands.parts)
      small = leads_small (valid_leads (parents_of t) t.paths valid.some (few_paths t valid) (below_64 t valid) hands.parts read.0)

      paths : (i : ℕ) → i < length hands.parts → entry_path hands.parts i < 100
      paths i l = omega (arith, read.0.inside i l, few_paths t valid)

      few : length (bytes_of_all (document_numbers hands.parts)) ≤ DOCUMENT
      few = omega (arith, length-take n bytes, h.all, ap length read.1)

      document_laid : laid_text (take n bytes) Stage.Count out ≡ consistent_text hands.parts
      document_laid =
          subst (λ (s : List ℕ). laid_text s Stage.Count out ≡ consistent_text hands.parts) (sym read.1)
          (whole_document hands.parts small (omega (arith, read.0.most)) paths (length out) (omega (arith, few, h.table.room)))

      document_most : length (rules_text t) ≤ TEXT
      document_most =
          omega (arith, ap length document_says, document_length hands.parts small (omega (arith, read.0.most)) paths, few)

      -- a document's listing is laid out, and it is a witness's
      pub document_printed : (after : List ℕ) (r : ℕ) → Stored (laid_text (take n bytes) Stage.Count out) out 0 after r → PrintsRules t out r after
      document_printed after r s =
          record {
            stored = subst (λ (l : List ℕ). Stored l out 0 after r) (document_laid ∙ sym document_says) s;
            most = document_most;
            says = lists hands.parts
                (record { valid = read.0; tree = hands.tree; stands = hands.stands; witnesses = hands.good }) document_says;
          }

  module _ (n : ℕ) (e : v ≡ Verdict.Inconsistent n) where
    abbrev numbers : List ℕ
    numbers = inconsistent_numbers (parents_of t) (rule_list_of t) t.paths (asked_of t)

    -- evidence was put
    evidence_put : (consistentb (parents_of t) (rule_list_of t) t.paths (asked_of t) ≡ false) × (n ≤ length bytes)
        × (take n bytes ≡ inconsistent_bytes t)
    evidence_put = by how
      where
        Goal : Type 0
        Goal = (consistentb (parents_of t) (rule_list_of t) t.paths (asked_of t) ≡ false) × (n ≤ length bytes) × (take n bytes ≡ inconsistent_bytes t)

        by : Came t (replicate DOCUMENT 0) v bytes → Goal
        by (fails f) = absurd (passes f)
        by (agrees (fills f s)) = absurd (let z : ◌≡◌ {A = ℕ} 0 1 = cc in omega arith)
        by (agrees (too_long l f s)) = absurd (let z : ◌≡◌ {A = ℕ} 0 1 = cc in omega arith)
        by (conflicts c (fills f s)) =
            let z : length (inconsistent_bytes t) ≡ n = cc in
            (c, omega (arith, s.fits, room, h.all), ap (λ (k : ℕ). take k bytes) (sym z) ∙ fills_take s)
        by (conflicts c (too_long l f s)) = absurd (let z : ◌≡◌ {A = ℕ} 0 1 = cc in omega arith)

    pub evidence_within : n ≤ length bytes
    evidence_within = evidence_put.1

    written : WritesInconsistent (parents_of t) (rule_list_of t) (asked_of t) numbers
    written =
        inconsistent_written (table_fits t valid) (asked_of t) valid.some (asked_in_lem t word valid) (λ c. subst T evidence_put.0 c)

    shown : ShowsInconsistent (parents_of t) (rule_list_of t) (asked_of t) numbers
    shown = inconsistent_shows (table_fits t valid).descending written

    evidence_says : rules_text t ≡ inconsistent_text numbers
    unfolding verdict_text
    evidence_says = text_is ∙ ap (λ (r : Verdict). verdict_text t r bytes) e

    bytes_are : take n bytes ≡ bytes_of_all numbers
    unfolding inconsistent_bytes
    bytes_are = evidence_put.2

    few_bytes : length (bytes_of_all numbers) ≤ DOCUMENT
    few_bytes = omega (arith, length-take n bytes, h.all, ap length bytes_are)

    small_numbers : Small numbers
    small_numbers k m = omega (arith, (inconsistent_bounded (table_fits t valid) (asked_in_lem t word valid) written).small k m)

    evidence_laid : laid_text (take n bytes) Stage.First out ≡ inconsistent_text numbers
    evidence_laid =
        subst (λ (s : List ℕ). laid_text s Stage.First out ≡ inconsistent_text numbers) (sym bytes_are)
        (by numbers shown small_numbers (omega (arith, few_bytes, h.table.room)))
      where
        by : (ns : List ℕ) → ShowsInconsistent (parents_of t) (rule_list_of t) (asked_of t) ns → Small ns → 4 * length (bytes_of_all ns) + 64 ≤ length out
            → laid_text (bytes_of_all ns) Stage.First out ≡ inconsistent_text ns
        by [] s small few = absurd (no_evidence s)
        by (k ∷ ns) s small few = whole_evidence k ns small (length out) few

    -- the line of evidence is laid out, and it shows that no document does
    pub evidence_printed : (after : List ℕ) (r : ℕ) → Stored (laid_text (take n bytes) Stage.First out) out 0 after r → PrintsRules t out r after
    evidence_printed after r s =
        record {
          stored = subst (λ (l : List ℕ). Stored l out 0 after r) (evidence_laid ∙ sym evidence_says) s;
          most = omega (arith, ap length evidence_says, evidence_length numbers small_numbers, few_bytes);
          says = shows numbers (record { shown = shown; never = (h.decides.inconsistent n e).0 }) evidence_says;
        }
