-- What a question answers and leaves is what its contract says by cases, and no second answer and no second buffer are in one.
use Prim.Native.Nat.{ℕ, ◌^◌, ◌≤◌, ◌<◌}
use mathlib.Core.Path.{◌≡◌, refl, sym, ap, subst, ◌∙◌}
use mathlib.Core.Logic.{◌⊎◌, inl, inr}
use mathlib.Core.Bool.{Bool, true, false, ◌&&◌}
use mathlib.Core.List.{List}
use native.Mathlib.Decide.{ℕ_discrete}
use native.Mathlib.Omega.{arith}
use lib.Dec.{T, leb, ltb, leb→le, le→leb, ltb→lt, lt→ltb}
use lib.Ieee.Fits.{and_i, and_l, and_r}
use lib.ListN.{length, take}
use Rattle.files.specs.declared.rules.Rules.{Rules}
use Rattle.files.specs.Number.{bytes_of_all}
use Rattle.files.specs.Rules.{ValidTable}
use Rattle.files.specs.Table.{Rule}
use Rattle.files.specs.TableTest.{table_passes}
use Rattle.files.specs.Writing.{put}
use Rattle.files.proofs.TableTests.{passes_valid}
use Rattle.documents.specs.Tree.{Forest}
use Rattle.std.specs.Prelude.{Result, Ok, Err}
use Rattle.files.specs.declared.refusal.Refusal.{Refusal}
use Rattle.files.specs.Refusals.{condition_number}
use Rattle.files.proofs.Conditions.{refusal_once}
use Rattle.reasoning.specs.declared.question.Reply.{Reply as Returned}
use Rattle.reasoning.specs.Reply.{Reply, reply}
use Rattle.documents.specs.Judgement.{parents_of}
use Rattle.reasoning.specs.Calls.{
  rule_list_of,
  Answered,
  answered,
  document_bytes,
  evidence_bytes,
  askable,
  counter_start,
  ask_answer,
  Fills,
  IsDocument,
  HandsBack,
  BringsEvidence,
  Asked,
  Follows,
  Breaks,
  ReplyBytes,
  ReplyCase,
  AnswersQuestion,
}
use Rattle.theory.specs.Counter.{question_of, Counters}
use Rattle.theory.specs.Evidence.{yesb, evidence_numbers, Shows, Writes, Bounded}
use Rattle.theory.proofs.Answers.{implies_every, excludes_every, together_every}
use Rattle.theory.proofs.EvidenceSize.{evidence_bounded}
use Rattle.theory.proofs.HandedQuestions.{BeginsNo, begins_no, counter_same, question_document}
use Rattle.reasoning.proofs.Placed.{Placed, fills, too_long, placed_at, fills_take, fills_same}
use Rattle.reasoning.proofs.ReadBack.{hands_back, document_is, document_same, document_room, bounded_bytes}
use Rattle.theory.proofs.Shows.{writes_shows}
use Rattle.reasoning.proofs.ValidFits.{table_fits, table_shallow}
use Rattle.theory.proofs.Writes.{evidence_written, evidence_only}

-- whether a question to a table is computed to be answered yes
abbrev says_yes : Rules → (kind p q : ℕ) → Bool
says_yes t = yesb (parents_of t) (rule_list_of t) t.paths

-- ---- the answer by its tests

module _ (t : Rules) (kind p q : ℕ) (out : List ℕ) where
  pub ask_invalid : table_passes t ≡ false → ask_answer t kind p q out ≡ record { answer = Reply.Refused 12 0; buffer = out }
  unfolding ask_answer
  ask_invalid e = rw (ask_answer, e) refl

  pub ask_unasked : table_passes t ≡ true → askable t kind p q ≡ false
      → ask_answer t kind p q out ≡ record { answer = Reply.Refused 13 0; buffer = out }
  unfolding ask_answer
  ask_unasked e f = rw (ask_answer, e, f) refl

  pub ask_yes : table_passes t ≡ true → askable t kind p q ≡ true → yesb (parents_of t) (rule_list_of t) t.paths kind p q ≡ true
      → ask_answer t kind p q out ≡ answered Reply.Yes Reply.Refused (put (evidence_bytes t kind p q) out)
  unfolding ask_answer
  ask_yes e f g = rw (ask_answer, e, f, g) refl

  pub ask_no : table_passes t ≡ true → askable t kind p q ≡ true → yesb (parents_of t) (rule_list_of t) t.paths kind p q ≡ false
      → ask_answer t kind p q out ≡ answered Reply.No Reply.Refused (put (document_bytes t (counter_start t kind p q)) out)
  unfolding ask_answer
  ask_no e f g = rw (ask_answer, e, f, g) refl

-- ---- what the answers to a question over a valid table show

pub askable_asked : (t : Rules) (kind p q : ℕ) → askable t kind p q ≡ true → Asked t kind p q
unfolding askable
askable_asked t kind p q e =
    let all : T (leb 1 kind && (leb kind 3 && (ltb p t.paths && ltb q t.paths))) = subst T (sym e) tt in
    let upper = and_r (leb 1 kind) (leb kind 3 && (ltb p t.paths && ltb q t.paths)) all in
    let paths = and_r (leb kind 3) (ltb p t.paths && ltb q t.paths) upper in
    record {
      low = leb→le 1 kind (and_l (leb 1 kind) (leb kind 3 && (ltb p t.paths && ltb q t.paths)) all);
      high = leb→le kind 3 (and_l (leb kind 3) (ltb p t.paths && ltb q t.paths) upper);
      first = ltb→lt p t.paths (and_l (ltb p t.paths) (ltb q t.paths) paths);
      second = ltb→lt q t.paths (and_r (ltb p t.paths) (ltb q t.paths) paths);
    }

-- and the other way round
asked_askable : (t : Rules) (kind p q : ℕ) → Asked t kind p q → T (askable t kind p q)
unfolding askable
asked_askable t kind p q a =
    and_i (leb 1 kind) (leb kind 3 && (ltb p t.paths && ltb q t.paths)) (le→leb 1 kind a.low)
    (and_i (leb kind 3) (ltb p t.paths && ltb q t.paths) (le→leb kind 3 a.high)
    (and_i (ltb p t.paths) (ltb q t.paths) (lt→ltb p t.paths a.first) (lt→ltb q t.paths a.second)))

-- one of three kinds
kinds : (kind : ℕ) → 1 ≤ kind → kind ≤ 3 → (kind ≡ 1) ⊎ ((kind ≡ 2) ⊎ (kind ≡ 3))
kinds kind low high = pick (ℕ_discrete kind 1) (ℕ_discrete kind 2)
  where
    pick : Dec (kind ≡ 1) → Dec (kind ≡ 2) → (kind ≡ 1) ⊎ ((kind ≡ 2) ⊎ (kind ≡ 3))
    pick (yes e) d = inl e
    pick (no c) (yes e) = inr (inl e)
    pick (no c) (no d) = inr (inr (omega arith))

module _ (t : Rules) (v : ValidTable t) (kind p q : ℕ) (a : Asked t kind p q) where
  module _ (y : T (says_yes t kind p q)) where
    -- a question answered yes holds in every document that obeys the rules
    yes_follows : Follows t (question_of kind p q)
    unfolding yesb
    yes_follows = record {
      every = λ d i o. record {
        implication = λ (e : kind ≡ 1). ((implies_every (table_fits t v) p q a.first a.second).0 (rw e at y)).every d i o;
        absence = λ (e : kind ≡ 2). ((excludes_every (table_fits t v) p q a.first a.second).0 (rw e at y)).every d i o;
        along = λ (e : kind ≡ 3). ((together_every (table_fits t v) p q a.first a.second).0 (rw e at y)).along.every d i o;
        against = λ (e : kind ≡ 3). ((together_every (table_fits t v) p q a.first a.second).0 (rw e at y)).against.every d i o;
      };
    }

    -- its evidence is the one that 01 writes
    yes_written : Writes (parents_of t) (rule_list_of t) kind p q (evidence_numbers (parents_of t) (rule_list_of t) t.paths kind p q)
    yes_written = evidence_written (table_fits t v) kind p q a.first a.second (kinds kind a.low a.high) y

    -- its bytes are of numbers of which holds what holds of those
    yes_brings : {Shown : List ℕ → Type 0} → Shown (evidence_numbers (parents_of t) (rule_list_of t) t.paths kind p q)
        → BringsEvidence (evidence_bytes t kind p q) Shown
    unfolding evidence_bytes
    yes_brings s = record { numbers = evidence_numbers (parents_of t) (rule_list_of t) t.paths kind p q; are = refl; shown = s }

    -- it has at most 392 numbers
    pub yes_bounded : Bounded 392 (evidence_numbers (parents_of t) (rule_list_of t) t.paths kind p q)
    yes_bounded = evidence_bounded (table_fits t v) a.first a.second yes_written

    -- and so at most 784 bytes
    pub evidence_room : length (evidence_bytes t kind p q) ≤ 784
    unfolding evidence_bytes
    evidence_room = bounded_bytes yes_bounded

  -- what the document of a question answered no begins with
  pub counter_begins : BeginsNo (parents_of t) (rule_list_of t) t.paths kind p q
  counter_begins = begins_no (table_fits t v) kind p q a.first a.second a.low a.high

  -- that document is handed back
  no_document : (T (says_yes t kind p q) → ⊥)
      → HandsBack t (document_bytes t (counter_start t kind p q)) (Counters (parents_of t) (rule_list_of t) t.paths kind p q)
  no_document never =
      hands_back t v counter_begins.begins
      (question_document (table_fits t v) kind p q a.first a.second a.low a.high (table_shallow t v) never)

  -- and takes at most 65,536 bytes
  pub counter_room : length (document_bytes t (counter_start t kind p q)) ≤ 65536
  counter_room = document_room t v counter_begins.begins

-- a document that breaks a question refutes it
pub breaks_follows : {t : Rules} {question : Rule} {d : Forest} → Breaks t question d → Follows t question → ⊥
breaks_follows {d = d} b f = b.breaks (f.every d b.is_document b.obeys)

-- and one that shows the no breaks it
pub counters_breaks : {t : Rules} {kind p q : ℕ} {d : Forest} → Counters (parents_of t) (rule_list_of t) t.paths kind p q d
    → Breaks t (question_of kind p q) d
counters_breaks c = record { is_document = c.is_document; obeys = c.obeys; breaks = c.breaks }

-- ---- the bytes of an answer

module _ (t : Rules) (v : ValidTable t) (kind p q : ℕ) (a : Asked t kind p q) where
  -- a question that follows is answered yes
  follows_yes : Follows t (question_of kind p q) → (T (says_yes t kind p q) → ⊥) → ⊥
  follows_yes f n = breaks_follows (counters_breaks (no_document t v kind p q a n).good) f

  -- no other bytes answer
  reply_same : {bytes others : List ℕ} → ReplyBytes t kind p q bytes → ReplyBytes t kind p q others → bytes ≡ others
  reply_same (ReplyBytes.evidence f d) (ReplyBytes.evidence g e) =
      d.are
      ∙ ap bytes_of_all
      (evidence_only (table_fits t v) kind p q a.first a.second d.shown
      ∙ sym (evidence_only (table_fits t v) kind p q a.first a.second e.shown))
      ∙ sym e.are
  reply_same (ReplyBytes.evidence f d) (ReplyBytes.counter n goals c e) = absurd (n f)
  reply_same (ReplyBytes.counter n goals c d) (ReplyBytes.evidence f e) = absurd (n f)
  reply_same {bytes} {others} (ReplyBytes.counter n goals c d) (ReplyBytes.counter m wanted i e) =
      let b = counter_begins t v kind p q a in
      document_same t v b.begins
      (subst (λ (l : List ℕ). IsDocument t l bytes) (counter_same c b.are) d)
      (subst (λ (l : List ℕ). IsDocument t l others) (counter_same i b.are) e)

  -- the answer takes at most 65,536 bytes
  reply_room : {bytes : List ℕ} → ReplyBytes t kind p q bytes → length bytes ≤ 65536
  reply_room {bytes} b = pick (says_yes t kind p q) refl
    where
      by : (others : List ℕ) → length others ≤ 65536 → ReplyBytes t kind p q others → length bytes ≤ 65536
      by others l o = omega (arith, ap length (reply_same b o))

      pick : (c : Bool) → says_yes t kind p q ≡ c → length bytes ≤ 65536
      pick true e =
          let y : T (says_yes t kind p q) = subst T (sym e) tt in
          by (evidence_bytes t kind p q) (omega (arith, evidence_room t v kind p q a y))
          (ReplyBytes.evidence (yes_follows t v kind p q a y) (yes_brings t v kind p q a y (yes_written t v kind p q a y)))
      pick false e =
          let n : T (says_yes t kind p q) → ⊥ = λ y. subst T e y in
          by (document_bytes t (counter_start t kind p q)) (counter_room t v kind p q a)
          (ReplyBytes.counter (λ f. follows_yes f n) (counter_begins t v kind p q a).goals (counter_begins t v kind p q a).are
          (document_is t v (counter_begins t v kind p q a).begins))

-- ---- the cases of an answer

module _ (t : Rules) (kind p q : ℕ) (out : List ℕ) (r : Reply) (after : List ℕ) (word : t.required < 2 ^ 64)
    (is : r ≡ (ask_answer t kind p q out).answer) (leaves : after ≡ (ask_answer t kind p q out).buffer) where
  -- the answer is in one of the cases
  ask_case : ReplyCase t kind p q out r after
  ask_case = pick (table_passes t) refl (askable t kind p q) refl (says_yes t kind p q) refl
    where
      answered_yes : (v : ValidTable t) (a : Asked t kind p q) (y : T (says_yes t kind p q))
          → Placed Reply.Yes Reply.Refused (evidence_bytes t kind p q) out r after → ReplyCase t kind p q out r after
      answered_yes v a y (fills e f) =
          ReplyCase.yes v a (yes_follows t v kind p q a y) (evidence_bytes t kind p q)
          (yes_brings t v kind p q a y (yes_written t v kind p q a y))
          (yes_brings t v kind p q a y (writes_shows (yes_written t v kind p q a y))) e f
      answered_yes v a y (too_long h e s) =
          ReplyCase.no_room v a (evidence_bytes t kind p q)
          (ReplyBytes.evidence (yes_follows t v kind p q a y) (yes_brings t v kind p q a y (yes_written t v kind p q a y))) h e s

      answered_no : (v : ValidTable t) (a : Asked t kind p q) → (T (says_yes t kind p q) → ⊥)
          → Placed Reply.No Reply.Refused (document_bytes t (counter_start t kind p q)) out r after → ReplyCase t kind p q out r after
      answered_no v a n (fills e f) =
          let b = counter_begins t v kind p q a in
          ReplyCase.no v a (document_bytes t (counter_start t kind p q)) b.goals b.are (document_is t v b.begins)
          (no_document t v kind p q a n) e f
      answered_no v a n (too_long h e s) =
          let b = counter_begins t v kind p q a in
          ReplyCase.no_room v a (document_bytes t (counter_start t kind p q))
          (ReplyBytes.counter (λ f. follows_yes t v kind p q a f n) b.goals b.are (document_is t v b.begins)) h e s

      pick : (a : Bool) → table_passes t ≡ a → (b : Bool) → askable t kind p q ≡ b → (c : Bool) → says_yes t kind p q ≡ c
          → ReplyCase t kind p q out r after
      pick false e b f c g =
          let z = ask_invalid t kind p q out e in
          ReplyCase.not_valid (λ v. subst T (sym ((passes_valid t word).1 v) ∙ e) tt)
          (is ∙ ap (λ (x : Answered Reply). x.answer) z) (leaves ∙ ap (λ (x : Answered Reply). x.buffer) z)
      pick true e false f c g =
          let z = ask_unasked t kind p q out e f in
          ReplyCase.not_asked ((passes_valid t word).0 e) (λ a. subst T f (asked_askable t kind p q a))
          (is ∙ ap (λ (x : Answered Reply). x.answer) z) (leaves ∙ ap (λ (x : Answered Reply). x.buffer) z)
      pick true e true f true g =
          answered_yes ((passes_valid t word).0 e) (askable_asked t kind p q f) (subst T (sym g) tt)
          (placed_at Reply.Yes Reply.Refused (evidence_bytes t kind p q) out (ask_yes t kind p q out e f g) is leaves)
      pick true e true f false g =
          answered_no ((passes_valid t word).0 e) (askable_asked t kind p q f) (λ y. subst T g y)
          (placed_at Reply.No Reply.Refused (document_bytes t (counter_start t kind p q)) out (ask_no t kind p q out e f g) is leaves)

-- ---- what follows from the case

-- a refusal has no length
refused_length : (r : Reply) {k : ℕ} → r ≡ Reply.Refused k 0 → (m : ℕ) → (r ≡ Reply.Yes m) ⊎ (r ≡ Reply.No m) → ⊥
refused_length r e m (inl f) = let z : ◌≡◌ {A = ℕ} 0 1 = cc in omega arith
refused_length r e m (inr f) = let z : ◌≡◌ {A = ℕ} 0 1 = cc in omega arith

module _ (t : Rules) (kind p q : ℕ) (out : List ℕ) where
  module _ (r : Reply) (after : List ℕ) where
    case_answers : r ≡ (ask_answer t kind p q out).answer → after ≡ (ask_answer t kind p q out).buffer → ReplyCase t kind p q out r after
        → AnswersQuestion t kind p q out r after
    case_answers is leaves (ReplyCase.not_valid n e s) = record {
      answer = is;
      buffer = leaves;
      means = ReplyCase.not_valid n e s;
      invalid = (λ f. n, λ f. e);
      unasked = (λ f. absurd (let z : ◌≡◌ {A = ℕ} 12 13 = cc in omega arith), λ f. absurd (n f.0));
      short = (λ f. absurd (let z : ◌≡◌ {A = ℕ} 12 20 = cc in omega arith), λ f. absurd (n f.0));
      refused = λ k at f. (inl (let z : ◌≡◌ {A = ℕ} k 12 = cc in z), let z : ◌≡◌ {A = ℕ} at 0 = cc in z, s);
      yes = λ m f. absurd (let z : ◌≡◌ {A = ℕ} 0 1 = cc in omega arith);
      counter = λ m f. absurd (let z : ◌≡◌ {A = ℕ} 0 1 = cc in omega arith);
      within = λ m f. absurd (refused_length r e m f);
      room = λ h f. let z : ◌≡◌ {A = ℕ} 12 20 = cc in omega arith;
    }
    case_answers is leaves (ReplyCase.not_asked v n e s) = record {
      answer = is;
      buffer = leaves;
      means = ReplyCase.not_asked v n e s;
      invalid = (λ f. absurd (let z : ◌≡◌ {A = ℕ} 12 13 = cc in omega arith), λ f. absurd (f v));
      unasked = (λ f. (v, n), λ f. e);
      short = (λ f. absurd (let z : ◌≡◌ {A = ℕ} 13 20 = cc in omega arith), λ f. absurd (n f.1));
      refused = λ k at f. (inr (inl (let z : ◌≡◌ {A = ℕ} k 13 = cc in z)), let z : ◌≡◌ {A = ℕ} at 0 = cc in z, s);
      yes = λ m f. absurd (let z : ◌≡◌ {A = ℕ} 0 1 = cc in omega arith);
      counter = λ m f. absurd (let z : ◌≡◌ {A = ℕ} 0 1 = cc in omega arith);
      within = λ m f. absurd (refused_length r e m f);
      room = λ h f. let z : ◌≡◌ {A = ℕ} 13 20 = cc in omega arith;
    }
    case_answers is leaves (ReplyCase.no_room v a bytes b l e s) = record {
      answer = is;
      buffer = leaves;
      means = ReplyCase.no_room v a bytes b l e s;
      invalid = (λ f. absurd (let z : ◌≡◌ {A = ℕ} 12 20 = cc in omega arith), λ f. absurd (f v));
      unasked = (λ f. absurd (let z : ◌≡◌ {A = ℕ} 13 20 = cc in omega arith), λ f. absurd (f.1 a));
      short = (λ f. (v, a, (bytes, b, l)), λ f. e);
      refused = λ k at f. (inr (inr (let z : ◌≡◌ {A = ℕ} k 20 = cc in z)), let z : ◌≡◌ {A = ℕ} at 0 = cc in z, s);
      yes = λ m f. absurd (let z : ◌≡◌ {A = ℕ} 0 1 = cc in omega arith);
      counter = λ m f. absurd (let z : ◌≡◌ {A = ℕ} 0 1 = cc in omega arith);
      within = λ m f. absurd (refused_length r e m f);
      room = λ h f. omega (arith, reply_room t v kind p q a b);
    }
    case_answers is leaves (ReplyCase.yes v a w bytes d h e f) = record {
      answer = is;
      buffer = leaves;
      means = ReplyCase.yes v a w bytes d h e f;
      invalid = (λ g. absurd (let z : ◌≡◌ {A = ℕ} 0 1 = cc in omega arith), λ g. absurd (g v));
      unasked = (λ g. absurd (let z : ◌≡◌ {A = ℕ} 0 1 = cc in omega arith), λ g. absurd (g.1 a));
      short = (
        λ g. absurd (let z : ◌≡◌ {A = ℕ} 0 1 = cc in omega arith),
        λ g. absurd (omega (arith, f.fits, ap length (reply_same t v kind p q a (ReplyBytes.evidence w d) g.2.1), g.2.2)),
      );
      refused = λ k at g. absurd (let z : ◌≡◌ {A = ℕ} 0 1 = cc in omega arith);
      yes = λ m g.
          let z : length bytes ≡ m = cc in (
            w,
            subst (λ (b : List ℕ). BringsEvidence b (Shows (parents_of t) (rule_list_of t) kind p q))
                (sym (subst (λ (k : ℕ). take k after ≡ bytes) z (fills_take f))) h,
          );
      counter = λ m g. absurd (let z : ◌≡◌ {A = ℕ} 0 1 = cc in omega arith);
      within = λ m. length_within m;
      room = λ l g. let z : ◌≡◌ {A = ℕ} 0 1 = cc in omega arith;
    }
      where
        length_within : (m : ℕ) → (r ≡ Reply.Yes m) ⊎ (r ≡ Reply.No m) → m ≤ length out
        length_within m (inl g) = let z : length bytes ≡ m = cc in omega (arith, f.fits)
        length_within m (inr g) = absurd (let z : ◌≡◌ {A = ℕ} 0 1 = cc in omega arith)
    case_answers is leaves (ReplyCase.no v a bytes goals c d h e f) = record {
      answer = is;
      buffer = leaves;
      means = ReplyCase.no v a bytes goals c d h e f;
      invalid = (λ g. absurd (let z : ◌≡◌ {A = ℕ} 0 1 = cc in omega arith), λ g. absurd (g v));
      unasked = (λ g. absurd (let z : ◌≡◌ {A = ℕ} 0 1 = cc in omega arith), λ g. absurd (g.1 a));
      short = (
        λ g. absurd (let z : ◌≡◌ {A = ℕ} 0 1 = cc in omega arith),
        λ g. absurd (omega (arith, f.fits, ap length (reply_same t v kind p q a (ReplyBytes.counter never goals c d) g.2.1), g.2.2)),
      );
      refused = λ k at g. absurd (let z : ◌≡◌ {A = ℕ} 0 1 = cc in omega arith);
      yes = λ m g. absurd (let z : ◌≡◌ {A = ℕ} 0 1 = cc in omega arith);
      counter = λ m g.
          let z : length bytes ≡ m = cc in
          subst (λ (b : List ℕ). HandsBack t b (Counters (parents_of t) (rule_list_of t) t.paths kind p q))
          (sym (subst (λ (k : ℕ). take k after ≡ bytes) z (fills_take f))) h;
      within = λ m. length_within m;
      room = λ l g. let z : ◌≡◌ {A = ℕ} 0 1 = cc in omega arith;
    }
      where
        never : Follows t (question_of kind p q) → ⊥
        never = breaks_follows (counters_breaks h.good)

        length_within : (m : ℕ) → (r ≡ Reply.Yes m) ⊎ (r ≡ Reply.No m) → m ≤ length out
        length_within m (inl g) = absurd (let z : ◌≡◌ {A = ℕ} 0 1 = cc in omega arith)
        length_within m (inr g) = let z : length bytes ≡ m = cc in omega (arith, f.fits)

  -- no second answer, and no second buffer, has that meaning
  pub reply_unique : {r s : Reply} {after other : List ℕ} → ReplyCase t kind p q out r after → ReplyCase t kind p q out s other
      → (r ≡ s) × (after ≡ other)
  reply_unique (ReplyCase.not_valid n e s) (ReplyCase.not_valid m f u) = (e ∙ sym f, s ∙ sym u)
  reply_unique (ReplyCase.not_valid n e s) (ReplyCase.not_asked v m f u) = absurd (n v)
  reply_unique (ReplyCase.not_valid n e s) (ReplyCase.no_room v a bytes b l f u) = absurd (n v)
  reply_unique (ReplyCase.not_valid n e s) (ReplyCase.yes v a w bytes d h f u) = absurd (n v)
  reply_unique (ReplyCase.not_valid n e s) (ReplyCase.no v a bytes goals c d h f u) = absurd (n v)
  reply_unique (ReplyCase.not_asked v n e s) (ReplyCase.not_valid m f u) = absurd (m v)
  reply_unique (ReplyCase.not_asked v n e s) (ReplyCase.not_asked w m f u) = (e ∙ sym f, s ∙ sym u)
  reply_unique (ReplyCase.not_asked v n e s) (ReplyCase.no_room w a bytes b l f u) = absurd (n a)
  reply_unique (ReplyCase.not_asked v n e s) (ReplyCase.yes w a g bytes d h f u) = absurd (n a)
  reply_unique (ReplyCase.not_asked v n e s) (ReplyCase.no w a bytes goals c d h f u) = absurd (n a)
  reply_unique (ReplyCase.no_room v a bytes b l e s) (ReplyCase.not_valid m f u) = absurd (m v)
  reply_unique (ReplyCase.no_room v a bytes b l e s) (ReplyCase.not_asked w m f u) = absurd (m a)
  reply_unique (ReplyCase.no_room v a bytes b l e s) (ReplyCase.no_room w c others o k f u) = (e ∙ sym f, s ∙ sym u)
  reply_unique (ReplyCase.no_room v a bytes b l e s) (ReplyCase.yes w c g others d h f u) =
      absurd (omega (arith, u.fits, ap length (reply_same t v kind p q a b (ReplyBytes.evidence g d))))
  reply_unique (ReplyCase.no_room v a bytes b l e s) (ReplyCase.no w c others goals i d h f u) =
      absurd (omega (
        arith,
        u.fits,
        ap length (reply_same t v kind p q a b (ReplyBytes.counter (breaks_follows (counters_breaks h.good)) goals i d)),
      ))
  reply_unique (ReplyCase.yes v a g bytes d h e s) (ReplyCase.not_valid m f u) = absurd (m v)
  reply_unique (ReplyCase.yes v a g bytes d h e s) (ReplyCase.not_asked w m f u) = absurd (m a)
  reply_unique (ReplyCase.yes v a g bytes d h e s) (ReplyCase.no_room w c others o k f u) =
      absurd (omega (arith, s.fits, ap length (reply_same t v kind p q a o (ReplyBytes.evidence g d))))
  reply_unique {other = other} (ReplyCase.yes v a g bytes d h e s) (ReplyCase.yes w c i others j k f u) =
      let z = reply_same t v kind p q a (ReplyBytes.evidence g d) (ReplyBytes.evidence i j) in (
        e ∙ ap (λ (l : List ℕ). Reply.Yes (length l)) z ∙ sym f,
        fills_same s (subst (λ (l : List ℕ). Fills l out other) (sym z) u),
      )
  reply_unique (ReplyCase.yes v a g bytes d h e s) (ReplyCase.no w c others goals i j k f u) =
      absurd (breaks_follows (counters_breaks k.good) g)
  reply_unique (ReplyCase.no v a bytes goals c d h e s) (ReplyCase.not_valid m f u) = absurd (m v)
  reply_unique (ReplyCase.no v a bytes goals c d h e s) (ReplyCase.not_asked w m f u) = absurd (m a)
  reply_unique (ReplyCase.no v a bytes goals c d h e s) (ReplyCase.no_room w i others o k f u) =
      absurd (omega (
        arith,
        s.fits,
        ap length (reply_same t v kind p q a o (ReplyBytes.counter (breaks_follows (counters_breaks h.good)) goals c d)),
      ))
  reply_unique (ReplyCase.no v a bytes goals c d h e s) (ReplyCase.yes w i g others j k f u) =
      absurd (breaks_follows (counters_breaks h.good) g)
  reply_unique {other = other} (ReplyCase.no v a bytes goals c d h e s) (ReplyCase.no w i others wanted j k l f u) =
      let z = reply_same t v kind p q a (ReplyBytes.counter (breaks_follows (counters_breaks h.good)) goals c d)
      (ReplyBytes.counter (breaks_follows (counters_breaks l.good)) wanted j k) in (
        e ∙ ap (λ (n : List ℕ). Reply.No (length n)) z ∙ sym f,
        fills_same s (subst (λ (n : List ℕ). Fills n out other) (sym z) u),
      )

-- what a question answers and leaves is what the contract says
pub ask_answers : (t : Rules) (kind p q : ℕ) (out : List ℕ) (r : Reply) (after : List ℕ) → t.required < 2 ^ 64
    → r ≡ (ask_answer t kind p q out).answer → after ≡ (ask_answer t kind p q out).buffer → AnswersQuestion t kind p q out r after
ask_answers t kind p q out r after word is leaves =
    case_answers t kind p q out r after is leaves (ask_case t kind p q out r after word is leaves)

-- so the contract has one answer and one buffer
pub ask_unique : (t : Rules) (kind p q : ℕ) (out : List ℕ) (r s : Reply) (after other : List ℕ) → AnswersQuestion t kind p q out r after
    → AnswersQuestion t kind p q out s other → (r ≡ s) × (after ≡ other)
ask_unique t kind p q out r s after other h k = reply_unique t kind p q out h.means k.means

-- a result is known by its reply
pub reply_known : (r q : Result Returned Refusal) → reply r ≡ reply q → r ≡ q
reply_known (Ok (Returned.Yes n)) (Ok (Returned.Yes m)) e = let f : n ≡ m = cc in ap (λ (k : ℕ). Ok (Returned.Yes k)) f
reply_known (Ok (Returned.Yes n)) (Ok (Returned.No m)) e = absurd (let z : ◌≡◌ {A = ℕ} 0 1 = cc in omega arith)
reply_known (Ok (Returned.Yes n)) (Err q) e = absurd (let z : ◌≡◌ {A = ℕ} 0 1 = cc in omega arith)
reply_known (Ok (Returned.No n)) (Ok (Returned.Yes m)) e = absurd (let z : ◌≡◌ {A = ℕ} 0 1 = cc in omega arith)
reply_known (Ok (Returned.No n)) (Ok (Returned.No m)) e = let f : n ≡ m = cc in ap (λ (k : ℕ). Ok (Returned.No k)) f
reply_known (Ok (Returned.No n)) (Err q) e = absurd (let z : ◌≡◌ {A = ℕ} 0 1 = cc in omega arith)
reply_known (Err r) (Ok (Returned.Yes m)) e = absurd (let z : ◌≡◌ {A = ℕ} 0 1 = cc in omega arith)
reply_known (Err r) (Ok (Returned.No m)) e = absurd (let z : ◌≡◌ {A = ℕ} 0 1 = cc in omega arith)
reply_known (Err r) (Err q) e =
    let a : condition_number r.condition ≡ condition_number q.condition = cc in
    let b : r.offset ≡ q.offset = cc in
    ap Err (refusal_once r q a b)
