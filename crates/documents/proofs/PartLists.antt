-- Laws of the part-list reader's loop over the parts, and of a document to the end of its bytes.
use Prim.Native.Nat.{ℕ, zero, suc, ◌+◌, ◌<◌, ◌≤◌}
use mathlib.Core.Path.{◌≡◌, refl, sym, ap, ap₂, subst, ◌∙◌}
use mathlib.Core.Bool.{Bool, true, false, cond}
use mathlib.Core.List.{List, [], ◌∷◌, ◌++◌}
use native.Mathlib.Omega.{arith}
use lib.ListN.{length, get_or, set, drop, replicate, length-set}
use lib.Seq.{get_or-set_same, get_or-set_other}
use Rattle.std.specs.Prelude.{Result, Ok, Err, MatchResult}
use Rattle.files.specs.declared.refusal.Condition.{Condition}
use Rattle.files.specs.declared.reader.Reader.{Reader}
use Rattle.files.specs.declared.refusal.Refusal.{Refusal}
use Rattle.files.specs.Rules.{add_all}
use Rattle.files.specs.Sets.{with_path}
use Rattle.files.specs.Format.{Format, done, want, and_then, run, run_all, got, refused}
use Rattle.files.specs.Refusals.{condition_number}
use Rattle.files.specs.Readers.{Same, Reads}
use Rattle.files.specs.RuleFile.{between}
use Rattle.files.proofs.Formats.{list_many}
use Rattle.files.proofs.Padded.{zeros_get}
use Rattle.files.proofs.Readers.{SoFar, so_start, so_out, so_next, so_end, wants_out, wants_then, whole_left, whole_is}
use Rattle.documents.specs.declared.document.OnePart.{OnePart}
use Rattle.documents.specs.declared.document.Parts.{Parts}
use Rattle.documents.specs.PartList.{part_limit, Entry, listed, namers, part_at, one_part, more_parts, document_file}
use Rattle.documents.specs.Reading.{kids_at, entries_from, PartIs, PartsAre, DocumentIs}

-- ---- the parts that the arrays have

pub entries_length : (s path place : List ℕ) (n k : ℕ) → length (entries_from s path place n k) ≡ k
unfolding entries_from
entries_length s path place n zero = refl
entries_length s path place n (suc k) = ap suc (entries_length s path place (n + 1) k)

-- part n as the arrays have it
abbrev pub entry_at : (s path place : List ℕ) → ℕ → Entry
entry_at s path place n = record { path = get_or path n 0; kids = kids_at s (get_or place n 0) }

entries_last : (s path place : List ℕ) (n k : ℕ)
    → entries_from s path place n (suc k) ≡ entries_from s path place n k ++ (entry_at s path place (n + k) ∷ [])
unfolding entries_from
entries_last s path place n zero = let e : n ≡ n + 0 = omega arith in ap (λ (m : ℕ). entry_at s path place m ∷ []) e
entries_last s path place n (suc k) =
    let e : n + 1 + k ≡ n + suc k = omega arith in
    ap (λ (l : List Entry). entry_at s path place n ∷ l)
    (entries_last s path place (n + 1) k ∙ ap (λ (m : ℕ). entries_from s path place (n + 1) k ++ (entry_at s path place m ∷ [])) e)

-- a store past them changes none of them
entries_store : (s path place : List ℕ) (n k i p q : ℕ) → n + k ≤ i
    → entries_from s (set path i p) (set place i q) n k ≡ entries_from s path place n k
unfolding entries_from
entries_store s path place n zero i p q h = refl
entries_store s path place n (suc k) i p q h =
    let ne : n ≡ i → ⊥ = λ z. omega (arith, z) in
    ap₂ (λ (e : Entry) (l : List Entry). e ∷ l)
    (λ j. record { path = get_or-set_other path i n p 0 ne j; kids = kids_at s (get_or-set_other place i n q 0 ne j) })
    (entries_store s path place (n + 1) k i p q (omega arith))

-- part n stored is one part more
entries_more : (s path place : List ℕ) (n p q : ℕ) → length path ≡ part_limit → length place ≡ part_limit → n < part_limit
    → entries_from s (set path n p) (set place n q) 0 (n + 1) ≡ entries_from s path place 0 n ++ (record { path = p; kids = kids_at s q } ∷ [])
entries_more s path place n p q a b h =
    let e : n + 1 ≡ suc n = omega arith in
    let z : 0 + n ≡ n = omega arith in
    ap (entries_from s (set path n p) (set place n q) 0) e
    ∙ entries_last s (set path n p) (set place n q) 0 n
    ∙ ap₂ (λ (l : List Entry) (x : Entry). l ++ (x ∷ []))
    (entries_store s path place 0 n n p q (omega arith))
    (ap (entry_at s (set path n p) (set place n q)) z
    ∙ (λ j. record {
      path = get_or-set_same path n p 0 (subst (λ (k : ℕ). n < k) (sym a) h) j;
      kids =
          kids_at s (get_or-set_same place n q 0 (subst (λ (k : ℕ). n < k) (sym b) h) j);
    }))

-- ---- the parts that name a part

namers_snoc : (m : ℕ) (es : List Entry) (e : Entry) → namers m (es ++ (e ∷ [])) ≡ namers m es ++ cond (listed m e.kids) (e.path ∷ []) []
unfolding namers
namers_snoc m [] e = refl
namers_snoc m (x ∷ es) e = by (listed m x.kids) (namers_snoc m es e)
  where
    by : (t : Bool) → namers m (es ++ (e ∷ [])) ≡ namers m es ++ cond (listed m e.kids) (e.path ∷ []) []
        → cond t (x.path ∷ namers m (es ++ (e ∷ []))) (namers m (es ++ (e ∷ [])))
        ≡ cond t (x.path ∷ namers m es) (namers m es) ++ cond (listed m e.kids) (e.path ∷ []) []
    by true ih = ap (λ (l : List ℕ). x.path ∷ l) ih
    by false ih = ih

add_snoc : (w : ℕ) (xs : List ℕ) (x : ℕ) → add_all w (xs ++ (x ∷ [])) ≡ with_path (add_all w xs) x
unfolding add_all
add_snoc w [] x = refl
add_snoc w (y ∷ xs) x = add_snoc (with_path w y) xs x

set_more : (m : ℕ) (es : List Entry) (p : ℕ) (ks : List ℕ) → add_all 0 (namers m (es ++ (record { path = p; kids = ks } ∷ [])))
    ≡ cond (listed m ks) (with_path (add_all 0 (namers m es)) p) (add_all 0 (namers m es))
set_more m es p ks = ap (add_all 0) (namers_snoc m es (record { path = p; kids = ks })) ∙ by (listed m ks)
  where
    none : (l : List ℕ) → l ++ [] ≡ l
    none [] = refl
    none (x ∷ l) = ap (λ (t : List ℕ). x ∷ t) (none l)

    by : (t : Bool) → add_all 0 (namers m es ++ cond t (p ∷ []) []) ≡ cond t (with_path (add_all 0 (namers m es)) p) (add_all 0 (namers m es))
    by true = add_snoc 0 (namers m es) p
    by false = ap (add_all 0) (none (namers m es))

-- ---- so many parts

parts_none : (parent : ℕ → ℕ) (count size : ℕ) (l : List Entry) → more_parts parent count size 0 l ≡ done l
unfolding more_parts
parts_none parent count size l = refl

parts_some : (parent : ℕ → ℕ) (count size k : ℕ) (l : List Entry)
    → more_parts parent count size (suc k) l ≡ and_then (one_part parent count size l) (λ e. more_parts parent count size k (l ++ (e ∷ [])))
unfolding more_parts
parts_some parent count size k l = refl

-- the parts so far are in the arrays, with the sets of their namers' paths
pub record PartsSoFar (old now : Reader) (parent : ℕ → ℕ) (count size : ℕ) (path place sets : List ℕ) (n : ℕ) : Type 0 where
  pub read : SoFar (more_parts parent count size) old now size n (entries_from old.bytes.now path place 0 n)
  pub path_long : length path ≡ part_limit
  pub place_long : length place ≡ part_limit
  pub named : (m : ℕ) → n ≤ m → m < size → get_or sets m 0 ≡ add_all 0 (namers m (entries_from old.bytes.now path place 0 n))

pub parts_start : (old : Reader) (parent : ℕ → ℕ) (count size : ℕ) (path place : List ℕ) → length path ≡ part_limit → length place ≡ part_limit
    → PartsSoFar old old parent count size path place (replicate part_limit 0) 0
unfolding entries_from namers add_all
parts_start old parent count size path place a b =
    record {
      read = so_start (one_part parent count size) (more_parts parent count size) (parts_none parent count size) (parts_some parent count size) old size;
      path_long = a;
      place_long = b;
      named = λ m h l. zeros_get part_limit m;
    }

module _ (old now : Reader) (parent : ℕ → ℕ) (count size : ℕ) (path place sets : List ℕ) (n : ℕ) (inv : PartsSoFar old now parent count size path place sets n) where
  module _ (left : n < size) (l : List ℕ) (new : Reader) where
    -- the part that is read next is the one that follows those in the arrays
    next_is : part_at parent count size n (get_or sets n 0) ≡ one_part parent count size (entries_from old.bytes.now path place 0 n)
    unfolding one_part
    next_is =
        let many : length (entries_from old.bytes.now path place 0 n) ≡ n = entries_length old.bytes.now path place 0 n in
        let set : add_all 0 (namers (length (entries_from old.bytes.now path place 0 n)) (entries_from old.bytes.now path place 0 n)) ≡ get_or sets n 0 =
        ap (λ (m : ℕ). add_all 0 (namers m (entries_from old.bytes.now path place 0 n))) many ∙ sym (inv.named n (omega arith) left) in
        sym (ap₂ (part_at parent count size) many set)

    pub parts_refused : (parts : Parts) (e : Refusal) → Reads (PartIs now.bytes.now sets l) (part_at parent count size n (get_or sets n 0)) now new (Err e)
        → Reads (PartsAre old.bytes.now parts) (more_parts parent count size size []) old new (Err e)
    parts_refused parts e r =
        so_out (one_part parent count size) (more_parts parent count size) (parts_none parent count size) (parts_some parent count size) old now size n
        (entries_from old.bytes.now path place 0 n) inv.read (PartIs now.bytes.now sets l) left new (PartsAre old.bytes.now parts) e
        (subst (λ (f : Format Entry). Reads (PartIs now.bytes.now sets l) f now new (Err e)) next_is r)

    pub parts_more : (v : OnePart) → size ≤ part_limit → Reads (PartIs now.bytes.now sets l) (part_at parent count size n (get_or sets n 0)) now new (Ok v)
        → PartsSoFar old new parent count size (set path n v.path) (set place n v.place) l (n + 1)
    parts_more v most r =
        let here : Reads (PartIs now.bytes.now sets l) (one_part parent count size (entries_from old.bytes.now path place 0 n)) now new (Ok v) =
        subst (λ (f : Format Entry). Reads (PartIs now.bytes.now sets l) f now new (Ok v)) next_is r in
        let e : Entry = here.answer.0 in
        let is : PartIs now.bytes.now sets l v e = here.answer.2 in
        let bytes : now.bytes.now ≡ old.bytes.now = ap (λ b. b.now) inv.read.bytes in
        let kids : kids_at old.bytes.now v.place ≡ e.kids = ap (λ (s : List ℕ). kids_at s v.place) (sym bytes) ∙ is.kids in
        let same : record { path = v.path; kids = kids_at old.bytes.now v.place } ≡ e = λ i. record { path = is.path i; kids = kids i } in
        let new_is : entries_from old.bytes.now (set path n v.path) (set place n v.place) 0 (n + 1) ≡ entries_from old.bytes.now path place 0 n ++ (e ∷ []) =
        entries_more old.bytes.now path place n v.path v.place inv.path_long inv.place_long (omega arith)
        ∙ ap (λ (x : Entry). entries_from old.bytes.now path place 0 n ++ (x ∷ [])) same in
        record {
          read = subst (SoFar (more_parts parent count size) old new size (n + 1)) (sym new_is)
              (so_next (one_part parent count size) (more_parts parent count size) (parts_none parent count size) (parts_some parent count size) old now size n
              (entries_from old.bytes.now path place 0 n) inv.read (PartIs now.bytes.now sets l) left new v here);
          path_long = length-set path n v.path ∙ inv.path_long;
          place_long = length-set place n v.place ∙ inv.place_long;
          named = λ m h g.
              is.marked.each m (omega arith)
              ∙ ap (λ (w : ℕ). cond (listed m e.kids) (with_path w e.path) w) (inv.named m (omega arith) g)
              ∙ sym (ap (λ (l : List Entry). add_all 0 (namers m l)) new_is ∙ set_more m (entries_from old.bytes.now path place 0 n) e.path e.kids);
        }

  pub parts_end : (parts : Parts) → size ≤ n → n ≤ size → parts.count ≡ size → parts.path ≡ path → parts.place ≡ place
      → Reads (PartsAre old.bytes.now parts) (more_parts parent count size size []) old now (Ok tt)
  parts_end parts h l e f g =
      let all : parts.count ≡ n = e ∙ omega arith in
      so_end (one_part parent count size) (more_parts parent count size) (parts_none parent count size) (parts_some parent count size) old now size n
      (entries_from old.bytes.now path place 0 n) inv.read (PartsAre old.bytes.now parts) tt h
      (record { entries = ap₂ (λ (a b : List ℕ). entries_from old.bytes.now a b 0 parts.count) f g ∙ ap (entries_from old.bytes.now path place 0) all })

-- ---- a document

pub parts_many : (parent : ℕ → ℕ) (count size : ℕ) (s : List ℕ) (many at : ℕ) (es : List Entry) (next : ℕ)
    → run (more_parts parent count size many []) at (drop at s) ≡ got es next → length es ≡ many
unfolding more_parts
parts_many parent count size s many at es next e =
    list_many (one_part parent count size) (more_parts parent count size) (λ l. refl) (λ k l. refl) s many [] at es next e ∙ omega arith

module _ (parent : ℕ → ℕ) (count : ℕ) (start first : Reader) (parts : Parts) where
  pub count_out : (e : Refusal) → Reads Same (want (between 1 (part_limit + 1) 15) (λ (n : ℕ). done n)) start first (Err e)
      → Reads (PartsAre start.bytes.now parts) (document_file parent count) start first (Err e)
  unfolding document_file
  count_out e r = wants_out (PartsAre start.bytes.now parts) _ _ start first e r

  module _ (size : ℕ) (new : Reader) (a : Reads Same (want (between 1 (part_limit + 1) 15) (λ (n : ℕ). done n)) start first (Ok size)) where
    bytes : first.bytes.now ≡ start.bytes.now
    bytes = ap (λ b. b.now) a.bytes

    pub list_on : (r : Result Unit Refusal) → Reads (PartsAre first.bytes.now parts) (more_parts parent count size size []) first new r
        → Reads (PartsAre start.bytes.now parts) (document_file parent count) start new r
    unfolding document_file
    list_on r h =
        wants_then (PartsAre start.bytes.now parts) _ _ start first size new r a
        (subst (λ (s : List ℕ). Reads (PartsAre s parts) (more_parts parent count size size []) first new r) bytes h)

    module _ (r : Reads (PartsAre first.bytes.now parts) (more_parts parent count size size []) first new (Ok tt)) where
      size_is : parts.count ≡ size
      size_is =
          sym (entries_length first.bytes.now parts.path parts.place 0 parts.count) ∙ ap length r.answer.2.entries
          ∙ parts_many parent count size first.bytes.now size first.at r.answer.0 new.at r.answer.1

      -- all parts of a document, to the end of its bytes
      pub document_is : (s : List ℕ) → start.bytes.now ≡ s → start.at ≡ 0 → 1 ≤ size → size < part_limit + 1 → length new.bytes.now ≤ new.at
          → DocumentIs s (run_all (document_file parent count) s) parts
      document_is s e f some few h =
          let whole = whole_is (PartsAre start.bytes.now parts) (document_file parent count) s start new e f tt (list_on (Ok tt) r) h in
          record {
            after = whole.1;
            answer =
                whole.2
                ∙ ap (λ (l : List Entry). got l whole.1)
                (sym whole.3.entries ∙ ap (λ (t : List ℕ). entries_from t parts.path parts.place 0 parts.count) e);
            some = omega (arith, size_is);
            most = omega (arith, size_is);
          }

      -- unless bytes are left over
      pub document_end : (s : List ℕ) → start.bytes.now ≡ s → start.at ≡ 0 → 1 ≤ size → size < part_limit + 1 → (q : Result Unit Refusal)
          → MatchResult q (λ _. length new.bytes.now ≤ new.at) (λ e. (new.at < length new.bytes.now) × (e ≡ record { condition = Condition.LeftOver; offset = new.at }))
          → MatchResult q (λ _. DocumentIs s (run_all (document_file parent count) s) parts)
          (λ e. run_all (document_file parent count) s ≡ refused (condition_number e.condition) e.offset)
      document_end s e f some few (Ok u) h = document_is s e f some few h
      document_end s e f some few (Err x) h =
          whole_left (PartsAre start.bytes.now parts) (document_file parent count) s start new e f tt (list_on (Ok tt) r) h.0
          ∙ ap (λ (y : Refusal). refused (condition_number y.condition) y.offset) (sym h.1)
