-- A rule file read section by section.
use Prim.Native.Nat.{ℕ, ◌+◌, ◌-◌}
use mathlib.Core.Path.{◌≡◌, refl, sym, ap, subst, ◌∙◌}
use mathlib.Core.List.{List, []}
use lib.ListN.{length, drop}
use native.Mathlib.Omega.{arith}
use Rattle.std.specs.Prelude.{Result, Ok, Err}
use Rattle.files.specs.declared.reader.Reader.{Reader}
use Rattle.files.specs.declared.refusal.Refusal.{Refusal}
use Rattle.files.specs.Format.{done, want, run, got}
use Rattle.files.specs.Readers.{Same, Reads}
use Rattle.files.specs.Reading.{PathsIn, RequiredAre, RulesIn, StandsFor}
use Rattle.files.specs.RuleFile.{any, between, one_rule, more_paths, more_rules, more_ascending, rules_to_end, after_required, required_on, after_paths, after_root, after_count, rule_file}
use Rattle.files.specs.Rules.{table_of}
use Rattle.files.specs.Table.{Path, Rule, RuleSet}
use Rattle.files.proofs.Formats.{onward, run_then, list_many}
use Rattle.files.proofs.Readers.{reads_out, reads_then, wants_out, wants_then}

-- a section read, and on; a section refused
module _ {T : Type 0} (holds : T → RuleSet → Type 0) (old mid : Reader) where
  pub count_out : (e : Refusal) → Reads Same (want (between 1 65 3) (λ (n : ℕ). done n)) old mid (Err e) → Reads holds rule_file old mid (Err e)
  unfolding rule_file
  count_out e h = wants_out holds _ _ old mid e h

  pub root_out : (count : ℕ) (e : Refusal) → Reads Same (want any (λ (n : ℕ). done n)) old mid (Err e) → Reads holds (after_count count) old mid (Err e)
  unfolding after_count
  root_out count e h = wants_out holds _ _ old mid e h

  pub paths_out : {U : Type 0} (are : U → List Path → Type 0) (count root : ℕ) (e : Refusal) → Reads are (more_paths (count - 1) []) old mid (Err e)
      → Reads holds (after_root count root) old mid (Err e)
  unfolding after_root
  paths_out are count root e h = reads_out are holds (more_paths (count - 1) []) (λ ps. after_paths root ps) old mid e h

  pub many_out : (root : ℕ) (ps : List Path) (e : Refusal) → Reads Same (want any (λ (n : ℕ). done n)) old mid (Err e)
      → Reads holds (after_paths root ps) old mid (Err e)
  unfolding after_paths
  many_out root ps e h = wants_out holds _ _ old mid e h

  pub rules_out : (root : ℕ) (ps : List Path) (req : List ℕ) (e : Refusal) → Reads Same (want (between 0 257 8) (λ (n : ℕ). done n)) old mid (Err e)
      → Reads holds (after_required root ps req) old mid (Err e)
  unfolding after_required
  rules_out root ps req e h = wants_out holds _ _ old mid e h

  module _ (count root : ℕ) (ps : List Path) (same : 1 + length ps ≡ count) where
    pub required_out : (many : ℕ) (e : Refusal) → Reads RequiredAre (more_ascending 7 count many 0 []) old mid (Err e)
        → Reads holds (required_on root ps many) old mid (Err e)
    unfolding required_on
    required_out many e h =
        reads_out RequiredAre holds (more_ascending 7 (1 + length ps) many 0 []) (λ req. after_required root ps req) old mid e
        (subst (λ (n : ℕ). Reads RequiredAre (more_ascending 7 n many 0 []) old mid (Err e)) (sym same) h)

    pub list_out : {U : Type 0} (are : U → List Rule → Type 0) (many : ℕ) (req : List ℕ) (e : Refusal) → Reads are (more_rules count many []) old mid (Err e)
        → Reads holds (rules_to_end root ps req many) old mid (Err e)
    unfolding rules_to_end
    list_out are many req e h =
        reads_out are holds (more_rules (1 + length ps) many []) (λ rs. done (record { root = root; paths = ps; required = req; rules = rs })) old mid e
        (subst (λ (n : ℕ). Reads are (more_rules n many []) old mid (Err e)) (sym same) h)

  module _ (new : Reader) (r : Result T Refusal) where
    pub count_on : (count : ℕ) → Reads Same (want (between 1 65 3) (λ (n : ℕ). done n)) old mid (Ok count)
        → Reads holds (after_count count) mid new r → Reads holds rule_file old new r
    unfolding rule_file
    count_on count h k = wants_then holds _ _ old mid count new r h k

    pub root_on : (count root : ℕ) → Reads Same (want any (λ (n : ℕ). done n)) old mid (Ok root)
        → Reads holds (after_root count root) mid new r → Reads holds (after_count count) old new r
    unfolding after_count
    root_on count root h k = wants_then holds _ _ old mid root new r h k

    pub paths_on : (count root : ℕ) (parent label : List ℕ) → Reads (λ (u : Unit {0}). PathsIn count parent label root) (more_paths (count - 1) []) old mid (Ok tt)
        → ((ps : List Path) → PathsIn count parent label root ps → Reads holds (after_paths root ps) mid new r) → Reads holds (after_root count root) old new r
    unfolding after_root
    paths_on count root parent label h k =
        reads_then (λ (u : Unit {0}). PathsIn count parent label root) holds (more_paths (count - 1) []) (λ ps. after_paths root ps) old mid tt new r h k

    pub many_on : (root many : ℕ) (ps : List Path) → Reads Same (want any (λ (n : ℕ). done n)) old mid (Ok many)
        → Reads holds (required_on root ps many) mid new r → Reads holds (after_paths root ps) old new r
    unfolding after_paths
    many_on root many ps h k = wants_then holds _ _ old mid many new r h k

    pub rules_on : (root many : ℕ) (ps : List Path) (req : List ℕ) → Reads Same (want (between 0 257 8) (λ (n : ℕ). done n)) old mid (Ok many)
        → Reads holds (rules_to_end root ps req many) mid new r → Reads holds (after_required root ps req) old new r
    unfolding after_required
    rules_on root many ps req h k = wants_then holds _ _ old mid many new r h k

    pub required_on_lem : (count root : ℕ) (ps : List Path) (same : 1 + length ps ≡ count) (many required : ℕ)
        → Reads RequiredAre (more_ascending 7 count many 0 []) old mid (Ok required)
        → ((req : List ℕ) → RequiredAre required req → Reads holds (after_required root ps req) mid new r)
        → Reads holds (required_on root ps many) old new r
    unfolding required_on
    required_on_lem count root ps same many required h k =
        reads_then RequiredAre holds (more_ascending 7 (1 + length ps) many 0 []) (λ req. after_required root ps req) old mid required new r
        (subst (λ (n : ℕ). Reads RequiredAre (more_ascending 7 n many 0 []) old mid (Ok required)) (sym same) h) k

-- so many rules were read
rules_many : (count many : ℕ) (s : List ℕ) (at : ℕ) (rs : List Rule) (next : ℕ) → run (more_rules count many []) at (drop at s) ≡ got rs next → length rs ≡ many
unfolding more_rules
rules_many count many s at rs next e =
    list_many (λ rs. one_rule count) (more_rules count) (λ l. refl) (λ k l. refl) s many [] at rs next e ∙ omega arith

-- the last section, and the table
module _ (old mid : Reader) (count root : ℕ) (parent label : List ℕ) (ps : List Path) (are : PathsIn count parent label root ps) where
  pub list_on : (many required : ℕ) (req : List ℕ) → RequiredAre required req
      → (kind left right : List ℕ) → Reads (λ (u : Unit {0}). RulesIn kind left right) (more_rules count many []) old mid (Ok tt)
      → Reads (λ (u : Unit {0}). StandsFor (record { paths = count; parent = parent; label = label; required = required; rules = many; kind = kind; left = left; right = right }))
      (rules_to_end root ps req many) old mid (Ok tt)
  unfolding rules_to_end table_of onward run
  list_on many required req set kind left right h =
      let here : Reads (λ (u : Unit {0}). RulesIn kind left right) (more_rules (1 + length ps) many []) old mid (Ok tt) =
      subst (λ (n : ℕ). Reads (λ (u : Unit {0}). RulesIn kind left right) (more_rules n many []) old mid (Ok tt)) (sym are.many) h in
      let have : many ≡ length here.answer.0 = sym (rules_many (1 + length ps) many old.bytes.now old.at here.answer.0 mid.at here.answer.1) in
      let q : RuleSet = record { root = root; paths = ps; required = req; rules = here.answer.0 } in
      record {
        bytes = here.bytes;
        answer = (
          q,
          run_then (more_rules (1 + length ps) many []) (λ rs. done (record { root = root; paths = ps; required = req; rules = rs })) old.bytes.now old.at
              ∙ ap (onward (λ rs. done (record { root = root; paths = ps; required = req; rules = rs })) old.bytes.now) here.answer.1,
          λ i.
              record {
                paths = sym are.many i;
                parent = are.in_parent i;
                label = are.in_label i;
                required = set i;
                rules = have i;
                kind = here.answer.2.in_kind i;
                left = here.answer.2.in_left i;
                right = here.answer.2.in_right i;
              },
        );
      }
