-- Checking a document: what is held, which rule is broken, what is missing, and the answer.
use Rattle.std.specs.Prelude.{ℕ, ◌+◌, ◌-◌, ◌≡◌, Bool, false, cond, not, List, [], ◌∷◌, length, get_or, ltb, eqb}
use Rattle.files.specs.declared.rules.Rules.{Rules}
use Rattle.files.specs.Format.{Outcome, got, refused, run_all}
use Rattle.files.specs.Rules.{rules_of}
use Rattle.files.specs.Sets.{hasb, with_path, union, difference, lowest}
use Rattle.files.specs.Table.{Rule}
use Rattle.files.specs.TableTest.{table_passes}
use Rattle.documents.specs.Answers.{Checked, Obeys, Broken, Missing, Refused, Place, At, Nowhere, Break, Unbroken}
use Rattle.documents.specs.Paths.{context_of}
use Rattle.documents.specs.PartList.{Entry, document_file}
use Rattle.documents.specs.Judgement.{parents_of, Judged}

-- all that the parts of a list of numbers hold, where `sets` has what each part holds, from part number `first` on
unfoldable pub held_by : ℕ → List ℕ → List ℕ → ℕ
held_by first sets [] = 0
held_by first sets (k ∷ ks) = union (get_or sets (k - first) 0) (held_by first sets ks)

-- the set of paths that each part holds, from part number n on: its own path and what its children hold
unfoldable pub held_from : ℕ → List Entry → List ℕ
held_from n [] = []
held_from n (e ∷ es) = with_path (held_by (n + 1) (held_from (n + 1) es) e.kids) e.path ∷ held_from (n + 1) es

-- the sets of all parts
unfoldable pub held : List Entry → List ℕ
held es = held_from 0 es

-- whether a part on the context, which holds the paths of `set`, breaks the rule
unfoldable pub breaks : Rule → ℕ → Bool
breaks ru set =
    cond (eqb ru.kind 1) (cond (hasb set ru.left) (not (hasb set ru.right)) false)
    (cond (eqb ru.kind 2) (cond (hasb set ru.left) (hasb set ru.right) false)
    (cond (hasb set ru.left) (not (hasb set ru.right)) (hasb set ru.right)))

-- the least part from number n on that is on path c and breaks the rule
unfoldable pub break_from : Rule → ℕ → ℕ → List Entry → List ℕ → Place
break_from ru c n [] sets = Nowhere
break_from ru c n (e ∷ es) [] = Nowhere
break_from ru c n (e ∷ es) (set ∷ sets) =
    cond (cond (eqb e.path c) (breaks ru set) false) (At n) (break_from ru c (n + 1) es sets)

-- a rule with a part that breaks it, or the rules after it
unfoldable pub or_later : ℕ → Place → Break → Break
or_later r (At n) later = Break.Broken r n
or_later r Nowhere later = later

-- the least broken rule from number r on, and the least part that breaks it
unfoldable pub broken_from : (parent : ℕ → ℕ) → ℕ → List Rule → List Entry → List ℕ → Break
broken_from parent r [] es sets = Unbroken
broken_from parent r (ru ∷ rules) es sets =
    or_later r (break_from ru (context_of parent ru.left ru.right) 0 es sets) (broken_from parent (r + 1) rules es sets)

-- the verdict where no rule is broken: the least required path that part 0 does not hold
unfoldable pub or_missing : ℕ → ℕ → Checked
or_missing required set = cond (eqb (difference required set) 0) Obeys (Missing (lowest (difference required set)))

-- the verdict on the parts: the least broken rule and its least part, else the least required path missing, else obeys
unfoldable pub verdict : (required set : ℕ) → Break → Checked
verdict required set (Break.Broken r n) = Broken r n
verdict required set Unbroken = or_missing required set

-- the verdict on what reading the document answered
unfoldable pub judged : (parent : ℕ → ℕ) → List Rule → (required : ℕ) → Outcome (List Entry) → Checked
judged parent rules required (got es next) = verdict required (get_or (held es) 0 0) (broken_from parent 0 rules es (held es))
judged parent rules required (refused k place) = Refused k place

-- what checking a document answers: refusal 12 first, then 14, then the file's
unfoldable pub check_answer : Rules → List ℕ → Checked
check_answer t s =
    cond (table_passes t)
    (cond (ltb 65536 (length s)) (Refused 14 0)
    (judged (parents_of t) (rules_of t).rules t.required
    (run_all (document_file (parents_of t) t.paths) s)))
    (Refused 12 0)

-- what checking a document promises, on every table and all bytes
pub record CheckDocument (t : Rules) (s : List ℕ) (r : Checked) : Type 0 where
  -- the answer
  pub answer : r ≡ check_answer t s
  -- the answer is so: the refusal is met, the document obeys, the rule and the part are the least that break, the path the least missing
  pub so : Judged t s r
  -- and it is given wherever it is so: no other answer is
  pub only : (q : Checked) → Judged t s q → q ≡ r
