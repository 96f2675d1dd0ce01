-- Laws of the numbers of a rule file collected section by section: what is there and what remains.
use Prim.Native.Nat.{ℕ, suc, ◌+◌, ◌-◌, ◌<◌, ◌≤◌}
use mathlib.Core.Path.{◌≡◌, sym, ap, ◌∙◌}
use mathlib.Core.List.{List, [], ◌∷◌, ◌++◌, append-nil, append_assoc}
use native.Mathlib.Omega.{arith}
use native.Mathlib.Numerals.{add-one, add-two, add-three}
use lib.ListN.{length, get_or, set, length-append}
use lib.Seq.{sets}
use Rattle.files.specs.RuleFile.{path_numbers, rule_numbers}
use Rattle.files.specs.Rules.{paths_from, rules_from}
use Rattle.files.specs.Sets.{size, members}
use Rattle.files.specs.Writing.{required_section, rule_section}
use Rattle.files.proofs.PathTests.{paths_step}
use Rattle.files.proofs.SetMembers.{size_members, size_le}

-- numbers with one more, then those that remain, are the numbers with all that remained
pub more : (xs : List ℕ) (x : ℕ) (rest : List ℕ) → (xs ++ (x ∷ [])) ++ rest ≡ xs ++ (x ∷ rest)
more xs x rest = append_assoc xs (x ∷ []) rest

-- the paths from x on
module _ (parent label numbers : List ℕ) (x count : ℕ) (w : List ℕ)
    (inv : numbers ++ path_numbers (paths_from parent label x (count - x)) ≡ w) where
  pub paths_on : x < count
      → ((numbers ++ (get_or parent x 0 ∷ [])) ++ (get_or label x 0 ∷ [])) ++ path_numbers (paths_from parent label (x + 1) (count - (x + 1))) ≡ w
  unfolding path_numbers
  paths_on h = rw (more, more) (rw (paths_step parent label x count h) at inv)

  pub paths_end : count ≤ x → numbers ≡ w
  unfolding path_numbers paths_from
  paths_end h = sym (append-nil numbers) ∙ rw (let e : count - x ≡ 0 = omega arith in e) at inv

pub ruleset paths_laws = (paths_on, paths_end)

-- the count of the members comes before them
pub members_begin : (numbers after : List ℕ) (w v n : ℕ) → v ≡ w → n ≡ size w → after ≡ numbers ++ (n ∷ []) → after ++ members v ≡ numbers ++ required_section w
members_begin numbers after w v n e f g = rw (e, g, more, f, size_members)

-- the members that are left
module _ (left : ℕ) {x : ℕ} {rest : List ℕ} (e : members left ≡ x ∷ rest) (numbers : List ℕ) where
  module _ (after : List ℕ) (f : after ≡ numbers ++ (x ∷ [])) where
    pub members_on : (w : List ℕ) → numbers ++ members left ≡ w → after ++ rest ≡ w
    members_on w inv = rw (f, more) (rw e at inv)

    pub members_room : (k : ℕ) → length numbers + length (members left) ≡ k → length after + length rest ≡ k
    members_room k inv = omega (arith, ap length e, ap length f, length-append numbers (x ∷ []))

  pub members_fit : (start w : ℕ) → length numbers + length (members left) ≡ start + length (members w) → start ≤ 129 → length numbers < 962
  members_fit start w inv h = omega (arith, ap length e, size_members w, size_le w)

pub members_end : (numbers w : List ℕ) (left : ℕ) → numbers ++ members left ≡ w → members left ≡ [] → numbers ≡ w
members_end numbers w left inv e = sym (append-nil numbers) ∙ rw e at inv

pub ruleset members_laws = (members_begin, members_on, members_room, members_fit, members_end)

-- the rules from x on begin with rule x
pub rules_step : (kind left right : List ℕ) (x count : ℕ) → x < count
    → rules_from kind left right x (count - x)
    ≡ record { kind = get_or kind x 0; left = get_or left x 0; right = get_or right x 0 } ∷ rules_from kind left right (x + 1) (count - (x + 1))
unfolding rules_from
rules_step kind left right x count h = rw (let e : count - x ≡ suc (count - (x + 1)) = omega arith in e)

module _ (kind left right numbers : List ℕ) (x count : ℕ) (w : List ℕ)
    (inv : numbers ++ rule_numbers (rules_from kind left right x (count - x)) ≡ w) where
  pub rules_after : x < count
      → (((numbers ++ (get_or kind x 0 ∷ [])) ++ (get_or left x 0 ∷ [])) ++ (get_or right x 0 ∷ []))
      ++ rule_numbers (rules_from kind left right (x + 1) (count - (x + 1)))
      ≡ w
  unfolding rule_numbers
  rules_after h = rw (more, more, more) (rw (rules_step kind left right x count h) at inv)

  pub rules_end : count ≤ x → numbers ≡ w
  unfolding rule_numbers rules_from
  rules_end h = sym (append-nil numbers) ∙ rw (let e : count - x ≡ 0 = omega arith in e) at inv

pub rules_begin : (kind left right numbers after : List ℕ) (count : ℕ) → after ≡ numbers ++ (count ∷ [])
    → after ++ rule_numbers (rules_from kind left right 0 (count - 0)) ≡ numbers ++ rule_section kind left right count
rules_begin kind left right numbers after count e =
    rw (e, more, let z : count - 0 ≡ count = omega arith in z)

pub ruleset rules_laws = (rules_begin, rules_after, rules_end)

-- the rules of numbers that are stored in an array from a place on
module _ (kind left right numbers : List ℕ) (x count at : ℕ) (w : List ℕ)
    (inv : sets numbers at (rule_numbers (rules_from kind left right x (count - x))) ≡ w) where
  pub rules_on_lem : (k l r : ℕ) → x < count → k ≡ get_or kind x 0 → l ≡ get_or left x 0 → r ≡ get_or right x 0
      → sets (set (set (set numbers at k) (at + 1) l) (at + 2) r) (at + 3)
      (rule_numbers (rules_from kind left right (x + 1) (count - (x + 1))))
      ≡ w
  unfolding rule_numbers
  rules_on_lem k l r h a b c = rw (add-one at, add-two at, add-three at, a, b, c) (rw (rules_step kind left right x count h) at inv)

pub rules_start : (kind left right numbers : List ℕ) (count at : ℕ)
    → sets numbers at (rule_numbers (rules_from kind left right 0 (count - 0)))
    ≡ sets numbers at (rule_numbers (rules_from kind left right 0 count))
rules_start kind left right numbers count at = rw (let e : count - 0 ≡ count = omega arith in e)
