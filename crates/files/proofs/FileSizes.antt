-- The longest valid rule file has 1,026 bytes: no valid rule set has a longer one, and one has it.
use Prim.Native.Nat.{ℕ, zero, suc, ◌+◌, ◌-◌, ◌*◌, ◌^◌, ◌<◌, ◌≤◌}
use mathlib.Core.Path.{◌≡◌, refl, ap}
use mathlib.Core.Bool.{true}
use mathlib.Core.List.Memᴰ
use mathlib.Core.List.{List, [], ◌∷◌, ◌++◌}
use native.Mathlib.Decide.{dec_lt}
use native.Mathlib.Omega.{arith}
use lib.ListN.{length, replicate, length-append}
use Rattle.files.specs.Number.{bytes_of, bytes_of_all}
use Rattle.files.specs.RuleFile.{between, depths, deeper, parent_test, label_test, repeats, same_child, path_numbers, rule_numbers, numbers_of, file_of}
use Rattle.files.specs.Sets.{bit, common, difference, below_all, members_from, members}
use Rattle.files.specs.Table.{Path, Rule, RuleSet, Valid}
use Rattle.files.specs.TableTest.{path_passes, paths_pass, rule_passes, rules_pass, required_pass}
use Rattle.files.proofs.FileParts.{Within, ascending_few}
use Rattle.files.proofs.Numbers.{bytes_short, bytes_long}
use Rattle.files.proofs.Passing.{both_true, path_passes_lem, rule_passes_lem}
use Rattle.files.proofs.TableTests.{required_passes}
use Rattle.files.proofs.ValidTables.{valid_passing, passing_valid}

-- ---- bytes of numbers

pub number_short : (n : ℕ) → n < 128 → length (bytes_of n) ≡ 1
number_short n h = ap length (bytes_short n h)

pub number_most : (n : ℕ) → length (bytes_of n) ≤ 2
number_most n = by (dec_lt n 128)
  where
    by : Dec (n < 128) → length (bytes_of n) ≤ 2
    by (yes h) = omega (arith, number_short n h)
    by (no h) = omega (arith, ap length (bytes_long n (omega arith)))

-- how many bytes numbers take
unfoldable pub bytes_in : List ℕ → ℕ
bytes_in ns = length (bytes_of_all ns)

pub bytes_none : bytes_in [] ≡ 0
unfolding bytes_in bytes_of_all
bytes_none = refl

pub bytes_more : (n : ℕ) (ns : List ℕ) → bytes_in (n ∷ ns) ≡ length (bytes_of n) + bytes_in ns
unfolding bytes_in bytes_of_all
bytes_more n ns = length-append (bytes_of n) (bytes_of_all ns)

pub bytes_append : (ns ms : List ℕ) → bytes_in (ns ++ ms) ≡ bytes_in ns + bytes_in ms
bytes_append [] ms = omega (arith, bytes_none)
bytes_append (n ∷ ns) ms = omega (arith, bytes_more n (ns ++ ms), bytes_more n ns, bytes_append ns ms)

-- ---- bytes of the parts

path_bytes : (ps rest : List Path) → length ps + length rest ≤ 64 → paths_pass ps rest ≡ true → bytes_in (path_numbers rest) ≤ 3 * length rest
unfolding path_numbers paths_pass
path_bytes ps [] few t = omega (arith, bytes_none)
path_bytes ps (p ∷ rest) few t =
    let b = both_true (path_passes ps p) _ t in
    let g = (path_passes_lem ps p).0 b.0 in
    omega (
      arith,
      bytes_more p.parent (p.label ∷ path_numbers rest),
      bytes_more p.label (path_numbers rest),
      number_short p.parent (omega (arith, g.smaller)),
      number_most p.label,
      path_bytes (ps ++ (p ∷ [])) rest (omega (arith, length-append ps (p ∷ []))) b.1,
    )

required_bytes : (xs : List ℕ) → Within 64 xs → bytes_in xs ≡ length xs
required_bytes [] w = bytes_none
required_bytes (x ∷ xs) w =
    let h : x < 64 = w x (Memᴰ.head refl) in
    omega (arith, bytes_more x xs, number_short x (omega arith), required_bytes xs (λ y m. w y (Memᴰ.tail m)))

rule_bytes : (count : ℕ) (rs : List Rule) → count ≤ 64 → rules_pass count rs ≡ true → bytes_in (rule_numbers rs) ≤ 3 * length rs
unfolding rule_numbers rules_pass
rule_bytes count [] few t = omega (arith, bytes_none)
rule_bytes count (ru ∷ rs) few t =
    let b = both_true (rule_passes count ru) _ t in
    let g = (rule_passes_lem count ru).0 b.0 in
    omega (
      arith,
      bytes_more ru.kind (ru.left ∷ ru.right ∷ rule_numbers rs),
      bytes_more ru.left (ru.right ∷ rule_numbers rs),
      bytes_more ru.right (rule_numbers rs),
      number_short ru.kind (omega (arith, g.known)),
      number_short ru.left (omega (arith, g.left)),
      number_short ru.right (omega (arith, g.right)),
      rule_bytes count rs few b.1,
    )

-- no valid file is longer than 1,026 bytes
pub longest : (r : RuleSet) → Valid r → length (file_of r) ≤ 1026
unfolding file_of numbers_of bytes_in
longest r v =
    let t = valid_passing r v in
    let count : ℕ = 1 + length r.paths in
    let tail : List ℕ = length r.rules ∷ rule_numbers r.rules in
    let few = ascending_few count t.required t.present (omega arith) in
    let paths : bytes_in (path_numbers r.paths) ≤ 3 * length r.paths = path_bytes [] r.paths (omega (arith, t.count)) t.paths in
    let required : bytes_in r.required ≡ length r.required =
    required_bytes r.required (λ x m. omega (arith, t.present x m, t.count)) in
    let rules : bytes_in (rule_numbers r.rules) ≤ 3 * length r.rules = rule_bytes count r.rules t.count t.rules in
    omega (
      arith,
      t.count,
      t.many,
      bytes_more count (r.root ∷ (path_numbers r.paths ++ (length r.required ∷ (r.required ++ tail)))),
      number_short count (omega (arith, t.count)),
      bytes_more r.root (path_numbers r.paths ++ (length r.required ∷ (r.required ++ tail))),
      number_most r.root,
      bytes_append (path_numbers r.paths) (length r.required ∷ (r.required ++ tail)),
      bytes_more (length r.required) (r.required ++ tail),
      number_short (length r.required) (omega (arith, t.count)),
      bytes_append r.required tail,
      bytes_more (length r.rules) (rule_numbers r.rules),
      number_most (length r.rules),
    )

-- ---- a file of that length

-- paths under the root, with labels of two bytes
wide_paths : ℕ → List Path
wide_paths zero = []
wide_paths (suc k) = record { parent = 0; label = 128 + k } ∷ wide_paths k

-- 64 paths with labels of two bytes, all but the root required, and 256 rules
pub widest : RuleSet
unfolding wide_paths
widest =
    record {
      root = 128;
      paths = wide_paths 63;
      required = members (2 ^ 64 - 2);
      rules = replicate 256 (record { kind = 1; left = 0; right = 0 });
    }

wide_paths_lem : paths_pass [] widest.paths ≡ true
unfolding widest wide_paths paths_pass path_passes parent_test depths deeper label_test repeats same_child
wide_paths_lem = refl

wide_required : required_pass 64 (2 ^ 64 - 2) ≡ true
unfolding required_pass common difference below_all
wide_required = refl

wide_rules : rules_pass 64 widest.rules ≡ true
unfolding widest rules_pass rule_passes between
wide_rules = refl

widest_valid : Valid widest
unfolding widest wide_paths
widest_valid =
    let required = (required_passes 64 (2 ^ 64 - 2) (omega arith) (omega arith)).0 wide_required in
    passing_valid widest
    (record {
      count = omega arith;
      root = omega arith;
      paths = wide_paths_lem;
      required = required.0;
      present = required.1;
      many = omega arith;
      rules = wide_rules;
    })

widest_length : length (file_of widest) ≡ 1026
unfolding widest wide_paths file_of numbers_of path_numbers rule_numbers bytes_of_all bytes_of members members_from bit
widest_length = refl

-- a valid rule set has a file of 1,026 bytes
pub longest_reached : (r : RuleSet) × Valid r × (length (file_of r) ≡ 1026)
longest_reached = (widest, widest_valid, widest_length)
