-- The second row is written where the list has it.
use Rattle.std.proofs.Common.{rules, arith, ℕ, ◌+◌, ◌<◌, ◌≡◌, List, ◌++◌, length, set, ap, sym, ◌∙◌, length-append}
use Rattle.std.proofs.lemmas.List.{set-append_left, set-append_right}
use Rattle.handed.proofs.plan.Plan.set_named.Goals as goal

second_row : (a b c d plan : List ℕ) (i v : ℕ) → length a ≡ 64 → length b ≡ 64 → ((a ++ b) ++ c) ++ d ≡ plan → i < 64
    → ((a ++ set b i v) ++ c) ++ d ≡ set plan (64 + i) v
second_row a b c d plan i v l m is low =
    rw (← is)
    (sym
    (set-append_left ((a ++ b) ++ c) d (64 + i) v (omega (arith, length-append (a ++ b) c, length-append a b))
    ∙ ap (λ (xs : List ℕ). xs ++ d) (set-append_left (a ++ b) c (64 + i) v (omega (arith, length-append a b)))
    ∙ ap (λ (xs : List ℕ). (xs ++ c) ++ d) (set-append_right a b 64 (64 + i) v l (omega arith))
    ∙ ap (λ (j : ℕ). ((a ++ set b j v) ++ c) ++ d) (omega arith)))

pub returns : goal.returns
returns c = search (rules, second_row)
