-- The goals of parts, from the words of a sheet.
use Rattle.std.specs.Prelude.{ℕ, zero, suc, ◌+◌, ◌*◌, Bool, true, false, not, List, eqb, get_or}
use Rattle.files.specs.Sets.{with_path, without_path, difference}
use Rattle.reachable.specs.Sheet.{row, above_at, slot_of}
use Rattle.theory.specs.Handed.{highest, gather, severalb}

-- what is reachable from x inside the path of depth d + 1 at or above it
unfoldable pub inside : (sheet : List ℕ) (d x : ℕ) → ℕ
inside sheet d x = get_or sheet (x * 8 + d) 0

-- what is reachable so from any of the goals
unfoldable pub inside_any : (sheet : List ℕ) (d goals : ℕ) → ℕ
inside_any sheet d goals = gather (inside sheet d) 64 goals 0

-- the highest path of `left`, what no child covers yet, gets a child; then what that covers, one depth lower, is left no more
unfoldable pub fill_in : (sheet : List ℕ) (d fuel left chosen : ℕ) → ℕ
fill_in sheet d zero left chosen = chosen
fill_in sheet d (suc fuel) left chosen =
    elim (eqb left 0) [
      | true ↦ chosen
      | false ↦ fill_in sheet d fuel (difference left (inside sheet (d + 1) (highest left))) (with_path chosen (highest left))
    ]

-- the goals that have a child of their own to begin with: none where one child has all goals
unfoldable pub own_of : (handed : Bool) (goals : ℕ) → ℕ
own_of true goals = 0
own_of false goals = goals

-- the goals of the one-goal children of a part on c, a path of depth d + 1; `handed` says that one child more has all the goals
unfoldable pub kids_in : (sheet : List ℕ) (d c goals : ℕ) (handed : Bool) → ℕ
kids_in sheet d c goals handed =
    fill_in sheet d 64 (difference (without_path (inside_any sheet d goals) c) (inside_any sheet (d + 1) (without_path goals c)))
    (own_of handed (without_path goals c))

-- of a part with the one goal g
unfoldable pub one_in : (sheet : List ℕ) (d c g : ℕ) → ℕ
one_in sheet d c g = kids_in sheet d c (with_path 0 g) false

-- of the part with all goals, whose context is `top`
unfoldable pub all_in : (sheet : List ℕ) (goals top c : ℕ) → ℕ
all_in sheet goals top c = kids_in sheet (slot_of sheet c) c goals (not (eqb c top))

-- the paths that carry all goals in one part: those at or above their context, if the goals are several
unfoldable pub chain_in : (sheet : List ℕ) (goals top : ℕ) → ℕ
chain_in sheet goals top = elim (severalb goals) [ true ↦ row above_at sheet top | false ↦ 0 ]

-- the goals of the one-goal parts on the root
unfoldable pub root_of : (goals : ℕ) → ℕ
root_of goals = elim (severalb goals) [ true ↦ 0 | false ↦ goals ]
