-- Laws of numbers emitted one after the other: in pieces, what remains of them, how much room they take, and the numbers of children.
use Prim.Native.Nat.{ℕ, ◌+◌, ◌*◌, ◌%◌, ◌≤◌}
use mathlib.Core.Path.{◌≡◌, refl, sym, ap, ◌∙◌}
use mathlib.Core.Bool.{Bool, true, false}
use mathlib.Core.List.{List, [], ◌∷◌, ◌++◌, append_assoc, append-nil}
use native.Mathlib.Omega.{arith}
use native.Mathlib.Nat.{mul-suc, mul-le-mul_left}
use lib.ListN.{length, length-append}
use lib.Seq.{sets}
use Rattle.files.specs.Number.{limit, bytes_of, bytes_of_all}
use Rattle.files.specs.Writing.{wrapped}
use Rattle.files.specs.Sets.{hasb, common, size, members}
use Rattle.files.proofs.Stores.{sets_append}
use Rattle.files.proofs.MembersGone.{next_small}
use Rattle.files.proofs.SetMembers.{size_le, size_members}
use Rattle.reachable.specs.Sheet.{row}
use Rattle.theory.specs.Handed.{each_of, only_if}
use Rattle.handed.specs.Emit.{size_of, Emitted, first_in, number_in, one_number, kids_under, kids_on_path}
use Rattle.handed.specs.Emitter.{Emits}
use Rattle.handed.specs.declared.emitter.Emitter.{Emitter}

-- ---- the bytes of numbers, one list after another

abbrev pub bytes : List ℕ → List ℕ
bytes numbers = bytes_of_all (wrapped numbers)

bytes_both : (xs ys : List ℕ) → bytes (xs ++ ys) ≡ bytes xs ++ bytes ys
unfolding bytes_of_all wrapped
bytes_both [] ys = refl
bytes_both (x ∷ xs) ys =
    ap (λ (l : List ℕ). bytes_of (x % limit) ++ l) (bytes_both xs ys) ∙ sym (append_assoc (bytes_of (x % limit)) (bytes xs) (bytes ys))

size_none : size_of [] ≡ 0
unfolding size_of bytes_of_all wrapped
size_none = refl

size_append : (xs ys : List ℕ) → size_of (xs ++ ys) ≡ size_of xs + size_of ys
unfolding size_of
size_append xs ys = ap length (bytes_both xs ys) ∙ length-append (bytes xs) (bytes ys)

stored_none : (out : List ℕ) (at : ℕ) → sets out at (bytes []) ≡ out
unfolding bytes_of_all wrapped
stored_none out at = refl

stored_append : (xs ys out : List ℕ) (at : ℕ) → sets out at (bytes (xs ++ ys)) ≡ sets (sets out at (bytes xs)) (at + size_of xs) (bytes ys)
unfolding size_of
stored_append xs ys out at = ap (λ (l : List ℕ). sets out at l) (bytes_both xs ys) ∙ sets_append (bytes xs) (bytes ys) out at

-- ---- in pieces

pub emits_none : (xs : List ℕ) (most : ℕ) (e : Emitter) → xs ≡ [] → Emits xs most e e
emits_none xs most e none =
    record {
      emitted = record {
        place = omega (arith, ap size_of none, size_none);
        buffer = sym (stored_none e.out.now e.at) ∙ ap (λ (l : List ℕ). sets e.out.now e.at (bytes l)) (sym none);
      };
      short = omega arith;
      same = refl;
    }

-- two pieces, one after the other
pub emits_both : (all xs ys : List ℕ) (m n k : ℕ) (e mid last : Emitter) → Emits xs n e mid → Emits ys k mid last → all ≡ xs ++ ys → n + k ≤ m
    → Emits all m e last
emits_both all xs ys m n k e mid last first second is room =
    record {
      emitted = record {
        place = omega (arith, second.emitted.place, first.emitted.place, ap size_of is, size_append xs ys);
        buffer =
            second.emitted.buffer
            ∙ rw (first.emitted.buffer, first.emitted.place) (sym (stored_append xs ys e.out.now e.at))
            ∙ ap (λ (l : List ℕ). sets e.out.now e.at (bytes l)) (sym is);
      };
      short = omega (arith, first.short, second.short);
      same = second.same ∙ first.same;
    }

-- ---- a number

pub number_stored : (out : List ℕ) (at n v s : ℕ) (after : List ℕ) → v ≡ n % 16384 → s ≡ length (bytes_of v)
    → after ≡ sets out at (bytes_of (v % limit)) → Emitted (n ∷ []) out at after (at + s)
unfolding size_of bytes_of_all wrapped
number_stored out at n v s after is size e =
    let same : v % limit ≡ n % limit = omega arith in
    record {
      place = ap (λ (x : ℕ). at + x) (size ∙ ap (λ (x : ℕ). length (bytes_of x)) is ∙ ap length (sym (append-nil (bytes_of (n % limit)))));
      buffer = e ∙ ap (λ (l : List ℕ). sets out at l) (ap bytes_of same ∙ sym (append-nil (bytes_of (n % limit))));
    }

-- ---- what is emitted, and what remains: `rest`, with room for so many bytes, is what is left of `all`

pub record Left (rest : List ℕ) (room : ℕ) (e : Emitter) (all : List ℕ) (most : ℕ) (first : Emitter) : Type 0 where
  pub place : e.at + size_of rest ≡ first.at + size_of all
  pub buffer : sets e.out.now e.at (bytes rest) ≡ sets first.out.now first.at (bytes all)
  pub fits : e.at + room ≤ first.at + most
  pub same : e.out.ghost_name ≡ first.out.ghost_name

pub left_start : (all : List ℕ) (room most : ℕ) (e : Emitter) → room ≤ most → Left all room e all most e
left_start all room most e fits = record { place = refl; buffer = refl; fits = omega arith; same = refl }

module _ (rest : List ℕ) (room : ℕ) (e : Emitter) (all : List ℕ) (most : ℕ) (first : Emitter) (left : Left rest room e all most first) where
  pub left_on : (xs ys : List ℕ) (n more : ℕ) (next : Emitter) → Emits xs n e next → rest ≡ xs ++ ys → room ≡ n + more
      → Left ys more next all most first
  left_on xs ys n more next m is r =
      record {
        place = omega (arith, ap size_of is, size_append xs ys, left.place, m.emitted.place);
        buffer =
            rw (m.emitted.buffer, m.emitted.place)
            (sym (stored_append xs ys e.out.now e.at) ∙ ap (λ (l : List ℕ). sets e.out.now e.at (bytes l)) (sym is) ∙ left.buffer);
        fits = omega (arith, left.fits, m.short, r);
        same = m.same ∙ left.same;
      }

  pub left_end : rest ≡ [] → Emits all most first e
  left_end none =
      record {
        emitted = record {
          place = omega (arith, ap size_of none, size_none, left.place);
          buffer = sym (stored_none e.out.now e.at) ∙ ap (λ (l : List ℕ). sets e.out.now e.at (bytes l)) (sym none) ∙ left.buffer;
        };
        short = omega (arith, left.fits);
        same = left.same;
      }

-- ---- the pieces of the members of a list, each at most n bytes

unfoldable pub room : (n : ℕ) (xs : List ℕ) → ℕ
room n xs = n * length xs

pub members_room : (n w most : ℕ) → n * 64 ≤ most → room n (members w) ≤ most
unfolding room
members_room n w most h = omega (arith, mul-le-mul_left n (size_le w), ap (λ (s : ℕ). n * s) (size_members w))

module _ (n : ℕ) (xs : List ℕ) (x : ℕ) (rest : List ℕ) (e : xs ≡ x ∷ rest) where
  pub room_step : room n xs ≡ n + room n rest
  unfolding room
  room_step = ap (λ (l : List ℕ). n * length l) e ∙ omega (arith, mul-suc n (length rest))

module _ (f : ℕ → List ℕ) (n : ℕ) (xs : List ℕ) (e : Emitter) (all : List ℕ) (most : ℕ) (first : Emitter)
    (left : Left (each_of f xs) (room n xs) e all most first) where
  pub each_room : (x : ℕ) (rest : List ℕ) (limit : ℕ) → xs ≡ x ∷ rest → first.at + most ≤ limit → e.at + n ≤ limit
  each_room x rest limit is fits = omega (arith, left.fits, room_step n xs x rest is)

  pub each_on : (x : ℕ) (rest : List ℕ) (next : Emitter) → xs ≡ x ∷ rest → Emits (f x) n e next
      → Left (each_of f rest) (room n rest) next all most first
  unfolding each_of
  each_on x rest next is m =
      left_on (each_of f xs) (room n xs) e all most first left (f x) (each_of f rest) n (room n rest) next m (ap (each_of f) is)
      (room_step n xs x rest is)

  pub each_end : xs ≡ [] → Emits all most first e
  unfolding each_of
  each_end none = left_end (each_of f xs) (room n xs) e all most first left (ap (each_of f) none)

pub ruleset each_laws = (left_start, members_room, each_room, each_on, each_end, next_small)

-- ---- the numbers of children

pub goal_on : (plan : List ℕ) (k : ℕ) (xs : List ℕ) (e : Emitter) (all : List ℕ) (most : ℕ) (first : Emitter)
    → Left (each_of (one_number plan k) xs) (room 2 xs) e all most first → (x n : ℕ) (rest : List ℕ) (next : Emitter) → xs ≡ x ∷ rest
    → n ≡ number_in plan k x → Emits (n ∷ []) 2 e next → Left (each_of (one_number plan k) rest) (room 2 rest) next all most first
unfolding one_number
goal_on plan k xs e all most first left x n rest next is number m =
    each_on (one_number plan k) 2 xs e all most first left x rest next is (rw (← number) m)

pub ruleset goal_laws = (left_start, members_room, each_room, goal_on, each_end)

module _ (plan : List ℕ) (more k : ℕ) (e : Emitter) where
  pub first_in_more : (t : Bool) (n : ℕ) (next : Emitter) → t ≡ hasb more k → t ≡ true → n ≡ first_in plan k → Emits (n ∷ []) 2 e next
      → Emits (only_if (hasb more k) (first_in plan k)) 2 e next
  unfolding only_if
  first_in_more t n next is h number m = rw (← is, h, ← number) m

  pub first_not_in_more : (t : Bool) → t ≡ hasb more k → t ≡ false → Emits (only_if (hasb more k) (first_in plan k)) 2 e e
  unfolding only_if
  first_not_in_more t is h = emits_none (only_if (hasb more k) (first_in plan k)) 2 e (rw (← is, h))

pub ruleset first_laws = (first_in_more, first_not_in_more)

pub path_emitted : (sheet plan : List ℕ) (more w x b goals : ℕ) (e mid next : Emitter) → b ≡ row 1088 sheet x → goals ≡ common w b
    → Emits (only_if (hasb more x) (first_in plan x)) 2 e mid → Emits (each_of (one_number plan x) (members goals)) 128 mid next
    → Emits (kids_on_path sheet plan more w x) 130 e next
unfolding kids_on_path kids_under
path_emitted sheet plan more w x b goals e mid next be g m n =
    emits_both (kids_on_path sheet plan more w x) (only_if (hasb more x) (first_in plan x)) (each_of (one_number plan x) (members goals)) 130 2 128 e mid
    next m n (rw (g, be)) (omega arith)
