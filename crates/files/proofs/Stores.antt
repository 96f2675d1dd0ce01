-- Laws of numbers stored in a lent buffer: their size, their bytes one after the other, and the buffer after all of them.
use Prim.Native.Nat.{ℕ, zero, suc, ◌+◌, ◌/◌, ◌%◌, ◌<◌, ◌≤◌}
use mathlib.Core.Path.{◌≡◌, refl, sym, ap, ◌∙◌}
use mathlib.Core.List.{List, [], ◌∷◌, ◌++◌}
use native.Mathlib.Nat.{add-zero}
use native.Mathlib.Decide.{dec_lt}
use native.Mathlib.Omega.{arith}
use native.Mathlib.Numerals.{add-one}
use lib.ListN.{length, get_or, drop, set, length-append, length-set, drop_of_length-le}
use lib.Seq.{sets, sets-eq, length-sets, drop-cons}
use borrow.Author.Tests.{le-leb, lt-leb}
use Rattle.files.specs.Number.{limit, bytes_of, bytes_of_all}
use Rattle.files.specs.Writing.{Length, Refused, put, wrapped, Puts}
use Rattle.files.proofs.Numbers.{bytes_short, bytes_long}

-- how many bytes a number takes
pub size_short : (n : ℕ) → n < 128 → 1 ≡ length (bytes_of n)
size_short n h = sym (ap length (bytes_short n h))

pub size_long : (n : ℕ) → 128 ≤ n → 2 ≡ length (bytes_of n)
size_long n h = sym (ap length (bytes_long n h))

pub ruleset size_laws = (size_short, size_long)

-- a number's bytes stored one by one, where they fit
module _ (l : List ℕ) (at n : ℕ) where
  pub first_fits : at + length (bytes_of n) ≤ length l → n < 128 → at < length l
  first_fits h s = omega (arith, size_short n s)

  pub long_fits : at + length (bytes_of n) ≤ length l → 128 ≤ n → at < length l
  long_fits h s = omega (arith, size_long n s)

  pub second_fits : (v : ℕ) → at + length (bytes_of n) ≤ length l → 128 ≤ n → at + 1 < length (set l at v)
  second_fits v h s = omega (arith, size_long n s, length-set l at v)

  pub store_short : n < 128 → set l at n ≡ sets l at (bytes_of n)
  store_short h = rw (bytes_short n h)

  pub store_long : 128 ≤ n → set (set l at (128 + n % 128)) (at + 1) (n / 128) ≡ sets l at (bytes_of n)
  store_long h = rw (bytes_long n h, add-one)

pub after_short : (at n : ℕ) → n < 128 → at + 1 ≡ at + length (bytes_of n)
after_short at n h = ap (λ (k : ℕ). at + k) (size_short n h)

pub after_long : (at n : ℕ) → 128 ≤ n → at + 2 ≡ at + length (bytes_of n)
after_long at n h = ap (λ (k : ℕ). at + k) (size_long n h)

pub ruleset store_laws = (first_fits, long_fits, second_fits, store_short, store_long, after_short, after_long)

-- a store past the end changes nothing
set_past : (l : List ℕ) (i v : ℕ) → length l ≤ i → set l i v ≡ l
set_past [] i v h = refl
set_past (x ∷ l) zero v h = absurd (omega arith)
set_past (x ∷ l) (suc i) v h = ap (λ (r : List ℕ). x ∷ r) (set_past l i v (omega arith))

-- a number's bytes stored one by one, as far as the buffer goes
module _ (l : List ℕ) (at n : ℕ) where
  pub stored_none : length l ≤ at → l ≡ sets l at (bytes_of n)
  stored_none h = pick (dec_lt n 128)
    where
      pick : Dec (n < 128) → l ≡ sets l at (bytes_of n)
      pick (yes k) = sym (set_past l at n h) ∙ store_short l at n k
      pick (no k) =
          sym (set_past l (at + 1) (n / 128) (omega arith) ∙ refl)
          ∙ ap (λ (r : List ℕ). set r (at + 1) (n / 128)) (sym (set_past l at (128 + n % 128) h))
          ∙ store_long l at n (omega arith)

  pub stored_first : (v : ℕ) → 128 ≤ n → v ≡ 128 + n % 128 → length (set l at v) ≤ at + 1 → set l at v ≡ sets l at (bytes_of n)
  stored_first v h e k =
      sym (set_past (set l at v) (at + 1) (n / 128) k)
      ∙ ap (λ (x : ℕ). set (set l at x) (at + 1) (n / 128)) e
      ∙ store_long l at n h

pub ruleset stored_laws = (store_short, store_long, stored_none, stored_first)

-- one run of stores after another
pub sets_append : (xs ys l : List ℕ) (i : ℕ) → sets l i (xs ++ ys) ≡ sets (sets l i xs) (i + length xs) ys
sets_append [] ys l i = rw (add-zero i)
sets_append (x ∷ xs) ys l i =
    sets_append xs ys (set l i x) (suc i)
    ∙ ap (λ (k : ℕ). sets (sets (set l i x) (suc i) xs) k ys) (omega arith)

-- the bytes of the numbers from i on
pub bytes_from : List ℕ → ℕ → List ℕ
bytes_from l i = bytes_of_all (wrapped (drop i l))

module _ (l out : List ℕ) where
  pub size_start : 0 + length (bytes_from l 0) ≡ length (bytes_of_all (wrapped l))
  unfolding bytes_from
  size_start = omega arith

  pub room_start : length (bytes_of_all (wrapped l)) ≤ length out → 0 + length (bytes_from l 0) ≤ length out
  unfolding bytes_from
  room_start h = omega arith

  pub stored_start : sets out 0 (bytes_from l 0) ≡ sets out 0 (bytes_of_all (wrapped l))
  unfolding bytes_from
  stored_start = refl

from_end : (l : List ℕ) (i : ℕ) → length l ≤ i → bytes_from l i ≡ []
unfolding bytes_from wrapped bytes_of_all
from_end l i h = rw (drop_of_length-le l {i = i} h)

from_step : (l : List ℕ) (i : ℕ) → i < length l → bytes_from l i ≡ bytes_of (get_or l i 0 % limit) ++ bytes_from l (i + 1)
unfolding bytes_from wrapped bytes_of_all
from_step l i h = rw (drop-cons l i 0 h, add-one)

from_length : (l : List ℕ) (i : ℕ) → i < length l
    → length (bytes_from l i) ≡ length (bytes_of (get_or l i 0 % limit)) + length (bytes_from l (i + 1))
from_length l i h = ap length (from_step l i h) ∙ length-append (bytes_of (get_or l i 0 % limit)) (bytes_from l (i + 1))

-- the size of all: what is counted and what remains
module _ (l : List ℕ) (i size w : ℕ) (inv : size + length (bytes_from l i) ≡ w) where
  pub size_on : (s : ℕ) → i < length l → s ≡ length (bytes_of (get_or l i 0 % limit)) → size + s + length (bytes_from l (i + 1)) ≡ w
  size_on s h e = omega (arith, from_length l i h)

  pub size_end : length l ≤ i → size ≡ w
  size_end h = omega (arith, ap length (from_end l i h))

-- the stores: the place and the bytes that remain still fit
module _ (l : List ℕ) (i at room : ℕ) (r : at + length (bytes_from l i) ≤ room) (h : i < length l) where
  pub room_here : (out : List ℕ) → length out ≡ room → at + length (bytes_of (get_or l i 0 % limit)) ≤ length out
  room_here out e = omega (arith, from_length l i h)

  pub room_on : (next : ℕ) → next ≡ at + length (bytes_of (get_or l i 0 % limit)) → next + length (bytes_from l (i + 1)) ≤ room
  room_on next e = omega (arith, from_length l i h)

-- what is stored and what remains
module _ (l out : List ℕ) (i at : ℕ) (w : List ℕ) (inv : sets out at (bytes_from l i) ≡ w) where
  pub stored_on : (next : ℕ) (after : List ℕ) → i < length l → next ≡ at + length (bytes_of (get_or l i 0 % limit))
      → after ≡ sets out at (bytes_of (get_or l i 0 % limit)) → sets after next (bytes_from l (i + 1)) ≡ w
  stored_on next after h e s =
      rw (s, e)
      (sym (sets_append (bytes_of (get_or l i 0 % limit)) (bytes_from l (i + 1)) out at)
      ∙ ap (λ (bs : List ℕ). sets out at bs) (sym (from_step l i h))
      ∙ inv)

  pub stored_end : length l ≤ i → out ≡ w
  stored_end h = ap (λ (bs : List ℕ). sets out at bs) (sym (from_end l i h)) ∙ inv

pub kept_on : (out after : List ℕ) (at v room : ℕ) → length out ≡ room → after ≡ sets out at (bytes_of v) → length after ≡ room
kept_on out after at v room e s = omega (arith, ap length s, length-sets out at (bytes_of v))

pub ruleset all_laws = (size_start, room_start, stored_start, size_on, size_end, room_here, room_on, stored_on, kept_on, stored_end)

-- bytes put into a buffer: none where they are longer, else all
pub put_none : (bytes out : List ℕ) → length out < length bytes → put bytes out ≡ record { answer = Refused 20 0; buffer = out }
unfolding put
put_none bytes out h = rw (lt-leb (length bytes) (length out) h)

pub put_all : (bytes out : List ℕ) → length bytes ≤ length out
    → put bytes out ≡ record { answer = Length (length bytes); buffer = bytes ++ drop (length bytes) out }
unfolding put
put_all bytes out h = rw (le-leb (length bytes) (length out) h)

module _ (l out : List ℕ) (size : ℕ) (s : size ≡ length (bytes_of_all (wrapped l))) where
  pub puts_none : length out < size → Puts (put (bytes_of_all (wrapped l)) out) (Refused 20 0) out
  puts_none h = rw (put_none (bytes_of_all (wrapped l)) out (omega arith)) record { answer = refl; buffer = refl }

  pub puts_all : (after : List ℕ) → size ≤ length out → after ≡ sets out 0 (bytes_of_all (wrapped l))
      → Puts (put (bytes_of_all (wrapped l)) out) (Length size) after
  puts_all after h g =
      let bytes : List ℕ = bytes_of_all (wrapped l) in
      let end : 0 + length bytes ≡ length bytes = omega arith in
      rw (put_all bytes out (omega arith))
      record {
        answer = ap Length s;
        buffer = g ∙ sets-eq bytes out 0 (omega arith) ∙ ap (λ (k : ℕ). bytes ++ drop k out) end;
      }

pub ruleset puts_laws = (puts_none, puts_all)
