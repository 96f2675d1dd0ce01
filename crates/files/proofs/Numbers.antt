-- Laws of numbers: what bytes begin with is exactly one of a number, a cut one and one too long.
use Prim.Native.Nat.{ℕ, suc, ◌+◌, ◌*◌, ◌/◌, ◌%◌, ◌^◌, ◌<◌, ◌≤◌}
use mathlib.Core.Path.{◌≡◌, refl, sym, ap, ap₂, subst, ◌∙◌}
use mathlib.Core.Bool.{Bool, true, false}
use mathlib.Core.List.{List, [], ◌∷◌, ◌++◌}
use native.Mathlib.Omega.{arith}
use native.Mathlib.Numerals.{add-one}
use lib.ListN.{length, get_or, drop, drop_of_length-le, length-drop}
use lib.Seq.{drop-cons}
use lib.Dec.{ltb, eqb}
use borrow.Author.Tests.{lt-ltb, le-ltb, eq-eqb, ne_eqb, ltb-true, ltb-false, eqb-true, eqb-false}
use Rattle.std.specs.Prelude.{Result, Ok, Err, IfOk}
use Rattle.files.specs.declared.number.Number.{Number}
use Rattle.files.specs.declared.refusal.Condition.{Condition}
use Rattle.files.specs.Number.{begun, Begun, Is, Refused, limit, bytes_of, Cut, before, inside, TooLong, third, empty, Bytes, two_bytes, second_in, number_in, Begins, number, cut, long}

-- a number below 128 is its own byte
pub bytes_short : (n : ℕ) → n < 128 → bytes_of n ≡ n ∷ []
unfolding bytes_of
bytes_short n h = rw (lt-ltb n 128 h)

pub bytes_long : (n : ℕ) → 128 ≤ n → bytes_of n ≡ (128 + n % 128) ∷ (n / 128) ∷ []
unfolding bytes_of
bytes_long n h = rw (le-ltb n 128 h)

-- bytes that begin with a short number, with a long one, and what a long one's second byte decides
pub in_short : (b : ℕ) (rest : List ℕ) → b < 128 → number_in (b ∷ rest) ≡ Is b 1
unfolding number_in
in_short b rest h = rw (lt-ltb b 128 h)

pub in_second : (b : ℕ) (rest : List ℕ) → 128 ≤ b → number_in (b ∷ rest) ≡ second_in b rest
unfolding number_in
in_second b rest h = rw (le-ltb b 128 h)

pub two_zero : (b h : ℕ) → h ≡ 0 → two_bytes b h ≡ Refused 2
unfolding two_bytes
two_zero b h e = rw (eq-eqb h 0 e)

pub two_more : (b h : ℕ) → (h ≡ 0 → ⊥) → 127 < h → two_bytes b h ≡ Refused 2
unfolding two_bytes
two_more b h ne lt = rw (ne_eqb h 0 ne, lt-ltb 127 h lt)

pub two_is : (b h : ℕ) → (h ≡ 0 → ⊥) → h ≤ 127 → two_bytes b h ≡ Is (b % 128 + h * 128) 2
unfolding two_bytes
two_is b h ne le = rw (ne_eqb h 0 ne, le-ltb 127 h le)

pub in_two : (b h : ℕ) (rest : List ℕ) → 128 ≤ b → number_in (b ∷ h ∷ rest) ≡ two_bytes b h
unfolding second_in
in_two b h rest l = in_second b (h ∷ rest) l

-- a number is read back from its bytes, whatever follows
pub read_back : (n : ℕ) (rest : List ℕ) → n < limit → number_in (bytes_of n ++ rest) ≡ Is n (length (bytes_of n))
read_back n rest h = by (ltb n 128) refl
  where
    by : (t : Bool) → ltb n 128 ≡ t → number_in (bytes_of n ++ rest) ≡ Is n (length (bytes_of n))
    by true e = rw (bytes_short n (ltb-true n 128 e)) (in_short n rest (ltb-true n 128 e))
    by false e =
        let le : 128 ≤ n = ltb-false n 128 e in
        rw (bytes_long n le)
        (in_two _ _ rest (omega arith)
        ∙ two_is _ _ (λ z. omega (arith, z)) (omega arith)
        ∙ ap (λ (m : ℕ). Is m 2) (omega arith))

-- cut and too long answer their refusals
pub in_cut : {s : List ℕ} → Cut s → number_in s ≡ Refused 1
unfolding number_in second_in
in_cut before = refl
in_cut (inside {b} h) = in_second b [] h

pub in_long : {s : List ℕ} → TooLong s → number_in s ≡ Refused 2
in_long (third {b} {h} {rest} l m) = in_two b h rest l ∙ two_more b h (λ z. omega (arith, z)) (omega arith)
in_long (empty {b} {rest} l) = in_two b 0 rest l ∙ two_zero b 0 refl

-- bytes begin with exactly what their answer says
begins_two : (b h : ℕ) (rest : List ℕ) → 128 ≤ b → b < 256 → Begins (b ∷ h ∷ rest) (number_in (b ∷ h ∷ rest))
begins_two b h rest l m = by (eqb h 0) refl (ltb 127 h) refl
  where
    by : (t : Bool) → eqb h 0 ≡ t → (u : Bool) → ltb 127 h ≡ u → Begins (b ∷ h ∷ rest) (number_in (b ∷ h ∷ rest))
    by true e u f = rw (in_two b h rest l, two_zero b h (eqb-true h 0 e), eqb-true h 0 e) (long (empty l))
    by false e true f = rw (in_two b h rest l, two_more b h (eqb-false h 0 e) (ltb-true 127 h f)) (long (third {h = h} l (ltb-true 127 h f)))
    by false e false f =
        let ne : h ≡ 0 → ⊥ = eqb-false h 0 e in
        let le : h ≤ 127 = ltb-false 127 h f in
        let n : ℕ = b % 128 + h * 128 in
        let same : bytes_of n ≡ b ∷ h ∷ [] = bytes_long n (omega (arith, ne)) ∙ ap₂ (λ (x y : ℕ). x ∷ y ∷ []) (omega arith) (omega arith) in
        rw (in_two b h rest l, two_is b h ne le)
        (subst (λ (bs : List ℕ). Begins (bs ++ rest) (Is n (length bs))) same (number rest (omega arith)))

begins_second : (b : ℕ) (rest : List ℕ) → 128 ≤ b → b < 256 → Begins (b ∷ rest) (number_in (b ∷ rest))
begins_second b [] l m = rw (in_cut (inside l)) (cut (inside l))
begins_second b (h ∷ rest) l m = begins_two b h rest l m

pub begins : (s : List ℕ) → Bytes s → Begins s (number_in s)
begins [] bs = rw (in_cut before) (cut before)
begins (b ∷ rest) bs = by (ltb b 128) refl
  where
    by : (t : Bool) → ltb b 128 ≡ t → Begins (b ∷ rest) (number_in (b ∷ rest))
    by true e =
        let h : b < 128 = ltb-true b 128 e in
        rw (in_short b rest h) (subst (λ (bs : List ℕ). Begins (bs ++ rest) (Is b (length bs))) (bytes_short b h) (number rest (omega arith)))
    by false e = begins_second b rest (ltb-false b 128 e) (bs.below 0)

-- a number that was read is below the limit, and its bytes stand there
pub number_bounds : (s : List ℕ) (n size : ℕ) → number_in s ≡ Is n size → (n < limit) × (1 ≤ size) × (size ≤ 2) × (size ≤ length s)
unfolding number_in second_in
number_bounds [] n size e = absurd (let z : ◌≡◌ {A = ℕ} 0 1 = cc in omega arith)
number_bounds (b ∷ rest) n size e = by (ltb b 128) refl
  where
    Goal : Type 0
    Goal = (n < limit) × (1 ≤ size) × (size ≤ 2) × (size ≤ suc (length rest))

    two : (h m : ℕ) (t : Bool) → eqb h 0 ≡ t → (u : Bool) → ltb 127 h ≡ u → two_bytes b h ≡ Is n size → 1 ≤ m → (n < limit) × (1 ≤ size) × (size ≤ 2) × (size ≤ suc m)
    two h m true e u f g k = absurd (let a : Refused 2 ≡ Is n size = sym (two_zero b h (eqb-true h 0 e)) ∙ g in let z : ◌≡◌ {A = ℕ} 0 1 = cc in omega arith)
    two h m false e true f g k =
        absurd (let a : Refused 2 ≡ Is n size = sym (two_more b h (eqb-false h 0 e) (ltb-true 127 h f)) ∙ g in let z : ◌≡◌ {A = ℕ} 0 1 = cc in omega arith)
    two h m false e false f g k =
        let a : Is (b % 128 + h * 128) 2 ≡ Is n size = sym (two_is b h (eqb-false h 0 e) (ltb-false 127 h f)) ∙ g in
        let value : b % 128 + h * 128 ≡ n = cc in
        let bytes : 2 ≡ size = cc in
        let small : h ≤ 127 = ltb-false 127 h f in
        omega arith

    long : (rest' : List ℕ) → second_in b rest' ≡ Is n size → (n < limit) × (1 ≤ size) × (size ≤ 2) × (size ≤ suc (length rest'))
    long [] g = absurd (let z : ◌≡◌ {A = ℕ} 0 1 = cc in omega arith)
    long (h ∷ rest') g = two h (suc (length rest')) (eqb h 0) refl (ltb 127 h) refl g (omega arith)

    by : (t : Bool) → ltb b 128 ≡ t → Goal
    by true f =
        let a : Is b 1 ≡ Is n size = sym (in_short b rest (ltb-true b 128 f)) ∙ e in
        let value : b ≡ n = cc in
        let bytes : 1 ≡ size = cc in
        let small : b < 128 = ltb-true b 128 f in
        omega arith
    by false f = long rest (sym (in_second b rest (ltb-false b 128 f)) ∙ e)

-- the place after a number that was read is within the bytes
pub number_ends : (s : List ℕ) (at n size : ℕ) (r : Begun) → r ≡ number_in (drop at s) → r ≡ Is n size → (n < limit) × (at + size ≤ length s)
number_ends s at n size r e f =
    let b : (n < limit) × (1 ≤ size) × (size ≤ 2) × (size ≤ length (drop at s)) = number_bounds (drop at s) n size (sym e ∙ f) in
    omega (arith, length-drop at s)

pub place_fits : (s : List ℕ) (at n size : ℕ) (r : Begun) → r ≡ number_in (drop at s) → r ≡ Is n size → length s < 2 ^ 64 → at + size < 2 ^ 64
place_fits s at n size r e f h = omega (arith, number_ends s at n size r e f)

-- the same in the words of the code, which reads at a place of a slice
-- the same of a result
pub number_fits : (s : List ℕ) (at : ℕ) (r : Result Number Condition) → begun r ≡ number_in (drop at s) → length s < 2 ^ 64 → IfOk r (λ n. at + n.width < 2 ^ 64)
number_fits s at (Ok n) e h = place_fits s at n.value n.width _ e refl h
number_fits s at (Err c) e h = tt

pub at_end_lem : (s : List ℕ) (at : ℕ) → length s ≤ at → Refused 1 ≡ number_in (drop at s)
at_end_lem s at h = sym (rw (drop_of_length-le s h) (in_cut before))

pub at_short : (s : List ℕ) (at b : ℕ) → at < length s → b ≡ get_or s at 0 → b < 128 → Is b 1 ≡ number_in (drop at s)
at_short s at b h e l = rw (drop-cons s at 0 h, ← e) (sym (in_short _ _ l))

pub at_inside : (s : List ℕ) (at b : ℕ) → at < length s → b ≡ get_or s at 0 → 128 ≤ b → length s ≤ at + 1
    → Refused 1 ≡ number_in (drop at s)
at_inside s at b h e l m = rw (drop-cons s at 0 h, ← e, drop_of_length-le s {i = suc at} (omega arith)) (sym (in_cut (inside l)))

pub at_two : (s : List ℕ) (at b d : ℕ) (r : Begun) → at + 1 < length s → b ≡ get_or s at 0 → 128 ≤ b → d ≡ get_or s (at + 1) 0
    → r ≡ two_bytes b d → r ≡ number_in (drop at s)
at_two s at b d r m e l f g =
    let h : at < length s = omega arith in
    let n : suc at < length s = omega arith in
    let f₁ : d ≡ get_or s (suc at) 0 = rw (← add-one at) f in
    rw (drop-cons s at 0 h, drop-cons s (suc at) 0 n, ← e, ← f₁, in_two b d (drop (suc (suc at)) s) l) g

pub ruleset two_laws = (two_zero, two_more, two_is)

pub ruleset at_laws = (at_end_lem, at_short, at_inside, at_two)
