-- Text written into a block, piece after piece.
use Prim.Native.Nat.{ℕ, zero, suc, ◌+◌, ◌*◌, ◌-◌, ◌/◌, ◌%◌, ◌^◌, ◌<◌, ◌≤◌}
use mathlib.Core.Path.{◌≡◌, refl, sym, ap, ap₂, ◌∙◌}
use mathlib.Core.Bool.{Bool, true, false}
use mathlib.Core.List.{List, [], ◌∷◌, ◌++◌, append-nil, append_assoc}
use native.Mathlib.Omega.{arith}
use native.Mathlib.Nat.{div-lt_iff_lt-mul, pow-suc}
use lib.ListN.{length, take, drop, length-append}
use lib.Seq.{sets, sets-eq, length-sets}
use lib.Dec.{eqb, ltb}
use borrow.Author.Tests.{eq-eqb, ne_eqb, ltb-true, ltb-false}
use borrow.Rule.Slice.PartMut.{put_mid, Post-is}
use Rattle.std.specs.Fmt.{decimal}
use Rattle.std.proofs.lemmas.Fmt.{decimal_digit, decimal_step}
use Rattle.listing.specs.declared.block.Block.{Block}
use Rattle.listing.specs.Block.{Writes}
use Rattle.listing.specs.Text.{digits_before, digits, spaced, feed, Stored}
use Rattle.files.proofs.Stores.{sets_append}

-- bytes copied into a part of a buffer are stored there
pub copied : (out mid text : List ℕ) (at : ℕ) → at + length text ≤ length out → mid ≡ text → put_mid at (at + length text - at) out mid ≡ sets out at text
copied out mid text at h e =
    ap₂ (λ (t r : List ℕ). take at out ++ (t ++ r)) e (Post-is at (at + length text) out (omega arith))
    ∙ sym (append_assoc (take at out) text (drop (at + length text) out)) ∙ sym (sets-eq text out at h)

-- ---- a number's digits: the library's text of a number is ours

pub before_zero : (most n : ℕ) (text : List ℕ) → n ≡ 0 → digits_before most n text ≡ text
unfolding digits_before
before_zero zero n text e = refl
before_zero (suc most) n text e = rw (eq-eqb n 0 e, digits_before)

before_more : (most n : ℕ) (text : List ℕ) → (n ≡ 0 → ⊥) → digits_before (suc most) n text ≡ digits_before most (n / 10) ((48 + n % 10) ∷ text)
unfolding digits_before
before_more most n text h = rw (ne_eqb n 0 h, digits_before)

-- what stands behind the digits stays behind them
before_append : (most n : ℕ) (a b : List ℕ) → digits_before most n (a ++ b) ≡ digits_before most n a ++ b
unfolding digits_before
before_append zero n a b = refl
before_append (suc most) n a b = by (eqb n 0) refl (before_append most (n / 10) ((48 + n % 10) ∷ a) b)
  where
    by : (t : Bool) → eqb n 0 ≡ t → digits_before most (n / 10) ((48 + n % 10) ∷ (a ++ b)) ≡ digits_before most (n / 10) ((48 + n % 10) ∷ a) ++ b
        → digits_before (suc most) n (a ++ b) ≡ digits_before (suc most) n a ++ b
    by true e ih = rw (e, digits_before) refl
    by false e ih = rw (e, digits_before) ih

-- the library's text of a number, digit by digit
one_digit : (most n : ℕ) → n < 10 → decimal n ≡ digits_before most (n / 10) ((48 + n % 10) ∷ [])
one_digit most n l =
    let same : n % 10 ≡ n = omega arith in
    decimal_digit n l ∙ ap (λ (k : ℕ). (48 + k) ∷ []) (sym same) ∙ sym (before_zero most (n / 10) ((48 + n % 10) ∷ []) (omega arith))

as_before : (most n : ℕ) → n < 10 ^ (suc most) → n < 2 ^ 64 → decimal n ≡ digits_before most (n / 10) ((48 + n % 10) ∷ [])
as_before zero n h f = one_digit zero n (omega arith)
as_before (suc m) n h f = by (ltb n 10) refl (λ small g. as_before m (n / 10) small g)
  where
    by : (t : Bool) → ltb n 10 ≡ t
        → (n / 10 < 10 ^ (suc m) → n / 10 < 2 ^ 64 → decimal (n / 10) ≡ digits_before m (n / 10 / 10) ((48 + n / 10 % 10) ∷ []))
        → decimal n ≡ digits_before (suc m) (n / 10) ((48 + n % 10) ∷ [])
    by true e ih = one_digit (suc m) n (ltb-true n 10 e)
    by false e ih =
        let l : 10 ≤ n = ltb-false n 10 e in
        let g : n < 10 ^ (suc m) * 10 = rw (← pow-suc 10 (suc m)) h in
        let small : n / 10 < 10 ^ (suc m) = (div-lt_iff_lt-mul (let z : 0 < 10 = omega arith in z)).1 g in
        decimal_step n l f
        ∙ ap (λ (t : List ℕ). t ++ ((48 + n % 10) ∷ [])) (ih small (omega arith))
        ∙ sym (before_append m (n / 10 / 10) ((48 + n / 10 % 10) ∷ []) ((48 + n % 10) ∷ []))
        ∙ sym (before_more m (n / 10) ((48 + n % 10) ∷ []) (λ z. omega (arith, z)))

pub decimal_is : (n : ℕ) → n < 2 ^ 64 → decimal n ≡ digits n
unfolding digits
decimal_is n h = as_before 19 n (omega arith) h

few_before : (most n : ℕ) (text : List ℕ) → length (digits_before most n text) ≤ most + length text
unfolding digits_before
few_before zero n text = omega arith
few_before (suc most) n text = by (eqb n 0) refl (few_before most (n / 10) ((48 + n % 10) ∷ text))
  where
    by : (t : Bool) → eqb n 0 ≡ t → length (digits_before most (n / 10) ((48 + n % 10) ∷ text)) ≤ most + suc (length text)
        → length (digits_before (suc most) n text) ≤ suc most + length text
    by true e ih = rw (e, digits_before) (omega arith)
    by false e ih = rw (e, digits_before) (omega arith)

pub digits_few : (n : ℕ) → length (digits n) ≤ 20
unfolding digits
digits_few n = few_before 19 (n / 10) ((48 + n % 10) ∷ [])

pub spaced_is : (n : ℕ) → spaced (n ∷ []) ≡ 32 ∷ digits n
unfolding spaced
spaced_is n = ap (λ (l : List ℕ). 32 ∷ l) (append-nil (digits n))

pub spaced_few : (x : ℕ) → length (spaced (x ∷ [])) ≤ 21
spaced_few x = omega (arith, digits_few x, ap length (spaced_is x))

pub feed_few : (wanted : Bool) → length (feed wanted) ≤ 1
unfolding feed
feed_few true = omega arith
feed_few false = omega arith

-- ---- a store of some bytes, then of more

-- a store keeps the block's length
pub stored_length : (text out : List ℕ) (at : ℕ) (after : List ℕ) (r : ℕ) → Stored text out at after r → length after ≡ length out
stored_length text out at after r e = ap length e.bytes ∙ length-sets out at text

-- one text and then another are stored one after the other
pub stored_both : (a b out mid after : List ℕ) (at next r : ℕ) → Stored a out at mid next → Stored b mid next after r → Stored (a ++ b) out at after r
stored_both a b out mid after at next r e f =
    record {
      next = f.next ∙ omega (arith, e.next, length-append a b);
      bytes =
          f.bytes ∙ ap₂ (λ (l : List ℕ) (k : ℕ). sets l k b) e.bytes e.next ∙ sym (sets_append a b out at);
    }

-- ---- piece after piece

pub nothing_written : (block : Block) → Writes [] block block
nothing_written block = record { stored = record { next = omega arith; bytes = refl }; same = refl }

module _ (a b : List ℕ) (old mid new : Block) (first : Writes a old mid) where
  -- how much room the next piece has
  pub left_after : length mid.out.now ≡ length old.out.now
  left_after = stored_length a old.out.now old.filled mid.out.now mid.filled first.stored

  pub filled_after : mid.filled ≡ old.filled + length a
  filled_after = first.stored.next

  pub writes_both : Writes b mid new → Writes (a ++ b) old new
  writes_both next =
      record {
        stored = stored_both a b old.out.now mid.out.now new.out.now old.filled mid.filled new.filled first.stored next.stored;
        same = next.same ∙ first.same;
      }

pub writes_same : (a b : List ℕ) (old new : Block) → a ≡ b → Writes a old new → Writes b old new
writes_same a b old new e h = rw e at h

pub feeds : (wanted : Bool) (old new : Block) → wanted ≡ true → Writes (10 ∷ []) old new → Writes (feed wanted) old new
unfolding feed
feeds wanted old new e h = rw e h

pub feeds_not : (wanted : Bool) (block : Block) → wanted ≡ false → Writes (feed wanted) block block
unfolding feed
feeds_not wanted block e = rw e (nothing_written block)
