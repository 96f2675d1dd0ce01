-- The loop that lays out numbers: what is laid out, and what remains from here, is the whole.
use Prim.Native.Nat.{ℕ, zero, suc, ◌+◌, ◌-◌, ◌^◌, ◌<◌, ◌≤◌}
use mathlib.Core.Path.{◌≡◌, refl, sym, ap, ap₂, subst, ◌∙◌}
use mathlib.Core.Bool.{Bool, true, false}
use mathlib.Core.List.{List, [], ◌∷◌, ◌++◌, append_assoc, append-nil}
use native.Mathlib.Omega.{arith}
use lib.ListN.{length, drop, length-append, length-drop}
use lib.Seq.{sets}
use lib.Dec.{eqb, leb}
use borrow.Author.Tests.{le-leb, lt-leb}
use Rattle.files.specs.Number.{Begun, Is, Refused, limit, number_in}
use Rattle.files.proofs.Numbers.{number_bounds}
use Rattle.listing.specs.declared.lay.Stage.{Stage}
use Rattle.listing.specs.declared.lay.Stage.TheVariants.{Count, Path, Children, Child, First, More}
use Rattle.listing.specs.declared.lay.Place.{Place}
use Rattle.listing.specs.declared.block.Block.{Block}
use Rattle.listing.specs.Block.{Writes}
use Rattle.listing.specs.Text.{digits, spaced, feed, Stored}
use Rattle.listing.specs.Lay.{
  refused_word,
  refused_text,
  piece_text,
  next_part,
  place_after,
  lays_number,
  text_at,
  after_at,
  lays,
  LaysRefusal,
}
use Rattle.listing.proofs.Blocks.{stored_length, stored_both}
use Rattle.listing.proofs.Pieces.{piece_few}

-- the place after the part count and after a part's path
module _ (stage : Stage) (next part left x : ℕ) where
  pub after_count_lem : stage ≡ Count → ◌≡◌ {A = Place} (record { at = next; stage = Path; part = 0; left = 0 }) (place_after stage next part left x)
  unfolding place_after
  after_count_lem e = rw e

  pub after_path_lem : stage ≡ Path → ◌≡◌ {A = Place} (record { at = next; stage = Children; part = part; left = 0 }) (place_after stage next part left x)
  unfolding place_after
  after_path_lem e = rw e

-- the next number stands after the one that was read
pub after_at_lem : (stage : Stage) (next part left x : ℕ) → (place_after stage next part left x).at ≡ next
unfolding place_after next_part
after_at_lem Count next part left x = refl
after_at_lem Path next part left x = refl
after_at_lem Children next part left x = by (eqb x 0) refl
  where
    by : (t : Bool) → eqb x 0 ≡ t → (place_after Children next part left x).at ≡ next
    by true e = rw e
    by false e = rw e
after_at_lem Child next part left x = by (leb left 1) refl
  where
    by : (t : Bool) → leb left 1 ≡ t → (place_after Child next part left x).at ≡ next
    by true e = rw e
    by false e = rw e
after_at_lem First next part left x = refl
after_at_lem More next part left x = refl

-- what is laid out, and what remains from here, is the whole
pub record LaySoFar (s : List ℕ) (p₀ : Place) (out₀ out : List ℕ) (p : Place) (n : ℕ) : Type 0 where
  pub most : ℕ
  pub text : List ℕ
  pub used : n ≡ length text
  pub room : length out ≡ length out₀
  pub fits : n ≤ length out₀
  pub enough : length s ≤ p.at + most
  pub bytes : out ≡ sets out₀ 0 text
  pub rest : text ++ lays most s (length out₀ - n) p ≡ lays (length s) s (length out₀) p₀

pub lay_start : (s : List ℕ) (p : Place) (out : List ℕ) → LaySoFar s p out out p 0
lay_start s p out =
    record {
      most = length s;
      text = [];
      used = refl;
      room = refl;
      fits = omega arith;
      enough = omega arith;
      bytes = refl;
      rest = let z : length out - 0 ≡ length out = omega arith in ap (λ (k : ℕ). lays (length s) s k p) z;
    }

module _ (s : List ℕ) (p₀ : Place) (out₀ out : List ℕ) (p : Place) (n : ℕ) (inv : LaySoFar s p₀ out₀ out p n) where
  pub lay_room : n ≤ length out
  lay_room = omega (arith, inv.fits, inv.room)

  -- nothing more is laid out
  laid : lays inv.most s (length out₀ - n) p ≡ [] → Stored (lays (length s) s (length out₀) p₀) out₀ 0 out n
  laid e =
      let text : inv.text ≡ lays (length s) s (length out₀) p₀ =
      sym (append-nil inv.text) ∙ ap (λ (l : List ℕ). inv.text ++ l) (sym e) ∙ inv.rest in
      record { next = inv.used ∙ ap length text ∙ omega arith; bytes = inv.bytes ∙ ap (sets out₀ 0) text }

  no_more : (most : ℕ) → length out₀ - n < 48 → lays most s (length out₀ - n) p ≡ []
  unfolding lays
  no_more zero h = refl
  no_more (suc most) h = rw (lt-leb 48 (length out₀ - n) h)

  no_number : (most k : ℕ) → number_in (drop p.at s) ≡ Refused k → lays most s (length out₀ - n) p ≡ []
  unfolding lays lays_number
  no_number zero k e = refl
  no_number (suc most) k e = by (leb 48 (length out₀ - n)) refl
    where
      by : (t : Bool) → leb 48 (length out₀ - n) ≡ t → lays (suc most) s (length out₀ - n) p ≡ []
      by true f = rw (f, e)
      by false f = rw f

  pub lay_full : length out - n < 48 → Stored (lays (length s) s (length out₀) p₀) out₀ 0 out n
  lay_full h = laid (no_more inv.most (omega (arith, inv.room)))

  pub lay_end : {k : ℕ} (r : Begun) → r ≡ number_in (drop p.at s) → r ≡ Refused k → Stored (lays (length s) s (length out₀) p₀) out₀ 0 out n
  lay_end {k} r e f = laid (no_number inv.most k (sym e ∙ f))

  module _ (more : 48 ≤ length out - n) {x size : ℕ} (r : Begun) (e : r ≡ number_in (drop p.at s)) (f : r ≡ Is x size) where
    is : number_in (drop p.at s) ≡ Is x size
    is = sym e ∙ f

    bounds : (x < limit) × (1 ≤ size) × (size ≤ 2) × (size ≤ length (drop p.at s))
    bounds = number_bounds (drop p.at s) x size is

    inside : p.at + size ≤ length s
    inside = omega (arith, bounds, length-drop p.at s)

    pub lay_fits : length s < 2 ^ 64 → p.at + size < 2 ^ 64
    lay_fits h = omega (arith, inside)

    pub lay_wide : x < 2 ^ 64
    lay_wide = omega (arith, bounds)

    pub lay_block : n + 48 ≤ length out
    lay_block = omega (arith, inv.fits, inv.room)

    module _ (q : Place) (g : q ≡ place_after p.stage (p.at + size) p.part p.left x) where
      at_next : q.at ≡ p.at + size
      at_next = ap (λ (t : Place). t.at) g ∙ after_at_lem p.stage (p.at + size) p.part p.left x

      pub lay_less : length s - q.at < length s - p.at
      lay_less = omega (arith, at_next, inside, bounds)

      after_is : place_after p.stage (p.at + size) p.part p.left x ≡ after_at p x size
      unfolding after_at
      after_is = refl

      text_few : length (text_at s p x size) ≤ 48
      unfolding text_at
      text_few = piece_few p.stage p.part p.left (leb (length s) (p.at + size)) x

      stored_as : {after : List ℕ} {m : ℕ} (last : Bool) → last ≡ leb (length s) (p.at + size)
          → Stored (piece_text p.stage p.part p.left last x) out n after m → Stored (text_at s p x size) out n after m
      unfolding text_at
      stored_as {after} {m} last h st = subst (λ (b : Bool). Stored (piece_text p.stage p.part p.left b x) out n after m) h st

      -- one number, and what is laid out after it
      one_more : (most : ℕ) → lays (suc most) s (length out₀ - n) p
          ≡ text_at s p x size ++ lays most s (length out₀ - n - length (text_at s p x size)) (after_at p x size)
      unfolding lays lays_number
      one_more most = rw (le-leb 48 (length out₀ - n) (omega (arith, inv.room)), is)

      pub lay_more : (last : Bool) (after : List ℕ) (m : ℕ) → last ≡ leb (length s) (p.at + size)
          → Stored (piece_text p.stage p.part p.left last x) out n after m → LaySoFar s p₀ out₀ after q m
      lay_more last after m h st =
          let t : List ℕ = text_at s p x size in
          let stored : Stored t out n after m = stored_as last h st in
          let few : length t ≤ 48 = text_few in
          let some : inv.most ≡ suc (inv.most - 1) = omega (arith, inv.enough, inside, bounds) in
          record {
            most = inv.most - 1;
            text = inv.text ++ t;
            used = stored.next ∙ omega (arith, inv.used, length-append inv.text t);
            room = stored_length t out n after m stored ∙ inv.room;
            fits = omega (arith, stored.next, inv.room);
            enough = omega (arith, at_next, inv.enough, bounds);
            bytes = (stored_both inv.text t out₀ out after 0 n m (record { next = omega (arith, inv.used); bytes = inv.bytes }) stored).bytes;
            rest =
                let left : length out₀ - m ≡ length out₀ - n - length t = omega (arith, stored.next) in
                ap₂ (λ (k : ℕ) (z : Place). (inv.text ++ t) ++ lays (inv.most - 1) s k z) left (g ∙ after_is)
                ∙ append_assoc inv.text t (lays (inv.most - 1) s (length out₀ - n - length t) (after_at p x size))
                ∙ ap (λ (l : List ℕ). inv.text ++ l) (sym (one_more (inv.most - 1)))
                ∙ ap (λ (k : ℕ). inv.text ++ lays k s (length out₀ - n) p) (sym some)
                ∙ inv.rest;
          }

-- what is laid out in a block that is filled from its start
pub laid_block : (text out out₀ mid after : List ℕ) (n m : ℕ) → out₀ ≡ out → Stored text out₀ 0 mid n → after ≡ mid → m ≡ n → Stored text out 0 after m
laid_block text out out₀ mid after n m o st e f = record { next = f ∙ st.next; bytes = e ∙ st.bytes ∙ ap (λ (l : List ℕ). sets l 0 text) o }

-- ---- the line of a refusal

pub spaced_append : (a b : List ℕ) → spaced (a ++ b) ≡ spaced a ++ spaced b
unfolding spaced
spaced_append [] b = refl
spaced_append (x ∷ a) b =
    ap (λ (l : List ℕ). 32 ∷ l) (ap (λ (l : List ℕ). digits x ++ l) (spaced_append a b) ∙ sym (append_assoc (digits x) (spaced a) (spaced b)))

module _ (k at : ℕ) (out : List ℕ) where
  pub refusal_short : length out < 64 → LaysRefusal k at out out 0
  refusal_short h = record { fits = λ g. absurd (omega arith); short = λ g. (refl, refl) }

  pub refusal_laid : (after : List ℕ) (r : ℕ) → 64 ≤ length out → Stored (refused_word ++ (spaced (k ∷ []) ++ (spaced (at ∷ []) ++ feed true))) out 0 after r
      → LaysRefusal k at out after r
  unfolding refused_text
  refusal_laid after r h st =
      let same : spaced (k ∷ []) ++ (spaced (at ∷ []) ++ feed true) ≡ spaced (k ∷ at ∷ []) ++ feed true =
      sym (append_assoc (spaced (k ∷ [])) (spaced (at ∷ [])) (feed true)) ∙ ap (λ (l : List ℕ). l ++ feed true) (sym (spaced_append (k ∷ []) (at ∷ []))) in
      record {
        fits = λ g. subst (λ (l : List ℕ). Stored (refused_word ++ l) out 0 after r) same st;
        short = λ g. absurd (omega arith);
      }

  -- the same of a block that was filled from its start
  pub refusal_written : (start new : Block) (after : List ℕ) (r : ℕ) → 64 ≤ length out → start.out.now ≡ out → start.filled ≡ 0
      → Writes (refused_word ++ (spaced (k ∷ []) ++ (spaced (at ∷ []) ++ feed true))) start new → after ≡ new.out.now → r ≡ new.filled → LaysRefusal k at out after r
  refusal_written start new after r h o z w e f =
      refusal_laid after r h
      (record {
        next = f ∙ w.stored.next ∙ ap (λ (n : ℕ). n + length (refused_word ++ (spaced (k ∷ []) ++ (spaced (at ∷ []) ++ feed true)))) z;
        bytes = e ∙ w.stored.bytes ∙ ap₂ (λ (l : List ℕ) (n : ℕ). sets l n (refused_word ++ (spaced (k ∷ []) ++ (spaced (at ∷ []) ++ feed true)))) o z;
      })
