-- Bytes put into a lent buffer, in the words of an answer: they fill its start, or they are longer than it and it stays as it was.
use Prim.Native.Nat.{ℕ, ◌<◌}
use mathlib.Core.Path.{◌≡◌, refl, sym, ap, subst₂, ◌∙◌}
use mathlib.Core.Bool.{Bool, true, false}
use mathlib.Core.List.{List}
use lib.Dec.{leb}
use lib.ListN.{length, take, drop}
use lib.Seq.{take-append_seam}
use borrow.Author.Tests.{leb-true, leb-false}
use Rattle.files.specs.Writing.{Written, put, Puts}
use Rattle.reasoning.specs.Calls.{Answered, answer_of, answered, Fills}

-- what the answer and the buffer are once bytes were put
pub data Placed {A : Type 0} (done : ℕ → A) (refuse : ℕ → ℕ → A) (bytes out : List ℕ) (r : A) (after : List ℕ) : Type 0 where
  fills : r ≡ done (length bytes) → Fills bytes out after → Placed done refuse bytes out r after
  too_long : length out < length bytes → r ≡ refuse 20 0 → after ≡ out → Placed done refuse bytes out r after

module _ {A : Type 0} (done : ℕ → A) (refuse : ℕ → ℕ → A) (bytes out : List ℕ) where
  placed : Placed done refuse bytes out (answered done refuse (put bytes out)).answer (answered done refuse (put bytes out)).buffer
  unfolding answered answer_of put
  placed = pick (leb (length bytes) (length out)) refl
    where
      pick : (b : Bool) → leb (length bytes) (length out) ≡ b
          → Placed done refuse bytes out (answered done refuse (put bytes out)).answer (answered done refuse (put bytes out)).buffer
      pick true e = rw e (fills refl (record { fits = leb-true (length bytes) (length out) e; are = refl }))
      pick false e = rw e (too_long (leb-false (length bytes) (length out) e) refl refl)

  -- an answer and a buffer that are those of bytes put
  pub placed_at : {x : Answered A} {r : A} {after : List ℕ} → x ≡ answered done refuse (put bytes out) → r ≡ x.answer → after ≡ x.buffer
      → Placed done refuse bytes out r after
  placed_at e f g =
      subst₂ (Placed done refuse bytes out) (sym (f ∙ ap (λ (y : Answered A). y.answer) e))
      (sym (g ∙ ap (λ (y : Answered A). y.buffer) e)) placed

  -- an answer made of what putting the bytes answered
  pub puts_answer : {x : Answered A} {w : Written} {r : A} {after : List ℕ} → x ≡ answered done refuse (put bytes out)
      → Puts (put bytes out) w after → r ≡ answer_of done refuse w → (r ≡ x.answer) × (after ≡ x.buffer)
  unfolding answered
  puts_answer e p f = (
    f ∙ ap (answer_of done refuse) p.answer ∙ sym (ap (λ (y : Answered A). y.answer) e),
    p.buffer ∙ sym (ap (λ (y : Answered A). y.buffer) e),
  )

-- bytes that fill the start of a buffer are its first ones
pub fills_take : {bytes out after : List ℕ} → Fills bytes out after → take (length bytes) after ≡ bytes
fills_take {bytes} {out} f = ap (take (length bytes)) f.are ∙ take-append_seam bytes (drop (length bytes) out)

-- and fix the buffer
pub fills_same : {bytes out after other : List ℕ} → Fills bytes out after → Fills bytes out other → after ≡ other
fills_same f g = f.are ∙ sym g.are
