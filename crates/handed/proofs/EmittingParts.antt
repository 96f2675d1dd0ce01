-- Laws of the parts emitted: a part's numbers, the parts on a path, those on all paths in their order, and the document's bytes.
use Prim.Native.Nat.{ℕ, ◌*◌, ◌≤◌, ◌<◌}
use mathlib.Core.Path.{◌≡◌, refl, ap, ◌∙◌, subst}
use mathlib.Core.Bool.{Bool, true, false}
use mathlib.Core.List.{List, [], ◌∷◌}
use native.Mathlib.Omega.{arith}
use lib.ListN.{length, get_or}
use Rattle.files.specs.Number.{bytes_of_all}
use Rattle.files.specs.Sets.{hasb, members}
use Rattle.files.specs.Writing.{Written, Length, Refused, wrapped, put, Puts}
use native.Mathlib.Nat.{mul-le-mul_left}
use Rattle.files.proofs.MembersGone.{next_small}
use Rattle.files.proofs.Stores.{puts_none, puts_all}
use Rattle.reachable.specs.Sheet.{slot_of}
use Rattle.theory.specs.Handed.{each_of}
use Rattle.handed.specs.Goals.{one_in}
use Rattle.handed.specs.Plan.{whole_in, all_for, order_in, placing, place_each, plan_paths, opened, planned, Placing}
use Rattle.handed.specs.Emit.{size_of, Emitted, kid_paths, kid_count, kids_on_path, part_in, one_part_in, whole_part_in, parts_numbers}
use Rattle.handed.specs.Writer.{document_in}
use Rattle.handed.specs.Emitter.{Emits}
use Rattle.handed.specs.declared.emitter.Emitter.{Emitter}
use Rattle.handed.proofs.Emitting.{Left, left_start, emits_none, emits_both, room, members_room, each_room, each_on, each_end}
use Rattle.handed.proofs.Ordering.{order_few}

-- ---- the numbers of a part

pub part_emitted : (sheet plan : List ℕ) (c more w on many : ℕ) (e one two last : Emitter) → Emits (c ∷ []) 2 e one → Emits (many ∷ []) 2 one two
    → Emits (each_of (kids_on_path sheet plan more w) (members on)) 8320 two last → on ≡ kid_paths sheet c more w → many ≡ kid_count sheet c more w
    → Emits (part_in sheet plan c more w) 8324 e last
unfolding part_in
part_emitted sheet plan c more w on many e one two last l m n is count =
    let kids : List ℕ = each_of (kids_on_path sheet plan more w) (members on) in
    emits_both (part_in sheet plan c more w) (c ∷ []) (many ∷ kids) 8324 2 8322 e one last l
    (emits_both (many ∷ kids) (many ∷ []) kids 8322 2 8320 one two last m n refl (omega arith)) (rw (is, count)) (omega arith)

-- ---- the parts on a path

module _ (sheet plan : List ℕ) (c : ℕ) where
  pub ones_start : (d left : ℕ) (e : Emitter) → d ≡ slot_of sheet c → left ≡ get_or plan c 0
      → Left (each_of (one_part_in sheet plan d c) (members left)) (room 8324 (members left)) e
      (each_of (one_part_in sheet plan (slot_of sheet c) c) (members (get_or plan c 0))) 532736 e
  ones_start d left e slot goals =
      rw (slot, goals)
      (left_start (each_of (one_part_in sheet plan (slot_of sheet c) c) (members (get_or plan c 0))) (room 8324 (members (get_or plan c 0))) 532736 e
      (members_room 8324 (get_or plan c 0) 532736 (omega arith)))

  pub one_on : (d : ℕ) (xs : List ℕ) (e : Emitter) (all : List ℕ) (most : ℕ) (first : Emitter)
      → Left (each_of (one_part_in sheet plan d c) xs) (room 8324 xs) e all most first → (x w : ℕ) (rest : List ℕ) (next : Emitter) → xs ≡ x ∷ rest
      → w ≡ one_in sheet d c x → Emits (part_in sheet plan c 0 w) 8324 e next
      → Left (each_of (one_part_in sheet plan d c) rest) (room 8324 rest) next all most first
  unfolding one_part_in
  one_on d xs e all most first left x w rest next is kids m =
      each_on (one_part_in sheet plan d c) 8324 xs e all most first left x rest next is (rw (← kids) m)

  module _ (whole : ℕ) (t : Bool) (w : whole ≡ get_or plan 192 0) (is : t ≡ hasb whole c) (e : Emitter) where
    test : t ≡ hasb (whole_in plan) c
    test = is ∙ ap (λ (z : ℕ). hasb z c) w

    pub whole_there : (more kids : ℕ) (next : Emitter) → t ≡ true → more ≡ get_or plan 192 0 → kids ≡ all_for sheet plan c
        → Emits (part_in sheet plan c more kids) 8324 e next → Emits (whole_part_in sheet plan c) 8324 e next
    unfolding whole_part_in
    whole_there more kids next h all goals m = rw (whole_part_in, ← test, h, ← goals, ← all) m

    pub whole_absent : t ≡ false → Emits (whole_part_in sheet plan c) 8324 e e
    unfolding whole_part_in
    whole_absent h = emits_none (whole_part_in sheet plan c) 8324 e (rw (whole_part_in, ← test, h))

  -- the same of numbers emitted into a buffer
  module _ (whole : ℕ) (t : Bool) (w : whole ≡ get_or plan 192 0) (is : t ≡ hasb whole c) (out : List ℕ) (at : ℕ) where
    pub all_in_lem : (more kids : ℕ) (after : List ℕ) (next : ℕ) → t ≡ true → more ≡ get_or plan 192 0 → kids ≡ all_for sheet plan c
        → Emitted (part_in sheet plan c more kids) out at after next → Emitted (whole_part_in sheet plan c) out at after next
    unfolding whole_part_in
    all_in_lem more kids after next h e f m =
        let there : t ≡ hasb (whole_in plan) c = is ∙ ap (λ (z : ℕ). hasb z c) w in
        rw (whole_part_in, ← there, h, ← f, ← e) m

  pub parts_both : (e mid last : Emitter) → Emits (whole_part_in sheet plan c) 8324 e mid
      → Emits (each_of (one_part_in sheet plan (slot_of sheet c) c) (members (get_or plan c 0))) 532736 mid last
      → Emits (parts_numbers sheet plan c) 541060 e last
  unfolding parts_numbers
  parts_both e mid last m n =
      emits_both (parts_numbers sheet plan c) (whole_part_in sheet plan c)
      (each_of (one_part_in sheet plan (slot_of sheet c) c) (members (get_or plan c 0))) 541060 8324 532736 e mid last m n refl (omega arith)

pub ruleset ones_laws = (ones_start, one_on, each_room, each_end, next_small)

pub ruleset whole_laws = (whole_there, whole_absent)

-- ---- the document

pub order_room : (n : ℕ) (sheet xs : List ℕ) (most : ℕ) → xs ≡ order_in sheet → n * 512 ≤ most → room n xs ≤ most
unfolding room
order_room n sheet xs most is h =
    omega (arith, mul-le-mul_left n (order_few sheet), ap (λ (l : List ℕ). n * length l) is)

pub all_start : (f : ℕ → List ℕ) (n : ℕ) (sheet xs : List ℕ) (most : ℕ) (e : Emitter) → xs ≡ order_in sheet → n * 512 ≤ most
    → Left (each_of f xs) (room n xs) e (each_of f (order_in sheet)) most e
all_start f n sheet xs most e is h =
    subst (λ (l : List ℕ). Left (each_of f xs) (room n xs) e (each_of f l) most e) is
    (left_start (each_of f xs) (room n xs) most e (order_room n sheet xs most is h))

pub document_emitted : (sheet plan : List ℕ) (parts : ℕ) (out : List ℕ) (e one last : Emitter) (after : List ℕ) (size : ℕ) → Emits (parts ∷ []) 2 e one
    → Emits (each_of (parts_numbers sheet plan) (order_in sheet)) 277022720 one last → e.out.now ≡ out → e.at ≡ 0 → after ≡ last.out.now → size ≡ last.at
    → Emitted (parts ∷ each_of (parts_numbers sheet plan) (order_in sheet)) out 0 after size
document_emitted sheet plan parts out e one last after size m n here none there sized =
    let numbers : List ℕ = each_of (parts_numbers sheet plan) (order_in sheet) in
    rw (← here, ← none, there, sized)
    (emits_both (parts ∷ numbers) (parts ∷ []) numbers 277022722 2 277022720 e one last m n refl (omega arith)).emitted

-- its bytes are counted first, and stored where they fit
module _ (ns none mid : List ℕ) (size : ℕ) (m : Emitted ns none 0 mid size) where
  counted : size ≡ length (bytes_of_all (wrapped ns))
  unfolding size_of
  counted = omega (arith, m.place)

  pub put_none : (out : List ℕ) → length out < size → Puts (put (bytes_of_all (wrapped ns)) out) (Refused 20 0) out
  put_none out h = puts_none ns out size counted h

  pub put_all : (out last : List ℕ) (n : ℕ) → size ≤ length out → Emitted ns out 0 last n → Puts (put (bytes_of_all (wrapped ns)) out) (Length size) last
  put_all out last n h k = puts_all ns out size counted last h k.buffer

pub ruleset put_laws = (put_none, put_all)

pub document_put : (sheet : List ℕ) (goals top parts : ℕ) (plan next out after : List ℕ) (answer : Written)
    → plan ≡ plan_paths sheet (Rattle.reachable.specs.Sheet.paths_in sheet) 0 (opened sheet goals top)
    → placing parts next ≡ place_each (order_in sheet) (placing 0 plan)
    → Puts (put (bytes_of_all (wrapped (parts ∷ each_of (parts_numbers sheet next) (order_in sheet)))) out) answer after
    → Puts (put (bytes_of_all (wrapped (document_in sheet goals top))) out) answer after
unfolding document_in planned
document_put sheet goals top parts plan next out after answer e f p =
    let is : placing parts next ≡ planned sheet goals top = f ∙ ap (λ (z : List ℕ). place_each (order_in sheet) (placing 0 z)) e in
    subst (λ (z : Placing). Puts (put (bytes_of_all (wrapped (z.parts ∷ each_of (parts_numbers sheet z.plan) (order_in sheet)))) out) answer after) is p
