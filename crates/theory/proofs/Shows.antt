-- Evidence that a question allows shows its answer, and the evidence that is written is allowed.
use Prim.Native.Nat.{ℕ, ◌<◌}
use mathlib.Core.Path.{◌≡◌, sym, subst}
use mathlib.Core.Logic.{◌⊎◌, inl, inr}
use mathlib.Core.List.{List}
use lib.Dec.{T}
use lib.Ieee.Fits.{and_i}
use Rattle.files.specs.Table.{Rule}
use Rattle.files.specs.Sets.{Has}
use Rattle.documents.specs.Paths.{Below, Context, context_of, Descending}
use Rattle.documents.proofs.Paths.{context_is, context_unique}
use Rattle.theory.specs.Walk.{Walk, Reach, Dead, PairBy, Pair}
use Rattle.theory.specs.Walk
use Rattle.theory.specs.Written.{Written}
use Rattle.theory.specs.Reachable.{Fits}
use Rattle.theory.specs.Decide.{RootPair}
use Rattle.theory.specs.Evidence.{
  Ends,
  straight,
  crossed,
  PairNumbers,
  ShowsDead,
  ShowsPair,
  ShowsImplication,
  ShowsAbsence,
  Shows,
  ShowsInconsistent,
  WritesDead,
  WritesImplication,
  WritesAbsence,
  Writes,
  WritesInconsistent,
  yesb,
  impliesb,
  consistentb,
  evidence_numbers,
}
use Rattle.theory.proofs.Walks.{walk_start}
use Rattle.documents.proofs.RuleBreaks.{numbered_unique}
use Rattle.theory.proofs.Writes.{implies_iff, excludes_iff, consistent_iff, evidence_written}

module _ {parent : ℕ → ℕ} {rules : List Rule} where
  -- ---- what evidence shows

  pub shows_dead : {p : ℕ} {numbers : List ℕ} → ShowsDead parent rules p numbers → Dead parent rules p
  shows_dead s = record {
    y = s.y;
    r = s.r;
    by = record {
      ru = s.by.ru;
      rule = s.by.rule;
      absence = s.by.absence;
      context = s.by.context;
      is_context = s.by.is_context;
      prefix = walk_start s.by.left;
      here = record { codes = s.by.to_y; walk = s.by.here };
      left = record { codes = s.by.to_left; walk = s.by.left };
      right = record { codes = s.by.to_right; walk = s.by.right };
    };
  }

  pub shows_pair : {c x y : ℕ} {numbers : List ℕ} → ShowsPair parent rules c x y numbers → Pair parent rules c x y
  shows_pair {c} {x} {y} s = pick s.by.ends s.by.first s.by.second
    where
      by : {v w : ℕ} {to_left to_right : List ℕ} → Walk parent rules s.by.context v to_left s.by.ru.left
          → Walk parent rules s.by.context w to_right s.by.ru.right → PairBy parent rules c v w s.r
      by {to_left = to_left} {to_right = to_right} a b = record {
        ru = s.by.ru;
        rule = s.by.rule;
        absence = s.by.absence;
        context = s.by.context;
        is_context = s.by.is_context;
        prefix = s.prefix;
        left = record { codes = to_left; walk = a };
        right = record { codes = to_right; walk = b };
      }

      pick : {side u v : ℕ} → Ends s.by.ru side u v → Walk parent rules s.by.context x s.by.from_first u
          → Walk parent rules s.by.context y s.by.from_second v → Pair parent rules c x y
      pick straight a b = Walk.straight s.r (by a b)
      pick crossed a b = Walk.crossed s.r (by b a)

  pub shows_implication : {p q : ℕ} {numbers : List ℕ} → Descending parent → ShowsImplication parent rules p q numbers
      → Reach parent rules (context_of parent p q) p q ⊎ Dead parent rules p
  shows_implication {p} {q} desc (ShowsImplication.direct d) =
      inl (subst (λ (c : ℕ). Reach parent rules c p q) (sym (context_is desc d.is_context)) (record { codes = d.codes; walk = d.walk }))
  shows_implication desc (ShowsImplication.dead d) = inr (shows_dead d)

  pub shows_absence : {p q : ℕ} {numbers : List ℕ} → Descending parent → ShowsAbsence parent rules p q numbers
      → Dead parent rules p ⊎ (Dead parent rules q ⊎ Pair parent rules (context_of parent p q) p q)
  shows_absence desc (ShowsAbsence.dead_first d) = inl (shows_dead d)
  shows_absence desc (ShowsAbsence.dead_second d) = inr (inl (shows_dead d))
  shows_absence {p} {q} desc (ShowsAbsence.pair c is s) =
      inr (inr (subst (λ (z : ℕ). Pair parent rules z p q) (sym (context_is desc is)) (shows_pair s)))

  -- ---- what is written is allowed

  dead_shows : {p : ℕ} {numbers : List ℕ} → WritesDead parent rules p numbers → ShowsDead parent rules p numbers
  dead_shows w = record {
    y = w.y;
    r = w.r;
    by = record {
      ru = w.by.ru;
      rule = w.by.rule;
      absence = w.by.absence;
      context = w.by.context;
      is_context = w.by.is_context;
      to_y = w.by.to_y;
      to_left = w.by.to_left;
      to_right = w.by.to_right;
      here = w.by.here.walk;
      left = w.by.left.walk;
      right = w.by.right.walk;
      are = w.by.are;
    };
  }

  pair_shows : {c x y r side : ℕ} {numbers : List ℕ} (w : PairNumbers parent rules (Written parent rules) x y r side numbers)
      → Below parent w.context c → ShowsPair parent rules c x y numbers
  pair_shows {r = r} {side = side} w h = record {
    r = r;
    side = side;
    prefix = h;
    by = record {
      ru = w.ru;
      rule = w.rule;
      absence = w.absence;
      context = w.context;
      is_context = w.is_context;
      first_end = w.first_end;
      second_end = w.second_end;
      ends = w.ends;
      from_first = w.from_first;
      from_second = w.from_second;
      first = w.first.walk;
      second = w.second.walk;
      are = w.are;
    };
  }

  implication_shows : {p q : ℕ} {numbers : List ℕ} → WritesImplication parent rules p q numbers
      → ShowsImplication parent rules p q numbers
  implication_shows (WritesImplication.direct d) = ShowsImplication.direct (record {
    context = d.context;
    is_context = d.is_context;
    codes = d.codes;
    walk = d.walk.walk;
    are = d.are;
  })
  implication_shows (WritesImplication.dead c is n w) = ShowsImplication.dead (dead_shows w)

  absence_shows : {p q : ℕ} {numbers : List ℕ} → WritesAbsence parent rules p q numbers → ShowsAbsence parent rules p q numbers
  absence_shows (WritesAbsence.dead_first w) = ShowsAbsence.dead_first (dead_shows w)
  absence_shows (WritesAbsence.dead_second n w) = ShowsAbsence.dead_second (dead_shows w)
  absence_shows (WritesAbsence.pair n m c r side is l w) =
      ShowsAbsence.pair c is (pair_shows w (is.longest w.context (walk_start w.first.walk) (walk_start w.second.walk)))

  -- the evidence written for a question is evidence that the question allows
  pub writes_shows : {kind p q : ℕ} {numbers : List ℕ} → Writes parent rules kind p q numbers → Shows parent rules kind p q numbers
  writes_shows (Writes.implication e w) = Shows.implication e (implication_shows w)
  writes_shows (Writes.absence e w) = Shows.absence e (absence_shows w)
  writes_shows (Writes.co_occurrence e w) = Shows.co_occurrence e (record {
    there = w.there;
    back = w.back;
    shows_there = implication_shows w.writes_there;
    shows_back = implication_shows w.writes_back;
    are = w.are;
  })

  -- the contexts of two pairs by one rule are one
  same_context : {x y r side c u v : ℕ} {numbers : List ℕ} → Descending parent
      → (w : PairNumbers parent rules (Written parent rules) x y r side numbers) (d : PairBy parent rules c u v r) → d.context ≡ w.context
  same_context desc w d =
      context_unique desc
      (subst (λ (u : Rule). Context parent u.left u.right d.context) (numbered_unique d.rule w.rule) d.is_context)
      w.is_context

  -- so is the evidence written for an inconsistent set
  pub inconsistent_shows : {asked : ℕ} {numbers : List ℕ} → Descending parent → WritesInconsistent parent rules asked numbers
      → ShowsInconsistent parent rules asked numbers
  inconsistent_shows desc (WritesInconsistent.pair x y r l w) =
      ShowsInconsistent.pair x y l.by.first l.by.second
      (pair_shows w (subst (λ (c : ℕ). Below parent c 0) (same_context desc w l.by.by) l.by.by.prefix))
  inconsistent_shows desc (WritesInconsistent.dead n x l w) = ShowsInconsistent.dead x l.member (dead_shows w)

module _ {parent : ℕ → ℕ} {rules : List Rule} {count : ℕ} (fits : Fits parent rules count) where
  -- a question for which there is evidence is answered yes
  pub shows_yes : (kind p q : ℕ) {numbers : List ℕ} → p < count → q < count → Shows parent rules kind p q numbers
      → T (yesb parent rules count kind p q)
  unfolding yesb
  shows_yes kind p q h k (Shows.implication e s) = rw e ((implies_iff fits p q h k).1 (shows_implication fits.descending s))
  shows_yes kind p q h k (Shows.absence e s) = rw e ((excludes_iff fits p q h k).1 (shows_absence fits.descending s))
  shows_yes kind p q h k (Shows.co_occurrence e s) =
      rw e (and_i (impliesb parent rules count p q) (impliesb parent rules count q p)
      ((implies_iff fits p q h k).1 (shows_implication fits.descending s.shows_there))
      ((implies_iff fits q p k h).1 (shows_implication fits.descending s.shows_back)))

  -- a question answered yes has evidence: the computed one
  pub yes_shows : (kind p q : ℕ) → p < count → q < count → (kind ≡ 1) ⊎ ((kind ≡ 2) ⊎ (kind ≡ 3))
      → T (yesb parent rules count kind p q) → Shows parent rules kind p q (evidence_numbers parent rules count kind p q)
  yes_shows kind p q h k s t = writes_shows (evidence_written fits kind p q h k s t)

  -- a set for which there is evidence of inconsistency is not consistent
  pub shows_inconsistent : (asked : ℕ) {numbers : List ℕ} → 0 < count → ((x : ℕ) → Has asked x → x < count)
      → ShowsInconsistent parent rules asked numbers → T (consistentb parent rules count asked) → ⊥
  shows_inconsistent asked {numbers} z in_table s t = pick s
    where
      free : ((x y r : ℕ) → RootPair parent rules asked x y r → ⊥) × ((x : ℕ) → Has asked x → Dead parent rules x → ⊥)
      free = (consistent_iff fits asked z in_table).0 t

      root_pair : (x y : ℕ) → Has asked x → Has asked y → Pair parent rules 0 x y → ⊥
      root_pair x y h k (Walk.straight r d) = free.0 x y r (record { first = h; second = k; by = d })
      root_pair x y h k (Walk.crossed r d) = free.0 y x r (record { first = k; second = h; by = d })

      pick : ShowsInconsistent parent rules asked numbers → ⊥
      pick (ShowsInconsistent.pair x y h k p) = root_pair x y h k (shows_pair p)
      pick (ShowsInconsistent.dead x h d) = free.1 x h (shows_dead d)
