-- The children of a part are those that its word names: choosing by words follows choosing by lists.
use Prim.Native.Nat.{ℕ, zero, suc, ◌^◌, ◌≤◌, ◌<◌}
use mathlib.Core.Path.{◌≡◌, refl, sym, ap, subst, ◌∙◌}
use mathlib.Core.Logic.{◌⊎◌, inl, inr, ◌↔◌}
use mathlib.Core.Bool.{Bool, true, false, false≢true}
use mathlib.Core.List.Memᴰ
use mathlib.Core.List.{
  List,
  [],
  ◌∷◌,
  ◌++◌,
  Memᴰ,
}
use native.Mathlib.Omega.{arith}
use lib.Dec.{T, eqb, lit<}
use borrow.Author.Tests.{eqb-true}
use Rattle.files.specs.Table.{Rule}
use Rattle.files.specs.Sets.{bit, Has, with_path, without_path, difference}
use Rattle.files.proofs.SetBits.{
  not_has,
  bit_absent,
  has_with,
  has_without,
  has_difference,
  with_lt,
  without_lt,
  difference_lt,
  difference_le,
}
use Rattle.files.proofs.SetMembers.{size_le}
use Rattle.documents.specs.Paths.{Descending, towards}
use Rattle.documents.proofs.Paths.{towards_below}
use Rattle.theory.specs.Parts.{
  Part,
  ReachAny,
  RulesIn,
  someb,
  meet_all,
  child_for,
  child_for_all,
  own_kids,
  coversb,
  lacksb,
  fill,
  kids_of,
}
use Rattle.theory.specs.Handed.{ReachWords, word_reach, highest, reach_all, cover_each, fill_word, kid_word}
use Rattle.theory.proofs.Walks.{reach_refl, reach_end}
use Rattle.theory.proofs.Fill.{someb_some, some_someb}
use Rattle.theory.proofs.Kids.{Goals, any_small}
use Rattle.theory.proofs.HandedWords.{
  has_none,
  has_positive,
  top_absent,
  members_under,
  highest_is,
  gather_small,
  gather_iff,
  Given,
}
use Rattle.theory.proofs.HandedKids.{
  GoalWord,
  KidBy,
  all,
  alone,
  Mode,
  on_way,
  meeting,
  single,
  own_word,
  own_kids_lem,
  covers_word,
  covers_one,
  lacks_iff,
  snoc_iff,
}

module _ (parent : ℕ → ℕ) (count : ℕ) (R : ℕ → ℕ → ℕ) where
  -- what the goals' own children cover
  abbrev own_covers : (c w top : ℕ) (handed : Bool) → ℕ
  own_covers c w top true = reach_all parent count R (towards parent c top) w
  own_covers c w top false = cover_each parent count R c (without_path w c)

  module _ {c w : ℕ} {goals : List ℕ} (word : GoalWord goals w) where
    each_covers : ((k : Part) → Memᴰ k (own_kids parent c goals) ↔ KidBy parent c goals false (without_path w c) k) → (x : ℕ)
        → T (someb (λ k. coversb (word_reach R) k x) (own_kids parent c goals)) ↔ Has (cover_each parent count R c (without_path w c)) x
    unfolding cover_each
    each_covers own x =
        let r = gather_iff (λ g. R (towards parent c g) g) 64 (without_path w c) 0 x (without_lt w c word.small)
        (size_le (without_path w c)) in (
          λ s.
              let m = someb_some (λ k. coversb (word_reach R) k x) (own_kids parent c goals) s in
              r.1 (inr (out ((own m.member).0 m.listed) m.passes)),
          λ h. into (r.0 h),
        )
      where
        out : {k : Part} → KidBy parent c goals false (without_path w c) k → T (coversb (word_reach R) k x)
            → Given (λ g. R (towards parent c g) g) (without_path w c) x
        out (all e p) q = absurd (false≢true e)
        out (alone h m p) q =
            record { source = h; member = m; has = (covers_one parent R c h x).0 (subst (λ (z : Part). T (coversb (word_reach R) z x)) p q) }

        into : Has 0 x ⊎ Given (λ g. R (towards parent c g) g) (without_path w c) x
            → T (someb (λ k. coversb (word_reach R) k x) (own_kids parent c goals))
        into (inl h) = absurd (has_none h)
        into (inr g) =
            some_someb (λ k. coversb (word_reach R) k x) (child_for parent c g.source) ((own _).1 (alone g.source g.member refl))
            ((covers_one parent R c g.source x).1 g.has)

    own_covers_lem : {top : ℕ} {handed : Bool} → Mode parent c goals top handed → (x : ℕ)
        → T (someb (λ k. coversb (word_reach R) k x) (own_kids parent c goals)) ↔ Has (own_covers c w top handed) x
    own_covers_lem {top} (on_way n t) x = (
      λ s.
          let m = someb_some (λ k. coversb (word_reach R) k x) (own_kids parent c goals) s in
          out ((own_kids_lem word {top = top} (on_way n t) m.member).0 m.listed) m.passes,
      λ h.
          some_someb (λ k. coversb (word_reach R) k x) (child_for_all parent c goals)
          ((own_kids_lem word {top = top} (on_way n t) _).1 (all refl refl))
          ((covers_word parent R word count (towards parent c (meet_all parent goals)) x).1
          (subst (λ (z : ℕ). Has (reach_all parent count R (towards parent c z) w) x) t h)),
    )
      where
        out : {k : Part} → KidBy parent c goals true 0 k → T (coversb (word_reach R) k x)
            → Has (reach_all parent count R (towards parent c top) w) x
        out (all e p) q =
            subst (λ (z : ℕ). Has (reach_all parent count R (towards parent c z) w) x) (sym t)
            ((covers_word parent R word count (towards parent c (meet_all parent goals)) x).0
            (subst (λ (z : Part). T (coversb (word_reach R) z x)) p q))
        out (alone h m p) q = absurd (has_none m)
    own_covers_lem {top} (meeting t) x = each_covers (own_kids_lem word {top = top} (meeting t)) x
    own_covers_lem {top} (single g s) x = each_covers (own_kids_lem word {top = top} (single g s)) x

  fill_small : (c fuel left chosen : ℕ) → chosen < 2 ^ 64 → fill_word parent count R c fuel left chosen < 2 ^ 64
  unfolding fill_word
  fill_small c zero left chosen l = l
  fill_small c (suc fuel) left chosen l =
      pick (eqb left 0) refl
      (fill_small c fuel (difference left (R (towards parent c (highest left)) (highest left))) (with_path chosen (highest left))
      (with_lt chosen (highest left) l))
    where
      pick : (b : Bool) → eqb left 0 ≡ b
          → fill_word parent count R c fuel (difference left (R (towards parent c (highest left)) (highest left)))
          (with_path chosen (highest left)) < 2 ^ 64
          → fill_word parent count R c (suc fuel) left chosen < 2 ^ 64
      pick true e again = rw (e, fill_word) l
      pick false e again = rw (e, fill_word) again

  -- the word of a part's children is a word
  pub kid_word_small : (c w top : ℕ) (handed : Bool) → w < 2 ^ 64 → kid_word parent count R c w top handed < 2 ^ 64
  unfolding kid_word
  kid_word_small c w top true l =
      fill_small c 64 (difference (without_path (reach_all parent count R c w) c) (reach_all parent count R (towards parent c top) w)) 0
      (lit< tt)
  kid_word_small c w top false l =
      fill_small c 64 (difference (without_path (reach_all parent count R c w) c) (cover_each parent count R c (without_path w c)))
      (without_path w c) (without_lt w c l)

  -- nothing is left uncovered
  pub fill_end : (c fuel chosen : ℕ) → fill_word parent count R c fuel 0 chosen ≡ chosen
  unfolding fill_word
  fill_end c zero chosen = refl
  fill_end c (suc fuel) chosen = refl

  -- the highest path that is left gets a child
  pub fill_more : (c fuel left chosen : ℕ) → 0 < left
      → fill_word parent count R c (suc fuel) left chosen
      ≡ fill_word parent count R c fuel (difference left (R (towards parent c (highest left)) (highest left))) (with_path chosen (highest left))
  unfolding fill_word
  fill_more c fuel left chosen p = pick (eqb left 0) refl
    where
      pick : (b : Bool) → eqb left 0 ≡ b
          → fill_word parent count R c (suc fuel) left chosen
          ≡ fill_word parent count R c fuel (difference left (R (towards parent c (highest left)) (highest left)))
          (with_path chosen (highest left))
      pick true e = absurd (omega (arith, eqb-true left 0 e))
      pick false e = rw (fill_word, e)

  -- what is left once x has a child that covers it
  pub uncovered : (c left x : ℕ) → left < 2 ^ suc x → Has (R (towards parent c x) x) x → difference left (R (towards parent c x) x) < 2 ^ x
  uncovered c left x l m =
      let d = difference left (R (towards parent c x) x) in
      top_absent d x (omega (arith, difference_le left (R (towards parent c x) x)))
      (bit_absent d x (λ q. not_has ((has_difference left (R (towards parent c x) x) x).0 q).1 m))

  module _ (few : count ≤ 64) {handed : Bool} (part : Part)
      (itself : (x : ℕ) → x < count → (part.path ≡ x → ⊥) → T (coversb (word_reach R) part x)
      → Has (R (towards parent part.path x) x) x) where
    -- choosing by words follows choosing by lists
    fill_words : (n fuel left own : ℕ) (chosen : List Part) → n ≤ fuel → n ≤ count → left < 2 ^ n
        → ((x : ℕ) → x < n → T (lacksb (word_reach R) part chosen x) ↔ Has left x)
        → ((k : Part) → Memᴰ k chosen ↔ KidBy parent part.path part.goals handed own k)
        → (k : Part) → Memᴰ k (fill parent (word_reach R) part n chosen)
        ↔ KidBy parent part.path part.goals handed (fill_word parent count R part.path fuel left own) k
    unfolding fill
    fill_words zero fuel left own chosen f s l inv is k =
        let e : left ≡ 0 = omega arith in
        rw (e, fill_end part.path fuel own) (is k)
    fill_words (suc x) zero left own chosen f s l inv is k = absurd (omega arith)
    fill_words (suc x) (suc fuel) left own chosen f s l inv is k =
        pick (lacksb (word_reach R) part chosen x) refl
        (λ h i j. fill_words x fuel (difference left (R (towards parent part.path x) x)) (with_path own x)
        (chosen ++ (child_for parent part.path x ∷ []))
        (omega arith) (omega arith) h i j k)
        (λ h i. fill_words x (suc fuel) left own chosen (omega arith) (omega arith) h i is k)
      where
        cov : Part → ℕ → Bool
        cov j y = coversb (word_reach R) j y

        after : (y : ℕ) → y < x
            → T (lacksb (word_reach R) part (chosen ++ (child_for parent part.path x ∷ [])) y)
            ↔ Has (difference left (R (towards parent part.path x) x)) y
        after y h = (into, out)
          where
            r : ℕ
            r = R (towards parent part.path x) x

            into : T (lacksb (word_reach R) part (chosen ++ (child_for parent part.path x ∷ [])) y) → Has (difference left r) y
            into t =
                let p = (lacks_iff (word_reach R) part (chosen ++ (child_for parent part.path x ∷ [])) y).0 t in
                let q = snoc_iff (λ j. cov j y) chosen (child_for parent part.path x) in
                (has_difference left r y).1 (
                  (inv y (omega arith)).0 ((lacks_iff (word_reach R) part chosen y).1 (p.0, p.1, λ u. p.2 (q.1 (inl u)))),
                  bit_absent r y (λ m. p.2 (q.1 (inr ((covers_one parent R part.path x y).1 m)))),
                )

            out : Has (difference left r) y → T (lacksb (word_reach R) part (chosen ++ (child_for parent part.path x ∷ [])) y)
            out m =
                let d = (has_difference left r y).0 m in
                let p = (lacks_iff (word_reach R) part chosen y).0 ((inv y (omega arith)).1 d.0) in
                (lacks_iff (word_reach R) part (chosen ++ (child_for parent part.path x ∷ [])) y).1
                (p.0, p.1, λ u. never p ((snoc_iff (λ j. cov j y) chosen (child_for parent part.path x)).0 u))
              where
                never : (part.path ≡ y → ⊥) × T (cov part y) × (T (someb (λ j. cov j y) chosen) → ⊥)
                    → T (someb (λ j. cov j y) chosen) ⊎ T (cov (child_for parent part.path x) y) → ⊥
                never p (inl u) = p.2 u
                never p (inr u) = not_has ((has_difference left r y).0 m).1 ((covers_one parent R part.path x y).0 u)

        more : (j : Part) → Memᴰ j (chosen ++ (child_for parent part.path x ∷ []))
            ↔ KidBy parent part.path part.goals handed (with_path own x) j
        more j = (λ m. into (Memᴰ.append_cases chosen m), out)
          where
            wider : KidBy parent part.path part.goals handed own j → KidBy parent part.path part.goals handed (with_path own x) j
            wider (all e p) = all e p
            wider (alone h m p) = alone h ((has_with own x h (omega arith)).1 (inr m)) p

            into : Memᴰ j chosen ⊎ Memᴰ j (child_for parent part.path x ∷ [])
                → KidBy parent part.path part.goals handed (with_path own x) j
            into (inl m) = wider ((is j).0 m)
            into (inr m) = alone x ((has_with own x x (omega arith)).1 (inl refl)) (Memᴰ.eq_of_singleton m)

            place : (h : ℕ) → j ≡ child_for parent part.path h → (h ≡ x) ⊎ Has own h
                → Memᴰ j (chosen ++ (child_for parent part.path x ∷ []))
            place h p (inl e) = Memᴰ.append_right chosen (Memᴰ.head (p ∙ ap (child_for parent part.path) e))
            place h p (inr m) = Memᴰ.append_left (child_for parent part.path x ∷ []) ((is j).1 (alone h m p))

            out : KidBy parent part.path part.goals handed (with_path own x) j
                → Memᴰ j (chosen ++ (child_for parent part.path x ∷ []))
            out (all e p) = Memᴰ.append_left (child_for parent part.path x ∷ []) ((is j).1 (all e p))
            out (alone h m p) = place h p ((has_with own x h (omega arith)).0 m)

        pick : (b : Bool) → lacksb (word_reach R) part chosen x ≡ b
            → (difference left (R (towards parent part.path x) x) < 2 ^ x
            → ((y : ℕ) → y < x
            → T (lacksb (word_reach R) part (chosen ++ (child_for parent part.path x ∷ [])) y)
            ↔ Has (difference left (R (towards parent part.path x) x)) y)
            → ((j : Part) → Memᴰ j (chosen ++ (child_for parent part.path x ∷ []))
            ↔ KidBy parent part.path part.goals handed (with_path own x) j)
            → Memᴰ k (fill parent (word_reach R) part x (chosen ++ (child_for parent part.path x ∷ [])))
            ↔ KidBy parent part.path part.goals handed
            (fill_word parent count R part.path fuel (difference left (R (towards parent part.path x) x)) (with_path own x)) k)
            → (left < 2 ^ x → ((y : ℕ) → y < x → T (lacksb (word_reach R) part chosen y) ↔ Has left y)
            → Memᴰ k (fill parent (word_reach R) part x chosen)
            ↔ KidBy parent part.path part.goals handed (fill_word parent count R part.path (suc fuel) left own) k)
            → Memᴰ k (fill parent (word_reach R) part (suc x) chosen)
            ↔ KidBy parent part.path part.goals handed (fill_word parent count R part.path (suc fuel) left own) k
        pick true e add skip =
            let t : T (lacksb (word_reach R) part chosen x) = rw e tt in
            let h : Has left x = (inv x (omega arith)).0 t in
            let p = (lacks_iff (word_reach R) part chosen x).0 t in
            let u = uncovered part.path left x l (itself x (omega arith) p.0 p.1) in
            rw (fill_more part.path fuel left own (has_positive left x h), highest_is left x (omega arith) l h)
            (rw (e, fill) (add u after more))
        pick false e add skip =
            let gone : bit left x ≡ 0 = bit_absent left x (λ q. rw e at ((inv x (omega arith)).1 q)) in
            rw (e, fill) (skip (top_absent left x l gone) (λ y h. inv y (omega arith)))

module _ {parent : ℕ → ℕ} {rules : List Rule} {count : ℕ} {R : ℕ → ℕ → ℕ} (desc : Descending parent) (within : RulesIn count rules)
    (few : count ≤ 64) (words : ReachWords parent rules count R) where
  module _ {c w : ℕ} {goals : List ℕ} (v : Goals parent count c goals) (word : GoalWord goals w) where
    reached_any : (x : ℕ) → Has (reach_all parent count R c w) x → ReachAny parent rules c goals x
    unfolding reach_all
    reached_any x h = out ((gather_iff (λ g. R c g) 64 w 0 x word.small (size_le w)).0 h)
      where
        out : Has 0 x ⊎ Given (λ g. R c g) w x → ReachAny parent rules c goals x
        out (inl k) = absurd (has_none k)
        out (inr g) =
            let m = (word.is g.source).0 g.member in
            record {
              goal = g.source;
              listed = m;
              reach = (words.exactly c g.source x (v.below g.source m) (v.small g.source m)).0 g.has;
            }

    reached_small : reach_all parent count R c w < 2 ^ 64
    unfolding reach_all
    reached_small =
        gather_small (λ g. R c g) 64 w 0 word.small (lit< tt)
        (λ g m. let l = (word.is g).0 m in words.small c g (v.below g l) (v.small g l))

    itself : (x : ℕ) → x < count → (c ≡ x → ⊥) → T (coversb (word_reach R) (record { path = c; goals = goals }) x)
        → Has (R (towards parent c x) x) x
    itself x l n t =
        let r = reached_any x ((covers_word parent R word count c x).0 t) in
        let b = towards_below desc (record { below = reach_end r.reach; other = n }) in
        (words.exactly (towards parent c x) x x b l).1 (reach_refl b)

    -- what the part reaches and its own children do not cover
    module _ {top : ℕ} {handed : Bool} (mode : Mode parent c goals top handed) where
      left_iff : (x : ℕ) → x < count
          → T (lacksb (word_reach R) (record { path = c; goals = goals }) (own_kids parent c goals) x)
          ↔ Has (difference (without_path (reach_all parent count R c w) c) (own_covers parent count R c w top handed)) x
      left_iff x l = (into, out)
        where
          part : Part
          part = record { path = c; goals = goals }

          cov : ℕ
          cov = own_covers parent count R c w top handed

          into : T (lacksb (word_reach R) part (own_kids parent c goals) x)
              → Has (difference (without_path (reach_all parent count R c w) c) cov) x
          into t =
              let p = (lacks_iff (word_reach R) part (own_kids parent c goals) x).0 t in
              (has_difference (without_path (reach_all parent count R c w) c) cov x).1 (
                (has_without (reach_all parent count R c w) c x).1 (λ e. p.0 (sym e), (covers_word parent R word count c x).0 p.1),
                bit_absent cov x (λ m. p.2 ((own_covers_lem parent count R word mode x).1 m)),
              )

          out : Has (difference (without_path (reach_all parent count R c w) c) cov) x
              → T (lacksb (word_reach R) part (own_kids parent c goals) x)
          out h =
              let d = (has_difference (without_path (reach_all parent count R c w) c) cov x).0 h in
              let s = (has_without (reach_all parent count R c w) c x).0 d.0 in
              (lacks_iff (word_reach R) part (own_kids parent c goals) x).1 (
                λ e. s.0 (sym e),
                (covers_word parent R word count c x).1 s.1,
                λ u. not_has d.1 ((own_covers_lem parent count R word mode x).0 u),
              )

      left_small : difference (without_path (reach_all parent count R c w) c) (own_covers parent count R c w top handed) < 2 ^ count
      left_small =
          members_under 64 count _
          (difference_lt _ (own_covers parent count R c w top handed) (without_lt (reach_all parent count R c w) c reached_small)) few
          (λ i h.
          any_small desc within v
          (reached_any i ((has_without (reach_all parent count R c w) c i).0
          ((has_difference (without_path (reach_all parent count R c w) c) (own_covers parent count R c w top handed) i).0 h).0).1))

      kids_filled : (k : Part) → Memᴰ k (kids_of parent count (word_reach R) (record { path = c; goals = goals }))
          ↔ KidBy parent c goals handed
          (fill_word parent count R c 64
          (difference (without_path (reach_all parent count R c w) c) (own_covers parent count R c w top handed)) (own_word c w handed)) k
      unfolding kids_of
      kids_filled =
          fill_words parent count R few (record { path = c; goals = goals }) itself count 64 _ (own_word c w handed) (own_kids parent c goals)
          few (omega arith) left_small left_iff (own_kids_lem word mode)

    -- the children of a part are those that its word names
    pub kid_word_lem : {top : ℕ} {handed : Bool} → Mode parent c goals top handed → (k : Part)
        → Memᴰ k (kids_of parent count (word_reach R) (record { path = c; goals = goals }))
        ↔ KidBy parent c goals handed (kid_word parent count R c w top handed) k
    unfolding kid_word
    kid_word_lem {top} (on_way n t) k = kids_filled {top = top} (on_way n t) k
    kid_word_lem {top} (meeting t) k = kids_filled {top = top} (meeting t) k
    kid_word_lem {top} (single g s) k = kids_filled {top = top} (single g s) k
