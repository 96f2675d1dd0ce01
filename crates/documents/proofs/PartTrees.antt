-- A valid part list stands for exactly one document of the table, in which every part has a copy.
use Prim.Native.Nat.{ℕ, zero, suc, ◌-◌, ◌<◌}
use mathlib.Core.Path.{◌≡◌}
use mathlib.Core.List.Memᴰ
use mathlib.Core.List.{List, [], ◌∷◌, Memᴰ}
use native.Mathlib.Decide.{ℕ_discrete}
use native.Mathlib.Omega.{arith}
use lib.ListN.{length}
use Rattle.files.proofs.TableTests.{ascending_from}
use Rattle.documents.specs.Tree.{Forest, Document}
use Rattle.documents.specs.Parts.{Named, given, further, Falls, Fits}
use Rattle.documents.specs.PartList.{Entry, entry_path, entry_kids, ValidParts, StandsFor}
use Rattle.documents.proofs.Parts.{unfolds_unique, unfolds_document, list_unfolds}

module _ {parent : ℕ → ℕ} {count : ℕ} {es : List Entry} (valid : ValidParts parent count es) where
  -- a child's number is above its parent's
  pub later : (n k : ℕ) → n < length es → Memᴰ k (entry_kids es n) → n < k
  later n k h m = ascending_from (valid.kids n h) k m

  -- what is named from part 0 on is a part of the list
  pub named_listed : {n : ℕ} → Named (entry_kids es) (0 ∷ []) n → n < length es
  named_listed {n} (given m) = omega (arith, Memᴰ.eq_of_singleton m, valid.some)
  named_listed {n} (further k a m) = valid.below k n (named_listed a) m

  named_within : (fuel n : ℕ) → n < fuel → n < length es → Named (entry_kids es) (0 ∷ []) n
  named_within zero n h l = absurd (omega arith)
  named_within (suc fuel) n h l = by (ℕ_discrete n 0) (named_within fuel)
    where
      by : Dec (n ≡ 0) → ((k : ℕ) → k < fuel → k < length es → Named (entry_kids es) (0 ∷ []) k) → Named (entry_kids es) (0 ∷ []) n
      by (yes e) again = given (Memᴰ.head e)
      by (no e) again =
          let a = valid.named n (omega (arith, e)) l in
          further a.by.part (again a.by.part (omega (arith, a.earlier)) a.by.listed) a.by.names

  -- every part is named from part 0 on
  pub all_named : (n : ℕ) → n < length es → Named (entry_kids es) (0 ∷ []) n
  all_named n h = named_within (suc n) n (omega arith) h

  -- no naming goes round
  pub parts_fall : Falls (entry_kids es) (λ n. length es - n) (0 ∷ [])
  parts_fall = record {
    each = λ n k a m. let h = named_listed a in omega (arith, later n k h m, valid.below n k h m);
  }

  -- every naming fits the table
  pub parts_fit : Fits parent count (entry_path es) (entry_kids es) (0 ∷ [])
  parts_fit = record {
    each = λ n k a m.
        let h = named_listed a in
        record { inner = valid.inner n k h m; small = valid.inside k (valid.below n k h m); parent_is = valid.parent_is n k h m };
  }

  -- the list stands for a document of the table, and for no other tree
  pub stands : (d : Forest) × StandsFor es d
  stands = let u = list_unfolds parts_fall in (u.0, record { unfolds = u.1 })

  pub stands_document : {d : Forest} → StandsFor es d → Document parent count d
  stands_document s = unfolds_document parts_fit valid.root s.unfolds

pub stands_unique : {es : List Entry} {d f : Forest} → StandsFor es d → StandsFor es f → d ≡ f
stands_unique s t = unfolds_unique s.unfolds t.unfolds
