-- From what reading a file answered to the text that is printed for it.
use Prim.Native.Nat.{ℕ, ◌≤◌, ◌<◌}
use mathlib.Core.Path.{◌≡◌, refl, sym, ap, subst, ◌∙◌}
use mathlib.Core.List.{List}
use native.Mathlib.Omega.{arith}
use lib.ListN.{length}
use Rattle.files.specs.Reading.{Answer, Reading, ReadRules}
use Rattle.files.specs.declared.rules.Rules.{Rules}
use Rattle.files.specs.Rules.{ValidTable}
use Rattle.files.proofs.TableStructs.{table_valid}
use Rattle.listing.specs.Text.{Stored}
use Rattle.listing.specs.Lay.{refused_text, LaysRefusal}
use Rattle.listing.proofs.Lengths.{refused_length}
use Rattle.listing.proofs.Blocks.{stored_length}
use Rattle.printing.specs.Printing.{TEXT, rules_text, answer_text, printed_text, SaysOf, Says, refuses, accepts, RulesToPrint, PrintsRules, Prints}

-- there is less room than a text may take
pub prints_short : (file out : List ℕ) → length out < TEXT → Prints file out 0 out
prints_short file out h = record { short = λ _. (refl, refl); printed = λ room. absurd (omega arith); within = omega arith; says = λ room. absurd (omega arith) }

module _ (file : List ℕ) (r : Reading) (h : ReadRules file r) where
  text_is : printed_text file ≡ answer_text r.answer r.rules
  unfolding printed_text
  text_is = ap (λ (q : Reading). answer_text q.answer q.rules) (sym h.answer)

  module _ (k at : ℕ) (e : r.answer ≡ Answer.Refused k at) where
    refused_text_lem : printed_text file ≡ refused_text k at
    unfolding answer_text
    refused_text_lem = text_is ∙ ap (λ (a : Answer). answer_text a r.rules) e

    refused_says : Says file (printed_text file)
    refused_says = refuses k at (h.refused k at e) refused_text_lem

    -- the file was refused, and its line laid out
    pub prints_refused : (out after : List ℕ) (n : ℕ) → TEXT ≤ length out → LaysRefusal k at out after n → Prints file out n after
    prints_refused out after n room l =
        record {
          short = λ s. absurd (omega arith);
          printed = λ _. subst (λ (text : List ℕ). Stored text out 0 after n) (sym refused_text_lem) (l.fits (omega arith));
          within =
              let s = l.fits (omega arith) in
              omega (arith, s.next, refused_length k at, stored_length (refused_text k at) out 0 after n s);
          says = λ _. refused_says;
        }

  module _ (e : r.answer ≡ Answer.Accepted) where
    accepted_text : printed_text file ≡ rules_text r.rules
    unfolding answer_text
    accepted_text = text_is ∙ ap (λ (a : Answer). answer_text a r.rules) e

    -- the table of an accepted file is valid
    pub accepted_valid : ValidTable r.rules
    accepted_valid = let a = h.accepted e in subst ValidTable (sym a.table) (table_valid a.rules a.valid)

    pub accepted_room : (out : List ℕ) → TEXT ≤ length out → RulesToPrint r.rules out
    accepted_room out room = record { valid = accepted_valid; room = room }

    accepted_says : SaysOf r.rules (rules_text r.rules) → Says file (printed_text file)
    accepted_says s =
        let a = h.accepted e in
        accepts a.rules a.valid a.file (subst (λ (t : Rules). SaysOf t (printed_text file)) a.table (subst (SaysOf r.rules) (sym accepted_text) s))

    -- the file was accepted, and the text of its rules laid out
    pub prints_accepted : (out after : List ℕ) (n : ℕ) → TEXT ≤ length out → PrintsRules r.rules out n after → Prints file out n after
    prints_accepted out after n room p =
        record {
          short = λ s. absurd (omega arith);
          printed = λ _. subst (λ (text : List ℕ). Stored text out 0 after n) (sym accepted_text) p.stored;
          within = omega (arith, p.stored.next, p.most, stored_length (rules_text r.rules) out 0 after n p.stored);
          says = λ _. accepted_says p.says;
        }
