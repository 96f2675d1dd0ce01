-- The first bytes of a file decide what is printed for it.
use Prim.Native.Nat.{ℕ, ◌≤◌}
use mathlib.Core.Path.{◌≡◌, ap}
use mathlib.Core.List.{List}
use native.Mathlib.Omega.{arith}
use lib.ListN.{length, take}
use Rattle.files.specs.Reading.{Reading}
use Rattle.files.proofs.FirstBytes.{first_decide}
use Rattle.printing.specs.Printing.{answer_text, printed_text}

-- for a file longer than its first n bytes the text is that of these, for any n from 1,926 on
pub printed_first : (file : List ℕ) (n : ℕ) → 1926 ≤ n → n ≤ length file → printed_text file ≡ printed_text (take n file)
unfolding printed_text
printed_first file n low h = ap (λ (r : Reading). answer_text r.answer r.rules) (first_decide file n low h)

-- so the 4,096 bytes that the program reads are enough
pub printed_read : (file : List ℕ) → 4096 ≤ length file → printed_text file ≡ printed_text (take 4096 file)
printed_read file h = printed_first file 4096 (omega arith) h
