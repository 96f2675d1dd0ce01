-- The three numbers of a call determine its answer: no two answers are told alike.
use Prim.Native.Nat.{ℕ}
use mathlib.Core.Path.{◌≡◌, refl}
use Rattle.files.specs.Writing.{Written}
use Rattle.documents.specs.Answers.{Checked}
use Rattle.reasoning.specs.Verdict.{Verdict}
use Rattle.reasoning.specs.Reply.{Reply}
use Rattle.entry.specs.Numbers.{refusal_numbers, written_numbers, checked_numbers, verdict_numbers, reply_numbers}

pub refusal_told : (k at k' at' : ℕ) → refusal_numbers k at ≡ refusal_numbers k' at' → (k ≡ k') × (at ≡ at')
refusal_told k at k' at' e = (let z : k ≡ k' = cc in z, let z : at ≡ at' = cc in z)

pub written_told : (a b : Written) → written_numbers a ≡ written_numbers b → a ≡ b
written_told (Written.Length n) (Written.Length n') e = cc
written_told (Written.Length n) (Written.Refused k' at') e = cc
written_told (Written.Refused k at) (Written.Length n') e = cc
written_told (Written.Refused k at) (Written.Refused k' at') e = cc

pub checked_told : (a b : Checked) → checked_numbers a ≡ checked_numbers b → a ≡ b
checked_told Checked.Obeys Checked.Obeys e = refl
checked_told Checked.Obeys (Checked.Broken rule' part') e = cc
checked_told Checked.Obeys (Checked.Missing path') e = cc
checked_told Checked.Obeys (Checked.Refused k' at') e = cc
checked_told (Checked.Broken rule part) Checked.Obeys e = cc
checked_told (Checked.Broken rule part) (Checked.Broken rule' part') e = cc
checked_told (Checked.Broken rule part) (Checked.Missing path') e = cc
checked_told (Checked.Broken rule part) (Checked.Refused k' at') e = cc
checked_told (Checked.Missing path) Checked.Obeys e = cc
checked_told (Checked.Missing path) (Checked.Broken rule' part') e = cc
checked_told (Checked.Missing path) (Checked.Missing path') e = cc
checked_told (Checked.Missing path) (Checked.Refused k' at') e = cc
checked_told (Checked.Refused k at) Checked.Obeys e = cc
checked_told (Checked.Refused k at) (Checked.Broken rule' part') e = cc
checked_told (Checked.Refused k at) (Checked.Missing path') e = cc
checked_told (Checked.Refused k at) (Checked.Refused k' at') e = cc

pub verdict_told_lem : (a b : Verdict) → verdict_numbers a ≡ verdict_numbers b → a ≡ b
verdict_told_lem (Verdict.Consistent n) (Verdict.Consistent n') e = cc
verdict_told_lem (Verdict.Consistent n) (Verdict.Inconsistent n') e = cc
verdict_told_lem (Verdict.Consistent n) (Verdict.Refused k' at') e = cc
verdict_told_lem (Verdict.Inconsistent n) (Verdict.Consistent n') e = cc
verdict_told_lem (Verdict.Inconsistent n) (Verdict.Inconsistent n') e = cc
verdict_told_lem (Verdict.Inconsistent n) (Verdict.Refused k' at') e = cc
verdict_told_lem (Verdict.Refused k at) (Verdict.Consistent n') e = cc
verdict_told_lem (Verdict.Refused k at) (Verdict.Inconsistent n') e = cc
verdict_told_lem (Verdict.Refused k at) (Verdict.Refused k' at') e = cc

pub reply_told_lem : (a b : Reply) → reply_numbers a ≡ reply_numbers b → a ≡ b
reply_told_lem (Reply.Yes n) (Reply.Yes n') e = cc
reply_told_lem (Reply.Yes n) (Reply.No n') e = cc
reply_told_lem (Reply.Yes n) (Reply.Refused k' at') e = cc
reply_told_lem (Reply.No n) (Reply.Yes n') e = cc
reply_told_lem (Reply.No n) (Reply.No n') e = cc
reply_told_lem (Reply.No n) (Reply.Refused k' at') e = cc
reply_told_lem (Reply.Refused k at) (Reply.Yes n') e = cc
reply_told_lem (Reply.Refused k at) (Reply.No n') e = cc
reply_told_lem (Reply.Refused k at) (Reply.Refused k' at') e = cc
