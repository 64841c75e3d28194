-- The verdict on the entries of a trace: the first of them that is invalid, and the first reason.
use Rattle.std.specs.Prelude.{◌≡◌, ℕ, ◌<◌, ◌≤◌, List, length, take, slice_get, Some, All}
use Rattle.slice_log.specs.Op.{reply_of}
use Rattle.slice_log.specs.Log.{value, IsLegal, IsOrdered, IsAfter}
use Rattle.slice_log.specs.declared.entry.Entry.{Entry}
use Rattle.trace_check.specs.declared.verdict.Reason.{Reason}
use Rattle.trace_check.specs.declared.verdict.Reason.TheVariants as reasons
use Rattle.trace_check.specs.declared.verdict.Verdict.{Verdict}
use Rattle.trace_check.specs.declared.verdict.Verdict.TheVariants as verdicts

-- the reply is the one that the word's value before the entry gives
abbrev pub IsItsReply : (ℕ → ℕ) → List Entry → Entry → Type 0
IsItsReply initial log e = e.reply ≡ reply_of e.op (value (initial e.word.0) log e.word.0)

-- the entry was requested after all earlier ones of its core on its line
abbrev pub IsInOrder : List Entry → Entry → Type 0
IsInOrder log e = All (λ d. IsAfter d e) log

-- the entry may follow this log
pub record IsRight (initial : ℕ → ℕ) (log : List Entry) (e : Entry) : Type 0 where
  pub reply : IsItsReply initial log e
  pub order : IsInOrder log e
  pub since : e.since ≤ length log

-- the entry may not follow this log, for this reason and none that is tried before it
unfoldable pub IsWrong : (ℕ → ℕ) → List Entry → Entry → Reason → Type 0
IsWrong initial log e reasons.Reply = ¬ IsItsReply initial log e
IsWrong initial log e reasons.Order = IsItsReply initial log e × (¬ IsInOrder log e)
IsWrong initial log e reasons.Since = IsItsReply initial log e × IsInOrder log e × (length log < e.since)

-- the entries are a legal and ordered log, or this one is the first that is none with those before it
unfoldable pub IsVerdict : (ℕ → ℕ) → List Entry → Verdict → Type 0
IsVerdict initial entries (verdicts.Legal n) = (n ≡ length entries) × IsLegal initial entries × IsOrdered entries
IsVerdict initial entries (verdicts.Illegal k reason) =
    IsLegal initial (take k entries) × IsOrdered (take k entries)
    × ((e : Entry) × (slice_get entries k ≡ Some e) × IsWrong initial (take k entries) e reason)
