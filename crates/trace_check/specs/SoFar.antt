-- What a judge of a trace knows of the initial values and the entries that it was given.
use Rattle.std.specs.Prelude.{◌≡◌, ℕ, ◌<◌, List, [], ◌∷◌, ◌++◌, length, IfSome, Option, Some, None}
use Rattle.address_map.specs.Words.{IsAscendingBy}
use Rattle.address_map.specs.declared.address.WordAddr.{WordAddr}
use Rattle.slice_log.specs.Log.{initially}
use Rattle.slice_log.specs.declared.entry.Entry.{Entry}
use Rattle.trace_check.specs.Judge.{Knows}
use Rattle.trace_check.specs.Verdict.{IsVerdict}
use Rattle.trace_check.specs.declared.judge.Judge.{Judge}
use Rattle.trace_check.specs.declared.trace_judge.TraceJudge.{TraceJudge}
use Rattle.trace_check.specs.declared.verdict.Reason.{Reason}
use Rattle.trace_check.specs.declared.verdict.Verdict.TheVariants as verdicts

-- the word that was named last
abbrev pub IsLastNamed : Option WordAddr → List (WordAddr × ℕ) → Type 0
IsLastNamed None init = init ≡ []
IsLastNamed (Some last) init = (before : List (WordAddr × ℕ)) × ((value : ℕ) × (init ≡ before ++ (last, value) ∷ []))

-- the result of the entries so far: a log that the judge knows, or a first invalid entry
unfoldable pub IsSoFar : Judge → (ℕ → ℕ) → List Entry → Option (ℕ × Reason) → Type 0
IsSoFar judge initial entries None = Knows judge initial entries
IsSoFar judge initial entries (Some fault) = IsVerdict initial entries (verdicts.Illegal fault.0 fault.1)

-- it was given these initial values and these entries, and no other
pub record Stands (judge : TraceJudge) (init : List (WordAddr × ℕ)) (entries : List Entry) : Type 0 where
  pub ascending : IsAscendingBy (λ pair. pair.0.0) init
  pub last : IsLastNamed judge.last init
  pub count : judge.entries ≡ length entries
  pub so_far : IsSoFar judge.judge (initially init) entries judge.fault

-- a word that may be given a value next
pub record MayBegin (judge : TraceJudge) (word : WordAddr) : Type 0 where
  pub early : judge.entries ≡ 0
  pub above : IfSome judge.last (λ last. last.0 < word.0)
