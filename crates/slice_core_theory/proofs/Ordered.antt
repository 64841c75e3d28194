-- A log stays ordered where a core's targets are performed, since each line's targets are in the order of their
-- numbers.
use Rattle.std.proofs.Common.{◌≡◌, ℕ, ◌+◌, ◌/◌, ◌*◌, ◌<◌, ◌≤◌, List, [], ◌∷◌, ◌++◌, length, ap, ◌∙◌, arith}
use Rattle.std.proofs.Common.{append_assoc, append-nil}
use Rattle.std.specs.Prelude.{All}
use Rattle.std.proofs.lemmas.List.{length_push}
use Rattle.std.proofs.lemmas.List.Elements.{All-head, All-push, All-tail, All-weaker}
use Rattle.address_map.proofs.Ascending.{IsAscendingBy-head, IsAscendingBy-tail}
use Rattle.address_map.specs.Locator.{Lines, line_at}
use Rattle.address_map.specs.Words.{IsAscendingBy}
use Rattle.address_map.specs.declared.address.CoreId.{CoreId}
use Rattle.address_map.specs.declared.address.Local.{Local}
use Rattle.address_map.specs.declared.block.Block.{Block}
use Rattle.mshr_file.specs.Miss.{targets_of, TakesTargets}
use Rattle.mshr_file.specs.declared.registers.Register.{Register}
use Rattle.slice_core_cache.specs.Copy.{performed_on}
use Rattle.slice_core_cache.specs.Perform.{entries_of, entry_of}
use Rattle.slice_core_cache.specs.Targets.{IsPerformable}
use Rattle.slice_core_cache.specs.declared.tags.TagState.{TagState}
use Rattle.slice_core_theory.proofs.StandingFacts.{all-asked, all-performable}
use Rattle.slice_core_theory.proofs.Lists.{ascending-left}
use Rattle.slice_core_theory.proofs.StandingSettled.{some-taken}
use Rattle.slice_core_theory.specs.Standing.{IsAccount, IsAhead}
use Rattle.slice_log.proofs.Pushes.{IsOrdered-push}
use Rattle.slice_log.specs.Log.{IsAfter, IsOrdered}
use Rattle.slice_log.specs.declared.entry.Entry.{Entry}
use Rattle.target_list.specs.declared.target.Target.{Target}

-- The targets were asked for in the order in which they are, after all that their core performed on their line.
record IsNext (log : List Entry) (core : CoreId) (line : ℕ) (taken : List Target) : Type 0 where
  pub ascending : IsAscendingBy (λ (target : Target). target.seq) taken
  pub words : All IsPerformable taken
  pub asked : All (λ (target : Target). target.since ≤ length log) taken
  pub behind : All (λ (d : Entry). d.core ≡ core → d.word.0 / 8 ≡ line
      → All (λ (target : Target). d.seq < target.seq) taken) log

-- Once the first is performed the others are next.
next-performed : (log : List Entry) (core : CoreId) (first line : ℕ) (block : Block) (target : Target)
    (taken : List Target)
    → IsNext log core line (target ∷ taken) → IsNext (log ++ entry_of core first block target ∷ []) core line taken
next-performed log core first line block target taken next = record {
  ascending = IsAscendingBy-tail (λ (t : Target). t.seq) target taken next.ascending;
  words = All-tail IsPerformable target taken next.words;
  asked =
      let longer = length_push log (entry_of core first block target) in
      All-weaker (λ (t : Target). t.since ≤ length log)
      (λ t. t.since ≤ length (log ++ entry_of core first block target ∷ []))
      (λ t before. omega (arith, before, longer)) taken
      (All-tail (λ (t : Target). t.since ≤ length log) target taken next.asked);
  behind =
      All-push IsBefore log (entry_of core first block target)
      (All-weaker (λ (d : Entry). d.core ≡ core → d.word.0 / 8 ≡ line
      → All (λ (t : Target). d.seq < t.seq) (target ∷ taken)) IsBefore
      (λ d before own on. All-tail (λ (t : Target). d.seq < t.seq) target taken (before own on)) log next.behind)
      (λ own on. IsAscendingBy-head (λ (t : Target). t.seq) target taken next.ascending);
}
  where
    IsBefore : Entry → Type 0
    IsBefore d = d.core ≡ core → d.word.0 / 8 ≡ line → All (λ (t : Target). d.seq < t.seq) taken

ordered-next : (log : List Entry) (core : CoreId) (first line : ℕ) (block : Block) (taken : List Target)
    → first ≡ 8 * line
    → IsNext log core line taken → IsOrdered log → IsOrdered (log ++ entries_of core first block taken)
unfolding entries_of
ordered-next log core first line block [] begins next ordered = rw append-nil ordered
ordered-next log core first line block (target ∷ taken) begins next ordered =
    let entry = entry_of core first block target in
    let after = performed_on block target.offset.0 target.op in
    let word = (All-head IsPerformable target taken next.words).word in
    let on : (first + target.offset.0) / 8 ≡ line = omega (arith, word, begins) in
    let asked = All-head (λ (t : Target). t.since ≤ length log) target taken next.asked in
    let last =
    All-weaker (λ (d : Entry). d.core ≡ core → d.word.0 / 8 ≡ line
    → All (λ (t : Target). d.seq < t.seq) (target ∷ taken))
    (λ d. IsAfter d entry)
    (λ d before own same. All-head (λ (t : Target). d.seq < t.seq) target taken (before own (same ∙ on))) log
    next.behind in
    let now = IsOrdered-push log entry ordered last asked in
    rw append_assoc at
    (ordered-next (log ++ entry ∷ []) core first line after taken begins
    (next-performed log core first line block target taken next) now)

pub ordered-settled : (lines : Lines) (log : List Entry) (core : CoreId) (first : ℕ) (block : Block)
    (old new : List Register)
    (states : List TagState) (accepted : ℕ) (local : Local) (taken : List Target) → TakesTargets old new local.0 taken
    → first ≡ 8 * (line_at lines local).0 → IsAccount lines log core.0 old states accepted → IsOrdered log
    → IsOrdered (log ++ entries_of core first block taken)
ordered-settled lines log core first block old new states accepted local taken takes begins account ordered =
    ordered-next log core first (line_at lines local).0 block taken begins (record {
      ascending = ascending-left (λ (t : Target). t.seq) taken (targets_of new local.0)
          (rw takes.here at (account.order.targets local.0));
      words = some IsPerformable (all-performable log old local.0 account.waits);
      asked = some (λ (t : Target). t.since ≤ length log) (all-asked log old local.0 account.waits);
      behind =
          All-weaker (IsAhead lines core.0 old)
          (λ (d : Entry). d.core ≡ core → d.word.0 / 8 ≡ (line_at lines local).0
          → All (λ (t : Target). d.seq < t.seq) taken)
          (λ d before own on. some (λ (t : Target). d.seq < t.seq) (before local (ap (λ c. c.0) own) on)) log
          account.order.entries;
    }) ordered
  where
    some : (P : Target → Type 0) → All P (targets_of old local.0) → All P taken
    some P all = some-taken old local.0 taken (targets_of new local.0) takes.here P all
