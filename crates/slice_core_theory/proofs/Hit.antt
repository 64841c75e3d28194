-- An access that is accepted and performed at once: the last entry of the log, under the core's next number.
use Rattle.std.proofs.Common.{◌≡◌, ℕ, ◌+◌, ◌/◌, ◌<◌, false, List, [], ◌∷◌, ◌++◌, length, refl, sym, ap, ◌∙◌, arith}
use Rattle.std.proofs.Common.{eq-eqb}
use Rattle.std.specs.Prelude.{◌==◌, ◌&&◌}
use Rattle.std.proofs.lemmas.Bool.{false≢true}
use Rattle.std.proofs.lemmas.List.Elements.{All-nil, All-push, All-weaker}
use Rattle.std.proofs.lemmas.List.Sums.{sum_by_push}
use Rattle.address_map.specs.Locator.{Lines, line_at}
use Rattle.address_map.specs.declared.address.Local.{Local}
use Rattle.mshr_file.specs.Miss.{has_miss, is_waited, targets_of}
use Rattle.mshr_file.specs.declared.registers.Register.{Register}
use Rattle.slice_core_cache.specs.declared.tags.TagState.{TagState}
use Rattle.slice_core_theory.proofs.StandingFacts.{entries-below}
use Rattle.slice_core_theory.proofs.Grown.{CanWait-grown, HasTags-grown, one_place}
use Rattle.slice_core_theory.proofs.Lists.{below_next, one, one_if}
use Rattle.slice_core_theory.specs.Standing.{is_of, is_request, StandsOnce, IsAhead, IsAccount}
use Rattle.slice_log.proofs.Pushes.{IsOrdered-push}
use Rattle.slice_log.specs.Log.{IsAfter, IsOrdered}
use Rattle.slice_log.specs.declared.entry.Entry.{Entry}
use Rattle.target_list.specs.declared.target.Target.{Target}

-- Nothing waits for a line that has no register.
pub nothing_waits : (misses : List Register) (line : ℕ) → has_miss misses line ≡ false → targets_of misses line ≡ []
nothing_waits misses line idle = empty (targets_of misses line) idle
  where
    empty : (targets : List Target) → is_waited targets ≡ false → targets ≡ []
    empty [] idle = refl
    empty (target ∷ targets) idle = absurd (false≢true (sym idle))

-- The entry has the next number: no other request is where it is.
once-hit : (log : List Entry) (core : ℕ) (misses : List Register) (accepted : ℕ) (entry : Entry) → entry.core.0 ≡ core
    → entry.seq ≡ accepted → StandsOnce log core misses accepted
    → StandsOnce (log ++ entry ∷ []) core misses (accepted + 1)
once-hit log core misses accepted entry own next stands = record {
  once = λ seq.
      let more = sum_by_push (λ e. one_if (is_request core seq e)) log entry in
      let mine : one_if (is_request core seq entry) ≡ one_if (accepted == seq) =
      ap (λ b. one_if (b && (entry.seq == seq))) (eq-eqb entry.core.0 core own) ∙ ap (λ n. one_if (n == seq)) next in
      let below = below_next seq accepted in
      let before = stands.once seq in
      omega (arith, more, mine, below, before);
  counted =
      let more = sum_by_push (λ e. one_if (is_of core e)) log entry in
      let mine = one (is_of core entry) (eq-eqb entry.core.0 core own) in
      let before = stands.counted in
      omega (arith, more, mine, before);
}

pub account-hit : (lines : Lines) (log : List Entry) (core : ℕ) (misses : List Register) (states : List TagState)
    (accepted : ℕ)
    (local : Local) (entry : Entry) → lines.slice < lines.slices → entry.core.0 ≡ core → entry.seq ≡ accepted
    → entry.word.0 / 8 ≡ (line_at lines local).0 → has_miss misses local.0 ≡ false
    → IsAccount lines log core misses states accepted
    → IsAccount lines (log ++ entry ∷ []) core misses states (accepted + 1)
account-hit lines log core misses states accepted local entry few own next here idle account = record {
  standing = once-hit log core misses accepted entry own next account.standing;
  waits = CanWait-grown log (entry ∷ []) misses account.waits;
  tags = HasTags-grown log (entry ∷ []) core misses states account.tags;
  order = record {
    targets = account.order.targets;
    entries = All-push (IsAhead lines core misses) log entry account.order.entries ahead;
  };
}
  where
    ahead : IsAhead lines core misses entry
    ahead other mine there =
        let same = one_place lines local other few (sym here ∙ there) in
        let none = ap (targets_of misses) (sym same) ∙ nothing_waits misses local.0 idle in
        rw none (All-nil (λ (target : Target). entry.seq < target.seq))

-- The log stays ordered: the core's other entries were asked for before.
pub ordered-hit : (log : List Entry) (core : ℕ) (misses : List Register) (accepted : ℕ) (entry : Entry)
    → entry.core.0 ≡ core
    → entry.seq ≡ accepted → entry.since ≡ length log → StandsOnce log core misses accepted → IsOrdered log
    → IsOrdered (log ++ entry ∷ [])
ordered-hit log core misses accepted entry own next now stands ordered =
    IsOrdered-push log entry ordered
    (All-weaker (λ (e : Entry). e.core.0 ≡ core → e.seq < accepted) (λ e. IsAfter e entry)
    (λ e below same line. let less = below (ap (λ c. c.0) same ∙ own) in omega (arith, less, next)) log
    (entries-below log core misses accepted stands)) (omega (arith, now))
