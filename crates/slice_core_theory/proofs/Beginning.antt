-- The lines of a new slice are lines that no core has: the machine's first.
use Rattle.std.proofs.Common.{◌≡◌, ℕ, ◌<◌, false, length, replicate, get_or, inl, inr, sym, ap, ◌∙◌, subst, refl}
use Rattle.std.proofs.Common.{true≢false}
use Rattle.std.proofs.lemmas.Bool.{cases_lt}
use Rattle.std.proofs.lemmas.List.{get_or-replicate, get_or_past, length-replicate}
use Rattle.address_map.proofs.CoreSets.{has-zero}
use Rattle.address_map.specs.Config.{slice_lines}
use Rattle.address_map.specs.CoreSet.{has}
use Rattle.address_map.specs.Locator.{Lines, lines_of}
use Rattle.address_map.specs.declared.address.Local.{Local}
use Rattle.address_map.specs.declared.address.SliceId.{SliceId}
use Rattle.address_map.specs.declared.block.Block.{Block}
use Rattle.address_map.specs.declared.config.Config.{Config}
use Rattle.directory_table.specs.declared.state.DirEntry.{DirEntry}
use Rattle.mshr_file.specs.Miss.{Bound}
use Rattle.protocol_coherence.specs.LineSteps.{beginning, first, idle}
use Rattle.slice_core_cache.proofs.Found.{copy_of-new}
use Rattle.slice_core_cache.specs.Copy.{no_copy}
use Rattle.slice_core_cache.specs.CoreCache.{CoreCacheView, copy_of}
use Rattle.slice_core_cache.specs.declared.copy.CacheCopy.{CacheCopy}
use Rattle.slice_core_theory.specs.Stands.{AreReached, LineStands, PartStands, Stands, copies_at}
use Rattle.slice_core_spec.specs.Initial.{AreInitialEntries, AreNewCaches, unowned_entry}
use Rattle.slice_core_spec.specs.Calls.{IsNew, PartsView}
use Rattle.slice_core_spec.specs.View.{View, channels_at}
use Rattle.slice_queues.specs.Line.{CoreChannels, LineChannels, core_at, empty_line, no_messages}

-- A line in which nothing waits has no message for any core.
pub core_at-empty : (cores core : ℕ) → core_at (empty_line cores) core ≡ no_messages
core_at-empty cores core =
    elim (cases_lt core cores) [
      | inl within ↦ get_or-replicate cores core no_messages no_messages within
      | inr past ↦
          get_or_past (replicate cores no_messages) core no_messages (rw (length-replicate cores no_messages) past)
    ]

-- A core that has no copy and no message is idle.
idle_stands : PartStands no_copy no_messages idle
idle_stands = record {
  state = refl;
  request = refl;
  incoming = refl;
  queue = refl;
  named = tt;
  wants = λ counts. absurd (true≢false (sym counts));
  counted = λ waits. absurd (true≢false (sym waits));
}

-- A line that no core has, with no message and no copy, is the machine's first.
pub first_line_stands : (cores : ℕ) (home : Block) (copy : ℕ → CacheCopy)
    → ((core : ℕ) → core < cores → copy core ≡ no_copy)
    → LineStands cores (unowned_entry home) (empty_line cores) copy first
first_line_stands cores home copy none = record {
  entry_stands = record { directory = refl; owner = refl; sharers = refl };
  home = refl;
  part = λ core below. rw (none core below, core_at-empty cores core) idle_stands;
  acks = record {
    waits = λ to from below within. no_acks to from;
    senders = λ to from waits. absurd (true≢false (sym waits ∙ no_acks to from));
  };
}
  where
    no_acks : (to from : ℕ) → has (core_at (empty_line cores) to).acks from ≡ false
    no_acks to from = ap (λ (mail : CoreChannels). has mail.acks from) (core_at-empty cores to) ∙ has-zero from

-- Each line of a new slice is that line.
pub new_line_stands : (v : View) (c : Config) (bound : Bound) (slice : ℕ) (own : Lines) (local : Local)
    → local.0 < v.lines.lines → AreNewCaches c bound slice c.cores v.caches
    → AreInitialEntries c own v.lines.lines v.entries → v.channels ≡ replicate v.lines.lines (empty_line c.cores)
    → Stands v local first
new_line_stands v c bound slice own local inside caches entries channels =
    let initial = entries.each local.0 inside in
    subst (λ (e : DirEntry). LineStands (length v.caches) e (channels_at v local) (copies_at v local) first)
    (sym initial.2)
    (subst (λ (l : LineChannels). LineStands (length v.caches) (unowned_entry initial.0) l (copies_at v local) first)
    (sym empty)
    (first_line_stands (length v.caches) initial.0 (copies_at v local)
    (λ core below. ap (λ (s : CoreCacheView). copy_of s local)
    (caches.each core (subst (λ n. core < n) caches.count_is below))
    ∙ copy_of-new c bound slice core local)))
  where
    empty : channels_at v local ≡ empty_line (length v.caches)
    empty =
        ap (λ lines. get_or lines local.0 (empty_line 0)) channels
        ∙ get_or-replicate v.lines.lines local.0 (empty_line c.cores) (empty_line 0) inside
        ∙ ap empty_line (sym caches.count_is)

-- So the lines of a new slice are reached.
pub reached_new : (v : View) (c : Config) (bound : Bound) (slice : ℕ) (own : Lines)
    → AreNewCaches c bound slice c.cores v.caches → AreInitialEntries c own v.lines.lines v.entries
    → v.channels ≡ replicate v.lines.lines (empty_line c.cores) → AreReached v
reached_new v c bound slice own caches entries channels local inside =
    (first, beginning, new_line_stands v c bound slice own local inside caches entries channels)

-- The same, as a slice begins with its machine's configuration.
pub reached_initial : (c : Config) (bound : Bound) (slice : SliceId) (p : PartsView) → IsNew c bound slice p
    → AreReached p.view
reached_initial c bound slice p new =
    let count : slice_lines c ≡ p.view.lines.lines = sym (ap (λ (l : Lines). l.lines) new.lines) in
    reached_new p.view c bound slice.0 (lines_of c slice) new.caches
    (subst (λ n. AreInitialEntries c (lines_of c slice) n p.view.entries) count new.entries)
    (new.channels_are ∙ ap (λ n. replicate n (empty_line c.cores)) count)
