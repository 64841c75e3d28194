-- In a quiet slice the block with a line's newest data is the owner's copy, or the home copy where it has no owner.
use Rattle.std.proofs.Common.{◌≡◌, ℕ, ◌<◌, ◌==◌, Bool, true, false, [], ◌++◌, length, Option, Some, None, IfSome}
use Rattle.std.proofs.Common.{is_some, IsTrue, refl, sym, ap, ◌∙◌, subst, true≢false}
use Rattle.std.proofs.lemmas.Bool.{and_from, eq-eqb}
use Rattle.std.proofs.lemmas.List.Elements.{All-get_or}
use Rattle.address_map.proofs.CoreSets.{has-zero}
use Rattle.address_map.specs.CoreSet.{has}
use Rattle.address_map.specs.declared.address.CoreId.{CoreId}
use Rattle.address_map.specs.declared.address.Local.{Local}
use Rattle.address_map.specs.declared.block.Block.{Block}
use Rattle.cache_array.specs.Array.{held_at as array_at}
use Rattle.cache_table.specs.CopyState.{is_leaving, is_readable, is_waiting, is_writer}
use Rattle.cache_table.specs.declared.state.CopyState.{CopyState}
use Rattle.cache_table.specs.declared.state.CopyState.TheVariants as copy_states
use Rattle.directory_table.specs.Law.{is_awaited, is_modified}
use Rattle.directory_table.specs.declared.state.DirState.{DirState}
use Rattle.directory_table.specs.declared.state.DirState.TheVariants as dir_states
use Rattle.mshr_file.specs.Miss.{has_miss}
use Rattle.protocol_coherence.proofs.Promises.{reached_has_rows, reached_settled}
use Rattle.protocol_coherence.proofs.Steps.{reached_coherent}
use Rattle.protocol_coherence.specs.Fit.{is_no_forward}
use Rattle.protocol_coherence.specs.Line.{Forward, fwd_get_m, fwd_get_s, no_forward, Line, Part}
use Rattle.protocol_coherence.specs.LineSteps.{Reached}
use Rattle.protocol_coherence.specs.Promise.{IsSettled, is_still}
use Rattle.protocol_coherence.specs.Values.{is_at_home}
use Rattle.slice_core_cache.specs.Copy.{found_in}
use Rattle.slice_core_cache.specs.Kept.{stands_in_array}
use Rattle.slice_core_cache.specs.CoreCache.{IsCoreCacheQuiet, copy_of, state_of}
use Rattle.slice_core_cache.specs.declared.copy.CacheCopy.{CacheCopy}
use Rattle.slice_core_theory.proofs.Current.{newest, reached_without}
use Rattle.slice_core_theory.specs.Blocks.{AreReachedWith, IsNewest}
use Rattle.slice_core_theory.specs.Coherent.{WaitsForMisses}
use Rattle.slice_core_theory.specs.Newest.{HasNewest}
use Rattle.slice_core_theory.specs.Stands.{IsReached, PartStands, Stands, queued_forward, queued_inv, queued_put_ack}
use Rattle.slice_core_theory.specs.Whole.{IsWhole}
use Rattle.slice_core_spec.specs.View.{View, IsQuiet, channels_at, entry_at, newest_block, no_cache, cache_at}
use Rattle.slice_queues.proofs.LineLaws.{None-from_home, cores-from_IsEmptyLine}
use Rattle.slice_queues.specs.Line.{CoreChannels, core_at, no_messages}
use Rattle.slice_queues.specs.declared.channel.Channel.TheVariants as channels
use Rattle.writeback_buffer.specs.Buffer.{held_at as buffer_at}
use Rattle.writeback_buffer.specs.declared.pending.Leaving.{Leaving}

-- no message in the slots
record IsEmptyQueue (inv : Bool) (asked : Forward) (put_ack : Bool) : Type 0 where
  inv_is : inv ≡ false
  asked_is : is_no_forward asked ≡ true
  put_ack_is : put_ack ≡ false

empty_queue : (inv : Bool) (asked : Forward) (put_ack : Bool) (owes_to names : ℕ)
    → [] ≡ queued_inv inv owes_to ++ (queued_forward asked names ++ queued_put_ack put_ack)
    → IsEmptyQueue inv asked put_ack
empty_queue true asked put_ack owes_to names none = absurd (cc none)
empty_queue false fwd_get_s put_ack owes_to names none = absurd (cc none)
empty_queue false fwd_get_m put_ack owes_to names none = absurd (cc none)
empty_queue false no_forward true owes_to names none = absurd (cc none)
empty_queue false no_forward false owes_to names none =
    record { inv_is = refl; asked_is = refl; put_ack_is = refl }

-- A copy that is in the array doesn't leave.
held_stays : (state : CopyState) → stands_in_array state ≡ true → is_leaving state ≡ false
held_stays copy_states.I stands = cc
held_stays _ stands = cc

writer_reads : (state : CopyState) → is_writer state ≡ true → is_readable state ≡ true
writer_reads copy_states.M writes = cc
writer_reads _ writes = cc

-- Without an owner, and with nothing awaited, the home copy is the one that counts.
home_counts : (directory : DirState) → is_modified directory ≡ false → is_awaited directory ≡ false
    → is_at_home directory ≡ true
home_counts dir_states.I modified awaited = refl
home_counts dir_states.S modified awaited = refl
home_counts dir_states.M modified awaited = absurd (true≢false modified)
home_counts dir_states.S_D modified awaited = absurd (true≢false awaited)

module _ (v : View) (whole : IsWhole v) (some : 0 < length v.caches) (misses : WaitsForMisses v) (quiet : IsQuiet v)
    (local : Local) (inside : local.0 < v.lines.lines) (l : Line) (reached : Reached v.exclusive (length v.caches) l)
    (stands : Stands v local l) where
  nothing_at : (c : ℕ) → core_at (channels_at v local) c ≡ no_messages
  nothing_at = cores-from_IsEmptyLine (channels_at v local) (quiet.messages local)

  module _ (core : CoreId) (below : core.0 < length v.caches) where
    part : Part
    part = l.part core.0

    standing : PartStands (copy_of (cache_at v core) local) no_messages part
    unfolding part
    standing = subst (λ m. PartStands (copy_of (cache_at v core) local) m (l.part core.0)) (nothing_at core.0)
        (stands.part core.0 below)

    cache_is_quiet : IsCoreCacheQuiet (cache_at v core)
    cache_is_quiet = All-get_or IsCoreCacheQuiet v.caches core.0 no_cache below quiet.caches

    queue : IsEmptyQueue part.look.inv part.look.forward part.look.put_ack
    queue = empty_queue part.look.inv part.look.forward part.look.put_ack part.owes_to part.names standing.queue

    -- No acknowledgement of the core waits, for it would wait at a core.
    nothing_sent : part.look.sent ≡ false
    unfolding part
    nothing_sent = by (l.part core.0).look.sent refl
      where
        by : (sent : Bool) → (l.part core.0).look.sent ≡ sent → sent ≡ false
        by false e = refl
        by true e =
            let to = (l.part core.0).owes_to in
            let to_below = (reached_has_rows v.exclusive (length v.caches) l some whole.few reached).ack_for_core core.0
            below e in
            let waits = stands.acks.waits to core.0 to_below below
            ∙ and_from (l.part core.0).look.sent (to == to) e (eq-eqb to to refl) in
            sym waits ∙ ap (λ (m : CoreChannels). has m.acks core.0) (nothing_at to) ∙ has-zero core.0

    not_waiting : is_waiting part.look.state ≡ false
    unfolding part
    not_waiting =
        ap is_waiting (sym standing.state) ∙ misses core local below inside
        ∙ ap (λ m. has_miss m local.0) cache_is_quiet.misses

    not_leaving : is_leaving part.look.state ≡ false
    unfolding part
    not_leaving =
        ap is_leaving (sym standing.state)
        ∙ by (array_at (cache_at v core).array local) (buffer_at (cache_at v core).buffer.write_backs local.0)
        ((whole.kept core below).held local) (ap (λ e. buffer_at e local.0) cache_is_quiet.leaving)
      where
        by : (held : Option CacheCopy) (leaving : Option Leaving) → IfSome held (λ c. stands_in_array c.state ≡ true)
            → leaving ≡ None → is_leaving (found_in held leaving).state ≡ false
        by (Some held) leaving stays none = held_stays held.state stays
        by None (Some leaving) stays none = absurd (cc none)
        by None None stays none = refl

    -- So the core is still.
    still : is_still part.look ≡ true
    still =
        rw (
          ← standing.request,
          ← standing.incoming,
          queue.inv_is,
          queue.asked_is,
          queue.put_ack_is,
          nothing_sent,
          not_waiting,
          not_leaving,
        ) refl

  home_is_empty : l.home ≡ false
  home_is_empty = sym stands.home ∙ ap is_some (None-from_home (channels_at v local).home (quiet.messages local
      channels.Home))

  settled : IsSettled (length v.caches) l
  settled = reached_settled v.exclusive (length v.caches) l some whole.few reached

  -- An owner has the only copy.
  owner_writes : (owner : CoreId) → (entry_at v local).owner ≡ Some owner → (owner.0 < length v.caches)
      × IsTrue (is_writer (state_of (cache_at v owner) local))
  unfolding part
  owner_writes owner is =
      let named = sym stands.entry_stands.owner ∙ is in
      let kept = reached_coherent v.exclusive (length v.caches) l some whole.few reached in
      let below = subst (λ (o : Option CoreId). IfSome o (λ core. core.0 < length v.caches)) named
      kept.1.entry.owner_within in
      let writes = subst (λ (o : Option CoreId). IfSome o (λ owner. IsTrue (is_still (l.part owner.0).look)
      → IsTrue (is_writer (l.part owner.0).look.state))) named settled.owner in
      (below, ap is_writer (standing owner below).state ∙ writes (still owner below))

  -- Without one the home copy counts.
  nobody_owns : (entry_at v local).owner ≡ None → is_at_home (entry_at v local).state ≡ true
  unfolding part
  nobody_owns none =
      let kept = reached_coherent v.exclusive (length v.caches) l some whole.few reached in
      home_counts (entry_at v local).state
      (ap is_modified stands.entry_stands.directory ∙ sym kept.1.entry.in_m
      ∙ ap is_some (sym stands.entry_stands.owner ∙ none))
      (ap is_awaited stands.entry_stands.directory
      ∙ settled.not_awaited home_is_empty (λ c below. still (record { 0 = c }) below))

-- The newest block of a quiet slice's line has what the log gives.
pub quiet_newest : (v : View) → IsWhole v → 0 < length v.caches → WaitsForMisses v → AreReachedWith v → IsQuiet v
    → (local : Local) → local.0 < v.lines.lines → IsNewest v local (newest_block v local)
quiet_newest v whole some misses all quiet local inside = by (entry_at v local).owner refl
  where
    with_newest : HasNewest v
    with_newest = newest v some whole.few all

    line : IsReached v local
    line = reached_without v all local inside

    block_of : Option CoreId → Block
    block_of (Some owner) = (copy_of (cache_at v owner) local).block
    block_of None = (entry_at v local).home

    by : (owner : Option CoreId) → (entry_at v local).owner ≡ owner → IsNewest v local (block_of owner)
    by (Some owner) is =
        let writes = owner_writes v whole some misses quiet local inside line.0 line.1 line.2 owner is in
        with_newest.copies local owner inside writes.0 (writer_reads (state_of (cache_at v owner) local) writes.1)
    by None is =
        with_newest.home local inside (nobody_owns v whole some misses quiet local inside line.0 line.1 line.2 is)
