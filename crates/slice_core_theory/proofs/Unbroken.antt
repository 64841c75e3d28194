-- No message of a slice whose lines the machine reaches is broken.
use Rattle.std.proofs.Common.{◌≡◌, ◌≢◌, ℕ, ◌<◌, ◌≤◌, ◌==◌, ◌&&◌, Bool, true, false, not, List, length, if◌then◌else◌}
use Rattle.std.proofs.Common.{Option, Some, None, option_map, IfSome, IsSome, IsTrue, is_some, position, find}
use Rattle.std.proofs.Common.{slice_get, nat_lt, inl, inr, refl, sym, ap, ◌∙◌, subst, arith, true≢false}
use Rattle.std.proofs.lemmas.Bool.{cases_lt, eq-eqb, ltb-false}
use Rattle.std.proofs.lemmas.List.{get_or_past}
use Rattle.std.proofs.lemmas.List.Folds.{find_at}
use Rattle.std.proofs.lemmas.Option.{slice_get_past}
use Rattle.std.specs.List.{position_or_len}
use Rattle.std.proofs.Math.Bool.{or-true}
use Rattle.address_map.proofs.CoreSets.{has-zero}
use Rattle.address_map.specs.CoreSet.{has}
use Rattle.address_map.specs.declared.address.CoreId.{CoreId}
use Rattle.address_map.specs.declared.address.Local.{Local}
use Rattle.cache_array.specs.Array.{held_at as array_at, slots_at}
use Rattle.cache_array.specs.Set.{holds}
use Rattle.cache_table.specs.CopyState.{is_leaving, is_waiting}
use Rattle.cache_table.specs.Law.{sends_data, sends_home}
use Rattle.cache_table.specs.Row.{row_of}
use Rattle.cache_table.specs.declared.row.CacheEvent.TheVariants as cache_events
use Rattle.cache_table.specs.declared.row.CacheEvent.{CacheEvent}
use Rattle.cache_table.specs.declared.row.CacheSends.TheVariants as cache_sends
use Rattle.cache_table.specs.declared.row.CacheSends.{CacheSends}
use Rattle.cache_table.specs.declared.row.Row.TheVariants as rows
use Rattle.cache_table.specs.declared.row.Row.{Row}
use Rattle.cache_table.specs.declared.state.CopyState.TheVariants as copy_states
use Rattle.cache_table.specs.declared.state.CopyState.{CopyState}
use Rattle.directory_table.specs.Row as Directory
use Rattle.directory_table.specs.declared.row.DirEvent.TheVariants as dir_events
use Rattle.directory_table.specs.declared.row.DirRow.TheVariants as dir_rows
use Rattle.directory_table.specs.declared.row.DirRow.{DirRow}
use Rattle.slice_answer.specs.declared.answer.Cell.TheVariants as cells
use Rattle.slice_answer.specs.declared.answer.Cell.{Cell}
use Rattle.slice_core_theory.proofs.Facts.{data_while_waiting}
use Rattle.slice_core_theory.proofs.Parts.{IsFirst, first_at_hand, first_stands}
use Rattle.slice_core_theory.proofs.Room.{no_request_waits, request_row, takes_data}
use Rattle.slice_core_theory.proofs.Rows.{ack_row-same, answers, sends_for}
use Rattle.slice_core_theory.proofs.Served.{row_here}
use Rattle.slice_core_theory.specs.Coherent.{NothingIsBroken, WaitsInArray}
use Rattle.slice_core_theory.specs.Stands.{AreReached, PartStands, Stands, copies_at, kind_of_data, named_by}
use Rattle.slice_core_theory.specs.Whole.{IsWhole}
use Rattle.slice_core_spec.proofs.RoomLaws.{takes-from}
use Rattle.slice_core_spec.specs.Plan.{acknowledge_at, asks, by_ack_row, by_data_row, by_forwarded_row, by_home_row}
use Rattle.slice_core_spec.specs.Plan.{data_by, event_of_data, event_of_forwarded, fill_at, forwarded_by, is_put_ack}
use Rattle.slice_core_spec.specs.Plan.{plan_of, stands_at, request_by, requester_of}
use Rattle.slice_core_spec.specs.Sends.{cache_room, takes}
use Rattle.slice_core_spec.specs.View.{View, IsShaped, channels_at, entry_at, cache_at}
use Rattle.protocol_coherence.proofs.Frame.{at_place}
use Rattle.protocol_coherence.proofs.Promises.{reached_has_room, reached_has_rows, reached_nothing_early}
use Rattle.protocol_coherence.specs.Fit.{is_counting, is_no_data, is_no_request, is_only_data}
use Rattle.protocol_coherence.specs.Line.{Line, Part}
use Rattle.protocol_coherence.specs.LineSteps.{Reached, part_after_row, after, further, stands as at_hand, turn}
use Rattle.protocol_coherence.specs.Promise.{HasRoomAtTurn, is_directory_entry, is_entry, is_message}
use Rattle.slice_core_cache.specs.Copy.{found_in}
use Rattle.slice_core_cache.specs.CoreCache.{copy_of}
use Rattle.slice_core_cache.specs.declared.copy.CacheCopy.{CacheCopy}
use Rattle.slice_queues.specs.Line.{CoreChannels, LineChannels, core_at, no_messages}
use Rattle.slice_queues.specs.declared.channel.Channel.TheVariants as channels
use Rattle.slice_queues.specs.declared.channel.Channel.{Channel}
use Rattle.slice_queues.specs.declared.message.DataMessage.TheVariants as data_messages
use Rattle.slice_queues.specs.declared.message.DataMessage.{DataMessage}
use Rattle.slice_queues.specs.declared.message.ForwardedMessage.TheVariants as forwarded_messages
use Rattle.slice_queues.specs.declared.message.ForwardedMessage.{ForwardedMessage}
use Rattle.slice_queues.specs.declared.message.RequestMessage.{RequestMessage}
use Rattle.writeback_buffer.specs.Buffer.{held_at as buffer_at}
use Rattle.writeback_buffer.specs.declared.pending.Leaving.{Leaving}
use Rattle.slice_answer.specs.declared.answer.Delivery.TheVariants as deliveries
use Rattle.slice_core_spec.specs.Plan.{ack_move, fill_move, forwarded_move}

-- ---- the slice

-- Nothing waits for a core that isn't there.
nobody_at : (line : LineChannels) (core : ℕ) → length line.cores ≤ core → core_at line core ≡ no_messages
nobody_at line core past = get_or_past line.cores core no_messages past

-- Only a copy that waits has a row for an acknowledgement.
entry_waits : (state : CopyState) (n k : ℕ) → is_entry (row_of state (cache_events.InvAck n k)) ≡ true
    → is_waiting state ≡ true
entry_waits copy_states.I n k entry = cc
entry_waits _ n k entry = cc

-- Where no element passes, none is found.
found_none : {X : Type 0} (p : X → Bool) (xs : List X) → position p xs ≡ None → find p xs ≡ None
found_none p xs none =
    find_at p xs
    ∙ slice_get_past xs (position_or_len p xs)
    (ltb-false (position_or_len p xs) (length xs)
    (no_place (nat_lt (position_or_len p xs) (length xs)) (position_or_len p xs) none))
  where
    no_place : (b : Bool) (n : ℕ) → (if b then Some n else None) ≡ None → b ≡ false
    no_place true n e = absurd (cc e)
    no_place false n e = refl

nothing_is : {A : Type 0} (o : Option A) → is_some o ≡ false → o ≡ None
nothing_is None none = refl
nothing_is (Some x) none = absurd (true≢false none)

data_is_message : (v : View) (local : Local) (core : CoreId) (message : DataMessage)
    → is_message (event_of_data v local core message) ≡ true
data_is_message v local core (data_messages.Data block acks) = refl
data_is_message v local core (data_messages.DataE block) = refl

data_waits : (message : DataMessage) → is_no_data (kind_of_data (Some message)) ≡ false
data_waits (data_messages.Data block acks) = refl
data_waits (data_messages.DataE block) = refl

forwarded_is_message : (message : ForwardedMessage) → is_message (event_of_forwarded message) ≡ true
forwarded_is_message (forwarded_messages.Inv to) = refl
forwarded_is_message (forwarded_messages.FwdGetS to) = refl
forwarded_is_message (forwarded_messages.FwdGetM to) = refl
forwarded_is_message forwarded_messages.PutAck = refl

module _ (v : View) (local : Local) (shaped : IsShaped v) (inside : local.0 < v.lines.lines)
    (most : length v.caches ≤ 64) (waiting : WaitsInArray v) (l : Line) (reached : Reached v.exclusive (length
    v.caches) l)
    (stands : Stands v local l) (cell : Cell) where
  size : length (channels_at v local).cores ≡ length v.caches
  size = shaped.cores local inside

  -- ---- the directory

  request_unbroken : (core : CoreId) → plan_of v local (channels.Req core) ≢ deliveries.Broken cell
  request_unbroken core is =
      elim (cases_lt core.0 (length v.caches)) [
        | inl below ↦ by (core_at (channels_at v local) core.0).request refl below is
        | inr past ↦
            let none = ap (λ (m : CoreChannels). m.request)
            (nobody_at (channels_at v local) core.0 (rw size past)) in
            let nothing : deliveries.Nothing ≡ deliveries.Broken cell = ap (request_by v local core) (sym none) ∙ is in
            absurd (cc nothing)
      ]
    where
      by : (request : Option RequestMessage) → (core_at (channels_at v local) core.0).request ≡ request
          → core.0 < length v.caches → request_by v local core request ≡ deliveries.Broken cell → ⊥
      by None waits below is = absurd (cc is)
      by (Some message) waits below is =
          request_row v.exclusive (length v.caches) (entry_at v local) (channels_at v local) (copies_at v local) size
          (omega (arith, below)) most l reached stands core message below waits cell is

  home_unbroken : 0 < length v.caches → plan_of v local channels.Home ≢ deliveries.Broken cell
  home_unbroken some is = by_home (is_some (channels_at v local).home) refl is
    where
      row_now : DirRow
      row_now = Directory.row_of v.exclusive (entry_at v local) dir_events.DataHome

      by_row : (row : DirRow) → row_now ≡ row → is_directory_entry row ≡ true
          → by_home_row row ≡ deliveries.Broken cell → ⊥
      by_row dir_rows.NoEntry known entry is = true≢false (sym entry)
      by_row dir_rows.Blocked known entry is = absurd (cc is)
      by_row (dir_rows.Go step) known entry is = absurd (cc is)

      by_home : (waits : Bool) → is_some (channels_at v local).home ≡ waits
          → (if waits then by_home_row row_now else deliveries.Nothing) ≡ deliveries.Broken cell → ⊥
      by_home false waits is = absurd (cc is)
      by_home true waits is =
          by_row row_now refl
          (subst (λ r. is_directory_entry r ≡ true)
          (row_here v.exclusive (entry_at v local) l (entry_at v local).home dir_events.DataHome stands.entry_stands)
          ((reached_has_rows v.exclusive (length v.caches) l some most reached).serve dir_events.DataHome
          (entry_at v local).home tt (sym stands.home ∙ waits)))
          is

  -- ---- the caches

  none_planned : (to from : CoreId) → has (core_at (channels_at v local) to.0).acks from.0 ≡ false
      → plan_of v local (channels.Ack to from) ≡ deliveries.Nothing
  none_planned to from none =
      let copy = copy_of (cache_at v to) local in
      ap (λ b. if b then by_ack_row v local to (row_of copy.state (cache_events.InvAck copy.wants copy.counted))
      else deliveries.Nothing) none

  module _ (core : CoreId) (below : core.0 < length v.caches) where
    part : Part
    part = l.part core.0

    mail : CoreChannels
    mail = core_at (channels_at v local) core.0

    copy : CacheCopy
    copy = copy_of (cache_at v core) local

    standing : PartStands copy mail part
    unfolding part mail copy
    standing = stands.part core.0 below

    some_core : 0 < length v.caches
    some_core = omega (arith, below)

    not_asking : is_no_request part.look.request ≡ true → asks v local core ≡ false
    unfolding part mail copy
    not_asking none =
        ap is_some (no_request_waits (core_at (channels_at v local) core.0).request
        (ap is_no_request standing.request ∙ none))

    -- A message that is at hand has a row.
    has_row : (event : CacheEvent) → is_message event ≡ true → at_hand part event ≡ true
        → is_entry (row_of copy.state event) ≡ true
    unfolding part copy
    has_row event message here =
        subst (λ s. is_entry (row_of s event) ≡ true) (sym standing.state)
        ((reached_has_rows v.exclusive (length v.caches) l some_core most reached).turn core.0 event below message here)

    has_room : (event : CacheEvent) (next : CopyState) (sent : CacheSends) → at_hand part event ≡ true
        → row_of copy.state event ≡ rows.Go next sent → HasRoomAtTurn (length v.caches) l core.0 sent
    unfolding part copy
    has_room event next sent here row =
        (reached_has_room v.exclusive (length v.caches) l some_core most reached).turn core.0 event next sent below here
        (ap (λ s. row_of s event) (sym standing.state) ∙ row)

    -- Whom an Inv names is a core.
    owed_within : (next : CopyState) → part.look.inv ≡ true
        → row_of copy.state cache_events.Inv ≡ rows.Go next cache_sends.InvAckToRequester → part.owes_to
        < length v.caches
    unfolding part copy
    owed_within next waits row =
        let turned = turn core.0 cache_events.Inv next cache_sends.InvAckToRequester below waits
        (ap (λ s. row_of s cache_events.Inv) (sym standing.state) ∙ row) in
        let same = at_place l.part core.0 (part_after_row cache_events.Inv 0 next cache_sends.InvAckToRequester) in
        subst (λ (p : Part). p.owes_to < length v.caches) same
        ((reached_has_rows v.exclusive (length v.caches) (after turned) some_core most
        (further reached turned)).ack_for_core core.0 below
        (ap (λ (p : Part). p.look.sent) same ∙ or-true (l.part core.0).look.sent))

    ack_room : (to : CoreId) (next : CopyState) → IsFirst (forwarded_messages.Inv to) part
        → row_of copy.state cache_events.Inv ≡ rows.Go next cache_sends.InvAckToRequester
        → takes (channels_at v local) (channels.Ack to core) ≡ true
    unfolding part
    ack_room to next first row =
        let line = channels_at v local in
        let named = subst (λ n. n < length v.caches) first.1 (owed_within next first.0 row) in
        let none : has (core_at line to.0).acks core.0 ≡ false =
        stands.acks.waits to.0 core.0 named below
        ∙ ap (λ b. b && (l.part core.0).owes_to == to.0)
        ((has_room cache_events.Inv next cache_sends.InvAckToRequester first.0 row).ack refl) in
        let short : 0 < 1 = omega arith in
        takes-from line (channels.Ack to core)
        (subst (λ n. to.0 < n) (sym size) named, subst (λ n. core.0 < n) (sym size) below) (rw none short)

    given_room : (to : CoreId) (sent : CacheSends) → part.names ≡ to.0 → HasRoomAtTurn (length v.caches) l core.0 sent
        → sends_data sent ≡ true → takes (channels_at v local) (channels.Data to) ≡ true
    unfolding part
    given_room to sent named room gives =
        takes_data v.exclusive (length v.caches) (entry_at v local) (channels_at v local) (copies_at v local) size
        some_core most l reached stands to (subst (λ n. n < length v.caches) named (room.named gives))
        (subst (λ n. is_no_data (l.part n).look.incoming ≡ true) named (room.data_channel gives))

    home_room : (sent : CacheSends) → HasRoomAtTurn (length v.caches) l core.0 sent → sends_home sent ≡ true
        → takes (channels_at v local) channels.Home ≡ true
    home_room sent room gives =
        let none = nothing_is (channels_at v local).home (stands.home ∙ room.home gives) in
        let short : 0 < 1 = omega arith in
        takes-from (channels_at v local) channels.Home tt (rw none short)

    -- Where a forwarded message is taken, each message that it sends finds room.
    answer_room : (message : ForwardedMessage) (next : CopyState) → IsFirst message part
        → row_of copy.state (event_of_forwarded message) ≡ rows.Go next (sends_for message)
        → cache_room (channels_at v local) core (requester_of core message) (sends_for message) ≡ true
    unfolding part
    answer_room (forwarded_messages.Inv to) next first row = ack_room to next first row
    answer_room (forwarded_messages.FwdGetS to) next first row =
        let room = has_room cache_events.FwdGetS next cache_sends.DataToRequesterAndHome
        (first_at_hand (forwarded_messages.FwdGetS to) (l.part core.0) first) row in
        rw (given_room to cache_sends.DataToRequesterAndHome first.2 room refl)
        (home_room cache_sends.DataToRequesterAndHome room refl)
    answer_room (forwarded_messages.FwdGetM to) next first row =
        given_room to cache_sends.DataToRequester first.2
        (has_room cache_events.FwdGetM next cache_sends.DataToRequester
        (first_at_hand (forwarded_messages.FwdGetM to) (l.part core.0) first)
        row) refl
    answer_room forwarded_messages.PutAck next first row = refl

    -- A Put-Ack comes only after the Put was taken.
    not_early : (message : ForwardedMessage) → IsFirst message part → (is_put_ack message && asks v local core) ≡ false
    unfolding part
    not_early (forwarded_messages.Inv to) first = refl
    not_early (forwarded_messages.FwdGetS to) first = refl
    not_early (forwarded_messages.FwdGetM to) first = refl
    not_early forwarded_messages.PutAck first =
        not_asking ((reached_nothing_early v.exclusive (length v.caches) l some_core most reached core.0
        below).put_taken
        first.2)

    -- What is planned by a row, where the message has one, finds room and isn't early.
    by_forwarded : (message : ForwardedMessage) → IsFirst message part → (row : Row)
        → row_of copy.state (event_of_forwarded message) ≡ row → is_entry row ≡ true
        → by_forwarded_row v local core message row ≡ deliveries.Broken cell → ⊥
    by_forwarded message first rows.NoEntry known entry is = true≢false (sym entry)
    by_forwarded message first rows.Blocked known entry is = absurd (cc is)
    by_forwarded message first (rows.Go next sent) known entry is =
        let sends_it = (answers message copy.state next sent known).sends in
        let room : cache_room (channels_at v local) core (requester_of core message) sent ≡ true =
        ap (λ se. cache_room (channels_at v local) core (requester_of core message) se) sends_it
        ∙ answer_room message next first (known ∙ ap (rows.Go next) sends_it) in
        let moves : forwarded_move next sent (requester_of core message) ≡ deliveries.Broken cell =
        sym (planned room (not_early message first)) ∙ is in
        absurd (cc moves)
      where
        planned : cache_room (channels_at v local) core (requester_of core message) sent ≡ true
            → (is_put_ack message && asks v local core) ≡ false
            → by_forwarded_row v local core message (rows.Go next sent)
            ≡ forwarded_move next sent (requester_of core message)
        planned room early =
            ap (λ b. if not b then deliveries.Broken cells.Full
            else if is_put_ack message && asks v local core then deliveries.Broken cells.Early
            else forwarded_move next sent (requester_of core message)) room
            ∙ ap (λ b. if b then deliveries.Broken cells.Early
            else forwarded_move next sent (requester_of core message)) early

    forwarded_here : plan_of v local (channels.Fwd core) ≢ deliveries.Broken cell
    unfolding mail part copy
    forwarded_here is = by (slice_get (core_at (channels_at v local) core.0).forwarded 0) refl is
      where
        by : (front : Option ForwardedMessage) → slice_get (core_at (channels_at v local) core.0).forwarded 0 ≡ front
            → forwarded_by v local core front ≡ deliveries.Broken cell → ⊥
        by None waits is = absurd (cc is)
        by (Some message) waits is =
            let first = first_stands copy mail part message waits standing in
            by_forwarded message first (row_of copy.state (event_of_forwarded message)) refl
            (has_row (event_of_forwarded message) (forwarded_is_message message) (first_at_hand message part first)) is

    -- ---- data

    data_at_hand : (message : DataMessage) → (core_at (channels_at v local) core.0).data ≡ Some message
        → at_hand part (event_of_data v local core message) ≡ true
    unfolding part copy mail
    data_at_hand (data_messages.DataE block) waits = ap is_only_data (sym standing.incoming ∙ ap kind_of_data waits)
    data_at_hand (data_messages.Data block acks) waits =
        let kind = sym standing.incoming ∙ ap kind_of_data waits in
        let named : acks ≡ (l.part core.0).wants =
        subst (λ (m : Option DataMessage). IfSome m (λ message. named_by message ≡ (l.part core.0).wants)) waits
        standing.named in
        let counts = standing.counted (data_while_waiting v.exclusive (length v.caches) l some_core most reached core.0
        below (ap is_no_data kind)) in
        rw (kind, eq-eqb acks (l.part core.0).wants named, eq-eqb copy.counted (l.part core.0).counted counts) refl

    -- Where a copy waits, it is in its array.
    stands_there : is_waiting copy.state ≡ true → (way : ℕ) × (stands_at v local core ≡ Some way)
    unfolding copy
    stands_there waits = by (stands_at v local core) refl
      where
        by : (way : Option ℕ) → stands_at v local core ≡ way
            → (way : ℕ) × (stands_at v local core ≡ Some way)
        by (Some way) known = (way, known)
        by None known =
            absurd (cc (subst IsSome (ap (option_map (λ slot. slot.value))
            (found_none (holds local) (slots_at (cache_at v core).array local) known))
            (waiting core local below inside waits)))

    by_data : (event : CacheEvent) (row : Row) → row_of copy.state event ≡ row → is_entry row ≡ true
        → is_no_data part.look.incoming ≡ false → by_data_row v local core row ≡ deliveries.Broken cell → ⊥
    unfolding part copy
    by_data event rows.NoEntry known entry waits is = true≢false (sym entry)
    by_data event rows.Blocked known entry waits is = absurd (cc is)
    by_data event (rows.Go next sent) known entry waits is =
        let early : asks v local core ≡ false =
        not_asking ((reached_nothing_early v.exclusive (length v.caches) l some_core most reached core.0
        below).data_taken
        waits) in
        let there = stands_there (ap is_waiting standing.state
        ∙ data_while_waiting v.exclusive (length v.caches) l some_core most reached core.0 below waits) in
        let moves : fill_move there.0 next ≡ deliveries.Broken cell =
        sym (ap (λ b. if b then deliveries.Broken cells.Early else fill_at (stands_at v local core) next) early
        ∙ ap (λ way. fill_at way next) there.1) ∙ is in
        absurd (cc moves)

    data_here : plan_of v local (channels.Data core) ≢ deliveries.Broken cell
    unfolding mail part copy
    data_here is = by (core_at (channels_at v local) core.0).data refl is
      where
        by : (message : Option DataMessage) → (core_at (channels_at v local) core.0).data ≡ message
            → data_by v local core message ≡ deliveries.Broken cell → ⊥
        by None waits is = absurd (cc is)
        by (Some message) waits is =
            by_data (event_of_data v local core message) (row_of copy.state (event_of_data v local core message)) refl
            (has_row (event_of_data v local core message) (data_is_message v local core message)
            (data_at_hand message waits))
            (ap is_no_data (sym standing.incoming ∙ ap kind_of_data waits) ∙ data_waits message) is

    -- ---- acknowledgements

    -- An acknowledgement that waits has a row.
    acked : (from : CoreId) → has (core_at (channels_at v local) core.0).acks from.0 ≡ true
        → is_entry (row_of copy.state (cache_events.InvAck copy.wants copy.counted)) ≡ true
    unfolding part copy
    acked from waits =
        let from_below = stands.acks.senders core.0 from.0 waits in
        let owed = sym (stands.acks.waits core.0 from.0 below from_below) ∙ waits in
        let entry = (reached_has_rows v.exclusive (length v.caches) l some_core most reached).ack core.0 from.0 below
        from_below owed in
        let waiting_now = entry_waits (l.part core.0).look.state (l.part core.0).wants (l.part core.0).counted entry in
        subst (λ r. is_entry r ≡ true)
        (sym (ap (λ k. row_of copy.state (cache_events.InvAck copy.wants k)) (standing.counted waiting_now)
        ∙ ack_row-same copy.state copy.wants (l.part core.0).wants (l.part core.0).counted
        (λ counts. standing.wants (ap is_counting (sym standing.state) ∙ counts))
        ∙ ap (λ s. row_of s (cache_events.InvAck (l.part core.0).wants (l.part core.0).counted)) standing.state)) entry

    by_ack : (n k : ℕ) (row : Row) → row_of copy.state (cache_events.InvAck n k) ≡ row → is_entry row ≡ true
        → by_ack_row v local core row ≡ deliveries.Broken cell → ⊥
    by_ack n k rows.NoEntry known entry is = true≢false (sym entry)
    by_ack n k rows.Blocked known entry is = absurd (cc is)
    by_ack n k (rows.Go next sent) known entry is =
        let there = stands_there (entry_waits copy.state n k (ap is_entry known ∙ entry)) in
        let moves : ack_move there.0 next ≡ deliveries.Broken cell =
        sym (ap (λ way. acknowledge_at way next) there.1) ∙ is in
        absurd (cc moves)

    ack_here : (from : CoreId) → plan_of v local (channels.Ack core from) ≢ deliveries.Broken cell
    unfolding copy
    ack_here from is = by (has (core_at (channels_at v local) core.0).acks from.0) refl is
      where
        by : (waits : Bool) → has (core_at (channels_at v local) core.0).acks from.0 ≡ waits
            → (if waits then by_ack_row v local core (row_of copy.state (cache_events.InvAck copy.wants copy.counted))
            else deliveries.Nothing) ≡ deliveries.Broken cell → ⊥
        by false waits is = absurd (cc is)
        by true waits is =
            by_ack copy.wants copy.counted (row_of copy.state (cache_events.InvAck copy.wants copy.counted)) refl
            (acked from waits) is

  -- ---- any channel

  nobody : (core : CoreId) → length v.caches ≤ core.0 → core_at (channels_at v local) core.0 ≡ no_messages
  nobody core past = nobody_at (channels_at v local) core.0 (rw size past)

  channel_unbroken : (channel : Channel) → 0 < length v.caches → plan_of v local channel ≢ deliveries.Broken cell
  channel_unbroken (channels.Req core) some is = request_unbroken core is
  channel_unbroken channels.Home some is = home_unbroken some is
  channel_unbroken (channels.Fwd core) some is =
      elim (cases_lt core.0 (length v.caches)) [
        | inl below ↦ forwarded_here core below is
        | inr past ↦
            let nothing : deliveries.Nothing ≡ deliveries.Broken cell =
            ap (λ (m : CoreChannels). forwarded_by v local core (slice_get m.forwarded 0)) (sym (nobody core past))
            ∙ is in
            absurd (cc nothing)
      ]
  channel_unbroken (channels.Data core) some is =
      elim (cases_lt core.0 (length v.caches)) [
        | inl below ↦ data_here core below is
        | inr past ↦
            let nothing : deliveries.Nothing ≡ deliveries.Broken cell =
            ap (λ (m : CoreChannels). data_by v local core m.data) (sym (nobody core past)) ∙ is in
            absurd (cc nothing)
      ]
  channel_unbroken (channels.Ack to from) some is =
      elim (cases_lt to.0 (length v.caches)) [
        | inl below ↦ ack_here to below from is
        | inr past ↦
            let none : has (core_at (channels_at v local) to.0).acks from.0 ≡ false =
            ap (λ (m : CoreChannels). has m.acks from.0) (nobody to past) ∙ has-zero from.0 in
            let nothing : deliveries.Nothing ≡ deliveries.Broken cell = sym (none_planned to from none) ∙ is in
            absurd (cc nothing)
      ]

-- No message of a line is broken, where each copy that waits is in its array.
pub nothing_is_broken : (v : View) → IsShaped v → 0 < length v.caches → length v.caches ≤ 64 → WaitsInArray v
    → AreReached v → NothingIsBroken v
nothing_is_broken v shaped some most waiting all local channel cell inside =
    let line = all local inside in
    channel_unbroken v local shaped inside most waiting line.0 line.1 line.2 cell channel some

-- A copy that waits isn't one that leaves, and so is in its array.
waits_in_array : (v : View) → IsWhole v → WaitsInArray v
waits_in_array v whole core local below inside waits =
    by (array_at (cache_at v core).array local) (buffer_at (cache_at v core).buffer.write_backs local.0)
    ((whole.kept core below).leaving local) waits
  where
    not_leaving : (state : CopyState) → is_leaving state ≡ true → is_waiting state ≡ true → ⊥
    not_leaving copy_states.I leaves waits = cc
    not_leaving _ leaves waits = cc

    by : (held : Option CacheCopy) (leaving : Option Leaving) → IfSome leaving (λ l. is_leaving l.state ≡ true)
        → IsTrue (is_waiting (found_in held leaving).state) → IsSome held
    by (Some held) leaving leaves waits = refl
    by None (Some leaving) leaves waits = absurd (not_leaving leaving.state leaves waits)
    by None None leaves waits = absurd (true≢false (sym waits))

pub whole_is_unbroken : (v : View) → IsWhole v → 0 < length v.caches → AreReached v → NothingIsBroken v
whole_is_unbroken v whole some all =
    nothing_is_broken v whole.shaped some whole.few (waits_in_array v whole) all
