-- A forwarded message that a core takes is a turn of its line.
use Rattle.std.proofs.Common.{◌≡◌, ℕ, ◌<◌, ◌≤◌, ◌==◌, ◌&&◌, ◌||◌, Bool, true, false, drop, if◌then◌else◌, length, Some}
use Rattle.std.proofs.Common.{slice_get, get_or, is_some, refl, sym, ap, ◌∙◌, subst, arith}
use Rattle.std.proofs.Math.Bool.{and-false, or-true}
use Rattle.std.proofs.lemmas.Bool.{eq-eqb, ne_eqb}
use Rattle.address_map.proofs.CoreSets.{has-with_other, has-with_same}
use Rattle.address_map.specs.CoreSet.{has, with}
use Rattle.address_map.specs.declared.address.CoreId.{CoreId}
use Rattle.address_map.specs.declared.address.Local.{Local}
use Rattle.address_map.specs.declared.block.Block.{Block}
use Rattle.cache_table.specs.Law.{sends_data, sends_home, sends_inv_ack}
use Rattle.cache_table.specs.Row.{row_of}
use Rattle.cache_table.specs.declared.row.CacheEvent.TheVariants as cache_events
use Rattle.cache_table.specs.declared.row.CacheSends.TheVariants as cache_sends
use Rattle.cache_table.specs.declared.row.CacheSends.{CacheSends}
use Rattle.cache_table.specs.declared.row.Row.TheVariants as rows
use Rattle.cache_table.specs.declared.state.CopyState.{CopyState}
use Rattle.directory_table.specs.declared.state.DirEntry.{DirEntry}
use Rattle.slice_core_theory.proofs.Facts.{data_before_counting}
use Rattle.slice_core_theory.proofs.ForwardedPart.{acks_apart, message_by, moved, owes-given, owes-turned}
use Rattle.slice_core_theory.proofs.ForwardedPart.{part_after}
use Rattle.slice_core_theory.proofs.Frame.{by_number, by_cache, read-set, with_copy_at}
use Rattle.slice_core_theory.proofs.OwnTurns.{StepStands}
use Rattle.slice_core_theory.proofs.Parts.{IsFirst, data_stand, first_at_hand, first_stands}
use Rattle.slice_core_theory.proofs.Places.{PartsStand, acks-with_core, acks_kept, acks_turned, parts_as, parts_sent}
use Rattle.slice_core_theory.proofs.Places.{parts_turned, with_core-length, with_part_at}
use Rattle.slice_core_theory.proofs.Rows.{answers, sends_for}
use Rattle.slice_core_theory.proofs.Turns.{IsQuiet, turn_stands}
use Rattle.slice_core_theory.specs.Stands.{AcksStand, AreReached, EntryStands, LineStands, PartStands, Stands}
use Rattle.slice_core_theory.specs.Stands.{copies_at}
use Rattle.slice_core_spec.specs.Plan.{event_of_forwarded, plan_of, requester_of}
use Rattle.slice_core_spec.specs.Sends.{cache_sent}
use Rattle.slice_core_spec.specs.Steps.{after_forwarded}
use Rattle.slice_core_spec.specs.View.{View, IsShaped, channels_at, entry_at, cache_at}
use Rattle.slice_core_spec.specs.Within.{HasCopy}
use Rattle.protocol_coherence.proofs.Frame.{at_place}
use Rattle.protocol_coherence.proofs.Promises.{reached_has_room, reached_has_rows}
use Rattle.protocol_coherence.specs.Fit.{is_counting, is_no_data}
use Rattle.protocol_coherence.specs.Line.{Line, Part}
use Rattle.protocol_coherence.specs.LineSteps.{Reached, Step, part_after_row, after, after_turn, change_if, further}
use Rattle.protocol_coherence.specs.LineSteps.{part_with_data}
use Rattle.protocol_coherence.specs.LineSteps.{stands as is_at_hand, stands_ack, turn}
use Rattle.slice_core_cache.proofs.Found.{copy_of-after_advance, copy_of-after_advance_other}
use Rattle.slice_core_cache.specs.Kept.{IsKept}
use Rattle.slice_core_cache.specs.CoreCache.{copy_of, state_of}
use Rattle.slice_core_cache.specs.Steps.{after_advance}
use Rattle.slice_core_cache.specs.declared.copy.CacheCopy.{CacheCopy}
use Rattle.slice_queues.specs.Line.{CoreChannels, LineChannels, after_send, after_take, core_at, no_messages, with_core}
use Rattle.slice_queues.specs.declared.channel.Channel.TheVariants as channels
use Rattle.slice_queues.specs.declared.message.DataMessage.TheVariants as data_messages
use Rattle.slice_queues.specs.declared.message.ForwardedMessage.TheVariants as forwarded_messages
use Rattle.slice_queues.specs.declared.message.ForwardedMessage.{ForwardedMessage}
use Rattle.slice_queues.specs.declared.message.Message.TheVariants as messages
use Rattle.slice_core_spec.specs.Plan.{forwarded_move}

-- ---- the line

module _ (exclusive : Bool) (cores : ℕ) (entry : DirEntry) (queues : LineChannels) (copy : ℕ → CacheCopy) (line : Line)
    (core : CoreId) (next : CopyState) (block : Block) (some : 0 < cores) (most : cores ≤ 64)
    (reached : Reached exclusive cores line) (stands : LineStands cores entry queues copy line)
    (size : length queues.cores ≡ cores) (within : core.0 < cores) where
  there : core.0 < length queues.cores
  there = subst (λ n. core.0 < n) (sym size) within

  -- the core's channels once the message is taken, and the line's
  abbrev pub mail_here : CoreChannels
  mail_here = record (core_at queues core.0) { forwarded = drop 1 (core_at queues core.0).forwarded }

  abbrev pub queues_here : LineChannels
  queues_here = with_core queues core.0 mail_here

  abbrev pub copies_here : ℕ → CacheCopy
  copies_here = with_copy_at copy core.0 (moved (copy core.0) next)

  module _ (message : ForwardedMessage) (waits : slice_get (core_at queues core.0).forwarded 0 ≡ Some message)
      (row : row_of (copy core.0).state (event_of_forwarded message) ≡ rows.Go next (sends_for message)) where
    abbrev change : Part → Part
    change = part_after_row (event_of_forwarded message) 0 next (sends_for message)

    -- the parts after the core's own turn
    abbrev turned : ℕ → Part
    turned = with_part_at line.part core.0 change

    abbrev pub turned_line : Line
    turned_line = after_turn line core.0 (event_of_forwarded message) next (sends_for message)

    pub first : IsFirst message (line.part core.0)
    first = first_stands (copy core.0) (core_at queues core.0) (line.part core.0) message waits
        (stands.part core.0 within)

    pub at_hand : is_at_hand (line.part core.0) (event_of_forwarded message) ≡ true
    at_hand = first_at_hand message (line.part core.0) first

    pub row_here : row_of (line.part core.0).look.state (event_of_forwarded message) ≡ rows.Go next (sends_for message)
    row_here = ap (λ s. row_of s (event_of_forwarded message)) (sym (stands.part core.0 within).state) ∙ row

    abbrev pub message_step : Step exclusive cores line
    message_step = turn core.0 (event_of_forwarded message) next (sends_for message) within at_hand row_here

    own : PartStands (moved (copy core.0) next) mail_here (change (line.part core.0))
    own = part_after (copy core.0) (core_at queues core.0) (line.part core.0) message next first
        (answers message (line.part core.0).look.state next (sends_for message) row_here) (stands.part core.0 within)

    turned_stand : PartsStand cores queues_here copies_here turned
    turned_stand = parts_turned cores queues copy line.part core.0 (moved (copy core.0) next) mail_here change there own
        stands.part

    entry_after : EntryStands entry turned_line
    entry_after = record {
      directory = stands.entry_stands.directory;
      owner = stands.entry_stands.owner;
      sharers = stands.entry_stands.sharers;
    }

    -- A Put-Ack: nothing is sent.
    quiet_stands : IsQuiet (sends_for message) → LineStands cores entry queues_here copies_here turned_line
    quiet_stands quiet =
        turn_stands cores entry queues copy line core.0 (event_of_forwarded message) next (sends_for message)
        (moved (copy core.0) next) mail_here there quiet refl own stands

    -- Data for the core that a forwarded request names.
    module _ (requester : CoreId) (named : requester.0 ≡ (line.part core.0).names)
        (gives : sends_data (sends_for message) ≡ true) (owes : sends_inv_ack (sends_for message) ≡ false) where
      abbrev pub queues_sent : LineChannels
      queues_sent = after_send queues_here (channels.Data requester) (messages.Data (data_messages.Data block 0))

      pub below : requester.0 < cores
      below =
          let room = (reached_has_room exclusive cores line some most reached).turn core.0
          (event_of_forwarded message) next (sends_for message) within at_hand row_here in
          subst (λ n. n < cores) (sym named) (room.named gives)

      given_here : turned_line.part requester.0 ≡ part_with_data (turned requester.0)
      given_here =
          ap (λ b. change_if b part_with_data (turned requester.0))
          (ap (λ b. b && requester.0 == (line.part core.0).names) gives
          ∙ eq-eqb requester.0 (line.part core.0).names named)

      not_counting : is_counting (turned requester.0).look.state ≡ false
      not_counting =
          sym (ap (λ (p : Part). is_counting p.look.state) given_here)
          ∙ data_before_counting exclusive cores turned_line some most (further reached message_step) requester.0 below
          (ap (λ (p : Part). is_no_data p.look.incoming) given_here)

      given_stand : PartsStand cores queues_sent copies_here turned_line.part
      given_stand =
          parts_as cores queues_sent copies_here (with_part_at turned requester.0 part_with_data) turned_line.part
          (λ x within_x.
          ap (λ b. change_if (b && x == (line.part core.0).names) part_with_data (turned x)) gives
          ∙ ap (λ n. change_if (x == n) part_with_data (turned x)) (sym named))
          (parts_sent cores queues_here copies_here turned requester.0
          (record (core_at queues_here requester.0) { «data» = Some (data_messages.Data block 0) }) part_with_data
          (subst (λ n. requester.0 < n) (sym (with_core-length queues core.0 mail_here ∙ size)) below)
          (data_stand (copies_here requester.0) (core_at queues_here requester.0) (turned requester.0)
          (data_messages.Data block 0) not_counting (turned_stand requester.0 below))
          turned_stand)

      given_acks : AcksStand cores queues_sent turned_line.part
      given_acks =
          acks_kept cores queues queues_sent line.part turned_line.part
          (λ x. acks-with_core queues_here requester.0 x _ refl ∙ acks-with_core queues core.0 x mail_here refl)
          (λ to from within_from.
          owes-given (sends_data (sends_for message) && from == (line.part core.0).names) (turned from) to
          ∙ acks_turned line.part core.0 change
          (λ y. owes-turned message next (sends_for message) (line.part core.0) y owes) to from)
          stands.acks

      -- The data alone, or the block home as well.
      given_stands : (queues_at : LineChannels) → queues_at.cores ≡ queues_sent.cores
          → is_some queues_at.home ≡ (sends_home (sends_for message) || line.home)
          → LineStands cores entry queues_at copies_here turned_line
      given_stands queues_at same home = record {
        entry_stands = entry_after;
        home = home;
        part = λ x within_x.
            subst (λ c. PartStands (copies_here x) (get_or c x no_messages) (turned_line.part x)) (sym same)
            (given_stand x within_x);
        acks = record {
          waits = λ to from. subst (λ c. to < cores → from < cores
              → has (get_or c to no_messages).acks from ≡ stands_ack (turned_line.part from) to) (sym same)
              (given_acks.waits to from);
          senders = λ to from. subst (λ c. has (get_or c to no_messages).acks from ≡ true → from < cores) (sym same)
              (given_acks.senders to from);
        };
      }

  -- The acknowledgement of an Inv, for the core that it names.
  module _ (requester : CoreId)
      (waits : slice_get (core_at queues core.0).forwarded 0 ≡ Some (forwarded_messages.Inv requester))
      (row : row_of (copy core.0).state cache_events.Inv ≡ rows.Go next cache_sends.InvAckToRequester) where
    abbrev acks_of : ℕ → ℕ
    acks_of to = (core_at queues_here to).acks

    abbrev mail_acked : CoreChannels
    mail_acked = record (core_at queues_here requester.0) { acks = with (acks_of requester.0) core.0 }

    abbrev pub queues_acked : LineChannels
    queues_acked = after_send queues_here (channels.Ack requester core) messages.InvAck

    abbrev part_acked : Part
    part_acked = part_after_row cache_events.Inv 0 next cache_sends.InvAckToRequester (line.part core.0)

    abbrev line_acked : Line
    line_acked = after_turn line core.0 cache_events.Inv next cache_sends.InvAckToRequester

    due : (line.part core.0).owes_to ≡ requester.0
    due = (first (forwarded_messages.Inv requester) waits row).1

    owes_now : (to : ℕ) → stands_ack part_acked to ≡ ((line.part core.0).owes_to == to)
    owes_now to = ap (λ b. b && (line.part core.0).owes_to == to) (or-true (line.part core.0).look.sent)

    pub there_requester : requester.0 < length queues_here.cores
    there_requester =
        let same = at_place line.part core.0 (part_after_row cache_events.Inv 0 next cache_sends.InvAckToRequester) in
        let named = (reached_has_rows exclusive cores line_acked some most
        (further reached (message_step (forwarded_messages.Inv requester) waits row))).ack_for_core core.0 within
        (ap (λ (p : Part). p.look.sent) same ∙ or-true (line.part core.0).look.sent) in
        subst (λ n. n < length queues_here.cores) (ap (λ (p : Part). p.owes_to) same ∙ due)
        (subst (λ n. (line_acked.part core.0).owes_to < n) (sym (with_core-length queues core.0 mail_here ∙ size))
        named)

    -- Its acknowledgement waits for the core that is due, and the others do as before.
    acks_as : (to from : ℕ) → has (acks_of to) from ≡ has (core_at queues to).acks from
    acks_as to from = ap (λ a. has a from) (acks-with_core queues core.0 to mail_here refl)

    waits_due : (to from : ℕ) → to < cores → from < cores → to ≡ requester.0
        → has (with (acks_of requester.0) core.0) from ≡ stands_ack (line_acked.part from) to
    waits_due to from below within_from same =
        by_number from core.0
        (λ b. has (with (acks_of requester.0) core.0) from
        ≡ stands_ack (change_if b (part_after_row cache_events.Inv 0 next cache_sends.InvAckToRequester)
        (line.part from)) to)
        (λ here.
        ap (λ x. has (with (acks_of requester.0) core.0) x) here
        ∙ has-with_same (acks_of requester.0) core.0 (omega (arith, within, most))
        ∙ sym (ap (λ x. stands_ack (part_after_row cache_events.Inv 0 next cache_sends.InvAckToRequester (line.part x))
        to) here
        ∙ owes_now to ∙ eq-eqb (line.part core.0).owes_to to (due ∙ sym same)))
        (λ away.
        has-with_other (acks_of requester.0) core.0 from away ∙ acks_as requester.0 from
        ∙ ap (λ y. has (core_at queues y).acks from) (sym same) ∙ stands.acks.waits to from below within_from)

    waits_other : (to from : ℕ) → to < cores → from < cores → (to ≡ requester.0 → ⊥)
        → has (acks_of to) from ≡ stands_ack (line_acked.part from) to
    waits_other to from below within_from apart =
        acks_as to from ∙ stands.acks.waits to from below within_from
        ∙ sym (by_number from core.0
        (λ b. stands_ack
        (change_if b (part_after_row cache_events.Inv 0 next cache_sends.InvAckToRequester) (line.part from)) to
        ≡ stands_ack (line.part from) to)
        (λ here. subst
        (λ x. stands_ack (part_after_row cache_events.Inv 0 next cache_sends.InvAckToRequester (line.part x)) to
        ≡ stands_ack (line.part x) to) (sym here)
        (owes_now to ∙ not_due ∙ sym (ap (λ b. (line.part core.0).look.sent && b) not_due
        ∙ and-false (line.part core.0).look.sent)))
        (λ away. refl))
      where
        not_due : ((line.part core.0).owes_to == to) ≡ false
        not_due = ne_eqb (line.part core.0).owes_to to (λ e. apart (sym e ∙ due))

    acked_stands : LineStands cores entry queues_acked copies_here line_acked
    acked_stands = record {
      entry_stands = entry_after (forwarded_messages.Inv requester) waits row;
      home = stands.home;
      part = λ x below.
          subst (λ m. PartStands (copies_here x) m (line_acked.part x))
          (sym (read-set queues_here.cores requester.0 x mail_acked no_messages there_requester))
          (by_number x requester.0
          (λ b. PartStands (copies_here x) (if b then mail_acked else core_at queues_here x) (line_acked.part x))
          (λ same. acks_apart (copies_here x) (core_at queues_here requester.0) (line_acked.part x)
          (with (acks_of requester.0) core.0)
          (subst (λ y. PartStands (copies_here x) (core_at queues_here y) (line_acked.part x)) same
          (turned_stand (forwarded_messages.Inv requester) waits row x below)))
          (λ apart. turned_stand (forwarded_messages.Inv requester) waits row x below));
      acks = record {
        waits = λ to from below within_from.
            ap (λ (m : CoreChannels). has m.acks from)
            (read-set queues_here.cores requester.0 to mail_acked no_messages there_requester)
            ∙ by_number to requester.0
            (λ b. has (if b then mail_acked else core_at queues_here to).acks from
            ≡ stands_ack (line_acked.part from) to)
            (waits_due to from below within_from) (waits_other to from below within_from);
        senders = λ to from waits.
            by_number to requester.0
            (λ b. has (if b then mail_acked else core_at queues_here to).acks from ≡ true → from < cores)
            (λ same h. by_number from core.0 (λ b. from < cores) (λ here. subst (λ n. n < cores) (sym here) within)
            (λ away. stands.acks.senders requester.0 from
            (sym (has-with_other (acks_of requester.0) core.0 from away ∙ acks_as requester.0 from) ∙ h)))
            (λ apart h. stands.acks.senders to from (sym (acks_as to from) ∙ h))
            (sym (ap (λ (m : CoreChannels). has m.acks from)
            (read-set queues_here.cores requester.0 to mail_acked no_messages there_requester)) ∙ waits);
      };
    }

  -- ---- each message

  -- The line after the core's turn, whichever message it takes.
  pub message_stands : (message : ForwardedMessage)
      (waits : slice_get (core_at queues core.0).forwarded 0 ≡ Some message)
      (row : row_of (copy core.0).state (event_of_forwarded message) ≡ rows.Go next (sends_for message))
      → LineStands cores entry
      (cache_sent (after_take queues (channels.Fwd core)) core (requester_of core message) block (sends_for message))
      copies_here (after (message_step message waits row))
  message_stands (forwarded_messages.Inv requester) waits row = acked_stands requester waits row
  message_stands (forwarded_messages.FwdGetS requester) waits row =
      let named = sym (first (forwarded_messages.FwdGetS requester) waits row).2 in
      let sent = queues_sent (forwarded_messages.FwdGetS requester) waits row requester named refl refl in
      given_stands (forwarded_messages.FwdGetS requester) waits row requester named refl refl
      (record sent { home = Some block })
      refl refl
  message_stands (forwarded_messages.FwdGetM requester) waits row =
      let named = sym (first (forwarded_messages.FwdGetM requester) waits row).2 in
      let sent = queues_sent (forwarded_messages.FwdGetM requester) waits row requester named refl refl in
      given_stands (forwarded_messages.FwdGetM requester) waits row requester named refl refl sent refl stands.home
  message_stands forwarded_messages.PutAck waits row =
      quiet_stands forwarded_messages.PutAck waits row (record { gives = refl; home = refl; acknowledges = refl })

-- ---- the slice

module _ (v : View) (local : Local) (core : CoreId) (next : CopyState) (sent : CacheSends) (requester : CoreId)
    (some : 0 < length v.caches) (most : length v.caches ≤ 64) (shaped : IsShaped v) (kept : IsKept (cache_at v core))
    (there : core.0 < length v.caches) (inside : local.0 < v.lines.lines) (has_copy : HasCopy (cache_at v core) local)
    (is : plan_of v local (channels.Fwd core) ≡ forwarded_move next sent requester) where
  abbrev pub channels_after : LineChannels
  channels_after =
      cache_sent (after_take (channels_at v local) (channels.Fwd core)) core requester
      (copy_of (cache_at v core) local).block sent

  -- What holds of the line's channels and copies after each message that its row takes on holds after the one that was
  -- planned.
  pub forwarded_as : (P : LineChannels → (ℕ → CacheCopy) → Type 0)
      → ((message : ForwardedMessage) → slice_get (core_at (channels_at v local) core.0).forwarded 0 ≡ Some message
      → row_of (state_of (cache_at v core) local) (event_of_forwarded message) ≡ rows.Go next (sends_for message)
      → P (cache_sent (after_take (channels_at v local) (channels.Fwd core)) core (requester_of core message)
      (copy_of (cache_at v core) local).block (sends_for message))
      (with_copy_at (copies_at v local) core.0 (moved (copy_of (cache_at v core) local) next)))
      → P channels_after
      (with_copy_at (copies_at v local) core.0 (copy_of (after_advance (cache_at v core) local next) local))
  forwarded_as P each =
      let cache = cache_at v core in
      let block = (copy_of cache local).block in
      let queues = after_take (channels_at v local) (channels.Fwd core) in
      let copies = with_copy_at (copies_at v local) core.0 (moved (copy_of cache local) next) in
      let found = message_by v local core next sent requester
      (slice_get (core_at (channels_at v local) core.0).forwarded 0) refl is in
      let message = found.0 in
      let sends = (answers message (state_of cache local) next sent found.1.row).sends in
      let first = each message found.1.waits
      (subst (λ s. row_of (state_of cache local) (event_of_forwarded message) ≡ rows.Go next s) sends found.1.row) in
      subst (λ now. P channels_after (with_copy_at (copies_at v local) core.0 now))
      (sym (copy_of-after_advance cache local kept next has_copy))
      (subst (λ s. P (cache_sent queues core requester block s) copies) (sym sends)
      (subst (λ r. P (cache_sent queues core r block (sends_for message)) copies) found.1.names first))

  -- The machine's step for a forwarded message that a core takes.
  pub forwarded_step : (line : Line) → Reached v.exclusive (length v.caches) line → Stands v local line
      → StepStands v.exclusive (length v.caches) (entry_at v local) channels_after
      (with_copy_at (copies_at v local) core.0 (copy_of (after_advance (cache_at v core) local next) local)) line
  forwarded_step line reached stands =
      let size = shaped.cores local inside in
      let block = (copy_of (cache_at v core) local).block in
      forwarded_as
      (λ queues copies. StepStands v.exclusive (length v.caches) (entry_at v local) queues copies line)
      (λ message waits row. (
        message_step v.exclusive (length v.caches) (entry_at v local) (channels_at v local) (copies_at v local) line
            core next block some most reached stands size there message waits row,
        message_stands v.exclusive (length v.caches) (entry_at v local) (channels_at v local) (copies_at v local) line
            core next block some most reached stands size there message waits row,
      ))

  -- A slice in which a core takes a forwarded message continues as its lines can.
  pub forwarded_reached : AreReached v → AreReached (after_forwarded v local core next sent requester)
  forwarded_reached all =
      let before = all local inside in
      let step = forwarded_step before.0 before.1 before.2 in
      by_cache v local shaped inside all channels_after core (after_advance (cache_at v core) local next) v.log there
      (λ other within apart. copy_of-after_advance_other (cache_at v core) local kept next other apart)
      (after step.0) (further before.1 step.0) step.1
