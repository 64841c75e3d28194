-- A request that the directory serves is a step of the line.
use Rattle.std.proofs.Common.{◌≡◌, ℕ, ◌<◌, ◌≤◌, ◌==◌, Bool, true, false, if◌then◌else◌, length, Some, IsTrue, is_some}
use Rattle.std.proofs.Common.{refl, sym, ap, ◌∙◌, subst, arith, true≢false}
use Rattle.address_map.specs.CoreSet.{has}
use Rattle.address_map.specs.declared.address.CoreId.{CoreId}
use Rattle.address_map.specs.declared.address.Local.{Local}
use Rattle.address_map.specs.declared.block.Block.{Block}
use Rattle.directory_table.specs.Law.{forwarded_to, is_named, is_sent_inv, sends_data}
use Rattle.directory_table.specs.Row as Directory
use Rattle.directory_table.specs.declared.row.DirEvent.TheVariants as dir_events
use Rattle.directory_table.specs.declared.row.DirRow.TheVariants as dir_rows
use Rattle.directory_table.specs.declared.row.DirSends.TheVariants as dir_sends
use Rattle.directory_table.specs.declared.row.DirSends.{DirSends}
use Rattle.directory_table.specs.declared.row.DirStep.{DirStep}
use Rattle.directory_table.specs.declared.state.DirEntry.{DirEntry}
use Rattle.slice_core_theory.proofs.Facts.{data_before_counting, inv_without_ack}
use Rattle.slice_core_theory.proofs.Frame.{by_entry}
use Rattle.slice_core_theory.proofs.Places.{acks-with_core, acks_kept}
use Rattle.slice_core_theory.proofs.Served.{MayServe, acks-sent, after_row, asked_here, debt-answered}
use Rattle.slice_core_theory.proofs.Served.{debt-forwarded, debt_if, debt_of, home-sent, owes-served, row_here}
use Rattle.slice_core_theory.proofs.Served.{same_service, serve_stands, served, taken_line, within_here}
use Rattle.slice_core_theory.specs.Stands.{AreReached, LineStands, Stands, copies_at, kind_of_request}
use Rattle.slice_core_spec.specs.Plan.{event_of_request, plan_of}
use Rattle.slice_core_spec.specs.Sends.{directory_sent}
use Rattle.slice_core_spec.specs.Steps.{after_directory, block_in}
use Rattle.slice_core_spec.specs.View.{View, IsShaped, channels_at, entry_at}
use Rattle.protocol_coherence.proofs.Frame.{at_place}
use Rattle.protocol_coherence.proofs.Promises.{reached_has_room}
use Rattle.protocol_coherence.specs.Fit.{is_counting, is_no_data}
use Rattle.protocol_coherence.specs.Line.{Line, Part}
use Rattle.protocol_coherence.specs.LineSteps.{Reached, Step, after, part_after_answer, change_if, entry_of}
use Rattle.protocol_coherence.specs.LineSteps.{part_after_forward, further}
use Rattle.protocol_coherence.specs.LineSteps.{invalidated_by, is_asked_for, serve}
use Rattle.protocol_coherence.specs.Promise.{HasRoomAtService}
use Rattle.slice_core_cache.specs.declared.copy.CacheCopy.{CacheCopy}
use Rattle.slice_queues.specs.Line.{LineChannels, after_take, core_at}
use Rattle.slice_queues.specs.declared.channel.Channel.TheVariants as channels
use Rattle.slice_queues.specs.declared.message.RequestMessage.TheVariants as request_messages
use Rattle.slice_queues.specs.declared.message.RequestMessage.{RequestMessage}
use Rattle.slice_core_spec.specs.Plan.{directory_move}

-- ---- what the line after the row says of the line before

-- A core to which data come counted nothing.
calm : (l : Line) (core : CoreId) (step : DirStep) (sent : DirSends)
    → (is_no_data ((after_row l core (record step { sends = sent })).part core.0).look.incoming ≡ false
    → is_counting ((after_row l core (record step { sends = sent })).part core.0).look.state ≡ false)
    → IsTrue (sends_data sent) → is_counting (l.part core.0).look.state ≡ false
calm l core step dir_sends.Nothing fresh data' = absurd (true≢false (sym data'))
calm l core step (dir_sends.FwdGetS to) fresh data' = absurd (true≢false (sym data'))
calm l core step (dir_sends.FwdGetM to) fresh data' = absurd (true≢false (sym data'))
calm l core step dir_sends.PutAck fresh data' = absurd (true≢false (sym data'))
calm l core step (dir_sends.Data acks) fresh data' =
    let same = at_place l.part core.0 (part_after_answer (dir_sends.Data acks)) in
    sym (ap (λ (p : Part). is_counting p.look.state) same)
    ∙ fresh (ap (λ (p : Part). is_no_data p.look.incoming) same)
calm l core step dir_sends.DataE fresh data' =
    let same = at_place l.part core.0 (part_after_answer dir_sends.DataE) in
    sym (ap (λ (p : Part). is_counting p.look.state) same)
    ∙ fresh (ap (λ (p : Part). is_no_data p.look.incoming) same)
calm l core step (dir_sends.DataAndInv acks set) fresh data' =
    let same = at_place l.part core.0 (part_after_answer (dir_sends.DataAndInv acks set)) in
    sym (state_by (has set core.0) _ ∙ ap (λ (p : Part). is_counting p.look.state) same)
    ∙ fresh (incoming_by (has set core.0) _ ∙ ap (λ (p : Part). is_no_data p.look.incoming) same)
  where
    state_by : (b : Bool) (q : Part)
        → is_counting (change_if b (invalidated_by core.0) q).look.state ≡ is_counting q.look.state
    state_by true q = refl
    state_by false q = refl

    incoming_by : (b : Bool) (q : Part)
        → is_no_data (change_if b (invalidated_by core.0) q).look.incoming ≡ is_no_data q.look.incoming
    incoming_by true q = refl
    incoming_by false q = refl

-- No Inv is sent to a core whose acknowledgement waits.
settled : (l : Line) (core : CoreId) (step : DirStep) (x : ℕ)
    → (((after_row l core step).part x).look.inv ≡ true → ((after_row l core step).part x).look.sent ≡ false)
    → is_sent_inv step.sends x ≡ true → (l.part x).look.sent ≡ false
settled l core step x none named =
    sym (ap (λ (d : Bool × ℕ). d.0) same) ∙ sym (sent_by (is_sent_inv step.sends x))
    ∙ none (ap (λ b. (change_if b (invalidated_by core.0) asking).look.inv) named)
  where
    answering : Part
    answering = change_if (x == core.0) (part_after_answer step.sends) (l.part x)

    asking : Part
    asking = change_if (is_named (forwarded_to step.sends) x) (part_after_forward step.sends core.0) answering

    same : debt_of asking ≡ debt_of (l.part x)
    same =
        debt_if (is_named (forwarded_to step.sends) x) (part_after_forward step.sends core.0) answering
        (debt-forwarded step.sends core.0 answering)
        ∙ debt_if (x == core.0) (part_after_answer step.sends) (l.part x) (debt-answered step.sends (l.part x))

    sent_by : (b : Bool) → (change_if b (invalidated_by core.0) asking).look.sent ≡ asking.look.sent
    sent_by true = refl
    sent_by false = refl

-- What the room of the row says, whatever was asked for.
pub room_here : (cores : ℕ) (l : Line) (core : CoreId) (message : RequestMessage) (sent : DirSends)
    → HasRoomAtService cores l (event_of_request core message) sent →
    HasRoomAtService cores l (dir_events.GetS core) sent
room_here cores l core request_messages.GetS sent room = room
room_here cores l core request_messages.GetM sent room = record {
  data_channel = room.data_channel;
  put_ack = room.put_ack;
  named = room.named;
  forward = room.forward;
  inv = room.inv;
}
room_here cores l core request_messages.PutS sent room = record {
  data_channel = room.data_channel;
  put_ack = room.put_ack;
  named = room.named;
  forward = room.forward;
  inv = room.inv;
}
room_here cores l core (request_messages.PutM block) sent room = record {
  data_channel = room.data_channel;
  put_ack = room.put_ack;
  named = room.named;
  forward = room.forward;
  inv = room.inv;
}

-- ---- the step

module _ (exclusive : Bool) (cores : ℕ) (entry : DirEntry) (line : LineChannels) (copy : ℕ → CacheCopy) (core : CoreId)
    (size : length line.cores ≡ cores) (within : core.0 < cores) (most : cores ≤ 64) (l : Line)
    (reached : Reached exclusive cores l) (stands : LineStands cores entry line copy l) (message : RequestMessage)
    (waits : (core_at line core.0).request ≡ Some message) (step : DirStep)
    (row : Directory.row_of exclusive entry (event_of_request core message) ≡ dir_rows.Go step)
  where
    pub is_asked : is_asked_for l (event_of_request core message) ≡ true
    is_asked = asked_here l core message (sym (ap kind_of_request waits) ∙ (stands.part core.0 within).request)

    pub has_row : Directory.row_of exclusive (entry_of l entry.home) (event_of_request core message) ≡ dir_rows.Go step
    has_row = row_here exclusive entry l entry.home (event_of_request core message) stands.entry_stands ∙ row

    -- The machine's directory serves the request.
    abbrev pub serving : Step exclusive cores l
    serving =
        serve (event_of_request core message) entry.home step (within_here cores core message within) is_asked has_row

    some : 0 < cores
    some = omega (arith, within)

    next : Line
    next = after_row l core step

    next_reached : Reached exclusive cores next
    unfolding next
    next_reached =
        subst (Reached exclusive cores) (same_service l core message step) (further reached serving)

    room : HasRoomAtService cores l (dir_events.GetS core) step.sends
    room =
        room_here cores l core message step.sends ((reached_has_room exclusive cores l some most reached).serve
        (event_of_request core message) entry.home step (within_here cores core message within) is_asked has_row)

    may_serve : MayServe cores l.part core step.sends
    unfolding next
    may_serve = record {
      not_counting = calm l core step step.sends
          (data_before_counting exclusive cores next some most next_reached core.0 within);
      inv = λ x below named. room.inv x below named;
      named = room.named;
      asked = room.forward;
      put_ack = λ put. room.put_ack put;
    }

    -- The line's directory has the row's entry, the channels have what the row sends, and the request is gone.
    pub served_stands : (home block : Block)
        → LineStands cores (record { home = home; sharers = step.sharers; owner = step.owner; state = step.state })
        (directory_sent (after_take line (channels.Req core)) core block step.sends) copy (after serving)
    unfolding next taken_line
    served_stands home block =
        subst (λ after'. LineStands cores
        (record { home = home; sharers = step.sharers; owner = step.owner; state = step.state })
        (directory_sent (after_take line (channels.Req core)) core block step.sends) copy after')
        (sym (same_service l core message step)) (record {
          entry_stands = record { directory = refl; owner = refl; sharers = refl };
          home = ap is_some (home-sent (after_take line (channels.Req core)) core block step.sends) ∙ stands.home;
          part = serve_stands cores line copy l.part core block size within stands.part l step step.sends refl
              may_serve;
          acks = acks_kept cores line (directory_sent (after_take line (channels.Req core)) core block step.sends)
              l.part next.part
              (λ x. acks-sent (after_take line (channels.Req core)) core block step.sends x
              ∙ acks-with_core line core.0 x _ refl)
              (λ to x below. owes-served (is_named (forwarded_to step.sends) x) (x == core.0) (is_sent_inv step.sends x)
              step.sends core.0 (l.part x) to
              (settled l core step x
              (inv_without_ack exclusive cores next some most next_reached x below)))
              stands.acks;
        })

module _ (v : View) (local : Local) (shaped : IsShaped v) (inside : local.0 < v.lines.lines)
    (most : length v.caches ≤ 64) (core : CoreId) (within : core.0 < length v.caches) (step : DirStep)
    (is : plan_of v local (channels.Req core) ≡ directory_move step) where
  -- The machine's line continues by one step, and the slice's line is that line then.
  unfoldable pub directory_step : (l : Line) → Reached v.exclusive (length v.caches) l → Stands v local l
      → (moved : Step v.exclusive (length v.caches) l)
      × LineStands (length v.caches)
      (record {
        home = if step.writes_home then block_in (entry_at v local).home (core_at (channels_at v local) core.0).request
            else (entry_at v local).home;
        sharers = step.sharers;
        owner = step.owner;
        state = step.state;
      })
      (directory_sent (after_take (channels_at v local) (channels.Req core)) core (entry_at v local).home step.sends)
      (copies_at v local) (after moved)
  directory_step l reached stands =
      let s = served step v local core
      (core_at (channels_at v local) core.0).request refl is in (
        serving v.exclusive (length v.caches) (entry_at v local) (channels_at v local) (copies_at v local) core
            (shaped.cores local inside) within most l reached stands s.message s.waits step s.row,
        served_stands v.exclusive (length v.caches) (entry_at v local) (channels_at v local) (copies_at v local) core
            (shaped.cores local inside) within most l reached stands s.message s.waits step s.row
            (if step.writes_home then block_in (entry_at v local).home (core_at (channels_at v local) core.0).request
            else (entry_at v local).home) (entry_at v local).home,
      )

  -- A request that the directory takes leaves each line reached.
  pub reached_directory : AreReached v → AreReached (after_directory v local core step)
  reached_directory all =
      let before = all local inside in
      let taken = directory_step before.0 before.1 before.2 in
      by_entry v local shaped inside all
      (record {
        home = if step.writes_home then block_in (entry_at v local).home (core_at (channels_at v local) core.0).request
            else (entry_at v local).home;
        sharers = step.sharers;
        owner = step.owner;
        state = step.state;
      })
      (directory_sent (after_take (channels_at v local) (channels.Req core)) core (entry_at v local).home step.sends)
      (after taken.0) (further before.1 taken.0) taken.1
