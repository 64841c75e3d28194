-- Room for what is sent: one more message finds it, in a line that the machine reaches.
use Rattle.std.proofs.Common.{◌≡◌, ◌≢◌, ℕ, zero, suc, ◌+◌, ◌<◌, ◌≤◌, ◌&&◌, Bool, true, false, not, ◌∷◌, ◌++◌, length}
use Rattle.std.proofs.Common.{filter, if◌then◌else◌, Option, Some, None, is_some, refl, sym, ap, ◌∙◌, subst, arith}
use Rattle.std.proofs.Common.{true≢false}
use Rattle.std.proofs.lemmas.Bool.{and_parts}
use Rattle.std.proofs.lemmas.List.{length-map}
use Rattle.std.specs.List.{list_all, range_with_len}
use Rattle.address_map.specs.CoreSet.{has, members}
use Rattle.address_map.specs.declared.address.CoreId.{CoreId}
use Rattle.directory_table.proofs.RowLaws.{cell-lawful}
use Rattle.directory_table.specs.Law.{IfGo, Invalidates, is_sent_inv, is_shared, is_named, writer}
use Rattle.directory_table.specs.Row as Directory
use Rattle.directory_table.specs.declared.row.DirEvent.{DirEvent}
use Rattle.directory_table.specs.declared.row.DirEvent.TheVariants as dir_events
use Rattle.directory_table.specs.declared.row.DirRow.{DirRow}
use Rattle.directory_table.specs.declared.row.DirRow.TheVariants as dir_rows
use Rattle.directory_table.specs.declared.row.DirSends.{DirSends}
use Rattle.directory_table.specs.declared.row.DirSends.TheVariants as dir_sends
use Rattle.directory_table.specs.declared.row.DirStep.{DirStep}
use Rattle.directory_table.specs.declared.state.DirEntry.{DirEntry}
use Rattle.slice_answer.specs.declared.answer.Cell.{Cell}
use Rattle.slice_answer.specs.declared.answer.Cell.TheVariants as cells
use Rattle.slice_core_theory.proofs.Directory.{room_here}
use Rattle.slice_core_theory.proofs.Served.{asked_here, row_here, within_here}
use Rattle.slice_core_theory.specs.Stands.{LineStands, kind_of_data, kind_of_request, queued_forward, queued_inv}
use Rattle.slice_core_theory.specs.Stands.{queued_put_ack}
use Rattle.slice_core_spec.proofs.RoomLaws.{takes-from}
use Rattle.slice_core_spec.specs.Plan.{by_directory_row, event_of_request}
use Rattle.slice_core_spec.specs.Sends.{directory_room, takes, takes_invalidations}
use Rattle.protocol_coherence.proofs.Promises.{reached_has_room, reached_has_rows}
use Rattle.protocol_coherence.proofs.Steps.{reached_coherent}
use Rattle.protocol_coherence.specs.Fit.{is_no_data, is_no_forward, is_no_request}
use Rattle.protocol_coherence.specs.Line.{Forward, fwd_get_m, fwd_get_s, no_forward, Line}
use Rattle.protocol_coherence.specs.LineSteps.{Reached, entry_of, is_asked_for}
use Rattle.protocol_coherence.specs.Promise.{HasRoomAtService, has_room_for_put_ack, is_directory_entry}
use Rattle.slice_core_cache.specs.declared.copy.CacheCopy.{CacheCopy}
use Rattle.slice_queues.specs.Line.{LineChannels, core_at}
use Rattle.slice_queues.specs.declared.channel.Channel.TheVariants as channels
use Rattle.slice_queues.specs.declared.message.DataMessage.{DataMessage}
use Rattle.slice_queues.specs.declared.message.DataMessage.TheVariants as data_messages
use Rattle.slice_queues.specs.declared.message.Message.TheVariants as messages
use Rattle.slice_queues.specs.declared.message.RequestMessage.{RequestMessage}
use Rattle.slice_queues.specs.declared.message.RequestMessage.TheVariants as request_messages
use Rattle.slice_answer.specs.declared.answer.Delivery.TheVariants as deliveries
use Rattle.slice_core_spec.specs.Plan.{directory_move}

-- ---- room

no_data_waits : (waiting : Option DataMessage) → is_no_data (kind_of_data waiting) ≡ true → waiting ≡ None
no_data_waits None none = refl
no_data_waits (Some (data_messages.Data block acks)) none = absurd (true≢false (sym none))
no_data_waits (Some (data_messages.DataE block)) none = absurd (true≢false (sym none))

pub no_request_waits : (waiting : Option RequestMessage)
    → is_no_request (kind_of_request waiting) ≡ true → waiting ≡ None
no_request_waits None none = refl
no_request_waits (Some request_messages.GetS) none = absurd (true≢false (sym none))
no_request_waits (Some request_messages.GetM) none = absurd (true≢false (sym none))
no_request_waits (Some request_messages.PutS) none = absurd (true≢false (sym none))
no_request_waits (Some (request_messages.PutM block)) none = absurd (true≢false (sym none))

-- One more message finds room after these slots.
short_slots : (inv : Bool) (asked : Forward) (put_ack : Bool) (owes_to names : ℕ)
    → (not put_ack && not (inv && not (is_no_forward asked))) ≡ true
    → length (queued_inv inv owes_to ++ (queued_forward asked names ++ queued_put_ack put_ack)) < 2
short_slots inv asked true owes_to names room = absurd (true≢false (sym room))
short_slots true no_forward false owes_to names room = omega arith
short_slots true fwd_get_s false owes_to names room = absurd (true≢false (sym room))
short_slots true fwd_get_m false owes_to names room = absurd (true≢false (sym room))
short_slots false no_forward false owes_to names room = omega arith
short_slots false fwd_get_s false owes_to names room = omega arith
short_slots false fwd_get_m false owes_to names room = omega arith

-- Where an Inv or a forwarded request finds room, a Put-Ack would.
room_as_inv : (inv none put_ack : Bool) → (not inv && none && not put_ack) ≡ true
    → (not put_ack && not (inv && not none)) ≡ true
room_as_inv inv none true room = absurd (true≢false (sym (and_parts (not inv && none) false room).1))
room_as_inv true none false room = absurd (true≢false (sym room))
room_as_inv false none false room = refl

room_as_forward : (inv none put_ack : Bool) → (none && not put_ack) ≡ true
    → (not put_ack && not (inv && not none)) ≡ true
room_as_forward inv true true room = absurd (true≢false (sym room))
room_as_forward inv false put_ack room = absurd (true≢false (sym room))
room_as_forward true true false room = refl
room_as_forward false true false room = refl

-- Each number of a range that passes the one test passes the other.
all_of_range : (p q : ℕ → Bool) (n a : ℕ) → ((x : ℕ) → x < a + n → q x ≡ true → p x ≡ true)
    → list_all p (filter q (range_with_len a n)) ≡ true
all_of_range p q zero a all = refl
all_of_range p q (suc n) a all =
    by (q a) refl (all_of_range p q n (a + 1) (λ x below. all x (omega (arith, below))))
  where
    by : (b : Bool) → q a ≡ b → list_all p (filter q (range_with_len (a + 1) n)) ≡ true
        → list_all p (if b then a ∷ filter q (range_with_len (a + 1) n) else filter q (range_with_len (a + 1) n))
        ≡ true
    by true named rest = rw (all a (omega arith) named) rest
    by false named rest = rest

module _ (exclusive : Bool) (cores : ℕ) (entry : DirEntry) (line : LineChannels) (copy : ℕ → CacheCopy)
    (size : length line.cores ≡ cores) (some : 0 < cores) (most : cores ≤ 64) (l : Line)
    (reached : Reached exclusive cores l) (stands : LineStands cores entry line copy l) where
  there : (x : ℕ) → x < cores → x < length line.cores
  there x below = subst (λ n. x < n) (sym size) below

  pub takes_data : (core : CoreId) → core.0 < cores → is_no_data (l.part core.0).look.incoming ≡ true
      → takes line (channels.Data core) ≡ true
  takes_data core below none =
      let empty = no_data_waits (core_at line core.0).data
      (ap is_no_data (stands.part core.0 below).incoming ∙ none) in
      takes-from line (channels.Data core) (there core.0 below) (rw empty (omega arith))

  takes_forwarded : (core : CoreId) → core.0 < cores → has_room_for_put_ack (l.part core.0).look ≡ true
      → takes line (channels.Fwd core) ≡ true
  takes_forwarded core below room =
      let part = l.part core.0 in
      let short = short_slots part.look.inv part.look.forward part.look.put_ack part.owes_to part.names room in
      takes-from line (channels.Fwd core) (there core.0 below)
      (rw (length-map (core_at line core.0).forwarded messages.Forwarded, (stands.part core.0 below).queue) short)

  -- ---- the directory

  sharer_within : (event : DirEvent) (step : DirStep) → Directory.row_of exclusive (entry_of l entry.home) event
      ≡ dir_rows.Go step → (x : ℕ) → x < 64 → is_sent_inv step.sends x ≡ true → x < cores
  sharer_within event step row x below named =
      let kept = reached_coherent exclusive cores l some most reached in
      let law : Invalidates l.directory l.sharers event step.sends =
      subst (λ (r : DirRow). IfGo r (λ next owns shares se w. Invalidates l.directory l.sharers event se)) row
      (cell-lawful exclusive l.directory l.owner l.sharers event).invalidated in
      let all = sym (law.each x below) ∙ named in
      kept.1.entry.sharers_within x below
      (and_parts (is_shared l.directory && is_some (writer event)) (has l.sharers x)
      (and_parts (is_shared l.directory && is_some (writer event) && has l.sharers x)
      (not (is_named (writer event) x)) all).0).1

  room_for : (core : CoreId) → core.0 < cores → (sent : DirSends)
      → ((x : ℕ) → x < 64 → is_sent_inv sent x ≡ true → x < cores)
      → HasRoomAtService cores l (dir_events.GetS core) sent
      → directory_room line core sent ≡ true
  unfolding takes_invalidations members
  room_for core below dir_sends.Nothing inside room = refl
  room_for core below (dir_sends.Data acks) inside room = takes_data core below (room.data_channel refl)
  room_for core below dir_sends.DataE inside room = takes_data core below (room.data_channel refl)
  room_for core below (dir_sends.DataAndInv acks set) inside room =
      rw (takes_data core below (room.data_channel refl))
      (all_of_range (λ x. takes line (channels.Fwd (record { 0 = x }))) (has set) 64 0 (λ x small named.
      let x_below = inside x (omega (arith, small)) named in
      takes_forwarded (record { 0 = x }) x_below
      (room_as_inv (l.part x).look.inv (is_no_forward (l.part x).look.forward) (l.part x).look.put_ack
      (room.inv x x_below named))))
  room_for core below (dir_sends.FwdGetS owner) inside room =
      takes_forwarded owner room.named
      (room_as_forward (l.part owner.0).look.inv (is_no_forward (l.part owner.0).look.forward)
      (l.part owner.0).look.put_ack room.forward)
  room_for core below (dir_sends.FwdGetM owner) inside room =
      takes_forwarded owner room.named
      (room_as_forward (l.part owner.0).look.inv (is_no_forward (l.part owner.0).look.forward)
      (l.part owner.0).look.put_ack room.forward)
  room_for core below dir_sends.PutAck inside room = takes_forwarded core below (room.put_ack refl)

  pub request_row : (core : CoreId) (message : RequestMessage) → core.0 < cores
      → (core_at line core.0).request ≡ Some message → (cell : Cell)
      → by_directory_row line core (Directory.row_of exclusive entry (event_of_request core message))
      ≢ deliveries.Broken cell
  request_row core message below waits cell is =
      by (Directory.row_of exclusive entry event) refl is
    where
      event : DirEvent
      event = event_of_request core message

      asked : is_asked_for l event ≡ true
      asked = asked_here l core message (sym (ap kind_of_request waits) ∙ (stands.part core.0 below).request)

      same : Directory.row_of exclusive (entry_of l entry.home) event ≡ Directory.row_of exclusive entry event
      same = row_here exclusive entry l entry.home event stands.entry_stands

      has_row : (row : DirRow) → Directory.row_of exclusive entry event ≡ row → is_directory_entry row ≡ true
      has_row row known =
          subst (λ r. is_directory_entry r ≡ true) (same ∙ known)
          ((reached_has_rows exclusive cores l some most reached).serve event entry.home
          (within_here cores core message below) asked)

      by : (row : DirRow) → Directory.row_of exclusive entry event ≡ row
          → by_directory_row line core row ≡ deliveries.Broken cell → ⊥
      by dir_rows.NoEntry known is = true≢false (sym (has_row dir_rows.NoEntry known))
      by dir_rows.Blocked known is = absurd (cc is)
      by (dir_rows.Go step) known is =
          let room = room_for core below step.sends (sharer_within event step (same ∙ known))
          (room_here cores l core message step.sends ((reached_has_room exclusive cores l some most reached).serve event
          entry.home step (within_here cores core message below) asked (same ∙ known))) in
          let moves : directory_move step ≡ deliveries.Broken cell =
          ap (λ b. if b then directory_move step else deliveries.Broken cells.Full) (sym room) ∙ is in
          absurd (cc moves)
