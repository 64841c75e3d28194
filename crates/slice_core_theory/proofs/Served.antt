-- What the directory sends for a request: the row that was planned, the line after it, and what each answer needs.
use Rattle.std.proofs.Common.{◌≡◌, ℕ, ◌<◌, ◌==◌, ◌&&◌, Bool, true, false, not, [], ◌∷◌, ◌++◌, if◌then◌else◌, length}
use Rattle.std.proofs.Common.{Option, Some, None, IfSome, IsTrue, inl, inr, refl, sym, ap, ◌∙◌, subst}
use Rattle.std.proofs.lemmas.Bool.{and_parts, cases_lt}
use Rattle.std.proofs.lemmas.List.{get_or_past}
use Rattle.std.proofs.lemmas.List.FromFn.{length-map-range_with_len}
use Rattle.address_map.specs.CoreSet.{has}
use Rattle.address_map.specs.declared.address.CoreId.{CoreId}
use Rattle.address_map.specs.declared.address.Local.{Local}
use Rattle.address_map.specs.declared.block.Block.{Block}
use Rattle.directory_table.specs.Law.{acknowledges_put, forwarded_to, is_sent_inv, requester, sends_data}
use Rattle.directory_table.specs.Row as Directory
use Rattle.directory_table.specs.Row.{cell}
use Rattle.directory_table.specs.declared.row.DirEvent.{DirEvent}
use Rattle.directory_table.specs.declared.row.DirEvent.TheVariants as dir_events
use Rattle.directory_table.specs.declared.row.DirRow.{DirRow}
use Rattle.directory_table.specs.declared.row.DirRow.TheVariants as dir_rows
use Rattle.directory_table.specs.declared.row.DirSends.{DirSends}
use Rattle.directory_table.specs.declared.row.DirSends.TheVariants as dir_sends
use Rattle.directory_table.specs.declared.row.DirStep.{DirStep}
use Rattle.directory_table.specs.declared.state.DirEntry.{DirEntry}
use Rattle.slice_answer.specs.declared.answer.Cell.TheVariants as cells
use Rattle.slice_core_theory.proofs.Frame.{by_number}
use Rattle.slice_core_theory.proofs.Parts.{data_stand, forward_stands, inv_stands, put_ack_stands, request_for}
use Rattle.slice_core_theory.proofs.Parts.{request_stands, with_data, with_forward, with_request}
use Rattle.slice_core_theory.proofs.Places.{PartsStand, acks-with_core, change-twice, parts_as, parts_sent}
use Rattle.slice_core_theory.proofs.Places.{with_core-length, with_part_at}
use Rattle.slice_core_theory.specs.Stands.{EntryStands, PartStands, kind_of_request}
use Rattle.slice_core_spec.specs.Plan.{by_directory_row, event_of_request, request_by}
use Rattle.slice_core_spec.specs.Sends.{directory_room, directory_sent}
use Rattle.slice_core_spec.specs.View.{View, channels_at, entry_at}
use Rattle.protocol_coherence.proofs.Frame.{at_place}
use Rattle.protocol_coherence.specs.Fit.{is_counting, is_get_m, is_get_s, is_no_forward, is_put_m, is_put_s}
use Rattle.protocol_coherence.specs.Line.{Forward, Line, Part, fwd_get_m, fwd_get_s}
use Rattle.protocol_coherence.specs.LineSteps.{IsWithin, after_service, part_after_answer, change_if, entry_of}
use Rattle.protocol_coherence.specs.LineSteps.{part_after_forward}
use Rattle.protocol_coherence.specs.LineSteps.{invalidated_by, is_asked_for, stands_ack}
use Rattle.protocol_coherence.specs.Promise.{has_room_for_forward, has_room_for_inv, has_room_for_put_ack}
use Rattle.slice_core_cache.specs.declared.copy.CacheCopy.{CacheCopy}
use Rattle.slice_queues.proofs.InvalidateLaws.{core_at-after_invalidating}
use Rattle.slice_queues.specs.Line.{CoreChannels, LineChannels, after_invalidating, after_send, after_take, core_at}
use Rattle.slice_queues.specs.Line.{no_messages, with_invalidation}
use Rattle.slice_queues.specs.declared.channel.Channel.TheVariants as channels
use Rattle.slice_queues.specs.declared.message.DataMessage.{DataMessage}
use Rattle.slice_queues.specs.declared.message.DataMessage.TheVariants as data_messages
use Rattle.slice_queues.specs.declared.message.ForwardedMessage.TheVariants as forwarded_messages
use Rattle.slice_queues.specs.declared.message.Message.TheVariants as messages
use Rattle.slice_queues.specs.declared.message.RequestMessage.{RequestMessage}
use Rattle.slice_queues.specs.declared.message.RequestMessage.TheVariants as request_messages
use Rattle.slice_answer.specs.declared.answer.Delivery.TheVariants as deliveries
use Rattle.slice_answer.specs.declared.answer.Delivery.{Delivery}
use Rattle.slice_core_spec.specs.Plan.{directory_move}
use Rattle.slice_core_spec.specs.declared.transition.Transition.TheVariants as transitions
use Rattle.slice_core_spec.specs.declared.transition.Transition.{Transition}

-- ---- the row that was planned

-- what is planned by a row that goes on
row_in : Delivery Transition → DirRow
row_in (deliveries.Moved (transitions.Directory step)) = dir_rows.Go step
row_in _ = dir_rows.Blocked

module _ (step : DirStep) where
  planned_by : (line : LineChannels) (core : CoreId) (row : DirRow)
      → by_directory_row line core row ≡ directory_move step → row ≡ dir_rows.Go step
  unfolding row_in
  planned_by line core dir_rows.NoEntry is = absurd (cc is)
  planned_by line core dir_rows.Blocked is = absurd (cc is)
  planned_by line core (dir_rows.Go other) is = by_room (directory_room line core other.sends) is
    where
      by_room : (room : Bool) → (if room then directory_move other else deliveries.Broken cells.Full) ≡ directory_move step
          → dir_rows.Go other ≡ dir_rows.Go step
      by_room true is = ap row_in is
      by_room false is = absurd (cc is)

  -- the request that was served, and its row
  pub record Served (v : View) (local : Local) (core : CoreId) : Type 0 where
    pub message : RequestMessage
    pub waits : (core_at (channels_at v local) core.0).request ≡ Some message
    pub row : Directory.row_of v.exclusive (entry_at v local) (event_of_request core message) ≡ dir_rows.Go step

  pub served : (v : View) (local : Local) (core : CoreId) (request : Option RequestMessage)
      → (core_at (channels_at v local) core.0).request ≡ request
      → request_by v local core request ≡ directory_move step → Served v local core
  served v local core None waits is = absurd (cc is)
  served v local core (Some message) waits is = record {
    message = message;
    waits = waits;
    row = planned_by (channels_at v local) core
        (Directory.row_of v.exclusive (entry_at v local) (event_of_request core message)) is;
  }

-- The machine's directory has the same row.
pub row_here : (exclusive : Bool) (entry : DirEntry) (line : Line) (home : Block) (event : DirEvent)
    → EntryStands entry line
    → Directory.row_of exclusive (entry_of line home) event ≡ Directory.row_of exclusive entry event
row_here exclusive entry line home event stands =
    ap (λ d. cell exclusive d line.owner line.sharers event) (sym stands.directory)
    ∙ ap (λ o. cell exclusive entry.state o line.sharers event) (sym stands.owner)
    ∙ ap (λ s. cell exclusive entry.state entry.owner s event) (sym stands.sharers)

pub asked_here : (line : Line) (core : CoreId) (message : RequestMessage)
    → kind_of_request (Some message) ≡ (line.part core.0).look.request
    → is_asked_for line (event_of_request core message) ≡ true
asked_here line core request_messages.GetS is = sym (ap is_get_s is)
asked_here line core request_messages.GetM is = sym (ap is_get_m is)
asked_here line core request_messages.PutS is = sym (ap is_put_s is)
asked_here line core (request_messages.PutM block) is = sym (ap is_put_m is)

pub within_here : (cores : ℕ) (core : CoreId) (message : RequestMessage) → core.0 < cores
    → IsWithin cores (event_of_request core message)
within_here cores core request_messages.GetS below = below
within_here cores core request_messages.GetM below = below
within_here cores core request_messages.PutS below = below
within_here cores core (request_messages.PutM block) below = below

-- ---- the line after the row

-- Whatever was asked for, what is sent says the rest.
abbrev pub after_row : Line → CoreId → DirStep → Line
after_row line core step = after_service line (dir_events.GetS core) step

pub same_service : (line : Line) (core : CoreId) (message : RequestMessage) (step : DirStep)
    → after_service line (event_of_request core message) step ≡ after_row line core step
same_service line core request_messages.GetS step = refl
same_service line core request_messages.GetM step = refl
same_service line core request_messages.PutS step = refl
same_service line core (request_messages.PutM block) step = refl

pub same_requester : (core : CoreId) (message : RequestMessage) → requester (event_of_request core message) ≡ Some core
same_requester core request_messages.GetS = refl
same_requester core request_messages.GetM = refl
same_requester core request_messages.PutS = refl
same_requester core (request_messages.PutM block) = refl

-- ---- acknowledgements

acks-invalidating : (line : LineChannels) (set : ℕ) (core : CoreId) (x : ℕ)
    → (core_at (after_invalidating line set core) x).acks ≡ (core_at line x).acks
acks-invalidating line set core x =
    elim (cases_lt x (length line.cores)) [
      | inl there ↦
          ap (λ (c : CoreChannels). c.acks) (core_at-after_invalidating line set core x there) ∙ by_case (has set x)
      | inr past ↦
          ap (λ (c : CoreChannels). c.acks)
          (get_or_past (after_invalidating line set core).cores x no_messages
          (rw (length-map-range_with_len (λ k. if has set k then with_invalidation core (core_at line k) else
          core_at line k) 0 (length line.cores)) past)
          ∙ sym (get_or_past line.cores x no_messages past))
    ]
  where
    by_case : (b : Bool) → (if b then with_invalidation core (core_at line x) else core_at line x).acks
        ≡ (core_at line x).acks
    by_case true = refl
    by_case false = refl

pub acks-sent : (line : LineChannels) (core : CoreId) (block : Block) (sent : DirSends) (x : ℕ)
    → (core_at (directory_sent line core block sent) x).acks ≡ (core_at line x).acks
acks-sent line core block dir_sends.Nothing x = refl
acks-sent line core block (dir_sends.Data acks) x = acks-with_core line core.0 x _ refl
acks-sent line core block dir_sends.DataE x = acks-with_core line core.0 x _ refl
acks-sent line core block (dir_sends.DataAndInv acks invalidated) x =
    acks-invalidating (after_send line (channels.Data core) (messages.Data (data_messages.Data block acks))) invalidated
    core x
    ∙ acks-with_core line core.0 x _ refl
acks-sent line core block (dir_sends.FwdGetS owner) x = acks-with_core line owner.0 x _ refl
acks-sent line core block (dir_sends.FwdGetM owner) x = acks-with_core line owner.0 x _ refl
acks-sent line core block dir_sends.PutAck x = acks-with_core line core.0 x _ refl

pub home-sent : (line : LineChannels) (core : CoreId) (block : Block) (sent : DirSends)
    → (directory_sent line core block sent).home ≡ line.home
home-sent line core block dir_sends.Nothing = refl
home-sent line core block _ = refl

-- whether a core's acknowledgement waits, and for whom
abbrev pub debt_of : Part → Bool × ℕ
debt_of part = (part.look.sent, part.owes_to)

-- What a core is sent says nothing of its own acknowledgement.
pub debt-answered : (sent : DirSends) (part : Part) → debt_of (part_after_answer sent part) ≡ debt_of part
debt-answered dir_sends.Nothing part = refl
debt-answered _ part = refl

pub debt-forwarded : (sent : DirSends) (core : ℕ) (part : Part) → debt_of (part_after_forward sent core part)
    ≡ debt_of part
debt-forwarded dir_sends.Nothing core part = refl
debt-forwarded _ core part = refl

pub debt_if : (b : Bool) (change : Part → Part) (part : Part) → debt_of (change part) ≡ debt_of part
    → debt_of (change_if b change part) ≡ debt_of part
debt_if true change part same = same
debt_if false change part same = refl

-- A part that the directory serves, by whether it is asked for the line, answered or sent an Inv, says of its
-- acknowledgement what it said, where no Inv comes to a core whose acknowledgement waits.
pub owes-served : (asked asks invalidated : Bool) (sent : DirSends) (core : ℕ) (part : Part) (to : ℕ)
    → (invalidated ≡ true → part.look.sent ≡ false)
    → stands_ack (change_if invalidated (invalidated_by core)
    (change_if asked (part_after_forward sent core) (change_if asks (part_after_answer sent) part))) to
    ≡ stands_ack part to
owes-served asked asks invalidated sent core part to none = by invalidated none
  where
    answering : Part
    answering = change_if asks (part_after_answer sent) part

    asking : Part
    asking = change_if asked (part_after_forward sent core) answering

    same : debt_of asking ≡ debt_of part
    same =
        debt_if asked (part_after_forward sent core) answering (debt-forwarded sent core answering)
        ∙ debt_if asks (part_after_answer sent) part (debt-answered sent part)

    by : (b : Bool) → (b ≡ true → part.look.sent ≡ false)
        → stands_ack (change_if b (invalidated_by core) asking) to ≡ stands_ack part to
    by true none =
        ap (λ b. b && core == to) (ap (λ (d : Bool × ℕ). d.0) same ∙ none refl)
        ∙ sym (ap (λ b. b && part.owes_to == to) (none refl))
    by false none = ap (λ (d : Bool × ℕ). d.0 && d.1 == to) same

-- ---- each answer

-- What an answer needs: data come to a core that counts nothing yet, and a message finds room.
pub record MayServe (cores : ℕ) (part : ℕ → Part) (core : CoreId) (sent : DirSends) : Type 0 where
  pub not_counting : IsTrue (sends_data sent) → is_counting (part core.0).look.state ≡ false
  pub inv : (x : ℕ) → x < cores → is_sent_inv sent x ≡ true → has_room_for_inv (part x).look ≡ true
  pub named : IfSome (forwarded_to sent) (λ owner. owner.0 < cores)
  pub asked : IfSome (forwarded_to sent) (λ owner. IsTrue (has_room_for_forward (part owner.0).look))
  pub put_ack : IsTrue (acknowledges_put sent) → has_room_for_put_ack (part core.0).look ≡ true

module _ (cores : ℕ) (line : LineChannels) (copy : ℕ → CacheCopy) (part : ℕ → Part) (core : CoreId) (block : Block)
    (size : length line.cores ≡ cores) (within : core.0 < cores) (stand : PartsStand cores line copy part) where
  -- the line's channels and parts once the request is taken
  unfoldable pub taken_line : LineChannels
  taken_line = after_take line (channels.Req core)

  taken_part : ℕ → Part
  taken_part = with_part_at part core.0 (with_request None)

  there : core.0 < length line.cores
  there = subst (λ n. core.0 < n) (sym size) within

  inside : (x : ℕ) → x < cores → x < length taken_line.cores
  unfolding taken_line
  inside x below =
      subst (λ n. x < n) (sym (with_core-length line core.0 (record (core_at line core.0) { request = None }) ∙ size))
      below

  take_stands : PartsStand cores taken_line copy taken_part
  unfolding taken_line taken_part
  take_stands =
      parts_sent cores line copy part core.0 (record (core_at line core.0) { request = None }) (with_request None) there
      (request_stands (copy core.0) (core_at line core.0) (part core.0) None (stand core.0 within)) stand

  data_line : DataMessage → LineChannels
  data_line message = after_send taken_line (channels.Data core) (messages.Data message)

  data_part : DataMessage → ℕ → Part
  data_part message x = change_if (x == core.0) (λ p. with_data message (with_request None p)) (part x)

  give_stands : (message : DataMessage) → is_counting (part core.0).look.state ≡ false
      → PartsStand cores (data_line message) copy (data_part message)
  unfolding taken_part data_line data_part
  give_stands message not_counting =
      parts_as cores (data_line message) copy (with_part_at taken_part core.0 (with_data message)) (data_part message)
      (λ x below. change-twice (x == core.0) (with_request None) (with_data message) (part x))
      (parts_sent cores taken_line copy taken_part core.0
      (record (core_at taken_line core.0) { «data» = Some message }) (with_data message) (inside core.0 within)
      (data_stand (copy core.0) (core_at taken_line core.0) (taken_part core.0) message
      (ap (λ (p : Part). is_counting p.look.state) (at_place part core.0 (with_request None)) ∙ not_counting)
      (take_stands core.0 within))
      take_stands)

  -- an Inv to each core of a set
  invalidate_stands : (message : DataMessage) (set : ℕ) → is_counting (part core.0).look.state ≡ false
      → ((x : ℕ) → x < cores → has set x ≡ true → has_room_for_inv (part x).look ≡ true)
      → PartsStand cores (after_invalidating (data_line message) set core) copy
      (λ x. change_if (has set x) (invalidated_by core.0) (data_part message x))
  unfolding data_line data_part taken_line
  invalidate_stands message set not_counting room x below =
      subst (λ m. PartStands (copy x) m (change_if (has set x) (invalidated_by core.0) (data_part message x)))
      (sym (core_at-after_invalidating (data_line message) set core x
      (subst (λ n. x < n) (sym (with_core-length taken_line core.0
      (record (core_at taken_line core.0) { «data» = Some message }))) (inside x below))))
      (by (has set x) refl)
    where
      stands : PartStands (copy x) (core_at (data_line message) x) (data_part message x)
      stands = give_stands message not_counting x below

      by : (b : Bool) → has set x ≡ b
          → PartStands (copy x) (if b then with_invalidation core (core_at (data_line message) x)
          else core_at (data_line message) x) (change_if b (invalidated_by core.0) (data_part message x))
      by true named =
          inv_stands (copy x) (core_at (data_line message) x) (data_part message x) core
          (by_number x core.0
          (λ b. has_room_for_inv (change_if b (λ p. with_data message (with_request None p)) (part x)).look ≡ true)
          (λ same. room x below named) (λ apart. room x below named)) stands
      by false named = stands

  -- a forwarded request to the owner
  forward_to : (kind : Forward) (owner : CoreId) → owner.0 < cores → is_no_forward kind ≡ false
      → has_room_for_forward (part owner.0).look ≡ true
      → PartsStand cores (after_send taken_line (channels.Fwd owner) (messages.Forwarded (request_for kind core))) copy
      (with_part_at taken_part owner.0 (with_forward kind core.0))
  unfolding taken_part
  forward_to kind owner below asks room =
      parts_sent cores taken_line copy taken_part owner.0
      (record (core_at taken_line owner.0) {
        forwarded = (core_at taken_line owner.0).forwarded ++ request_for kind core ∷ [];
      })
      (with_forward kind core.0) (inside owner.0 below)
      (forward_stands (copy owner.0) (core_at taken_line owner.0) (taken_part owner.0) kind core asks
      (by_number owner.0 core.0
      (λ b. has_room_for_forward (change_if b (with_request None) (part owner.0)).look ≡ true)
      (λ same. room) (λ apart. room)) (take_stands owner.0 below))
      take_stands

  -- a Put-Ack
  acknowledge_put : not (part core.0).look.put_ack ≡ true
      → PartsStand cores (after_send taken_line (channels.Fwd core) (messages.Forwarded forwarded_messages.PutAck)) copy
      (λ x. change_if (x == core.0) (part_after_answer dir_sends.PutAck) (part x))
  unfolding taken_part
  acknowledge_put room =
      parts_as cores (after_send taken_line (channels.Fwd core) (messages.Forwarded forwarded_messages.PutAck)) copy
      (with_part_at taken_part core.0 with_put_ack)
      (λ x. change_if (x == core.0) (part_after_answer dir_sends.PutAck) (part x))
      (λ x below. change-twice (x == core.0) (with_request None) with_put_ack (part x))
      (parts_sent cores taken_line copy taken_part core.0
      (record (core_at taken_line core.0) {
        forwarded = (core_at taken_line core.0).forwarded ++ forwarded_messages.PutAck ∷ [];
      })
      with_put_ack (inside core.0 within)
      (put_ack_stands (copy core.0) (core_at taken_line core.0) (taken_part core.0)
      (ap (λ (p : Part). not p.look.put_ack) (at_place part core.0 (with_request None)) ∙ room)
      (take_stands core.0 within))
      take_stands)
    where
      with_put_ack : Part → Part
      with_put_ack p = record p { look = record p.look { put_ack = true } }

  pub serve_stands : (l : Line) (step : DirStep) (sent : DirSends) → l.part ≡ part
      → MayServe cores part core sent
      → PartsStand cores (directory_sent taken_line core block sent) copy
      (after_row l core (record step { sends = sent })).part
  unfolding taken_part data_line data_part
  serve_stands l step dir_sends.Nothing same may = rw same take_stands
  serve_stands l step (dir_sends.Data acks) same may =
      rw same (give_stands (data_messages.Data block acks) (may.not_counting refl))
  serve_stands l step dir_sends.DataE same may =
      rw same (give_stands (data_messages.DataE block) (may.not_counting refl))
  serve_stands l step (dir_sends.DataAndInv acks set) same may =
      rw same (invalidate_stands (data_messages.Data block acks) set (may.not_counting refl) may.inv)
  serve_stands l step (dir_sends.FwdGetS to) same may =
      rw same (forward_to fwd_get_s to may.named refl may.asked)
  serve_stands l step (dir_sends.FwdGetM to) same may =
      rw same (forward_to fwd_get_m to may.named refl may.asked)
  serve_stands l step dir_sends.PutAck same may =
      rw same (acknowledge_put (and_parts _ _ (may.put_ack refl)).0)
