-- A line on the way to where it settles: the core's own part, and the line once the copy has come to its state.
use Rattle.std.proofs.Common.{◌≡◌, ℕ, ◌+◌, ◌<◌, ◌≤◌, ◌==◌, ◌&&◌, min, Bool, true, false, if◌then◌else◌, List, [], ◌∷◌}
use Rattle.std.proofs.Common.{length, Some, None, IfSome, refl, sym, ap, ◌∙◌, subst, arith, true≢false}
use Rattle.std.proofs.Math.Bool.{and-false, or-false}
use Rattle.std.proofs.lemmas.Bool.{and_from, and_parts, eq-eqb, eqb-true, ne_eqb}
use Rattle.address_map.proofs.CoreSets.{has-without_other, has-without_same}
use Rattle.address_map.specs.CoreSet.{has, without}
use Rattle.address_map.specs.declared.address.CoreId.{CoreId}
use Rattle.address_map.specs.declared.block.Block.{Block}
use Rattle.cache_table.specs.CopyState.{is_waiting}
use Rattle.cache_table.specs.Row.{row_of}
use Rattle.cache_table.specs.declared.row.CacheEvent.{CacheEvent}
use Rattle.cache_table.specs.declared.row.CacheEvent.TheVariants as cache_events
use Rattle.cache_table.specs.declared.row.CacheSends.{CacheSends}
use Rattle.cache_table.specs.declared.row.CacheSends.TheVariants as cache_sends
use Rattle.cache_table.specs.declared.row.Row.TheVariants as rows
use Rattle.cache_table.specs.declared.state.CopyState.{CopyState}
use Rattle.cache_table.specs.declared.state.CopyState.TheVariants as copy_states
use Rattle.directory_table.specs.declared.state.DirEntry.{DirEntry}
use Rattle.protocol_coherence.specs.Fit.{is_counting, is_only_data, is_shared_data}
use Rattle.protocol_coherence.specs.Line.{Line, Look, Part, no_data}
use Rattle.protocol_coherence.specs.LineSteps.{Reached, Step, part_after_ack as taken_from, part_after_row, after}
use Rattle.protocol_coherence.specs.LineSteps.{after_ack}
use Rattle.protocol_coherence.specs.LineSteps.{change_if, count, further, stands as is_at_hand, stands_ack}
use Rattle.protocol_coherence.specs.LineSteps.{look_after_take, turn}
use Rattle.slice_core_cache.specs.Perform.{asks_to_write, left_in, settled_state}
use Rattle.slice_core_cache.specs.Steps.{copy_after_ack, settled_copy}
use Rattle.slice_core_cache.specs.declared.copy.CacheCopy.{CacheCopy}
use Rattle.slice_core_theory.proofs.Facts.{counts_fewer, wants_few}
use Rattle.slice_core_theory.proofs.Frame.{by_number, line_as, read-set, with_copy_at}
use Rattle.slice_core_theory.proofs.OwnTurns.{StepStands, own_step}
use Rattle.slice_core_theory.proofs.Places.{acks_turned, parts_turned, with_part_at}
use Rattle.slice_core_theory.proofs.Rows.{IsTaken, ack_row-same, ack-taken, counting-waits, data-taken, only-taken}
use Rattle.slice_core_theory.proofs.Turns.{turn_stands}
use Rattle.slice_core_theory.specs.Stands.{LineStands, PartStands, kind_of_data, named_by, queue_of}
use Rattle.slice_core_spec.specs.Plan.{asks}
use Rattle.slice_core_spec.specs.Steps.{asked_by}
use Rattle.slice_queues.specs.Line.{CoreChannels, LineChannels, after_take, core_at, no_messages, with_core}
use Rattle.slice_queues.specs.declared.channel.Channel.TheVariants as channels
use Rattle.slice_queues.specs.declared.message.DataMessage.{DataMessage}
use Rattle.slice_queues.specs.declared.message.DataMessage.TheVariants as data_messages
use Rattle.slice_queues.specs.declared.message.RequestMessage.TheVariants as request_messages
use Rattle.target_list.specs.Target.{behind_loads}
use Rattle.target_list.specs.declared.target.Target.{Target}

-- ---- the copy

-- A copy stands as well with another block, and without its counts once it waits no more.
settled_stands : (copy : CacheCopy) (block : Block) (mail : CoreChannels) (part : Part) → PartStands copy mail part
    → PartStands (settled_copy copy block copy.state) mail part
settled_stands copy block mail part stands = by (is_waiting copy.state) refl
  where
    by : (b : Bool) → is_waiting copy.state ≡ b
        → PartStands (if b then record copy { block = block; state = copy.state }
        else record { block = block; state = copy.state; wants = 0; counted = 0 }) mail part
    by true waits = record {
      state = stands.state;
      request = stands.request;
      incoming = stands.incoming;
      queue = stands.queue;
      named = stands.named;
      wants = stands.wants;
      counted = stands.counted;
    }
    by false still = record {
      state = stands.state;
      request = stands.request;
      incoming = stands.incoming;
      queue = stands.queue;
      named = stands.named;
      wants = λ counting. absurd (true≢false
          (sym (counting-waits part.look.state counting) ∙ ap is_waiting (sym stands.state) ∙ still));
      counted = λ waits. absurd (true≢false (sym waits ∙ ap is_waiting (sym stands.state) ∙ still));
    }

-- a settled copy's state, and its count where it waited for nothing
pub settled-state : (copy : CacheCopy) (block : Block) (state : CopyState)
    → (settled_copy copy block state).state ≡ state
settled-state copy block state = by (is_waiting copy.state)
  where
    by : (b : Bool) → (if b then record copy { block = block; state = state }
        else record { block = block; state = state; wants = 0; counted = 0 }).state ≡ state
    by true = refl
    by false = refl

pub settled-counted : (copy : CacheCopy) (block : Block) (state : CopyState) → is_waiting copy.state ≡ false
    → (settled_copy copy block state).counted ≡ 0
settled-counted copy block state still =
    ap (λ b. (if b then record copy { block = block; state = state }
    else record { block = block; state = state; wants = 0; counted = 0 }).counted) still

-- A copy that has come to its state stays in it, or asks for the right to write.
pub data Asking (state : CopyState) (targets : List Target) : Type 0 where
  stays : asks_to_write state targets ≡ false → settled_state state (left_in state targets) ≡ state
      → Asking state targets
  asks_on : asks_to_write state targets ≡ true → state ≡ copy_states.S
      → settled_state state (left_in state targets) ≡ copy_states.SM_AD → Asking state targets

pub asking : (state : CopyState) (targets : List Target) → Asking state targets
asking copy_states.S targets = by (behind_loads targets) refl
  where
    by : (left : List Target) → behind_loads targets ≡ left → Asking copy_states.S targets
    by [] is = stays (rw is refl) (rw is refl)
    by (target ∷ rest) is = asks_on (rw is refl) refl (rw is refl)
asking _ targets = stays refl refl

-- ---- the core's own part

-- The core took data, and its row sent nothing.
filled_part : (copy : CacheCopy) (mail : CoreChannels) (part : Part) (event : CacheEvent) (next : CopyState)
    (filled : CacheCopy) → look_after_take event part.look ≡ record part.look { incoming = no_data }
    → is_waiting part.look.state ≡ true → filled.state ≡ next → filled.wants ≡ part.wants
    → filled.counted ≡ copy.counted → PartStands copy mail part
    → PartStands filled (record mail { «data» = None }) (part_after_row event 0 next cache_sends.Nothing part)
filled_part copy mail part event next filled took waited state wants counted stands = record {
  state = state;
  request = stands.request ∙ sym (ap (λ (l : Look). l.request) took);
  incoming = sym (ap (λ (l : Look). l.incoming) took);
  queue = stands.queue ∙ sym (ap (λ (l : Look). queue_of (record part { look = l })) took);
  named = tt;
  wants = λ counting. wants;
  counted = λ waits.
      let more : part.counted ≡ part.counted + 0 = omega arith in
      counted ∙ stands.counted waited ∙ more ∙ sym (ap (λ b. if b then part.counted + 0 else 0) waits);
}

-- The core counted an acknowledgement.
counted_part : (copy : CacheCopy) (mail : CoreChannels) (part : Part) (next : CopyState) (acks : ℕ)
    → is_waiting part.look.state ≡ true → (is_counting next ≡ true → is_counting part.look.state ≡ true)
    → part.counted < 64 → PartStands copy mail part
    → PartStands (copy_after_ack copy next) (record mail { acks = acks })
    (part_after_row (cache_events.InvAck 0 0) 1 next cache_sends.Nothing part)
counted_part copy mail part next acks waited goes_on few stands = record {
  state = refl;
  request = stands.request;
  incoming = stands.incoming;
  queue = stands.queue;
  named = stands.named;
  wants = λ counting. stands.wants (goes_on counting);
  counted = λ waits.
      let same = stands.counted waited in
      let more : min (copy.counted + 1) 255 ≡ part.counted + 1 = omega (arith, same, few) in
      more ∙ sym (ap (λ b. if b then part.counted + 1 else 0) waits);
}

-- An acknowledgement of its own that is taken is no part of a core's copy and channels.
taken_apart : (b : Bool) (copy : CacheCopy) (mail : CoreChannels) (part : Part) → PartStands copy mail part
    → PartStands copy mail (change_if b taken_from part)
taken_apart true copy mail part stands = record {
  state = stands.state;
  request = stands.request;
  incoming = stands.incoming;
  queue = stands.queue;
  named = stands.named;
  wants = stands.wants;
  counted = stands.counted;
}
taken_apart false copy mail part stands = stands

-- ---- the line

-- the event that data are for a core that has counted `counted` acknowledgements, and whether all its targets are loads
abbrev pub data_event : ℕ → Bool → DataMessage → CacheEvent
data_event counted loads (data_messages.Data block acks) = cache_events.Data acks counted
data_event counted loads (data_messages.DataE block) = cache_events.DataE loads

pub data_row-taken : (copy : CacheCopy) (loads : Bool) (message : DataMessage) (next : CopyState) (sent : CacheSends)
    → row_of copy.state (data_event copy.counted loads message) ≡ rows.Go next sent → IsTaken copy.state next sent
data_row-taken copy loads (data_messages.Data block acks) next sent = data-taken acks copy.counted copy.state next sent
data_row-taken copy loads (data_messages.DataE block) next sent = only-taken loads copy.state next sent

-- A line on the way to where it settles: the copy has come to its state, and its message is taken.
module _ (exclusive : Bool) (cores : ℕ) (entry : DirEntry) (queues : LineChannels) (copy : ℕ → CacheCopy) (line : Line)
    (core : CoreId) (some : 0 < cores) (most : cores ≤ 64) (reached : Reached exclusive cores line)
    (stands : LineStands cores entry queues copy line) (size : length queues.cores ≡ cores)
    (within : core.0 < cores) where
  there : core.0 < length queues.cores
  there = subst (λ n. core.0 < n) (sym size) within

  state_here : (line.part core.0).look.state ≡ (copy core.0).state
  state_here = sym (stands.part core.0 within).state

  -- ---- data

  module _ (loads : Bool) (message : DataMessage) (waits : (core_at queues core.0).data ≡ Some message)
      (next : CopyState) (sent : CacheSends)
      (row : row_of (copy core.0).state (data_event (copy core.0).counted loads message) ≡ rows.Go next sent) where
    abbrev event : CacheEvent
    event = data_event (copy core.0).counted loads message

    data_row : IsTaken (copy core.0).state next sent
    data_row = data_row-taken (copy core.0) loads message next sent row

    waited : is_waiting (line.part core.0).look.state ≡ true
    waited = ap is_waiting state_here ∙ data_row.waited

    wanted : named_by message ≡ (line.part core.0).wants
    wanted =
        subst (λ d. IfSome d (λ m. named_by m ≡ (line.part core.0).wants)) waits (stands.part core.0 within).named

    comes : kind_of_data (Some message) ≡ (line.part core.0).look.incoming
    comes = ap kind_of_data (sym waits) ∙ (stands.part core.0 within).incoming

    pub data_at_hand : is_at_hand (line.part core.0) event ≡ true
    data_at_hand = by message comes wanted
      where
        by : (m : DataMessage) → kind_of_data (Some m) ≡ (line.part core.0).look.incoming
            → named_by m ≡ (line.part core.0).wants
            → is_at_hand (line.part core.0) (data_event (copy core.0).counted loads m) ≡ true
        by (data_messages.Data block acks) kind names =
            and_from (is_shared_data (line.part core.0).look.incoming && acks == (line.part core.0).wants)
            ((copy core.0).counted == (line.part core.0).counted)
            (and_from (is_shared_data (line.part core.0).look.incoming) (acks == (line.part core.0).wants)
            (ap is_shared_data (sym kind)) (eq-eqb acks (line.part core.0).wants names))
            (eq-eqb (copy core.0).counted (line.part core.0).counted ((stands.part core.0 within).counted waited))
        by (data_messages.DataE block) kind names = ap is_only_data (sym kind)

    pub data_row_here : row_of (line.part core.0).look.state event ≡ rows.Go next cache_sends.Nothing
    data_row_here =
        ap (λ s. row_of s event) state_here ∙ row ∙ ap (λ s. rows.Go next s) data_row.sends

    taken_here : look_after_take event (line.part core.0).look
        ≡ record (line.part core.0).look { incoming = no_data }
    taken_here = by message
      where
        by : (m : DataMessage) → look_after_take (data_event (copy core.0).counted loads m) (line.part core.0).look
            ≡ record (line.part core.0).look { incoming = no_data }
        by (data_messages.Data block acks) = refl
        by (data_messages.DataE block) = refl

    abbrev pub fill_turn : Step exclusive cores line
    fill_turn = turn core.0 event next cache_sends.Nothing within data_at_hand data_row_here

    -- The copy with the data, whichever targets it has performed.
    pub fill_stands : (filled : CacheCopy) (block : Block) → filled.state ≡ next → filled.wants ≡ named_by message
        → filled.counted ≡ (copy core.0).counted
        → LineStands cores entry (after_take queues (channels.Data core))
        (with_copy_at copy core.0 (settled_copy filled block filled.state)) (after fill_turn)
    fill_stands filled block state wants counted =
        let mail : CoreChannels = record (core_at queues core.0) { «data» = None } in
        turn_stands cores entry queues copy line core.0 event next cache_sends.Nothing
        (settled_copy filled block filled.state) mail there
        (record { gives = refl; home = refl; acknowledges = refl }) refl
        (settled_stands filled block mail (part_after_row event 0 next cache_sends.Nothing (line.part core.0))
        (filled_part (copy core.0) (core_at queues core.0) (line.part core.0) event next filled taken_here waited state
        (wants ∙ wanted) counted (stands.part core.0 within)))
        stands

  -- ---- acknowledgements

  module _ (from : CoreId) (from_within : from.0 < cores) (waits : has (core_at queues core.0).acks from.0 ≡ true)
      (next : CopyState) (sent : CacheSends) (row : row_of (copy core.0).state
      (cache_events.InvAck (copy core.0).wants (copy core.0).counted) ≡ rows.Go next sent) where
    ack_row : IsTaken (copy core.0).state next sent
        × (is_counting next ≡ true → is_counting (copy core.0).state ≡ true)
    ack_row = ack-taken (copy core.0).wants (copy core.0).counted (copy core.0).state next sent row

    waited_ack : is_waiting (line.part core.0).look.state ≡ true
    waited_ack = ap is_waiting state_here ∙ ack_row.0.waited

    goes_on : is_counting next ≡ true → is_counting (line.part core.0).look.state ≡ true
    goes_on counting = ap is_counting state_here ∙ ack_row.1 counting

    pub sender : stands_ack (line.part from.0) core.0 ≡ true
    sender = sym (stands.acks.waits core.0 from.0 within from_within) ∙ waits

    few : (line.part core.0).counted < 64
    few =
        let fewer = counts_fewer exclusive cores line some most reached from.0 from_within core.0 sender in
        let small = wants_few exclusive cores line reached core.0 in omega (arith, fewer, small)

    pub ack_row_here : row_of (line.part core.0).look.state
        (cache_events.InvAck (line.part core.0).wants (line.part core.0).counted) ≡ rows.Go next cache_sends.Nothing
    ack_row_here =
        let own = stands.part core.0 within in
        sym (ap (λ k. row_of (line.part core.0).look.state (cache_events.InvAck (line.part core.0).wants k))
        (own.counted waited_ack))
        ∙ sym (ack_row-same (line.part core.0).look.state (copy core.0).wants (line.part core.0).wants
        (copy core.0).counted own.wants)
        ∙ ap (λ s. row_of s (cache_events.InvAck (copy core.0).wants (copy core.0).counted)) state_here ∙ row
        ∙ ap (λ s. rows.Go next s) ack_row.0.sends

    abbrev acks_left : ℕ
    acks_left = without (core_at queues core.0).acks from.0

    abbrev mail_left : CoreChannels
    mail_left = record (core_at queues core.0) { acks = acks_left }

    abbrev counted_line : Line
    counted_line = after_ack line core.0 from.0 next cache_sends.Nothing

    abbrev change : Part → Part
    change = part_after_row (cache_events.InvAck 0 0) 1 next cache_sends.Nothing

    -- The row sends no acknowledgement of the core's own.
    owes_alike : (x to : ℕ) → stands_ack (with_part_at line.part core.0 change x) to ≡ stands_ack (line.part x) to
    owes_alike x to =
        acks_turned line.part core.0 change
        (λ y. ap (λ b. b && (line.part core.0).owes_to == y) (or-false (line.part core.0).look.sent)) to x

    -- Where its sender is another, or it waits for another, an acknowledgement waits as it did.
    owes_other : (x to : ℕ) → (x ≡ from.0 → to ≡ core.0 → ⊥)
        → stands_ack (counted_line.part x) to ≡ stands_ack (line.part x) to
    owes_other x to apart =
        by_number x from.0
        (λ b. stands_ack (change_if b taken_from (with_part_at line.part core.0 change x)) to
        ≡ stands_ack (line.part x) to)
        (λ here.
        let due = eqb-true (line.part from.0).owes_to core.0
        (and_parts (line.part from.0).look.sent ((line.part from.0).owes_to == core.0) sender).1 in
        let none = ne_eqb (line.part from.0).owes_to to (λ same. apart here (sym same ∙ due)) in
        sym (ap (λ y. stands_ack (line.part y) to) here ∙ ap (λ b. (line.part from.0).look.sent && b) none
        ∙ and-false (line.part from.0).look.sent))
        (λ away. owes_alike x to)

    waits_at : (to x : ℕ) → to < cores → x < cores
        → has (if to == core.0 then mail_left else core_at queues to).acks x ≡ stands_ack (counted_line.part x) to
    waits_at to x below x_within =
        by_number to core.0
        (λ b. has (if b then mail_left else core_at queues to).acks x ≡ stands_ack (counted_line.part x) to)
        (λ same. by_number x from.0
        (λ b. has acks_left x
        ≡ stands_ack (change_if b taken_from (with_part_at line.part core.0 change x)) to)
        (λ here. ap (has acks_left) here ∙ has-without_same (core_at queues core.0).acks from.0)
        (λ away. has-without_other (core_at queues core.0).acks from.0 x away
        ∙ ap (λ y. has (core_at queues y).acks x) (sym same) ∙ stands.acks.waits to x below x_within
        ∙ sym (owes_alike x to)))
        (λ apart. stands.acks.waits to x below x_within ∙ sym (owes_other x to (λ here. apart)))

    abbrev pub count_turn : Step exclusive cores line
    count_turn = count core.0 from.0 next cache_sends.Nothing within from_within sender ack_row_here

    -- The copy with one more acknowledgement counted, whichever targets it has performed.
    pub count_stands : (block : Block)
        → LineStands cores entry (after_take queues (channels.Ack core from))
        (with_copy_at copy core.0 (settled_copy (copy_after_ack (copy core.0) next) block next)) (after count_turn)
    count_stands block =
        let now = settled_copy (copy_after_ack (copy core.0) next) block next in
        let read : (to : ℕ) → core_at (with_core queues core.0 mail_left) to
        ≡ (if to == core.0 then mail_left else core_at queues to) =
        λ to. read-set queues.cores core.0 to mail_left no_messages there in
        record {
          entry_stands = record {
            directory = stands.entry_stands.directory;
            owner = stands.entry_stands.owner;
            sharers = stands.entry_stands.sharers;
          };
          home = stands.home;
          part = λ x below.
              taken_apart (x == from.0) (with_copy_at copy core.0 now x)
              (core_at (with_core queues core.0 mail_left) x) (with_part_at line.part core.0 change x)
              (parts_turned cores queues copy line.part core.0 now mail_left change there
              (settled_stands (copy_after_ack (copy core.0) next) block mail_left (change (line.part core.0))
              (counted_part (copy core.0) (core_at queues core.0) (line.part core.0) next acks_left waited_ack goes_on
              few (stands.part core.0 within))) stands.part x below);
          acks = record {
            waits = λ to x below x_within.
                ap (λ (m : CoreChannels). has m.acks x) (read to) ∙ waits_at to x below x_within;
            senders = λ to x waits_x.
                by_number to core.0
                (λ b. has (if b then mail_left else core_at queues to).acks x ≡ true → x < cores)
                (λ same h. by_number x from.0 (λ b. x < cores)
                (λ here. subst (λ n. n < cores) (sym here) from_within)
                (λ away. stands.acks.senders core.0 x
                (sym (has-without_other (core_at queues core.0).acks from.0 x away) ∙ h)))
                (λ apart h. stands.acks.senders to x h)
                (sym (ap (λ (m : CoreChannels). has m.acks x) (read to)) ∙ waits_x);
          };
        }

  -- ---- the right to write

  -- A shared copy that a write waits for asks for the right to write, once it has come to its state.
  pub ask_step : (now : CacheCopy) → (copy core.0).state ≡ copy_states.S → now.state ≡ copy_states.SM_AD → now.counted
      ≡ 0
      → StepStands exclusive cores entry (asked_by true queues core) (with_copy_at copy core.0 now) line
  ask_step now shared state counted =
      own_step exclusive cores entry queues copy core.0 cache_events.Write copy_states.SM_AD cache_sends.GetM now
      (Some request_messages.GetM)
      line most within there tt (ap (λ s. row_of s cache_events.Write) shared) state refl (λ waits. counted) reached
      stands

-- A line that is reached, with these channels and these copies.
abbrev pub IsAt : Bool → ℕ → DirEntry → LineChannels → (ℕ → CacheCopy) → Type 0
IsAt exclusive cores entry queues copy =
    (line : Line) × Reached exclusive cores line × LineStands cores entry queues copy line

-- Once a copy has come to its state, its line settles by at most one step more.
pub settles : (exclusive : Bool) (cores : ℕ) (entry : DirEntry) (queues : LineChannels) (copy : ℕ → CacheCopy)
    (core : CoreId) (came : CacheCopy) (block : Block) (targets : List Target)
    → 0 < cores → cores ≤ 64 → length queues.cores ≡ cores → core.0 < cores
    → IsAt exclusive cores entry queues (with_copy_at copy core.0 (settled_copy came block came.state))
    → IsAt exclusive cores entry (asked_by (asks_to_write came.state targets) queues core)
    (with_copy_at copy core.0 (settled_copy came block (settled_state came.state (left_in came.state targets))))
settles exclusive cores entry queues copy core came block targets some most size within is =
    by (asking came.state targets)
  where
    first : CacheCopy
    first = settled_copy came block came.state

    last : CopyState → CacheCopy
    last state = settled_copy came block state

    by : Asking came.state targets
        → IsAt exclusive cores entry (asked_by (asks_to_write came.state targets) queues core)
        (with_copy_at copy core.0 (last (settled_state came.state (left_in came.state targets))))
    by (stays none same) =
        rw (none, same) is
    by (asks_on asks shared state) =
        let here : with_copy_at copy core.0 first core.0 ≡ first =
        ap (λ b. if b then first else copy core.0) (eq-eqb core.0 core.0 refl) in
        let idle : is_waiting came.state ≡ false = ap is_waiting shared in
        let asked = ask_step exclusive cores entry queues (with_copy_at copy core.0 first) is.0 core some most is.1 is.2
        size within (last copy_states.SM_AD)
        (ap (λ (c : CacheCopy). c.state) here ∙ settled-state came block came.state ∙ shared)
        (settled-state came block copy_states.SM_AD) (settled-counted came block copy_states.SM_AD idle) in
        rw (asks, state) (
          after asked.0,
          further is.1 asked.0,
          line_as cores entry (asked_by true queues core)
              (with_copy_at (with_copy_at copy core.0 first) core.0 (last copy_states.SM_AD))
              (with_copy_at copy core.0 (last copy_states.SM_AD)) (after asked.0)
              (λ x below. by_number x core.0
              (λ b. (if b then last copy_states.SM_AD else copy x)
              ≡ (if b then last copy_states.SM_AD else if b then first else copy x)) (λ same. refl) (λ apart. refl))
              asked.1,
        )
