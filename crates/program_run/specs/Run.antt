-- A run of programs: what may come next, and what each move does to the machine, to where programs are, and to what
-- is seen.
use Rattle.std.specs.Prelude.{◌≡◌, ◌⊎◌, ℕ, ◌-◌, ◌^◌, ◌+◌, ◌%◌, ◌==◌, nat_lt, not, Bool, true, false}
use Rattle.std.specs.Prelude.{◌||◌, slice_index_or}
use Rattle.std.specs.Option.{option_or}
use Rattle.std.specs.Prelude.{if◌then◌else◌, List, [], ◌∷◌, ◌++◌, drop, length, map, filter, min, position, replicate}
use Rattle.std.specs.Prelude.{slice_get, slice_set, codes, decimal, All, Option, None, Some}
use Rattle.std.specs.Io.KnownBytes.{Appends}
use Rattle.std.specs.List.{flat_map, range_with_len}
use Rattle.std.specs.Str.Lines.{lines}
use Rattle.address_map.specs.Locator.{local_at}
use Rattle.address_map.specs.Place.{line_of}
use Rattle.address_map.specs.declared.address.CoreId.{CoreId}
use Rattle.address_map.specs.declared.address.LineAddr.{LineAddr}
use Rattle.address_map.specs.declared.address.Local.{Local}
use Rattle.address_map.specs.declared.config.Config.{Config}
use Rattle.address_map.specs.declared.request.Request.{Request}
use Rattle.litmus_script.specs.Issued.{IsIssued}
use Rattle.litmus_script.specs.Machine.{HasAt, IsAnswered, IsMade, IsNewMachine, log_at}
use Rattle.litmus_script.specs.Play.{IsOfRun}
use Rattle.litmus_script.specs.declared.answers.Issued.{Issued}
use Rattle.litmus_script.specs.declared.answers.Issued.TheVariants as issued_kinds
use Rattle.litmus_text.specs.Statement.{statements_from}
use Rattle.litmus_text.specs.declared.command.Command.TheVariants as commands
use Rattle.litmus_text.specs.declared.fault.TextFault.{TextFault}
use Rattle.mshr_file.specs.Miss.{Bound}
use Rattle.program_text.specs.Fault.{IsFault}
use Rattle.program_text.specs.Judged.{is_limited}
use Rattle.program_text.specs.declared.programs.Access.{Access}
use Rattle.program_text.specs.declared.programs.CoreProgram.{CoreProgram}
use Rattle.program_text.specs.declared.programs.Limits.{Limits}
use Rattle.program_text.specs.declared.programs.Programs.{Programs}
use Rattle.program_text.specs.declared.programs.Step.{Step}
use Rattle.program_text.specs.declared.programs.Step.TheVariants as step_kinds
use Rattle.rand_xoshiro.specs.SplitMix64.{splitmix_seed}
use Rattle.rand_xoshiro.specs.Xoshiro256.{of_seed, plus_plus}
use Rattle.slice_core.specs.Facts.{front_at, targets_at}
use Rattle.slice_core.specs.declared.run.Call.TheVariants as slice_calls
use Rattle.slice_core.specs.declared.run.CallAnswer.TheVariants as call_answers
use Rattle.slice_answer.specs.declared.answer.Delivered.{Delivered}
use Rattle.slice_answer.specs.declared.answer.Delivered.TheVariants as delivered
use Rattle.slice_log.specs.declared.entry.Entry.{Entry}
use Rattle.slice_core_spec.specs.Decision.{decision_of}
use Rattle.slice_core_spec.specs.Calls.{PartsView, next_pick}
use Rattle.slice_core_spec.specs.Parts.{ring_lines}
use Rattle.slice_core_spec.specs.View.{IsQuiet, View, channels_at}
use Rattle.slice_core_spec.specs.declared.decision.Decision.{Decision}
use Rattle.slice_core_spec.specs.declared.decision.Decision.TheVariants as decisions
use Rattle.slice_core_cache.specs.declared.access.AccessKind.TheVariants as access_kinds
use Rattle.slice_core_cache.specs.declared.access.Placement.TheVariants as placements
use Rattle.slice_core_exec.specs.CoreLines.{last_written_back}
use Rattle.slice_queues.specs.Waiting.{line_waiting}
use Rattle.slice_queues.specs.Pick.{channel_of, line_of as line_of_pick, pick_at}
use Rattle.slice_queues.specs.declared.channel.Class.TheVariants as classes
use Rattle.slice_queues.specs.declared.channel.Pick.{Pick}
use Rattle.slice_queues.specs.declared.message.Message.{Message}
use Rattle.program_run.specs.Calls.{CallsView, no_calls, text_of_script, with_call}
use Rattle.program_run.specs.History.{History, HasSeen, after_eviction, after_hit, after_message, after_performing}
use Rattle.program_run.specs.History.{after_stalling, no_history}
use Rattle.program_run.specs.Json.{json_of}
use Rattle.program_run.specs.Report.{report_of}
use Rattle.program_run.specs.Tidy.{Tidies}
use Rattle.program_run.specs.Tally.{TallyView, new_tally, tally_after}
use Rattle.program_run.specs.Usage.{measured, no_usage}
use Rattle.program_run.specs.declared.run.Form.{Form}
use Rattle.program_run.specs.declared.run.Form.TheVariants as forms
use Rattle.program_run.specs.declared.moves.Move.{Move}
use Rattle.program_run.specs.declared.moves.Move.TheVariants as moves
use Rattle.program_run.specs.declared.moves.Place.{Place}
use Rattle.program_run.specs.declared.moves.Takes.{Takes}
use Rattle.program_run.specs.declared.moves.Takes.TheVariants as takes
use Rattle.program_run.specs.declared.moves.Turn.{Turn}
use Rattle.program_run.specs.declared.moves.Turn.TheVariants as turns
use Rattle.program_run.specs.declared.observer.Observer.{Observer}
use Rattle.program_run.specs.declared.usage.Usage.{Usage}
use Rattle.slice_answer.specs.declared.answer.Delivery.TheVariants as deliveries
use Rattle.slice_answer.specs.declared.answer.Delivery.{Delivery}

-- the states of the machine's slices, the calls that were made of it, where each program is, and what was seen
pub record RunState : Type 0 where
  pub slices : List PartsView
  pub calls : CallsView
  pub places : List Place
  pub history : History

-- ---- what may come next

-- how many accesses of a core may be under way: 1 if no number is given
abbrev pub most_of : Option ℕ → ℕ
most_of None = 1
most_of (Some most) = most

-- a program that is there may take the step: an access while fewer wait, and a step that waits once none does
abbrev pub may_step : Option ℕ → Place → Step → Bool
may_step most place (step_kinds.Access access) = nat_lt place.waiting (most_of most)
may_step most place step_kinds.Settle = place.waiting == 0

-- .. where there is a program
abbrev pub may_step_at : Option ℕ → Option Place → Step → Bool
may_step_at most None step = false
may_step_at most (Some place) step = may_step most place step

-- the request for an access, under a tag by its place in the program
abbrev pub request_of : Place → Access → Request
request_of place access = record { op = access.op; word = access.word; tag = place.asked % 64 }

-- how a program that is there goes on
abbrev pub turn_of : Place → Step → Turn
turn_of place (step_kinds.Access access) = turns.Ask (request_of place access)
turn_of place step_kinds.Settle = turns.Settled

-- .. by its next step, if there is one, and its core
abbrev pub turn_by : Option ℕ → CoreId → Place → Option Step → Option (CoreId × Turn)
turn_by most core place None = None
turn_by most core place (Some step) = if may_step most place step then Some (core, turn_of place step) else None

-- how a program that is there goes on: it doesn't if its core isn't one of `cores`
abbrev pub next_by : ℕ → Option ℕ → Option CoreProgram → Option Place → Option (CoreId × Turn)
next_by cores most None place = None
next_by cores most (Some program) None = None
next_by cores most (Some program) (Some place) =
    if not (nat_lt program.core.0 cores) then None
    else turn_by most program.core place (slice_get program.steps.items place.asked)

-- how the program of this number goes on, and its core
abbrev pub next_of : ℕ → Programs → List Place → ℕ → Option (CoreId × Turn)
next_of cores programs places number =
    next_by cores programs.limits.outstanding (slice_get programs.cores.items number) (slice_get places number)

-- the slice of a request, by its number
abbrev pub slice_of : Config → Request → ℕ
slice_of config request = (line_of request.word).0 % config.slices

-- what a slice decides of a request
abbrev pub decided_in : Option PartsView → CoreId → Request → Option Decision
decided_in None core request = None
decided_in (Some state) core request = Some (decision_of state.view core request)

-- what the machine decides of it
abbrev pub decision_on : Config → List PartsView → CoreId → Request → Option Decision
decision_on config slices core request = decided_in (slice_get slices (slice_of config request)) core request

-- it is not refused, and put off only where stalls are to be counted
abbrev pub is_tried : Bool → Option Decision → Bool
is_tried stalls None = false
is_tried stalls (Some (decisions.Refuse refused)) = false
is_tried stalls (Some (decisions.Access local (access_kinds.Stall stall))) = stalls
is_tried stalls decision = true

-- a core may go on in this way
abbrev pub may_turn : Config → List PartsView → Bool → CoreId → Turn → Bool
may_turn config slices stalls core (turns.Ask request) = is_tried stalls (decision_on config slices core request)
may_turn config slices stalls core turns.Settled = true

abbrev pub may_go_on : Config → List PartsView → Bool → Option (CoreId × Turn) → Bool
may_go_on config slices stalls None = false
may_go_on config slices stalls (Some next) = may_turn config slices stalls next.0 next.1

-- A stall is to be counted, once for each access, if it is given how many accesses may be under way.
abbrev pub may_stall : Option ℕ → Option Place → Bool
may_stall None place = false
may_stall (Some most) None = false
may_stall (Some most) (Some place) = not place.stalled

-- the program of this number may take its next step
abbrev pub may_ask : Config → Programs → List PartsView → List Place → ℕ → Bool
may_ask config programs slices places number =
    may_go_on config slices (may_stall programs.limits.outstanding (slice_get places number))
    (next_of config.cores programs places number)

-- the steps that may be taken, in the order of the programs
abbrev pub asks_of : Config → Programs → List PartsView → List Place → List Move
asks_of config programs slices places =
    map moves.Ask (filter (may_ask config programs slices places) (range_with_len 0 (length programs.cores.items)))

-- the delivery that is next, where one can be made
abbrev pub delivery_of : Delivery Pick → List Move
delivery_of (deliveries.Moved pick) = moves.Deliver pick ∷ []
delivery_of next = []

-- the next delivery of each slice
abbrev pub deliveries_of : List PartsView → List Move
deliveries_of slices = flat_map (λ state. delivery_of (next_pick state classes.Any)) slices

-- the steps that may be taken, and the next delivery of each slice
abbrev pub free_moves : Config → Programs → RunState → List Move
free_moves config programs run = asks_of config programs run.slices run.places ++ deliveries_of run.slices

-- ---- the pace

-- the deliveries of the messages of a line, which is at this place of the slice
abbrev pub waiting_at : View → LineAddr → Option Local → List Move
waiting_at v line None = []
waiting_at v line (Some local) = map (λ channel. moves.Deliver (pick_at line channel)) (line_waiting (channels_at v local))

abbrev pub waiting_of : View → LineAddr → List Move
waiting_of v line = waiting_at v line (local_at v.lines line.0)

-- all that a slice can be asked for, blocked or not, line by line of its ring
abbrev pub waiting_in : PartsView → List Move
waiting_in state = flat_map (waiting_of state.view) (ring_lines state)

-- .. unless it has none left to make
abbrev pub owed_in : ℕ → PartsView → List Move
owed_in left state = if left == 0 then [] else waiting_in state

-- these moves, or the others where there is none
abbrev pub or_else : List Move → List Move → List Move
or_else [] others = others
or_else (move ∷ more) others = move ∷ more

-- those of the first of these slices that has some
abbrev pub owed_from : List ℕ → ℕ → List PartsView → List Move
owed_from owed slice [] = []
owed_from owed slice (state ∷ more) =
    or_else (owed_in (slice_index_or owed slice 0) state) (owed_from owed (slice + 1) more)

-- What may come next: a delivery of the first slice that has some still to make, and a message; and else any move.
abbrev pub moves_of : Config → Programs → List ℕ → RunState → List Move
moves_of config programs owed run = or_else (owed_from owed 0 run.slices) (free_moves config programs run)

-- how many deliveries each slice makes after an access: 0 if no number is given
abbrev pub pace_of : Option ℕ → ℕ
pace_of None = 0
pace_of (Some most) = most

-- a program asks for an access
abbrev pub is_ask : Turn → Bool
is_ask (turns.Ask request) = true
is_ask turns.Settled = false

abbrev pub is_access : Option (CoreId × Turn) → Bool
is_access None = false
is_access (Some next) = is_ask next.1

-- How many each slice has still to make after a move: the pace after an access, and one less after a
-- delivery.
abbrev pub owed_behind : Config → Programs → List Place → Move → List ℕ → List ℕ
owed_behind config programs places (moves.Ask number) owed =
    if is_access (next_of config.cores programs places number)
    then map (λ left. pace_of programs.limits.pace) owed else owed
owed_behind config programs places (moves.Deliver pick) owed =
    let slice : ℕ = (line_of_pick pick).0 % config.slices in
    slice_set owed slice (slice_index_or owed slice 0 - 1)

-- at first there are none
abbrev pub nothing_owed : Programs → List ℕ
nothing_owed programs = replicate programs.config.slices 0

-- ---- an access

-- an access that takes something up waits
abbrev pub more_waiting : Takes → ℕ → ℕ
more_waiting takes.Nothing waiting = waiting
more_waiting takes.Target waiting = min (waiting + 1) (2 ^ 64 - 1)
more_waiting takes.Register waiting = min (waiting + 1) (2 ^ 64 - 1)

abbrev pub more_registers : Takes → ℕ → ℕ
more_registers takes.Nothing registers = registers
more_registers takes.Target registers = registers
more_registers takes.Register registers = min (registers + 1) (2 ^ 64 - 1)

-- a program has taken one more step, and what this takes up
abbrev pub gone_on : ℕ → Takes → Option Place → List Place → List Place
gone_on number kind None places = places
gone_on number kind (Some place) places =
    slice_set places number (record {
      asked = min (place.asked + 1) (2 ^ 64 - 1);
      waiting = more_waiting kind place.waiting;
      registers = more_registers kind place.registers;
      stalled = false;
      usage = place.usage;
    })

-- its next access stalled
abbrev pub after_stall : ℕ → Option Place → List Place → List Place
after_stall number None places = places
after_stall number (Some place) places =
    slice_set places number (record place { stalled = true })

-- what an access takes up that is pending, by what was decided of it
abbrev pub takes_of : Decision → Takes
takes_of (decisions.Access local (access_kinds.PrimaryMiss next ask placement)) = takes.Register
takes_of decision = takes.Target

-- another line has to be evicted for the access
abbrev pub makes_room : Decision → Bool
makes_room (decisions.Access local (access_kinds.PrimaryMiss next ask placements.Victim)) = true
makes_room decision = false

-- the line that the core's write-back buffer took in last, in the slice
abbrev pub left_in : Option PartsView → CoreId → Option LineAddr
left_in None core = None
left_in (Some state) core = last_written_back state.view core

abbrev pub after_leaving : ℕ → CoreId → Option LineAddr → History → History
after_leaving lines core None history = history
after_leaving lines core (Some left) history = after_eviction lines core left history

-- If room was made, the evicted line is seen, and counted as an eviction: the last that the core's write-back
-- buffer took in.
abbrev pub after_room : ℕ → Bool → Option PartsView → CoreId → History → History
after_room lines false state core history = history
after_room lines true state core history = after_leaving lines core (left_in state core) history

-- What the answer to an access comes to: one that is done at once is a hit, and the core goes on; so it does after one
-- that is pending, which may have made room; a stall is counted; and what is refused is nothing.
abbrev pub AfterAnswer : Config → ℕ → CoreId → Request → Decision → Issued → RunState → RunState → Type 0
AfterAnswer config number core request decision (issued_kinds.Done place reply) old new =
    (new.places ≡ gone_on number takes.Nothing (slice_get old.places number) old.places)
    × (new.history ≡ after_hit config.lines core request.word request.op reply old.history)
AfterAnswer config number core request decision (issued_kinds.Pending seq) old new =
    (new.places ≡ gone_on number (takes_of decision) (slice_get old.places number) old.places)
    × (new.history
    ≡ after_room config.lines (makes_room decision) (slice_get new.slices (slice_of config request)) core old.history)
AfterAnswer config number core request decision (issued_kinds.Stall stall) old new =
    (new.places ≡ after_stall number (slice_get old.places number) old.places)
    × (new.history ≡ after_stalling core request.word stall old.history)
AfterAnswer config number core request decision (issued_kinds.Refused refused) old new =
    (new.places ≡ old.places) × (new.history ≡ old.history)

-- the access was asked of the machine, which answered it
pub record Accesses (config : Config) (number : ℕ) (core : CoreId) (request : Request) (old new : RunState) :
    Type 0 where
  pub decision : Decision
  pub judged : decision_on config old.slices core request ≡ Some decision
  pub issued : Issued
  pub asked : IsIssued (slice_of config request) core request issued old.slices new.slices
  pub called : new.calls ≡ with_call (commands.Issue core request) old.calls
  pub after : AfterAnswer config number core request decision issued old new

-- a program goes on in this way: it asks for an access, or has waited
abbrev pub Turns : Config → ℕ → CoreId → Turn → RunState → RunState → Type 0
Turns config number core (turns.Ask request) old new = Accesses config number core request old new
Turns config number core turns.Settled old new =
    new ≡ record old { places = gone_on number takes.Nothing (slice_get old.places number) old.places }

-- the program takes its next step, if there is one
abbrev pub Asks : Config → ℕ → Option (CoreId × Turn) → RunState → RunState → Type 0
Asks config number None old new = new ≡ old
Asks config number (Some next) old new = Turns config number next.0 next.1 old new

-- ---- a delivery

abbrev pub fewer_registers : Bool → ℕ → ℕ
fewer_registers false registers = registers
fewer_registers true registers = registers - 1

-- a core waits for one access less, and has one register less if that was closed
abbrev pub after_wake : Bool → Option ℕ → List Place → List Place
after_wake closes None places = places
after_wake closes (Some number) places = woken_at (slice_get places number)
  where
    woken_at : Option Place → List Place
    woken_at None = places
    woken_at (Some place) =
        slice_set places number (record place {
          waiting = place.waiting - 1;
          registers = fewer_registers closes place.registers;
        })

-- The delivery has closed the register of a core's line: it performs its first access, and none of the core waits for
-- the line any more.
abbrev pub is_closed : Bool → Option PartsView → CoreId → LineAddr → Bool
is_closed false state core line = false
is_closed true None core line = false
is_closed true (Some state) core line =
    length (targets_at state.view core (local_at state.view.lines line.0)) == 0

-- the program of a core, by its number
abbrev pub program_of : List CoreProgram → CoreId → Option ℕ
program_of programs core = position (λ program. program.core.0 == core.0) programs

-- An access of a core of the machine that waited was performed, as the first of its delivery or after others: its reply
-- is handed out, and the core waits for one less.
abbrev pub HandsOut : Bool → Config → Programs → ℕ → Bool → Entry → RunState → RunState → Type 0
HandsOut false config programs slice is_first entry old new = new ≡ old
HandsOut true config programs slice is_first entry old new =
    IsMade slice (slice_calls.Hand entry.core) old.slices new.slices
    × (new.calls ≡ with_call (commands.Hand entry.core (record { 0 = slice })) old.calls)
    × (new.places ≡ after_wake (is_closed is_first
    (slice_get old.slices ((line_of entry.word).0 % config.slices)) entry.core (line_of entry.word))
    (program_of programs.cores.items entry.core) old.places)
    × (new.history ≡ after_performing config.lines is_first entry old.history)

abbrev pub Performs : Config → Programs → ℕ → Bool → Entry → RunState → RunState → Type 0
Performs config programs slice is_first entry old new =
    HandsOut (nat_lt entry.core.0 config.cores) config programs slice is_first entry old new

-- these were performed by one delivery, one after another
abbrev pub PerformsAll : Config → Programs → ℕ → Bool → List Entry → RunState → RunState → Type 0
PerformsAll config programs slice is_first [] old new = new ≡ old
PerformsAll config programs slice is_first (entry ∷ more) old new =
    (next : RunState) × Performs config programs slice is_first entry old next
    × PerformsAll config programs slice false more next new

-- What a delivery comes to: where the message was moved it is counted, and the accesses that it let be performed, which
-- are new in the slice's log, are seen.
abbrev pub AfterDelivery : Config → Programs → Pick → Option Message → Delivered → List PartsView
    → RunState → RunState → Type 0
AfterDelivery config programs pick front delivered.Moved slices old new =
    let slice : ℕ = (line_of_pick pick).0 % config.slices in
    let moved : RunState = record {
      slices = slices;
      calls = with_call (commands.Deliver pick) old.calls;
      places = old.places;
      history = after_message config.lines pick front old.history;
    } in
    PerformsAll config programs slice true (drop (length (log_at old.slices slice)) (log_at slices slice)) moved new
AfterDelivery config programs pick front answer slices old new =
    new ≡ record old { slices = slices; calls = with_call (commands.Deliver pick) old.calls }

-- a delivery at the pick was asked of the machine, which answered it
pub record Delivers (config : Config) (programs : Programs) (pick : Pick) (old new : RunState) : Type 0 where
  pub front : Option Message
  pub in_front : HasAt old.slices ((line_of_pick pick).0 % config.slices)
      (λ state. front ≡ front_at state.view (local_at state.view.lines (line_of_pick pick).0) (channel_of pick))
  pub answer : Delivered
  pub slices : List PartsView
  pub answered : IsAnswered ((line_of_pick pick).0 % config.slices) (slice_calls.Deliver pick)
      (call_answers.Deliver answer)
      old.slices slices
  pub after : AfterDelivery config programs pick front answer slices old new

-- ---- a run

-- the move is made
abbrev pub Makes : Config → Programs → Move → RunState → RunState → Type 0
Makes config programs (moves.Ask number) old new =
    Asks config number (next_of config.cores programs old.places number) old new
Makes config programs (moves.Deliver pick) old new = Delivers config programs pick old new

-- what is in use is measured, and moves are counted, if something bounds the run
abbrev pub is_measured : Limits → Bool
is_measured limits = is_limited limits.outstanding || is_limited limits.pace

-- what a core's accesses take up is measured
abbrev pub measured_place : Place → Place
measured_place place = record place { usage = measured place.registers place.waiting place.usage }

-- .. of each core
abbrev pub measured_places : Bool → List Place → List Place
measured_places false places = places
measured_places true places = map measured_place places

abbrev pub measured_run : Bool → RunState → RunState
measured_run limited run = record run { places = measured_places limited run.places }

-- the move that a word draws, each as likely as the others
abbrev pub drawn_move : ℕ → List Move → Option Move
drawn_move word moves = slice_get moves (word % length moves)

-- These moves are made after `made` others, where each slice has `owed` deliveries still to make, one after another.
-- Each is drawn from those that may come next, by the next word of the generator that is there; after it, what is in use
-- is measured, and rings are kept short.
abbrev pub MakesAll : Config → Programs → List ℕ → ℕ → List ℕ → List Move → RunState → RunState → Type 0
MakesAll config programs generator made owed [] old new = new ≡ old
MakesAll config programs generator made owed (to ∷ more) old new =
    (next : RunState) × (drawn_move (plus_plus generator).0 (moves_of config programs owed old) ≡ Some to)
    × Makes config programs to old next × (tidied : List PartsView) × Tidies config.slices made next.slices tidied
    × MakesAll config programs (plus_plus generator).1 (made + 1) (owed_behind config programs old.places to owed) more
    (record (measured_run (is_measured programs.limits) next) { slices = tidied }) new

-- The moves that the seed draws are made, up to where none may come next, or 2^64 - 1 of them.
pub record Runs (config : Config) (programs : Programs) (seed : ℕ) (old new : RunState) : Type 0 where
  pub steps : List Move
  pub made : MakesAll config programs (of_seed (splitmix_seed 32 seed)) 0 (nothing_owed programs) steps old new
  pub ended : (free_moves config programs new ≡ []) ⊎ (length steps ≡ 2 ^ 64 - 1)

-- a program before its first step
abbrev pub first_place : Place
first_place = record { asked = 0; waiting = 0; registers = 0; stalled = false; usage = no_usage }

-- a new machine without calls, which are wanted or not, each program before its first step, and nothing seen
pub record IsNewRun (config : Config) (bound : Bound) (programs : Programs) (wanted : Bool) (run : RunState) : Type 0
  where
    pub fresh : IsNewMachine config bound run.slices
    pub uncalled : run.calls ≡ no_calls wanted
    pub first : run.places ≡ replicate (length programs.cores.items) first_place
    pub unseen : run.history ≡ no_history

-- a program that is there has ended
abbrev pub HasEnded : CoreProgram → Option Place → Type 0
HasEnded program None = ⊥
HasEnded program (Some place) = place.asked ≡ length program.steps.items

-- each program has ended
abbrev pub HaveEnded : List CoreProgram → List Place → Type 0
HaveEnded programs places =
    (number : ℕ) (program : CoreProgram) → slice_get programs number ≡ Some program
    → HasEnded program (slice_get places number)

-- all programs have ended, nothing is in flight and each reply is handed out
abbrev pub IsOver : Programs → RunState → Type 0
IsOver programs run = HaveEnded programs.cores.items run.places × All (λ state. IsQuiet state.view) run.slices

-- ---- a runner

-- a runner's parts
pub record RunnerView : Type 0 where
  pub config : Config
  pub slices : List PartsView
  pub calls : CallsView
  pub places : List Place
  pub observer : Observer

-- a runner that has measured
abbrev pub measured_runner : Bool → RunnerView → RunnerView
measured_runner limited runner = record runner { places = measured_places limited runner.places }

-- a runner of such a run
pub record IsNewRunner (machine : Config) (bound : Bound) (programs : Programs) (wanted : Bool) (runner : RunnerView) :
    Type 0 where
  pub config : runner.config ≡ machine
  pub fresh : IsNewMachine machine bound runner.slices
  pub uncalled : runner.calls ≡ no_calls wanted
  pub first : runner.places ≡ replicate (length programs.cores.items) first_place
  pub unseen : HasSeen machine no_history runner.observer

-- where the run is, if this was seen so far
abbrev pub run_of : RunnerView → History → RunState
run_of runner history =
    record { slices = runner.slices; calls = runner.calls; places = runner.places; history = history }

-- Whatever was seen of the run so far, something is seen of it now, and it went on in this way.
pub record Leads (Goes : RunState → RunState → Type 0) (old new : RunnerView) : Type 0 where
  pub config : new.config ≡ old.config
  pub goes : (before : History) → HasSeen old.config before old.observer
      → (after : History) × HasSeen old.config after new.observer × Goes (run_of old before) (run_of new after)

-- ---- what is printed

-- what was measured of the program that is there
abbrev pub usage_in : Option Place → Usage
usage_in None = no_usage
usage_in (Some place) = place.usage

-- .. of the program of a core, if it has one
abbrev pub usage_of : List CoreProgram → List Place → ℕ → Usage
usage_of programs places core = by_number (position (λ program. program.core.0 == core) programs)
  where
    by_number : Option ℕ → Usage
    by_number None = no_usage
    by_number (Some number) = usage_in (slice_get places number)

-- .. of each of `cores` cores
abbrev pub usages_of : ℕ → Programs → List Place → List Usage
usages_of cores programs places = map (usage_of programs.cores.items places) (range_with_len 0 cores)

-- the report in this form, by what bounds the run
abbrev pub text_of : Form → TallyView → List Usage → Limits → ℕ → List ℕ
text_of forms.Table tally usages limits seed = report_of tally usages limits seed
text_of forms.Json tally usages limits seed = json_of tally usages limits seed

-- where nothing may come next before the end
abbrev pub text_of_stuck : ℕ → List ℕ
text_of_stuck seed = codes "stuck seed " ++ decimal seed ++ codes "\n"

-- what a run prints, and its status: the report on what was counted where it is over, and else that it is stuck
pub record PrintsEnd (config : Config) (programs : Programs) (form : Form) (seed status : ℕ) (run : RunState)
    (before after : Option (List ℕ)) : Type 0 where
  pub over : IsOver programs run → (status ≡ 0)
      × Appends before after (text_of form (tally_after (new_tally config.cores config.lines) run.history.counted)
      (usages_of config.cores programs run.places) programs.limits seed)
  pub stuck : ¬ IsOver programs run → (status ≡ 1) × Appends before after (text_of_stuck seed)

-- The programs are run on a new machine by the moves that the seed draws, and what the run's end prints is written.
pub record IsProgramsRun (bound : Bound) (programs : Programs) (form : Form) (seed status : ℕ)
    (before after : Option (List ℕ)) : Type 0 where
  pub start : RunState
  pub new : IsNewRun programs.config bound programs false start
  pub end : RunState
  pub runs : Runs programs.config programs seed start end
  pub prints : PrintsEnd programs.config programs form seed status end before after

-- The programs are run so, and the calls that the moves made are printed as a script for the machine. Status 0 says that
-- the run is over, and 1 that nothing may come next before.
pub record PrintsSchedule (bound : Bound) (programs : Programs) (seed status : ℕ) (before after : Option (List ℕ)) :
    Type 0 where
  pub start : RunState
  pub new : IsNewRun programs.config bound programs true start
  pub end : RunState
  pub runs : Runs programs.config programs seed start end
  pub over : IsOver programs end → status ≡ 0
  pub stuck : ¬ IsOver programs end → status ≡ 1
  pub printed : Appends before after (text_of_script programs.config programs.misses end.calls.made)

-- limits that are given override those of the text
abbrev pub limited_to : Limits → Programs → Programs
limited_to given programs = record programs {
  limits = record {
    outstanding = option_or given.outstanding programs.limits.outstanding;
    pace = option_or given.pace programs.limits.pace;
  };
}

-- Why no programs were run: the text is at fault, there was no memory, or the report couldn't be written.
abbrev pub IsProgramNotRun : List ℕ → TextFault → Type 0
IsProgramNotRun text fault = IsFault (statements_from 0 (lines text)) fault ⊎ IsOfRun fault
