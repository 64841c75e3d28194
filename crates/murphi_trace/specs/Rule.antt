-- Which rule of the model has a given name.
use Rattle.std.specs.Prelude.{ℕ, ◌-◌, max, List, [], ◌∷◌, Option, None, Some, codes, option_and_then, option_map}
use Rattle.std.specs.Prelude.{slice_index, if◌then◌else◌}
use Rattle.std.specs.Char.{is_ascii_digit}
use Rattle.address_map.specs.declared.address.CoreId.{CoreId}
use Rattle.address_map.specs.declared.address.LineAddr.{LineAddr}
use Rattle.slice_queues.specs.declared.channel.Pick.TheVariants as picks
use Rattle.litmus_text.specs.Table.{value_named}
use Rattle.murphi_trace.specs.declared.event.Event.{Event}
use Rattle.murphi_trace.specs.declared.event.Event.TheVariants as events
use Rattle.murphi_trace.specs.declared.rule.Rule.{Rule}
use Rattle.murphi_trace.specs.declared.rule.Rule.TheVariants as rules
use Rattle.murphi_trace.specs.Fired.{behind, parts_around}

-- the model's one line
abbrev pub the_line : LineAddr
the_line = record { 0 = 0 }

-- the core whose number, of one digit, a text begins with
unfoldable pub core_of : List ℕ → Option CoreId
core_of text = if is_ascii_digit (slice_index text 0) then Some (record { 0 = slice_index text 0 - 48 }) else None

-- .. and whose number follows a mark's first place
abbrev pub core_in : List ℕ × List ℕ → Option CoreId
core_in parts = core_of parts.1

unfoldable pub core_behind : List ℕ → List ℕ → Option CoreId
core_behind mark text = option_and_then core_in (parts_around mark text)

-- ---- a rule of a core's copy: `STATE, EVENT: what is done`

-- what is before the first comma
abbrev pub front_of : List ℕ → Option (List ℕ × List ℕ) → List ℕ
front_of text None = text
front_of text (Some parts) = parts.0

unfoldable pub first_part : List ℕ → List ℕ
first_part text = front_of text (parts_around (codes ",") text)

-- what the copy meets, by the names that rules have for it
abbrev pub events_by_name : List (List ℕ × Event)
events_by_name =
    (codes "load", events.Load) ∷ (codes "write", events.Write) ∷ (codes "eviction", events.Eviction)
    ∷ (codes "Fwd-GetS", events.Forwarded) ∷ (codes "Fwd-GetM", events.Forwarded) ∷ (codes "Inv", events.Forwarded)
    ∷ (codes "Put-Ack", events.Forwarded) ∷ (codes "Data", events.Data) ∷ (codes "Data-E", events.Data)
    ∷ (codes "Inv-Ack", events.InvAck) ∷ []

-- .. in front of what is done, after the state
abbrev pub behind_state : List ℕ × List ℕ → Option (List ℕ × List ℕ)
behind_state parts = parts_around (codes ", ") parts.0

abbrev pub event_called : List ℕ × List ℕ → Option Event
event_called parts = value_named events_by_name (first_part parts.1)

unfoldable pub event_of : List ℕ → Option Event
event_of name = option_and_then event_called (option_and_then behind_state (parts_around (codes ": ") name))

-- what a core does at an event: an access of its own, or it takes a message, an acknowledgement from the core `f`
abbrev pub acknowledged_to : CoreId → CoreId → Rule
acknowledged_to core from = rules.Deliver (picks.Ack the_line core from)

unfoldable pub rule_at : List ℕ → Event → CoreId → Option Rule
rule_at cores events.Load core = Some (rules.Load core)
rule_at cores events.Write core = Some (rules.Write core)
rule_at cores events.Eviction core = Some (rules.Evict core)
rule_at cores events.Forwarded core = Some (rules.Deliver (picks.Fwd the_line core))
rule_at cores events.Data core = Some (rules.Deliver (picks.Data the_line core))
rule_at cores events.InvAck core = option_map (acknowledged_to core) (core_behind (codes ", f: ") cores)

-- the event comes to the core `c`
abbrev pub rule_for : List ℕ → Event → Option Rule
rule_for cores event = option_and_then (rule_at cores event) (core_behind (codes ", c: ") cores)

unfoldable pub copy_rule : List ℕ × List ℕ → Option Rule
copy_rule fired = option_and_then (rule_for fired.1) (event_of fired.0)

-- ---- a rule of the directory: `directory ENTRY; EVENT: what is done`

-- it takes a core's request, as `GetS of 1`, or else the block that comes home
abbrev pub request_of : CoreId → Rule
request_of core = rules.Deliver (picks.Req the_line core)

abbrev pub request_or_home : Option (List ℕ × List ℕ) → Option Rule
request_or_home None = Some (rules.Deliver (picks.Home the_line))
request_or_home (Some parts) = option_map request_of (core_of parts.1)

unfoldable pub directory_event : List ℕ → Option Rule
directory_event event = request_or_home (parts_around (codes " of ") event)

-- .. after the entry, in front of what is done
abbrev pub behind_entry : List ℕ × List ℕ → Option (List ℕ × List ℕ)
behind_entry parts = parts_around (codes ": ") parts.1

abbrev pub event_in : List ℕ × List ℕ → Option Rule
event_in parts = directory_event parts.0

unfoldable pub directory_rule : List ℕ → Option Rule
directory_rule told = option_and_then event_in (option_and_then behind_entry (parts_around (codes "; ") told))

-- ---- both

abbrev pub rule_called : List ℕ × List ℕ → Option (List ℕ) → Option Rule
rule_called fired None = copy_rule fired
rule_called fired (Some told) = directory_rule told

-- the rule of this name, for these cores, if it is one by which something happens
unfoldable pub rule_of : List ℕ × List ℕ → Option Rule
rule_of fired = rule_called fired (behind (codes "directory ") fired.0)

-- the greatest number of a core that takes part, or 0
abbrev pub last_core : Rule → ℕ
last_core (rules.Load core) = core.0
last_core (rules.Write core) = core.0
last_core (rules.Evict core) = core.0
last_core (rules.Deliver (picks.Req line core)) = core.0
last_core (rules.Deliver (picks.Fwd line core)) = core.0
last_core (rules.Deliver (picks.Data line core)) = core.0
last_core (rules.Deliver (picks.Ack line to from)) = max to.0 from.0
last_core (rules.Deliver (picks.Home line)) = 0
