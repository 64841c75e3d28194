-- The columns of the report.
use Rattle.std.specs.Prelude.{ℕ, Bool, true, false, List, [], ◌∷◌, ◌++◌, codes}
use Rattle.program_run.specs.declared.column.Column.{Column}
use Rattle.program_run.specs.declared.column.Column.TheVariants as columns
use Rattle.program_run.specs.declared.tally.Counts.{Counts}
use Rattle.program_run.specs.Tally.{delivered_of, misses_of, requests_of, stalls_of}

-- the columns of a core, in their order
abbrev pub core_columns : List Column
core_columns =
    columns.Requests ∷ columns.Hits ∷ columns.Misses
    ∷ columns.Cold ∷ columns.Replaced ∷ columns.Upgrade ∷ columns.TrueSharing ∷ columns.FalseSharing
    ∷ columns.Evictions ∷ columns.Req ∷ columns.Fwd ∷ columns.Data ∷ columns.Ack ∷ []

-- what is counted of a core only where several of its accesses may be under way
abbrev pub parallel_columns : List Column
parallel_columns =
    columns.Primary ∷ columns.Secondary ∷ columns.Stalls
    ∷ columns.NoRegister ∷ columns.NoTarget ∷ columns.NoWay ∷ columns.WriteBackFull ∷ columns.WriteBackBusy ∷ []

-- all that is reported of a core, by whether several of its accesses may be under way
abbrev pub columns_of_core : Bool → List Column
columns_of_core false = core_columns
columns_of_core true = core_columns ++ parallel_columns

-- those of a line: blocks on their way home too
abbrev pub line_columns : List Column
line_columns = core_columns ++ columns.Home ∷ []

-- those of all lines, by whether several accesses of a core may be under way
abbrev pub columns_of_all : Bool → List Column
columns_of_all false = line_columns
columns_of_all true = line_columns ++ parallel_columns

-- what is counted of a run if it is given how many deliveries each slice makes
abbrev pub pace_columns : List Column
pace_columns = columns.Delivered ∷ []

-- the heading of a column
abbrev pub name_of : Column → List ℕ
name_of columns.Requests = codes "requests"
name_of columns.Hits = codes "hits"
name_of columns.Misses = codes "misses"
name_of columns.Cold = codes "cold"
name_of columns.Replaced = codes "replaced"
name_of columns.Upgrade = codes "upgrade"
name_of columns.TrueSharing = codes "true"
name_of columns.FalseSharing = codes "false"
name_of columns.Evictions = codes "evict"
name_of columns.Req = codes "req"
name_of columns.Fwd = codes "fwd"
name_of columns.Data = codes "data"
name_of columns.Ack = codes "ack"
name_of columns.Home = codes "home"
name_of columns.Primary = codes "primary"
name_of columns.Secondary = codes "secondary"
name_of columns.Stalls = codes "stalls"
name_of columns.NoRegister = codes "register"
name_of columns.NoTarget = codes "target"
name_of columns.NoWay = codes "way"
name_of columns.WriteBackFull = codes "wb-full"
name_of columns.WriteBackBusy = codes "wb-busy"
name_of columns.Delivered = codes "delivered"

-- its name in JSON and in rows
abbrev pub key_of : Column → List ℕ
key_of columns.Requests = codes "requests"
key_of columns.Hits = codes "hits"
key_of columns.Misses = codes "misses"
key_of columns.Cold = codes "misses_cold"
key_of columns.Replaced = codes "misses_replaced"
key_of columns.Upgrade = codes "misses_upgrade"
key_of columns.TrueSharing = codes "misses_true_sharing"
key_of columns.FalseSharing = codes "misses_false_sharing"
key_of columns.Evictions = codes "evictions"
key_of columns.Req = codes "messages_request"
key_of columns.Fwd = codes "messages_forwarded"
key_of columns.Data = codes "messages_data"
key_of columns.Ack = codes "messages_acknowledgement"
key_of columns.Home = codes "messages_home"
key_of columns.Primary = codes "misses_primary"
key_of columns.Secondary = codes "misses_secondary"
key_of columns.Stalls = codes "stalls"
key_of columns.NoRegister = codes "stalls_register"
key_of columns.NoTarget = codes "stalls_target"
key_of columns.NoWay = codes "stalls_way"
key_of columns.WriteBackFull = codes "stalls_write_back_full"
key_of columns.WriteBackBusy = codes "stalls_write_back_busy"
key_of columns.Delivered = codes "moves_delivered"

-- what a column shows
abbrev pub count_in : Column → Counts → ℕ
count_in columns.Requests counts = requests_of counts
count_in columns.Hits counts = counts.hits
count_in columns.Misses counts = misses_of counts
count_in columns.Cold counts = counts.cold
count_in columns.Replaced counts = counts.replaced
count_in columns.Upgrade counts = counts.upgrade
count_in columns.TrueSharing counts = counts.true_sharing
count_in columns.FalseSharing counts = counts.false_sharing
count_in columns.Evictions counts = counts.evictions
count_in columns.Req counts = counts.messages.requests
count_in columns.Fwd counts = counts.messages.forwarded
count_in columns.Data counts = counts.messages.data_replies
count_in columns.Ack counts = counts.messages.acknowledgements
count_in columns.Home counts = counts.messages.home
count_in columns.Primary counts = misses_of counts
count_in columns.Secondary counts = counts.secondary
count_in columns.Stalls counts = stalls_of counts
count_in columns.NoRegister counts = counts.no_register
count_in columns.NoTarget counts = counts.no_target
count_in columns.NoWay counts = counts.no_way
count_in columns.WriteBackFull counts = counts.write_back_full
count_in columns.WriteBackBusy counts = counts.write_back_busy
count_in columns.Delivered counts = delivered_of counts
