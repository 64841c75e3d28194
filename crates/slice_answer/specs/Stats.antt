-- What a slice counts: what became of each core's requests, and the messages that were taken.
use Rattle.std.specs.Prelude.{ℕ, ◌+◌, ◌-◌, ◌^◌, min, Bool, if◌then◌else◌, List, replicate, slice_index, slice_index_or}
use Rattle.std.specs.Prelude.{slice_set}
use Rattle.address_map.specs.declared.address.CoreId.{CoreId}
use Rattle.slice_queues.specs.declared.channel.Channel.{Channel}
use Rattle.slice_queues.specs.declared.channel.Channel.TheVariants as channels
use Rattle.slice_answer.specs.declared.answer.Stall.{Stall}
use Rattle.slice_answer.specs.declared.answer.Stall.TheVariants as stalls
use Rattle.slice_answer.specs.declared.stats.CoreStats.{CoreStats}
use Rattle.slice_answer.specs.declared.stats.MessageCounts.{MessageCounts}

-- the counts of each core, those of the messages, and whether the machine has the exclusive state
pub record StatsView : Type 0 where
  pub cores : List CoreStats
  pub messages : MessageCounts
  pub exclusive : Bool

-- one more, up to the largest number of 64 bits
abbrev pub next_count : ℕ → ℕ
next_count n = min (n + 1) (2 ^ 64 - 1)

-- a core that has done nothing
abbrev pub no_counts : CoreStats
no_counts = record { hits = 0; primary = 0; secondary = 0; stalls = replicate 5 0; evictions = 0; silent = 0 }

-- no message taken
abbrev pub no_messages : MessageCounts
no_messages = record { requests = 0; forwarded = 0; data_replies = 0; acknowledgements = 0; home = 0 }

-- a slice with `cores` cores that has done nothing
abbrev pub no_stats : ℕ → Bool → StatsView
no_stats cores exclusive = record { cores = replicate cores no_counts; messages = no_messages; exclusive = exclusive }

-- the requests that were accepted: each is a hit, opens a register or joins one
abbrev pub accepted_of : CoreStats → ℕ
accepted_of counts = counts.hits + counts.primary + counts.secondary

-- the place of a stall among a core's counts of stalls, in the order of their numbers
abbrev pub index_of_stall : Stall → ℕ
index_of_stall stalls.NoRegister = 0
index_of_stall stalls.NoTarget = 1
index_of_stall stalls.NoWay = 2
index_of_stall stalls.WriteBackFull = 3
index_of_stall stalls.WriteBackBusy = 4

-- what a core has counted
abbrev pub counts_of : StatsView → CoreId → CoreStats
counts_of stats core = slice_index_or stats.cores core.0 no_counts

-- the same with other counts of this core
abbrev pub with_counts : StatsView → CoreId → CoreStats → StatsView
with_counts stats core counts = record stats { cores = slice_set stats.cores core.0 counts }

-- a core with one more hit, which was silent where it changed an exclusive copy to a modified one
abbrev pub one_more_hit : Bool → CoreStats → CoreStats
one_more_hit silent counts =
    record counts { hits = next_count counts.hits; silent = if silent then next_count counts.silent else counts.silent }

-- a core with one more stall of this kind
abbrev pub one_more_stall : Stall → CoreStats → CoreStats
one_more_stall stall counts =
    record counts {
      stalls = slice_set counts.stalls (index_of_stall stall)
          (next_count (slice_index counts.stalls (index_of_stall stall)));
    }

-- one more message taken from a channel of this kind
abbrev pub one_more_message : Channel → MessageCounts → MessageCounts
one_more_message (channels.Req core) counts = record counts { requests = next_count counts.requests }
one_more_message (channels.Fwd core) counts = record counts { forwarded = next_count counts.forwarded }
one_more_message (channels.Data core) counts = record counts { data_replies = next_count counts.data_replies }
one_more_message (channels.Ack to from) counts = record counts { acknowledgements = next_count counts.acknowledgements }
one_more_message channels.Home counts = record counts { home = next_count counts.home }

-- after a hit
abbrev pub after_hit : StatsView → CoreId → Bool → StatsView
after_hit stats core silent = with_counts stats core (one_more_hit silent (counts_of stats core))

-- after a miss that opened a register
abbrev pub after_primary : StatsView → CoreId → StatsView
after_primary stats core =
    let counts : CoreStats = counts_of stats core in
    with_counts stats core (record counts { primary = next_count counts.primary })

-- after a miss that joined a register
abbrev pub after_secondary : StatsView → CoreId → StatsView
after_secondary stats core =
    let counts : CoreStats = counts_of stats core in
    with_counts stats core (record counts { secondary = next_count counts.secondary })

-- after a request that had to wait
abbrev pub after_stall : StatsView → CoreId → Stall → StatsView
after_stall stats core stall = with_counts stats core (one_more_stall stall (counts_of stats core))

-- after an eviction, also that of a victim
abbrev pub after_eviction : StatsView → CoreId → StatsView
after_eviction stats core =
    let counts : CoreStats = counts_of stats core in
    with_counts stats core (record counts { evictions = next_count counts.evictions })

-- after a message was taken from this channel
abbrev pub after_message : StatsView → Channel → StatsView
after_message stats channel = record stats { messages = one_more_message channel stats.messages }
