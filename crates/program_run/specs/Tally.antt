-- What is counted, of each core and of each line of a machine. A count stops at 2^64 - 1.
use Rattle.std.specs.Prelude.{ℕ, ◌+◌, List, [], ◌∷◌, Option, None, Some, replicate, slice_index_or, slice_set, sum_by}
use Rattle.address_map.specs.declared.address.CoreId.{CoreId}
use Rattle.address_map.specs.declared.address.LineAddr.{LineAddr}
use Rattle.program_run.specs.declared.cause.Cause.{Cause}
use Rattle.program_run.specs.declared.cause.Cause.TheVariants as causes
use Rattle.slice_answer.specs.Stats.{next_count, no_messages, one_more_message}
use Rattle.slice_answer.specs.declared.answer.Stall.{Stall}
use Rattle.slice_answer.specs.declared.answer.Stall.TheVariants as stalls
use Rattle.slice_queues.specs.Pick.{channel_of, line_of as line_of_pick}
use Rattle.slice_queues.specs.declared.channel.Pick.{Pick}
use Rattle.slice_queues.specs.declared.channel.Pick.TheVariants as picks
use Rattle.stats_report.specs.Report.{capped_sum, sum_of}
use Rattle.program_run.specs.declared.tally.Counted.{Counted}
use Rattle.program_run.specs.declared.tally.Counted.TheVariants as counted_kinds
use Rattle.program_run.specs.declared.tally.Counts.{Counts}

-- the counts of each core and of each line
pub record TallyView : Type 0 where
  pub cores : List Counts
  pub lines : List Counts

-- nothing is counted
abbrev pub no_counts : Counts
no_counts = record {
  hits = 0;
  cold = 0;
  replaced = 0;
  upgrade = 0;
  true_sharing = 0;
  false_sharing = 0;
  secondary = 0;
  no_register = 0;
  no_target = 0;
  no_way = 0;
  write_back_full = 0;
  write_back_busy = 0;
  evictions = 0;
  messages = no_messages;
}

-- nothing is counted of `cores` cores and `lines` lines
abbrev pub new_tally : ℕ → ℕ → TallyView
new_tally cores lines = record { cores = replicate cores no_counts; lines = replicate lines no_counts }

-- ---- one more

-- one more miss of this cause
abbrev pub one_more_miss : Cause → Counts → Counts
one_more_miss causes.Cold counts = record counts { cold = next_count counts.cold }
one_more_miss causes.Replaced counts = record counts { replaced = next_count counts.replaced }
one_more_miss causes.Upgrade counts = record counts { upgrade = next_count counts.upgrade }
one_more_miss causes.TrueSharing counts = record counts { true_sharing = next_count counts.true_sharing }
one_more_miss causes.FalseSharing counts = record counts { false_sharing = next_count counts.false_sharing }

-- one more stall for this reason
abbrev pub one_more_stall : Stall → Counts → Counts
one_more_stall stalls.NoRegister counts = record counts { no_register = next_count counts.no_register }
one_more_stall stalls.NoTarget counts = record counts { no_target = next_count counts.no_target }
one_more_stall stalls.NoWay counts = record counts { no_way = next_count counts.no_way }
one_more_stall stalls.WriteBackFull counts = record counts { write_back_full = next_count counts.write_back_full }
one_more_stall stalls.WriteBackBusy counts = record counts { write_back_busy = next_count counts.write_back_busy }

-- one more of what is counted
abbrev pub one_more : Counted → Counts → Counts
one_more (counted_kinds.Hit core line) counts = record counts { hits = next_count counts.hits }
one_more (counted_kinds.Miss core line cause) counts = one_more_miss cause counts
one_more (counted_kinds.Secondary core line) counts = record counts { secondary = next_count counts.secondary }
one_more (counted_kinds.Stall core line stall) counts = one_more_stall stall counts
one_more (counted_kinds.Eviction core line) counts = record counts { evictions = next_count counts.evictions }
one_more (counted_kinds.Message pick) counts =
    record counts { messages = one_more_message (channel_of pick) counts.messages }

-- the core of a message: the sender of a request, or the receiver of any other; a block on its way home has none
abbrev pub core_of_message : Pick → Option CoreId
core_of_message (picks.Req line core) = Some core
core_of_message (picks.Fwd line core) = Some core
core_of_message (picks.Data line core) = Some core
core_of_message (picks.Ack line to from) = Some to
core_of_message (picks.Home line) = None

-- the core it is counted for, if any
abbrev pub core_of : Counted → Option CoreId
core_of (counted_kinds.Hit core line) = Some core
core_of (counted_kinds.Miss core line cause) = Some core
core_of (counted_kinds.Secondary core line) = Some core
core_of (counted_kinds.Stall core line stall) = Some core
core_of (counted_kinds.Eviction core line) = Some core
core_of (counted_kinds.Message pick) = core_of_message pick

-- the line it is counted for
abbrev pub line_of : Counted → LineAddr
line_of (counted_kinds.Hit core line) = line
line_of (counted_kinds.Miss core line cause) = line
line_of (counted_kinds.Secondary core line) = line
line_of (counted_kinds.Stall core line stall) = line
line_of (counted_kinds.Eviction core line) = line
line_of (counted_kinds.Message pick) = line_of_pick pick

-- the counts at a place
abbrev pub counts_at : List Counts → ℕ → Counts
counts_at all place = slice_index_or all place no_counts

-- one more is counted at this place; the other counts stay
abbrev pub counted_at : List Counts → ℕ → Counted → List Counts
counted_at all place what = slice_set all place (one_more what (counts_at all place))

-- .. of this core, if it is counted of one
abbrev pub counted_of : List Counts → Option CoreId → Counted → List Counts
counted_of cores None what = cores
counted_of cores (Some core) what = counted_at cores core.0 what

-- one more is counted, of its core and of its line
abbrev pub tally_with : TallyView → Counted → TallyView
tally_with tally what = record {
  cores = counted_of tally.cores (core_of what) what;
  lines = counted_at tally.lines (line_of what).0 what;
}

-- these are counted, one after another
abbrev pub tally_after : TallyView → List Counted → TallyView
tally_after tally [] = tally
tally_after tally (what ∷ more) = tally_after (tally_with tally what) more

-- ---- sums

-- the misses of all causes
abbrev pub misses_of : Counts → ℕ
misses_of counts =
    capped_sum (counts.cold + counts.replaced + counts.upgrade + counts.true_sharing + counts.false_sharing)

-- the accesses: hits, misses, and those that waited with another
abbrev pub requests_of : Counts → ℕ
requests_of counts = capped_sum (counts.hits + misses_of counts + counts.secondary)

-- the stalls for all reasons
abbrev pub stalls_of : Counts → ℕ
stalls_of counts =
    capped_sum
    (counts.no_register + counts.no_target + counts.no_way + counts.write_back_full + counts.write_back_busy)

-- the messages delivered, of all kinds
abbrev pub delivered_of : Counts → ℕ
delivered_of counts =
    capped_sum
    (counts.messages.requests + counts.messages.forwarded + counts.messages.data_replies
    + counts.messages.acknowledgements + counts.messages.home)

-- two counts together
abbrev pub counts_together : Counts → Counts → Counts
counts_together one other = record {
  hits = capped_sum (one.hits + other.hits);
  cold = capped_sum (one.cold + other.cold);
  replaced = capped_sum (one.replaced + other.replaced);
  upgrade = capped_sum (one.upgrade + other.upgrade);
  true_sharing = capped_sum (one.true_sharing + other.true_sharing);
  false_sharing = capped_sum (one.false_sharing + other.false_sharing);
  secondary = capped_sum (one.secondary + other.secondary);
  no_register = capped_sum (one.no_register + other.no_register);
  no_target = capped_sum (one.no_target + other.no_target);
  no_way = capped_sum (one.no_way + other.no_way);
  write_back_full = capped_sum (one.write_back_full + other.write_back_full);
  write_back_busy = capped_sum (one.write_back_busy + other.write_back_busy);
  evictions = capped_sum (one.evictions + other.evictions);
  messages = sum_of one.messages other.messages;
}

-- one count of all lines together
abbrev pub total_by : (Counts → ℕ) → List Counts → ℕ
total_by count lines = capped_sum (sum_by count lines)

-- all counts of all lines together
abbrev pub totals_of : List Counts → Counts
totals_of lines = record {
  hits = total_by (λ line. line.hits) lines;
  cold = total_by (λ line. line.cold) lines;
  replaced = total_by (λ line. line.replaced) lines;
  upgrade = total_by (λ line. line.upgrade) lines;
  true_sharing = total_by (λ line. line.true_sharing) lines;
  false_sharing = total_by (λ line. line.false_sharing) lines;
  secondary = total_by (λ line. line.secondary) lines;
  no_register = total_by (λ line. line.no_register) lines;
  no_target = total_by (λ line. line.no_target) lines;
  no_way = total_by (λ line. line.no_way) lines;
  write_back_full = total_by (λ line. line.write_back_full) lines;
  write_back_busy = total_by (λ line. line.write_back_busy) lines;
  evictions = total_by (λ line. line.evictions) lines;
  messages = record {
    requests = total_by (λ line. line.messages.requests) lines;
    forwarded = total_by (λ line. line.messages.forwarded) lines;
    data_replies = total_by (λ line. line.messages.data_replies) lines;
    acknowledgements = total_by (λ line. line.messages.acknowledgements) lines;
    home = total_by (λ line. line.messages.home) lines;
  };
}
