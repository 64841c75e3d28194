-- What callers of a slice may rely on after every call.
use Rattle.std.specs.Prelude.{◌≡◌, ℕ, ◌<◌, ◌&&◌, true, if◌then◌else◌, [], count_by, is_some, nat_lt, length, map}
use Rattle.std.specs.Prelude.{slice_get, List, Option, Some, None, Result, Ok}
use Rattle.address_map.specs.declared.address.CoreId.{CoreId}
use Rattle.address_map.specs.Locator.{line_at, local_at}
use Rattle.address_map.specs.Place.{offset_of}
use Rattle.address_map.specs.declared.address.Local.{Local}
use Rattle.address_map.specs.declared.address.WordAddr.{WordAddr}
use Rattle.cache_table.specs.CopyState.{is_waiting}
use Rattle.mshr_file.specs.Miss.{Bound, count_of, has_miss, has_tag, targets_of, IsMissFile}
use Rattle.slice_core.specs.Shape.{shape_of}
use Rattle.slice_answer.specs.Stats.{accepted_of, counts_of}
use Rattle.slice_answer.specs.declared.answer.Delivered.{Delivered}
use Rattle.slice_answer.specs.declared.answer.Delivered.TheVariants as delivered
use Rattle.slice_answer.specs.declared.answer.Issue.{Issue}
use Rattle.slice_answer.specs.declared.answer.Issue.TheVariants as issues
use Rattle.slice_answer.specs.declared.answer.Refused.{Refused}
use Rattle.slice_answer.specs.declared.answer.Stall.TheVariants as stalls
use Rattle.slice_core_theory.specs.Blocks.{AreReachedWith}
use Rattle.slice_core_theory.specs.Coherent.{HasBoundedChannels, HasOneWriter, NothingIsBroken}
use Rattle.slice_core_theory.specs.Newest.{HasNewest}
use Rattle.slice_core_theory.specs.Whole.{IsAddressed, IsWhole}
use Rattle.slice_log.specs.Log.{initially, value, IsLegal, IsOrdered}
use Rattle.slice_log.specs.declared.entry.Entry.{Entry}
use Rattle.slice_core_theory.specs.Shows.{IsAccounted}
use Rattle.slice_core_cache.specs.CoreCache.{copy_of, state_of, tag_at}
use Rattle.slice_core_cache.specs.Steps.{victim_for}
use Rattle.slice_core_cache.specs.declared.access.AccessKind.TheVariants as access_kinds
use Rattle.slice_core_cache.specs.declared.access.Placement.TheVariants as placements
use Rattle.slice_core_cache.specs.declared.copy.CacheCopy.{CacheCopy}
use Rattle.slice_core_cache.specs.declared.tags.TagState.TheVariants as tag_states
use Rattle.slice_core_theory.specs.Standing.{is_open, standings}
use Rattle.slice_core_spec.specs.Calls.{PartsView}
use Rattle.slice_core_spec.specs.View.{View, channels_at, entry_at, cache_at, word_now}
use Rattle.slice_core_spec.specs.declared.decision.Decision.{Decision}
use Rattle.slice_core_spec.specs.declared.decision.Decision.TheVariants as decisions
use Rattle.slice_core_exec.specs.CoreLines.{last_written_back}
use Rattle.slice_core_exec.specs.declared.line_view.LineView.{LineView}
use Rattle.slice_queues.specs.Line.{messages_at}
use Rattle.slice_queues.specs.Waiting.{HasEachOnce, is_from_core, is_same_pick, line_waiting}
use Rattle.slice_queues.specs.Pick.{channel_of, line_of}
use Rattle.slice_queues.specs.declared.channel.Channel.{Channel}
use Rattle.slice_queues.specs.declared.channel.Pick.{Pick}
use Rattle.slice_queues.specs.declared.message.Message.{Message}
use Rattle.target_list.specs.declared.target.Target.{Target}
use Rattle.slice_answer.specs.declared.answer.Delivery.TheVariants as deliveries
use Rattle.slice_answer.specs.declared.answer.Delivery.{Delivery}

-- Each request that a core had accepted is in exactly one place, and nothing else is there. It is a target of
-- a miss register, or an entry of the log: a reply, as long as a tag names its number, and handed out otherwise.
pub record IsStanding (v : View) : Type 0 where
  pub once : (core : CoreId) (seq : ℕ)
      → standings (cache_at v core).misses v.log core.0 seq ≡ (if nat_lt seq (cache_at v core).accepted then 1 else 0)

-- An open tag of a core names one of its targets, and no other tag names any; a performed tag names an entry of the log
-- that the core asked for under it.
pub record TagsName (v : View) : Type 0 where
  pub opened : (core : CoreId) (tag : ℕ) → core.0 < length v.caches
      → count_of (has_tag tag) (cache_at v core).misses ≡ (if is_open (tag_at (cache_at v core) tag) then 1 else 0)
  pub replies : (core : CoreId) (tag number : ℕ) → core.0 < length v.caches
      → tag_at (cache_at v core) tag ≡ tag_states.Performed number
      → (e : Entry) × (slice_get v.log number ≡ Some e) × (e.core.0 ≡ core.0) × (e.tag ≡ tag)

-- No core has two miss registers for a line, it has one exactly where its copy of the line waits, and each is for a
-- line of the slice. (Kroft's miss status holding registers.)
pub record HasOneRegister (v : View) : Type 0 where
  pub single : (core : CoreId) → core.0 < length v.caches → IsMissFile (cache_at v core).misses
  pub waits : (core : CoreId) (local : Local) → core.0 < length v.caches
      → is_waiting (state_of (cache_at v core) local) ≡ has_miss (cache_at v core).misses local.0
  pub own : (core : CoreId) (local : Local) → core.0 < length v.caches
      → has_miss (cache_at v core).misses local.0 ≡ true → local.0 < v.lines.lines

-- Hits, misses that opened a register and misses that joined one add up to the accepted requests, for each core.
abbrev pub CountsAccepted : PartsView → Type 0
CountsAccepted p =
    (core : CoreId) → core.0 < length p.view.caches → accepted_of (counts_of p.stats core) ≡
    (cache_at p.view core).accepted

-- A slice to which the theorems of the crates below apply. It is of one size in all its parts, with one core at least
-- and 64 at most; a core's copies are where they belong, none twice; its lines are some of a machine's, each target
-- names a word of its line, and each core's registers, tags and entries account for its requests; and each line is,
-- with its blocks, in a state that the protocol's machine can come to: so what is proved of such a line is true of it.
pub record IsReachedSlice (v : View) : Type 0 where
  pub some_core : 0 < length v.caches
  pub whole : IsWhole v
  pub addressed : IsAddressed v
  pub accounted : IsAccounted v
  pub lines : AreReachedWith v

-- The same, as callers carry it: few look into it.
unfoldable pub IsReached : View → Type 0
IsReached v = IsReachedSlice v

-- What holds of a slice after every call.
pub record Holds (p : PartsView) : Type 0 where
  -- no request is lost, doubled or made up, and each tag names what was asked for under it
  pub standing : IsStanding p.view
  pub tags : TagsName p.view
  -- a core has one miss register for a line of the slice that it waits for, and none for any other
  pub registers : HasOneRegister p.view
  -- a core's entries of a line are in the order in which it asked for them, and each reply is the value that its word
  -- had
  pub ordered : IsOrdered p.view.log
  pub legal : IsLegal (initially p.view.init) p.view.log
  -- one core writes a line or many read it; who may read it reads what was last performed, and blocks under way carry
  -- that
  pub one_writer : HasOneWriter p.view
  pub newest : HasNewest p.view
  -- no message in flight is broken: the tables have a row for it or it has to wait, each channel that the row sends to
  -- has room, and it doesn't come early
  pub unbroken : NothingIsBroken p.view
  -- a channel never has more messages than it takes, and what waits there is of the slice's cores
  pub bounded : HasBoundedChannels p.view
  -- what is counted of a core's requests adds up
  pub counted : CountsAccepted p
  -- what the theorems on slices and on the protocol's lines suppose
  pub reached : IsReached p.view

-- The two are states of one slice: which slice it is stays as it was built.
pub record IsSameSlice (old new : PartsView) : Type 0 where
  pub lines : new.view.lines ≡ old.view.lines
  pub init : new.view.init ≡ old.view.init
  pub counters : new.view.counters ≡ old.view.counters
  -- how many cores there are, and of each one the shape of its part: ways, policy, write-back buffer and miss file
  pub cores : length new.view.caches ≡ length old.view.caches
  pub shapes : map shape_of new.view.caches ≡ map shape_of old.view.caches
  -- whether the machine has the exclusive state, as the slice's steps and its statistics have it
  pub exclusive : new.view.exclusive ≡ old.view.exclusive
  pub reported : new.stats.exclusive ≡ old.stats.exclusive

-- What a slice shows of a word, whose line it has: the value that the word has while the slice is quiet.
abbrev pub ShowsWord : View → WordAddr → Option Local → ℕ → Type 0
ShowsWord v word None shown = Unit {0}
ShowsWord v word (Some local) shown = shown ≡ word_now v local (offset_of word).0

-- It is the word's value after the whole log.
abbrev pub ShowsLast : View → WordAddr → Option Local → ℕ → Type 0
ShowsLast v word None shown = Unit {0}
ShowsLast v word (Some local) shown = shown ≡ value (initially v.init word.0) v.log word.0

-- What a slice shows of a line: nothing of one that isn't its own, and else the directory's entry and each core's
-- state.
abbrev pub ShowsLine : View → Option Local → Option LineView → Type 0
ShowsLine v None shown = shown ≡ None
ShowsLine v (Some local) shown =
    (given : LineView) × (shown ≡ Some given)
    × (given.dir ≡ (entry_at v local).state) × (given.owner ≡ (entry_at v local).owner)
    × (given.sharers ≡ (entry_at v local).sharers) × (given.home ≡ (entry_at v local).home.words)
    × (given.copies.items ≡ map (λ cache. state_of cache local) v.caches)

-- The message in front of a channel, which a delivery there would take: the oldest that waits, and none for a line that
-- isn't the slice's.
abbrev pub front_at : View → Option Local → Channel → Option Message
front_at v None channel = None
front_at v (Some local) channel = slice_get (messages_at (channels_at v local) channel) 0

-- A core's copy of a line, wherever it is: none of a line that isn't the slice's.
abbrev pub copy_at : View → CoreId → Option Local → Option CacheCopy
copy_at v core None = None
copy_at v core (Some local) = Some (copy_of (cache_at v core) local)

-- The accesses of a core that wait for a line, the oldest first.
abbrev pub targets_at : View → CoreId → Option Local → List Target
targets_at v core None = []
targets_at v core (Some local) = targets_of (cache_at v core).misses local.0

-- What a slice shows of a line's channels: those in which a message waits, in their order, each once and no other.
abbrev pub AreWaitingAt : View → Option Local → List Channel → Type 0
AreWaitingAt v None shown = ⊥
AreWaitingAt v (Some local) shown =
    (shown ≡ line_waiting (channels_at v local)) × HasEachOnce (channels_at v local) shown

-- Each pick in front of which a message waits is in the list once, and no other is. (A channel of
-- acknowledgements names one of 64 cores as its sender.)
abbrev pub HasEachFrontOnce : View → List Pick → Type 0
HasEachFrontOnce v picks =
    (pick : Pick) →
    count_by (is_same_pick pick) picks
    ≡ (if is_from_core (channel_of pick) && is_some (front_at v (local_at v.lines (line_of pick).0) (channel_of pick))
    then 1 else 0)

-- The core's miss file is bounded by tags alone: there is a field for each tag of the core, so for each destination
-- that an access of its can have (Farkas and Jouppi's inverted organisation).
abbrev pub IsInverted : View → CoreId → Type 0
IsInverted v core = (cache_at v core).bound ≡ Bound.tags

-- A miss for which a line had to leave: the victim is the line that the core's write-back buffer took in last.
abbrev pub LeavesVictim : Decision → View → CoreId → Result Issue Refused → View → Type 0
LeavesVictim (decisions.Access local (access_kinds.PrimaryMiss next ask placements.Victim)) old core
    (Ok (issues.Pending seq)) new =
    last_written_back new core ≡ Some (line_at old.lines (victim_for (cache_at old core) local))
LeavesVictim decision old core answer new = Unit {0}

-- The request was not put off for lack of a miss register, nor of a field of one.
abbrev pub NeedsNoRegister : Result Issue Refused → Type 0
NeedsNoRegister (Ok (issues.Stall stalls.NoRegister)) = ⊥
NeedsNoRegister (Ok (issues.Stall stalls.NoTarget)) = ⊥
NeedsNoRegister _ = Unit {0}

-- The answer isn't that the tables have no row for a message, that a channel is full, or that a message came early.
abbrev pub IsNotBroken : Delivered → Type 0
IsNotBroken (delivered.Broken cell) = ⊥
IsNotBroken _ = Unit {0}

abbrev pub IsNotBrokenNext : Delivery Pick → Type 0
IsNotBrokenNext (deliveries.Broken cell) = ⊥
IsNotBrokenNext _ = Unit {0}
