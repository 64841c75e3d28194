-- A quiet slice that begins a new log is sound, and shows what a slice does of which nothing was asked yet.
use Rattle.std.proofs.Common.{◌≡◌, ℕ, zero, suc, ◌+◌, ◌%◌, ◌^◌, ◌<◌, ◌≤◌, Bool, false, List, [], ◌∷◌, length, map, get_or}
use Rattle.std.proofs.Common.{None}
use Rattle.std.proofs.Common.{arith, refl, sym, ap, ◌∙◌, subst, ⊎_elim}
use Rattle.std.specs.Prelude.{if◌then◌else◌, nat_lt, sum_by, Contains, IfSome, IsSome}
use Rattle.std.proofs.lemmas.Bool.{cases_lt, le-ltb}
use Rattle.std.proofs.lemmas.List.{get_or-replicate, get_or_past, length-map, length-replicate}
use Rattle.std.proofs.lemmas.List.Elements.{All-get_or, All-nil}
use Rattle.std.proofs.lemmas.List.Sums.{sum_by-cons}
use Rattle.std.proofs.lemmas.Nat.{mod_below}
use Rattle.address_map.specs.Locator.{Lines}
use Rattle.address_map.specs.declared.address.CoreId.{CoreId}
use Rattle.address_map.specs.declared.address.Local.{Local}
use Rattle.address_map.specs.declared.block.Block.{Block}
use Rattle.cache_array.specs.Array.{held_at as array_at}
use Rattle.directory_table.specs.declared.state.DirEntry.{DirEntry}
use Rattle.mshr_file.specs.Miss.{targets_of}
use Rattle.mshr_file.specs.declared.registers.Register.{Register}
use Rattle.slice_answer.specs.Stats.{accepted_of, no_counts}
use Rattle.slice_core_cache.specs.CoreCache.{CoreCacheView, IsCoreCacheQuiet, copy_of, recounted, tag_at}
use Rattle.slice_core_cache.specs.Kept.{IsKept}
use Rattle.slice_core_cache.specs.Tags.{IsLeastReply}
use Rattle.slice_core_cache.specs.declared.copy.CacheCopy.{CacheCopy}
use Rattle.slice_core_cache.specs.declared.tags.TagState.{TagState}
use Rattle.slice_core_cache.specs.declared.tags.TagState.TheVariants as tag_states
use Rattle.slice_core_spec.specs.Calls.{PartsView}
use Rattle.slice_core_spec.specs.View.{View, IsQuiet, IsShaped, cache_at, channels_at, entry_at, first_word}
use Rattle.slice_core_spec.specs.View.{no_cache}
use Rattle.slice_core_exec.specs.NewLog.{with_new_log, words_now}
use Rattle.slice_core_theory.proofs.BlocksFrame.{reached_as}
use Rattle.slice_core_theory.proofs.Kept.{Free_apart}
use Rattle.slice_core_theory.proofs.QuietNewest.{quiet_newest}
use Rattle.slice_core_theory.proofs.Requests.{none-contained}
use Rattle.slice_core_theory.specs.Blocks.{HasValues, LineReachedWith}
use Rattle.slice_core_theory.specs.Newest.{IsFaithful}
use Rattle.slice_core_theory.specs.Shows.{small_machine_of}
use Rattle.slice_core_theory.specs.SmallMachine.{IsSame, new_small_machine}
use Rattle.slice_core_theory.specs.Standing.{IsAccount, target_count}
use Rattle.slice_core_theory.specs.Stands.{copies_at}
use Rattle.slice_core.proofs.Coherent.{whole}
use Rattle.slice_core.proofs.WordsNow.{initially-now}
use Rattle.slice_core.specs.Facts.{IsSameSlice}
use Rattle.slice_core.specs.NewLog.{BeginsAnew}
use Rattle.slice_core.specs.Shape.{Shape, shape_of}
use Rattle.slice_core.specs.Sound.{HasAccounts, HasFittingCounts, HasLinks, IsSound}
use Rattle.slice_log.proofs.Pushes.{IsLegal-nil, IsOrdered-nil}
use Rattle.slice_log.proofs.Values.{value-nil}
use Rattle.slice_log.specs.Log.{initially, value}
use Rattle.slice_log.specs.declared.entry.Entry.{Entry}
use Rattle.slice_queues.specs.Line.{LineChannels}

-- ---- a core whose requests are counted from 0

cache-recounted : (caches : List CoreCacheView) (core : ℕ)
    → get_or (map recounted caches) core no_cache ≡ recounted (get_or caches core no_cache)
cache-recounted [] core = refl
cache-recounted (cache ∷ caches) zero = refl
cache-recounted (cache ∷ caches) (suc core) = cache-recounted caches core

-- The number of targets that wait is unchanged.
waiting-recounted : (caches : List CoreCacheView)
    → sum_by (λ (cache : CoreCacheView). target_count cache.misses) (map recounted caches)
    ≡ sum_by (λ (cache : CoreCacheView). target_count cache.misses) caches
waiting-recounted [] = refl
waiting-recounted (cache ∷ caches) =
    let waiting : CoreCacheView → ℕ = λ cache. target_count cache.misses in
    sum_by-cons waiting (recounted cache) (map recounted caches)
    ∙ ap (λ n. target_count cache.misses + n) (waiting-recounted caches)
    ∙ sym (sum_by-cons waiting cache caches)

-- Its shape is the same.
shapes-recounted : (caches : List CoreCacheView) → map shape_of (map recounted caches) ≡ map shape_of caches
shapes-recounted [] = refl
shapes-recounted (cache ∷ caches) = ap (λ (shapes : List Shape). shape_of cache ∷ shapes) (shapes-recounted caches)

kept-recounted : (cache : CoreCacheView) → IsKept cache → IsKept (recounted cache)
kept-recounted cache kept = record {
  array = kept.array;
  buffer = kept.buffer;
  apart = kept.apart;
  held = kept.held;
  leaving = kept.leaving;
}

uncounted : (b : Bool) → b ≡ false → ◌≡◌ {A = ℕ} (if b then 1 else 0) 0
uncounted b fails = rw fails refl

-- Where nothing waits and each reply was handed out, nothing is left to account for.
account-anew : (lines : Lines) (log : List Entry) (core : ℕ) (misses : List Register) (states : List TagState)
    (accepted : ℕ) → misses ≡ [] → IsLeastReply states None → IsAccount lines log core misses states accepted
    → IsAccount lines [] core misses states 0
account-anew lines log core misses states accepted is_none none_left account =
    subst (λ misses. IsAccount lines [] core misses states 0) (sym is_none)
    (by (subst (λ misses. IsAccount lines log core misses states accepted) is_none account))
  where
    by : IsAccount lines log core [] states accepted → IsAccount lines [] core [] states 0
    by account = record {
      standing = record { once = λ seq. sym (uncounted (nat_lt seq 0) (le-ltb seq 0 (omega arith))); counted = refl };
      waits = record { file = account.waits.file; performable = refl; asked = refl };
      tags = record {
        sized = account.tags.sized;
        opened = account.tags.opened;
        replies = λ tag number named. absurd (none_left tag number named);
      };
      order = record { targets = account.order.targets; entries = All-nil _ };
    }

-- A value is one of 64 bits.
value_small : (initial : ℕ) (log : List Entry) (w : ℕ) → value initial log w < 2 ^ 64
unfolding value
value_small initial log w = mod_below _ (2 ^ 64) (omega arith)

-- ---- a line

-- A line is as it was where the newest block has what the new log gives.
line-anew : (exclusive : Bool) (cores now : ℕ) (init begun : ℕ → ℕ) (log : List Entry) (first : ℕ) (entry : DirEntry)
    (channels : LineChannels) (copy : ℕ → CacheCopy) → now ≡ cores
    → ((block : Block) → HasValues init log first block → HasValues begun [] first block)
    → LineReachedWith exclusive cores init log first entry channels copy
    → LineReachedWith exclusive now begun [] first entry channels copy
line-anew exclusive cores now init begun log first entry channels copy same values line =
    subst (λ n. LineReachedWith exclusive n begun [] first entry channels copy) (sym same)
    (record {
      line = line.line;
      blocks = line.blocks;
      newest = line.newest;
      reached = line.reached;
      has_values = values line.newest line.has_values;
      stands = line.stands;
      blocks_stand = line.blocks_stand;
    })

-- ---- the slice

module _ (p : PartsView) (sound : IsSound p) (quiet : IsQuiet p.view) where
  abbrev old : View
  old = p.view

  abbrev new : View
  new = (with_new_log p).view

  cores : length new.caches ≡ length old.caches
  cores = length-map old.caches recounted

  known : (core : CoreId) → core.0 < length new.caches → core.0 < length old.caches
  known core inside = let same = cores in omega (arith, inside, same)

  cache : (core : CoreId) → cache_at new core ≡ recounted (cache_at old core)
  cache core = cache-recounted old.caches core.0

  quiet_cache : (core : CoreId) → core.0 < length old.caches → IsCoreCacheQuiet (cache_at old core)
  quiet_cache core inside = All-get_or IsCoreCacheQuiet old.caches core.0 no_cache inside quiet.caches

  shaped : IsShaped new
  shaped = record {
    entries = sound.counted.shaped.entries;
    lines = sound.counted.shaped.lines;
    cores = λ local inside. sound.counted.shaped.cores local inside ∙ sym cores;
  }

  counted : HasFittingCounts (with_new_log p)
  counted = record {
    shaped = shaped;
    machine = sound.counted.machine;
    some_core = let some = sound.counted.some_core in let same = cores in omega (arith, some, same);
    cores = let few = sound.counted.cores in let same = cores in omega (arith, few, same);
    stats = length-replicate (length old.caches) no_counts ∙ sym cores;
    pending = sound.counted.pending ∙ sym (waiting-recounted old.caches);
    room = let fits = sound.counted.room in omega (arith, fits);
    bounded = sound.counted.bounded;
    accepted = λ core inside.
        ap accepted_of (get_or-replicate (length old.caches) core.0 no_counts no_counts (known core inside))
        ∙ sym (ap (λ (c : CoreCacheView). c.accepted) (cache core));
  }

  accounts : HasAccounts new
  accounts = record {
    accounts = λ core inside.
        let still = quiet_cache core (known core inside) in
        let own = cache_at old core in
        rw (cache core)
        (account-anew old.lines old.log core.0 own.misses own.tags own.accepted still.misses still.replies
        (sound.accounts.accounts core (known core inside)));
    absent = λ core past. refl;
    ordered = IsOrdered-nil;
  }

  links : HasLinks new
  links = record {
    kept = λ core inside. rw (cache core) (kept-recounted (cache_at old core) (sound.links.kept core (known core inside)));
    own = λ core local inside held.
        sound.links.own core local (known core inside)
        (subst (λ (c : CoreCacheView). IsSome (array_at c.array local)) (cache core) held);
    leaves = λ core local inside leaving. sound.links.leaves core local (known core inside) (rw (cache core) at leaving);
    waits = λ core local inside. rw (cache core) (sound.links.waits core local (known core inside));
    sent = λ core local inside there. rw (cache core) (sound.links.sent core local (known core inside) there);
    owned = λ local inside.
        subst (λ n. IfSome (entry_at old local).owner (λ owner. owner.0 < n)) (sym cores) (sound.links.owned local inside);
  }

  -- What the words begin with is what the log before gives.
  value_is : (local : Local) (i : ℕ) → local.0 < old.lines.lines → i < 8
      → initially (words_now old) (first_word old local + i)
      ≡ value (initially old.init (first_word old local + i)) old.log (first_word old local + i)
  value_is local i inside below =
      let newest = quiet_newest old (whole p sound) sound.counted.some_core
      (λ core local known inside. sound.links.waits core local known) sound.faithful.reached quiet local inside in
      initially-now old sound.counted.machine local i inside below ∙ newest.words i below

  values : (local : Local) → local.0 < old.lines.lines → (block : Block)
      → HasValues (initially old.init) old.log (first_word old local) block
      → HasValues (initially (words_now old)) [] (first_word old local) block
  values local inside block has = record {
    size = has.size;
    words = λ i below.
        let word = first_word old local + i in
        let begins = value_is local i inside below in
        let small : initially (words_now old) word < 2 ^ 64 =
        subst (λ n. n < 2 ^ 64) (sym begins) (value_small (initially old.init word) old.log word) in
        has.words i below ∙ sym begins ∙ sym (value-nil (initially (words_now old) word) word small);
  }

  faithful : IsFaithful new
  faithful = record {
    reached = λ local inside.
        let first = first_word old local in
        line-anew old.exclusive (length old.caches) (length new.caches) (initially old.init) (initially (words_now old))
        old.log first (entry_at old local) (channels_at old local) (copies_at new local) cores (values local inside)
        (reached_as old.exclusive (length old.caches) (initially old.init) old.log first (entry_at old local)
        (channels_at old local) (copies_at old local) (copies_at new local)
        (λ core below. ap (λ (c : CoreCacheView). copy_of c local) (cache (record { 0 = core })))
        (sound.faithful.reached local inside));
    legal = IsLegal-nil (initially (words_now old));
  }

  pub sound-new_log : IsSound (with_new_log p)
  sound-new_log = record { counted = counted; accounts = accounts; links = links; faithful = faithful }

  nobody : (core : CoreId) → length old.caches ≤ core.0 → cache_at old core ≡ no_cache
  nobody core past = get_or_past old.caches core.0 no_cache past

  -- Nothing waits, and no reply is left.
  machine : IsSame new_small_machine (small_machine_of new)
  machine = record {
    log = refl;
    waiting = λ r. (
      λ none. absurd none,
      λ waits.
          none-contained waits.target
          (subst (λ misses. Contains (targets_of misses waits.local.0) waits.target)
          (ap (λ (c : CoreCacheView). c.misses) (cache r.core) ∙ no_misses r.core) waits.there),
    );
    replies = λ number. (λ none. absurd none, λ named. no_reply named.core named.tag number (rw (cache named.core) at named.names));
  }
    where
      no_misses : (core : CoreId) → (cache_at old core).misses ≡ []
      no_misses core =
          ⊎_elim (λ inside. (quiet_cache core inside).misses) (λ past. ap (λ (c : CoreCacheView). c.misses) (nobody core past))
          (cases_lt core.0 (length old.caches))

      no_reply : (core : CoreId) (tag number : ℕ) → tag_at (cache_at old core) tag ≡ tag_states.Performed number → ⊥
      no_reply core tag number named =
          ⊎_elim (λ inside. (quiet_cache core inside).replies tag number named)
          (λ past. Free_apart number
          (subst (λ (c : CoreCacheView). tag_at c tag ≡ tag_states.Performed number) (nobody core past) named))
          (cases_lt core.0 (length old.caches))

  pub begins-anew : BeginsAnew p (with_new_log p)
  begins-anew = record { machine = machine; values = value_is }

  pub same-new_log : IsSameSlice (record p { view = record p.view { init = words_now p.view } }) (with_new_log p)
  same-new_log = record {
    lines = refl;
    init = refl;
    counters = refl;
    cores = cores;
    shapes = shapes-recounted old.caches;
    exclusive = refl;
    reported = refl;
  }
