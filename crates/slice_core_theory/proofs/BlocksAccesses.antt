-- The blocks of the slice's lines, and its log, after an access that is performed at once.
use Rattle.std.proofs.Common.{◌≡◌, ℕ, ◌+◌, ◌*◌, ◌/◌, ◌%◌, ◌<◌, ◌≤◌, [], ◌∷◌, ◌++◌, length, IsSome, arith, sym, ap}
use Rattle.std.proofs.Math.Nat.{mod-add-div}
use Rattle.std.proofs.lemmas.Nat.{mod_below}
use Rattle.address_map.specs.Locator.{IsOfMachine, line_at}
use Rattle.address_map.specs.Place.{offset_of}
use Rattle.address_map.specs.declared.address.CoreId.{CoreId}
use Rattle.address_map.specs.declared.address.Local.{Local}
use Rattle.address_map.specs.declared.request.Request.{Request}
use Rattle.cache_array.specs.Array.{held_at as array_at}
use Rattle.cache_table.specs.Row.{row_of}
use Rattle.cache_table.specs.declared.row.CacheSends.TheVariants as cache_sends
use Rattle.cache_table.specs.declared.row.Row.TheVariants as rows
use Rattle.cache_table.specs.declared.state.CopyState.{CopyState}
use Rattle.slice_core_cache.proofs.Found.{copy_of-after_hit, copy_of-after_hit_other, copy_of-held}
use Rattle.slice_core_cache.specs.Access.{event_of}
use Rattle.slice_core_cache.specs.Copy.{word_at}
use Rattle.slice_core_cache.specs.Kept.{IsKept}
use Rattle.slice_core_cache.specs.CoreCache.{array_copy, copy_of, state_of}
use Rattle.slice_core_cache.specs.Steps as caches
use Rattle.slice_core_cache.specs.declared.copy.CacheCopy.{CacheCopy}
use Rattle.slice_core_theory.proofs.Accesses.{has_channels}
use Rattle.slice_core_theory.proofs.BlocksFrame.{by_copy_with}
use Rattle.slice_core_theory.proofs.BlocksPerforming.{access_performed, access_reads}
use Rattle.slice_core_theory.proofs.Current.{copy_has_values}
use Rattle.slice_core_theory.proofs.LogElsewhere.{log_keeps}
use Rattle.slice_core_theory.proofs.Values.{performed_legal}
use Rattle.slice_core_theory.specs.Blocks.{AreReachedWith}
use Rattle.slice_core_theory.specs.Stands.{copies_at}
use Rattle.slice_core_spec.specs.Steps.{after_hit}
use Rattle.slice_core_spec.specs.View.{View, IsShaped, channels_at, entry_at, first_word, cache_at}
use Rattle.slice_log.specs.Log.{IsLegal, initially}
use Rattle.slice_log.specs.Op.{reply_of}
use Rattle.slice_log.specs.declared.entry.Entry.{Entry}

-- A word is at its place of its line.
pub word_of_line : (word line : ℕ) → word / 8 ≡ line → word ≡ 8 * line + 0 + word % 8
word_of_line word line is = let whole = mod-add-div word 8 in omega (arith, whole, is)

-- the entry of an access that hits
abbrev pub hit_entry : View → CoreId → Request → Local → Entry
hit_entry v core request local =
    let cache = cache_at v core in
    record {
      op = request.op;
      word = request.word;
      seq = cache.accepted;
      reply = reply_of request.op (word_at (array_copy cache local).block (offset_of request.word).0);
      since = length v.log;
      core = core;
      tag = request.tag;
    }

module _ (v : View) (core : CoreId) (local : Local) (shaped : IsShaped v) (most : length v.caches ≤ 64)
    (machine : IsOfMachine v.lines) (there : core.0 < length v.caches) (inside : local.0 < v.lines.lines)
    (kept : IsKept (cache_at v core)) (request : Request) (next : CopyState)
    (own : request.word.0 / 8 ≡ (line_at v.lines local).0) (held : IsSome (array_at (cache_at v core).array local))
    (row : row_of (state_of (cache_at v core) local) (event_of request.op) ≡ rows.Go next cache_sends.Nothing)
    (all : AreReachedWith v) where
  abbrev offset : ℕ
  offset = (offset_of request.word).0

  word_here : request.word.0 ≡ first_word v local + offset
  word_here = word_of_line request.word.0 (line_at v.lines local).0 own

  inside_block : offset < 8
  inside_block = mod_below request.word.0 8 (omega arith)

  replied : (hit_entry v core request local).reply
      ≡ reply_of request.op (word_at (copy_of (cache_at v core) local).block offset)
  replied =
      ap (λ (c : CacheCopy). reply_of request.op (word_at c.block offset))
      (sym (copy_of-held (cache_at v core) local kept held))

  -- An access that hits leaves each line reached, blocks and all.
  pub hit_keeps : AreReachedWith (after_hit v core request local next)
  hit_keeps =
      let cache = cache_at v core in
      let now = copy_of-after_hit cache local kept held offset request.op next in
      let done = hit_entry v core request local in
      by_copy_with v local shaped inside all (v.log ++ done ∷ [])
      (λ other within apart block has.
      log_keeps v machine local other apart (done ∷ []) v.log ((offset, inside_block, word_here), tt) block has)
      core (caches.after_hit cache local offset request.op next) there
      (λ other within apart. copy_of-after_hit_other cache local kept held offset request.op next other apart)
      (access_performed v.exclusive (length v.caches) (initially v.init) (first_word v local) (entry_at v local)
      (channels_at v local) core.0 (omega (arith, there)) most there
      (has_channels v core local shaped most there inside kept) (copies_at v local) v.log next
      (copy_of (caches.after_hit cache local offset request.op next) local) done offset row
      (ap (λ (c : CacheCopy). c.state) now) (ap (λ (c : CacheCopy). c.block) now) inside_block word_here replied
      (all local inside))

  -- And its entry keeps the log legal.
  pub hit_legal : IsLegal (initially v.init) v.log → IsLegal (initially v.init) (after_hit v core request local
      next).log
  hit_legal legal =
      performed_legal (initially v.init) v.log (first_word v local) (copy_of (cache_at v core) local).block offset
      (hit_entry v core request local)
      (copy_has_values v.exclusive (length v.caches) (initially v.init) v.log (first_word v local) (entry_at v local)
      (channels_at v local) (copies_at v local) (omega (arith, there)) most (all local inside) core.0 there
      (access_reads request.op (state_of (cache_at v core) local) next row))
      inside_block word_here replied legal
