-- The blocks of a line after a forwarded message: the core that had the newest gives it on.
use Rattle.std.proofs.Common.{◌≡◌, ℕ, ◌<◌, ◌≤◌, Bool, true, false, not, drop, if◌then◌else◌, List, length, Some}
use Rattle.std.proofs.Common.{slice_get, refl, sym, ap, ◌∙◌, subst}
use Rattle.address_map.specs.CoreSet.{with}
use Rattle.address_map.specs.declared.address.CoreId.{CoreId}
use Rattle.address_map.specs.declared.address.Local.{Local}
use Rattle.address_map.specs.declared.block.Block.{Block}
use Rattle.cache_table.specs.Law.{sends_data, sends_inv_ack}
use Rattle.cache_table.specs.Row.{row_of}
use Rattle.cache_table.specs.declared.row.CacheSends.{CacheSends}
use Rattle.cache_table.specs.declared.row.Row.TheVariants as rows
use Rattle.cache_table.specs.declared.state.CopyState.{CopyState}
use Rattle.directory_table.specs.declared.state.DirEntry.{DirEntry}
use Rattle.slice_core_theory.proofs.BlocksFrame.{by_cache_with, reached_further}
use Rattle.slice_core_theory.proofs.BlocksPlaces.{CoresBlocksStand, blocks_given, blocks_same, blocks_turned}
use Rattle.slice_core_theory.proofs.BlocksPlaces.{core_as, with_block_at}
use Rattle.slice_core_theory.proofs.Forwarded.{below, channels_after, forwarded_as, message_stands, message_step}
use Rattle.slice_core_theory.proofs.ForwardedPart.{moved, moved-state}
use Rattle.slice_core_theory.proofs.Frame.{by_number, with_copy_at}
use Rattle.slice_core_theory.proofs.Parts.{IsFirst, first_stands}
use Rattle.slice_core_theory.proofs.Places.{with_core-length}
use Rattle.slice_core_theory.proofs.Rows.{KeepsBlock, keeps, sends_for}
use Rattle.slice_core_theory.specs.Blocks.{AreReachedWith, BlocksStand, HasValues, LineReachedWith, has_block}
use Rattle.slice_core_theory.specs.Stands.{copies_at}
use Rattle.slice_log.specs.Log.{initially}
use Rattle.slice_log.specs.declared.entry.Entry.{Entry}
use Rattle.slice_core_spec.specs.Plan.{event_of_forwarded, plan_of, requester_of}
use Rattle.slice_core_spec.specs.Sends.{cache_sent}
use Rattle.slice_core_spec.specs.Steps.{after_forwarded}
use Rattle.slice_core_spec.specs.View.{View, IsShaped, channels_at, entry_at, first_word, cache_at}
use Rattle.slice_core_spec.specs.Within.{HasCopy}
use Rattle.protocol_coherence.proofs.Each.{each_state, each_state-at, implies-at, not-at}
use Rattle.protocol_coherence.proofs.ValueSteps.{without_blocks}
use Rattle.protocol_coherence.specs.Fit.{◌implies◌}
use Rattle.protocol_coherence.specs.LineSteps.{Reached, Step}
use Rattle.protocol_coherence.specs.Values.{blocks_after, performs}
use Rattle.slice_core_cache.proofs.Found.{copy_of-after_advance_other}
use Rattle.slice_core_cache.specs.Copy.{is_gone, no_copy}
use Rattle.slice_core_cache.specs.Kept.{IsKept}
use Rattle.slice_core_cache.specs.Steps.{after_advance}
use Rattle.slice_core_cache.specs.declared.copy.CacheCopy.{CacheCopy}
use Rattle.slice_queues.specs.Line.{LineChannels, after_send, after_take, core_at, with_core}
use Rattle.slice_queues.specs.declared.channel.Channel.TheVariants as channels
use Rattle.slice_queues.specs.declared.message.DataMessage.TheVariants as data_messages
use Rattle.slice_queues.specs.declared.message.ForwardedMessage.{ForwardedMessage}
use Rattle.slice_queues.specs.declared.message.ForwardedMessage.TheVariants as forwarded_messages
use Rattle.slice_queues.specs.declared.message.Message.TheVariants as messages
use Rattle.slice_core_spec.specs.Plan.{forwarded_move}

-- ---- the copy

-- A copy that has a block is still there.
block-stays : (state : CopyState) → has_block state ≡ true → is_gone state ≡ false
unfolding each_state
block-stays state has =
    not-at _ (implies-at (has_block state) (not (is_gone state))
    (each_state-at (λ s. has_block s implies not (is_gone s)) refl state) has)

moved-block : (copy : CacheCopy) (next : CopyState) → has_block next ≡ true → (moved copy next).block ≡ copy.block
moved-block copy next has =
    ap (λ b. (if b then no_copy else record copy { state = next }).block) (block-stays next has)

-- A block that stays, written as one that is set.
pub set-same : (block : ℕ → Block) (c x : ℕ) → with_block_at block c (block c) x ≡ block x
set-same block c x =
    by_number x c (λ b. (if b then block c else block x) ≡ block x) (λ same. sym (ap block same)) (λ apart. refl)

-- No forwarded message performs an access.
performs-none : (message : ForwardedMessage) (next : CopyState) (block : Block)
    → (if performs (event_of_forwarded message) next then block else block) ≡ block
performs-none (forwarded_messages.Inv core) next block = refl
performs-none (forwarded_messages.FwdGetS core) next block = refl
performs-none (forwarded_messages.FwdGetM core) next block = refl
performs-none forwarded_messages.PutAck next block = refl

-- ---- the line

module _ (exclusive : Bool) (cores : ℕ) (init : ℕ → ℕ) (log : List Entry) (first : ℕ) (entry : DirEntry)
    (queues : LineChannels) (copy : ℕ → CacheCopy) (core : CoreId) (next : CopyState) (some : 0 < cores)
    (most : cores ≤ 64) (old : LineReachedWith exclusive cores init log first entry queues copy)
    (size : length queues.cores ≡ cores) (within : core.0 < cores) where
  abbrev block : Block
  block = (copy core.0).block

  reached : Reached exclusive cores old.line
  reached = without_blocks exclusive cores old.line old.blocks old.newest old.reached

  abbrev queues_now : LineChannels
  queues_now = with_core queues core.0
      (record (core_at queues core.0) { forwarded = drop 1 (core_at queues core.0).forwarded })

  abbrev copies_now : ℕ → CacheCopy
  copies_now = with_copy_at copy core.0 (moved (copy core.0) next)

  module _ (message : ForwardedMessage) (waits : slice_get (core_at queues core.0).forwarded 0 ≡ Some message)
      (row : row_of (copy core.0).state (event_of_forwarded message) ≡ rows.Go next (sends_for message)) where
    abbrev step_now : Step exclusive cores old.line
    step_now =
        message_step exclusive cores entry queues copy old.line core next block some most reached old.stands size within
        message waits row

    first_message : IsFirst message (old.line.part core.0)
    first_message =
        first_stands (copy core.0) (core_at queues core.0) (old.line.part core.0) message waits
        (old.stands.part core.0 within)

    keeping : KeepsBlock (copy core.0).state next (sends_for message)
    keeping = keeps message (copy core.0).state next (sends_for message) row

    -- The message is taken, and the copy goes on.
    taken_blocks : CoresBlocksStand cores queues_now copies_now old.blocks.copy old.blocks.arriving old.blocks.put
    taken_blocks x below =
        let here = old.blocks_stand.core core.0 within in
        core_as (copies_now x) (core_at queues_now x) _ _ _ _ _ _ (sym (set-same old.blocks.copy core.0 x))
        (sym (set-same old.blocks.arriving core.0 x)) (sym (set-same old.blocks.put core.0 x))
        (blocks_turned cores queues copy old.blocks.copy old.blocks.arriving old.blocks.put core.0
        (moved (copy core.0) next)
        (record (core_at queues core.0) { forwarded = drop 1 (core_at queues core.0).forwarded })
        (old.blocks.copy core.0) (old.blocks.arriving core.0) (old.blocks.put core.0)
        (subst (λ n. core.0 < n) (sym size) within)
        (record {
          in_copy = λ has.
              let has_next = ap has_block (sym (moved-state (copy core.0) next)) ∙ has in
              moved-block (copy core.0) next has_next ∙ here.in_copy (keeping.kept has_next);
          in_data = here.in_data;
          in_put = here.in_put;
        }) old.blocks_stand.core x below)

    -- Its block goes to the core that the message names.
    given_blocks : (requester : CoreId) → requester.0 ≡ (old.line.part core.0).names
        → sends_data (sends_for message) ≡ true → sends_inv_ack (sends_for message) ≡ false
        → CoresBlocksStand cores
        (after_send queues_now (channels.Data requester) (messages.Data (data_messages.Data block 0))) copies_now
        old.blocks.copy (with_block_at old.blocks.arriving (old.line.part core.0).names (old.blocks.copy core.0))
        old.blocks.put
    given_blocks requester named gives owes x within_x =
        let there = below exclusive cores entry queues copy old.line core next block some most reached old.stands size
        within message waits row requester named gives owes in
        let here = taken_blocks requester.0 there in
        core_as (copies_now x)
        (core_at (after_send queues_now (channels.Data requester) (messages.Data (data_messages.Data block 0))) x) _ _ _
        _ _ _
        refl (ap (λ n. with_block_at old.blocks.arriving n (old.blocks.copy core.0) x) (sym named)) refl
        (blocks_given cores queues_now copies_now old.blocks.copy old.blocks.arriving old.blocks.put requester.0
        (record (core_at queues_now requester.0) { «data» = Some (data_messages.Data block 0) })
        (old.blocks.copy core.0)
        (subst (λ n. requester.0 < n)
        (sym (with_core-length queues core.0
        (record (core_at queues core.0) { forwarded = drop 1 (core_at queues core.0).forwarded }) ∙ size)) there)
        (record {
          in_copy = here.in_copy;
          in_data = (old.blocks_stand.core core.0 within).in_copy (keeping.given gives);
          in_put = here.in_put;
        }) taken_blocks x within_x)

  -- The blocks after each message.
  message_blocks : (message : ForwardedMessage)
      (waits : slice_get (core_at queues core.0).forwarded 0 ≡ Some message)
      (row : row_of (copy core.0).state (event_of_forwarded message) ≡ rows.Go next (sends_for message))
      → BlocksStand cores entry
      (cache_sent (after_take queues (channels.Fwd core)) core (requester_of core message) block (sends_for message))
      copies_now (blocks_after (step_now message waits row) old.newest old.blocks)
  message_blocks forwarded_messages.PutAck waits row = record {
    core = λ x below.
        core_as _ _ _ _ _ _ _ _ (set-same old.blocks.copy core.0 x) refl refl
        (taken_blocks forwarded_messages.PutAck waits row x below);
    home = old.blocks_stand.home;
    mail = old.blocks_stand.mail;
  }
  message_blocks (forwarded_messages.Inv requester) waits row = record {
    core = λ x below.
        core_as _ _ _ _ _ _ _ _ (set-same old.blocks.copy core.0 x) refl refl
        (blocks_same cores queues_now copies_now old.blocks.copy old.blocks.arriving old.blocks.put requester.0
        (record (core_at queues_now requester.0) { acks = with (core_at queues_now requester.0).acks core.0 }) refl refl
        (taken_blocks (forwarded_messages.Inv requester) waits row) x below);
    home = old.blocks_stand.home;
    mail = old.blocks_stand.mail;
  }
  message_blocks (forwarded_messages.FwdGetM requester) waits row =
      let named = sym (first_message (forwarded_messages.FwdGetM requester) waits row).2 in record {
        core = λ x below.
            core_as _ _ _ _ _ _ _ _ (set-same old.blocks.copy core.0 x) refl refl
            (given_blocks (forwarded_messages.FwdGetM requester) waits row requester named refl refl x below);
        home = old.blocks_stand.home;
        mail = old.blocks_stand.mail;
      }
  message_blocks (forwarded_messages.FwdGetS requester) waits row =
      let named = sym (first_message (forwarded_messages.FwdGetS requester) waits row).2 in record {
        core = λ x below.
            core_as _ _ _ _ _ _ _ _ (set-same old.blocks.copy core.0 x) refl refl
            (given_blocks (forwarded_messages.FwdGetS requester) waits row requester named refl refl x below);
        home = old.blocks_stand.home;
        mail =
            (old.blocks_stand.core core.0 within).in_copy
            ((keeping (forwarded_messages.FwdGetS requester) waits row).given refl);
      }

  -- The line continues with its blocks, whichever message the core takes.
  message_reached : (message : ForwardedMessage) → slice_get (core_at queues core.0).forwarded 0 ≡ Some message
      → row_of (copy core.0).state (event_of_forwarded message) ≡ rows.Go next (sends_for message)
      → LineReachedWith exclusive cores init log first entry
      (cache_sent (after_take queues (channels.Fwd core)) core (requester_of core message) block (sends_for message))
      copies_now
  message_reached message waits row =
      reached_further exclusive cores init log first entry
      (cache_sent (after_take queues (channels.Fwd core)) core (requester_of core message) block (sends_for message))
      copies_now old.line old.blocks old.newest old.reached (step_now message waits row) old.newest
      (subst (HasValues init log first) (sym (performs-none message next old.newest)) old.has_values)
      (message_stands exclusive cores entry queues copy old.line core next block some most reached old.stands size
      within message waits row)
      (message_blocks message waits row)

-- ---- the slice

-- A forwarded message that a core takes leaves each line reached, blocks and all.
pub forwarded_keeps : (v : View) (local : Local) (core : CoreId) (next : CopyState) (sent : CacheSends)
    (requester : CoreId) → 0 < length v.caches → length v.caches ≤ 64 → IsShaped v → IsKept (cache_at v core)
    → core.0 < length v.caches → local.0 < v.lines.lines → HasCopy (cache_at v core) local
    → plan_of v local (channels.Fwd core) ≡ forwarded_move next sent requester → AreReachedWith v
    → AreReachedWith (after_forwarded v local core next sent requester)
forwarded_keeps v local core next sent requester some most shaped kept there inside has_copy is all =
    by_cache_with v local shaped inside all v.log (λ other within apart block values. values)
    (channels_after v local core next sent requester some most shaped kept there inside has_copy is) core
    (after_advance (cache_at v core) local next) there
    (λ other within apart. copy_of-after_advance_other (cache_at v core) local kept next other apart)
    (forwarded_as v local core next sent requester some most shaped kept there inside has_copy is
    (λ queues copies. LineReachedWith v.exclusive (length v.caches) (initially v.init) v.log (first_word v local)
    (entry_at v local) queues copies)
    (message_reached v.exclusive (length v.caches) (initially v.init) v.log (first_word v local) (entry_at v local)
    (channels_at v local) (copies_at v local) core next some most (all local inside) (shaped.cores local inside) there))
