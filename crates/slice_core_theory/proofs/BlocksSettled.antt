-- A copy that has come to its state performs the targets that it allows, and asks for the right to write where a
-- write is
-- left.
use Rattle.std.proofs.Common.{◌≡◌, ℕ, ◌<◌, ◌≤◌, Bool, true, false, cond, if◌then◌else◌, List, [], ◌∷◌, ◌++◌, length}
use Rattle.std.proofs.Common.{Some, refl, sym, ap, ◌∙◌, subst, true≢false}
use Rattle.std.specs.Prelude.{All}
use Rattle.std.specs.List.{list_all}
use Rattle.std.proofs.lemmas.Bool.{and_parts, eq-eqb}
use Rattle.std.proofs.lemmas.List.Elements.{All-head, All-tail}
use Rattle.std.proofs.lemmas.List.Sums.{take_while-cons}
use Rattle.address_map.specs.declared.address.CoreId.{CoreId}
use Rattle.address_map.specs.declared.block.Block.{Block}
use Rattle.address_map.specs.declared.request.Op.{Op}
use Rattle.address_map.specs.declared.request.Op.TheVariants as ops
use Rattle.cache_table.specs.CopyState.{is_waiting}
use Rattle.cache_table.specs.Row.{row_of}
use Rattle.cache_table.specs.declared.row.CacheEvent.TheVariants as cache_events
use Rattle.cache_table.specs.declared.row.CacheSends.TheVariants as cache_sends
use Rattle.cache_table.specs.declared.row.Row.TheVariants as rows
use Rattle.cache_table.specs.declared.state.CopyState.{CopyState}
use Rattle.cache_table.specs.declared.state.CopyState.TheVariants as copy_states
use Rattle.directory_table.specs.declared.state.DirEntry.{DirEntry}
use Rattle.slice_core_cache.specs.Access.{event_of}
use Rattle.slice_core_cache.specs.Perform.{asks_to_write, block_after, entries_of, performed_in}
use Rattle.slice_core_cache.specs.Steps.{copy_after_settle, settled_copy}
use Rattle.slice_core_cache.specs.Targets.{IsPerformable}
use Rattle.slice_core_cache.specs.declared.copy.CacheCopy.{CacheCopy}
use Rattle.slice_core_theory.proofs.BlocksFrame.{reached_as}
use Rattle.slice_core_theory.proofs.BlocksOwn.{own_reached}
use Rattle.slice_core_theory.proofs.BlocksPerforming.{AreAllowed, targets_performed}
use Rattle.slice_core_theory.proofs.Frame.{by_number, with_copy_at}
use Rattle.slice_core_theory.proofs.SettlingLine.{Asking, asking, asks_on, settled-counted, settled-state, stays}
use Rattle.slice_core_theory.specs.Blocks.{LineReachedWith, has_block}
use Rattle.slice_core_spec.specs.Steps.{asked_by}
use Rattle.slice_log.specs.declared.entry.Entry.{Entry}
use Rattle.slice_queues.specs.Line.{LineChannels}
use Rattle.slice_queues.specs.declared.message.RequestMessage.TheVariants as request_messages
use Rattle.target_list.specs.Target.{front_loads, is_load, reads}
use Rattle.target_list.specs.declared.target.Target.{Target}

-- ---- the targets that a state allows

shared_reads : (op : Op) → reads op ≡ true → row_of copy_states.S (event_of op)
    ≡ rows.Go copy_states.S cache_sends.Nothing
shared_reads ops.Load loads = refl
shared_reads (ops.Store new) loads = absurd (true≢false (sym loads))
shared_reads (ops.Add delta) loads = absurd (true≢false (sym loads))
shared_reads (ops.Cas expect new) loads = absurd (true≢false (sym loads))

only_reads : (op : Op) → reads op ≡ true → row_of copy_states.E (event_of op)
    ≡ rows.Go copy_states.E cache_sends.Nothing
only_reads ops.Load loads = refl
only_reads (ops.Store new) loads = absurd (true≢false (sym loads))
only_reads (ops.Add delta) loads = absurd (true≢false (sym loads))
only_reads (ops.Cas expect new) loads = absurd (true≢false (sym loads))

writer_performs : (op : Op) → row_of copy_states.M (event_of op) ≡ rows.Go copy_states.M cache_sends.Nothing
writer_performs ops.Load = refl
writer_performs (ops.Store new) = refl
writer_performs (ops.Add delta) = refl
writer_performs (ops.Cas expect new) = refl

shared_allowed : (targets : List Target) → All IsPerformable targets → AreAllowed copy_states.S (front_loads targets)
shared_allowed [] all = tt
shared_allowed (target ∷ targets) all =
    subst (AreAllowed copy_states.S) (sym (take_while-cons is_load target targets))
    (by (is_load target) refl (shared_allowed targets (All-tail IsPerformable target targets all)))
  where
    by : (b : Bool) → is_load target ≡ b → AreAllowed copy_states.S (front_loads targets)
        → AreAllowed copy_states.S (cond b (target ∷ front_loads targets) [])
    by true loads rest = (shared_reads target.op loads, (All-head IsPerformable target targets all).word, rest)
    by false writes rest = tt

only_allowed : (targets : List Target) → All IsPerformable targets → list_all is_load targets ≡ true
    → AreAllowed copy_states.E targets
only_allowed [] all loads = tt
only_allowed (target ∷ targets) all loads =
    let both = and_parts (is_load target) (list_all is_load targets) loads in (
      only_reads target.op both.0,
      (All-head IsPerformable target targets all).word,
      only_allowed targets (All-tail IsPerformable target targets all) both.1,
    )

writer_allowed : (targets : List Target) → All IsPerformable targets → AreAllowed copy_states.M targets
writer_allowed [] all = tt
writer_allowed (target ∷ targets) all = (
  writer_performs target.op,
  (All-head IsPerformable target targets all).word,
  writer_allowed targets (All-tail IsPerformable target targets all),
)

-- a clean copy that may be written
abbrev pub is_exclusive : CopyState → Bool
is_exclusive copy_states.E = true
is_exclusive _ = false

-- What a copy performs when it comes to its state, it performs without leaving the state: all its targets are loads
-- where it is clean and the only one.
pub performed_allowed : (state : CopyState) (targets : List Target) → All IsPerformable targets
    → (is_exclusive state ≡ true → list_all is_load targets ≡ true) → AreAllowed state (performed_in state targets)
performed_allowed copy_states.S targets all loads = shared_allowed targets all
performed_allowed copy_states.M targets all loads = writer_allowed targets all
performed_allowed copy_states.E targets all loads = only_allowed targets all (loads refl)
performed_allowed _ targets all loads = tt

-- ---- the copy

pub settled-block : (copy : CacheCopy) (block : Block) (state : CopyState)
    → (settled_copy copy block state).block ≡ block
settled-block copy block state = by (is_waiting copy.state)
  where
    by : (b : Bool) → (if b then record copy { block = block; state = state }
        else record { block = block; state = state; wants = 0; counted = 0 }).block ≡ block
    by true = refl
    by false = refl

settled-again : (copy : CacheCopy) (block after : Block) (state : CopyState)
    → record (settled_copy copy block state) { block = after } ≡ settled_copy copy after state
settled-again copy block after state = by (is_waiting copy.state)
  where
    by : (b : Bool) → record (if b then record copy { block = block; state = state }
        else record { block = block; state = state; wants = 0; counted = 0 }) { block = after }
        ≡ (if b then record copy { block = after; state = state }
        else record { block = after; state = state; wants = 0; counted = 0 })
    by true = refl
    by false = refl

-- ---- the line

module _ (exclusive : Bool) (cores : ℕ) (init : ℕ → ℕ) (first : ℕ) (entry : DirEntry) (channels : LineChannels)
    (core : CoreId) (some : 0 < cores) (most : cores ≤ 64) (below : core.0 < cores)
    (there : core.0 < length channels.cores) (copy : ℕ → CacheCopy) where
  -- A shared copy asks for the right to write.
  asked_reached : (log : List Entry) (old now : CacheCopy) → old.state ≡ copy_states.S → now.state ≡ copy_states.SM_AD
      → now.counted ≡ 0 → now.block ≡ old.block
      → LineReachedWith exclusive cores init log first entry channels (with_copy_at copy core.0 old)
      → LineReachedWith exclusive cores init log first entry (asked_by true channels core)
      (with_copy_at copy core.0 now)
  asked_reached log old now shared state counted block line =
      let mine : with_copy_at copy core.0 old core.0 ≡ old =
      ap (λ b. if b then old else copy core.0) (eq-eqb core.0 core.0 refl) in
      let is_shared : (with_copy_at copy core.0 old core.0).state ≡ copy_states.S =
      ap (λ (c : CacheCopy). c.state) mine ∙ shared in
      reached_as exclusive cores init log first entry (asked_by true channels core)
      (with_copy_at (with_copy_at copy core.0 old) core.0 now) (with_copy_at copy core.0 now)
      (λ x within. by_number x core.0
      (λ b. (if b then now else copy x) ≡ (if b then now else if b then old else copy x)) (λ same. refl)
      (λ apart. refl))
      (own_reached exclusive cores init log log first entry channels (with_copy_at copy core.0 old) core.0
      cache_events.Write
      copy_states.SM_AD cache_sends.GetM now (Some request_messages.GetM) line.newest line most below there tt
      (ap (λ s. row_of s cache_events.Write) is_shared) state refl (λ waits. counted)
      (λ has. block ∙ ap (λ (c : CacheCopy). c.block) (sym mine)
      ∙ (line.blocks_stand.core core.0 below).in_copy (ap has_block is_shared))
      refl line.has_values)

  -- A copy that has come to its state settles.
  pub settled_reached : (log : List Entry) (came : CacheCopy) (targets : List Target)
      → AreAllowed came.state (performed_in came.state targets)
      → LineReachedWith exclusive cores init log first entry channels
      (with_copy_at copy core.0 (settled_copy came came.block came.state))
      → LineReachedWith exclusive cores init
      (log ++ entries_of core first came.block (performed_in came.state targets)) first entry
      (asked_by (asks_to_write came.state targets) channels core)
      (with_copy_at copy core.0 (copy_after_settle targets came))
  settled_reached log came targets allowed line = by (asking came.state targets)
    where
      -- the line once the targets are performed
      performed : LineReachedWith exclusive cores init
          (log ++ entries_of core first came.block (performed_in came.state targets)) first entry channels
          (with_copy_at copy core.0
          (settled_copy came (block_after came.block (performed_in came.state targets)) came.state))
      performed =
          let now = settled_copy came came.block came.state in
          let block : now.block ≡ came.block = settled-block came came.block came.state in
          subst (λ c. LineReachedWith exclusive cores init
          (log ++ entries_of core first came.block (performed_in came.state targets)) first entry channels
          (with_copy_at copy core.0 c))
          (settled-again came came.block (block_after came.block (performed_in came.state targets)) came.state)
          (subst (λ b. LineReachedWith exclusive cores init
          (log ++ entries_of core first b (performed_in came.state targets)) first entry channels
          (with_copy_at copy core.0 (record now { block = block_after b (performed_in came.state targets) })))
          block
          (targets_performed exclusive cores init first entry channels core.0 some most below there copy core
          (performed_in came.state targets) log now
          (subst (λ s. AreAllowed s (performed_in came.state targets))
          (sym (settled-state came came.block came.state)) allowed) line))

      by : Asking came.state targets
          → LineReachedWith exclusive cores init
          (log ++ entries_of core first came.block (performed_in came.state targets)) first entry
          (asked_by (asks_to_write came.state targets) channels core)
          (with_copy_at copy core.0 (copy_after_settle targets came))
      by (stays none same) = rw (none, same) performed
      by (asks_on asks shared state) =
          let block = block_after came.block (performed_in came.state targets) in
          let idle : is_waiting came.state ≡ false = ap is_waiting shared in
          rw (asks, state) (asked_reached
          (log ++ entries_of core first came.block (performed_in came.state targets))
          (settled_copy came block came.state) (settled_copy came block copy_states.SM_AD)
          (settled-state came block came.state ∙ shared) (settled-state came block copy_states.SM_AD)
          (settled-counted came block copy_states.SM_AD idle)
          (settled-block came block copy_states.SM_AD ∙ sym (settled-block came block came.state)) performed)
