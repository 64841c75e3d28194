-- Accesses that a core performs on its copy are turns of the line, and the log continues with what they replied.
use Rattle.std.proofs.Common.{◌≡◌, ℕ, ◌+◌, ◌<◌, ◌≤◌, ◌&&◌, Bool, true, false, not, if◌then◌else◌, List, [], ◌∷◌, ◌++◌}
use Rattle.std.proofs.Common.{length, append_assoc, append-nil, refl, sym, ap, ◌∙◌, subst, true≢false}
use Rattle.std.proofs.lemmas.Bool.{eq-eqb}
use Rattle.std.proofs.lemmas.List.{set-get_or}
use Rattle.address_map.specs.declared.address.CoreId.{CoreId}
use Rattle.address_map.specs.declared.block.Block.{Block}
use Rattle.address_map.specs.declared.request.Op.{Op}
use Rattle.address_map.specs.declared.request.Op.TheVariants as ops
use Rattle.cache_table.specs.CopyState.{is_readable, is_waiting, is_writer}
use Rattle.cache_table.specs.Law.{brings_data, sends_get}
use Rattle.cache_table.specs.Row.{row_of}
use Rattle.cache_table.specs.declared.row.CacheEvent.TheVariants as cache_events
use Rattle.cache_table.specs.declared.row.CacheSends.TheVariants as cache_sends
use Rattle.cache_table.specs.declared.row.Row.TheVariants as rows
use Rattle.cache_table.specs.declared.state.CopyState.{CopyState}
use Rattle.directory_table.specs.declared.state.DirEntry.{DirEntry}
use Rattle.protocol_coherence.proofs.Each.{each_state, each_state-at, if_go, if_go-at, if_so, if_so-at, left, right}
use Rattle.protocol_coherence.proofs.ValueSteps.{without_blocks}
use Rattle.protocol_coherence.specs.Values.{block_after_row, performs}
use Rattle.slice_core_cache.specs.Access.{event_of}
use Rattle.slice_core_cache.specs.Copy.{performed_on, word_at}
use Rattle.slice_core_cache.specs.Perform.{block_after, entries_of, entry_of}
use Rattle.slice_core_cache.specs.declared.copy.CacheCopy.{CacheCopy}
use Rattle.slice_core_theory.proofs.Accesses.{own_access}
use Rattle.slice_core_theory.proofs.BlocksFrame.{reached_as, reached_further}
use Rattle.slice_core_theory.proofs.BlocksTurns.{own_blocks, own_newest}
use Rattle.slice_core_theory.proofs.Current.{copy_has_values, copy_newest, readable_has_block}
use Rattle.slice_core_theory.proofs.Frame.{by_number, with_copy_at}
use Rattle.slice_core_theory.proofs.OwnTurns.{own_row, own_step}
use Rattle.slice_core_theory.proofs.Values.{load_leaves, performed_legal, performed_values}
use Rattle.slice_core_theory.specs.Blocks.{HasValues, LineReachedWith}
use Rattle.slice_log.specs.Log.{IsLegal}
use Rattle.slice_log.specs.Op.{reply_of}
use Rattle.slice_log.specs.declared.entry.Entry.{Entry}
use Rattle.slice_queues.specs.Line.{LineChannels, core_at, no_messages, with_core}
use Rattle.target_list.specs.declared.target.Target.{Target}

-- ---- rows

each_load_reads : each_state (λ s. if_go (row_of s cache_events.Load) (λ next sent. if_so (not (sends_get sent))
    (λ _. is_readable s))) ≡ true
unfolding each_state if_go if_so
each_load_reads = refl

each_write_writes : each_state (λ s. if_go (row_of s cache_events.Write) (λ next sent. if_so (not (sends_get sent))
    (λ _. is_readable s && is_writer next))) ≡ true
unfolding each_state if_go if_so
each_write_writes = refl

load_reads : (state next : CopyState) → row_of state cache_events.Load ≡ rows.Go next cache_sends.Nothing
    → is_readable state ≡ true
load_reads state next row =
    if_so-at true (λ _. is_readable state)
    (if_go-at (row_of state cache_events.Load) (λ n sent. if_so (not (sends_get sent)) (λ _. is_readable state)) next
    cache_sends.Nothing (each_state-at (λ s. if_go (row_of s cache_events.Load) (λ n sent. if_so (not (sends_get sent))
    (λ _. is_readable s))) each_load_reads state) row) refl

write_writes : (state next : CopyState) → row_of state cache_events.Write ≡ rows.Go next cache_sends.Nothing
    → (is_readable state && is_writer next) ≡ true
write_writes state next row =
    if_so-at true (λ _. is_readable state && is_writer next)
    (if_go-at (row_of state cache_events.Write) (λ n sent. if_so (not (sends_get sent)) (λ _. is_readable state &&
    is_writer n))
    next cache_sends.Nothing
    (each_state-at (λ s. if_go (row_of s cache_events.Write) (λ n sent. if_so (not (sends_get sent))
    (λ _. is_readable s && is_writer n))) each_write_writes state) row) refl

-- A copy on which an access is performed may be read.
pub access_reads : (op : Op) (state next : CopyState) → row_of state (event_of op) ≡ rows.Go next cache_sends.Nothing
    → is_readable state ≡ true
access_reads ops.Load state next row = load_reads state next row
access_reads (ops.Store new) state next row = left _ _ (write_writes state next row)
access_reads (ops.Add delta) state next row = left _ _ (write_writes state next row)
access_reads (ops.Cas expect new) state next row = left _ _ (write_writes state next row)

-- What an access leaves is what the copy had performed it on: a load leaves the block, and a write is the written one.
performed_is : (op : Op) (state next : CopyState) (block other : Block) (offset : ℕ)
    → row_of state (event_of op) ≡ rows.Go next cache_sends.Nothing → other ≡ block
    → (if performs (event_of op) next then performed_on block offset op else other) ≡ performed_on block offset op
performed_is ops.Load state next block other offset row same = same ∙ sym (load_leaves block offset)
performed_is (ops.Store new) state next block other offset row same =
    ap (λ b. if b then performed_on block offset (ops.Store new) else other)
    (right (is_readable state) _ (write_writes state next row))
performed_is (ops.Add delta) state next block other offset row same =
    ap (λ b. if b then performed_on block offset (ops.Add delta) else other)
    (right (is_readable state) _ (write_writes state next row))
performed_is (ops.Cas expect new) state next block other offset row same =
    ap (λ b. if b then performed_on block offset (ops.Cas expect new) else other)
    (right (is_readable state) _ (write_writes state next row))

pub brings_none : (op : Op) → brings_data (event_of op) ≡ false
brings_none ops.Load = refl
brings_none (ops.Store new) = refl
brings_none (ops.Add delta) = refl
brings_none (ops.Cas expect new) = refl

-- ---- targets that a copy may perform

-- Each target names a word of the line, and a copy in this state performs it and stays in the state.
abbrev pub AreAllowed : CopyState → List Target → Type 0
AreAllowed state [] = Unit {0}
AreAllowed state (target ∷ targets) =
    (row_of state (event_of target.op) ≡ rows.Go state cache_sends.Nothing) × (target.offset.0 < 8)
    × AreAllowed state targets

-- ---- one access

module _ (exclusive : Bool) (cores : ℕ) (init : ℕ → ℕ) (first : ℕ) (entry : DirEntry) (channels : LineChannels) (c : ℕ)
    (some : 0 < cores) (most : cores ≤ 64) (below : c < cores) (there : c < length channels.cores) where
  -- The core performs an access on its copy: a turn of the line, whose newest block is what the access leaves.
  pub access_performed : (copy : ℕ → CacheCopy) (log : List Entry) (next : CopyState) (now : CacheCopy) (done : Entry)
      (offset : ℕ) → row_of (copy c).state (event_of done.op) ≡ rows.Go next cache_sends.Nothing → now.state ≡ next
      → now.block ≡ performed_on (copy c).block offset done.op → offset < 8 → done.word.0 ≡ first + offset
      → done.reply ≡ reply_of done.op (word_at (copy c).block offset)
      → LineReachedWith exclusive cores init log first entry channels copy
      → LineReachedWith exclusive cores init (log ++ done ∷ []) first entry channels (with_copy_at copy c now)
  access_performed copy log next now done offset row state block inside here replied line =
      let op = done.op in
      let readable = access_reads op (copy c).state next row in
      let lawful = own_row (event_of op) (copy c).state next cache_sends.Nothing (own_access op) row in
      let still : is_waiting next ≡ true → now.counted ≡ 0 =
      λ waits. absurd (true≢false (sym (lawful.asks waits))) in
      let reached = without_blocks exclusive cores line.line line.blocks line.newest line.reached in
      let asked = (core_at channels c).request in
      let step = own_step exclusive cores entry channels copy c (event_of op) next cache_sends.Nothing now asked
      line.line
      most
      below there (own_access op) row state refl still reached line.stands in
      let newest : (if performs (event_of op) next then now.block else line.newest) ≡ now.block =
      ap (λ b. if performs (event_of op) next then b else line.newest) block
      ∙ performed_is op (copy c).state next (copy c).block line.newest offset row
      (sym (copy_newest exclusive cores init log first entry channels copy some most line c below readable))
      ∙ sym block in
      let kept : now.block ≡ block_after_row (event_of op) next c now.block line.blocks =
      block ∙ sym (performed_is op (copy c).state next (copy c).block (line.blocks.copy c) offset row
      (sym ((line.blocks_stand.core c below).in_copy (readable_has_block (copy c).state readable))))
      ∙ ap (λ b. if performs (event_of op) next then b else line.blocks.copy c) (sym block)
      ∙ ap (λ b. if performs (event_of op) next then now.block
      else if b then line.blocks.arriving c else line.blocks.copy c) (sym (brings_none op)) in
      let values : HasValues init (log ++ done ∷ []) first now.block =
      subst (HasValues init (log ++ done ∷ []) first) (sym block)
      (performed_values init log first (copy c).block offset done
      (copy_has_values exclusive cores init log first entry channels copy some most line c below readable) inside here
      replied) in
      subst (λ m. LineReachedWith exclusive cores init (log ++ done ∷ []) first entry m (with_copy_at copy c now))
      (ap (λ mails. record channels { cores = mails }) (set-get_or channels.cores c no_messages))
      (reached_further exclusive cores init (log ++ done ∷ []) first entry
      (with_core channels c (record (core_at channels c) { request = asked })) (with_copy_at copy c now) line.line
      line.blocks line.newest line.reached step.0 now.block
      (subst (HasValues init (log ++ done ∷ []) first)
      (sym (own_newest exclusive cores entry channels copy c (event_of op) next cache_sends.Nothing now asked line.line
      most
      below there (own_access op) row state refl still reached line.stands line.newest now.block ∙ newest)) values)
      step.1
      (own_blocks exclusive cores entry channels copy c (event_of op) next cache_sends.Nothing now asked line.line most
      below
      there (own_access op) row state refl still reached line.stands line.blocks now.block (λ has. kept)
      (line.blocks_stand.core c below).in_put line.blocks_stand))

  -- ---- the targets of a copy, one after another

  module _ (copy : ℕ → CacheCopy) (core : CoreId) where
    mine : (now : CacheCopy) → with_copy_at copy c now c ≡ now
    mine now = ap (λ b. if b then now else copy c) (eq-eqb c c refl)

    target_performed : (target : Target) (log : List Entry) (now : CacheCopy)
        → row_of now.state (event_of target.op) ≡ rows.Go now.state cache_sends.Nothing → target.offset.0 < 8
        → LineReachedWith exclusive cores init log first entry channels (with_copy_at copy c now)
        → LineReachedWith exclusive cores init (log ++ entry_of core first now.block target ∷ []) first entry channels
        (with_copy_at copy c (record now { block = performed_on now.block target.offset.0 target.op }))
    target_performed target log now row inside line =
        let then' : CacheCopy = record now { block = performed_on now.block target.offset.0 target.op } in
        reached_as exclusive cores init (log ++ entry_of core first now.block target ∷ []) first entry channels
        (with_copy_at (with_copy_at copy c now) c then') (with_copy_at copy c then')
        (λ x within. by_number x c
        (λ b. (if b then then' else copy x) ≡ (if b then then' else if b then now else copy x)) (λ same. refl)
        (λ apart. refl))
        (access_performed (with_copy_at copy c now) log now.state then' (entry_of core first now.block target)
        target.offset.0 (ap (λ (x : CacheCopy). row_of x.state (event_of target.op)) (mine now) ∙ row) refl
        (ap (λ (x : CacheCopy). performed_on x.block target.offset.0 target.op) (sym (mine now))) inside refl
        (ap (λ (x : CacheCopy). reply_of target.op (word_at x.block target.offset.0)) (sym (mine now))) line)

    -- The core performs targets, and the log continues with their entries.
    pub targets_performed : (targets : List Target) (log : List Entry) (now : CacheCopy) → AreAllowed now.state targets
        → LineReachedWith exclusive cores init log first entry channels (with_copy_at copy c now)
        → LineReachedWith exclusive cores init (log ++ entries_of core first now.block targets) first entry channels
        (with_copy_at copy c (record now { block = block_after now.block targets }))
    unfolding block_after entries_of
    targets_performed [] log now allowed line =
        subst (λ l. LineReachedWith exclusive cores init l first entry channels (with_copy_at copy c now))
        (sym (append-nil log)) line
    targets_performed (target ∷ targets) log now allowed line =
        let then' : CacheCopy = record now { block = performed_on now.block target.offset.0 target.op } in
        subst (λ l. LineReachedWith exclusive cores init l first entry channels
        (with_copy_at copy c (record now { block = block_after then'.block targets })))
        (append_assoc log (entry_of core first now.block target ∷ []) (entries_of core first then'.block targets))
        (targets_performed targets (log ++ entry_of core first now.block target ∷ []) then' allowed.2
        (target_performed target log now allowed.0 allowed.1 line))

    -- And the log is still legal.
    pub targets_legal : (targets : List Target) (log : List Entry) (now : CacheCopy) → AreAllowed now.state targets
        → LineReachedWith exclusive cores init log first entry channels (with_copy_at copy c now) → IsLegal init log
        → IsLegal init (log ++ entries_of core first now.block targets)
    unfolding block_after entries_of
    targets_legal [] log now allowed line legal = subst (IsLegal init) (sym (append-nil log)) legal
    targets_legal (target ∷ targets) log now allowed line legal =
        let then' : CacheCopy = record now { block = performed_on now.block target.offset.0 target.op } in
        let values = subst (λ (x : CacheCopy). HasValues init log first x.block) (mine now)
        (copy_has_values exclusive cores init log first entry channels (with_copy_at copy c now) some most line c below
        (ap (λ (x : CacheCopy). is_readable x.state) (mine now)
        ∙ access_reads target.op now.state now.state allowed.0)) in
        subst (IsLegal init)
        (append_assoc log (entry_of core first now.block target ∷ []) (entries_of core first then'.block targets))
        (targets_legal targets (log ++ entry_of core first now.block target ∷ []) then' allowed.2
        (target_performed target log now allowed.0 allowed.1 line)
        (performed_legal init log first now.block target.offset.0 (entry_of core first now.block target) values
        allowed.1 refl refl legal))
