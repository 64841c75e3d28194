-- The blocks of a line after a core's own turn: an access that hits or asks for the line, or an eviction.
use Rattle.std.proofs.Common.{◌≡◌, ℕ, ◌<◌, ◌≤◌, ◌==◌, ◌&&◌, Bool, true, false, if◌then◌else◌, length, Option, unwrap_or}
use Rattle.std.proofs.Common.{refl, sym, ap, ◌∙◌, subst}
use Rattle.std.proofs.Math.Bool.{and-false, and-true}
use Rattle.address_map.specs.declared.block.Block.{Block}
use Rattle.cache_table.specs.Law.{sends_data, sends_home, sends_put_m}
use Rattle.cache_table.specs.Row.{row_of}
use Rattle.cache_table.specs.declared.row.CacheEvent.{CacheEvent}
use Rattle.cache_table.specs.declared.row.CacheSends.{CacheSends}
use Rattle.cache_table.specs.declared.row.Row.TheVariants as rows
use Rattle.cache_table.specs.declared.state.CopyState.{CopyState}
use Rattle.directory_table.specs.declared.state.DirEntry.{DirEntry}
use Rattle.slice_core_theory.proofs.BlocksPlaces.{blocks_turned, core_as, with_block_at}
use Rattle.slice_core_theory.proofs.Frame.{by_number, with_copy_at}
use Rattle.slice_core_theory.proofs.OwnTurns.{IsOwn, own_at_hand, own_row, own_step}
use Rattle.slice_core_theory.specs.Blocks.{BlocksStand, CoreBlocksStand, has_block}
use Rattle.slice_core_theory.specs.Stands.{LineStands, kind_of_request}
use Rattle.slice_core_spec.specs.Steps.{block_in}
use Rattle.protocol_coherence.specs.Line.{Line}
use Rattle.protocol_coherence.specs.LineSteps.{Reached, Step, asks_for, stands, turn}
use Rattle.protocol_coherence.specs.Values.{Blocks, blocks_after, block_after_row, newest_after, performs}
use Rattle.cache_table.specs.CopyState.{is_waiting}
use Rattle.slice_core_cache.specs.declared.copy.CacheCopy.{CacheCopy}
use Rattle.slice_queues.specs.Line.{CoreChannels, LineChannels, core_at, with_core}
use Rattle.slice_queues.specs.declared.message.RequestMessage.{RequestMessage}

-- the block of a core's PutM after a row that sends this
abbrev pub put_after : CacheSends → Block → Block → Block
put_after sent kept put = if sends_put_m sent then kept else put

-- The blocks after a turn that sends no data and nothing home, where the core's copy and channels have its own.
pub turn_blocks : (exclusive : Bool) (cores : ℕ) (entry : DirEntry) (channels : LineChannels) (copy : ℕ → CacheCopy)
    (line : Line) (blocks : Blocks) (written : Block) (c : ℕ) (event : CacheEvent) (next : CopyState)
    (sent : CacheSends) (now : CacheCopy) (mail : CoreChannels) (within : c < cores)
    (here : stands (line.part c) event ≡ true) (row : row_of (line.part c).look.state event ≡ rows.Go next sent)
    → c < length channels.cores → sends_data sent ≡ false → sends_home sent ≡ false
    → CoreBlocksStand now mail (block_after_row event next c written blocks) (blocks.arriving c)
    (put_after sent (blocks.copy c) (blocks.put c))
    → BlocksStand cores entry channels copy blocks
    → BlocksStand cores entry (with_core channels c mail) (with_copy_at copy c now)
    (blocks_after {exclusive = exclusive} {line = line} (turn c event next sent within here row) written blocks)
turn_blocks exclusive cores entry channels copy line blocks written c event next sent now mail within here row there
    gives home mine stand = record {
      core = λ x below.
          core_as (with_copy_at copy c now x) (core_at (with_core channels c mail) x)
          (with_block_at blocks.copy c (block_after_row event next c written blocks) x)
          (if x == c then block_after_row event next c written blocks else blocks.copy x)
          (with_block_at blocks.arriving c (blocks.arriving c) x)
          (if sends_data sent && x == (line.part c).names then blocks.copy c else blocks.arriving x)
          (with_block_at blocks.put c (put_after sent (blocks.copy c) (blocks.put c)) x)
          (if sends_put_m sent && x == c then blocks.copy c else blocks.put x)
          refl
          (ap (λ b. if b && x == (line.part c).names then blocks.copy c else blocks.arriving x) gives
          ∙ sym (by_number x c (λ b. (if b then blocks.arriving c else blocks.arriving x) ≡ blocks.arriving x)
          (λ same. ap blocks.arriving (sym same)) (λ apart. refl)))
          (by_number x c (λ b. (if sends_put_m sent && b then blocks.copy c else blocks.put x)
          ≡ (if b then put_after sent (blocks.copy c) (blocks.put c) else blocks.put x))
          (λ same. ap (λ b. if b then blocks.copy c else blocks.put x) (and-true (sends_put_m sent))
          ∙ ap (λ y. put_after sent (blocks.copy c) (blocks.put y)) same)
          (λ apart. ap (λ b. if b then blocks.copy c else blocks.put x) (and-false (sends_put_m sent))))
          (blocks_turned cores channels copy blocks.copy blocks.arriving blocks.put c now mail
          (block_after_row event next c written blocks) (blocks.arriving c)
          (put_after sent (blocks.copy c) (blocks.put c)) there
          mine stand.core x below);
      home = stand.home;
      mail = subst (λ b. unwrap_or channels.home (if b then blocks.copy c else blocks.mail)
          ≡ (if b then blocks.copy c else blocks.mail)) (sym home) stand.mail;
    }

module _ (exclusive : Bool) (cores : ℕ) (entry : DirEntry) (channels : LineChannels) (copy : ℕ → CacheCopy) (c : ℕ)
    (event : CacheEvent) (next : CopyState) (sent : CacheSends) (now : CacheCopy) (message : Option RequestMessage)
    (line : Line) (most : cores ≤ 64) (below : c < cores) (there : c < length channels.cores) (own : IsOwn event)
    (row : row_of (copy c).state event ≡ rows.Go next sent) (state : now.state ≡ next)
    (asked : kind_of_request message ≡ asks_for sent (kind_of_request (core_at channels c).request))
    (fresh : is_waiting next ≡ true → now.counted ≡ 0) (reached : Reached exclusive cores line)
    (stand : LineStands cores entry channels copy line) where
  abbrev own_turn : Step exclusive cores line
  own_turn = (own_step exclusive cores entry channels copy c event next sent now message line most below there own row
      state asked fresh reached stand).0

  -- The blocks after a core's own turn: its copy has what was written or what it had, and its PutM that.
  pub own_blocks : (blocks : Blocks) (written : Block)
      → (has_block next ≡ true → now.block ≡ block_after_row event next c written blocks)
      → block_in (put_after sent (blocks.copy c) (blocks.put c)) message ≡ put_after sent (blocks.copy c) (blocks.put c)
      → BlocksStand cores entry channels copy blocks
      → BlocksStand cores entry (with_core channels c (record (core_at channels c) { request = message }))
      (with_copy_at copy c now) (blocks_after own_turn written blocks)
  unfolding own_step
  own_blocks blocks written kept put blocks_stand =
      let quiet = (own_row event (copy c).state next sent own row).quiet in
      turn_blocks exclusive cores entry channels copy line blocks written c event next sent now
      (record (core_at channels c) { request = message }) below (own_at_hand event (line.part c) own)
      (ap (λ s. row_of s event) (sym (stand.part c below).state) ∙ row) there quiet.gives quiet.home
      (record {
        in_copy = λ has. kept (ap has_block (sym state) ∙ has);
        in_data = (blocks_stand.core c below).in_data;
        in_put = put;
      }) blocks_stand

  -- The newest block is what a write has left.
  pub own_newest : (newest written : Block)
      → newest_after own_turn written newest ≡ (if performs event next then written else newest)
  unfolding own_step
  own_newest newest written = refl
