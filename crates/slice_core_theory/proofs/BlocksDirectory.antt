-- The blocks of a line once the directory has served a request: they are the machine's.
use Rattle.std.proofs.Common.{◌≡◌, ℕ, ◌<◌, ◌≤◌, ◌&&◌, Bool, true, false, [], ◌∷◌, ◌++◌, if◌then◌else◌, length, Some}
use Rattle.std.proofs.Common.{None, unwrap_or, refl, sym, ap, ◌∙◌, subst}
use Rattle.address_map.specs.CoreSet.{has}
use Rattle.address_map.specs.declared.address.CoreId.{CoreId}
use Rattle.address_map.specs.declared.address.Local.{Local}
use Rattle.address_map.specs.declared.block.Block.{Block}
use Rattle.directory_table.specs.Law.{is_named, requester, sends_data}
use Rattle.directory_table.specs.declared.row.DirSends.{DirSends}
use Rattle.directory_table.specs.declared.row.DirSends.TheVariants as dir_sends
use Rattle.directory_table.specs.declared.row.DirStep.{DirStep}
use Rattle.directory_table.specs.declared.state.DirEntry.{DirEntry}
use Rattle.slice_core_theory.proofs.BlocksFrame.{by_entry_with, reached_further}
use Rattle.slice_core_theory.proofs.BlocksPlaces.{CoresBlocksStand, blocks_given, blocks_passed, blocks_same}
use Rattle.slice_core_theory.proofs.BlocksPlaces.{core_as, other_mail, with_block_at}
use Rattle.slice_core_theory.proofs.Directory.{directory_step}
use Rattle.slice_core_theory.proofs.Served.{home-sent, same_requester, served}
use Rattle.slice_core_theory.proofs.Places.{with_core-length}
use Rattle.slice_core_theory.specs.Blocks.{AreReachedWith, BlocksStand, CoreBlocksStand, HasValues, block_of_data}
use Rattle.slice_core_theory.specs.Stands.{Stands, copies_at}
use Rattle.slice_log.specs.Log.{initially}
use Rattle.slice_core_spec.specs.Plan.{event_of_request, plan_of}
use Rattle.slice_core_spec.specs.Sends.{directory_sent}
use Rattle.slice_core_spec.specs.Steps.{after_directory, block_in}
use Rattle.slice_core_spec.specs.View.{View, IsShaped, channels_at, entry_at, first_word}
use Rattle.protocol_coherence.proofs.ValueSteps.{without_blocks}
use Rattle.protocol_coherence.specs.Line.{Line}
use Rattle.protocol_coherence.specs.LineSteps.{Reached}
use Rattle.protocol_coherence.specs.Values.{Blocks, blocks_after, home_after_row, newest_after}
use Rattle.slice_core_cache.specs.declared.copy.CacheCopy.{CacheCopy}
use Rattle.slice_queues.proofs.InvalidateLaws.{core_at-after_invalidating}
use Rattle.slice_queues.specs.Line.{LineChannels, after_send, after_take, core_at, with_invalidation}
use Rattle.slice_queues.specs.declared.channel.Channel.TheVariants as channels
use Rattle.slice_queues.specs.declared.message.DataMessage.{DataMessage}
use Rattle.slice_queues.specs.declared.message.DataMessage.TheVariants as data_messages
use Rattle.slice_queues.specs.declared.message.ForwardedMessage.{ForwardedMessage}
use Rattle.slice_queues.specs.declared.message.ForwardedMessage.TheVariants as forwarded_messages
use Rattle.slice_queues.specs.declared.message.Message.TheVariants as messages
use Rattle.slice_queues.specs.declared.message.RequestMessage.{RequestMessage}
use Rattle.slice_queues.specs.declared.message.RequestMessage.TheVariants as request_messages
use Rattle.slice_core_spec.specs.Plan.{directory_move}

-- ---- each answer

module _ (cores : ℕ) (line : LineChannels) (copy : ℕ → CacheCopy) (kept arriving put : ℕ → Block) (core : CoreId)
    (block : Block) (size : length line.cores ≡ cores) (within : core.0 < cores)
    (stand : CoresBlocksStand cores line copy kept arriving put) where
  -- the line's channels once the request is taken
  abbrev taken_line : LineChannels
  taken_line = after_take line (channels.Req core)

  inside : (x : ℕ) → x < cores → x < length taken_line.cores
  inside x below =
      subst (λ n. x < n) (sym (with_core-length line core.0 (record (core_at line core.0) { request = None }) ∙ size))
      below

  taken_stand : CoresBlocksStand cores taken_line copy kept arriving put
  taken_stand =
      let here = stand core.0 within in
      blocks_passed cores line copy kept arriving put core.0 (record (core_at line core.0) { request = None })
      (subst (λ n. core.0 < n) (sym size) within)
      (record { in_copy = here.in_copy; in_data = here.in_data; in_put = refl }) stand

  abbrev given_line : DataMessage → LineChannels
  given_line message = after_send taken_line (channels.Data core) (messages.Data message)

  -- the home copy for the requester
  given_stand : (message : DataMessage) → block_of_data block (Some message) ≡ block
      → CoresBlocksStand cores (given_line message) copy kept (with_block_at arriving core.0 block) put
  given_stand message carries =
      let here = taken_stand core.0 within in
      blocks_given cores taken_line copy kept arriving put core.0
      (record (core_at taken_line core.0) { «data» = Some message }) block (inside core.0 within)
      (record { in_copy = here.in_copy; in_data = carries; in_put = here.in_put }) taken_stand

  forwarded_stand : (to : ℕ) (message : ForwardedMessage)
      → CoresBlocksStand cores (after_send taken_line (channels.Fwd (record { 0 = to })) (messages.Forwarded
      message)) copy
      kept arriving put
  forwarded_stand to message =
      blocks_same cores taken_line copy kept arriving put to
      (record (core_at taken_line to) { forwarded = (core_at taken_line to).forwarded ++ message ∷ [] }) refl refl
      taken_stand

  -- What the row sends, with the machine's blocks.
  answer_blocks : (sent : DirSends)
      → CoresBlocksStand cores (directory_sent taken_line core block sent) copy kept
      (λ x. if sends_data sent && is_named (Some core) x then block else arriving x) put
  answer_blocks dir_sends.Nothing x below = taken_stand x below
  answer_blocks (dir_sends.Data acks) x below = given_stand (data_messages.Data block acks) refl x below
  answer_blocks dir_sends.DataE x below = given_stand (data_messages.DataE block) refl x below
  answer_blocks (dir_sends.DataAndInv acks set) x below =
      subst (λ m. CoreBlocksStand (copy x) m (kept x) (with_block_at arriving core.0 block x) (put x))
      (sym (core_at-after_invalidating given set core x
      (subst (λ n. x < n) (sym (with_core-length taken_line core.0
      (record (core_at taken_line core.0) { «data» = Some (data_messages.Data block acks) }))) (inside x below))))
      (by (has set x))
    where
      given : LineChannels
      given = given_line (data_messages.Data block acks)

      by : (b : Bool) → CoreBlocksStand (copy x)
          (if b then with_invalidation core (core_at (given_line (data_messages.Data block acks)) x)
          else core_at (given_line (data_messages.Data block acks)) x) (kept x) (with_block_at arriving core.0 block x)
          (put x)
      by true =
          other_mail (copy x) (core_at (given_line (data_messages.Data block acks)) x)
          (with_invalidation core (core_at (given_line (data_messages.Data block acks)) x)) (kept x)
          (with_block_at arriving core.0 block x) (put x) refl refl
          (given_stand (data_messages.Data block acks) refl x below)
      by false = given_stand (data_messages.Data block acks) refl x below
  answer_blocks (dir_sends.FwdGetS owner) x below = forwarded_stand owner.0 (forwarded_messages.FwdGetS core) x below
  answer_blocks (dir_sends.FwdGetM owner) x below = forwarded_stand owner.0 (forwarded_messages.FwdGetM core) x below
  answer_blocks dir_sends.PutAck x below = forwarded_stand core.0 forwarded_messages.PutAck x below

-- The home copy after the row is the machine's.
home_copy : (core : CoreId) (message : RequestMessage) (writes : Bool) (home : Block) (blocks : Blocks)
    → home ≡ blocks.home → block_in (blocks.put core.0) (Some message) ≡ blocks.put core.0
    → (if writes then block_in home (Some message) else home)
    ≡ (if writes then home_after_row (event_of_request core message) blocks else blocks.home)
home_copy core message false home blocks same put = same
home_copy core request_messages.GetS true home blocks same put = same
home_copy core request_messages.GetM true home blocks same put = same
home_copy core request_messages.PutS true home blocks same put = same
home_copy core (request_messages.PutM block) true home blocks same put = put

module _ (v : View) (local : Local) (shaped : IsShaped v) (inside : local.0 < v.lines.lines)
    (most : length v.caches ≤ 64) (core : CoreId) (within : core.0 < length v.caches) (step : DirStep)
    (is : plan_of v local (channels.Req core) ≡ directory_move step) where
  abbrev entry_after : DirEntry
  entry_after = record {
    home = if step.writes_home then block_in (entry_at v local).home (core_at (channels_at v local) core.0).request
        else (entry_at v local).home;
    sharers = step.sharers;
    owner = step.owner;
    state = step.state;
  }

  abbrev channels_after : LineChannels
  channels_after =
      directory_sent (after_take (channels_at v local) (channels.Req core)) core (entry_at v local).home step.sends

  -- The blocks after that step.
  pub directory_blocks : (l : Line) (reached : Reached v.exclusive (length v.caches) l) (stands : Stands v local l)
      (blocks : Blocks) (written : Block)
      → BlocksStand (length v.caches) (entry_at v local) (channels_at v local) (copies_at v local) blocks
      → BlocksStand (length v.caches) entry_after channels_after (copies_at v local)
      (blocks_after (directory_step v local shaped inside most core within step is l reached
      stands).0 written blocks)
  unfolding directory_step
  directory_blocks l reached stands blocks written stand =
      let s = served step v local core (core_at (channels_at v local) core.0).request refl is in
      let here = stand.core core.0 within in
      record {
        core = λ c below.
            core_as (copies_at v local c) (core_at channels_after c) (blocks.copy c) (blocks.copy c)
            (if sends_data step.sends && is_named (Some core) c then (entry_at v local).home else blocks.arriving c)
            (if sends_data step.sends && is_named (requester (event_of_request core s.message)) c then blocks.home
            else blocks.arriving c)
            (blocks.put c) (blocks.put c) refl
            (ap (λ who. if sends_data step.sends && is_named who c then blocks.home else blocks.arriving c)
            (same_requester core s.message)
            ∙ ap (λ b. if sends_data step.sends && is_named (Some core) c then b else blocks.arriving c)
            (sym stand.home))
            refl
            (answer_blocks (length v.caches) (channels_at v local) (copies_at v local) blocks.copy blocks.arriving
            blocks.put core (entry_at v local).home (shaped.cores local inside) within stand.core step.sends c below);
        home =
            ap (λ request. if step.writes_home then block_in (entry_at v local).home request
            else (entry_at v local).home) s.waits
            ∙ home_copy core s.message step.writes_home (entry_at v local).home blocks stand.home
            (sym (ap (block_in (blocks.put core.0)) s.waits) ∙ here.in_put);
        mail = ap (λ h. unwrap_or h blocks.mail)
            (home-sent (after_take (channels_at v local) (channels.Req core)) core (entry_at v local).home step.sends)
            ∙ stand.mail;
      }

  -- It performs nothing.
  directory_newest : (l : Line) (reached : Reached v.exclusive (length v.caches) l) (stands : Stands v local l)
      (newest written : Block)
      → newest_after (directory_step v local shaped inside most core within step is l reached
      stands).0 written newest ≡ newest
  unfolding directory_step
  directory_newest l reached stands newest written = refl

  -- A request that the directory takes leaves each line reached, blocks and all.
  pub directory_keeps : AreReachedWith v → AreReachedWith (after_directory v local core step)
  directory_keeps all =
      let before = all local inside in
      let reached = without_blocks v.exclusive (length v.caches) before.line before.blocks before.newest
      before.reached in
      let taken = directory_step v local shaped inside most core within step is before.line reached before.stands in
      by_entry_with v local shaped inside all entry_after channels_after
      (reached_further v.exclusive (length v.caches) (initially v.init) v.log (first_word v local) entry_after
      channels_after (copies_at v local) before.line before.blocks before.newest before.reached taken.0 before.newest
      (subst (HasValues (initially v.init) v.log (first_word v local))
      (sym (directory_newest before.line reached before.stands before.newest before.newest)) before.has_values)
      taken.1 (directory_blocks before.line reached before.stands before.blocks before.newest before.blocks_stand))
