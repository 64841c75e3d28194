-- A slice whose lines are the machine's, blocks and all: its lines are the machine's without their blocks, and what may
-- be read is the newest.
use Rattle.std.proofs.Common.{◌≡◌, ℕ, ◌<◌, ◌≤◌, ◌||◌, ◌&&◌, Bool, true, false, not, List, length, Some, is_some}
use Rattle.std.proofs.Common.{unwrap_or, refl, sym, ap, ◌∙◌, subst}
use Rattle.address_map.specs.declared.block.Block.{Block}
use Rattle.cache_table.specs.CopyState.{is_readable}
use Rattle.cache_table.specs.declared.state.CopyState.{CopyState}
use Rattle.cache_table.specs.declared.state.CopyState.TheVariants as copy_states
use Rattle.directory_table.specs.Law.{is_named}
use Rattle.directory_table.specs.declared.state.DirEntry.{DirEntry}
use Rattle.protocol_coherence.proofs.Promises.{reached_current}
use Rattle.protocol_coherence.proofs.ValueSteps.{without_blocks}
use Rattle.protocol_coherence.specs.Fit.{is_counting, is_no_data, is_put_ack_first, is_put_m, is_written_back}
use Rattle.protocol_coherence.specs.Line.{Look}
use Rattle.protocol_coherence.specs.Values.{IsCurrent, has_newest, is_at_home}
use Rattle.slice_core_cache.specs.declared.copy.CacheCopy.{CacheCopy}
use Rattle.slice_core_theory.specs.Blocks.{AreReachedWith, HasValues, LineReachedWith, block_of_data, has_block}
use Rattle.slice_core_theory.specs.Newest.{HasNewest, carried_block}
use Rattle.slice_core_theory.specs.Stands.{AreReached, kind_of_data, kind_of_request}
use Rattle.slice_core_spec.specs.Steps.{block_in}
use Rattle.slice_core_spec.specs.View.{View}
use Rattle.slice_log.specs.declared.entry.Entry.{Entry}
use Rattle.slice_queues.specs.Line.{LineChannels, core_at}
use Rattle.slice_queues.specs.declared.message.DataMessage.{DataMessage}
use Rattle.slice_queues.specs.declared.message.DataMessage.TheVariants as data_messages
use Rattle.slice_queues.specs.declared.message.RequestMessage.TheVariants as request_messages

-- A copy that may be read has a block.
pub readable_has_block : (state : CopyState) → is_readable state ≡ true → has_block state ≡ true
readable_has_block copy_states.I readable = cc
readable_has_block _ readable = cc

-- And it is the newest.
readable_newest : (look : Look) → is_readable look.state ≡ true → has_newest look ≡ true
unfolding has_newest
readable_newest look readable =
    ap (λ b. b || is_counting look.state || (is_written_back look.state && not (is_put_ack_first look))) readable

-- The data that wait are data, and what they carry is theirs.
some_data : (message : DataMessage) → is_no_data (kind_of_data (Some message)) ≡ false
some_data (data_messages.Data block acks) = refl
some_data (data_messages.DataE block) = refl

carried_is : (none : Block) (message : DataMessage) → carried_block message ≡ block_of_data none (Some message)
carried_is none (data_messages.Data block acks) = refl
carried_is none (data_messages.DataE block) = refl

module _ (exclusive : Bool) (cores : ℕ) (init : ℕ → ℕ) (log : List Entry) (first : ℕ) (entry : DirEntry)
    (channels : LineChannels) (copy : ℕ → CacheCopy) (some : 0 < cores) (most : cores ≤ 64)
    (line : LineReachedWith exclusive cores init log first entry channels copy) where
  -- A copy that may be read is the machine's newest block.
  pub copy_newest : (c : ℕ) → c < cores → is_readable (copy c).state ≡ true → (copy c).block ≡ line.newest
  copy_newest c below readable =
      (line.blocks_stand.core c below).in_copy (readable_has_block (copy c).state readable)
      ∙ (reached_current exclusive cores line.line line.blocks line.newest some most line.reached).copy c below
      (readable_newest (line.line.part c).look (ap is_readable (sym (line.stands.part c below).state) ∙ readable))

  -- So it has what the log gives.
  pub copy_has_values : (c : ℕ) → c < cores → is_readable (copy c).state ≡ true
      → HasValues init log first (copy c).block
  copy_has_values c below readable =
      subst (HasValues init log first) (sym (copy_newest c below readable)) line.has_values

  -- The home copy has it in I and in S.
  pub home_has_values : is_at_home entry.state ≡ true → HasValues init log first entry.home
  home_has_values at_home =
      subst (HasValues init log first)
      (sym (line.blocks_stand.home
      ∙ (reached_current exclusive cores line.line line.blocks line.newest some most line.reached).home
      (ap is_at_home (sym line.stands.entry_stands.directory) ∙ at_home))) line.has_values

  -- ---- the blocks under way

  current : IsCurrent cores line.line line.blocks line.newest
  current = reached_current exclusive cores line.line line.blocks line.newest some most line.reached

  -- The data that wait for a core carry it.
  pub data_have_values : (c : ℕ) (message : DataMessage) → c < cores → (core_at channels c).data ≡ Some message
      → HasValues init log first (carried_block message)
  data_have_values c message below waits =
      subst (HasValues init log first)
      (sym (carried_is (line.blocks.arriving c) message
      ∙ ap (block_of_data (line.blocks.arriving c)) (sym waits)
      ∙ (line.blocks_stand.core c below).in_data
      ∙ current.arriving c below
      (ap is_no_data (sym (line.stands.part c below).incoming ∙ ap kind_of_data waits) ∙ some_data message)))
      line.has_values

  -- The owner's PutM carries it.
  pub put_has_values : (c : ℕ) (block : Block) → c < cores → is_named entry.owner c ≡ true
      → (core_at channels c).request ≡ Some (request_messages.PutM block) → HasValues init log first block
  put_has_values c block below owns waits =
      subst (HasValues init log first)
      (sym (ap (block_in (line.blocks.put c)) (sym waits)
      ∙ (line.blocks_stand.core c below).in_put
      ∙ current.put c below (ap (λ owner. is_named owner c) (sym line.stands.entry_stands.owner) ∙ owns)
      (ap is_put_m (sym (line.stands.part c below).request ∙ ap kind_of_request waits))))
      line.has_values

  -- The block on its way home is it.
  pub mail_has_values : (block : Block) → channels.home ≡ Some block → HasValues init log first block
  mail_has_values block waits =
      subst (HasValues init log first)
      (sym (ap (λ mail. unwrap_or mail line.blocks.mail) (sym waits)
      ∙ line.blocks_stand.mail
      ∙ current.mail (sym line.stands.home ∙ ap is_some waits)))
      line.has_values

-- ---- the slice

pub reached_without : (v : View) → AreReachedWith v → AreReached v
reached_without v all local inside =
    let line = all local inside in (
      line.line,
      without_blocks v.exclusive (length v.caches) line.line line.blocks line.newest line.reached,
      line.stands,
    )

pub newest : (v : View) → 0 < length v.caches → length v.caches ≤ 64 → AreReachedWith v → HasNewest v
newest v some most all = record {
  copies = λ local core inside there readable. copy_has_values v.exclusive (length v.caches) _ v.log _ _ _ _ some most
      (all local inside) core.0 there readable;
  home = λ local inside at_home. home_has_values v.exclusive (length v.caches) _ v.log _ _ _ _ some most
      (all local inside) at_home;
  arriving = λ local core message inside there waits. data_have_values v.exclusive (length v.caches) _ v.log _ _ _ _
      some most (all local inside) core.0 message there waits;
  given_up = λ local core block inside there owns waits. put_has_values v.exclusive (length v.caches) _ v.log _ _ _ _
      some most (all local inside) core.0 block there owns waits;
  coming_home = λ local block inside waits. mail_has_values v.exclusive (length v.caches) _ v.log _ _ _ _ some most
      (all local inside) block waits;
}
