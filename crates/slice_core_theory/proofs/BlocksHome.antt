-- A block that comes home is the home copy then, and the machine's.
use Rattle.std.proofs.Common.{◌≡◌, ℕ, ◌<◌, Bool, true, false, if◌then◌else◌, length, Option, Some, None, IsSome}
use Rattle.std.proofs.Common.{unwrap_or, refl, sym, ap, ◌∙◌, subst, true≢false}
use Rattle.address_map.specs.declared.address.CoreId.{CoreId}
use Rattle.address_map.specs.declared.address.Local.{Local}
use Rattle.address_map.specs.declared.block.Block.{Block}
use Rattle.directory_table.specs.Row as Directory
use Rattle.directory_table.specs.declared.row.DirEvent.TheVariants as dir_events
use Rattle.directory_table.specs.declared.row.DirRow.{DirRow}
use Rattle.directory_table.specs.declared.row.DirRow.TheVariants as dir_rows
use Rattle.directory_table.specs.declared.row.DirStep.{DirStep}
use Rattle.directory_table.specs.declared.state.DirEntry.{DirEntry}
use Rattle.directory_table.specs.declared.state.DirState.{DirState}
use Rattle.directory_table.specs.declared.state.DirState.TheVariants as dir_states
use Rattle.directory_table.specs.Law.{IfGo}
use Rattle.directory_table.specs.Row.{cell}
use Rattle.slice_core_theory.proofs.BlocksFrame.{by_entry_with, reached_further}
use Rattle.slice_core_theory.proofs.Home.{comes_to, comes_home, home_step}
use Rattle.slice_core_theory.specs.Blocks.{AreReachedWith, BlocksStand, HasValues}
use Rattle.slice_core_theory.specs.Stands.{Stands, copies_at}
use Rattle.slice_log.specs.Log.{initially}
use Rattle.slice_core_spec.specs.Plan.{plan_of}
use Rattle.slice_core_spec.specs.Steps.{after_home}
use Rattle.slice_core_spec.specs.View.{View, IsShaped, channels_at, entry_at, first_word}
use Rattle.protocol_coherence.specs.Line.{Line}
use Rattle.protocol_coherence.specs.Values.{Blocks, blocks_after, newest_after}
use Rattle.slice_queues.specs.Line.{after_take}
use Rattle.slice_queues.specs.declared.channel.Channel.TheVariants as channels
use Rattle.slice_core_spec.specs.Plan.{home_move}

-- The row for a block that comes home writes it to the home copy.
home_writes : (exclusive : Bool) (state : DirState) (owner : Option CoreId) (sharers : ℕ)
    → IfGo (cell exclusive state owner sharers dir_events.DataHome) (λ next owns shares sent writes. writes ≡ true)
home_writes true dir_states.S_D owner sharers = refl
home_writes false dir_states.S_D owner sharers = refl
home_writes _ dir_states.M (Some core) sharers = tt
home_writes _ _ _ _ = tt

writes_home : (exclusive : Bool) (entry : DirEntry) (step : DirStep)
    → Directory.row_of exclusive entry dir_events.DataHome ≡ dir_rows.Go step → step.writes_home ≡ true
writes_home exclusive entry step row =
    subst (λ (r : DirRow). IfGo r (λ next owns shares se w. w ≡ true)) row
    (home_writes exclusive entry.state entry.owner entry.sharers)

-- A block that waits is the one that it represents.
mail_is : (waits : Option Block) (none mail : Block) → IsSome waits → unwrap_or waits mail ≡ mail
    → unwrap_or waits none ≡ mail
mail_is None none mail some same = absurd (true≢false (sym some))
mail_is (Some block) none mail some same = same

module _ (v : View) (local : Local) (shaped : IsShaped v) (inside : local.0 < v.lines.lines) (state : DirState)
    (owner : Option CoreId) (sharers : ℕ) (is : plan_of v local channels.Home ≡ home_move state owner sharers) where
  -- The blocks after that step.
  pub home_blocks : (l : Line) (stands : Stands v local l) (blocks : Blocks) (written : Block)
      → BlocksStand (length v.caches) (entry_at v local) (channels_at v local) (copies_at v local) blocks
      → BlocksStand (length v.caches)
      (record {
        home = unwrap_or (channels_at v local).home (entry_at v local).home;
        sharers = sharers;
        owner = owner;
        state = state;
      })
      (after_take (channels_at v local) channels.Home) (copies_at v local)
      (blocks_after (home_step v local shaped inside state owner sharers is l stands).0 written blocks)
  unfolding home_step
  home_blocks l stands blocks written stand =
      let known = comes_home v local state owner sharers is in
      record {
        core = stand.core;
        home = mail_is (channels_at v local).home (entry_at v local).home blocks.mail known.waits stand.mail
            ∙ sym (ap (λ b. if b then blocks.mail else blocks.home)
            (writes_home v.exclusive (entry_at v local) (comes_to state owner sharers known.writes) known.row));
        mail = refl;
      }

  -- It performs nothing.
  home_newest : (l : Line) (stands : Stands v local l) (newest written : Block)
      → newest_after (home_step v local shaped inside state owner sharers is l stands).0 written newest ≡ newest
  unfolding home_step
  home_newest l stands newest written = refl

  -- A block that comes home leaves each line reached, blocks and all.
  pub home_keeps : AreReachedWith v → AreReachedWith (after_home v local state owner sharers)
  home_keeps all =
      let before = all local inside in
      let step = home_step v local shaped inside state owner sharers is before.line before.stands in
      let home : DirEntry = record {
        home = unwrap_or (channels_at v local).home (entry_at v local).home;
        sharers = sharers;
        owner = owner;
        state = state;
      } in
      by_entry_with v local shaped inside all home (after_take (channels_at v local) channels.Home)
      (reached_further v.exclusive (length v.caches) (initially v.init) v.log (first_word v local) home
      (after_take (channels_at v local) channels.Home) (copies_at v local) before.line before.blocks before.newest
      before.reached step.0 before.newest
      (subst (HasValues (initially v.init) v.log (first_word v local))
      (sym (home_newest before.line before.stands before.newest before.newest)) before.has_values)
      step.1 (home_blocks before.line before.stands before.blocks before.newest before.blocks_stand))
