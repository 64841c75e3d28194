-- What the directory takes keeps what copies, registers and requests owe each other, and each owner is a core.
use Rattle.std.proofs.Common.{◌≡◌, ℕ, ◌<◌, ◌==◌, Bool, true, false, if◌then◌else◌, length, Option, Some, None, IfSome}
use Rattle.std.proofs.Common.{is_some, unwrap_or, inl, inr, refl, sym, ap, ◌∙◌, subst}
use Rattle.std.proofs.lemmas.Bool.{cases_eq, cond_both}
use Rattle.address_map.specs.declared.address.CoreId.{CoreId}
use Rattle.address_map.specs.declared.address.Local.{Local}
use Rattle.address_map.specs.declared.block.Block.{Block}
use Rattle.directory_table.specs.Row.{cell, row_of as dir_row_of}
use Rattle.directory_table.specs.declared.row.DirEvent.{DirEvent}
use Rattle.directory_table.specs.declared.row.DirEvent.TheVariants as dir_events
use Rattle.directory_table.specs.declared.row.DirRow.{DirRow}
use Rattle.directory_table.specs.declared.row.DirRow.TheVariants as dir_rows
use Rattle.directory_table.specs.declared.row.DirStep.{DirStep}
use Rattle.directory_table.specs.declared.state.DirEntry.{DirEntry}
use Rattle.directory_table.specs.declared.state.DirState.{DirState}
use Rattle.directory_table.specs.declared.state.DirState.TheVariants as dir_states
use Rattle.slice_core_spec.specs.Plan.{by_home_row, event_of_request, home_plan, plan_of}
use Rattle.slice_core_spec.specs.Sends.{directory_room, directory_sent}
use Rattle.slice_core_spec.specs.Steps.{after_directory, after_home, block_in}
use Rattle.slice_core_spec.specs.View.{View, channels_at, entry_at, no_entry, cache_at, with_channels, with_entry}
use Rattle.slice_core_spec.specs.View.{IsShaped}
use Rattle.slice_core_cache.specs.CoreCache.{state_of}
use Rattle.slice_core.proofs.LinksFrame.{placed, same_local}
use Rattle.slice_core.proofs.LinksRequests.{asked, asked-directory_sent, asked-taken, asked-taken_other}
use Rattle.slice_core.proofs.LinksAsking.{sent-none}
use Rattle.slice_core.specs.Sound.{HasLinks, has_sent}
use Rattle.slice_queues.specs.Line.{LineChannels, after_take, core_at, empty_line}
use Rattle.slice_queues.specs.declared.channel.Channel.TheVariants as channels
use Rattle.slice_queues.specs.declared.message.RequestMessage.{RequestMessage}
use Rattle.slice_queues.specs.declared.message.RequestMessage.TheVariants as request_messages
use Rattle.slice_answer.specs.declared.answer.Delivery.TheVariants as deliveries
use Rattle.slice_answer.specs.declared.answer.Delivery.{Delivery}
use Rattle.slice_core_spec.specs.Plan.{directory_move, home_move}
use Rattle.slice_core_spec.specs.declared.transition.Transition.TheVariants as transitions
use Rattle.slice_core_spec.specs.declared.transition.Transition.{Transition}

-- ---- owners

-- the owner that a row leaves, if it leaves one, has the property
abbrev pub OwnerOf : (CoreId → Type 0) → DirRow → Type 0
OwnerOf P (dir_rows.Go step) = IfSome step.owner P
OwnerOf P dir_rows.Blocked = Unit {0}
OwnerOf P dir_rows.NoEntry = Unit {0}

-- the core that an event names has the property
abbrev pub NamedBy : (CoreId → Type 0) → DirEvent → Type 0
NamedBy P (dir_events.GetS core) = P core
NamedBy P (dir_events.GetM core) = P core
NamedBy P (dir_events.PutS core) = P core
NamedBy P (dir_events.PutM core) = P core
NamedBy P dir_events.DataHome = Unit {0}

-- The owner that a cell leaves is the one before, or the core that asks. `_` stands for what no line above it takes.
pub cell-owner : (P : CoreId → Type 0) (exclusive : Bool) (state : DirState) (owner : Option CoreId) (sharers : ℕ)
    (event : DirEvent) →
    IfSome owner P → NamedBy P event → OwnerOf P (cell exclusive state owner sharers event)
cell-owner P true dir_states.I owner sharers (dir_events.GetS core) was asks = asks
cell-owner P _ dir_states.I owner sharers (dir_events.GetM core) was asks = asks
cell-owner P _ dir_states.S owner sharers (dir_events.GetM core) was asks = asks
cell-owner P _ dir_states.S_D owner sharers (dir_events.GetS core) was asks = tt
cell-owner P _ dir_states.S_D owner sharers (dir_events.GetM core) was asks = tt
cell-owner P _ dir_states.S_D owner sharers dir_events.DataHome was asks = was
cell-owner P _ dir_states.M (Some owner) sharers (dir_events.GetS core) was asks =
    cond_both (owner.0 == core.0) _ _ (OwnerOf P) (λ own. tt) (λ other. tt)
cell-owner P _ dir_states.M (Some owner) sharers (dir_events.GetM core) was asks =
    cond_both (owner.0 == core.0) _ _ (OwnerOf P) (λ own. tt) (λ other. asks)
cell-owner P _ dir_states.M (Some owner) sharers (dir_events.PutS core) was asks =
    cond_both (owner.0 == core.0) _ _ (OwnerOf P) (λ own. tt) (λ other. was)
cell-owner P _ dir_states.M (Some owner) sharers (dir_events.PutM core) was asks =
    cond_both (owner.0 == core.0) _ _ (OwnerOf P) (λ own. tt) (λ other. was)
cell-owner P _ dir_states.M _ sharers _ was asks = tt
cell-owner P _ _ owner sharers dir_events.DataHome was asks = tt
cell-owner P _ _ owner sharers _ was asks = was

-- the owner that a plan leaves, if it leaves one, is a core
abbrev pub IsOwnedPlan : View → Delivery Transition → Type 0
IsOwnedPlan v (deliveries.Moved (transitions.Directory step)) = IfSome step.owner (λ core. core.0 < length v.caches)
IsOwnedPlan v (deliveries.Moved (transitions.Home step)) = IfSome step.owner (λ core. core.0 < length v.caches)
IsOwnedPlan v plan = Unit {0}

module _ (v : View) (local : Local) (links : HasLinks v) (within : local.0 < v.lines.lines) where
  owned_request : (core : CoreId) → core.0 < length v.caches → IsOwnedPlan v (plan_of v local (channels.Req core))
  owned_request core there = by (asked (channels_at v local) core.0) refl
    where
      named : (message : RequestMessage) → NamedBy (λ owner. owner.0 < length v.caches) (event_of_request core message)
      named request_messages.GetS = there
      named request_messages.GetM = there
      named request_messages.PutS = there
      named (request_messages.PutM block) = there

      by_row : (message : RequestMessage) → asked (channels_at v local) core.0 ≡ Some message → (row : DirRow) →
          dir_row_of v.exclusive (entry_at v local) (event_of_request core message) ≡ row →
          OwnerOf (λ owner. owner.0 < length v.caches) row → IsOwnedPlan v (plan_of v local (channels.Req core))
      by_row message is dir_rows.Blocked e owned = rw (is, e) tt
      by_row message is dir_rows.NoEntry e owned = rw (is, e) tt
      by_row message is (dir_rows.Go step) e owned =
          by_room (directory_room (channels_at v local) core step.sends) refl
        where
          by_room : (room : Bool) → directory_room (channels_at v local) core step.sends ≡ room →
              IsOwnedPlan v (plan_of v local (channels.Req core))
          by_room true has_room = rw (is, e, has_room) owned
          by_room false has_room = rw (is, e, has_room) tt

      by : (request : Option RequestMessage) → asked (channels_at v local) core.0 ≡ request →
          IsOwnedPlan v (plan_of v local (channels.Req core))
      by None is = rw is tt
      by (Some message) is =
          by_row message is (dir_row_of v.exclusive (entry_at v local) (event_of_request core message)) refl
          (cell-owner (λ owner. owner.0 < length v.caches) v.exclusive (entry_at v local).state (entry_at v local).owner
          (entry_at v local).sharers (event_of_request core message) (links.owned local within) (named message))

  owned_home : IsOwnedPlan v (home_plan v local)
  owned_home = by (is_some (channels_at v local).home)
    where
      row : (r : DirRow) → OwnerOf (λ owner. owner.0 < length v.caches) r → IsOwnedPlan v (by_home_row r)
      row (dir_rows.Go step) owned = owned
      row dir_rows.Blocked owned = tt
      row dir_rows.NoEntry owned = tt

      by : (waits : Bool) → IsOwnedPlan v
          (if waits then by_home_row (dir_row_of v.exclusive (entry_at v local) dir_events.DataHome) else
          deliveries.Nothing)
      by true =
          row (dir_row_of v.exclusive (entry_at v local) dir_events.DataHome)
          (cell-owner (λ owner. owner.0 < length v.caches) v.exclusive (entry_at v local).state (entry_at v local).owner
          (entry_at v local).sharers dir_events.DataHome (links.owned local within) tt)
      by false = tt

-- ---- the steps

-- A line whose entry and channels are others keeps the links, if its owner is a core and what each core asks for fits
-- its
-- copy.
pub links_entry : (v : View) (local : Local) (entry : DirEntry) (line : LineChannels) → IsShaped v → HasLinks v →
    local.0 < v.lines.lines → IfSome entry.owner (λ owner. owner.0 < length v.caches) →
    ((core : CoreId) → core.0 < length v.caches → has_sent (state_of (cache_at v core) local) (asked line core.0)
    ≡ true) →
    HasLinks (with_channels (with_entry v local entry) local line)
links_entry v local entry line shaped links within owned sent = record {
  kept = links.kept;
  own = links.own;
  leaves = links.leaves;
  waits = links.waits;
  sent = λ core l there inside.
      placed (λ (c : LineChannels). has_sent (state_of (cache_at v core) l) (asked c core.0) ≡ true) v.channels local.0
      l.0 line
      (empty_line 0) (subst (λ n. local.0 < n) (sym shaped.lines) within)
      (λ same.
      subst (λ (k : Local). has_sent (state_of (cache_at v core) k) (asked line core.0) ≡ true)
      (sym (same_local l local same))
      (sent core there))
      (λ apart. links.sent core l there inside);
  owned = λ l inside.
      placed (λ (e : DirEntry). IfSome e.owner (λ owner. owner.0 < length v.caches)) v.entries local.0 l.0 entry
      no_entry
      (subst (λ n. local.0 < n) (sym shaped.entries) within) (λ same. owned) (λ apart. links.owned l inside);
}

module _ (v : View) (local : Local) (shaped : IsShaped v) (links : HasLinks v) (within : local.0 < v.lines.lines) where
  -- A request that the directory takes keeps the links: nothing is asked for the core's copy then.
  pub links_directory : (core : CoreId) (step : DirStep) → core.0 < length v.caches →
      plan_of v local (channels.Req core) ≡ directory_move step → HasLinks (after_directory v local core step)
  links_directory core step there is =
      let entry = entry_at v local in
      let line = channels_at v local in
      let taken = after_take line (channels.Req core) in
      let home : Block = if step.writes_home then block_in entry.home (core_at line core.0).request else entry.home in
      links_entry v local (record { home = home; sharers = step.sharers; owner = step.owner; state = step.state })
      (directory_sent taken core entry.home step.sends) shaped links within
      (subst (IsOwnedPlan v) is (owned_request v local links within core there))
      (λ other inside.
      let copy = state_of (cache_at v other) local in
      elim (cases_eq other.0 core.0) [
        | inl same ↦
            let none : asked (directory_sent taken core entry.home step.sends) other.0 ≡ None =
            asked-directory_sent taken core other.0 entry.home step.sends ∙ ap (asked taken) same
            ∙ asked-taken line core (subst (λ n. core.0 < n) (sym (shaped.cores local within)) there) in
            ap (has_sent copy) none ∙ sent-none copy
        | inr apart ↦
            ap (has_sent copy)
            (asked-directory_sent taken core other.0 entry.home step.sends ∙ asked-taken_other line core other.0 apart)
            ∙ links.sent other local inside within
      ])

  -- A block that comes home keeps the links.
  pub links_home : (state : DirState) (owner : Option CoreId) (sharers : ℕ) →
      plan_of v local channels.Home ≡ home_move state owner sharers →
      HasLinks (after_home v local state owner sharers)
  links_home state owner sharers is =
      let entry = entry_at v local in
      let line = channels_at v local in
      links_entry v local (record {
        home = unwrap_or line.home entry.home;
        sharers = sharers;
        owner = owner;
        state =
            state;
      })
      (after_take line channels.Home) shaped links within
      (subst (IsOwnedPlan v) is (owned_home v local links within))
      (λ other inside. links.sent other local inside within)
