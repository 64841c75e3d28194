-- A block that comes home is a step of the line.
use Rattle.std.proofs.Common.{◌≡◌, ℕ, ◌<◌, Bool, true, false, if◌then◌else◌, length, Option, Some, is_some}
use Rattle.std.proofs.Common.{unwrap_or, refl, sym, ap, ◌∙◌, subst}
use Rattle.address_map.specs.declared.address.CoreId.{CoreId}
use Rattle.address_map.specs.declared.address.Local.{Local}
use Rattle.directory_table.specs.Law.{IfGo}
use Rattle.directory_table.specs.Row as Directory
use Rattle.directory_table.specs.Row.{cell}
use Rattle.directory_table.specs.declared.row.DirEvent.TheVariants as dir_events
use Rattle.directory_table.specs.declared.row.DirRow.{DirRow}
use Rattle.directory_table.specs.declared.row.DirRow.TheVariants as dir_rows
use Rattle.directory_table.specs.declared.row.DirSends.TheVariants as dir_sends
use Rattle.directory_table.specs.declared.row.DirStep.{DirStep}
use Rattle.directory_table.specs.declared.state.DirState.{DirState}
use Rattle.directory_table.specs.declared.state.DirState.TheVariants as dir_states
use Rattle.slice_core_theory.proofs.Served.{row_here}
use Rattle.slice_core_theory.proofs.Frame.{by_entry}
use Rattle.slice_core_theory.specs.Stands.{AreReached, LineStands, Stands, copies_at}
use Rattle.slice_core_spec.specs.Plan.{by_home_row, plan_of}
use Rattle.slice_core_spec.specs.Steps.{after_home}
use Rattle.slice_core_spec.specs.View.{View, IsShaped, channels_at, entry_at}
use Rattle.protocol_coherence.specs.Line.{Line}
use Rattle.protocol_coherence.specs.LineSteps.{Step, after, further, serve}
use Rattle.slice_queues.specs.Line.{after_take}
use Rattle.slice_queues.specs.declared.channel.Channel.TheVariants as channels
use Rattle.slice_answer.specs.declared.answer.Delivery.TheVariants as deliveries
use Rattle.slice_answer.specs.declared.answer.Delivery.{Delivery}
use Rattle.slice_core_spec.specs.Plan.{home_move}
use Rattle.slice_core_spec.specs.declared.transition.Transition.TheVariants as transitions
use Rattle.slice_core_spec.specs.declared.transition.Transition.{Transition}

-- A block that comes home makes the directory send nothing.
home_row : (exclusive : Bool) (state : DirState) (owner : Option CoreId) (sharers : ℕ)
    → IfGo (cell exclusive state owner sharers dir_events.DataHome)
    (λ next owns shares sent writes. sent ≡ dir_sends.Nothing)
home_row true dir_states.S_D owner sharers = refl
home_row false dir_states.S_D owner sharers = refl
home_row _ dir_states.M (Some core) sharers = tt
home_row _ _ _ _ = tt

-- what the directory does by it
abbrev pub comes_to : DirState → Option CoreId → ℕ → Bool → DirStep
comes_to state owner sharers writes =
    record { state = state; owner = owner; sharers = sharers; sends = dir_sends.Nothing; writes_home = writes }

module _ (v : View) (local : Local) (state : DirState) (owner : Option CoreId) (sharers : ℕ) where
  -- what the plan says of the row
  pub record ComesHome : Type 0 where
    pub waits : is_some (channels_at v local).home ≡ true
    pub writes : Bool
    pub row : Directory.row_of v.exclusive (entry_at v local) dir_events.DataHome
        ≡ dir_rows.Go (comes_to state owner sharers writes)

  pub comes_home : plan_of v local channels.Home ≡ home_move state owner sharers → ComesHome
  comes_home is = by (is_some (channels_at v local).home) refl is
    where
      row_now : DirRow
      row_now = Directory.row_of v.exclusive (entry_at v local) dir_events.DataHome

      entry_in : Delivery Transition → DirState × Option CoreId × ℕ
      entry_in (deliveries.Moved (transitions.Home step)) = (step.state, step.owner, step.sharers)
      entry_in _ = (state, owner, sharers)

      by_row : is_some (channels_at v local).home ≡ true → (row : DirRow) → row_now ≡ row
          → by_home_row row ≡ home_move state owner sharers → ComesHome
      by_row waits dir_rows.NoEntry e is = absurd (cc is)
      by_row waits dir_rows.Blocked e is = absurd (cc is)
      by_row waits (dir_rows.Go step) e is =
          let none : step.sends ≡ dir_sends.Nothing =
          subst (λ (r : DirRow). IfGo r (λ next owns shares se w. se ≡ dir_sends.Nothing)) e
          (home_row v.exclusive (entry_at v local).state (entry_at v local).owner (entry_at v local).sharers) in
          record {
            waits = waits;
            writes = step.writes_home;
            row = e ∙ ap (λ se. dir_rows.Go (record step { sends = se })) none
                ∙ ap (λ (t : DirState × Option CoreId × ℕ). dir_rows.Go (comes_to t.0 t.1 t.2 step.writes_home))
                (ap entry_in is);
          }

      by : (waits : Bool) → is_some (channels_at v local).home ≡ waits
          → (if waits then by_home_row row_now else deliveries.Nothing) ≡ home_move state owner sharers → ComesHome
      by true waits is = by_row waits row_now refl is
      by false waits is = absurd (cc is)

module _ (v : View) (local : Local) (shaped : IsShaped v) (inside : local.0 < v.lines.lines) (state : DirState)
    (owner : Option CoreId) (sharers : ℕ) (is : plan_of v local channels.Home ≡ home_move state owner sharers) where
  -- The machine's line continues by one step, and the slice's line is that line then.
  unfoldable pub home_step : (l : Line) → Stands v local l
      → (step : Step v.exclusive (length v.caches) l)
      × LineStands (length v.caches)
      (record {
        home = unwrap_or (channels_at v local).home (entry_at v local).home;
        sharers = sharers;
        owner = owner;
        state = state;
      })
      (after_take (channels_at v local) channels.Home) (copies_at v local) (after step)
  home_step l stands =
      let known = comes_home v local state owner sharers is in (
        serve dir_events.DataHome (entry_at v local).home (comes_to state owner sharers known.writes) tt
            (sym stands.home ∙ known.waits)
            (row_here v.exclusive (entry_at v local) l (entry_at v local).home dir_events.DataHome stands.entry_stands
            ∙ known.row),
        record {
          entry_stands = record { directory = refl; owner = refl; sharers = refl };
          home = refl;
          part = stands.part;
          acks = record { waits = stands.acks.waits; senders = stands.acks.senders };
        },
      )

  -- A block that comes home leaves each line reached.
  pub reached_home : AreReached v → AreReached (after_home v local state owner sharers)
  reached_home all =
      let before = all local inside in
      let step = home_step before.0 before.2 in
      by_entry v local shaped inside all
      (record {
        home = unwrap_or (channels_at v local).home (entry_at v local).home;
        sharers = sharers;
        owner = owner;
        state = state;
      })
      (after_take (channels_at v local) channels.Home) (after step.0) (further before.1 step.0) step.1
