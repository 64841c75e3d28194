-- A core that took its data may ask the directory once more.
use Rattle.std.proofs.Common.{◌≡◌, ◌∙◌, ◌<◌, ℕ, ap, arith, length, true, None, subst, sym}
use Rattle.std.proofs.lemmas.List.{get_or-set_same, length-set}
use Rattle.address_map.specs.declared.address.CoreId.{CoreId}
use Rattle.address_map.specs.declared.address.Local.{Local}
use Rattle.slice_core_spec.specs.Parts.{PartsView}
use Rattle.slice_core_spec.specs.View.{IsShaped, channels_at}
use Rattle.slice_queues.proofs.LentLaws.{is_listed-with_listed, read-lent}
use Rattle.slice_queues.specs.Lending.{with_lent}
use Rattle.slice_queues.specs.Line.{CoreChannels, LineChannels, after_take, core_at, no_messages}
use Rattle.slice_queues.specs.Ring.{QueuesView, is_listed}
use Rattle.slice_queues.specs.Slice.{at_local}
use Rattle.slice_queues.specs.declared.channel.Channel.TheVariants as channels

-- the line and the core have their channels, and no request of the core is on its way
pub record HasNoRequest (p : PartsView) (local : Local) (core : CoreId) : Type 0 where
  pub line : local.0 < length p.view.channels
  pub core_there : core.0 < length (channels_at p.view local).cores
  pub idle : (core_at (channels_at p.view local) core.0).request ≡ None

pub has_no_request : (inside p : PartsView) (local : Local) (core : CoreId) → inside ≡ p → IsShaped p.view
    → local.0 < p.view.lines.lines → core.0 < length p.view.caches
    → (core_at (channels_at p.view local) core.0).request ≡ None → HasNoRequest inside local core
has_no_request inside p local core same shaped line core_there idle =
    subst (λ (q : PartsView). HasNoRequest q local core) (sym same)
    (record {
      line = let lines = shaped.lines in omega (arith, lines, line);
      core_there = let cores = shaped.cores local line in omega (arith, cores, core_there);
      idle = idle;
    })

-- the line is in the ring, and no request of the core is on its way
pub record MayAsk (queues : QueuesView) (local : Local) (core : CoreId) : Type 0 where
  pub line : local.0 < length queues.channels.lines
  pub core_there : core.0 < length (at_local queues.channels local.0).cores
  pub idle : (core_at (at_local queues.channels local.0) core.0).request ≡ None
  pub listed : is_listed queues.ring local.0 ≡ true

pub may_ask : (old new : QueuesView) (local : Local) (core : CoreId) → local.0 < length old.channels.lines
    → core.0 < length (at_local old.channels local.0).cores
    → (core_at (at_local old.channels local.0) core.0).request ≡ None
    → new ≡ with_lent old local (after_take (at_local old.channels local.0) (channels.Data core))
    → MayAsk new local core
may_ask old new local core line there idle taken =
    let before = at_local old.channels local.0 in
    let after = after_take before (channels.Data core) in
    let read = read-lent old new local after line taken in
    record {
      line = subst (λ (n : ℕ). local.0 < n)
          (sym (ap (λ (q : QueuesView). length q.channels.lines) taken ∙ length-set old.channels.lines local.0 after)) line;
      core_there = subst (λ (n : ℕ). core.0 < n)
          (sym (ap (λ (l : LineChannels). length l.cores) read ∙ length-set before.cores core.0 _)) there;
      idle = ap (λ (l : LineChannels). (core_at l core.0).request) read
          ∙ ap (λ (x : CoreChannels). x.request) (get_or-set_same before.cores core.0 _ no_messages there) ∙ idle;
      listed = ap (λ (q : QueuesView). is_listed q.ring local.0) taken ∙ is_listed-with_listed old.ring local.0;
    }
