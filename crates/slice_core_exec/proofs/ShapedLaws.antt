-- A request that a core sends leaves a slice its shape.
use Rattle.std.proofs.Common.{◌≡◌, ◌≢◌, ◌∙◌, ◌<◌, ⊎_elim, ap, arith, get_or, length, sym}
use Rattle.std.specs.Prelude.{slice_set}
use Rattle.std.proofs.lemmas.List.{get_or-set_other, get_or-set_same, length-set}
use Rattle.address_map.specs.declared.address.CoreId.{CoreId}
use Rattle.address_map.specs.declared.address.Local.{Local}
use Rattle.slice_core_spec.specs.Steps.{after_request}
use Rattle.slice_core_spec.specs.View.{View, IsShaped, channels_at, with_cache}
use Rattle.slice_core_cache.specs.CoreCache.{CoreCacheView}
use Rattle.slice_queues.specs.Line.{LineChannels, after_send, empty_line}
use Rattle.slice_queues.specs.declared.channel.Channel.TheVariants as channels
use Rattle.slice_queues.specs.declared.message.Message.TheVariants as messages
use Rattle.slice_queues.specs.declared.message.RequestMessage.{RequestMessage}
use Rattle.std.proofs.lemmas.Bool.{cases_eq}

pub shaped-request : (v : View) (core : CoreId) (cache : CoreCacheView) (local : Local) (message : RequestMessage)
    → IsShaped v → IsShaped (after_request (with_cache v core cache) core local message)
shaped-request v core cache local message shaped = record {
  entries = shaped.entries;
  lines = length-set v.channels local.0 line ∙ shaped.lines;
  cores = λ other inside. ⊎_elim (here other inside) (there other inside) (cases_eq other.0 local.0);
}
  where
    line : LineChannels
    line = after_send (channels_at v local) (channels.Req core) (messages.Request message)

    sent : length line.cores ≡ length (channels_at v local).cores
    sent = length-set (channels_at v local).cores core.0 _

    here : (other : Local) → other.0 < v.lines.lines → other.0 ≡ local.0
        → length (get_or (slice_set v.channels local.0 line) other.0 (empty_line 0)).cores
        ≡ length (slice_set v.caches core.0 cache)
    here other inside same =
        let all = shaped.lines in
        ap (λ n. length (get_or (slice_set v.channels local.0 line) n (empty_line 0)).cores) same
        ∙ ap (λ (l : LineChannels). length l.cores)
        (get_or-set_same v.channels local.0 line (empty_line 0) (omega (arith, inside, same, all)))
        ∙ sent ∙ shaped.cores local (omega (arith, inside, same)) ∙ sym (length-set v.caches core.0 cache)

    there : (other : Local) → other.0 < v.lines.lines → other.0 ≢ local.0
        → length (get_or (slice_set v.channels local.0 line) other.0 (empty_line 0)).cores
        ≡ length (slice_set v.caches core.0 cache)
    there other inside apart =
        ap (λ (l : LineChannels). length l.cores)
        (get_or-set_other v.channels local.0 other.0 line (empty_line 0) apart)
        ∙ shaped.cores other inside ∙ sym (length-set v.caches core.0 cache)
