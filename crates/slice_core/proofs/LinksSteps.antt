-- Each access and each message that is taken keeps what copies, registers and requests owe each other.
use Rattle.std.proofs.Common.{refl}
use Rattle.slice_core_theory.proofs.Steps.{KeepsAccesses, KeepsMessages}
use Rattle.slice_core_theory.specs.Whole.{IsWhole}
use Rattle.slice_core_spec.specs.Calls.{filled_by}
use Rattle.slice_core_spec.specs.View.{channels_at, cache_at}
use Rattle.slice_core_cache.specs.CoreCache.{array_copy}
use Rattle.slice_core_cache.specs.Steps.{copy_after_ack}
use Rattle.slice_core.proofs.LinksAccesses.{links_evict, links_hand, links_hit, links_join, links_open}
use Rattle.slice_core.proofs.LinksDirectory.{links_directory, links_home}
use Rattle.slice_core.proofs.LinksForwarded.{links_forwarded}
use Rattle.slice_core.proofs.LinksSettling.{links_acknowledge, links_fill, state-filled_by}
use Rattle.slice_core.specs.Sound.{HasLinks}
use Rattle.slice_queues.specs.Line.{core_at}

pub links_accesses : KeepsAccesses IsWhole HasLinks
links_accesses = record {
  hit = λ v core local request next whole there inside found held row links.
      links_hit v core local whole.shaped links there inside request next held row;
  opening = λ v core local request way next ask misses target whole there inside place victim row adds links.
      links_open v core local whole.shaped whole.few links there inside request way next ask misses target place victim
      row adds;
  join = λ v core local request misses target whole there inside waits adds links.
      links_join v core local whole.shaped links there inside request misses target waits adds;
  evict = λ v core local whole there inside leaves links.
      links_evict v core local whole.shaped links there inside leaves;
  hand = λ v core tag there links. links_hand v core tag links there;
}

pub links_messages : KeepsMessages IsWhole HasLinks
links_messages = record {
  directory = λ v local core step whole inside there is links.
      links_directory v local whole.shaped links inside core step there is;
  home = λ v local state owner sharers whole inside is links.
      links_home v local whole.shaped links inside state owner sharers is;
  forwarded = λ v local core next sent requester whole inside there copy is links.
      links_forwarded v local core next sent requester whole.shaped links there inside is copy;
  filling = λ v local core place next misses whole inside there is takes links.
      let copy = array_copy (cache_at v core) local in
      let message = (core_at (channels_at v local) core.0).data in
      links_fill v local core whole.shaped links there inside place next (filled_by copy message next) misses is
      (state-filled_by copy message next) takes;
  counting = λ v local core from place next misses whole inside there is takes links.
      links_acknowledge v local core whole.shaped links there inside from place next
      (copy_after_ack (array_copy (cache_at v core) local) next) misses is refl takes;
}
