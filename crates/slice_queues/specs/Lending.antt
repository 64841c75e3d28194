-- A line that is changed.
use Rattle.address_map.specs.declared.address.Local.{Local}
use Rattle.slice_queues.specs.Line.{LineChannels}
use Rattle.slice_queues.specs.Slice.{with_local}
use Rattle.slice_queues.specs.Ring.{QueuesView, with_listed}

-- the slice with this line as it is left, which is in the ring
abbrev pub with_lent : QueuesView → Local → LineChannels → QueuesView
with_lent queues local line =
    record { channels = with_local queues.channels local.0 line; ring = with_listed queues.ring local.0 }
