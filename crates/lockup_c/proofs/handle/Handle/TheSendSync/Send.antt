-- A handle may go to another thread: what it has may, and so may the right to free it.
use mir.Raw.{raw}
use base.Shift.{Keyless}
use denote.Memory.{lone}
use denote.Param.Send.{IsSend, AllSend, owning_send, struct_send, sendable}
use denote.RawPtr.{Ptr, null_ptr, block_ptr}
use denote.Struct.Owning.{shape, fields, to}
use denote.Struct.Struct.{exits_of}
use Rattle.std.proofs.Crossing as heap
use Rattle.std_alloc.proofs.SendSync.{quiet, lies}
use Rattle.std.specs.Global.{Global}
use Rattle.std.specs.Prelude.{Option, Some, None}
use Rattle.std_heap.proofs.Global.TheSendSync as allocator
use Rattle.lockup_c.proofs.held.Held.TheSendSync.{the_send as held}
use Rattle.lockup_c.specs.Owner.{owned_at}
use Rattle.lockup_c.specs.contracts.handle.Handle.{the_row, the_type}
use Rattle.lockup_c.specs.contracts.held.Held as Held

owned : (a : Global) (p : Ptr) (x : Option Held.the_row.Denot) → Keyless (owned_at a p x)
owned a null_ptr None = tt
owned a null_ptr (Some x) = λ wrong. absurd wrong
owned a (block_ptr b o) None = λ wrong. absurd wrong
owned a (block_ptr b o) (Some x) =
    (lies Held.the_row held (block_ptr b o) x, heap.frees.frees a (raw (lone Held.the_row.mir)) (block_ptr b o))

pub send : IsSend the_row
send =
    let all : AllSend (fields the_type) = (search sendable, (allocator.the_field_send, tt)) in
    owning_send the_type all (λ d. owned d.alloc d.at d.value)
    (λ k. quiet (to the_type) (exits_of k (fields the_type)) ((struct_send (shape the_type) all).leaving k))
