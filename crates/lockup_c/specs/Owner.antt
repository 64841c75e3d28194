-- What a handle owns: nothing where its pointer is null, and else what a box at its pointer owns.
use base.Fml.{Fml, ftrue, fex}
use base.Stored.{Coded}
use denote.RawPtr.{Ptr, null_ptr, block_ptr}
use Rattle.std.specs.Box.Ownership.{box_owns}
use Rattle.std.specs.Coded.{coded_option}
use Rattle.std.specs.Global.{Global}
use Rattle.std.specs.Prelude.{Option, Some, None}
use Rattle.std_heap.specs.contracts.GlobalAllocator.TheImpl.{ghosts}
use Rattle.lockup_c.specs.contracts.held.Held.{the_row}

abbrev pub owned_at : Global → Ptr → Option the_row.Denot → Fml
owned_at alloc null_ptr None = ftrue
owned_at alloc null_ptr (Some x) = fex ⊥ (λ _. ftrue)
owned_at alloc (block_ptr b o) None = fex ⊥ (λ _. ftrue)
owned_at alloc (block_ptr b o) (Some x) = box_owns (ghosts.dealloc_token alloc) the_row (block_ptr b o) x

abbrev pub owned_coded : Coded (Option the_row.Denot)
owned_coded = coded_option the_row.coded
