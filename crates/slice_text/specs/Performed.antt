-- An access that was performed.
use Rattle.std.specs.Prelude.{ℕ, List, ◌++◌, codes, decimal}
use Rattle.address_map.specs.declared.address.WordAddr.{WordAddr}
use Rattle.address_map.specs.declared.request.Op.{Op}
use Rattle.address_map.specs.declared.request.Op.TheVariants as ops
use Rattle.slice_log.specs.declared.entry.Entry.{Entry}

-- the access as a script writes it
abbrev pub text_of_op : WordAddr → Op → List ℕ
text_of_op word ops.Load = codes "load " ++ decimal word.0
text_of_op word (ops.Store new) = codes "store " ++ decimal word.0 ++ codes " " ++ decimal new
text_of_op word (ops.Add more) = codes "add " ++ decimal word.0 ++ codes " " ++ decimal more
text_of_op word (ops.Cas expect new) =
    codes "cas " ++ decimal word.0 ++ codes " " ++ decimal expect ++ codes " " ++ decimal new

-- .. by whom, and as which of the core's requests
abbrev pub text_of_performed : Entry → List ℕ
text_of_performed entry =
    codes "core " ++ decimal entry.core.0 ++ codes ": request " ++ decimal entry.seq ++ codes ", "
    ++ text_of_op entry.word entry.op
