-- Accesses as data: those that wait for a line, and those that were performed.
use Rattle.std.specs.Prelude.{ℕ, List, ◌++◌, codes, decimal, drop, map}
use Rattle.address_map.specs.declared.request.Op.{Op}
use Rattle.address_map.specs.declared.request.Op.TheVariants as ops
use Rattle.litmus_text.specs.JsonList.{with_commas}
use Rattle.slice_log.specs.declared.entry.Entry.{Entry}
use Rattle.target_list.specs.declared.target.Target.{Target}

-- an access, with its operands as strings of their digits
abbrev pub text_of_op : Op → List ℕ
text_of_op ops.Load = codes "\"op\":\"load\""
text_of_op (ops.Store value) = codes "\"op\":\"store\",\"value\":\"" ++ decimal value ++ codes "\""
text_of_op (ops.Add value) = codes "\"op\":\"add\",\"value\":\"" ++ decimal value ++ codes "\""
text_of_op (ops.Cas expect new) =
    codes "\"op\":\"cas\",\"expect\":\""
    ++ (decimal expect ++ (codes "\",\"value\":\"" ++ (decimal new ++ codes "\"")))

-- one that waits: its tag, its word's place in the line, which of the core's requests it is, and how long the log was
-- when it was accepted
abbrev pub text_of_target : Target → List ℕ
text_of_target target =
    codes "{\"tag\":" ++ (decimal target.tag ++ (codes ",\"offset\":" ++ (decimal target.offset.0 ++ (codes ","
    ++ (text_of_op target.op ++ (codes ",\"seq\":" ++ (decimal target.seq ++ (codes ",\"since\":"
    ++ (decimal target.since ++ codes "}")))))))))

abbrev pub list_of_targets : List Target → List ℕ
list_of_targets targets = codes "[" ++ (with_commas (map text_of_target targets) ++ codes "]")

-- one that was performed
abbrev pub text_of_entry : Entry → List ℕ
text_of_entry entry =
    codes "{\"core\":" ++ (decimal entry.core.0 ++ (codes ",\"tag\":" ++ (decimal entry.tag ++ (codes ",\"word\":"
    ++ (decimal entry.word.0 ++ (codes "," ++ (text_of_op entry.op ++ (codes ",\"reply\":\""
    ++ (decimal entry.reply ++ codes "\"}")))))))))

abbrev pub list_of_entries : List Entry → List ℕ
list_of_entries entries = with_commas (map text_of_entry entries)

abbrev pub text_of_place : ℕ → ℕ → List ℕ
text_of_place slice first =
    codes "{\"slice\":" ++ decimal slice ++ codes ",\"first\":" ++ decimal first ++ codes ",\"entries\":["

-- the entries of a slice's log from this number on
abbrev pub text_of_log : ℕ → ℕ → List Entry → List ℕ
text_of_log slice first log = text_of_place slice first ++ (list_of_entries (drop first log) ++ codes "]}")
