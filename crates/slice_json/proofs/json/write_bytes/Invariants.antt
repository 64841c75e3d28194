use Rattle.std.proofs.Common.{drop}
use Rattle.std.specs.Fmt.{WritesInCalls}
use Rattle.std.specs.List.{flat_map}
use Rattle.slice_json.specs.Json.{text_of_byte}
use Rattle.slice_json.proofs.json.write_bytes.Given as goal

-- after the remaining bytes all are written
abbrev pub invariant-loop-byte : goal.invariant-loop-byte
invariant-loop-byte g l =
    let took = g.W.Write.write_str_gives in
    (new : g.row.W.Denot) → WritesInCalls took l.out (flat_map text_of_byte (drop l.byte-index l.bytes)) new
    → WritesInCalls took l.fn.out (flat_map text_of_byte l.bytes) new
