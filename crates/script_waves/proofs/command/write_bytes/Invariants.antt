use Rattle.std.proofs.Common.{◌∷◌, [], drop}
use Rattle.std.specs.Fmt.{WritesInCalls}
use Rattle.std.specs.List.{flat_map}
use Rattle.script_waves.specs.Values.{byte_shown}
use Rattle.script_waves.proofs.command.write_bytes.Given as goal

-- once the bytes that are left are written, all are
abbrev pub invariant-loop-byte : goal.invariant-loop-byte
invariant-loop-byte g l =
    let took = g.W.Write.write_str_gives in
    (new : g.row.W.Denot) → WritesInCalls took l.out
    (flat_map (λ byte. byte_shown byte ∷ []) (drop l.byte-index l.line)) new
    → WritesInCalls took l.fn.out (flat_map (λ byte. byte_shown byte ∷ []) l.line) new
