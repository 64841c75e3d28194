use Rattle.std.proofs.Common.{subst}
use Rattle.std.proofs.Output.{writes_in_calls_single}
use Rattle.std.proofs.lemmas.Result.{on_ok_weaker}
use Rattle.std.proofs.lemmas.Str.Ascii.{encode_ascii}
use Rattle.std.specs.Fmt.{WritesInCalls}
use Rattle.slice_json.proofs.json.write_ascii.Goals as goal

pub returns : goal.returns
returns g c =
    let took = g.W.Write.write_str_gives in
    on_ok_weaker c.write_char.result
    (λ wrote. subst (λ text. WritesInCalls took c.args.out.now text c.write_char.new.self)
    (encode_ascii c.args.byte c.requires)
    (writes_in_calls_single took _ _ _ wrote))
    c.write_char.ensures.writes
