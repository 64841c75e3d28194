use Rattle.std.proofs.lemmas.Result.{on_ok_weaker}
use Rattle.script_waves.proofs.WavesLemmas.{names_from, no_names}
use Rattle.script_waves.proofs.channel.write_names.Goals as goal

pub returns-in_ok-write_name-in-Some : goal.returns-in_ok-write_name-in-Some
returns-in_ok-write_name-in-Some g c =
    on_ok_weaker c.write_further.result
    (λ rest. names_from g.W.Write.write_str_gives c.args.waiting _ _ c.in-Some.ensures.first
    c.in-Some.ensures.rest _ _ _
    c.in_ok-write_name-in-Some.ensures rest)
    c.write_further.ensures

pub returns-in-None : goal.returns-in-None
returns-in-None g c =
    no_names g.W.Write.write_str_gives c.args.waiting c.write_str.result _ _
    c.in-None.ensures.first c.write_str.ensures.ok
