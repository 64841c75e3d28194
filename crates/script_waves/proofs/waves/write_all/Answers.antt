use Rattle.std.proofs.lemmas.Result.{on_ok_weaker}
use Rattle.script_waves.proofs.waves.write_all.Goals as goal

pub returns-clause-written : goal.returns-clause-written
returns-clause-written g c =
    let contents = g.W.Write.contents in
    on_ok_weaker c.end.result
    (λ ended. record {
      first = contents c.begin.new.out;
      header = rw (c.cores.ensures.cores, c.slices.ensures.slices, c.as_slice.ensures.value) at c.in_ok-begin.ensures.header;
      last = contents c.tell.new.out;
      told = c.in_ok-tell.ensures.told;
      ended = ended;
    })
    c.end.ensures.ended
