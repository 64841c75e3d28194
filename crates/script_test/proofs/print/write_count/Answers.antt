use Rattle.std.proofs.lemmas.Result.{on_ok_weaker}
use Rattle.std.proofs.KnownBytes.{Appends-trans}
use Rattle.script_test.proofs.print.write_count.Goals as goal

pub returns : goal.returns
returns g c =
    let contents = g.W.Write.contents in
    let number = rw (c.as_bytes.ensures.value, c.format.ensures.text) at c.in_ok-write_text-2.ensures.ok in
    on_ok_weaker c.write_text-3.result
    (λ last. Appends-trans _ _ _ _ _ (Appends-trans _ _ _ _ _ c.in_ok-write_text.ensures.ok number) last)
    c.write_text-3.ensures.ok
