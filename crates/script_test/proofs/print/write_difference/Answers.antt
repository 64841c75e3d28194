use Rattle.std.proofs.lemmas.Result.{on_ok_weaker}
use Rattle.std.proofs.KnownBytes.{Appends-trans}
use Rattle.script_test.proofs.print.write_difference.Goals as goal

pub returns : goal.returns
returns g c =
    let number = rw (c.as_bytes.ensures.value, c.format.ensures.text) at c.in_ok-write_text-2.ensures.ok in
    let to_number = Appends-trans _ _ _ _ _ c.in_ok-write_text.ensures.ok number in
    let to_wanted =
    Appends-trans _ _ _ _ _ (Appends-trans _ _ _ _ _ to_number c.in_ok-write_text-3.ensures.ok)
    c.in_ok-write_line.ensures in
    let to_got =
    Appends-trans _ _ _ _ _ (Appends-trans _ _ _ _ _ to_wanted c.in_ok-write_text-4.ensures.ok)
    c.in_ok-write_line-2.ensures in
    let to_word = Appends-trans _ _ _ _ _ to_got c.in_ok-write_word.ensures in
    on_ok_weaker c.write_text-5.result (λ last. Appends-trans _ _ _ _ _ to_word last) c.write_text-5.ensures.ok
