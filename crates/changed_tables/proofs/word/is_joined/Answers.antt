use Rattle.std.proofs.Common.{None, Some}
use Rattle.std.proofs.lemmas.Bool.Decides.{Decides-eqb}
use Rattle.std.proofs.lemmas.Slice.Eq.{slice_eq-Decides, strip_prefix_is}
use Rattle.changed_tables.proofs.Joined.{with_rest, without}
use Rattle.changed_tables.proofs.word.is_joined.Goals as goal

pub returns-in-Some : goal.returns-in-Some
returns-in-Some c =
    let is = strip_prefix_is Decides-eqb c.args.word.now c.as_bytes.result.now (Some c.in-Some.rest) c.in-Some.ensures.cases in
    let same = slice_eq-Decides Decides-eqb c.in-Some.rest.now c.as_bytes-in-Some.result.now c.eq.result c.eq.ensures in
    with_rest c.args.word.now c.args.first.now c.args.second.now c.in-Some.rest.now c.eq.result
    (rw c.as_bytes.ensures.value at is) (rw c.as_bytes-in-Some.ensures.value at same)

pub returns-in-None : goal.returns-in-None
returns-in-None c =
    let none = strip_prefix_is Decides-eqb c.args.word.now c.as_bytes.result.now None c.in-None.ensures.cases in
    without c.args.word.now c.args.first.now c.args.second.now (rw c.as_bytes.ensures.value at none)
