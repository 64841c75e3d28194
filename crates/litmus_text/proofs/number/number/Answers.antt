use Rattle.std.proofs.Common.{◌≡◌, ◌+◌, ◌<◌, length, arith, subst, sym}
use Rattle.std.proofs.lemmas.Bool.Decides.{nat_tests}
use Rattle.litmus_text.proofs.NumberLemmas.{ReadUpTo, read_digit, next_fits, read_whole}
use Rattle.litmus_text.proofs.number.number.Goals as goal

pub returns-in-None-clause-ok : goal.returns-in-None-clause-ok
returns-in-None-clause-ok c =
    λ number. c.in-None.ensures (next_fits c.args.word.now c.loop-byte.byte-index c.loop-byte.number
    c.loop-byte-test.true c.loop-byte.invariant number)

pub loop-byte-preserved : goal.loop-byte-preserved
loop-byte-preserved c =
    let next = c.in-Some.ensures in
    let read = read_digit c.args.word.now c.loop-byte.byte-index c.loop-byte.number c.loop-byte-test.true
    c.loop-byte.invariant next.0.0 next.0.1 in
    subst (λ n. ReadUpTo c.args.word.now (c.loop-byte.byte-index + 1) n) (sym next.1) read

pub returns-clause-ok : goal.returns-clause-ok
returns-clause-ok c =
    let some : 0 < length c.args.word.now = grind (arith, nat_tests) in
    let end : c.loop-byte.byte-index ≡ length c.args.word.now = omega arith in
    let read = rw end at c.loop-byte.invariant in
    read_whole c.args.word.now c.loop-byte.number some (omega arith) read
