use Rattle.std.proofs.Common.{◌≡◌, true}
use Rattle.trace_check.proofs.RefusalLemmas.{may_begin}
use Rattle.trace_check.proofs.check.Check.line.Goals as goal

pub returns-in-Ok-Init-2-clause-refused : goal.returns-in-Ok-Init-2-clause-refused
returns-in-Ok-Init-2-clause-refused c = λ line is may.
    let begins = may_begin c.args.self.now _ c.in-Ok-Init.word c.in-Ok-Init.value line
    (rw c.in-Ok-Init.field-0-is at c.in-Ok-Init.ensures.written.written) is.written may in
    let told : c.may_begin.result ≡ true = c.may_begin.ensures.1 begins in
    cc
