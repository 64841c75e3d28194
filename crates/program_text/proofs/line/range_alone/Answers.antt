use Rattle.std.proofs.Common.{[]}
use Rattle.std.proofs.lemmas.Result.{IfErr-weaker}
use Rattle.program_text.proofs.LineLemmas.{first_refused}
use Rattle.program_text.proofs.line.range_alone.Goals as goal

pub returns-in-len1-clause-refused : goal.returns-in-len1-clause-refused
returns-in-len1-clause-refused c =
    IfErr-weaker c.parse.result _ _
    (λ fault none first last. first_refused (λ w. w.now) c.args.words.now _ first last [] (none first last))
    c.parse.ensures.refused
