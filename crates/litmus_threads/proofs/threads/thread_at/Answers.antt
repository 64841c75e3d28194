use Rattle.std.proofs.Common.{rules, tests, ◌==◌}
use Rattle.std.proofs.lemmas.Iterator.{YieldsList-from_slice}
use Rattle.std.proofs.lemmas.Iterator.Search.{find_from_yields_List}
use Rattle.litmus_threads.proofs.threads.thread_at.Goals as goal

pub returns : goal.returns
returns c =
    find_from_yields_List (λ thread. thread.core.0 == c.args.core.0) _ _ c.find.result c.find.ensures.ran
    (YieldsList-from_slice _ c.iter.ensures.rest)
    (λ x b q k. search (rules, tests))
