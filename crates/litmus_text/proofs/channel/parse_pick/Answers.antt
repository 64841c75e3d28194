use Rattle.litmus_text.proofs.ChannelLemmas.{nothing_fault, unnamed_fault}
use Rattle.litmus_text.proofs.FormLemmas.{no_words}
use Rattle.litmus_text.proofs.channel.parse_pick.Goals as goal

pub returns-in_default : goal.returns-in_default
returns-in_default c =
    rw (no_words (λ w. w.now) c.args.words.now c.in_default.ensures.cases)
    (record { written = tt; in_range = tt; fault = nothing_fault _ })

pub returns-in-None : goal.returns-in-None
returns-in-None c =
    rw c.in-Some.ensures.cases.0
    (record { written = tt; in_range = tt; fault = unnamed_fault _ _ _ c.in-None.ensures.none })
