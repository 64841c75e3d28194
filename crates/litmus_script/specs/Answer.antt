-- What the answers to commands say. Each ends its line.
use Rattle.std.specs.Prelude.{ℕ, List, ◌++◌, codes, decimal, Option, Some, None}
use Rattle.std.specs.Fmt.{WritesInCalls}
use Rattle.litmus_script.specs.declared.answers.Issued.{Issued}
use Rattle.litmus_script.specs.declared.answers.Issued.TheVariants as issued_kinds
use Rattle.litmus_script.specs.declared.answers.Pumped.{Pumped}
use Rattle.litmus_script.specs.declared.answers.Pumped.TheVariants as pumps
use Rattle.slice_answer.specs.Text.{text_of_refused, text_of_stall}
use Rattle.slice_log.specs.declared.entry.Numbered.{Numbered}

-- what became of an access
abbrev pub text_of_issued : Issued → List ℕ
text_of_issued (issued_kinds.Done number reply) = codes "done " ++ decimal number ++ codes " reply " ++ decimal reply
text_of_issued (issued_kinds.Pending seq) = codes "pending " ++ decimal seq
text_of_issued (issued_kinds.Stall stall) = codes "stall " ++ text_of_stall stall
text_of_issued (issued_kinds.Refused refused) = codes "refused " ++ text_of_refused refused

-- a reply that is delivered to the core, or that there is none
abbrev pub text_of_handed : Option Numbered → List ℕ
text_of_handed (Some given) =
    codes "receipt " ++ decimal given.number ++ codes " tag " ++ decimal given.entry.tag ++ codes " reply "
    ++ decimal given.entry.reply
text_of_handed None = codes "none"

-- the value of a word, or that its slice isn't quiet
abbrev pub text_of_word : Option ℕ → List ℕ
text_of_word (Some value) = decimal value
text_of_word None = codes "not quiet"

-- what remains after a pump
abbrev pub text_of_pumped : Pumped → List ℕ
text_of_pumped pumps.Empty = codes "empty"
text_of_pumped pumps.Left = codes "left"

-- the writer took a line of this text, in some calls, and went from old to new
abbrev pub WritesLine : {W : Type 0} → (W → List ℕ → W → Type 0) → W → List ℕ → W → Type 0
WritesLine took old text new = WritesInCalls took old (text ++ codes "\n") new
