use Rattle.std.proofs.Common.{◌∷◌, length}
use Rattle.litmus_script.specs.Script.{IsConfigured, said_by}
use Rattle.litmus_script.proofs.script.read_settings.Given as goal

abbrev pub invariant-lines : goal.invariant-lines
invariant-lines l = IsConfigured (said_by l.fn.first ∷ l.fn.statements) l.settings (said_by l.statement ∷ l.statements)

abbrev pub decreases-lines : goal.decreases-lines
decreases-lines l = length l.statements
