use Rattle.std.proofs.Common.{map, take}
use Rattle.program_sweep.specs.Read.{AreSettings}
use Rattle.program_sweep.proofs.sweep.read_settings.Given as goal

-- those so far are what their texts say
abbrev pub invariant-loop-text : goal.invariant-loop-text
invariant-loop-text l = AreSettings (map (λ text. text.now) (take l.text-index l.texts)) l.settings.items
