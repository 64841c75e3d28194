use Rattle.std.proofs.Common.{◌≡◌, ◌≢◌, ℕ, List, rules, map}
use Rattle.litmus_text.specs.declared.config_line.TheConstants.{MISS_KINDS}
use Rattle.mshr_file.specs.declared.kind.MissKind.{MissKind}
use Rattle.mshr_file.specs.declared.kind.MissKind.TheVariants as miss_kinds
use Rattle.litmus_text.specs.ConfigLine.{name_of_misses}
use Rattle.litmus_text.proofs.TableLemmas.{Each, named, unnamed}
use Rattle.litmus_text.proofs.config_line.miss_kind.Goals as goal

abbrev names : List (List ℕ × MissKind)
names = map (λ entry. (entry.0.now, entry.1)) MISS_KINDS

-- the table has each kind
other_name : (name : List ℕ) → Each (λ entry. name ≢ entry.0) names → (kind : MissKind) → name ≢ name_of_misses kind
other_name name other miss_kinds.Explicit = other.0
other_name name other miss_kinds.Inverted = other.1.0

pub returns-clause-named : goal.returns-clause-named
returns-clause-named c =
    named (λ name kind. name ≡ name_of_misses kind) names c.args.name.now c.value_named.result c.value_named.ensures
    (search rules)

pub returns-clause-refused : goal.returns-clause-refused
returns-clause-refused c =
    unnamed _ names c.args.name.now c.value_named.result c.value_named.ensures (other_name c.args.name.now)
