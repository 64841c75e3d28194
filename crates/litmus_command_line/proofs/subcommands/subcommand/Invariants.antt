use Rattle.std.proofs.Common.{◌≡◌, IfOk, drop, map}
use Rattle.clap.specs.Words.{App, new_app}
use Rattle.litmus_command_line.specs.Parameters.{rule_of_parameter}
use Rattle.litmus_command_line.specs.Subcommands.{Reads, with_rules}
use Rattle.litmus_command_line.proofs.subcommands.subcommand.Given as goal

-- what the subcommand reads by now, with the parameters that are left, is what it is to read
abbrev pub invariant-loop-parameter : goal.invariant-loop-parameter
invariant-loop-parameter l =
    let whole = l.fn.parameters in
    record {
      app : App;
      reads : IfOk l.command (Reads app);
      left : with_rules app (map rule_of_parameter (drop l.parameter-index whole))
          ≡ with_rules (new_app l.fn.name) (map rule_of_parameter whole);
    }
