use Rattle.std.proofs.Common.{◌∙◌, IfOk, List, map, refl, rules, subst, sym}
use Rattle.std.proofs.lemmas.List.{at_drop_all, at_drop_more}
use Rattle.clap.specs.Words.{App}
use Rattle.litmus_command_line.specs.Parameters.{rule_of_parameter}
use Rattle.litmus_command_line.specs.Subcommands.{Reads, with_rules}
use Rattle.litmus_command_line.specs.declared.subcommands.parameter.Parameter.{Parameter}
use Rattle.litmus_command_line.proofs.subcommands.subcommand.Goals as goal

pub loop-parameter-init : goal.loop-parameter-init
loop-parameter-init c = record { app = _; reads = search rules; left = refl }

pub loop-parameter-preserved : goal.loop-parameter-preserved
loop-parameter-preserved c =
    let so_far = c.loop-parameter.invariant in
    let read : List Parameter → App = λ rest. with_rules so_far.app (map rule_of_parameter rest) in
    record {
      app = _;
      reads = c.add_to-command.ensures so_far.app so_far.reads;
      left = sym (at_drop_more read c.args.parameters.now c.loop-parameter.parameter-index _ c.loop-parameter-test.true)
          ∙ so_far.left;
    }

pub returns : goal.returns
returns c =
    let so_far = c.loop-parameter.invariant in
    let read : List Parameter → App = λ rest. with_rules so_far.app (map rule_of_parameter rest) in
    let whole = sym (at_drop_all read c.args.parameters.now c.loop-parameter.parameter-index c.loop-parameter-test.false)
    ∙ so_far.left in
    subst (λ (app : App). IfOk c.loop-parameter.command (Reads app)) whole so_far.reads
