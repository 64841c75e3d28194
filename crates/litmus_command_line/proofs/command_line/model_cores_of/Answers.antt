use Rattle.std.proofs.Common.{Some, codes}
use Rattle.clap.specs.Words.{found_of}
use Rattle.litmus_command_line.proofs.AskedLemmas.{first_given}
use Rattle.litmus_command_line.proofs.command_line.model_cores_of.Goals as goal

pub returns-in-text : goal.returns-in-text
returns-in-text c =
    let found = found_of c.args.given.now in
    let read = first_given found (codes "cores") (Some c.in_ok-get_str.field-0) c.in_ok-get_str.ensures in
    rw c.in-text.is at read

pub returns-in-text-2 : goal.returns-in-text-2
returns-in-text-2 c =
    let found = found_of c.args.given.now in
    let read = first_given found (codes "cores") (Some c.in_ok-get_str.field-0) c.in_ok-get_str.ensures in
    rw c.in-text-2.is at read

pub returns-in-text-3 : goal.returns-in-text-3
returns-in-text-3 c =
    let found = found_of c.args.given.now in
    let read = first_given found (codes "cores") (Some c.in_ok-get_str.field-0) c.in_ok-get_str.ensures in
    rw c.in-text-3.is at read
