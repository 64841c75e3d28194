use Rattle.std.proofs.Common.{Some, codes}
use Rattle.clap.specs.Words.{found_of}
use Rattle.litmus_command_line.proofs.AskedLemmas.{first_given}
use Rattle.litmus_command_line.proofs.command_line.model_form_of.Goals as goal

pub returns-in-murphi : goal.returns-in-murphi
returns-in-murphi c =
    let found = found_of c.args.given.now in
    let read = first_given found (codes "FORM") (Some c.in_ok-get_str.field-0) c.in_ok-get_str.ensures in
    rw c.in-murphi.is at read

pub returns-in-smt : goal.returns-in-smt
returns-in-smt c =
    let found = found_of c.args.given.now in
    let read = first_given found (codes "FORM") (Some c.in_ok-get_str.field-0) c.in_ok-get_str.ensures in
    rw c.in-smt.is at read
