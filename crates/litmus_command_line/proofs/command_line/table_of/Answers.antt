use Rattle.std.proofs.Common.{Some, codes}
use Rattle.clap.specs.Words.{found_of}
use Rattle.litmus_command_line.proofs.AskedLemmas.{first_given}
use Rattle.litmus_command_line.proofs.command_line.table_of.Goals as goal

pub returns-in-cache : goal.returns-in-cache
returns-in-cache c =
    let found = found_of c.args.given.now in
    let read = first_given found (codes "TABLE") (Some c.in_ok-get_str.field-0) c.in_ok-get_str.ensures in
    rw c.in-cache.is at read

pub returns-in-directory : goal.returns-in-directory
returns-in-directory c =
    let found = found_of c.args.given.now in
    let read = first_given found (codes "TABLE") (Some c.in_ok-get_str.field-0) c.in_ok-get_str.ensures in
    rw c.in-directory.is at read
