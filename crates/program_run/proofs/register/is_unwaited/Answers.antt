use Rattle.std.proofs.Common.{◌∙◌, ap}
use Rattle.std.specs.Prelude.{not}
use Rattle.address_map.specs.Locator.{local_at}
use Rattle.program_run.proofs.RegisterLemmas.{unwaited}
use Rattle.program_run.proofs.register.is_unwaited.Goals as goal

pub returns : goal.returns
returns c =
    let v = c.args.state.now.view in
    ap not c.waits_in.ensures
    ∙ unwaited v c.args.core (local_at v.lines c.args.line.0) c.copy.result c.requires c.log.ensures.holds.registers
    c.copy.ensures
