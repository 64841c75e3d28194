use Rattle.script_prompt.proofs.OwnLemmas.{help_fault, quit_fault, reads_none, undo_fault}
use Rattle.script_prompt.proofs.own.read_own.Goals as goal

pub returns-in_err-no_numbers-in-Undo : goal.returns-in_err-no_numbers-in-Undo
returns-in_err-no_numbers-in-Undo c =
    rw c.in-Undo.is
    (reads_none _ c.from_residual.result c.from_residual.ensures.1
    (undo_fault c.args.config.now _ _ c.in_err-no_numbers-in-Undo.ensures.fault))

pub returns-in_err-no_numbers-in-Help : goal.returns-in_err-no_numbers-in-Help
returns-in_err-no_numbers-in-Help c =
    rw c.in-Help.is
    (reads_none _ c.from_residual-in_err-no_numbers-in-Help.result c.from_residual-in_err-no_numbers-in-Help.ensures.1
    (help_fault c.args.config.now _ _ c.in_err-no_numbers-in-Help.ensures.fault))

pub returns-in_err-no_numbers-in-Quit : goal.returns-in_err-no_numbers-in-Quit
returns-in_err-no_numbers-in-Quit c =
    rw c.in-Quit.is
    (reads_none _ c.from_residual-in_err-no_numbers-in-Quit.result c.from_residual-in_err-no_numbers-in-Quit.ensures.1
    (quit_fault c.args.config.now _ _ c.in_err-no_numbers-in-Quit.ensures.fault))
