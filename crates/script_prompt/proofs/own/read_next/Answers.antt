use Rattle.std.proofs.Common.{◌<◌, arith}
use Rattle.std.proofs.lemmas.Bool.Decides.{nat_tests}
use Rattle.litmus_text.proofs.FaultLemmas.{fault_of_form, lacks_one}
use Rattle.litmus_text.specs.Form.{one_part}
use Rattle.script_prompt.proofs.OwnLemmas.{next_fault, reads_none}
use Rattle.script_prompt.proofs.own.read_next.Goals as goal

pub returns-in_err-slice : goal.returns-in_err-slice
returns-in_err-slice c =
    reads_none _ c.from_residual.result c.from_residual.ensures.1
    (next_fault c.args.config.now (λ w. w.now) c.args.rest.now (λ none. grind (arith, nat_tests)) _
    (fault_of_form one_part (λ n. n < c.args.config.now.slices) _ _ c.in_err-slice.ensures.fault))

pub returns-in_err-slice_in : goal.returns-in_err-slice_in
returns-in_err-slice_in c =
    reads_none _ c.from_residual-in_err-slice_in.result c.from_residual-in_err-slice_in.ensures.1
    (next_fault c.args.config.now (λ w. w.now) c.args.rest.now (λ none. grind (arith, nat_tests)) _
    (lacks_one _ _ (λ n. n < c.args.config.now.slices) c.in_ok-slice.ensures.written c.in_ok-slice.ensures.only
    c.in_err-slice_in.ensures.ok _ c.in_err-slice_in.ensures.err))
