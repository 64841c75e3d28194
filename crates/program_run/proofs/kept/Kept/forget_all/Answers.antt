use Rattle.program_run.proofs.kept.Kept.forget_all.Goals as goal

pub returns : goal.returns
returns c = λ config slices. record {
  decided = rw c.forget_slices.ensures.decided (c.forget_cores.ensures.decided config slices);
  idle = c.forget_slices.ensures.idle slices;
}
