use Rattle.std.proofs.Common.{◌≡◌, None, replicate, rules, subst, sym}
use Rattle.program_run.specs.Front.{AreIdle}
use Rattle.program_run.specs.Kept.{AreDecided}
use Rattle.program_run.proofs.KeptLemmas.{begins, idle-begins}
use Rattle.program_run.proofs.kept.Kept.new.Goals as goal

pub returns : goal.returns
returns c = λ config slices.
    let none : c.in_ok-vec.field-0.items ≡ replicate c.args.cores None = search rules in
    let zeros : c.in_ok-vec-2.field-0.items ≡ replicate c.args.slices 0 = search rules in record {
      decided = subst (AreDecided config slices) (sym none) (begins config slices c.args.cores);
      idle = subst (λ counts. AreIdle counts slices) (sym zeros) (idle-begins slices c.args.slices);
    }
