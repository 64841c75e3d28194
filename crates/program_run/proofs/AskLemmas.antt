-- What becomes of a program's next access.
use Rattle.std.proofs.Common.{◌≡◌, ℕ, Some}
use Rattle.address_map.specs.declared.address.CoreId.{CoreId}
use Rattle.litmus_script.specs.Issued.{IsIssued}
use Rattle.litmus_script.specs.declared.answers.Issued.{Issued}
use Rattle.litmus_text.specs.declared.command.Command.TheVariants as commands
use Rattle.address_map.specs.declared.request.Request.{Request}
use Rattle.slice_core_spec.specs.declared.decision.Decision.{Decision}
use Rattle.program_run.specs.Calls.{with_call}
use Rattle.program_run.specs.History.{History, HasSeen}
use Rattle.program_run.specs.Run.{Accesses, AfterAnswer, Leads, RunnerView, decision_on}
use Rattle.program_run.specs.Run.{run_of, slice_of}

-- an access that was asked for
pub accesses : (old new : RunnerView) (number : ℕ) (core : CoreId) (request : Request) (decision : Decision)
    (issued : Issued)
    → new.config ≡ old.config → decision_on old.config old.slices core request ≡ Some decision
    → IsIssued (slice_of old.config request) core request issued old.slices new.slices
    → new.calls ≡ with_call (commands.Issue core request) old.calls
    → ((before : History) → HasSeen old.config before old.observer
    → (after : History) × HasSeen old.config after new.observer
    × AfterAnswer old.config number core request decision issued (run_of old before) (run_of new after))
    → Leads (Accesses old.config number core request) old new
accesses old new number core request decision issued same judged asked called comes = record {
  config = same;
  goes = λ before seen.
      let gone = comes before seen in (
        gone.0,
        gone.1,
        record {
          decision = decision;
          judged = judged;
          issued = issued;
          asked = asked;
          called = called;
          after = gone.2;
        },
      );
}
