use Rattle.std.proofs.Common.{◌≡◌, refl, rules, ◌∙◌}
use Rattle.std.proofs.KnownBytes.{Appends-of_writes}
use Rattle.litmus_script.proofs.PumpLemmas.{pumps_shown}
use Rattle.litmus_script.proofs.WriteLemmas.{on_written}
use Rattle.litmus_script.specs.Pump.{Silently}
use Rattle.litmus_script.proofs.machine.Machine.run_pump.Goals as goal

pub returns-clause-printed : goal.returns-clause-printed
returns-clause-printed g c =
    let contents = g.W.Write.contents in
    let config = c.args.self.now.config in
    on_written c.write_pumped.result c.written.result c.written.ensures.fine
    (λ wrote.
    let (name, bytes) = Appends-of_writes (λ s. s.out.ghost_name) (λ s. contents s.out.now) _ _ _ wrote in
    record {
      printed = record {
        pumped = _;
        middle = contents c.pump_slices.new.out;
        pumps = pumps_shown (λ m. m.slices.items) (λ m. m.config ≡ config) _ Silently
            (λ old new slice answer before after same made. (made.0 ∙ same, made.1)) _ _ _ _ _ _ _ refl
            c.in_ok-pumped.ensures.pumped;
        said = search rules;
      };
    })
    c.write_pumped.ensures
