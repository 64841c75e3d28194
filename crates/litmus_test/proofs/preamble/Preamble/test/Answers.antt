use Rattle.std.proofs.Common.{refl, subst, sym}
use Rattle.litmus_test.specs.Sound.{IsChecked}
use Rattle.litmus_test.specs.Text.{said_by}
use Rattle.litmus_test.specs.Reading.{said_first}
use Rattle.litmus_test.proofs.PreambleLemmas.{checked_err, checked_ok, sound_first}
use Rattle.litmus_test.proofs.preamble.Preamble.test.Goals as goal

pub invariant_of-result : goal.invariant_of-result
invariant_of-result c =
    let ok = checked_ok c.args.self.settings.config c.in-Ok.config c.in-Ok.ensures.value in
    record {
      sound = rw (c.new.ensures.items, c.new-2.ensures.items, c.new-3.ensures.items)
          (sound_first c.in-Ok.config c.args.self.rounds c.args.self.movers (subst IsChecked (sym ok.0) ok.1)
          c.args.self.some_round c.args.self.few_rounds c.args.self.few_movers);
    }

pub returns-clause-said : goal.returns-clause-said
unfolding said_by said_first
returns-clause-said c =
    let ok = checked_ok c.args.self.settings.config c.in-Ok.config c.in-Ok.ensures.value in
    rw (c.new.ensures.items, c.new-2.ensures.items, c.new-3.ensures.items, ok.0) refl

pub returns-clause-checked : goal.returns-clause-checked
returns-clause-checked c =
    let ok = checked_ok c.args.self.settings.config c.in-Ok.config c.in-Ok.ensures.value in ok.1

pub returns-in-Err-clause-fault : goal.returns-in-Err-clause-fault
returns-in-Err-clause-fault c = checked_err c.args.self.settings.config _ c.in-Err.ensures.value
