use Rattle.std.proofs.lemmas.Result.{on_ok_weaker}
use Rattle.script_waves.proofs.WavesLemmas.{one_tick}
use Rattle.script_waves.proofs.player.WavedPlayer.play.Goals as goal

pub returns-in-Pump-clause-plays : goal.returns-in-Pump-clause-plays
returns-in-Pump-clause-plays g c =
    on_ok_weaker c.pump.result (λ ticked. rw c.in-Pump.is (c.pump.ensures.config, ticked)) c.pump.ensures.ticked

pub returns-in_default-clause-plays : goal.returns-in_default-clause-plays
returns-in_default-clause-plays g c =
    on_ok_weaker c.tick.result
    (λ tick. (
      c.tick.ensures.config,
      one_tick _ _ c.args.command _ _ _ _ c.in_default.not-Pump tick,
    ))
    c.tick.ensures.ticked
