use Rattle.std.proofs.Common.{◌≡◌, ℕ, [], List, Some, ap, inr, refl, subst, ◌∙◌}
use Rattle.std.proofs.lemmas.Result.{on_ok_weaker}
use Rattle.address_map.specs.declared.config.Config.{Config}
use Rattle.litmus_script.proofs.PlayLemmas.{all_shown, up_to_shown}
use Rattle.litmus_script.specs.Play.{PlaysAll, PlaysUpTo}
use Rattle.litmus_script.specs.Script.{commands_of}
use Rattle.script_waves.specs.Waves.{IsWritten, Shown, Ticks, shown_by, shown_first, next}
use Rattle.script_waves.proofs.WavesLemmas.{played_from, stopped_from, ticks_by}
use Rattle.script_waves.proofs.waves.waves.Goals as goal

pub returns-in-Ok-clause-waves : goal.returns-in-Ok-clause-waves
returns-in-Ok-clause-waves g c =
    let config = c.args.machine.config in
    let contents = g.W.Write.contents in
    let new = c.new-player.ensures in
    let is = ap (λ machine. machine.config) new.machine in
    let fresh : shown_by c.new-player.result ≡ shown_first c.args.machine.slices.items =
    rw (new.machine, new.named, new.played, new.values) refl in
    let played = all_shown shown_by (λ p. p.machine.config ≡ config) _ (Ticks config) (ticks_by config)
    _ _ _ _ _ _ is c.in-Ok.ensures.played in
    let last = c.play.new.player in
    let end : Shown = shown_by last in
    on_ok_weaker c.write_all.result (λ written. record {
      end = end;
      ticks = c.play.new.out.items;
      played = subst (λ (text : List ℕ). PlaysAll (Ticks config) config (commands_of c.args.commands)
          (shown_first c.args.machine.slices.items) end
          (Some text) (Some c.play.new.out.items)) c.new-ticks.ensures.items
          (played_from config _ (commands_of c.args.commands) _ c.args.machine.slices.items _
          (Some c.play.new.out.items)
          is fresh end played);
      written = subst (λ (k : Config). IsWritten k.cores k.slices end.named c.play.new.out.items (next end.played)
          (contents c.args.out.now) (contents c.write_all.new.out))
          (c.play.ensures.config ∙ is)
          (subst (λ (ticks : List ℕ). IsWritten last.machine.config.cores last.machine.config.slices end.named ticks
          (next end.played)
          (contents c.args.out.now) (contents c.write_all.new.out))
          c.as_slice.ensures.value written);
    }) c.write_all.ensures.written

pub returns-clause-fault : goal.returns-clause-fault
returns-clause-fault g c =
    let config = c.args.machine.config in
    let contents = g.W.Write.contents in
    let new = c.new-player.ensures in
    let is = ap (λ machine. machine.config) new.machine in
    let fresh : shown_by c.new-player.result ≡ shown_first c.args.machine.slices.items =
    rw (new.machine, new.named, new.played, new.values) refl in
    let stopped = up_to_shown shown_by (λ p. p.machine.config ≡ config) _ (Ticks config) (ticks_by config)
    _ _ _ _ _ c.in-Err.fault is c.in-Err.ensures.fault in
    inr (record {
      ticks = Some c.play.new.out.items;
      stopped = subst (λ (text : List ℕ). PlaysUpTo (Ticks config) config (commands_of c.args.commands)
          (shown_first c.args.machine.slices.items)
          (Some text) (Some c.play.new.out.items) c.in-Err.fault) c.new-ticks.ensures.items
          (stopped_from config _ (commands_of c.args.commands) _ c.args.machine.slices.items _
          (Some c.play.new.out.items)
          is fresh c.in-Err.fault stopped);
    })
