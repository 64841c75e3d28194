use Rattle.std.proofs.Common.{◌≡◌, ℕ, List, Option, length}
use Rattle.litmus_text.specs.declared.fault.TextFault.{TextFault}
use Rattle.litmus_script.specs.Play.{PlaysAll, PlaysUpTo}
use Rattle.litmus_script.proofs.script.play_all.Given as goal

-- after the remaining statements all are played
abbrev pub invariant-lines : goal.invariant-lines
invariant-lines g l =
    let plays = g.P.Player.plays in
    let machine = g.P.Player.config_of l.fn.player in
    let before = g.W.Write.contents l.fn.out in
    let middle = g.W.Write.contents l.out in
    record {
      config : g.P.Player.config_of l.player ≡ machine;
      all : (end : g.row.P.Denot) (after : Option (List ℕ))
          → PlaysAll plays machine l.statements l.player end middle after
          → PlaysAll plays machine l.fn.statements l.fn.player end before after;
      up_to : (after : Option (List ℕ)) (fault : TextFault)
          → PlaysUpTo plays machine l.statements l.player middle after fault
          → PlaysUpTo plays machine l.fn.statements l.fn.player before after fault;
    }

abbrev pub decreases-lines : goal.decreases-lines
decreases-lines g l = length l.statements
