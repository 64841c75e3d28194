-- The text of a line, in the pieces in which it is written.
use Rattle.std.proofs.Common.{◌≡◌, List, ◌++◌, Option, Some, None, codes, refl, ap, subst}
use Rattle.address_map.specs.declared.address.LineAddr.{LineAddr}
use Rattle.address_map.specs.declared.address.Local.{Local}
use Rattle.slice_json.specs.Line.{text_of_mail, text_of_place, text_with}
use Rattle.slice_json.specs.Message.{list_of_messages}
use Rattle.slice_core.specs.Facts.{AreWaitingAt, ShowsLine}
use Rattle.slice_core_spec.specs.View.{View}
use Rattle.slice_core_exec.specs.declared.line_view.LineView.{LineView}
use Rattle.slice_queues.specs.declared.channel.Channel.{Channel}

-- a line of another slice is null
pub no_line : (v : View) (line : LineAddr) (local : Option Local) (shown : Option LineView) → ShowsLine v local shown
    → shown ≡ None → codes "null" ≡ text_of_place v line local
no_line v line None shown shows none = refl
no_line v line (Some local) shown (given, is, dir, owner, sharers, home, copies) none = absurd (cc)

-- any other is what is shown of it, with its messages
pub shown_line : (v : View) (line : LineAddr) (local : Option Local) (view : LineView) → ShowsLine v local (Some view)
    → text_with line (record {
      home = record { words = view.home };
      sharers = view.sharers;
      owner = view.owner;
      state = view.dir;
    }) (text_of_mail v line local)
    ≡ text_of_place v line local
shown_line v line None view shows = absurd (cc)
shown_line v line (Some local) view (given, is, dir, owner, sharers, home, copies) =
    let same : given ≡ view = cc in
    subst (λ (x : LineView). text_with line (record {
      home = record { words = x.home };
      sharers = x.sharers;
      owner = x.owner;
      state = x.dir;
    }) (text_of_mail v line (Some local))
    ≡ text_of_place v line (Some local)) same
    (rw (dir, owner, sharers, home) refl)

-- no message of it waits if there is no place
pub no_mail : (v : View) (line : LineAddr) (local : Option Local) → local ≡ None → codes "}" ≡ text_of_mail v line local
no_mail v line None none = refl
no_mail v line (Some local) none = absurd (cc)

pub mail_text : (v : View) (line : LineAddr) (local : Option Local) (waiting : List Channel)
    → AreWaitingAt v local waiting
    → codes ",\"messages\":" ++ (list_of_messages v line waiting ++ codes "}") ≡ text_of_mail v line local
mail_text v line None waiting waits = absurd waits
mail_text v line (Some local) waiting waits =
    ap (λ (all : List Channel). codes ",\"messages\":" ++ (list_of_messages v line all ++ codes "}")) waits.0
