-- Which lines and copies are shown.
use Rattle.std.proofs.Common.{◌≡◌, ◌∙◌, ◌&&◌, not, is_some, false, Bool, ℕ, ap, sym, refl, List, [], ◌∷◌, map, length}
use Rattle.std.proofs.Common.{Option, Some, None, slice_get}
use Rattle.std.specs.List.{list_all}
use Rattle.std.proofs.lemmas.List.{length-map}
use Rattle.address_map.specs.declared.address.LineAddr.{LineAddr}
use Rattle.address_map.specs.declared.address.Local.{Local}
use Rattle.address_map.specs.Locator.{local_at}
use Rattle.cache_table.specs.declared.state.CopyState.{CopyState}
use Rattle.directory_table.specs.declared.state.DirState.{DirState}
use Rattle.litmus_text.specs.JsonList.{with_commas}
use Rattle.script_json.specs.Held.{copies_of, has_message, is_moving, list_of_copies}
use Rattle.slice_core.specs.Facts.{AreWaitingAt, ShowsLine}
use Rattle.slice_core_cache.specs.Copy.{is_gone}
use Rattle.slice_core_cache.specs.CoreCache.{state_of}
use Rattle.slice_core_spec.specs.View.{View, entry_at}
use Rattle.slice_core_exec.specs.declared.line_view.LineView.{LineView}
use Rattle.slice_queues.specs.declared.channel.Channel.{Channel}
use Rattle.slice_text.specs.Shown.{is_idle}

-- a message of a line waits where a channel of it is among those in which one does
pub message_found : (v : View) (local : Option Local) (waiting : List Channel) (b : Bool) → AreWaitingAt v local waiting
    → b ≡ is_some (slice_get waiting 0) → b ≡ has_message v local
message_found v None waiting b waits is = absurd waits
message_found v (Some local) waiting b waits is =
    is ∙ ap (λ (channels : List Channel). is_some (slice_get channels 0)) waits.0

-- none of a line of another slice
pub no_message : (v : View) (local : Option Local) → local ≡ None → false ≡ has_message v local
no_message v None none = refl
no_message v (Some local) none = absurd (cc)

-- what is shown of a line says whether it is at rest
pub moving_shown : (v : View) (local : Option Local) (view : LineView) (b : Bool) → ShowsLine v local (Some view)
    → b ≡ (is_idle view.dir && list_all is_gone view.copies.items) → not b ≡ is_moving v local
moving_shown v None view b shows is = absurd (cc)
moving_shown v (Some local) view b (given, same, dir, owner, sharers, home, copies) is =
    let shown : given ≡ view = cc in
    let of_dir : view.dir ≡ (entry_at v local).state = ap (λ (x : LineView). x.dir) (sym shown) ∙ dir in
    let of_copies : view.copies.items ≡ map (λ cache. state_of cache local) v.caches =
    ap (λ (x : LineView). x.copies.items) (sym shown) ∙ copies in
    ap not (is
    ∙ ap (λ (d : DirState). is_idle d && list_all is_gone view.copies.items) of_dir
    ∙ ap (λ (xs : List CopyState). is_idle (entry_at v local).state && list_all is_gone xs) of_copies)

-- a line of another slice isn't moving
pub moving_none : (v : View) (local : Option Local) (shown : Option LineView) → ShowsLine v local shown → shown ≡ None
    → false ≡ is_moving v local
moving_none v None shown shows none = refl
moving_none v (Some local) shown (given, same, dir, owner, sharers, home, copies) none = absurd (cc)

-- a copy of each core is shown
pub count_shown : (v : View) (local : Option Local) (view : LineView) → ShowsLine v local (Some view)
    → length view.copies.items ≡ length v.caches
count_shown v None view shows = absurd (cc)
count_shown v (Some local) view (given, same, dir, owner, sharers, home, copies) =
    let shown : given ≡ view = cc in
    ap (λ (x : LineView). length x.copies.items) (sym shown) ∙ ap length copies
    ∙ length-map v.caches (λ cache. state_of cache local)

-- no core has a copy of a line of another slice
no_copies : (v : View) (line : LineAddr) (cores : List ℕ) → local_at v.lines line.0 ≡ None → copies_of v line cores ≡ []
no_copies v line [] none = refl
no_copies v line (core ∷ cores) none = rw none (no_copies v line cores none)

pub none_listed : (v : View) (line : LineAddr) (local : Option Local) (shown : Option LineView)
    → local_at v.lines line.0 ≡ local → ShowsLine v local shown → shown ≡ None → [] ≡ list_of_copies v line
none_listed v line None shown at shows none = sym (ap with_commas (no_copies v line _ at))
none_listed v line (Some local) shown at (given, same, dir, owner, sharers, home, copies) none = absurd (cc)
