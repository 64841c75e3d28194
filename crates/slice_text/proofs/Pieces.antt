-- The texts of copies, lines and slices, in the pieces in which they are written.
use Rattle.std.proofs.Common.{◌≡◌, ◌+◌, ◌&&◌, Bool, false, List, [], ◌++◌, map, Option, Some, None, refl}
use Rattle.std.proofs.Common.{sym, ap, ◌∙◌, subst}
use Rattle.std.specs.List.{list_all}
use Rattle.address_map.specs.declared.address.CoreId.{CoreId}
use Rattle.address_map.specs.declared.address.LineAddr.{LineAddr}
use Rattle.address_map.specs.declared.address.Local.{Local}
use Rattle.cache_table.specs.declared.state.CopyState.{CopyState}
use Rattle.directory_table.specs.declared.state.DirEntry.{DirEntry}
use Rattle.slice_core.specs.Facts.{ShowsLine}
use Rattle.slice_core_cache.specs.Copy.{is_gone}
use Rattle.slice_core_cache.specs.CoreCache.{state_of}
use Rattle.slice_core_cache.specs.declared.copy.CacheCopy.{CacheCopy}
use Rattle.slice_core_spec.specs.View.{View, entry_at}
use Rattle.slice_core_exec.specs.declared.line_view.LineView.{LineView}
use Rattle.slice_text.specs.Line.{entry_in, text_of_line, text_of_state}
use Rattle.slice_text.specs.Shown.{is_idle, rests, text_of_copy, text_of_cores_of, text_of_held, text_of_place}
use Rattle.slice_text.specs.Shown.{text_of_targets}
use Rattle.target_list.specs.declared.target.Target.{Target}

-- a copy that doesn't exist, or is gone, has no text
pub no_copy : (core : CoreId) (line : LineAddr) (held : Option CacheCopy) (targets : List Target) → held ≡ None
    → [] ≡ text_of_copy core line held targets
no_copy core line held targets none = rw none refl

-- the text of any other is that of the copy, and then of its targets
pub whole_copy : (core : CoreId) (line : LineAddr) (held : Option CacheCopy) (copy : CacheCopy) (targets : List Target)
    → held ≡ Some copy → is_gone copy.state ≡ false
    → text_of_held core line copy ++ text_of_targets core line targets ≡ text_of_copy core line held targets
whole_copy core line held copy targets is not = rw is (rw not refl)

-- what is shown of a line is the slice's view of it
shown_of : (v : View) (local : Local) (view : LineView) → ShowsLine v (Some local) (Some view)
    → (entry_in view ≡ entry_at v local) × (view.copies.items ≡ map (λ cache. state_of cache local) v.caches)
shown_of v local view (given, is, dir, owner, sharers, home, copies) =
    let same : given ≡ view = cc in
    subst (λ (x : LineView). (entry_in x ≡ entry_at v local)
    × (x.copies.items ≡ map (λ cache. state_of cache local) v.caches)) same
    (rw (dir, owner, sharers, home) refl, copies)

rests_as : (v : View) (local : Local) (view : LineView) (b : Bool) → ShowsLine v (Some local) (Some view)
    → b ≡ (is_idle view.dir && list_all is_gone view.copies.items) → rests v local ≡ b
rests_as v local view b shows is =
    let shown = shown_of v local view shows in
    sym (is
    ∙ ap (λ (e : DirEntry). is_idle e.state && list_all is_gone view.copies.items) shown.0
    ∙ ap (λ (copies : List CopyState). is_idle (entry_at v local).state && list_all is_gone copies) shown.1)

-- a line of another slice has no text, nor does one at rest
pub no_line : (v : View) (line : LineAddr) (local : Option Local) (shown : Option LineView) → ShowsLine v local shown
    → shown ≡ None → [] ≡ text_of_place v line local
no_line v line None shown shows none = refl
no_line v line (Some local) shown (given, is, dir, owner, sharers, home, copies) none = absurd (cc)

-- the text of any other is what is shown of it, and then each core's copy
pub shown_line : (v : View) (line : LineAddr) (local : Option Local) (view : LineView) (b : Bool)
    → ShowsLine v local (Some view)
    → b ≡ (is_idle view.dir && list_all is_gone view.copies.items) → b ≡ false
    → text_of_line line view ++ text_of_cores_of v line ≡ text_of_place v line local
shown_line v line None view b shows is moving = absurd (cc)
shown_line v line (Some local) view b shows is moving =
    let shown = shown_of v local view shows in
    rw (rests_as v local view b shows is ∙ moving)
    (ap (λ (e : DirEntry). text_of_state line e view.copies.items ++ text_of_cores_of v line) shown.0
    ∙ ap (λ (copies : List CopyState). text_of_state line (entry_at v local) copies ++ text_of_cores_of v line) shown.1)
