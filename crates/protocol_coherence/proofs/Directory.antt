-- Each row of the directory's table keeps the line coherent.
use Rattle.std.proofs.Common.{◌≡◌, ℕ, ◌<◌, ◌≤◌, ◌==◌, Bool, true, false, refl, sym, subst, Option, Some, None}
use Rattle.std.proofs.Common.{if◌then◌else◌, true≢false, IsTrue}
use Rattle.std.proofs.lemmas.Bool.{cond_both, eq-eqb, eqb-false, eqb-true, ne_eqb}
use Rattle.address_map.specs.declared.address.CoreId.{CoreId}
use Rattle.address_map.specs.declared.block.Block.{Block}
use Rattle.address_map.specs.CoreSet.{without}
use Rattle.directory_table.specs.Row.{cell, row_of, shared_by}
use Rattle.directory_table.specs.declared.state.DirState.{DirState}
use Rattle.directory_table.specs.declared.state.DirState.TheVariants as dir_states
use Rattle.directory_table.specs.declared.row.DirEvent.{DirEvent}
use Rattle.directory_table.specs.declared.row.DirEvent.TheVariants as dir_events
use Rattle.directory_table.specs.declared.row.DirRow.{DirRow}
use Rattle.directory_table.specs.declared.row.DirRow.TheVariants as dir_rows
use Rattle.directory_table.specs.declared.row.DirSends.TheVariants as dir_sends
use Rattle.directory_table.specs.declared.row.DirStep.{DirStep}
use Rattle.protocol_coherence.proofs.Answer.{line_at, told}
use Rattle.protocol_coherence.proofs.DataHome.{home_idle, home_shared}
use Rattle.protocol_coherence.proofs.ForwardGetM.{by_also, forward_get_m}
use Rattle.protocol_coherence.proofs.ForwardGetS.{forward_get_s}
use Rattle.protocol_coherence.proofs.Invalidate.{write_shared}
use Rattle.protocol_coherence.proofs.OnlyCopy.{read_alone, write_idle}
use Rattle.protocol_coherence.proofs.Puts.{last_sharer_leaves, late_put, owner_leaves, sharer_leaves}
use Rattle.protocol_coherence.proofs.Settings.{by_setting}
use Rattle.protocol_coherence.proofs.ReadShared.{read_idle, read_shared}
use Rattle.protocol_coherence.specs.Coherent.{IsCoherent}
use Rattle.protocol_coherence.specs.Fit.{is_put, is_put_m, is_put_s}
use Rattle.protocol_coherence.specs.Line.{Line, Part, Request, Roles, get_m, get_s, no_request, put_m, put_s}
use Rattle.protocol_coherence.specs.LineSteps.{IsWithin, after_service, entry_of, is_asked_for}

-- Some roles make the line coherent.
abbrev pub IsKept : ℕ → Line → Type 0
IsKept cores line = (roles : Roles) × IsCoherent cores line roles

-- The line after the row, where it goes on, is coherent.
abbrev pub IsKeptBy : ℕ → Line → DirEvent → DirRow → Type 0
IsKeptBy cores line event (dir_rows.Go step) = IsKept cores (after_service line event step)
IsKeptBy cores line event dir_rows.Blocked = Unit {0}
IsKeptBy cores line event dir_rows.NoEntry = Unit {0}

put_s_is : (r : Request) → is_put_s r ≡ true → is_put r ≡ true
put_s_is put_s e = refl
put_s_is put_m e = refl
put_s_is no_request e = absurd (true≢false (sym e))
put_s_is get_s e = absurd (true≢false (sym e))
put_s_is get_m e = absurd (true≢false (sym e))

put_m_is : (r : Request) → is_put_m r ≡ true → is_put r ≡ true
put_m_is put_s e = refl
put_m_is put_m e = refl
put_m_is no_request e = absurd (true≢false (sym e))
put_m_is get_s e = absurd (true≢false (sym e))
put_m_is get_m e = absurd (true≢false (sym e))

-- A Put in S: its core was the last sharer, or others are left.
shared_put : (cores : ℕ) (roles : Roles) (s : ℕ) (home : Bool) (part : ℕ → Part) (c : ℕ) → cores ≤ 64
    → IsCoherent cores (line_at dir_states.S None s home part) roles → c < cores → is_put (part c).look.request ≡ true
    → IsKept cores (line_at (shared_by (without s c)) None (without s c) home (told c dir_sends.PutAck part))
shared_put cores roles s home part c most coherent within asks = go (without s c == 0) refl
  where
    go : (b : Bool) → (without s c == 0) ≡ b
        → IsKept cores
        (line_at (if b then dir_states.I else dir_states.S) None (without s c) home (told c dir_sends.PutAck part))
    go true e = (roles, last_sharer_leaves cores roles s home part c most coherent within asks e)
    go false e = (
      roles,
      sharer_leaves cores roles (line_at dir_states.S None s home part) c most coherent within asks
          refl,
    )

home_comes : (cores : ℕ) (roles : Roles) (s : ℕ) (home : Bool) (part : ℕ → Part)
    → IsCoherent cores (line_at dir_states.S_D None s home part) roles → home ≡ true
    → IsKept cores (line_at (shared_by s) None s false part)
home_comes cores roles s false part coherent e = absurd (true≢false (sym e))
home_comes cores roles s true part coherent e = go (s == 0) refl
  where
    go : (b : Bool) → (s == 0) ≡ b → IsKept cores (line_at (if b then dir_states.I else dir_states.S) None s false part)
    go true e = (roles, home_idle cores roles s part coherent e)
    go false e = (roles, home_shared cores roles s part coherent)

same_core : (a b : ℕ) → (a == b) ≡ true → (b == a) ≡ true
same_core a b e = eq-eqb b a (sym (eqb-true a b e))

other_core : (a b : ℕ) → (a == b) ≡ false → (b == a) ≡ false
other_core a b e = ne_eqb b a (λ same. eqb-false a b e (sym same))

module _ (cores : ℕ) (roles : Roles) (s : ℕ) (home : Bool) (part : ℕ → Part) (most : cores ≤ 64) where
  -- The rows with the exclusive state, by the directory's state and the request. `_` covers each that is left.
  rows_on : (directory : DirState) (owner : Option CoreId) (event : DirEvent)
      → IsCoherent cores (line_at directory owner s home part) roles → IsWithin cores event
      → IsTrue (is_asked_for (line_at directory owner s home part) event)
      → IsKeptBy cores (line_at directory owner s home part) event (cell true directory owner s event)
  rows_on dir_states.M (Some owner) (dir_events.GetS core) coherent within wants =
      cond_both (owner.0 == core.0) _ _
      (IsKeptBy cores (line_at dir_states.M (Some owner) s home part) (dir_events.GetS core)) (λ own. tt) (λ other. (
        record roles { server = owner.0; asker = core.0 },
        forward_get_s cores roles owner s home part core.0 most coherent within wants (eqb-false _ _ other),
      ))
  rows_on dir_states.M (Some owner) (dir_events.GetM core) coherent within wants =
      cond_both (owner.0 == core.0) _ _
      (IsKeptBy cores (line_at dir_states.M (Some owner) s home part) (dir_events.GetM core)) (λ own. tt) (λ other. (
        record roles { by = by_also roles.by core.0 owner.0 },
        forward_get_m cores roles owner core s home part coherent within wants (eqb-false _ _ other),
      ))
  rows_on dir_states.M (Some owner) (dir_events.PutS core) coherent within wants =
      cond_both (owner.0 == core.0) _ _
      (IsKeptBy cores (line_at dir_states.M (Some owner) s home part) (dir_events.PutS core)) (λ own. tt)
      (λ other. (roles, late_put _ _ _ core.0 coherent within (put_s_is _ wants) (other_core _ _ other) refl))
  rows_on dir_states.M (Some owner) (dir_events.PutM core) coherent within wants =
      cond_both (owner.0 == core.0) _ _
      (IsKeptBy cores (line_at dir_states.M (Some owner) s home part) (dir_events.PutM core))
      (λ own.
      (roles, owner_leaves _ _ owner s home part core.0 coherent within (put_m_is _ wants) (same_core _ _ own)))
      (λ other. (roles, late_put _ _ _ core.0 coherent within (put_m_is _ wants) (other_core _ _ other) refl))
  rows_on dir_states.M (Some owner) _ coherent within wants = tt
  rows_on dir_states.M None event coherent within wants = absurd (true≢false (sym coherent.entry.in_m))
  rows_on _ (Some owner) event coherent within wants = absurd (true≢false coherent.entry.in_m)
  rows_on dir_states.I None (dir_events.GetS core) coherent within wants =
      (record roles { keeper = core.0 }, read_alone cores roles s home part core coherent within wants)
  rows_on dir_states.I None (dir_events.GetM core) coherent within wants =
      (record roles { keeper = core.0 }, write_idle cores roles s home part core coherent within wants)
  rows_on dir_states.I None (dir_events.PutS core) coherent within wants =
      (roles, late_put _ _ _ core.0 coherent within (put_s_is _ wants) refl refl)
  rows_on dir_states.I None (dir_events.PutM core) coherent within wants =
      (roles, late_put _ _ _ core.0 coherent within (put_m_is _ wants) refl refl)
  rows_on dir_states.S None (dir_events.GetS core) coherent within wants =
      (roles, read_shared cores roles s home part core.0 most coherent within wants)
  rows_on dir_states.S None (dir_events.GetM core) coherent within wants =
      (record roles { keeper = core.0 }, write_shared cores roles s home part core most coherent within wants)
  rows_on dir_states.S None (dir_events.PutS core) coherent within wants =
      shared_put cores roles s home part core.0 most coherent within (put_s_is _ wants)
  rows_on dir_states.S None (dir_events.PutM core) coherent within wants =
      shared_put cores roles s home part core.0 most coherent within (put_m_is _ wants)
  rows_on dir_states.S_D None (dir_events.PutS core) coherent within wants =
      (roles, sharer_leaves _ _ _ core.0 most coherent within (put_s_is _ wants) refl)
  rows_on dir_states.S_D None (dir_events.PutM core) coherent within wants =
      (roles, sharer_leaves _ _ _ core.0 most coherent within (put_m_is _ wants) refl)
  rows_on dir_states.S_D None dir_events.DataHome coherent within wants =
      home_comes cores roles s home part coherent wants
  rows_on _ None _ coherent within wants = tt

  -- The row that the setting changes, without it.
  row_off : (owner : Option CoreId) (core : CoreId) → IsCoherent cores (line_at dir_states.I owner s home part) roles
      → core.0 < cores → IsTrue (is_asked_for (line_at dir_states.I owner s home part) (dir_events.GetS core))
      → IsKeptBy cores (line_at dir_states.I owner s home part) (dir_events.GetS core)
      (cell false dir_states.I owner s (dir_events.GetS core))
  row_off None core coherent within wants =
      (roles, read_idle cores roles s home part core.0 most coherent within wants)
  row_off (Some owner) core coherent within wants = absurd (true≢false coherent.entry.in_m)

  -- The rows at both settings.
  rows_kept : (exclusive : Bool) (directory : DirState) (owner : Option CoreId) (event : DirEvent)
      → IsCoherent cores (line_at directory owner s home part) roles → IsWithin cores event
      → IsTrue (is_asked_for (line_at directory owner s home part) event)
      → IsKeptBy cores (line_at directory owner s home part) event (cell exclusive directory owner s event)
  rows_kept =
      by_setting (λ directory owner event row. IsCoherent cores (line_at directory owner s home part) roles
      → IsWithin cores event → IsTrue (is_asked_for (line_at directory owner s home part) event)
      → IsKeptBy cores (line_at directory owner s home part) event row) s rows_on row_off

-- A turn of the directory keeps the line coherent.
pub serve_kept : (cores : ℕ) (roles : Roles) (line : Line) (exclusive : Bool) (event : DirEvent) (home : Block)
    (step : DirStep) → cores ≤ 64 → IsCoherent cores line roles
    → IsWithin cores event → IsTrue (is_asked_for line event)
    → row_of exclusive (entry_of line home) event ≡ dir_rows.Go step → IsKept cores (after_service line event step)
serve_kept cores roles line exclusive event home step most coherent within asks row =
    subst (IsKeptBy cores line event) row
    (rows_kept cores roles line.sharers line.home line.part most exclusive line.directory line.owner event coherent
    within asks)
