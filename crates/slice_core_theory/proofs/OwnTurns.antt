-- A core's own turn, without a message: an access that hits or asks for the line, or an eviction.
use Rattle.std.proofs.Common.{◌≡◌, ℕ, ◌<◌, ◌≤◌, ◌&&◌, Bool, true, false, not, length, Option, arith, refl, sym, ap, ◌∙◌}
use Rattle.std.proofs.Common.{true≢false}
use Rattle.cache_table.specs.CopyState.{is_waiting}
use Rattle.cache_table.specs.Law.{sends_data, sends_get, sends_home, sends_inv_ack}
use Rattle.cache_table.specs.Row.{row_of}
use Rattle.cache_table.specs.declared.row.CacheEvent.{CacheEvent}
use Rattle.cache_table.specs.declared.row.CacheEvent.TheVariants as cache_events
use Rattle.cache_table.specs.declared.row.CacheSends.{CacheSends}
use Rattle.cache_table.specs.declared.row.Row.TheVariants as rows
use Rattle.cache_table.specs.declared.state.CopyState.{CopyState}
use Rattle.directory_table.specs.declared.state.DirEntry.{DirEntry}
use Rattle.protocol_coherence.proofs.Each.{each_state, each_state-at, if_go, if_go-at, if_so, if_so-at, left, not-at}
use Rattle.protocol_coherence.proofs.Each.{right}
use Rattle.protocol_coherence.specs.Fit.{is_counting}
use Rattle.protocol_coherence.specs.Line.{Line, Part}
use Rattle.protocol_coherence.specs.LineSteps.{Reached, Step, part_after_row, after, asks_for, stands, turn}
use Rattle.slice_core_cache.specs.declared.copy.CacheCopy.{CacheCopy}
use Rattle.slice_core_theory.proofs.Facts.{counts_while_waiting}
use Rattle.slice_core_theory.proofs.Frame.{with_copy_at}
use Rattle.slice_core_theory.proofs.Turns.{IsQuiet, turn_stands}
use Rattle.slice_core_theory.specs.Stands.{LineStands, PartStands, kind_of_request}
use Rattle.slice_queues.specs.Line.{CoreChannels, LineChannels, core_at, with_core}
use Rattle.slice_queues.specs.declared.message.RequestMessage.{RequestMessage}

-- The event is no message.
abbrev pub IsOwn : CacheEvent → Type 0
IsOwn cache_events.Load = Unit {0}
IsOwn cache_events.Write = Unit {0}
IsOwn cache_events.Eviction = Unit {0}
IsOwn _ = ⊥

-- ---- the rows

-- What a row of such an event sends stays in the core's own channels; the copy has no data afterwards that count; and
-- it waits only where it has just asked for the line, and didn't wait before.
pub record OwnRow (state next : CopyState) (sent : CacheSends) : Type 0 where
  pub quiet : IsQuiet sent
  pub uncounted : is_counting next ≡ false
  pub asks : is_waiting next ≡ true → sends_get sent ≡ true
  pub idle : is_waiting next ≡ true → is_waiting state ≡ false

unfoldable stays_own : CopyState → CopyState → CacheSends → Bool
stays_own state next sent =
    ((not (sends_data sent) && not (sends_home sent)) && not (sends_inv_ack sent))
    && (not (is_counting next) && if_so (is_waiting next) (λ _. sends_get sent && not (is_waiting state)))

each_load_own : each_state (λ s. if_go (row_of s cache_events.Load) (stays_own s)) ≡ true
unfolding each_state if_go if_so stays_own
each_load_own = refl

each_write_own : each_state (λ s. if_go (row_of s cache_events.Write) (stays_own s)) ≡ true
unfolding each_state if_go if_so stays_own
each_write_own = refl

each_eviction_own : each_state (λ s. if_go (row_of s cache_events.Eviction) (stays_own s)) ≡ true
unfolding each_state if_go if_so stays_own
each_eviction_own = refl

row_stays_own : (event : CacheEvent) (state : CopyState) → IsOwn event
    → if_go (row_of state event) (stays_own state) ≡ true
row_stays_own cache_events.Load state own =
    each_state-at (λ s. if_go (row_of s cache_events.Load) (stays_own s)) each_load_own state
row_stays_own cache_events.Write state own =
    each_state-at (λ s. if_go (row_of s cache_events.Write) (stays_own s)) each_write_own state
row_stays_own cache_events.Eviction state own =
    each_state-at (λ s. if_go (row_of s cache_events.Eviction) (stays_own s)) each_eviction_own state
row_stays_own _ state own = absurd own

pub own_row : (event : CacheEvent) (state next : CopyState) (sent : CacheSends) → IsOwn event
    → row_of state event ≡ rows.Go next sent → OwnRow state next sent
unfolding stays_own
own_row event state next sent own row =
    let all = if_go-at (row_of state event) (stays_own state) next sent (row_stays_own event state own) row in
    let quiet = left _ _ all in
    let rest = right ((not (sends_data sent) && not (sends_home sent)) && not (sends_inv_ack sent)) _ all in
    let asks : is_waiting next ≡ true → (sends_get sent && not (is_waiting state)) ≡ true =
    λ waits. if_so-at (is_waiting next) (λ _. sends_get sent && not (is_waiting state))
    (right (not (is_counting next)) _ rest) waits in
    record {
      quiet = record {
        gives = not-at _ (left _ _ (left _ _ quiet));
        home = not-at _ (right (not (sends_data sent)) _ (left _ _ quiet));
        acknowledges = not-at _ (right (not (sends_data sent) && not (sends_home sent)) _ quiet);
      };
      uncounted = not-at _ (left _ _ rest);
      asks = λ waits. left _ _ (asks waits);
      idle = λ waits. not-at _ (right (sends_get sent) _ (asks waits));
    }

-- Such an event is always at hand.
pub own_at_hand : (event : CacheEvent) (part : Part) → IsOwn event → stands part event ≡ true
own_at_hand cache_events.Load part own = refl
own_at_hand cache_events.Write part own = refl
own_at_hand cache_events.Eviction part own = refl
own_at_hand _ part own = absurd own

-- ---- the core's part

module _ (copy now : CacheCopy) (mail : CoreChannels) (part : Part) (next : CopyState) (sent : CacheSends)
    (message : Option RequestMessage) (row : OwnRow part.look.state next sent) (state : now.state ≡ next)
    (asked : kind_of_request message ≡ asks_for sent part.look.request)
    (fresh : is_waiting next ≡ true → now.counted ≡ 0)
    (uncounted : is_waiting part.look.state ≡ false → part.counted ≡ 0) (stands : PartStands copy mail part) where
  access_stands : PartStands now (record mail { request = message }) (part_after_row cache_events.Load 0 next sent part)
  access_stands = record {
    state = state;
    request = asked;
    incoming = stands.incoming;
    queue = stands.queue;
    named = stands.named;
    wants = λ counts. absurd (true≢false (sym counts ∙ row.uncounted));
    counted = λ waits. let zero = uncounted (row.idle waits) in rw waits (omega (arith, fresh waits, zero));
  }

  -- The part after its own turn is the new copy with the channels in which that request waits.
  pub own_stands : (event : CacheEvent) → IsOwn event
      → PartStands now (record mail { request = message }) (part_after_row event 0 next sent part)
  own_stands cache_events.Load own = access_stands
  own_stands cache_events.Write own = access_stands
  own_stands cache_events.Eviction own = access_stands
  own_stands _ own = absurd own

-- ---- the line

-- The line after a step of the machine is this entry, these channels and these copies.
abbrev pub StepStands : Bool → ℕ → DirEntry → LineChannels → (ℕ → CacheCopy) → Line → Type 0
StepStands exclusive cores entry channels copy line =
    (step : Step exclusive cores line) × LineStands cores entry channels copy (after step)

-- A core's own turn is a step of the line.
unfoldable pub own_step : (exclusive : Bool) (cores : ℕ) (entry : DirEntry) (channels : LineChannels) (copy : ℕ
    → CacheCopy)
    (c : ℕ) (event : CacheEvent) (next : CopyState) (sent : CacheSends) (now : CacheCopy)
    (message : Option RequestMessage) (line : Line)
    → cores ≤ 64 → c < cores → c < length channels.cores → IsOwn event
    → row_of (copy c).state event ≡ rows.Go next sent → now.state ≡ next
    → kind_of_request message ≡ asks_for sent (kind_of_request (core_at channels c).request)
    → (is_waiting next ≡ true → now.counted ≡ 0)
    → Reached exclusive cores line → LineStands cores entry channels copy line
    → StepStands exclusive cores entry (with_core channels c (record (core_at channels c) { request = message }))
    (with_copy_at copy c now) line
own_step exclusive cores entry channels copy c event next sent now message line most below there own row state asked
    fresh reached stand =
    let here = stand.part c below in
    let row_here : row_of (line.part c).look.state event ≡ rows.Go next sent =
    ap (λ s. row_of s event) (sym here.state) ∙ row in
    let lawful = own_row event (line.part c).look.state next sent own row_here in (
      turn c event next sent below (own_at_hand event (line.part c) own) row_here,
      turn_stands cores entry channels copy line c event next sent now
          (record (core_at channels c) { request = message }) there lawful.quiet refl
          (own_stands (copy c) now (core_at channels c) (line.part c) next sent message lawful state
          (asked ∙ ap (asks_for sent) here.request) fresh
          (counts_while_waiting exclusive cores line (omega (arith, below)) most reached c below) here event own)
          stand,
    )
