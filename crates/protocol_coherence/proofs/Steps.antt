-- Every step of the machine keeps the line coherent, and it is coherent in the beginning. So it is wherever it comes.
use Rattle.std.proofs.Common.{◌≡◌, ℕ, ◌<◌, ◌≤◌, ◌==◌, ◌&&◌, ◌||◌, Bool, true, false, not, refl, ap, sym, ◌∙◌, subst}
use Rattle.std.proofs.Common.{arith, true≢false, IsTrue}
use Rattle.std.proofs.Math.Bool.{or-true}
use Rattle.std.proofs.lemmas.Bool.{and_from}
use Rattle.cache_table.specs.Row.{row_of}
use Rattle.cache_table.specs.declared.row.CacheEvent.{CacheEvent}
use Rattle.cache_table.specs.declared.row.CacheEvent.TheVariants as cache_events
use Rattle.cache_table.specs.declared.row.CacheSends.{CacheSends}
use Rattle.cache_table.specs.declared.row.Row.TheVariants as rows
use Rattle.cache_table.specs.declared.state.CopyState.{CopyState}
use Rattle.directory_table.specs.Law.{is_idle}
use Rattle.directory_table.specs.declared.state.DirState.TheVariants as dir_states
use Rattle.protocol_coherence.proofs.Alone.{data_e, eviction, inv, load, put_ack, turn_kept, write}
use Rattle.protocol_coherence.proofs.Count.{count_below-none}
use Rattle.protocol_coherence.proofs.Data.{data_kept}
use Rattle.protocol_coherence.proofs.Directory.{IsKept, serve_kept}
use Rattle.protocol_coherence.proofs.Each.{all_words}
use Rattle.protocol_coherence.proofs.FwdGetM.{fwd_get_m_kept}
use Rattle.protocol_coherence.proofs.FwdGetS.{fwd_get_s_kept}
use Rattle.protocol_coherence.proofs.InvAck.{ack_kept}
use Rattle.protocol_coherence.proofs.Quiet.{quiet_open}
use Rattle.protocol_coherence.proofs.Sets.{in_none}
use Rattle.protocol_coherence.specs.Coherent.{IsCoherent}
use Rattle.protocol_coherence.specs.Fit.{is_fit, is_only_data, is_open, is_put_ack_first, owes}
use Rattle.protocol_coherence.specs.Line.{Line, Look, Roles}
use Rattle.protocol_coherence.specs.LineSteps.{Reached, Step, after, after_turn, beginning, count, first, further, idle}
use Rattle.protocol_coherence.specs.LineSteps.{serve, stands, turn}

inv_owes : (l : Look) → l.inv ≡ true → owes l ≡ true
unfolding owes
inv_owes l waits = ap (λ b. b || l.sent) waits

-- An Inv waits only while the home copy can't be read.
inv_closed : (cores : ℕ) (line : Line) (roles : Roles) (c : ℕ) → IsCoherent cores line roles → c < cores
    → (line.part c).look.inv ≡ true → not (is_open line.directory line.home) ≡ true
inv_closed cores line roles c coherent within waits = go (is_open line.directory line.home) refl
  where
    go : (b : Bool) → is_open line.directory line.home ≡ b → not b ≡ true
    go false e = refl
    go true e = absurd (true≢false (sym (inv_owes (line.part c).look waits)
        ∙ (quiet_open cores line roles coherent (ap (λ b. is_idle line.directory || b) e
        ∙ or-true (is_idle line.directory))).owes c within))

turns : (cores : ℕ) (line : Line) (roles : Roles) (c : ℕ) (event : CacheEvent) (next : CopyState) (sent : CacheSends)
    → IsCoherent cores line roles → c < cores → IsTrue (stands (line.part c) event)
    → row_of (line.part c).look.state event ≡ rows.Go next sent → IsKept cores (after_turn line c event next sent)
turns cores line roles c cache_events.Load next sent coherent within here row =
    (roles, turn_kept cores line roles c cache_events.Load next sent (λ n l. true) load coherent within refl row)
turns cores line roles c cache_events.Write next sent coherent within here row =
    (roles, turn_kept cores line roles c cache_events.Write next sent (λ n l. true) write coherent within refl row)
turns cores line roles c cache_events.Eviction next sent coherent within here row = (
  roles,
  turn_kept cores line roles c cache_events.Eviction next sent (λ n l. true) eviction coherent within refl
      row,
)
turns cores line roles c cache_events.Inv next sent coherent within here row = (
  roles,
  turn_kept cores line roles c cache_events.Inv next sent (λ n l. l.inv && not (is_open n.directory n.home)) inv
      coherent
      within
      (and_from _ _ here (inv_closed cores line roles c coherent within here)) row,
)
turns cores line roles c cache_events.PutAck next sent coherent within here row = (
  roles,
  turn_kept cores line roles c cache_events.PutAck next sent
      (λ n l. is_put_ack_first l) put_ack coherent within here row,
)
turns cores line roles c (cache_events.DataE loads) next sent coherent within here row = (
  roles,
  turn_kept cores line roles c (cache_events.DataE loads) next sent (λ n l. is_only_data l.incoming)
      (data_e loads) coherent within here row,
)
turns cores line roles c (cache_events.Data n k) next sent coherent within here row =
    (roles, data_kept cores line roles c n k next sent coherent within here row)
turns cores line roles c cache_events.FwdGetS next sent coherent within here row =
    (roles, fwd_get_s_kept cores line roles c next sent coherent within here row)
turns cores line roles c cache_events.FwdGetM next sent coherent within here row = (
  record roles { keeper = (line.part c).names },
  fwd_get_m_kept cores line roles c next sent coherent within here
      row,
)
turns cores line roles c (cache_events.InvAck n k) next sent coherent within here row = absurd (true≢false (sym here))

-- Every step keeps the line coherent.
pub step_kept : (exclusive : Bool) (cores : ℕ) (line : Line) (roles : Roles) → cores ≤ 64 → IsCoherent cores line roles
    → (step : Step exclusive cores line) → IsKept cores (after step)
step_kept exclusive cores line roles most coherent (turn c event next sent within here row) =
    turns cores line roles c event next sent coherent within here row
step_kept exclusive cores line roles most coherent (count c from next sent within sender here row) =
    (roles, ack_kept cores line roles c from next sent coherent within sender here row)
step_kept exclusive cores line roles most coherent (serve event home step within here row) =
    serve_kept cores roles line exclusive event home step most coherent within here row

-- An idle core fits, whether it is all three roles or none.
idle_fits : (role : Bool) → is_fit (record {
  directory = dir_states.I;
  home = false;
  owner = false;
  sharer = false;
  keeper = role;
  server = role;
  asker = role;
}) idle.look ≡ true
unfolding all_words
idle_fits true = refl
idle_fits false = refl

-- The line begins coherent.
pub first_coherent : (cores : ℕ) → 0 < cores → IsCoherent cores first
    (record { keeper = 0; server = 0; asker = 0; by = λ x. x })
unfolding all_words
first_coherent cores some = record {
  fit = λ x below. subst (λ b. is_fit (record {
    directory = dir_states.I;
    home = false;
    owner = false;
    sharer = b;
    keeper = x == 0;
    server = x == 0;
    asker = x == 0;
  }) idle.look ≡ true) (sym (in_none 0 x refl)) (idle_fits (x == 0));
  counted = λ x below. record { missing = λ h. absurd (true≢false (sym h)); none = λ h. refl };
  chained = λ x below. record {
    writer = λ h. absurd (true≢false (sym h));
    within = λ h. absurd (true≢false (sym h));
    only_by = λ h. absurd (true≢false (sym h));
    reader = λ h. absurd (true≢false (sym h));
  };
  balanced = record {
    due = λ x below h. absurd (true≢false (sym h));
    sum = omega (arith, count_below-none cores (λ x. owes idle.look) (λ x below. refl));
  };
  entry = record {
    in_m = refl;
    owner_within = tt;
    sharers_within = λ x below h. absurd
        (true≢false (sym h ∙ in_none 0 x refl));
  };
  roles_within = record { keeper = some; server = some; asker = some };
}

-- Whatever a line reaches is coherent.
pub reached_coherent : (exclusive : Bool) (cores : ℕ) (line : Line) → 0 < cores → cores ≤ 64
    → Reached exclusive cores line → IsKept cores line
reached_coherent exclusive cores line some most beginning = (
  record { keeper = 0; server = 0; asker = 0; by = λ x. x },
  first_coherent cores some,
)
reached_coherent exclusive cores line some most (further {line = before} reached step) =
    let kept = reached_coherent exclusive cores before some most reached in
    step_kept exclusive cores before kept.0 most kept.1 step
