-- The owner serves a Fwd-GetM: the line goes on to the core that asks, which is the keeper from then on.
use Rattle.std.proofs.Common.{◌≡◌, ℕ, ◌+◌, ◌<◌, ◌==◌, ◌&&◌, ◌||◌, Bool, true, false, not, refl, ap, sym, ◌∙◌, subst}
use Rattle.std.proofs.Common.{arith, if◌then◌else◌, true≢false, IsTrue}
use Rattle.std.proofs.lemmas.Bool.{and_from, and_parts, eq-eqb, ne_eqb}
use Rattle.cache_table.specs.CopyState.{is_waiting}
use Rattle.cache_table.specs.Law.{sends_data, sends_home}
use Rattle.cache_table.specs.Row.{row_of}
use Rattle.cache_table.specs.declared.row.CacheEvent.TheVariants as cache_events
use Rattle.cache_table.specs.declared.row.CacheSends.{CacheSends}
use Rattle.cache_table.specs.declared.row.Row.TheVariants as rows
use Rattle.cache_table.specs.declared.state.CopyState.{CopyState}
use Rattle.directory_table.specs.Law.{is_awaited, is_modified}
use Rattle.directory_table.specs.declared.state.DirState.{DirState}
use Rattle.protocol_coherence.proofs.Count.{count_below-none}
use Rattle.protocol_coherence.proofs.Each.{all_words, each_fit, each_fit-at, if_go, if_go-at, if_so, if_so-at, left}
use Rattle.protocol_coherence.proofs.Each.{not-at, right}
use Rattle.protocol_coherence.proofs.Frame.{by_places}
use Rattle.protocol_coherence.proofs.Quiet.{keeper_holds, quiet_holder}
use Rattle.protocol_coherence.specs.Coherent.{IsChained, IsCoherent, IsCounted, debts, wanted_acks}
use Rattle.protocol_coherence.specs.Fit.{awaits, holder, is_counting, is_fit, is_fwd_get_m, is_fwd_get_s, owes}
use Rattle.protocol_coherence.specs.Fit.{waits_to_write}
use Rattle.protocol_coherence.specs.Line.{Line, Look, Near, Part, Roles, near_of, shared_data}
use Rattle.protocol_coherence.specs.LineSteps.{part_after_row, after_turn, change_if, part_with_data, stands}
use Rattle.protocol_coherence.specs.LineSteps.{look_after_row}

-- Some core holds the line, and the home copy isn't current.
abbrev pub is_held : DirState → Bool → Bool
is_held directory home = not home && (is_modified directory || is_awaited directory)

-- The row of who serves: it was the holder, and fits without being the keeper.
unfoldable pub hands_on : Near → Look → CopyState → CacheSends → Bool
hands_on n l next sent =
    sends_data sent && not (sends_home sent)
    && is_fit (record n { keeper = false }) (look_after_row cache_events.FwdGetM next sent l)
    && not (owes (look_after_row cache_events.FwdGetM next sent l))
    && not (awaits (look_after_row cache_events.FwdGetM next sent l))
    && not (is_counting next)
    && not (is_waiting next)
    && not (is_fwd_get_m (look_after_row cache_events.FwdGetM next sent l).forward)
    && not (is_fwd_get_s (look_after_row cache_events.FwdGetM next sent l).forward)
    && holder l && not (awaits l) && not (waits_to_write l) && is_held n.directory n.home

record HandsOn (n : Near) (l : Look) (next : CopyState) (sent : CacheSends) : Type 0 where
  gives : sends_data sent ≡ true
  no_home : sends_home sent ≡ false
  fit : is_fit (record n { keeper = false }) (look_after_row cache_events.FwdGetM next sent l) ≡ true
  owing : owes (look_after_row cache_events.FwdGetM next sent l) ≡ false
  await : awaits (look_after_row cache_events.FwdGetM next sent l) ≡ false
  count : is_counting next ≡ false
  wait : is_waiting next ≡ false
  no_fwd_get_m : is_fwd_get_m (look_after_row cache_events.FwdGetM next sent l).forward ≡ false
  no_fwd_get_s : is_fwd_get_s (look_after_row cache_events.FwdGetM next sent l).forward ≡ false
  holds : holder l ≡ true
  awaited : awaits l ≡ false
  waits : waits_to_write l ≡ false
  held : is_held n.directory n.home ≡ true

hands_on_from : (n : Near) (l : Look) (next : CopyState) (sent : CacheSends) → hands_on n l next sent ≡ true
    → HandsOn n l next sent
unfolding hands_on
hands_on_from n l next sent e =
    let e1 = left _ _ e in
    let e2 = left _ _ e1 in
    let e3 = left _ _ e2 in
    let e4 = left _ _ e3 in
    let e5 = left _ _ e4 in
    let e6 = left _ _ e5 in
    let e7 = left _ _ e6 in
    let e8 = left _ _ e7 in
    let e9 = left _ _ e8 in
    let e10 = left _ _ e9 in
    let e11 = left _ _ e10 in
    record {
      gives = left _ _ e11;
      no_home = not-at _ (right _ _ e11);
      fit = right _ _ e10;
      owing = not-at _ (right _ _ e9);
      await = not-at _ (right _ _ e8);
      count = not-at _ (right _ _ e7);
      wait = not-at _ (right _ _ e6);
      no_fwd_get_m = not-at _ (right _ _ e5);
      no_fwd_get_s = not-at _ (right _ _ e4);
      holds = right _ _ e3;
      awaited = not-at _ (right _ _ e2);
      waits = not-at _ (right _ _ e1);
      held = right _ _ e;
    }

server : each_fit (λ n l. if_so (not l.inv && is_fwd_get_m l.forward) (λ _.
    if_go (row_of l.state cache_events.FwdGetM) (λ next sent. hands_on n l next sent))) ≡ true
unfolding all_words hands_on
server = refl

-- Who waits to write gets the data, and owes nothing.
taker : each_fit (λ n l. if_so (waits_to_write l && not (owes l) && is_held n.directory n.home) (λ _.
    is_fit (record n { keeper = true }) (record l { incoming = shared_data }) && not (awaits l)
    && not (is_counting l.state)
    && awaits (record l { incoming = shared_data }))) ≡ true
unfolding all_words
taker = refl

-- The part of each core afterwards.
record After (near : Near) (c : ℕ) (x : ℕ) (p q : Part) : Type 0 where
  fit : is_fit near q.look ≡ true
  counted : IsCounted q
  owing : owes q.look ≡ false
  names : q.names ≡ p.names
  fwd_get_m : is_fwd_get_m q.look.forward ≡ true → is_fwd_get_m p.look.forward ≡ true
  not_server : is_fwd_get_m q.look.forward ≡ true → x ≡ c → ⊥
  fwd_get_s : is_fwd_get_s q.look.forward ≡ true → is_fwd_get_s p.look.forward ≡ true

after_server : (n : Near) (c : ℕ) (p : Part) (next : CopyState) (sent : CacheSends) (keeper : Bool) → keeper ≡ false
    → HandsOn n p.look next sent →
    After (record n { keeper = keeper }) c c p (part_after_row cache_events.FwdGetM 0 next sent p)
after_server n c p next sent keeper not_keeper s = record {
  fit = subst (λ b. is_fit (record n { keeper = b }) (look_after_row cache_events.FwdGetM next sent p.look) ≡ true)
      (sym not_keeper) s.fit;
  counted = record {
    missing = λ h. absurd (true≢false (sym h ∙ s.count));
    none = λ h. ap (λ b. if b then p.counted + 0 else 0) s.wait;
  };
  owing = s.owing;
  names = refl;
  fwd_get_m = λ h. absurd (true≢false (sym h ∙ s.no_fwd_get_m));
  not_server = λ h. absurd (true≢false (sym h ∙ s.no_fwd_get_m));
  fwd_get_s = λ h. absurd (true≢false (sym h ∙ s.no_fwd_get_s));
}

after_taker : (n : Near) (c r : ℕ) (p : Part) (keeper : Bool) → keeper ≡ true → (r ≡ c → ⊥) → is_fit n p.look ≡ true
    → IsCounted p
    → owes p.look ≡ false → waits_to_write p.look ≡ true → is_held n.directory n.home ≡ true
    → After (record n { keeper = keeper }) c r p (part_with_data p)
unfolding owes
after_taker n c r p keeper is_keeper apart fit counted settled waits held =
    let here : (waits_to_write p.look && not (owes p.look) && is_held n.directory n.home) ≡ true =
    and_from _ _ (and_from _ _ waits (ap not settled)) held in
    let e = if_so-at _ _ (each_fit-at _ taker n p.look fit) here in
    let e1 = left _ _ e in
    let e2 = left _ _ e1 in
    record {
      fit = subst (λ b. is_fit (record n { keeper = b }) (part_with_data p).look ≡ true) (sym is_keeper) (left _ _ e2);
      counted = record {
        missing = λ h. absurd (true≢false (sym h ∙ not-at _ (right _ _ e1)));
        none = λ h. absurd (true≢false (sym (right _ _ e) ∙ h));
      };
      owing = settled;
      names = refl;
      fwd_get_m = λ h. h;
      not_server = λ h. apart;
      fwd_get_s = λ h. h;
    }

after_other : (n : Near) (c x : ℕ) (p : Part) (keeper : Bool) → n.keeper ≡ keeper → (x ≡ c → ⊥) → is_fit n p.look ≡ true
    → IsCounted p → owes p.look ≡ false → After (record n { keeper = keeper }) c x p p
after_other n c x p keeper same not_c fit counted settled = record {
  fit = subst (λ b. is_fit (record n { keeper = b }) p.look ≡ true) same fit;
  counted = counted;
  owing = settled;
  names = refl;
  fwd_get_m = λ h. h;
  not_server = λ h. not_c;
  fwd_get_s = λ h. h;
}

no_wants : (b : Bool) (n : ℕ) → n ≡ 0 → (if b then n else 0) ≡ 0
no_wants true n e = e
no_wants false n e = refl

-- The cores after the server has given the line to the core that it names.
record Moved (cores : ℕ) (line : Line) (roles : Roles) (c r : ℕ) (q : ℕ → Part) : Type 0 where
  after : (x : ℕ) → x < cores → After (record (near_of line roles x) { keeper = x == r }) c x (line.part x) (q x)
  waits : (x : ℕ) → x < cores → (x ≡ c → ⊥) → (x ≡ r → ⊥) → waits_to_write (line.part x).look ≡ true
      → waits_to_write (q x).look ≡ true
  taker : (q r).counted ≡ 0
  wants : wanted_acks (q r) ≡ 0

moved : (cores : ℕ) (line : Line) (roles : Roles) (c r : ℕ) (q : ℕ → Part) → IsCoherent cores line roles → r < cores
    → waits_to_write (line.part c).look ≡ false → roles.by r ≡ c → Moved cores line roles c r q
    → IsCoherent cores (record line { part = q }) (record roles { keeper = r })
moved cores line roles c r q coherent to not_waiting by m =
    let none : debts cores q ≡ 0 = count_below-none cores (λ x. owes (q x).look) (λ x below. (m.after x below).owing) in
    record {
      fit = λ x below. (m.after x below).fit;
      counted = λ x below. (m.after x below).counted;
      chained = chain;
      balanced = record {
        due = λ x below h. absurd (true≢false (sym h ∙ (m.after x below).owing));
        sum = omega (arith, none, m.taker, m.wants);
      };
      entry = coherent.entry;
      roles_within = record { keeper = to; server = coherent.roles_within.server; asker = coherent.roles_within.asker };
    }
  where
    chain : (x : ℕ) → x < cores → IsChained cores roles.asker roles.by q x
    chain x below =
        let a = m.after x below in
        let old = coherent.chained x below in
        let z = (line.part x).names in
        record {
          writer = λ h.
              let was = a.fwd_get_m h in
              let waits = old.writer was in
              let not_c : z ≡ c → ⊥ = λ same. true≢false (sym waits ∙ ap (λ y. waits_to_write (line.part y).look) same
              ∙ not_waiting) in
              let not_r : z ≡ r → ⊥ = λ same. a.not_server h (sym (old.only_by was) ∙ ap roles.by same ∙ by) in
              subst (λ y. waits_to_write (q y).look ≡ true) (sym a.names)
              (m.waits z (old.within was) not_c not_r waits);
          within = λ h. subst (λ y. y < cores) (sym a.names) (old.within (a.fwd_get_m h));
          only_by = λ h. subst (λ y. roles.by y ≡ x) (sym a.names) (old.only_by (a.fwd_get_m h));
          reader = λ h. a.names ∙ old.reader (a.fwd_get_s h);
        }

waiting_awaits : each_fit (λ n l. if_so (waits_to_write l) (λ _. not (awaits l))) ≡ true
unfolding all_words
waiting_awaits = refl

-- The parts after a Fwd-GetM was served.
abbrev served : Line → ℕ → ℕ → CopyState → CacheSends → ℕ → Part
served line c r next sent x =
    change_if (x == r) part_with_data (change_if (x == c) (part_after_row cache_events.FwdGetM 0 next sent)
    (line.part x))

taken_by : (part : ℕ → Part) (c r : ℕ) (f : Part → Part) → (r ≡ c → ⊥)
    → change_if (r == r) part_with_data (change_if (r == c) f (part r)) ≡ part_with_data (part r)
taken_by part c r f apart =
    by_places (λ y q. y ≡ r → q ≡ part_with_data (part r)) part c r f part_with_data r apart
    (λ same. absurd (apart (sym same)))
    (λ same. refl)
    (λ not_c not_r same. absurd (not_r same)) refl

-- Serving a Fwd-GetM keeps the line coherent, and makes who is named the keeper.
pub fwd_get_m_kept : (cores : ℕ) (line : Line) (roles : Roles) (c : ℕ) (next : CopyState) (sent : CacheSends)
    → IsCoherent cores line roles → c < cores → IsTrue (stands (line.part c) cache_events.FwdGetM)
    → row_of (line.part c).look.state cache_events.FwdGetM ≡ rows.Go next sent
    → IsCoherent cores (after_turn line c cache_events.FwdGetM next sent)
    (record roles { keeper = (line.part c).names })
fwd_get_m_kept cores line roles c next sent coherent within here row =
    let n = near_of line roles c in
    let l = (line.part c).look in
    let s = hands_on_from n l next sent
    (if_go-at _ (λ next sent. hands_on n l next sent) next sent
    (if_so-at _ _ (each_fit-at _ server n l (coherent.fit c within)) here) row) in
    let fwd : is_fwd_get_m l.forward ≡ true = (and_parts (not l.inv) (is_fwd_get_m l.forward) here).1 in
    go s fwd (sends_data sent) (sends_home sent) s.gives s.no_home
  where
    r : ℕ
    r = (line.part c).names

    go : HandsOn (near_of line roles c) (line.part c).look next sent → is_fwd_get_m (line.part c).look.forward ≡ true
        → (gives homes : Bool) → gives ≡ true → homes ≡ false
        → IsCoherent cores (record line {
          home = homes || line.home;
          part = λ x. change_if (gives && x == r) part_with_data
              (change_if (x == c) (part_after_row cache_events.FwdGetM 0 next sent)
              (line.part x));
        }) (record roles { keeper = r })
    go s fwd false homes e f = absurd (true≢false (sym e))
    go s fwd true true e f = absurd (true≢false f)
    go s fwd true false e f =
        let chained = coherent.chained c within in
        let to = chained.within fwd in
        let waits = chained.writer fwd in
        let apart : r ≡ c → ⊥ = λ same. true≢false (sym waits ∙ ap (λ y. waits_to_write (line.part y).look) same
        ∙ s.waits) in
        let quiet = quiet_holder cores line roles c coherent within s.holds s.awaited in
        let keeper = keeper_holds cores line roles c coherent within s.holds in
        let is = taken_by line.part c r (part_after_row cache_events.FwdGetM 0 next sent) apart in
        let none : awaits (line.part r).look ≡ false =
        not-at _ (if_so-at _ _ (each_fit-at _ waiting_awaits (near_of line roles r) (line.part r).look
        (coherent.fit r to)) waits) in
        moved cores line roles c r (served line c r next sent) coherent to s.waits (chained.only_by fwd) (record {
          after = λ x below. by_places (λ y q. After (record (near_of line roles y) { keeper = y == r }) c y
              (line.part y) q) line.part c r
              (part_after_row cache_events.FwdGetM 0 next sent) part_with_data x apart
              (after_server (near_of line roles c) c (line.part c) next sent (c == r)
              (ne_eqb c r (λ same. apart (sym same))) s)
              (after_taker (near_of line roles r) c r (line.part r) (r == r) (eq-eqb r r refl) apart
              (coherent.fit r to) (coherent.counted r to)
              (quiet.owes r to) waits s.held)
              (λ not_c not_r. after_other (near_of line roles x) c x (line.part x) (x == r)
              (ne_eqb x roles.keeper (λ same. not_c (same ∙ sym keeper)) ∙ sym (ne_eqb x r not_r)) not_c
              (coherent.fit x below) (coherent.counted x below) (quiet.owes x below));
          waits = λ x below not_c not_r h. by_places
              (λ y q. (y ≡ c → ⊥) → (y ≡ r → ⊥) → waits_to_write (line.part y).look ≡ true
              → waits_to_write q.look ≡ true) line.part c r
              (part_after_row cache_events.FwdGetM 0 next sent) part_with_data x apart (λ no_c. absurd (no_c refl))
              (λ no_c no_r. absurd (no_r refl))
              (λ no_c no_r nc nr w. w) not_c not_r h;
          taker = ap (λ q. q.counted) is ∙ (coherent.counted r to).none none;
          wants = ap (λ q. wanted_acks q) is ∙ no_wants (awaits (part_with_data (line.part r)).look) 0 refl;
        })
