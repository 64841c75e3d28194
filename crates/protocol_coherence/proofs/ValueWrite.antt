-- A write makes its core's block the newest, and no other core has claimed one.
use Rattle.std.proofs.Common.{◌≡◌, ℕ, ◌<◌, ◌==◌, ◌&&◌, ◌||◌, Bool, true, false, not, refl, ap, sym, ◌∙◌, subst}
use Rattle.std.proofs.Common.{if◌then◌else◌, true≢false}
use Rattle.std.proofs.lemmas.Bool.{and_from, eqb-false, eqb-true}
use Rattle.address_map.specs.declared.block.Block.{Block}
use Rattle.cache_table.specs.CopyState.{is_writer}
use Rattle.cache_table.specs.Law.{sends_data, sends_home, sends_put_m}
use Rattle.cache_table.specs.Row.{row_of}
use Rattle.cache_table.specs.declared.row.CacheEvent.TheVariants as cache_events
use Rattle.cache_table.specs.declared.row.CacheSends.{CacheSends}
use Rattle.cache_table.specs.declared.row.Row.TheVariants as rows
use Rattle.cache_table.specs.declared.state.CopyState.{CopyState}
use Rattle.directory_table.specs.Law.{is_named}
use Rattle.protocol_coherence.proofs.Each.{all_words, each_fit, each_fit-at, if_go, if_go-at, if_so, if_so-at, left}
use Rattle.protocol_coherence.proofs.Each.{not-at, right}
use Rattle.protocol_coherence.proofs.OneWriter.{Alone, alone}
use Rattle.protocol_coherence.proofs.ValueTurn.{turned_blocks}
use Rattle.protocol_coherence.specs.Coherent.{IsCoherent}
use Rattle.protocol_coherence.specs.Fit.{comes, holder, is_no_data, is_put_m}
use Rattle.protocol_coherence.specs.Line.{Line, Look, Near, Part, Roles, near_of}
use Rattle.protocol_coherence.specs.LineSteps.{part_after_row, after_turn, change_if, part_with_data, look_after_row}
use Rattle.protocol_coherence.specs.Values.{Blocks, IsCurrent, has_newest, is_at_home}

-- Who performs a write had the right to, and sends nothing.
performs_alone : each_fit (λ n l. if_go (row_of l.state cache_events.Write) (λ next sent. if_so (is_writer next) (λ _.
    is_writer l.state && not (sends_data sent) && not (sends_home sent) && not (sends_put_m sent)
    && is_no_data (look_after_row cache_events.Write next sent l).incoming
    && not (is_put_m (look_after_row cache_events.Write next sent l).request)
    && not (is_at_home n.directory) && not n.home))) ≡ true
unfolding all_words
performs_alone = refl

record Performs (n : Near) (l : Look) (next : CopyState) (sent : CacheSends) : Type 0 where
  writes : is_writer l.state ≡ true
  gives : sends_data sent ≡ false
  homes : sends_home sent ≡ false
  puts : sends_put_m sent ≡ false
  no_data : is_no_data (look_after_row cache_events.Write next sent l).incoming ≡ true
  no_put : is_put_m (look_after_row cache_events.Write next sent l).request ≡ false
  away : is_at_home n.directory ≡ false
  no_mail : n.home ≡ false

performs_at : (cores : ℕ) (line : Line) (roles : Roles) (c : ℕ) (next : CopyState) (sent : CacheSends)
    → IsCoherent cores line roles
    → c < cores → row_of (line.part c).look.state cache_events.Write ≡ rows.Go next sent → is_writer next ≡ true
    → Performs (near_of line roles c) (line.part c).look next sent
performs_at cores line roles c next sent coherent within row may =
    let n = near_of line roles c in
    let l = (line.part c).look in
    let e = if_so-at _ _ (if_go-at _ (λ next sent. if_so (is_writer next) (λ _.
    is_writer l.state && not (sends_data sent) && not (sends_home sent) && not (sends_put_m sent)
    && is_no_data (look_after_row cache_events.Write next sent l).incoming
    && not (is_put_m (look_after_row cache_events.Write next sent l).request)
    && not (is_at_home n.directory) && not n.home)) next sent
    (each_fit-at _ performs_alone n l (coherent.fit c within)) row) may in
    let e1 = left _ _ e in
    let e2 = left _ _ e1 in
    let e3 = left _ _ e2 in
    let e4 = left _ _ e3 in
    let e5 = left _ _ e4 in
    let e6 = left _ _ e5 in
    record {
      writes = left _ _ e6;
      gives = not-at _ (right _ _ e6);
      homes = not-at _ (right _ _ e5);
      puts = not-at _ (right _ _ e4);
      no_data = right _ _ e3;
      no_put = not-at _ (right _ _ e2);
      away = not-at _ (right _ _ e1);
      no_mail = not-at _ (right _ _ e);
    }

-- A core that neither has the line nor gets it claims no block.
claims_nothing : each_fit (λ n l. if_so (not (comes l) && not (holder l))
    (λ _. not (has_newest l) && is_no_data l.incoming && not (n.owner && is_put_m l.request))) ≡ true
unfolding all_words has_newest
claims_nothing = refl

record Claimless (n : Near) (l : Look) : Type 0 where
  copy : has_newest l ≡ false
  no_data : is_no_data l.incoming ≡ true
  put : (n.owner && is_put_m l.request) ≡ false

claimless : (cores : ℕ) (line : Line) (roles : Roles) (c x : ℕ) → IsCoherent cores line roles
    → Alone cores line roles c → x < cores
    → (x ≡ c → ⊥) → Claimless (near_of line roles x) (line.part x).look
claimless cores line roles c x coherent alone below away =
    let e = if_so-at _ _ (each_fit-at _ claims_nothing (near_of line roles x) (line.part x).look (coherent.fit x below))
    (and_from _ _ (ap not (alone.comes x below away)) (ap not (alone.holds x below away))) in
    let e1 = left _ _ e in
    record { copy = not-at _ (left _ _ e1); no_data = right _ _ e1; put = not-at _ (right _ _ e) }

-- The parts after the write, where the row sends no data.
abbrev written_part : Line → ℕ → CopyState → CacheSends → ℕ → Part
written_part line c next sent x = change_if (x == c) (part_after_row cache_events.Write 0 next sent) (line.part x)

-- A write that is performed makes its block the newest, and leaves no other that is claimed to be.
pub write_current : (cores : ℕ) (line : Line) (roles : Roles) (c : ℕ) (next : CopyState) (sent : CacheSends)
    (blocks : Blocks)
    (written : Block) → IsCoherent cores line roles → c < cores
    → row_of (line.part c).look.state cache_events.Write ≡ rows.Go next sent
    → is_writer next ≡ true
    → IsCurrent cores (after_turn line c cache_events.Write next sent)
    (turned_blocks line c cache_events.Write sent true written blocks) written
write_current cores line roles c next sent blocks written coherent within row may =
    let p = performs_at cores line roles c next sent coherent within row may in
    let alone = alone cores line roles c coherent within p.writes in
    go p alone (sends_data sent) (sends_home sent) (sends_put_m sent) p.gives p.homes p.puts
  where
    copy : Alone cores line roles c → (x : ℕ) → x < cores → (b : Bool) → (x == c) ≡ b
        → has_newest (change_if b (part_after_row cache_events.Write 0 next sent) (line.part x)).look ≡ true
        → (if b then written else blocks.copy x) ≡ written
    copy alone x below true e h = refl
    copy alone x below false e h =
        absurd (true≢false (sym h ∙ (claimless cores line roles c x coherent alone below (eqb-false x c e)).copy))

    arriving : Performs (near_of line roles c) (line.part c).look next sent → Alone cores line roles c → (x : ℕ)
        → x < cores → (b : Bool) → (x == c) ≡ b
        → is_no_data (change_if b (part_after_row cache_events.Write 0 next sent) (line.part x)).look.incoming ≡ false
        → blocks.arriving x ≡ written
    arriving p alone x below true e h =
        absurd (true≢false (sym p.no_data ∙ subst (λ y. is_no_data
        (part_after_row cache_events.Write 0 next sent (line.part y)).look.incoming ≡ false) (eqb-true x c e) h))
    arriving p alone x below false e h =
        absurd (true≢false (sym (claimless cores line roles c x coherent alone below (eqb-false x c e)).no_data ∙ h))

    put : Performs (near_of line roles c) (line.part c).look next sent → Alone cores line roles c → (x : ℕ) → x < cores
        → is_named line.owner x ≡ true
        → (b : Bool) → (x == c) ≡ b → is_put_m (change_if b (part_after_row cache_events.Write 0 next sent)
        (line.part x)).look.request ≡ true → blocks.put x ≡ written
    put p alone x below owns true e h =
        absurd (true≢false
        (sym (subst (λ y. is_put_m (part_after_row cache_events.Write 0 next sent (line.part y)).look.request
        ≡ true) (eqb-true x c e) h) ∙ p.no_put))
    put p alone x below owns false e h =
        absurd (true≢false (sym (and_from _ _ owns h) ∙ (claimless cores line roles c x coherent alone below
        (eqb-false x c e)).put))

    go : Performs (near_of line roles c) (line.part c).look next sent → Alone cores line roles c
        → (gives homes puts : Bool)
        → gives ≡ false → homes ≡ false → puts ≡ false
        → IsCurrent cores
        (record line {
          home = homes || line.home;
          part = λ x. change_if (gives && x == (line.part c).names) part_with_data
              (written_part line c next sent x);
        })
        (record {
          copy = λ x. if x == c then written else blocks.copy x;
          arriving = λ x. if gives && x == (line.part c).names then blocks.copy c else blocks.arriving x;
          put = λ x. if puts && x == c then blocks.copy c else blocks.put x;
          home = blocks.home;
          mail = if homes then blocks.copy c else blocks.mail;
        }) written
    go p alone true homes puts e f g = absurd (true≢false e)
    go p alone false true puts e f g = absurd (true≢false f)
    go p alone false false true e f g = absurd (true≢false g)
    go p alone false false false e f g = record {
      copy = λ x below h. copy alone x below (x == c) refl h;
      arriving = λ x below h. arriving p alone x below (x == c) refl h;
      put = λ x below owns h. put p alone x below owns (x == c) refl h;
      home = λ h. absurd (true≢false (sym h ∙ p.away));
      mail = λ h. absurd (true≢false (sym h ∙ p.no_mail));
    }
