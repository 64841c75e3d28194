-- A turn of the directory leaves each block that is claimed to be the newest as the newest.
use Rattle.std.proofs.Common.{◌≡◌, ℕ, ◌<◌, ◌≤◌, ◌⊎◌, ◌==◌, ◌&&◌, ◌||◌, Bool, true, false, not, refl, ap, sym, ◌∙◌}
use Rattle.std.proofs.Common.{subst, Option, Some, None, if◌then◌else◌, IfSome, IsTrue, true≢false, inl, inr}
use Rattle.std.proofs.lemmas.Bool.{and_parts, cond_both, eq-eqb, eqb-true, not-true}
use Rattle.address_map.specs.declared.address.CoreId.{CoreId}
use Rattle.address_map.specs.declared.block.Block.{Block}
use Rattle.cache_table.specs.CopyState.{is_readable}
use Rattle.directory_table.specs.Law.{IfGo, forwarded_to, is_data_home, is_named, is_sent_inv, requester, sends_data}
use Rattle.directory_table.specs.Row.{cell, row_of}
use Rattle.directory_table.specs.declared.state.DirState.{DirState}
use Rattle.directory_table.specs.declared.state.DirState.TheVariants as dir_states
use Rattle.directory_table.specs.declared.row.DirEvent.{DirEvent}
use Rattle.directory_table.specs.declared.row.DirEvent.TheVariants as dir_events
use Rattle.directory_table.specs.declared.row.DirRow.{DirRow}
use Rattle.directory_table.specs.declared.row.DirRow.TheVariants as dir_rows
use Rattle.directory_table.specs.declared.row.DirSends.{DirSends}
use Rattle.directory_table.specs.declared.row.DirSends.TheVariants as dir_sends
use Rattle.directory_table.specs.declared.row.DirStep.{DirStep}
use Rattle.protocol_coherence.proofs.HasRoom.{has_room}
use Rattle.protocol_coherence.proofs.Settings.{by_setting}
use Rattle.protocol_coherence.specs.Coherent.{IsCoherent}
use Rattle.address_map.specs.CoreSet.{has}
use Rattle.protocol_coherence.specs.Fit.{is_counting, is_no_data, is_no_forward, is_put_ack_first, is_put_m}
use Rattle.protocol_coherence.specs.Fit.{is_written_back}
use Rattle.protocol_coherence.specs.Line.{Line, Part, Roles}
use Rattle.protocol_coherence.specs.LineSteps.{IsWithin, after_service, part_after_answer, change_if, entry_of}
use Rattle.protocol_coherence.specs.LineSteps.{part_after_forward}
use Rattle.protocol_coherence.specs.LineSteps.{invalidated_by, is_asked_for, who}
use Rattle.protocol_coherence.specs.Promise.{HasRoomAtService, has_room_for_forward, has_room_for_inv}
use Rattle.protocol_coherence.specs.Values.{Blocks, IsCurrent, home_after_row, has_newest, is_at_home}

-- ---- a part after the row

-- What a core is sent in all.
abbrev pub sent_to : DirSends → ℕ → ℕ → Bool → Part → Part
sent_to sent core x asks p =
    change_if (is_sent_inv sent x) (invalidated_by core) (change_if (is_named (forwarded_to sent) x)
    (part_after_forward sent core) (change_if asks (part_after_answer sent) p))

-- An Inv or a forwarded request makes no block the newest, where no Put-Ack waits.
inv_newest : (core : ℕ) (p : Part) → p.look.put_ack ≡ false → has_newest (invalidated_by core p).look ≡ true
    → has_newest p.look ≡ true
unfolding has_newest is_put_ack_first
inv_newest core p none h = rw none (rw none at h)

forward_newest : (owner : CoreId) (core : ℕ) (p : Part) → p.look.put_ack ≡ false
    → (has_newest (part_after_forward (dir_sends.FwdGetS owner) core p).look ≡ true → has_newest p.look ≡ true)
    × (has_newest (part_after_forward (dir_sends.FwdGetM owner) core p).look ≡ true → has_newest p.look ≡ true)
unfolding has_newest is_put_ack_first
forward_newest owner core p none = (λ h. rw none (rw none at h), λ h. rw none (rw none at h))

or_more : (a b c d : Bool) → (d ≡ true → c ≡ true) → (a || b || d) ≡ true → (a || b || c) ≡ true
or_more true b c d f h = refl
or_more false true c d f h = refl
or_more false false c d f h = f h

-- A Put-Ack makes no block the newest.
ack_newest : (p : Part) → has_newest (part_after_answer dir_sends.PutAck p).look ≡ true → has_newest p.look ≡ true
unfolding has_newest is_put_ack_first
ack_newest p h =
    or_more (is_readable p.look.state) (is_counting p.look.state)
    (is_written_back p.look.state && not (p.look.put_ack && not p.look.inv && is_no_forward p.look.forward))
    (is_written_back p.look.state && not (true && not p.look.inv && is_no_forward p.look.forward))
    (last (is_written_back p.look.state) p.look.put_ack (not p.look.inv) (is_no_forward p.look.forward)) h
  where
    last : (a b c d : Bool) → (a && not (true && c && d)) ≡ true → (a && not (b && c && d)) ≡ true
    last a true c d h = h
    last true false c d h = refl
    last false false c d h = h

pub back_newest : (sent : DirSends) (core x : ℕ) (asks : Bool) (p : Part)
    → (is_named (forwarded_to sent) x ≡ true → p.look.put_ack ≡ false)
    → (is_sent_inv sent x ≡ true → p.look.put_ack ≡ false)
    → has_newest (sent_to sent core x asks p).look ≡ true → has_newest p.look ≡ true
unfolding has_newest is_put_ack_first
back_newest dir_sends.Nothing core x true p f g h = h
back_newest dir_sends.Nothing core x false p f g h = h
back_newest (dir_sends.Data acks) core x true p f g h = h
back_newest (dir_sends.Data acks) core x false p f g h = h
back_newest dir_sends.DataE core x true p f g h = h
back_newest dir_sends.DataE core x false p f g h = h
back_newest dir_sends.PutAck core x true p f g h = ack_newest p h
back_newest dir_sends.PutAck core x false p f g h = h
back_newest (dir_sends.FwdGetS owner) core x asks p f g h = go (x == owner.0) asks f h
  where
    go : (b asks : Bool) → (b ≡ true → p.look.put_ack ≡ false)
        → has_newest (change_if b (part_after_forward (dir_sends.FwdGetS owner) core)
        (change_if asks (part_after_answer (dir_sends.FwdGetS owner)) p)).look ≡ true → has_newest p.look ≡ true
    go true true f h = (forward_newest owner core p (f refl)).0 h
    go true false f h = (forward_newest owner core p (f refl)).0 h
    go false true f h = h
    go false false f h = h
back_newest (dir_sends.FwdGetM owner) core x asks p f g h = go (x == owner.0) asks f h
  where
    go : (b asks : Bool) → (b ≡ true → p.look.put_ack ≡ false)
        → has_newest (change_if b (part_after_forward (dir_sends.FwdGetM owner) core)
        (change_if asks (part_after_answer (dir_sends.FwdGetM owner)) p)).look ≡ true → has_newest p.look ≡ true
    go true true f h = (forward_newest owner core p (f refl)).1 h
    go true false f h = (forward_newest owner core p (f refl)).1 h
    go false true f h = h
    go false false f h = h
back_newest (dir_sends.DataAndInv acks set) core x asks p f g h = go (has set x) asks g h
  where
    go : (b asks : Bool) → (b ≡ true → p.look.put_ack ≡ false)
        → has_newest (change_if b (invalidated_by core) (change_if asks
        (part_after_answer (dir_sends.DataAndInv acks set)) p)).look ≡ true → has_newest p.look ≡ true
    go true true f h = inv_newest core p (f refl) h
    go true false f h = inv_newest core p (f refl) h
    go false true f h = h
    go false false f h = h

-- Data are on their way to a core because they were, or because it is answered with data.
back_arriving : (sent : DirSends) (core x : ℕ) (asks : Bool) (p : Part) → (sends_data sent && asks) ≡ false
    → is_no_data (sent_to sent core x asks p).look.incoming ≡ false → is_no_data p.look.incoming ≡ false
back_arriving sent core x asks p f = by (is_sent_inv sent x) (is_named (forwarded_to sent) x) asks sent f
  where
    by : (inv named asks : Bool) (sent : DirSends) → (sends_data sent && asks) ≡ false
        → is_no_data (change_if inv (invalidated_by core) (change_if named (part_after_forward sent core)
        (change_if asks (part_after_answer sent) p))).look.incoming ≡ false
        → is_no_data p.look.incoming ≡ false
    by true true true dir_sends.Nothing f h = h
    by _ true true dir_sends.Nothing f h = h
    by _ _ true dir_sends.Nothing f h = h
    by _ _ _ dir_sends.Nothing f h = h
    by _ _ _ _ f h = cc

-- A PutM waits because it did, and its core isn't the one that is answered.
back_put : (sent : DirSends) (core x : ℕ) (asks : Bool) (p : Part)
    → is_put_m (sent_to sent core x asks p).look.request ≡ true
    → (asks ≡ false) × (is_put_m p.look.request ≡ true)
back_put sent core x asks p = by (is_sent_inv sent x) (is_named (forwarded_to sent) x) asks sent
  where
    by : (inv named asks : Bool) (sent : DirSends)
        → is_put_m (change_if inv (invalidated_by core) (change_if named (part_after_forward sent core)
        (change_if asks (part_after_answer sent) p))).look.request ≡ true
        → (asks ≡ false) × (is_put_m p.look.request ≡ true)
    by true true true dir_sends.Nothing h = (cc, cc)
    by _ true true dir_sends.Nothing h = (cc, cc)
    by _ _ true dir_sends.Nothing h = (cc, cc)
    by _ _ _ dir_sends.Nothing h = (cc, cc)
    by _ _ _ _ h = (cc, cc)

-- ---- a row

-- Data leave the home copy only where it is current; who owns the line afterwards did, or asked; the home copy stays
-- current, or is written with the owner's block or the one that comes home.
record Moves (directory : DirState) (owner : Option CoreId) (event : DirEvent) (state : DirState)
    (owns : Option CoreId) (sent : DirSends) (writes : Bool) : Type 0 where
  gives : sends_data sent ≡ true → is_at_home directory ≡ true
  owner_is : (x : ℕ) → is_named owns x ≡ true → is_named (requester event) x ≡ false → is_named owner x ≡ true
  stays : is_at_home state ≡ true → writes ≡ false → is_at_home directory ≡ true
  brings : writes ≡ true → (is_data_home event ≡ true) ⊎ ((core : CoreId) × (event ≡ dir_events.PutM core)
      × (is_named owner core.0 ≡ true))

abbrev RowMoves : DirState → Option CoreId → DirEvent → DirRow → Type 0
RowMoves directory owner event row = IfGo row (λ state owns sharers sent writes. Moves directory owner event state owns
    sent writes)

nothing : {A : Type 0} → false ≡ true → A
nothing e = absurd (true≢false (sym e))

-- A row that keeps the owner, and serves from the home copy or sends no data.
same_owner : (directory : DirState) (owner : Option CoreId) (event : DirEvent) (state : DirState) (sent : DirSends)
    → (sends_data sent ≡ true → is_at_home directory ≡ true) → (is_at_home state ≡ true → is_at_home directory ≡ true)
    → Moves directory owner event state owner sent false
same_owner directory owner event state sent gives stays = record {
  gives = gives;
  owner_is = λ x owns other. owns;
  stays = λ home same. stays home;
  brings = λ h. nothing h;
}

-- A row that makes who asks the owner.
new_owner : (directory : DirState) (owner : Option CoreId) (event : DirEvent) (core : CoreId) (sent : DirSends)
    → requester event ≡ Some core
    → (sends_data sent ≡ true → is_at_home directory ≡ true) →
    Moves directory owner event dir_states.M (Some core) sent false
new_owner directory owner event core sent asked gives = record {
  gives = gives;
  owner_is = λ x owns other. absurd (true≢false (sym owns ∙ sym (ap (λ o. is_named o x) asked) ∙ other));
  stays = λ home same. nothing home;
  brings = λ h. nothing h;
}

-- Each row with the exclusive state moves blocks so. `_` covers each state and event that no line above it takes.
row_on : (s : ℕ) (directory : DirState) (owner : Option CoreId) (event : DirEvent)
    → RowMoves directory owner event (cell true directory owner s event)
row_on s dir_states.I owner (dir_events.GetS core) = new_owner _ _ _ core _ refl (λ h. refl)
row_on s dir_states.I owner (dir_events.GetM core) = new_owner _ _ _ core _ refl (λ h. refl)
row_on s dir_states.S owner (dir_events.GetM core) = new_owner _ _ _ core _ refl (λ h. refl)
row_on s dir_states.M (Some owner) (dir_events.GetS core) =
    cond_both (owner.0 == core.0) _ _ (RowMoves _ _ _) (λ own. tt) (λ other. record {
      gives = λ h. nothing h;
      owner_is = λ x owns away. nothing owns;
      stays = λ home same. nothing home;
      brings = λ h. nothing h;
    })
row_on s dir_states.M (Some owner) (dir_events.GetM core) =
    cond_both (owner.0 == core.0) _ _ (RowMoves _ _ _) (λ own. tt)
    (λ other. new_owner _ _ _ core _ refl (λ h. nothing h))
row_on s dir_states.M (Some owner) (dir_events.PutS core) =
    cond_both (owner.0 == core.0) _ _ (RowMoves _ _ _) (λ own. tt)
    (λ other. same_owner _ _ _ _ _ (λ h. nothing h) (λ h. h))
row_on s dir_states.M (Some owner) (dir_events.PutM core) =
    cond_both (owner.0 == core.0) _ _ (RowMoves _ _ _) (λ own. record {
      gives = λ h. nothing h;
      owner_is = λ x owns away. nothing owns;
      stays = λ home same. absurd (true≢false same);
      brings = λ h. inr (core, refl, eq-eqb core.0 owner.0 (sym (eqb-true owner.0 core.0 own)));
    })
    (λ other. same_owner _ _ _ _ _ (λ h. nothing h) (λ h. h))
row_on s dir_states.M _ _ = tt
row_on s dir_states.S_D owner (dir_events.PutS core) = same_owner _ _ _ _ _ (λ h. nothing h) (λ h. h)
row_on s dir_states.S_D owner (dir_events.PutM core) = same_owner _ _ _ _ _ (λ h. nothing h) (λ h. h)
row_on s dir_states.S_D owner dir_events.DataHome = record {
  gives = λ h. nothing h;
  owner_is = λ x owns away. owns;
  stays = λ home same. absurd (true≢false same);
  brings = λ h. inl refl;
}
row_on s dir_states.S_D owner _ = tt
row_on s _ owner dir_events.DataHome = tt
row_on s _ owner _ = same_owner _ _ _ _ _ (λ h. refl) (λ h. refl)

row_moves : (exclusive : Bool) (line : Line) (event : DirEvent)
    → RowMoves line.directory line.owner event (cell exclusive line.directory line.owner line.sharers event)
row_moves exclusive line event =
    by_setting (λ directory owner event row. RowMoves directory owner event row) line.sharers
    (λ directory owner event. row_on line.sharers directory owner event)
    (λ owner core. same_owner dir_states.I owner (dir_events.GetS core) dir_states.S (dir_sends.Data 0) (λ h. refl)
    (λ h. refl))
    exclusive line.directory line.owner event

-- ---- the blocks

-- The blocks after the row.
abbrev pub served_blocks : DirEvent → DirSends → Bool → Blocks → Blocks
served_blocks event sent writes blocks = record blocks {
  arriving = λ x. if sends_data sent && is_named (requester event) x then blocks.home else blocks.arriving x;
  home = if writes then home_after_row event blocks else blocks.home;
}

-- Where a block is forwarded or an Inv sent, no Put-Ack waits.
no_put_ack : (cores : ℕ) (line : Line) (event : DirEvent) (sent : DirSends) → HasRoomAtService cores line event sent
    → (x : ℕ) → x < cores
    → (is_named (forwarded_to sent) x ≡ true → (line.part x).look.put_ack ≡ false)
    × (is_sent_inv sent x ≡ true → (line.part x).look.put_ack ≡ false)
no_put_ack cores line event sent room x below =
    (λ h. go (forwarded_to sent) room.forward h, λ h. not-true (line.part x).look.put_ack (last (room.inv x below h)))
  where
    last : (has_room_for_inv (line.part x).look) ≡ true → not (line.part x).look.put_ack ≡ true
    last h = (and_parts (not (line.part x).look.inv && is_no_forward (line.part x).look.forward)
        (not (line.part x).look.put_ack) h).1

    go : (o : Option CoreId) → IfSome o (λ owner. IsTrue (has_room_for_forward (line.part owner.0).look))
        → is_named o x ≡ true
        → (line.part x).look.put_ack ≡ false
    go None room h = nothing h
    go (Some owner) room h =
        not-true (line.part x).look.put_ack
        (and_parts (is_no_forward (line.part x).look.forward) (not (line.part x).look.put_ack)
        (subst (λ y. has_room_for_forward (line.part y).look ≡ true) (sym (eqb-true x owner.0 h)) room)).1

abbrev is_put_m_event : DirEvent → Bool
is_put_m_event (dir_events.PutM core) = true
is_put_m_event _ = false

abbrev put_m_core : DirEvent → ℕ
put_m_core (dir_events.PutM core) = core.0
put_m_core _ = 0

-- A turn of the directory keeps the blocks current.
pub serve_current : (exclusive : Bool) (cores : ℕ) (line : Line) (roles : Roles) (event : DirEvent) (home : Block)
    (step : DirStep) (blocks : Blocks) (newest : Block) → cores ≤ 64
    → IsCoherent cores line roles → IsWithin cores event → IsTrue (is_asked_for line event)
    → row_of exclusive (entry_of line home) event ≡ dir_rows.Go step
    → IsCurrent cores line blocks newest
    → IsCurrent cores (after_service line event step) (served_blocks event step.sends step.writes_home blocks) newest
serve_current exclusive cores line roles event home step blocks newest most coherent within
    wants row current =
    let room = (has_room exclusive cores line roles most coherent).serve event home step within wants row in
    let moves : Moves line.directory line.owner event step.state step.owner step.sends step.writes_home = subst
    (RowMoves line.directory line.owner event) row (row_moves exclusive line event) in
    record {
      copy = λ x below h.
          let free = no_put_ack cores line event step.sends room x below in
          current.copy x below (back_newest step.sends (who event) x (is_named (requester event) x)
          (line.part x) free.0 free.1 h);
      arriving = λ x below h. arriving moves x below (sends_data step.sends && is_named (requester event) x) refl h;
      put = λ x below owns h.
          let back = back_put step.sends (who event) x (is_named (requester event) x) (line.part x) h in
          current.put x below (moves.owner_is x owns back.0) back.1;
      home = home_is moves step.writes_home refl;
      mail = λ h. current.mail (and_parts (not (is_data_home event)) line.home h).1;
    }
  where
    arriving : Moves line.directory line.owner event step.state step.owner step.sends step.writes_home → (x : ℕ)
        → x < cores → (b : Bool) → (sends_data step.sends && is_named (requester event) x) ≡ b
        → is_no_data (sent_to step.sends (who event) x (is_named (requester event) x) (line.part x)).look.incoming
        ≡ false
        → (if b then blocks.home else blocks.arriving x) ≡ newest
    arriving moves x below true e h = current.home (moves.gives
        (and_parts (sends_data step.sends) (is_named (requester event) x) e).0)
    arriving moves x below false e h = current.arriving x below
        (back_arriving step.sends (who event) x (is_named (requester event) x) (line.part x) e h)

    brought_is : (event : DirEvent) → IsWithin cores event → IsTrue (is_asked_for line event)
        → (is_data_home event ≡ true) ⊎ ((core : CoreId) × (event ≡ dir_events.PutM core)
        × (is_named line.owner core.0 ≡ true)) → home_after_row event blocks ≡ newest
    brought_is dir_events.DataHome within wants from = current.mail wants
    brought_is (dir_events.PutM core) within wants (inr h) = current.put core.0 within
        (subst (λ y. is_named line.owner y ≡ true) (sym (ap put_m_core h.1)) h.2) wants
    brought_is _ within wants (inl h) = nothing h
    brought_is _ within wants (inr h) = absurd (true≢false (sym (ap is_put_m_event h.1)))

    home_is : Moves line.directory line.owner event step.state step.owner step.sends step.writes_home → (b : Bool)
        → step.writes_home ≡ b → is_at_home step.state ≡ true
        → (if b then home_after_row event blocks else blocks.home) ≡ newest
    home_is moves true e h = brought_is event within wants (moves.brings e)
    home_is moves false e h = current.home (moves.stays h e)
