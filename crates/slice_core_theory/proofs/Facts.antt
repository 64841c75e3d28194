-- What is true of each core of a line that the machine reaches, and is needed to follow its numbers.
use Rattle.std.proofs.Common.{◌≡◌, ℕ, ◌+◌, ◌<◌, ◌≤◌, ◌==◌, ◌&&◌, ◌||◌, Bool, true, false, not, refl, ap, sym, ◌∙◌}
use Rattle.std.proofs.Common.{subst, arith, if◌then◌else◌}
use Rattle.std.proofs.Math.Bool.{or-true}
use Rattle.std.proofs.lemmas.Bool.{and_parts, eqb-true}
use Rattle.address_map.proofs.Members.{count_of-most}
use Rattle.address_map.specs.declared.block.Block.{Block}
use Rattle.cache_table.specs.CopyState.{is_waiting}
use Rattle.cache_table.specs.Law.{sends_data}
use Rattle.cache_table.specs.declared.row.CacheEvent.TheVariants as cache_events
use Rattle.cache_table.specs.declared.row.CacheSends.{CacheSends}
use Rattle.cache_table.specs.declared.state.CopyState.{CopyState}
use Rattle.directory_table.proofs.RowLaws.{cell-lawful}
use Rattle.directory_table.specs.Law.{AwaitsInvalidated, IfGo, forwarded_to, is_named, is_sent_inv, requester}
use Rattle.directory_table.specs.Row as Directory
use Rattle.directory_table.specs.declared.row.DirEvent.{DirEvent}
use Rattle.directory_table.specs.declared.row.DirRow.{DirRow}
use Rattle.directory_table.specs.declared.row.DirRow.TheVariants as dir_rows
use Rattle.directory_table.specs.declared.row.DirSends.{DirSends}
use Rattle.directory_table.specs.declared.row.DirSends.TheVariants as dir_sends
use Rattle.directory_table.specs.declared.row.DirStep.{DirStep}
use Rattle.protocol_coherence.proofs.Count.{count_below-some}
use Rattle.protocol_coherence.proofs.Each.{all_words, each_fit, each_fit-at, if_so, if_so-at, not-at}
use Rattle.protocol_coherence.proofs.Frame.{by_test}
use Rattle.protocol_coherence.proofs.Steps.{reached_coherent}
use Rattle.protocol_coherence.specs.Coherent.{debts}
use Rattle.protocol_coherence.specs.Fit.{awaits, is_counting, is_no_data, is_no_forward, owes}
use Rattle.protocol_coherence.specs.Line.{Line, Look, Part, near_of}
use Rattle.protocol_coherence.specs.LineSteps.{Reached, part_after_ack, part_after_row, part_after_answer, beginning}
use Rattle.protocol_coherence.specs.LineSteps.{change_if, count}
use Rattle.protocol_coherence.specs.LineSteps.{entry_of, part_after_forward, further, part_with_data, invalidated_by}
use Rattle.protocol_coherence.specs.LineSteps.{serve, stands_ack}
use Rattle.protocol_coherence.specs.LineSteps.{turn, who}

-- ---- each core

no_inv_with_ack : each_fit (λ n l. if_so l.inv (λ _. not l.sent)) ≡ true
unfolding all_words
no_inv_with_ack = refl

inv_with_one : each_fit (λ n l. if_so l.inv (λ _. is_no_forward l.forward || not l.put_ack)) ≡ true
unfolding all_words
inv_with_one = refl

data_not_counting : each_fit (λ n l. if_so (not (is_no_data l.incoming)) (λ _. not (is_counting l.state))) ≡ true
unfolding all_words
data_not_counting = refl

data_waiting : each_fit (λ n l. if_so (not (is_no_data l.incoming)) (λ _. is_waiting l.state)) ≡ true
unfolding all_words
data_waiting = refl

idle_awaits_none : each_fit (λ n l. if_so (not (is_waiting l.state)) (λ _. not (awaits l))) ≡ true
unfolding all_words
idle_awaits_none = refl

counts_owed : (awaited : Bool) (wants owed counted : ℕ) → owed + counted ≡ (if awaited then wants else 0) → 1 ≤ owed
    → counted < wants
counts_owed true wants owed counted sum some = omega (arith, sum, some)
counts_owed false wants owed counted sum some = absurd (omega (arith, sum, some))

module _ (exclusive : Bool) (cores : ℕ) (line : Line) (some : 0 < cores) (most : cores ≤ 64)
    (reached : Reached exclusive cores line) (c : ℕ) (within : c < cores) where
  passes : (guard test : Look → Bool) → each_fit (λ n l. if_so (guard l) (λ _. test l)) ≡ true
      → guard (line.part c).look ≡ true → test (line.part c).look ≡ true
  passes guard test tested here =
      let kept = reached_coherent exclusive cores line some most reached in
      if_so-at _ _ (each_fit-at _ tested (near_of line kept.0 c) (line.part c).look (kept.1.fit c within)) here

  -- An Inv waits only for a core whose last acknowledgement was taken.
  pub inv_without_ack : (line.part c).look.inv ≡ true → (line.part c).look.sent ≡ false
  inv_without_ack waits = not-at _ (passes (λ l. l.inv) (λ l. not l.sent) no_inv_with_ack waits)

  -- After an Inv waits a forwarded request or a Put-Ack, and never both.
  pub inv_before_one : (line.part c).look.inv ≡ true
      → (is_no_forward (line.part c).look.forward || not (line.part c).look.put_ack) ≡ true
  inv_before_one waits = passes (λ l. l.inv) (λ l. is_no_forward l.forward || not l.put_ack) inv_with_one waits

  -- Data wait only for a core that waits for them, and has none.
  pub data_before_counting : is_no_data (line.part c).look.incoming ≡ false
      → is_counting (line.part c).look.state ≡ false
  data_before_counting waits =
      not-at _ (passes (λ l. not (is_no_data l.incoming)) (λ l. not (is_counting l.state)) data_not_counting
      (ap not waits))

  pub data_while_waiting : is_no_data (line.part c).look.incoming ≡ false
      → is_waiting (line.part c).look.state ≡ true
  data_while_waiting waits =
      passes (λ l. not (is_no_data l.incoming)) (λ l. is_waiting l.state) data_waiting (ap not waits)

  -- A core that waits for nothing has counted nothing.
  pub counts_while_waiting : is_waiting (line.part c).look.state ≡ false → (line.part c).counted ≡ 0
  counts_while_waiting still =
      let kept = reached_coherent exclusive cores line some most reached in
      (kept.1.counted c within).none
      (not-at _ (passes (λ l. not (is_waiting l.state)) (λ l. not (awaits l)) idle_awaits_none (ap not still)))

  -- Where an acknowledgement waits for another core, that core has counted fewer than it wants.
  pub counts_fewer : (to : ℕ) → stands_ack (line.part c) to ≡ true → (line.part to).counted < (line.part to).wants
  unfolding owes
  counts_fewer to waits =
      let kept = reached_coherent exclusive cores line some most reached in
      let keeper = kept.0.keeper in
      let parts = and_parts (line.part c).look.sent ((line.part c).owes_to == to) waits in
      let due = ap (λ b. (line.part c).look.inv || b) parts.0 ∙ or-true (line.part c).look.inv in
      let named : to ≡ keeper =
      sym (eqb-true (line.part c).owes_to to parts.1) ∙ kept.1.balanced.due c within due in
      subst (λ k. (line.part k).counted < (line.part k).wants) (sym named)
      (counts_owed (awaits (line.part keeper).look) (line.part keeper).wants (debts cores line.part)
      (line.part keeper).counted kept.1.balanced.sum
      (count_below-some cores (λ x. owes (line.part x).look) c within due))

-- ---- how many acknowledgements a core wants

abbrev IsSmall : Part → Type 0
IsSmall part = part.wants ≤ 64

small-answered : (sent : DirSends) (part : Part) → AwaitsInvalidated sent → IsSmall part →
    IsSmall (part_after_answer sent part)
small-answered dir_sends.Nothing part law small = small
small-answered (dir_sends.Data acks) part law small = omega (arith, law)
small-answered (dir_sends.DataAndInv acks invalidated) part law small =
    let most = count_of-most invalidated in omega (arith, law, most)
small-answered dir_sends.DataE part law small = omega arith
small-answered (dir_sends.FwdGetS owner) part law small = small
small-answered (dir_sends.FwdGetM owner) part law small = small
small-answered dir_sends.PutAck part law small = small

small-forwarded : (sent : DirSends) (core : ℕ) (part : Part) → IsSmall part →
    IsSmall (part_after_forward sent core part)
small-forwarded dir_sends.Nothing core part small = small
small-forwarded _ core part small = small

row_awaits : (exclusive : Bool) (line : Line) (home : Block) (event : DirEvent) (step : DirStep)
    → Directory.row_of exclusive (entry_of line home) event ≡ dir_rows.Go step → AwaitsInvalidated step.sends
row_awaits exclusive line home event step row =
    subst (λ (r : DirRow). IfGo r (λ next owns shares sent writes. AwaitsInvalidated sent)) row
    (cell-lawful exclusive line.directory line.owner line.sharers event).acknowledgements

small-counted : (before : Part) (to from : Bool) (next : CopyState) (sent : CacheSends) → IsSmall before
    → IsSmall (change_if from part_after_ack
    (change_if to (part_after_row (cache_events.InvAck 0 0) 1 next sent) before))
small-counted before true true next sent small = small
small-counted before true false next sent small = small
small-counted before false true next sent small = small
small-counted before false false next sent small = small

small-served : (before : Part) (asks asked invalidated : Bool) (core : ℕ) (sent : DirSends) → AwaitsInvalidated sent
    → IsSmall before
    → IsSmall (change_if invalidated (invalidated_by core)
    (change_if asked (part_after_forward sent core) (change_if asks (part_after_answer sent) before)))
small-served before asks asked invalidated core sent law small =
    by_test IsSmall invalidated (invalidated_by core) to_forwarded (λ on. forwarding) (λ off. forwarding)
  where
    to_requester : Part
    to_requester = change_if asks (part_after_answer sent) before

    to_forwarded : Part
    to_forwarded = change_if asked (part_after_forward sent core) to_requester

    answering : IsSmall to_requester
    answering = by_test IsSmall asks (part_after_answer sent) before (λ on. small-answered sent before law small)
        (λ off. small)

    forwarding : IsSmall to_forwarded
    forwarding = by_test IsSmall asked (part_after_forward sent core) to_requester
        (λ on. small-forwarded sent core to_requester answering) (λ off. answering)

-- No core ever wants more acknowledgements than there can be cores.
pub wants_few : (exclusive : Bool) (cores : ℕ) (line : Line) → Reached exclusive cores line → (x : ℕ)
    → (line.part x).wants ≤ 64
wants_few exclusive cores line beginning x = omega arith
wants_few exclusive cores line (further {line = before} reached (turn core event next sent within here row)) x =
    by_test IsSmall (sends_data sent && x == (before.part core).names) part_with_data
    (change_if (x == core) (part_after_row event 0 next sent) (before.part x)) (λ on. omega arith)
    (λ off. by_test IsSmall (x == core) (part_after_row event 0 next sent) (before.part x)
    (λ here. wants_few exclusive cores before reached x) (λ away. wants_few exclusive cores before reached x))
wants_few exclusive cores line
    (further {line = before} reached (count core from next sent within sender here row)) x =
    small-counted (before.part x) (x == core) (x == from) next sent (wants_few exclusive cores before reached x)
wants_few exclusive cores line
    (further {line = before} reached (serve event home step within here row)) x =
    small-served (before.part x) (is_named (requester event) x) (is_named (forwarded_to step.sends) x)
    (is_sent_inv step.sends x) (who event) step.sends (row_awaits exclusive before home event step row)
    (wants_few exclusive cores before reached x)
