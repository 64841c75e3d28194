use Rattle.std.proofs.Common.{◌≡◌, ◌∙◌, ap, arith, eq-eqb, sym}
use Rattle.std.specs.Prelude.{◌==◌}
use Rattle.std.proofs.lemmas.Bool.{ne_eqb}
use Rattle.core_thread_system.specs.Core.{CoreView}
use Rattle.drain.specs.Owned.{HasItsOwn}
use Rattle.drain.specs.Receipts.{receipts_of_core}
use Rattle.drain.proofs.Appended.{filtered-appended, filtered-left}
use Rattle.drain.proofs.Counting.{all-more}
use Rattle.drain.proofs.gathered.append_at.Goals as goal
use Rattle.drain.proofs.gathered.append_at.Goals.{then-number_of-number+in_ok-append_core, else-number_of-number}

pub loop-core-preserved : goal.loop-core-preserved
loop-core-preserved g c =
    let setup = g.M.SystemNames.setup in
    let cores = c.args.cores.now in
    let i = c.loop-core.core-index in
    let core = c.core-item.result in
    let here = c.core-item.is in
    let number = c.number_of.ensures.number in
    let so_far = c.loop-core.invariant in
    let before = c.args.receipts.now.items in
    let out = c.loop-core.receipts.items in
    elim c.if-number_of-number.branch [
      | then-number_of-number+in_ok-append_core w ↦
          let told = w.in_ok-append_core.ensures in
          let same = sym number ∙ w.if-number_of-number.true in record {
            receipts =
                filtered-appended (λ (v : CoreView). v.core.0 == c.args.number)
                (receipts_of_core setup) cores i core before out
                c.if-number_of-number.receipts.items (omega arith) here (eq-eqb _ _ same) so_far.receipts
                (ap (λ v. v.items) w.receipts-is ∙ told.receipts);
            own =
                all-more (λ (v : CoreView). v.core.0 ≡ c.args.number → HasItsOwn setup setup.slices v) cores i core
                (omega arith) here so_far.own (λ is. told.own);
          }
      | else-number_of-number w ↦
          let other = w.if-number_of-number.false in record {
            receipts =
                ap (λ v. v.items) w.receipts-is
                ∙ filtered-left (λ (v : CoreView). v.core.0 == c.args.number)
                (receipts_of_core setup) cores i core before
                out (omega arith) here (ne_eqb _ _ (λ same. other (number ∙ same))) so_far.receipts;
            own =
                all-more (λ (v : CoreView). v.core.0 ≡ c.args.number → HasItsOwn setup setup.slices v) cores i core
                (omega arith) here so_far.own (λ is. absurd (other (number ∙ is)));
          }
    ]
