use Rattle.std.proofs.Common.{◌+◌, ◌∙◌, ◌≡◌, ◌≤◌, List, map, not, ap, arith, refl, subst, sym}
use Rattle.address_map.specs.declared.config.Config.{Config}
use Rattle.address_map.specs.declared.address.SliceId.{SliceId}
use Rattle.core_thread_system.specs.Core.{CoreView}
use Rattle.drain.proofs.SettledInTurn.{AreTried, all-tried, all-valued, none-settled, tried-again, tried-first}
use Rattle.drain.proofs.SettledInTurn.{tried-settled}
use Rattle.drain.proofs.Valued.{none-set, unset-words}
use Rattle.drain.specs.Audited.{IsSettledSlice}
use Rattle.drain.specs.Valued.{with_slice}
use Rattle.drain.proofs.settled.settle_all.Goals as goal
use Rattle.drain.proofs.settled.settle_all.Goals.{in-Ok, in-Err-Differs+then-is_none, in-Err-Differs+else-is_none}

pub loop-number-init : goal.loop-number-init
loop-number-init g c =
    let setup = g.M.SystemNames.setup in
    let cores = c.args.cores.now in record {
      same = refl;
      words = unset-words setup c.args.counters.now c.requires.counters;
      settled = record {
        settled = none-settled setup cores;
        set = c.requires.counters ∙ none-set setup cores setup.counters;
      };
    }

pub loop-number-preserved : goal.loop-number-preserved
loop-number-preserved g c =
    let setup = g.M.SystemNames.setup in
    let cores = c.args.cores.now in
    let n = c.loop-number.number in
    let slice : SliceId = record { 0 = n } in
    let so_far = c.loop-number.invariant in
    let old = c.loop-number.counters in
    let new = c.settle_slice.new.counters in
    let named = ap (λ (x : Config). x.slices) c.config.ensures.named in
    record {
      same = c.settle_slice.ensures.cores ∙ so_far.same;
      words = c.settle_slice.ensures.words;
      settled = elim c.match-settle_slice.branch [
        | in-Ok w ↦
            let here : IsSettledSlice setup cores n =
            subst (λ (us : List CoreView). IsSettledSlice setup us n) so_far.same w.in-Ok.ensures.settled in
            let set : new ≡ map (with_slice setup cores n) old =
            subst (λ (us : List CoreView). new ≡ map (with_slice setup us n) old) so_far.same
            w.in-Ok.ensures.counters in
            subst (λ d. AreTried setup cores (n + 1) d new) (sym w.differs-is)
            (tried-settled setup cores n c.loop-number.differs old new so_far.settled here set)
        | in-Err-Differs+then-is_none w ↦
            subst (λ d. AreTried setup cores (n + 1) d new) (sym w.differs-is)
            (tried-first setup cores slice c.loop-number.differs old new (omega (arith, named)) so_far.settled
            (w.is_none.ensures ∙ ap not w.if-is_none.true))
        | in-Err-Differs+else-is_none w ↦
            subst (λ d. AreTried setup cores (n + 1) d new) (sym w.differs-is)
            (tried-again setup cores n c.loop-number.differs old new so_far.settled
            (w.is_none.ensures ∙ ap not w.if-is_none.false))
      ];
    }

pub returns-in-None-clause-settled : goal.returns-in-None-clause-settled
returns-in-None-clause-settled g c =
    let named = ap (λ (x : Config). x.slices) c.config.ensures.named in
    (all-tried g.M.SystemNames.setup c.args.cores.now c.loop-number.number _ c.loop-number.counters
    c.loop-number.invariant.settled c.in-None.is (omega (arith, named))).settled

pub returns-in-None-clause-counters : goal.returns-in-None-clause-counters
returns-in-None-clause-counters g c =
    let setup = g.M.SystemNames.setup in
    let named = ap (λ (x : Config). x.slices) c.config.ensures.named in
    all-valued setup c.args.cores.now c.loop-number.counters
    (subst (λ (x : Config). 1 ≤ x.slices) c.config.ensures.named c.config.ensures.allowed.some_slice)
    (all-tried setup c.args.cores.now c.loop-number.number _ c.loop-number.counters
    c.loop-number.invariant.settled c.in-None.is (omega (arith, named)))
