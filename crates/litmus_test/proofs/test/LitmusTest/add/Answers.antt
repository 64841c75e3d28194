use Rattle.litmus_test.specs.Text.{MayFollow}
use Rattle.litmus_test.proofs.BodyLemmas.{access_step, evict_step}
use Rattle.litmus_test.proofs.test.LitmusTest.add.Goals as goal

pub push_named-requires-clause-is : goal.push_named-requires-clause-is
unfolding MayFollow
push_named-requires-clause-is c =
    let may = rw c.in-Load.is at c.requires.may in
    access_step c.args.self.now c.in-Load.word _ may.0 (λ value same. absurd (cc)) (λ expect new same. absurd (cc))

pub push_step-requires-clause-is : goal.push_step-requires-clause-is
unfolding MayFollow
push_step-requires-clause-is c =
    let may = rw c.in-Store.is at c.requires.may in
    access_step c.args.self.now c.in-Store.word _ may.0 (λ value same. may.1) (λ expect new same. may.1)

pub push_named-requires-in-Add-clause-is : goal.push_named-requires-in-Add-clause-is
unfolding MayFollow
push_named-requires-in-Add-clause-is c =
    let may = rw c.in-Add.is at c.requires.may in
    access_step c.args.self.now c.in-Add.word _ may.0 (λ value same. absurd (cc)) (λ expect new same. absurd (cc))

pub push_named-requires-in-Cas-clause-is : goal.push_named-requires-in-Cas-clause-is
unfolding MayFollow
push_named-requires-in-Cas-clause-is c =
    let may = rw c.in-Cas.is at c.requires.may in
    access_step c.args.self.now c.in-Cas.word _ may.0 (λ value same. may.2) (λ expect new same. may.2)

pub push_step-requires-in-Evict-clause-is : goal.push_step-requires-in-Evict-clause-is
unfolding MayFollow
push_step-requires-in-Evict-clause-is c =
    let may = rw c.in-Evict.is at c.requires.may in evict_step c.args.self.now c.in-Evict.line may.1
