use Rattle.std.proofs.Common.{◌≡◌, ap, true, false, ⊎_elim}
use Rattle.slice_core_cache.specs.Tags.{is_performed}
use Rattle.slice_core_cache.proofs.Replies.{marks-with, marks-without}
use Rattle.slice_core_cache.proofs.tags.Tags.set.Goals as goal

pub invariant_of-self : goal.invariant_of-self
invariant_of-self c =
    let performed : is_performed c.args.state ≡ true = ap is_performed c.in-Performed.is in
    rw c.insert.ensures
    (marks-with c.self.inside.states c.self.inside.replies c.args.tag c.args.state
    c.self.invariant c.requires performed)

pub invariant_of-self-in-Free : goal.invariant_of-self-in-Free
invariant_of-self-in-Free c =
    let none : is_performed c.args.state ≡ false =
    ⊎_elim (λ free. ap is_performed free) (λ opened. ap is_performed opened) c.in-Free.is in
    rw c.remove.ensures
    (marks-without c.self.inside.states c.self.inside.replies c.args.tag c.args.state
    c.self.invariant c.requires none)
