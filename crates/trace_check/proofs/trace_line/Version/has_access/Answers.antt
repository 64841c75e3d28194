use Rattle.std.proofs.Common.{sym, ◌∙◌}
use Rattle.std.proofs.lemmas.Bool.{not-true, false≢true, not_from_false, false_from_ne_true}
use Rattle.trace_check.proofs.FormLemmas.{no_compare_exchange, begins_otherwise}
use Rattle.trace_check.proofs.trace_line.Version.has_access.Goals as goal

pub returns-in-One : goal.returns-in-One
returns-in-One c = λ op word form. rw c.in-One.is (
  (λ other.
      no_compare_exchange _ op word
      (λ cas. false≢true (sym (not-true c.begins_with.result other)
      ∙ c.begins_with.ensures.1 cas)) form),
  λ of.
      not_from_false c.begins_with.result
      (false_from_ne_true c.begins_with.result
      (λ cas. begins_otherwise _ op word form of (c.begins_with.ensures.0 cas))),
)
