-- The last receipt of a port is the one that came last.
use Rattle.std.proofs.Common.{◌≡◌, ◌-◌, ℕ, List, [], ◌∷◌, ◌++◌, length, length-append, Ok, sym, ap, ◌∙◌, subst, arith}
use Rattle.std.proofs.lemmas.List.{get_or_push}
use Rattle.std.proofs.lemmas.Option.{get_or_from_slice_get}
use Rattle.address_map.specs.declared.request.Request.{Request}
use Rattle.receipt_ledger.specs.Answers.{AfterAsking, AfterRequest, IsLastOf, IsReceiptFor}
use Rattle.receipt_ledger.specs.Port.{PortView, IsWithRoom, with_receipt, with_request}
use Rattle.receipt_ledger.specs.declared.receipt.Answer.TheVariants as answers
use Rattle.receipt_ledger.specs.declared.receipt.Receipt.{Receipt}
use Rattle.slice_answer.specs.declared.answer.Issue.TheVariants as issues

pub last-pushed : (receipts : List Receipt) (r last : Receipt) → IsLastOf (receipts ++ r ∷ []) last → last ≡ r
last-pushed receipts r last is =
    let long = length-append receipts (r ∷ []) in
    sym (get_or_from_slice_get (receipts ++ r ∷ []) (length (receipts ++ r ∷ []) - 1) last r is)
    ∙ get_or_push receipts r r (length (receipts ++ r ∷ []) - 1) (omega (arith, long))

-- It has the number that the slice returned.
pub done-number : (old new : PortView) (request : Request) (number : ℕ) (last : Receipt)
    → AfterAsking old request (Ok (issues.Done number)) new → IsLastOf new.receipts last → last.number ≡ number
done-number old new request number last after is =
    let receipts = ap (λ (p : PortView). p.receipts) after.3 in
    ap (λ (r : Receipt). r.number)
    (last-pushed old.receipts after.0 last (subst (λ given. IsLastOf given last) receipts is))
    ∙ after.2

-- So a port's last receipt is that of a request that was done at once.
pub last-done : (old new : PortView) (request : Request) (number : ℕ) (last : Receipt)
    → AfterAsking old request (Ok (issues.Done number)) new → IsLastOf new.receipts last
    → AfterRequest old request (Ok (answers.Done last)) new
last-done old new request number last after is =
    let receipts = ap (λ (p : PortView). p.receipts) after.3 in
    let same = last-pushed old.receipts after.0 last (subst (λ given. IsLastOf given last) receipts is) in (
      subst (IsReceiptFor old request) (sym same) after.1,
      subst (λ r. IsWithRoom (with_receipt (with_request old request) r) new) (sym same) after.3,
    )
