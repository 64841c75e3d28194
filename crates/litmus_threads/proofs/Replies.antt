-- Replies that are looked up one after the other.
use Rattle.std.proofs.Common.{◌≡◌, ℕ, ◌+◌, ◌<◌, List, [], ◌∷◌, ◌++◌, Option, get_or, length, subst, sym, take}
use Rattle.std.proofs.lemmas.List.{take_more}
use Rattle.std.specs.List.{AllZip}
use Rattle.litmus_test.specs.declared.outcomes.named_request.NamedRequest.{NamedRequest}
use Rattle.litmus_threads.specs.Found.{HasReply}
use Rattle.receipt_ledger.specs.declared.receipt.Receipt.{Receipt}

-- two lists that match place by place do so with one more place
pub zip-push : {X Y : Type 0} (R : X → Y → Type 0) (xs : List X) (ys : List Y) (x : X) (y : Y)
    → AllZip R xs ys → R x y → AllZip R (xs ++ x ∷ []) (ys ++ y ∷ [])
zip-push R [] [] x y all one = (one, tt)
zip-push R [] (b ∷ ys) x y all one = absurd all
zip-push R (a ∷ xs) [] x y all one = absurd all
zip-push R (a ∷ xs) (b ∷ ys) x y (first, rest) one = (first, zip-push R xs ys x y rest one)

-- one more request has its reply
pub replies-more : (receipts shown : List Receipt) (named_requests : List (Option NamedRequest)) (i reply : ℕ)
    (d : Option NamedRequest)
    (values grown : List ℕ) → i < length named_requests → shown ≡ receipts
    → AllZip (HasReply receipts) (take i named_requests) values → HasReply shown (get_or named_requests i d) reply
    → grown ≡ values ++ reply ∷ [] → AllZip (HasReply receipts) (take (i + 1) named_requests) grown
replies-more receipts shown named_requests i reply d values grown inside same so_far has grows =
    let own : HasReply receipts (get_or named_requests i d) reply =
    subst (λ (rs : List Receipt). HasReply rs (get_or named_requests i d) reply) same has in
    let Fits : List (Option NamedRequest) → List ℕ → Type 0 = AllZip (HasReply receipts) in
    subst (Fits (take (i + 1) named_requests)) (sym grows)
    (subst (λ (ss : List (Option NamedRequest)). Fits ss (values ++ reply ∷ []))
    (sym (take_more named_requests i d inside))
    (zip-push (HasReply receipts) (take i named_requests) values (get_or named_requests i d) reply so_far own))
