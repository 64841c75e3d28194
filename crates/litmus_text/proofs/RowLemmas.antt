-- What a row keeps of a line's words.
use Rattle.std.proofs.Common.{◌≡◌, ℕ, ◌≤◌, List, [], ◌++◌, length, take, sym, ◌∙◌, ap, append-nil}
use Rattle.std.proofs.lemmas.List.{take_all}
use Rattle.std.proofs.Math.Seq.{take-append_seam}

-- all the words, where they are few
pub row_of_few : {X : Type 0} (row left all : List X) (n : ℕ) → row ++ left ≡ all → left ≡ [] → length row ≤ n →
    row ≡ take n all
row_of_few row left all n e none few =
    let whole : row ≡ all = sym (append-nil row) ∙ ap (λ ws. row ++ ws) (sym none) ∙ e in
    sym (take_all n row few) ∙ ap (take n) whole

-- the first n words, once it has n
pub row_when_full : {X : Type 0} (row left all : List X) (n : ℕ) → row ++ left ≡ all → length row ≡ n → row ≡ take n all
row_when_full row left all n e full =
    sym (take-append_seam row left) ∙ ap (λ k. take k (row ++ left)) full ∙ ap (take n) e
