-- One more part is printed.
use Rattle.std.proofs.Common.{◌≡◌, ◌+◌, ℕ, List, [], ◌∷◌, ◌++◌, ap, arith, inl, inr, length, length-append, refl, subst, sym}
use Rattle.std.proofs.Common.{get_or, take, ◌∙◌}
use Rattle.std.specs.Prelude.{◌≢◌, ◌≤◌, ltb, Option, Some, None, All, IfSome, is_some}
use Rattle.std.specs.Borrow.{Bor}
use Rattle.std.proofs.lemmas.List.Quantifiers.{Any-push}
use Rattle.litmus_test.specs.declared.outcomes.ended.Ended.{Ended}
use Rattle.litmus_test.specs.declared.outcomes.ended.Ended.TheVariants as ended_kinds
use Rattle.std.specs.Io.KnownBytes.{Appends}
use Rattle.std.proofs.KnownBytes.{Appends-nil, Appends-trans}
use Rattle.std.proofs.Math.ListN.{get_or-append}
use Rattle.std.proofs.Math.Seq.{get_or-append_seam, take-append_seam}
use Rattle.std.proofs.lemmas.Bool.{cases_lt, ltb-true}
use Rattle.std.proofs.lemmas.List.{append-nil, take-append-le}
use Rattle.std.proofs.lemmas.List.Concat.{flat_map-append}
use Rattle.std.proofs.lemmas.List.Elements.{All-get_or, All-nil, All-push}
use Rattle.std.proofs.lemmas.List.Sums.{sum_by_push}
use Rattle.litmus_rounds.specs.PartForm.{text_of_part, text_of_parts}
use Rattle.litmus_rounds.specs.declared.part.Part.{Part}
use Rattle.litmus_rounds.specs.Parts.{ArePrinted, AreParts, IsPartOf, IsPartWith, IsPrintedPart}
use Rattle.litmus_rounds.specs.Parts.{PrintsParts, count_of_parts}
use Rattle.litmus_rounds.specs.Run.{seed_of}
use Rattle.litmus_test.specs.declared.test.LitmusTest.{LitmusTest}
use Rattle.mshr_file.specs.Miss.{Bound}

module _ (test : LitmusTest) (bound : Bound) (sum seed most : ℕ) where
  -- no part
  pub printed_none : (out : Option (List ℕ)) → ArePrinted test bound sum 0 seed most out out
  printed_none out = record {
    parts = [];
    are = record {
      each = All-nil (IsPartOf test bound);
      with = λ k d within. absurd (omega (arith, within));
      counted = refl;
    };
    printed = Appends-nil out;
  }

  -- the part that begins where the others end
  parts_push : (count more : ℕ) (parts : List Part) (part : Part) → AreParts test bound sum count seed most parts
      → IsPartOf test bound part → IsPartWith sum most (seed_of seed count) more part
      → AreParts test bound sum (count + more) seed most (parts ++ part ∷ [])
  parts_push count more parts part are is says = record {
    each = All-push (IsPartOf test bound) parts part are.each is;
    with = λ k d within.
        let all = parts ++ part ∷ [] in
        let Says : List Part → Part → Type 0 = λ before this.
        IsPartWith sum most (seed_of seed (count_of_parts before)) this.count this in
        elim (cases_lt k (length parts)) [
          | inl early ↦
              subst (λ before. Says before (get_or all k d)) (sym (take-append-le k parts (part ∷ []) (omega (arith, early))))
              (subst (Says (take k parts)) (sym (get_or-append parts (part ∷ []) d k early)) (are.with k d early))
          | inr late ↦
              let at : k ≡ length parts = omega (arith, late, within, length-append parts (part ∷ [])) in
              let here : part ≡ get_or all k d =
              sym (get_or-append_seam parts part [] d) ∙ ap (λ i. get_or all i d) (sym at) in
              let before : parts ≡ take k all = sym (take-append_seam parts (part ∷ [])) ∙ ap (λ i. take i all) (sym at) in
              subst (λ front. Says front (get_or all k d)) before (subst (Says parts) here (record {
                of_test = says.of_test;
                limited = says.limited;
                begins = says.begins ∙ ap (seed_of seed) (sym are.counted);
                many = refl;
              }))
        ];
    counted = omega (arith, sum_by_push (λ (part : Part). part.count) parts part, are.counted, says.many);
  }

  pub printed_next : (count more : ℕ) (ended : Ended) (a b c : Option (List ℕ))
      → ArePrinted test bound sum count seed most a b
      → IsPrintedPart test bound sum more (seed_of seed count) most b c ended
      → ArePrinted test bound sum (count + more) seed most a c
  printed_next count more ended a b c some next = record {
    parts = some.parts ++ next.part ∷ [];
    are = parts_push count more some.parts next.part some.are next.is next.with;
    printed = subst (Appends a c)
        (sym (flat_map-append text_of_part some.parts (next.part ∷ [])
        ∙ ap (λ (t : List ℕ). text_of_parts some.parts ++ t) (append-nil (text_of_part next.part))))
        (Appends-trans a b c (text_of_parts some.parts) (text_of_part next.part) some.printed next.printed);
  }

  -- a part with a round that has no outcome is the last
  pub printed_last : (count more all : ℕ) (ended : Ended) (a b c : Option (List ℕ))
      → ArePrinted test bound sum count seed most a b
      → IsPrintedPart test bound sum more (seed_of seed count) most b c ended
      → ended ≢ ended_kinds.Done → count + more ≤ all → PrintsParts test bound sum all seed most a c
  unfolding printed_next
  printed_last count more all ended a b c some next not_done within = record {
    done = count + more;
    within = within;
    printed = printed_next count more ended a b c some next;
    whole = inr (Any-push (λ (part : Part). part.ended ≢ ended_kinds.Done) some.parts next.part
        (λ done. not_done (sym next.ends ∙ done)));
  }

-- what holds of each part holds of the one at a place
pub known_at : (P : Part → Type 0) (parts : List Part) (i : ℕ) (known : Option (Bor Part))
    → is_some known ≡ ltb i (length parts) → IfSome known (λ b. b.now ≡ get_or parts i b.now) → All P parts
    → IfSome known (λ b. P b.now)
known_at P parts i None within found all = tt
known_at P parts i (Some b) within found all =
    subst P (sym found) (All-get_or P parts i b.now (ltb-true i (length parts) (sym within)) all)
