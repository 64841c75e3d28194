-- Claims are read word by word.
use Rattle.std.proofs.Common.{Bor, map, drop, get_or, ◌+◌, ◌≤◌, add-one, ◌≡◌, ℕ, ◌<◌, List, [], ◌∷◌, ◌++◌, length, refl}
use Rattle.std.proofs.Common.{sym, ap, subst, ◌∙◌, append_assoc, append-nil, suc, arith}
use Rattle.std.specs.Prelude.{◌&&◌}
use Rattle.std.specs.List.{list_all}
use Rattle.std.proofs.Math.Seq.{drop-cons}
use Rattle.std.proofs.lemmas.List.{length-map, get_or-map, map-append, drop_all}
use Rattle.litmus_test.specs.declared.claim.Claim.{Claim}
use Rattle.litmus_test.specs.Fault.{has_claim_form}
use Rattle.litmus_test.specs.Claim.{IsClaim, AreClaims, WritesClaims, pair_of_claim, claims_of}

-- there is a claim for each word
pub AreClaims-length : (words : List (List ℕ)) (claims : List (List ℕ × ℕ)) → AreClaims words claims
    → length words ≡ length claims
unfolding AreClaims
AreClaims-length [] [] h = refl
AreClaims-length [] (claim ∷ claims) h = absurd h
AreClaims-length (word ∷ words) [] h = absurd h
AreClaims-length (word ∷ words) (claim ∷ claims) h = ap suc (AreClaims-length words claims h.1)

-- all words are the claims `done`, and then those of the words `left`
pub record LeaveClaims (words left : List (List ℕ)) (done : List (List ℕ × ℕ)) : Type 0 where
  pub whole : (more : List (List ℕ × ℕ)) → AreClaims left more → AreClaims words (done ++ more)
  pub only : (all : List (List ℕ × ℕ)) → AreClaims words all
      → (more : List (List ℕ × ℕ)) × ((all ≡ done ++ more) × AreClaims left more)

pub leave_none : (words : List (List ℕ)) (done : List (List ℕ × ℕ)) → LeaveClaims words [] done → AreClaims words done
unfolding AreClaims
leave_none words done h = subst (AreClaims words) (append-nil done) (h.whole [] tt)

no_more : (more : List (List ℕ × ℕ)) → AreClaims [] more → more ≡ []
unfolding AreClaims
no_more [] h = refl
no_more (claim ∷ more) h = absurd h

pub leave_only : (words : List (List ℕ)) (done all : List (List ℕ × ℕ)) → LeaveClaims words [] done
    → AreClaims words all → all ≡ done
leave_only words done all h is =
    let more = h.only all is in
    more.1.0 ∙ ap (λ xs. done ++ xs) (no_more more.0 more.1.1) ∙ append-nil done

-- the claim of a word, and those after it
split_claim : (word : List ℕ) (left : List (List ℕ)) (more : List (List ℕ × ℕ)) → AreClaims (word ∷ left) more
    → (claim : List ℕ × ℕ) × ((rest : List (List ℕ × ℕ)) × ((more ≡ claim ∷ rest) × IsClaim word claim.0 claim.1
    × AreClaims left rest))
unfolding AreClaims
split_claim word left [] h = absurd h
split_claim word left (claim ∷ rest) h = (claim, (rest, (refl, h.0, h.1)))

same_claim : (claim : List ℕ × ℕ) (name : List ℕ) (value : ℕ) → claim.0 ≡ name → claim.1 ≡ value
    → claim ≡ (name, value)
same_claim (n, v) name value same_name same_value = cc

pub leave_less : (words left : List (List ℕ)) (word : List ℕ) (done : List (List ℕ × ℕ)) (name : List ℕ) (value : ℕ)
    → IsClaim word name value
    → ((n : List ℕ) (v : ℕ) → IsClaim word n v → (n ≡ name) × (v ≡ value))
    → LeaveClaims words (word ∷ left) done → LeaveClaims words left (done ++ (name, value) ∷ [])
unfolding AreClaims
leave_less words left word done name value is one h = record {
  whole = λ more rest. subst (AreClaims words) (sym (append_assoc done ((name, value) ∷ []) more))
      (h.whole ((name, value) ∷ more) (is, rest));
  only = λ all whole.
      let p = h.only all whole in
      let q = split_claim word left p.0 p.1.1 in
      let claim : List ℕ × ℕ = q.0 in
      let same = one claim.0 claim.1 q.1.1.1 in
      let whole_same : claim ≡ (name, value) = same_claim claim name value same.0 same.1 in (
        q.1.0,
        (
          p.1.0 ∙ ap (λ xs. done ++ xs) (q.1.1.0 ∙ ap (λ x. x ∷ q.1.0) whole_same)
              ∙ sym (append_assoc done ((name, value) ∷ []) q.1.0),
          q.1.1.2,
        ),
      );
}

-- if a word is no claim, the words are no claims
pub leave_nothing : (words left : List (List ℕ)) (word : List ℕ) (done all : List (List ℕ × ℕ))
    → ((n : List ℕ) (v : ℕ) → IsClaim word n v → ⊥)
    → LeaveClaims words (word ∷ left) done → AreClaims words all → ⊥
leave_nothing words left word done all none h whole =
    let p = h.only all whole in
    let q = split_claim word left p.0 p.1.1 in
    none q.0.0 q.0.1 q.1.1.1

-- the texts of words, and those after the first i
abbrev texts : List (Bor (List ℕ)) → List (List ℕ)
texts words = map (λ w. w.now) words

behind : (words : List (Bor (List ℕ))) (i : ℕ) (d : Bor (List ℕ)) → i < length words
    → drop i (texts words) ≡ (get_or words i d).now ∷ drop (i + 1) (texts words)
behind words i d within =
    let count : i < length (texts words) = omega (arith, length-map words (λ (w : Bor (List ℕ)). w.now)) in
    let first : get_or (texts words) i d.now ≡ (get_or words i d).now =
    get_or-map (λ (w : Bor (List ℕ)). w.now) words i d d.now within in
    rw add-one (drop-cons (texts words) i d.now count ∙ ap (λ w. w ∷ drop (suc i) (texts words)) first)

-- one more word was read
pub word_read : (words : List (Bor (List ℕ))) (i : ℕ) (d : Bor (List ℕ)) (done : List Claim) (claim : Claim)
    → i < length words → IsClaim (get_or words i d).now claim.name.now claim.value
    → ((n : List ℕ) (v : ℕ) → IsClaim (get_or words i d).now n v → (n ≡ claim.name.now) × (v ≡ claim.value))
    → LeaveClaims (texts words) (drop i (texts words)) (claims_of done)
    → LeaveClaims (texts words) (drop (i + 1) (texts words)) (claims_of (done ++ claim ∷ []))
word_read words i d done claim within is one h =
    rw (map-append pair_of_claim done (claim ∷ []))
    (leave_less (texts words) (drop (i + 1) (texts words)) (get_or words i d).now (claims_of done) claim.name.now
    claim.value is one (subst (λ left. LeaveClaims (texts words) left (claims_of done)) (behind words i d within) h))

-- a word is no claim
pub no_claim : (words : List (Bor (List ℕ))) (i : ℕ) (d : Bor (List ℕ)) (done all : List (List ℕ × ℕ))
    → i < length words → ((n : List ℕ) (v : ℕ) → IsClaim (get_or words i d).now n v → ⊥)
    → LeaveClaims (texts words) (drop i (texts words)) done → AreClaims (texts words) all → ⊥
no_claim words i d done all within none h whole =
    leave_nothing (texts words) (drop (i + 1) (texts words)) (get_or words i d).now done all none
    (subst (λ left. LeaveClaims (texts words) left done) (behind words i d within) h) whole

-- all words were read
pub all_read : (words : List (Bor (List ℕ))) (i : ℕ) (done : List (List ℕ × ℕ)) → length words ≤ i
    → LeaveClaims (texts words) (drop i (texts words)) done → LeaveClaims (texts words) [] done
all_read words i done past h =
    let none : drop i (texts words) ≡ [] =
    drop_all i (texts words) (omega (arith, length-map words (λ (w : Bor (List ℕ)). w.now))) in
    subst (λ left. LeaveClaims (texts words) left done) none h

-- one to 16 words may be claims
pub claim_count : (words : List (Bor (List ℕ))) (claims : List (List ℕ × ℕ)) → WritesClaims (texts words) claims
    → (1 ≤ length words) × (length words ≤ 16)
claim_count words claims h =
    let one = AreClaims-length (texts words) claims h.written in
    let long = length-map words (λ (w : Bor (List ℕ)). w.now) in
    (omega (arith, one, long, h.some), omega (arith, one, long, h.few))

pub claims_read : (words : List (Bor (List ℕ))) (done : List Claim) → LeaveClaims (texts words) [] (claims_of done)
    → length done ≡ length words → 1 ≤ length words → length words ≤ 16
    → WritesClaims (texts words) (claims_of done)
claims_read words done h count some few =
    let long = length-map done pair_of_claim in
    record {
      written = leave_none (texts words) (claims_of done) h;
      some = omega (arith, long);
      few = omega (arith, long);
    }

-- all words have the form of claims if all their texts do
pub all_forms : (words : List (Bor (List ℕ)))
    → list_all (λ (w : Bor (List ℕ)). has_claim_form w.now) words ≡ list_all has_claim_form (map (λ w. w.now) words)
all_forms [] = refl
all_forms (word ∷ words) = ap (λ rest. has_claim_form word.now && rest) (all_forms words)
