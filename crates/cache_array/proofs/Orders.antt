-- Lists of lines in which none occurs twice.
use Rattle.std.proofs.Common.{◌≡◌, ◌≢◌, ℕ, Bool, true, false, cond, List, [], ◌∷◌, ◌++◌, get_or, suc, refl, ap, sym}
use Rattle.std.proofs.Common.{◌∙◌, arith, Option, Some, None, option_to_list, find, All, AllPairs, eq-eqb, append-nil}
use Rattle.std.specs.Set.{remove_key}
use Rattle.std.proofs.lemmas.Bool.{eqb-true}
use Rattle.std.proofs.lemmas.List.Elements.{All-cons, All-nil, All-append}
use Rattle.std.proofs.lemmas.List.Kept.{AllPairs-cons}
use Rattle.std.proofs.lemmas.List.Quantifiers.{all_pairs_push}
use Rattle.std.proofs.lemmas.Map.Views.{All-remove_key}
use Rattle.address_map.specs.declared.address.Local.{Local}
use Rattle.cache_array.specs.History.{is_line, moved_to_end}

pub AllPairs-tail : {X : Type 0} (R : X → X → Type 0) (x : X) (xs : List X) → AllPairs R (x ∷ xs) → AllPairs R xs
AllPairs-tail R x xs pairs i j d lt within = pairs (suc i) (suc j) d (omega arith) (omega arith)

pub AllPairs-head : {X : Type 0} (R : X → X → Type 0) (x : X) (xs : List X) → AllPairs R (x ∷ xs) → All (R x) xs
AllPairs-head R x xs pairs k d within = pairs 0 (suc k) d (omega arith) (omega arith)

pub AllPairs-remove_key : {X : Type 0} (R : X → X → Type 0) (p : X → Bool) (xs : List X) → AllPairs R xs →
    AllPairs R (remove_key p xs)
AllPairs-remove_key R p [] pairs = pairs
AllPairs-remove_key R p (x ∷ xs) pairs =
    by (p x) (AllPairs-tail R x xs pairs) (All-remove_key p (R x) xs (AllPairs-head R x xs pairs))
    (AllPairs-remove_key R p xs (AllPairs-tail R x xs pairs))
  where
    by : (b : Bool) → AllPairs R xs → All (R x) (remove_key p xs) → AllPairs R (remove_key p xs) →
        AllPairs R (cond b xs (x ∷ remove_key p xs))
    by true all each rest = all
    by false all each rest = AllPairs-cons R x (remove_key p xs) each rest

-- a test of lines identifies them
pub same_line : (line other : Local) → is_line line other ≡ true → other ≡ line
same_line line other e = let named : ℕ → Local = λ n. record { 0 = n } in ap named (eqb-true other.0 line.0 e)

pub its_own : (line : Local) → is_line line line ≡ true
its_own line = eq-eqb line.0 line.0 refl

pub found_passes : {X : Type 0} (p : X → Bool) (xs : List X) (x : X) → find p xs ≡ Some x → p x ≡ true
found_passes p [] x e = cc
found_passes p (y ∷ ys) x e = by (p y) refl e (found_passes p ys x)
  where
    by : (b : Bool) → p y ≡ b → cond b (Some y) (find p ys) ≡ Some x → (find p ys ≡ Some x → p x ≡ true) → p x ≡ true
    by true is found rest = let same : y ≡ x = cc in sym (ap p same) ∙ is
    by false is found rest = rest found

-- a relation of lines that are apart
abbrev pub TellsApart : (Local → Local → Type 0) → Type 0
TellsApart R = (line other : Local) → R line other → line.0 ≢ other.0

-- once the line is out, none of the list is the same
pub gone : (R : Local → Local → Type 0) → TellsApart R → (line : Local) (xs : List Local) → AllPairs R xs →
    All (λ other. is_line line other ≡ false) (remove_key (is_line line) xs)
gone R apart line [] pairs = All-nil (λ other. is_line line other ≡ false)
gone R apart line (x ∷ xs) pairs = by (is_line line x) refl (gone R apart line xs (AllPairs-tail R x xs pairs))
  where
    other_is : (other : Local) (b : Bool) → is_line line other ≡ b → x.0 ≡ line.0 → R x other → b ≡ false
    other_is other true is here later = absurd (apart x other later (here ∙ sym (eqb-true other.0 line.0 is)))
    other_is other false is here later = refl

    by : (b : Bool) → is_line line x ≡ b → All (λ other. is_line line other ≡ false) (remove_key (is_line line) xs) →
        All (λ other. is_line line other ≡ false) (cond b xs (x ∷ remove_key (is_line line) xs))
    by true is rest =
        λ k d within.
        other_is (get_or xs k d) (is_line line (get_or xs k d)) refl (eqb-true x.0 line.0 is)
        (AllPairs-head R x xs pairs k d within)
    by false is rest = All-cons (λ other. is_line line other ≡ false) x (remove_key (is_line line) xs) is rest

-- what a list keeps as one of its lines is taken out, and put after the others
abbrev pub AreApart : List Local → Type 0
AreApart lines = AllPairs (λ line later. line.0 ≢ later.0) lines

pub apart-removed : (line : Local) (lines : List Local) → AreApart lines → AreApart (remove_key (is_line line) lines)
apart-removed line lines pairs = AllPairs-remove_key (λ line later. line.0 ≢ later.0) (is_line line) lines pairs

pub apart-pushed : (line : Local) (lines : List Local) → All (λ other. is_line line other ≡ false) lines →
    AreApart lines →
    AreApart (lines ++ line ∷ [])
apart-pushed line lines none pairs =
    all_pairs_push (λ line later. line.0 ≢ later.0) lines line pairs
    (λ k d within e. no (none k d within) (eq-eqb _ _ e))
  where
    no : {b : Bool} → b ≡ false → b ≡ true → ⊥
    no e f = cc

pub apart-moved : (line : Local) (lines : List Local) → AreApart lines → AreApart (moved_to_end (is_line line) lines)
apart-moved line lines pairs = by (find (is_line line) lines) refl
  where
    others : List Local
    others = remove_key (is_line line) lines

    by : (found : Option Local) → find (is_line line) lines ≡ found →
        AreApart (remove_key (is_line line) lines ++ option_to_list found)
    by None e = rw append-nil (apart-removed line lines pairs)
    by (Some newest) e =
        let same = same_line line newest (found_passes (is_line line) lines newest e) in
        rw same (apart-pushed line (remove_key (is_line line) lines) (gone _ (λ a b ne. ne) line lines pairs)
        (apart-removed line lines pairs))

pub all-pushed : (P : Local → Type 0) (line : Local) (lines : List Local) → P line → All P lines →
    All P (lines ++ line ∷ [])
all-pushed P line lines here all = All-append P lines (line ∷ []) all (All-cons P line [] here (All-nil P))

pub all-moved : (P : Local → Type 0) (line : Local) (lines : List Local) → P line → All P lines →
    All P (moved_to_end (is_line line) lines)
all-moved P line lines here all = by (find (is_line line) lines) refl
  where
    by : (found : Option Local) → find (is_line line) lines ≡ found →
        All P (remove_key (is_line line) lines ++ option_to_list found)
    by None e = rw append-nil (All-remove_key (is_line line) P lines all)
    by (Some newest) e =
        let same = same_line line newest (found_passes (is_line line) lines newest e) in
        rw same (all-pushed P line (remove_key (is_line line) lines) here (All-remove_key (is_line line) P lines all))
