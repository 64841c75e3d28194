-- Settings that are read one by one, and laid out from the last to the first.
use Rattle.std.proofs.Common.{◌≡◌, ℕ, ◌+◌, ◌*◌, ◌<◌, ◌==◌, List, [], ◌∷◌, ◌++◌, ap, ap₂, append_assoc, drop, get_or}
use Rattle.std.proofs.Common.{length, map, refl, set, subst, sym, ◌∙◌}
use Rattle.std.proofs.Common.{◌≢◌, arith, false, suc, take, zero}
use Rattle.std.specs.Borrow.{Bor}
use Rattle.std.specs.List.{onto_first, slice_split}
use Rattle.std.proofs.lemmas.Bool.{ne_eqb}
use Rattle.std.proofs.lemmas.List.Splits.{slice_split-cons_no}
use Rattle.std.proofs.lemmas.List.{drop-set, get_or-map, map-set, map_more, set-get_or}
use Rattle.program_sweep.specs.declared.setting.Setting.{Setting}
use Rattle.program_sweep.specs.Read.{AreSettings, IsSetting, Says, counts_of, rows_of, spans_of, values_of}

-- one more setting, after the others
pub settings_push : (texts : List (List ℕ)) (settings : List Setting) (text : List ℕ) (setting : Setting)
    → AreSettings texts settings → IsSetting text setting
    → AreSettings (texts ++ text ∷ []) (settings ++ setting ∷ [])
settings_push [] [] text setting are is = (is, tt)
settings_push [] (s ∷ settings) text setting are is = absurd are
settings_push (t ∷ texts) [] text setting are is = absurd are
settings_push (t ∷ texts) (s ∷ settings) text setting are is =
    (are.0, settings_push texts settings text setting are.1 is)

-- settings that differ in their spans alone are what the same texts say
pub settings_kept : (texts : List (List ℕ)) (old new : List Setting) → map values_of new ≡ map values_of old
    → AreSettings texts old → AreSettings texts new
settings_kept [] [] [] same are = tt
settings_kept [] [] (n ∷ new) same are = cc (same)
settings_kept [] (o ∷ old) new same are = absurd are
settings_kept (t ∷ texts) [] new same are = absurd are
settings_kept (t ∷ texts) (o ∷ old) [] same are = cc (same)
settings_kept (t ∷ texts) (o ∷ old) (n ∷ new) same are =
    let none : List ℕ × List (List ℕ) = ([], []) in
    let first : values_of n ≡ values_of o = ap (λ all. get_or all 0 none) same in
    (subst (Says t) (sym first) are.0, settings_kept texts old new (ap (λ all. drop 1 all) same) are.1)

-- these settings are laid out, and make `rows` rows
pub record AreLaidOut (settings : List Setting) (seeds rows : ℕ) : Type 0 where
  pub spans : map (λ setting. setting.span) settings ≡ spans_of (counts_of settings) seeds
  pub many : rows ≡ rows_of (counts_of settings) seeds

-- one more before those that are
pub laid_more : (now : List Setting) (p seeds rows many n m after : ℕ) (this : Setting) → p < length now
    → n ≡ p + 1 → m ≡ p → after ≡ rows * many → this.span ≡ rows → many ≡ length this.values.items
    → AreLaidOut (drop n now) seeds rows → AreLaidOut (drop m (set now p this)) seeds after
laid_more now p seeds rows many n m after this below behind here product span is laid =
    let left : AreLaidOut (drop (p + 1) now) seeds rows = subst (λ k. AreLaidOut (drop k now) seeds rows) behind laid in
    let whole : AreLaidOut (this ∷ drop (p + 1) now) seeds after = record {
      spans = ap₂ (λ (k : ℕ) (ns : List ℕ). k ∷ ns) (span ∙ left.many) left.spans;
      many = product ∙ ap₂ (λ (a b : ℕ). a * b) left.many is;
    } in
    subst (λ k. AreLaidOut (drop k (set now p this)) seeds after) (sym here)
    (subst (λ these. AreLaidOut these seeds after) (sym (drop-set now p this below)) whole)

-- there is a row for each value of each row
pub some_rows : (rows many after : ℕ) → 0 < rows → 0 < many → after ≡ rows * many → 0 < after
some_rows (suc rows) (suc many) after some others product = omega (arith, product)
some_rows zero many after some others product = absurd (omega (arith, some))
some_rows (suc rows) zero after some others product = absurd (omega (arith, others))

-- .. and its name and values stay
pub values_kept : (now : List Setting) (p : ℕ) (d this : Setting) → p < length now
    → values_of this ≡ values_of (get_or now p d) → map values_of (set now p this) ≡ map values_of now
values_kept now p d this below same =
    let here : values_of this ≡ get_or (map values_of now) p (values_of d) =
    same ∙ sym (get_or-map values_of now p d (values_of d) below) in
    map-set values_of now p this
    ∙ ap (λ v. set (map values_of now) p v) here
    ∙ set-get_or (map values_of now) p (values_of d)

-- a value, and those after its comma
pub values_more : (before : List (List ℕ)) (value rest behind : List ℕ) (all : List (List ℕ))
    → before ++ slice_split (λ b. b == 44) rest ≡ all
    → slice_split (λ b. b == 44) rest ≡ value ∷ slice_split (λ b. b == 44) behind
    → (before ++ value ∷ []) ++ slice_split (λ b. b == 44) behind ≡ all
values_more before value rest behind all whole split =
    append_assoc before (value ∷ []) (slice_split (λ b. b == 44) behind)
    ∙ ap (λ these. before ++ these) (sym split) ∙ whole

-- a text without a comma is one value
pub no_comma : (xs : List ℕ) → ((i : ℕ) → i < length xs → get_or xs i 0 ≢ 44) → slice_split (λ b. b == 44) xs ≡ xs ∷ []
no_comma [] none = refl
no_comma (x ∷ xs) none =
    let here : (x == 44) ≡ false = ne_eqb x 44 (none 0 (omega arith)) in
    slice_split-cons_no (λ b. b == 44) x xs here
    ∙ ap (onto_first x) (no_comma xs (λ i below. none (suc i) (omega (arith, below))))

-- one more text is read
pub one_read : (texts : List (Bor (List ℕ))) (i : ℕ) (d : Bor (List ℕ)) (settings new : List Setting) (setting : Setting)
    → i < length texts → AreSettings (map (λ text. text.now) (take i texts)) settings
    → IsSetting (get_or texts i d).now setting → new ≡ settings ++ setting ∷ []
    → AreSettings (map (λ text. text.now) (take (i + 1) texts)) new
one_read texts i d settings new setting below are is pushed =
    let now : Bor (List ℕ) → List ℕ = λ text. text.now in
    subst (λ these. AreSettings these new) (sym (map_more now texts i d below))
    (subst (λ these. AreSettings (map now (take i texts) ++ (get_or texts i d).now ∷ []) these) (sym pushed)
    (settings_push (map now (take i texts)) settings (get_or texts i d).now setting are is))
