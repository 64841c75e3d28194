-- The words that lines begin with.
use Rattle.std.proofs.Common.{◌≡◌, ◌≢◌, ℕ, ◌+◌, List, [], ◌∷◌, length, get_or, map, refl, arith, subst}
use Rattle.std.specs.Prelude.{codes, IsTrue}
use Rattle.litmus_text.proofs.FieldLemmas.{field_name, is_no_field, no_field_name}
use Rattle.litmus_text.proofs.FormLemmas.{wrong_count}
use Rattle.litmus_text.specs.Field.{IsFieldName}
use Rattle.litmus_text.specs.Form.{Part}
use Rattle.litmus_text.specs.declared.config_line.ConfigLine.{ConfigLine}
use Rattle.litmus_text.specs.declared.config_line.ConfigLine.TheVariants as config_lines
use Rattle.program_text.specs.declared.keyword.Keyword.{Keyword}
use Rattle.program_text.specs.declared.keyword.Keyword.TheVariants as keywords
use Rattle.program_text.specs.Keyword.{name_of_keyword}
use Rattle.program_text.specs.Range.{IsRange}
use Rattle.program_text.specs.Line.{Line, setting, limit, pace, begin, load, store, add, cas, settle, repeat, end}
use Rattle.program_text.specs.Line.{WritesLine, WritesRange, WritesSetting}

-- words of another number than a range and the parts don't write them
pub wrong_range : {X : Type 0} (text : X → List ℕ) (words : List X) (first last : ℕ) (parts : List Part)
    → length words ≢ length parts + 1 → WritesRange (map text words) first last parts → ⊥
unfolding WritesRange
wrong_range text [] first last parts other h = h
wrong_range text (word ∷ words) first last parts other h =
    wrong_count text words parts (λ same. other (omega arith)) h.1

-- where the first word is no such range, the words write none
pub first_refused : {X : Type 0} (text : X → List ℕ) (words : List X) (d : X) (first last : ℕ) (parts : List Part)
    → (IsRange (text (get_or words 0 d)) first last → ⊥) → WritesRange (map text words) first last parts → ⊥
unfolding WritesRange
first_refused text [] d first last parts none h = h
first_refused text (word ∷ words) d first last parts none h = none h.0

-- words that write a setting begin with the name of a field
pub setting_name : (word : List ℕ) (words : List (List ℕ)) (s : ConfigLine) → WritesSetting (word ∷ words) s
    → IsFieldName word
unfolding WritesSetting
setting_name word words s h = field_name word words s h

no_setting : (word : List ℕ) (words : List (List ℕ)) (s : ConfigLine) → IsTrue (is_no_field word)
    → WritesSetting (word ∷ words) s → ⊥
no_setting word words s other written = no_field_name word other (setting_name word words s written)

keyword_is_other : (keyword : Keyword) → IsTrue (is_no_field (name_of_keyword keyword))
keyword_is_other keywords.Outstanding = refl
keyword_is_other keywords.Pace = refl
keyword_is_other keywords.Core = refl
keyword_is_other keywords.Load = refl
keyword_is_other keywords.Store = refl
keyword_is_other keywords.Add = refl
keyword_is_other keywords.Cas = refl
keyword_is_other keywords.Settle = refl
keyword_is_other keywords.Repeat = refl
keyword_is_other keywords.End = refl

other_named : (keyword : Keyword) (word : List ℕ) → IsFieldName word → word ≡ name_of_keyword keyword → ⊥
other_named keyword word named is =
    no_field_name (name_of_keyword keyword) (keyword_is_other keyword) (subst IsFieldName is named)

-- those of other lines write none
pub outstanding_sets_nothing : (words : List (List ℕ)) (s : ConfigLine)
    → WritesSetting (codes "outstanding" ∷ words) s → ⊥
outstanding_sets_nothing words s =
    no_setting (codes "outstanding") words s (keyword_is_other keywords.Outstanding)

pub pace_sets_nothing : (words : List (List ℕ)) (s : ConfigLine) → WritesSetting (codes "pace" ∷ words) s → ⊥
pace_sets_nothing words s = no_setting (codes "pace") words s (keyword_is_other keywords.Pace)

pub core_sets_nothing : (words : List (List ℕ)) (s : ConfigLine) → WritesSetting (codes "core" ∷ words) s → ⊥
core_sets_nothing words s = no_setting (codes "core") words s (keyword_is_other keywords.Core)

pub load_sets_nothing : (words : List (List ℕ)) (s : ConfigLine) → WritesSetting (codes "load" ∷ words) s → ⊥
load_sets_nothing words s = no_setting (codes "load") words s (keyword_is_other keywords.Load)

pub store_sets_nothing : (words : List (List ℕ)) (s : ConfigLine) → WritesSetting (codes "store" ∷ words) s → ⊥
store_sets_nothing words s = no_setting (codes "store") words s (keyword_is_other keywords.Store)

pub add_sets_nothing : (words : List (List ℕ)) (s : ConfigLine) → WritesSetting (codes "add" ∷ words) s → ⊥
add_sets_nothing words s = no_setting (codes "add") words s (keyword_is_other keywords.Add)

pub cas_sets_nothing : (words : List (List ℕ)) (s : ConfigLine) → WritesSetting (codes "cas" ∷ words) s → ⊥
cas_sets_nothing words s = no_setting (codes "cas") words s (keyword_is_other keywords.Cas)

pub settle_sets_nothing : (words : List (List ℕ)) (s : ConfigLine) → WritesSetting (codes "settle" ∷ words) s → ⊥
settle_sets_nothing words s = no_setting (codes "settle") words s (keyword_is_other keywords.Settle)

pub repeat_sets_nothing : (words : List (List ℕ)) (s : ConfigLine) → WritesSetting (codes "repeat" ∷ words) s → ⊥
repeat_sets_nothing words s = no_setting (codes "repeat") words s (keyword_is_other keywords.Repeat)

pub end_sets_nothing : (words : List (List ℕ)) (s : ConfigLine) → WritesSetting (codes "end" ∷ words) s → ⊥
end_sets_nothing words s = no_setting (codes "end") words s (keyword_is_other keywords.End)

-- words that begin otherwise than all lines write none
pub no_line : (word : List ℕ) (words : List (List ℕ)) → ¬ IsFieldName word
    → ((keyword : Keyword) → word ≢ name_of_keyword keyword) → (line : Line) → WritesLine (word ∷ words) line → ⊥
no_line word words set other (setting s) h = set (setting_name word words s h)
no_line word words set other (limit most) h = other keywords.Outstanding h.0
no_line word words set other (pace most) h = other keywords.Pace h.0
no_line word words set other (begin c) h = other keywords.Core h.0
no_line word words set other (load first last) h = other keywords.Load h.0
no_line word words set other (store first last value) h = other keywords.Store h.0
no_line word words set other (add first last delta) h = other keywords.Add h.0
no_line word words set other (cas first last expect new) h = other keywords.Cas h.0
no_line word words set other settle h = other keywords.Settle h.0
no_line word words set other (repeat n) h = other keywords.Repeat h.0
no_line word words set other end h = other keywords.End h.0

-- no words write none
pub no_empty_line : (line : Line) → WritesLine [] line → ⊥
unfolding WritesSetting
no_empty_line (setting (config_lines.Count count n)) h = h
no_empty_line (setting (config_lines.Policy policy)) h = h
no_empty_line (setting (config_lines.Misses kind)) h = h
no_empty_line (setting (config_lines.Exclusive is_on)) h = h
no_empty_line (setting (config_lines.Init w value)) h = h
no_empty_line (setting (config_lines.Counter w)) h = h
no_empty_line (limit most) h = h
no_empty_line (pace most) h = h
no_empty_line (begin c) h = h
no_empty_line (load first last) h = h
no_empty_line (store first last value) h = h
no_empty_line (add first last delta) h = h
no_empty_line (cas first last expect new) h = h
no_empty_line settle h = h
no_empty_line (repeat n) h = h
no_empty_line end h = h

-- words that begin as a setting write no other line
pub only_setting : (word : List ℕ) (words : List (List ℕ)) (line : Line) → IsFieldName word
    → WritesLine (word ∷ words) line → (s : ConfigLine) × (line ≡ setting s)
only_setting word words (setting s) named h = (s, refl)
only_setting word words (limit most) named h = absurd (other_named keywords.Outstanding word named h.0)
only_setting word words (pace most) named h = absurd (other_named keywords.Pace word named h.0)
only_setting word words (begin c) named h = absurd (other_named keywords.Core word named h.0)
only_setting word words (load first last) named h = absurd (other_named keywords.Load word named h.0)
only_setting word words (store first last value) named h = absurd (other_named keywords.Store word named h.0)
only_setting word words (add first last delta) named h = absurd (other_named keywords.Add word named h.0)
only_setting word words (cas first last expect new) named h = absurd (other_named keywords.Cas word named h.0)
only_setting word words settle named h = absurd (other_named keywords.Settle word named h.0)
only_setting word words (repeat n) named h = absurd (other_named keywords.Repeat word named h.0)
only_setting word words end named h = absurd (other_named keywords.End word named h.0)
