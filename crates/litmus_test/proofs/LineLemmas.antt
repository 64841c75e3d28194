-- The first words of lines.
use Rattle.std.proofs.Common.{◌≡◌, ◌≢◌, ℕ, [], not, List, ◌∷◌, Some, inl, inr, refl, rules, subst, sym}
use Rattle.std.specs.Prelude.{codes, IsTrue}
use Rattle.std.specs.Str.{bytes_eq}
use Rattle.litmus_text.specs.declared.config_line.ConfigLine.TheVariants as config_lines
use Rattle.litmus_text.specs.Table.{value_named}
use Rattle.litmus_text.proofs.TableLemmas.{named}
use Rattle.litmus_text.proofs.FieldLemmas.{is_no_field, no_field_name, field_name}
use Rattle.litmus_test.specs.declared.setting.Setting.{Setting}
use Rattle.litmus_test.specs.declared.setting.Setting.TheVariants as settings
use Rattle.litmus_test.specs.declared.keyword.Keyword.{Keyword}
use Rattle.litmus_test.specs.declared.keyword.Keyword.TheVariants as keywords
use Rattle.litmus_test.specs.declared.version.Version.{Version}
use Rattle.litmus_test.specs.Keyword.{keywords_by_name, name_of_keyword}
use Rattle.litmus_test.specs.Line.{Line, setting, thread, load, store, add, cas, settle, evict, forbid, IsSettingName}
use Rattle.litmus_test.specs.Line.{WritesSetting, WritesLine}

-- a word that is none of the names of settings
pub record IsOther (word : List ℕ) : Type 0 where
  pub no_rounds : IsTrue (not (bytes_eq word (codes "rounds")))
  pub no_movers : IsTrue (not (bytes_eq word (codes "movers")))
  pub no_field : IsTrue (is_no_field word)

pub other_name : (word : List ℕ) → IsOther word → IsSettingName word → ⊥
other_name word other (inl is) =
    let here : IsTrue (not (bytes_eq (codes "rounds") (codes "rounds"))) =
    subst (λ w. IsTrue (not (bytes_eq w (codes "rounds")))) is other.no_rounds in cc
other_name word other (inr (inl is)) =
    let here : IsTrue (not (bytes_eq (codes "movers") (codes "movers"))) =
    subst (λ w. IsTrue (not (bytes_eq w (codes "movers")))) is other.no_movers in cc
other_name word other (inr (inr is)) = no_field_name word other.no_field is

-- words that write a setting begin with the name of one
pub setting_name : (word : List ℕ) (words : List (List ℕ)) (s : Setting) → WritesSetting (word ∷ words) s
    → IsSettingName word
unfolding WritesSetting
setting_name word words (settings.Rounds n) h = inl h.0
setting_name word words (settings.Movers n) h = inr (inl h.0)
setting_name word words (settings.Config line) h = inr (inr (field_name word words line h))

-- words that begin otherwise write none
no_setting : (word : List ℕ) (words : List (List ℕ)) (s : Setting) → IsOther word → WritesSetting (word ∷ words) s → ⊥
no_setting word words s other written = other_name word other (setting_name word words s written)

-- no keyword is such a name
keyword_is_other : (keyword : Keyword) → IsOther (name_of_keyword keyword)
keyword_is_other keywords.Thread = record { no_rounds = refl; no_movers = refl; no_field = refl }
keyword_is_other keywords.Load = record { no_rounds = refl; no_movers = refl; no_field = refl }
keyword_is_other keywords.Store = record { no_rounds = refl; no_movers = refl; no_field = refl }
keyword_is_other keywords.Add = record { no_rounds = refl; no_movers = refl; no_field = refl }
keyword_is_other keywords.Cas = record { no_rounds = refl; no_movers = refl; no_field = refl }
keyword_is_other keywords.Settle = record { no_rounds = refl; no_movers = refl; no_field = refl }
keyword_is_other keywords.Evict = record { no_rounds = refl; no_movers = refl; no_field = refl }
keyword_is_other keywords.Forbid = record { no_rounds = refl; no_movers = refl; no_field = refl }

pub other_named : (keyword : Keyword) (word : List ℕ) → IsSettingName word → word ≡ name_of_keyword keyword → ⊥
other_named keyword word named is =
    other_name (name_of_keyword keyword) (keyword_is_other keyword) (subst IsSettingName is named)

-- a word that is found among the keywords is that one
pub named_so : (word : List ℕ) (keyword : Keyword) → value_named keywords_by_name word ≡ Some keyword
    → word ≡ name_of_keyword keyword
named_so word keyword is =
    named (λ name k. name ≡ name_of_keyword k) keywords_by_name word (Some keyword) (sym is) (search rules)

-- so do those of all other lines
pub thread_sets_nothing : (words : List (List ℕ)) (s : Setting) → WritesSetting (codes "thread" ∷ words) s → ⊥
thread_sets_nothing words s = no_setting (codes "thread") words s (keyword_is_other keywords.Thread)

pub load_sets_nothing : (words : List (List ℕ)) (s : Setting) → WritesSetting (codes "load" ∷ words) s → ⊥
load_sets_nothing words s = no_setting (codes "load") words s (keyword_is_other keywords.Load)

pub store_sets_nothing : (words : List (List ℕ)) (s : Setting) → WritesSetting (codes "store" ∷ words) s → ⊥
store_sets_nothing words s = no_setting (codes "store") words s (keyword_is_other keywords.Store)

pub add_sets_nothing : (words : List (List ℕ)) (s : Setting) → WritesSetting (codes "add" ∷ words) s → ⊥
add_sets_nothing words s = no_setting (codes "add") words s (keyword_is_other keywords.Add)

pub cas_sets_nothing : (words : List (List ℕ)) (s : Setting) → WritesSetting (codes "cas" ∷ words) s → ⊥
cas_sets_nothing words s = no_setting (codes "cas") words s (keyword_is_other keywords.Cas)

pub settle_sets_nothing : (words : List (List ℕ)) (s : Setting) → WritesSetting (codes "settle" ∷ words) s → ⊥
settle_sets_nothing words s = no_setting (codes "settle") words s (keyword_is_other keywords.Settle)

pub evict_sets_nothing : (words : List (List ℕ)) (s : Setting) → WritesSetting (codes "evict" ∷ words) s → ⊥
evict_sets_nothing words s = no_setting (codes "evict") words s (keyword_is_other keywords.Evict)

pub forbid_sets_nothing : (words : List (List ℕ)) (s : Setting) → WritesSetting (codes "forbid" ∷ words) s → ⊥
forbid_sets_nothing words s = no_setting (codes "forbid") words s (keyword_is_other keywords.Forbid)

-- words that begin otherwise than all lines write none
pub no_line : (version : Version) (word : List ℕ) (words : List (List ℕ)) → ¬ IsSettingName word
    → ((keyword : Keyword) → word ≢ name_of_keyword keyword)
    → (line : Line) → WritesLine version (word ∷ words) line → ⊥
no_line version word words set other (setting s) h = set (setting_name word words s h)
no_line version word words set other (thread core) h = other keywords.Thread h.0
no_line version word words set other (load w name) h = other keywords.Load h.0.0
no_line version word words set other (store w value) h = other keywords.Store h.0
no_line version word words set other (add w delta name) h = other keywords.Add h.0.0
no_line version word words set other (cas w expect new name) h = other keywords.Cas h.0.0
no_line version word words set other settle h = other keywords.Settle h.0
no_line version word words set other (evict l) h = other keywords.Evict h.0
no_line version word words set other (forbid claims) h = other keywords.Forbid h.0

-- no words write none
pub no_empty_line : (version : Version) (line : Line) → WritesLine version [] line → ⊥
unfolding WritesSetting
no_empty_line version (setting (settings.Config (config_lines.Count count n))) h = h
no_empty_line version (setting (settings.Config (config_lines.Policy policy))) h = h
no_empty_line version (setting (settings.Config (config_lines.Misses kind))) h = h
no_empty_line version (setting (settings.Config (config_lines.Exclusive is_on))) h = h
no_empty_line version (setting (settings.Config (config_lines.Init w value))) h = h
no_empty_line version (setting (settings.Config (config_lines.Counter w))) h = h
no_empty_line version (setting (settings.Rounds n)) h = h
no_empty_line version (setting (settings.Movers n)) h = h
no_empty_line version (thread core) h = h
no_empty_line version (load w name) h = h.0
no_empty_line version (store w value) h = h
no_empty_line version (add w delta name) h = h.0
no_empty_line version (cas w expect new name) h = h.0
no_empty_line version settle h = h
no_empty_line version (evict l) h = h
no_empty_line version (forbid claims) h = h

-- words that begin as a setting write no other line
pub only_setting : (version : Version) (word : List ℕ) (words : List (List ℕ)) (line : Line) → IsSettingName word
    → WritesLine version (word ∷ words) line → (s : Setting) × (line ≡ setting s)
only_setting version word words (setting s) named h = (s, refl)
only_setting version word words (thread core) named h = absurd (other_named keywords.Thread word named h.0)
only_setting version word words (load w name) named h = absurd (other_named keywords.Load word named h.0.0)
only_setting version word words (store w value) named h = absurd (other_named keywords.Store word named h.0)
only_setting version word words (add w delta name) named h = absurd (other_named keywords.Add word named h.0.0)
only_setting version word words (cas w e n name) named h = absurd (other_named keywords.Cas word named h.0.0)
only_setting version word words settle named h = absurd (other_named keywords.Settle word named h.0)
only_setting version word words (evict l) named h = absurd (other_named keywords.Evict word named h.0)
only_setting version word words (forbid claims) named h = absurd (other_named keywords.Forbid word named h.0)
