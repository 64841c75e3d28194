-- The fault of a text: that of its invalid line, or of its configuration.
use Rattle.std.proofs.Common.{◌≡◌, ◌≢◌, ◌⊎◌, arith, length, ℕ, List, [], ◌∷◌, ◌++◌, Option, None, Some, refl, sym, ap, subst, ◌∙◌, inl, inr, append_assoc}
use Rattle.litmus_text.specs.Form.{IsFormFaultOf, Writes}
use Rattle.litmus_text.specs.Table.{value_named}
use Rattle.litmus_text.specs.declared.fault.LineFault.{LineFault}
use Rattle.litmus_text.specs.declared.fault.LineFault.TheVariants as line_faults
use Rattle.litmus_text.specs.declared.fault.TextFault.{TextFault}
use Rattle.litmus_text.specs.declared.fault.TextFault.TheVariants as text_faults
use Rattle.litmus_test.specs.declared.version.Version.{Version}
use Rattle.litmus_test.specs.declared.keyword.Keyword.{Keyword}
use Rattle.litmus_test.specs.declared.preamble.Preamble.{Preamble}
use Rattle.litmus_test.specs.declared.setting.Setting.{Setting}
use Rattle.litmus_test.specs.declared.test.LitmusTest.{LitmusTest}
use Rattle.litmus_test.specs.Fault.{BeginOtherwise, HasFault, IsAstray, IsFault, IsFaultAmong, IsLineFault, IsMalformed}
use Rattle.litmus_test.specs.Fault.{IsNextFault, IsPlaceFault, IsSettingsFault, IsWrong, keyword_of}
use Rattle.litmus_test.specs.Keyword.{keywords_by_name}
use Rattle.litmus_test.specs.Line.{BeginsAsSetting, IsSettingName, Line, WritesLine, WritesSetting, parts_of_first}
use Rattle.litmus_test.specs.Line.{parts_of_setting, setting}
use Rattle.litmus_test.specs.Reading.{IsBegun, IsReading, said_first}
use Rattle.litmus_test.specs.Sound.{IsChecked}
use Rattle.litmus_test.specs.Text.{Said, said_by, said_nothing}
use Rattle.litmus_test.proofs.LineLemmas.{named_so, only_setting, other_named}
use Rattle.litmus_test.proofs.ReadingLemmas.{says_append}

-- what is wrong with the next statement is wrong with all
pub next_among : (version : Version) (start said : Said) (all left : List (ℕ × List (List ℕ))) (number : ℕ)
    (words : List (List ℕ)) (fault : TextFault) → IsReading version start said all ((number, words) ∷ left)
    → BeginsAsSetting words ⊎ IsChecked said.settings.config → IsNextFault version said number words fault
    → IsFaultAmong version start all fault
next_among version start said all left number words (text_faults.Line n kind) reading ready wrong = record {
  before = reading.done;
  words = words;
  behind = left;
  stands = subst (λ k. all ≡ reading.done ++ (k, words) ∷ left) (sym wrong.0) (sym reading.split);
  said = said;
  says = reading.says;
  ready = ready;
  wrong = wrong.1;
}
next_among version start said all left number words (text_faults.Config error) reading ready wrong = absurd wrong
next_among version start said all left number words text_faults.NoMemory reading ready wrong = tt
next_among version start said all left number words text_faults.CannotWrite reading ready wrong = absurd wrong

-- so is a configuration that is refused, once all settings were read
pub config_among : (version : Version) (start said : Said) (all left : List (ℕ × List (List ℕ))) (fault : TextFault)
    → IsReading version start said all left → BeginOtherwise left → IsSettingsFault said.settings.config fault
    → IsFaultAmong version start all fault
config_among version start said all left (text_faults.Line n kind) reading others wrong = absurd wrong
config_among version start said all left (text_faults.Config error) reading others wrong = record {
  before = reading.done;
  behind = left;
  split = sym reading.split;
  said = said;
  says = reading.says;
  others = others;
  is_fault = wrong;
}
config_among version start said all left text_faults.NoMemory reading others wrong = absurd wrong
config_among version start said all left text_faults.CannotWrite reading others wrong = absurd wrong

-- .. and what is wrong with those that are left
pub left_among : (version : Version) (start said : Said) (all left : List (ℕ × List (List ℕ))) (fault : TextFault)
    → IsReading version start said all left → IsFaultAmong version said left fault
    → IsFaultAmong version start all fault
left_among version start said all left (text_faults.Line n kind) reading wrong = record {
  before = reading.done ++ wrong.before;
  words = wrong.words;
  behind = wrong.behind;
  stands = sym reading.split ∙ (ap (λ ss. reading.done ++ ss) wrong.stands
      ∙ sym (append_assoc reading.done wrong.before ((n, wrong.words) ∷ wrong.behind)));
  said = wrong.said;
  says = says_append version start said wrong.said reading.done wrong.before reading.says wrong.says;
  ready = wrong.ready;
  wrong = wrong.wrong;
}
left_among version start said all left (text_faults.Config error) reading wrong = record {
  before = reading.done ++ wrong.before;
  behind = wrong.behind;
  split = sym reading.split ∙ (ap (λ ss. reading.done ++ ss) wrong.split
      ∙ sym (append_assoc reading.done wrong.before wrong.behind));
  said = wrong.said;
  says = says_append version start said wrong.said reading.done wrong.before reading.says wrong.says;
  others = wrong.others;
  is_fault = wrong.is_fault;
}
left_among version start said all left text_faults.NoMemory reading wrong = tt
left_among version start said all left text_faults.CannotWrite reading wrong = absurd wrong

-- what is wrong after the first line is wrong with the text
pub among_text : (statements rest : List (ℕ × List (List ℕ))) (number : ℕ) (first : List (List ℕ)) (version : Version)
    (fault : TextFault) → statements ≡ (number, first) ∷ rest → Writes first (parts_of_first version)
    → IsFaultAmong version said_nothing rest fault → IsFault statements fault
among_text statements rest number first version fault is begins wrong =
    subst (λ ss. IsFault ss fault) (sym is) (inr (version, begins, wrong))

-- the configuration that settings make, and the one of a test
pub settings_refused : (preamble : Preamble) (fault : TextFault) → IsSettingsFault preamble.settings.config fault
    → IsSettingsFault (said_first preamble).settings.config fault
unfolding said_first
settings_refused preamble fault wrong = wrong

pub checked_test : (test : LitmusTest) → IsChecked (said_by test).settings.config
unfolding said_by
checked_test test = test.sound.checked

-- ---- a statement

-- a line that may not come next
pub placed_line : (version : Version) (said : Said) (number : ℕ) (words : List (List ℕ)) (line : Line)
    (fault : TextFault) → WritesLine version words line → IsPlaceFault said number line fault
    → IsNextFault version said number words fault
placed_line version said number words line (text_faults.Line n kind) written wrong =
    (wrong.0, inl (line, written, wrong.1))
placed_line version said number words line (text_faults.Config error) written wrong = absurd wrong
placed_line version said number words line text_faults.NoMemory written wrong = tt
placed_line version said number words line text_faults.CannotWrite written wrong = absurd wrong

pub placed_setting : (version : Version) (said : Said) (number : ℕ) (words : List (List ℕ)) (s : Setting)
    (fault : TextFault) → WritesSetting words s → IsPlaceFault said number (setting s) fault
    → IsNextFault version said number words fault
placed_setting version said number words s fault written wrong =
    placed_line version said number words (setting s) fault written wrong

-- words that are no line: those of settings and others are checked separately
pub no_line : (version : Version) (said : Said) (number : ℕ) (words : List (List ℕ)) (told fault : LineFault)
    → ¬ BeginsAsSetting words → ((line : Line) → WritesLine version words line → ⊥)
    → IsLineFault version words fault
    → (IsAstray said (keyword_of words) → told ≡ line_faults.NotACommand)
    → (¬ IsAstray said (keyword_of words) → told ≡ fault)
    → IsNextFault version said number words (text_faults.Line number told)
no_line version said number words told fault begins none form astray placed = (
  refl,
  inr (record {
    none = none;
    astray = astray;
    placed = λ here. subst (IsMalformed version words) (sym (placed here)) (inr (begins, form));
  }),
)

no_setting_written : (version : Version) (words : List (List ℕ)) → BeginsAsSetting words
    → ((s : Setting) → WritesSetting words s → ⊥) → (line : Line) → WritesLine version words line → ⊥
no_setting_written version [] begins none line written = absurd begins
no_setting_written version (word ∷ words) begins none line written =
    let is = only_setting version word words line begins written in
    none is.0 (subst (WritesLine version (word ∷ words)) is.1 written)

-- words that begin as a setting begin with no keyword
no_keyword : (word : List ℕ) → IsSettingName word → (found : Option Keyword)
    → found ≡ value_named keywords_by_name word → found ≡ None
no_keyword word named None is = refl
no_keyword word named (Some keyword) is = absurd (other_named keyword word named (named_so word keyword (sym is)))

nothing_astray : (preamble : Preamble) (words : List (List ℕ)) → BeginsAsSetting words
    → IsAstray (said_first preamble) (keyword_of words) → ⊥
unfolding said_first
nothing_astray preamble [] begins astray = begins
nothing_astray preamble (word ∷ words) begins astray =
    let none = no_keyword word begins (keyword_of (word ∷ words)) refl in
    let here : IsAstray (said_first preamble) None = subst (IsAstray (said_first preamble)) none astray in
    here.1 refl

-- words that begin as a setting and are none
pub no_setting : (version : Version) (said : Said) (words : List (List ℕ)) (told fault : LineFault)
    → BeginsAsSetting words → ((s : Setting) → WritesSetting words s → ⊥) → IsFormFaultOf parts_of_setting words fault
    → (IsAstray said (keyword_of words) → told ≡ line_faults.NotACommand)
    → (¬ IsAstray said (keyword_of words) → told ≡ fault) → IsWrong version said words told
no_setting version said words told fault begins none form astray placed = inr (record {
  none = no_setting_written version words begins none;
  astray = astray;
  placed = λ here. subst (IsMalformed version words) (sym (placed here)) (inl (begins, form));
})

-- .. if only settings came
pub no_setting_line : (version : Version) (preamble : Preamble) (number : ℕ) (words : List (List ℕ)) (fault : LineFault)
    → BeginsAsSetting words → ((s : Setting) → WritesSetting words s → ⊥) → IsFormFaultOf parts_of_setting words fault
    → IsNextFault version (said_first preamble) number words (text_faults.Line number fault)
unfolding said_first
no_setting_line version preamble number words fault begins none form = (
  refl,
  no_setting version (said_first preamble) words fault fault begins none form
      (λ astray. absurd (nothing_astray preamble words begins astray)) (λ here. refl),
)

-- a setting after the first thread, or after an outcome if no thread came
pub late_setting : (version : Version) (said : Said) (words : List (List ℕ)) (s : Setting) → WritesSetting words s
    → said.threads ≢ [] → IsWrong version said words line_faults.LateConfiguration
unfolding HasFault
late_setting version said words s written begun = inl (setting s, written, inr (inl (begun, refl)))

pub astray_setting : (version : Version) (said : Said) (words : List (List ℕ)) (s : Setting) → WritesSetting words s
    → said.threads ≡ [] → IsBegun said → IsWrong version said words line_faults.NotACommand
unfolding HasFault
astray_setting version said words s written none begun =
    inl (setting s, written, inl ((none, λ e. omega (arith, begun, ap length none, ap length e)), refl))
