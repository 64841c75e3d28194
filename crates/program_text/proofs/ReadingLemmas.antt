-- What the statements that are left say, all of them say.
use Rattle.std.proofs.Common.{◌≡◌, ℕ, List, [], ◌∷◌, ◌++◌, refl, sym, ap, subst, ◌∙◌, inl, inr, append-nil}
use Rattle.std.proofs.Common.{append_assoc}
use Rattle.std.specs.Prelude.{◌⊎◌, false, None, Option, Some, Result, Ok, Err, OnOk, reverse}
use Rattle.std.specs.Option.{option_map_or}
use Rattle.std.specs.Str.Lines.{lines}
use Rattle.address_map.specs.Config.{checked_of, first_fault}
use Rattle.address_map.specs.declared.config.Config.{Config}
use Rattle.address_map.specs.declared.config.ConfigError.{ConfigError}
use Rattle.litmus_text.specs.ConfigLine.{IsLateFault, after_config_line, parts_of_config_line}
use Rattle.litmus_text.specs.Form.{IsFormFaultOf, Writes}
use Rattle.litmus_text.specs.Statement.{statements_from}
use Rattle.litmus_text.specs.declared.config_line.ConfigLine.{ConfigLine}
use Rattle.litmus_text.specs.declared.fault.LineFault.{LineFault}
use Rattle.litmus_text.specs.declared.fault.TextFault.{TextFault}
use Rattle.litmus_text.specs.declared.fault.TextFault.TheVariants as text_faults
use Rattle.litmus_text.specs.declared.settings.Settings.{Settings}
use Rattle.program_text.specs.declared.programs.Limits.{Limits}
use Rattle.program_text.specs.declared.programs.Programs.{Programs}
use Rattle.litmus_text.proofs.FaultLemmas.{form_refuses}
use Rattle.program_text.specs.Fault.{BeginOtherwise, HasFault, IsFault, IsProgramText}
use Rattle.program_text.specs.Fault.{Says, Statement, programs_of, settings_of}
use Rattle.program_text.specs.Judged.{fault_of, first_so, is_first}
use Rattle.program_text.specs.Keyword.{IsFormFault}
use Rattle.program_text.specs.Line.{Line, setting, BeginsAsSetting, WritesLine, WritesSetting}
use Rattle.program_text.specs.Reading.{IsPlaceFault, IsRead, IsReading, said_first}
use Rattle.program_text.specs.Text.{Program, Said, said_line, said_nothing}
use Rattle.program_text.proofs.LineLemmas.{only_setting}

-- what statements say, and what others say after them, both say together
says_append : (start said whole : Said) (done left : List Statement)
    → Says start done said → Says said left whole → Says start (done ++ left) whole
unfolding Says
says_append start said whole [] left first behind = subst (λ (s : Said). Says s left whole) (sym first) behind
says_append start said whole (s ∷ done) left first behind =
    let next = first.1.2 in
    (first.0, (first.1.0, first.1.1, says_append (said_line start s.0 first.0) said whole done left next behind))

-- .. and what both say, the first say a part of
says_split : (start whole : Said) (done left : List Statement) → Says start (done ++ left) whole
    → (said : Said) × (Says start done said × Says said left whole)
unfolding Says
says_split start whole [] left both = (start, (refl, both))
says_split start whole (s ∷ done) left both =
    let behind = says_split (said_line start s.0 both.0) whole done left both.1.2 in
    (behind.0, ((both.0, (both.1.0, both.1.1, behind.1.0)), behind.1.1))

-- nothing was read yet
pub reading_none : (all : List Statement) → IsReading all said_nothing all
unfolding Says
reading_none all = record { done = []; split = refl; says = refl; only = λ other h. sym h }

-- a line was read
pub reading_line : (all left : List Statement) (said : Said) (s : Statement) (line : Line)
    → WritesLine s.1 line → ((other : Line) → WritesLine s.1 other → other ≡ line)
    → fault_of said line ≡ None → IsReading all said (s ∷ left) → IsReading all (said_line said s.0 line) left
unfolding Says
reading_line all left said s line written only may reading = record {
  done = reading.done ++ s ∷ [];
  split = append_assoc reading.done (s ∷ []) left ∙ reading.split;
  says = says_append said_nothing said (said_line said s.0 line) reading.done (s ∷ []) reading.says
      (line, (written, may, refl));
  only = λ other h.
      let parts = says_split said_nothing other reading.done (s ∷ []) h in
      let last = parts.1.1 in
      let same : parts.0 ≡ said = reading.only parts.0 parts.1.0 in
      sym last.1.2 ∙ (ap (λ (before : Said). said_line before s.0 last.0) same
      ∙ ap (λ (l : Line). said_line said s.0 l) (only last.0 last.1.0));
}

-- the next line is at fault, and those before it aren't
pub faulty : (all left : List Statement) (said : Said) (number : ℕ) (words : List (List ℕ)) (fault : LineFault)
    → IsReading all said ((number, words) ∷ left) → BeginsAsSetting words ⊎ (first_fault said.settings.config ≡ None)
    → HasFault said words fault → IsFault all (text_faults.Line number fault)
faulty all left said number words fault reading ready has = inl (record {
  before = reading.done;
  words = words;
  behind = left;
  stands = sym reading.split;
  said = said;
  says = reading.says;
  ready = ready;
  has_fault = has;
})

-- words that begin as a setting write this one alone
pub setting_only : (words : List (List ℕ)) (x : ConfigLine) → BeginsAsSetting words
    → ((other : ConfigLine) → Writes words (parts_of_config_line other) → other ≡ x)
    → (line : Line) → WritesLine words line → line ≡ setting x
unfolding WritesSetting
setting_only [] x begins only line written = absurd begins
setting_only (word ∷ words) x begins only line written =
    let is = only_setting word words line begins written in
    let writes : WritesSetting (word ∷ words) is.0 = subst (WritesLine (word ∷ words)) is.1 written in
    is.1 ∙ ap setting (only is.0 writes)

-- .. or nothing, where they write no setting
pub setting_none : (words : List (List ℕ)) → BeginsAsSetting words
    → ((line : ConfigLine) → Writes words (parts_of_config_line line) → ⊥) → (line : Line) → WritesLine words line → ⊥
unfolding WritesSetting
setting_none [] begins none line written = begins
setting_none (word ∷ words) begins none line written =
    let is = only_setting word words line begins written in
    let writes : WritesSetting (word ∷ words) is.0 = subst (WritesLine (word ∷ words)) is.1 written in
    none is.0 writes

-- a setting was read
pub reading_setting : (all left : List Statement) (old : Settings) (s : Statement) (x : ConfigLine)
    → BeginsAsSetting s.1 → Writes s.1 (parts_of_config_line x)
    → ((other : ConfigLine) → Writes s.1 (parts_of_config_line other) → other ≡ x)
    → IsReading all (said_first old) (s ∷ left) → IsReading all (said_first (after_config_line old x)) left
unfolding WritesSetting fault_of first_so
reading_setting all left old s x begins written only reading =
    reading_line all left (said_first old) s (setting x) written (setting_only s.1 x begins only) refl reading

-- what is wrong with a setting that isn't well formed
malformed : (said : Said) (words : List (List ℕ)) (fault : LineFault) → BeginsAsSetting words
    → IsFormFaultOf parts_of_config_line words fault → HasFault said words fault
malformed said words fault begins form =
    inr (inl (record {
      begins = begins;
      none = setting_none words begins (form_refuses parts_of_config_line words fault form);
      form = form;
    }))

-- .. in its place, and with another line that writes nothing
pub setting_fault : (all left : List Statement) (settings : Settings) (number : ℕ) (words : List (List ℕ))
    (fault : LineFault) → IsReading all (said_first settings) ((number, words) ∷ left) → BeginsAsSetting words
    → IsFormFaultOf parts_of_config_line words fault → IsFault all (text_faults.Line number fault)
setting_fault all left settings number words fault reading begins form =
    faulty all left (said_first settings) number words fault reading (inl begins)
    (malformed (said_first settings) words fault begins form)

pub line_fault : (all left : List Statement) (said : Said) (number : ℕ) (words : List (List ℕ)) (fault : LineFault)
    → IsReading all said ((number, words) ∷ left) → first_fault said.settings.config ≡ None → ¬ BeginsAsSetting words
    → ((line : Line) → WritesLine words line → ⊥) → IsFormFault words fault →
    IsFault all (text_faults.Line number fault)
line_fault all left said number words fault reading checked begins none form =
    faulty all left said number words fault reading (inr checked)
    (inr (inr (record { begins = begins; none = none; form = form })))

-- what is wrong with a setting after the first program
pub late_fault : (said : Said) (words : List (List ℕ)) (fault : LineFault) → BeginsAsSetting words
    → is_first said ≡ false → IsLateFault words fault → HasFault said words fault
unfolding WritesSetting fault_of first_so
late_fault said words fault begins begun late =
    elim late [
      | inl form ↦ malformed said words fault begins form
      | inr is ↦ inl (record {
        line = setting is.0;
        written = is.1.0;
        judged = rw begun (ap Some (sym is.1.1));
      })
    ]

-- a line that isn't taken
pub place_fault : (all left : List Statement) (said : Said) (number : ℕ) (words : List (List ℕ)) (line : Line)
    (fault : TextFault) → IsReading all said ((number, words) ∷ left) → first_fault said.settings.config ≡ None
    → WritesLine words line → IsPlaceFault said number line fault → IsFault all fault
place_fault all left said number words line (text_faults.Line n f) reading checked written at =
    subst (λ k. IsFault all (text_faults.Line k f)) (sym at.0)
    (faulty all left said number words f reading (inr checked)
    (inl (record { line = line; written = written; judged = at.1 })))
place_fault all left said number words line (text_faults.Config error) reading checked written at = absurd at
place_fault all left said number words line text_faults.NoMemory reading checked written at = tt
place_fault all left said number words line text_faults.CannotWrite reading checked written at = absurd at

-- ---- the configuration

abbrev refusal : ConfigError → Result Config ConfigError
refusal fault = Err fault

checked_from : (c d : Config) (fault : Option ConfigError) (whole : Result Config ConfigError) → whole ≡ Ok d
    → whole ≡ option_map_or refusal fault (Ok c) → (d ≡ c) × (fault ≡ None)
checked_from c d None whole h k = (cc, refl)
checked_from c d (Some f) whole h k = (cc, cc)

refused_from : (c : Config) (error : ConfigError) (fault : Option ConfigError) (whole : Result Config ConfigError)
    → whole ≡ Err error → whole ≡ option_map_or refusal fault (Ok c) → fault ≡ Some error
refused_from c error None whole h k = cc
refused_from c error (Some f) whole h k = cc

-- a configuration that is checked has no fault, and stays; one that is refused has this one
pub checked_ok : (c d : Config) → Ok d ≡ checked_of c → (d ≡ c) × (first_fault c ≡ None)
checked_ok c d h = checked_from c d (first_fault c) (checked_of c) (sym h) refl

pub checked_err : (c : Config) (error : ConfigError) → Err error ≡ checked_of c → first_fault c ≡ Some error
checked_err c error h = refused_from c error (first_fault c) (checked_of c) (sym h) refl

pub config_fault : (all left : List Statement) (settings : Settings) (error : ConfigError)
    → IsReading all (said_first settings) left → BeginOtherwise left → first_fault settings.config ≡ Some error
    → IsFault all (text_faults.Config error)
config_fault all left settings error reading others is = record {
  before = reading.done;
  rest = left;
  split = sym reading.split;
  said = said_first settings;
  says = reading.says;
  early = refl;
  others = others;
  is_fault = is;
}

-- ---- all statements

-- what was read is what the text says
pub is_text : (text : List ℕ) (programs : Programs) → IsRead (statements_from 0 (lines text)) programs
    → IsProgramText text (settings_of programs) programs.limits (programs_of programs)
is_text text programs read =
    let reading = read.1.0 in
    record {
      said = read.0;
      says = subst (λ ss. Says said_nothing ss read.0) (sym (append-nil reading.done) ∙ reading.split) reading.says;
      configured = read.1.1;
      limited = read.1.2;
      checked = read.1.3;
      closed = read.1.4;
      in_order = read.1.5;
    }

-- .. and nothing else
pub only_text : (text : List ℕ) (programs : Programs) (settings : Settings) (limits : Limits) (others : List Program)
    → IsRead (statements_from 0 (lines text)) programs → IsProgramText text settings limits others
    → (settings ≡ settings_of programs) × (limits ≡ programs.limits) × (others ≡ programs_of programs)
only_text text programs settings limits others read is =
    let reading = read.1.0 in
    let same : is.said ≡ read.0 = reading.only is.said
    (subst (λ ss. Says said_nothing ss is.said) (sym (sym (append-nil reading.done) ∙ reading.split)) is.says) in (
      sym is.configured ∙ ap (λ (s : Said). s.settings) same ∙ read.1.1,
      sym is.limited ∙ ap (λ (s : Said). s.limits) same ∙ read.1.2,
      is.in_order ∙ ap (λ (s : Said). reverse s.programs) same ∙ sym read.1.5,
    )

-- what holds where two facts do
pub on_ok_two : {T E : Type 0} (r : Result T E) (P Q R : Type 0) → (P → Q → R) → OnOk r P → OnOk r Q → OnOk r R
on_ok_two (Ok x) P Q R f h k = f h k
on_ok_two (Err e) P Q R f h k = tt
