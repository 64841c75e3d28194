-- What the statements that are left say, all of them say.
use Rattle.std.proofs.Common.{◌≡◌, ℕ, List, [], ◌∷◌, ◌++◌, length, map, refl, sym, ap, subst, ◌∙◌, arith, inr}
use Rattle.std.proofs.Common.{length-append, append_assoc}
use Rattle.std.specs.Prelude.{Result, Ok, Err, OnOk}
use Rattle.litmus_text.specs.declared.fault.TextFault.{TextFault}
use Rattle.litmus_text.specs.declared.fault.TextFault.TheVariants as text_faults
use Rattle.address_map.specs.declared.address.CoreId.{CoreId}
use Rattle.address_map.specs.declared.request.Op.TheVariants as ops
use Rattle.litmus_test.specs.declared.line.Line.{Line as ReadLine}
use Rattle.litmus_test.specs.declared.line.Line.TheVariants as read_lines
use Rattle.litmus_test.specs.declared.setting.Setting.{Setting}
use Rattle.litmus_test.specs.declared.setting.Setting.TheVariants as settings
use Rattle.litmus_test.specs.declared.test.Action.{Action}
use Rattle.litmus_test.specs.declared.test.Action.TheVariants as actions
use Rattle.std.specs.Str.Lines.{lines}
use Rattle.litmus_text.specs.Fault.{IsAtLine, IsFirstFault}
use Rattle.litmus_text.specs.Form.{Writes}
use Rattle.litmus_text.specs.Statement.{statements_from}
use Rattle.litmus_test.specs.declared.preamble.Preamble.{Preamble}
use Rattle.litmus_test.specs.declared.test.LitmusTest.{LitmusTest}
use Rattle.litmus_test.specs.declared.test.Pair.{Pair}
use Rattle.litmus_test.specs.declared.version.Version.{Version}
use Rattle.litmus_test.specs.Claim.{claims_of}
use Rattle.litmus_test.specs.Line.{Line, setting, thread, load, store, add, cas, settle, evict, forbid, BeginsAsSetting}
use Rattle.litmus_test.specs.Line.{WritesSetting, WritesLine, line_of, parts_of_first}
use Rattle.litmus_test.specs.Sound.{IsChecked}
use Rattle.litmus_test.specs.Text.{AreLines, IsFaultAt, IsLitmusTest, Said, Says, said_by, said_nothing, IsEarly}
use Rattle.litmus_test.specs.Text.{MayFollow, MaySet, pair_of, said_line, said_setting}
use Rattle.litmus_test.specs.Reading.{IsBegun, IsReading, IsNoMemoryOr, IsNoNextLine, SayNothing, SayOnly, said_first}
use Rattle.litmus_test.proofs.BodyLemmas.{length-with_step}
use Rattle.litmus_test.proofs.LineLemmas.{no_empty_line, only_setting, setting_name}

-- what statements say, and what others say after them, both say together
pub says_append : (version : Version) (start said whole : Said) (done left : List (ℕ × List (List ℕ)))
    → Says version start done said → Says version said left whole → Says version start (done ++ left) whole
unfolding Says
says_append version start said whole [] left first behind = rw first behind
says_append version start said whole (s ∷ done) left first behind =
    let next = first.1.2 in
    (first.0, (first.1.0, first.1.1, says_append version (said_line start first.0) said whole done left next behind))

-- .. and what both say, the first say a part of
says_split : (version : Version) (start whole : Said) (done left : List (ℕ × List (List ℕ)))
    → Says version start (done ++ left) whole
    → (said : Said) × (Says version start done said × Says version said left whole)
unfolding Says
says_split version start whole [] left both = (start, (refl, both))
says_split version start whole (s ∷ done) left both =
    let behind = says_split version (said_line start both.0) whole done left both.1.2 in
    (behind.0, ((both.0, (both.1.0, both.1.1, behind.1.0)), behind.1.1))

-- what the statements that are left say, all say
reading_whole : (version : Version) (start said : Said) (all left : List (ℕ × List (List ℕ))) (whole : Said)
    → IsReading version start said all left → Says version said left whole → Says version start all whole
reading_whole version start said all left whole reading behind =
    subst (λ ss. Says version start ss whole) reading.split
    (says_append version start said whole reading.done left reading.says behind)

-- .. and nothing else
reading_only : (version : Version) (start said : Said) (all left : List (ℕ × List (List ℕ))) (whole : Said)
    → IsReading version start said all left → Says version start all whole → Says version said left whole
reading_only version start said all left whole reading says =
    let parts = says_split version start whole reading.done left
    (subst (λ ss. Says version start ss whole) (sym reading.split) says) in
    subst (λ (s : Said). Says version s left whole) (reading.only parts.0 parts.1.0) parts.1.1

-- nothing was read yet
pub reading_none : (version : Version) (said : Said) (all : List (ℕ × List (List ℕ)))
    → IsReading version said said all all
unfolding Says
reading_none version said all = record { done = []; split = refl; says = refl; only = λ other h. sym h }

-- a line was read
pub reading_line : (version : Version) (start said : Said) (all left : List (ℕ × List (List ℕ)))
    (s : ℕ × List (List ℕ)) (line : Line)
    → WritesLine version s.1 line → ((other : Line) → WritesLine version s.1 other → other ≡ line)
    → MayFollow said line → IsReading version start said all (s ∷ left)
    → IsReading version start (said_line said line) all left
unfolding Says
reading_line version start said all left s line written only may reading = record {
  done = reading.done ++ s ∷ [];
  split = append_assoc reading.done (s ∷ []) left ∙ reading.split;
  says = says_append version start said (said_line said line) reading.done (s ∷ []) reading.says
      (line, (written, may, refl));
  only = λ other h.
      let parts = says_split version start other reading.done (s ∷ []) h in
      let last = parts.1.1 in
      let same : parts.0 ≡ said = reading.only parts.0 parts.1.0 in
      sym last.1.2 ∙ (ap (λ (before : Said). said_line before last.0) same
      ∙ ap (λ (l : Line). said_line said l) (only last.0 last.1.0));
}

-- if the next statement writes no line that may come next, all say nothing
pub reading_stops : (version : Version) (start said : Said) (all left : List (ℕ × List (List ℕ)))
    (s : ℕ × List (List ℕ))
    → IsReading version start said all (s ∷ left) → IsNoNextLine version said s.1
    → (whole : Said) → Says version start all whole → ⊥
unfolding Says
reading_stops version start said all left s reading none whole h =
    let next = reading_only version start said all (s ∷ left) whole reading h in none next.0 next.1.0 next.1.1

-- .. and the statement is the first invalid one, since those before it say something
first_fault : (version : Version) (start said : Said) (all left : List (ℕ × List (List ℕ))) (number : ℕ)
    (words : List (List ℕ))
    → IsReading version start said all ((number, words) ∷ left) → IsNoNextLine version said words
    → IsFirstFault (AreLines version start) all number
first_fault version start said all left number words reading none =
    let s : ℕ × List (List ℕ) = (number, words) in
    let read : IsReading version start said (reading.done ++ s ∷ []) (s ∷ []) =
    record { done = reading.done; split = refl; says = reading.says; only = reading.only } in
    record {
      before = reading.done;
      words = words;
      behind = left;
      stands = sym reading.split;
      sound = (said, reading.says);
      refused = λ h. reading_stops version start said (reading.done ++ s ∷ []) [] s read none h.0 h.1;
    }

-- if a fault names the line of a refused statement, it names the first invalid one
pub at_first_fault : (version : Version) (start said : Said) (all left : List (ℕ × List (List ℕ))) (number : ℕ)
    (words : List (List ℕ)) (fault : TextFault)
    → IsReading version start said all ((number, words) ∷ left) → IsNoMemoryOr (IsNoNextLine version said words) fault
    → IsAtLine (λ n. n ≡ number) fault → IsAtLine (IsFirstFault (AreLines version start) all) fault
at_first_fault version start said all left number words text_faults.NoMemory reading none at = tt
at_first_fault version start said all left number words (text_faults.Line n fault) reading none at =
    subst (IsFirstFault (AreLines version start) all) (sym at)
    (first_fault version start said all left number words reading none)
at_first_fault version start said all left number words (text_faults.Config error) reading none at = tt
at_first_fault version start said all left number words text_faults.CannotWrite reading none at = tt

-- all statements were read
pub reading_all : (version : Version) (start said : Said) (all : List (ℕ × List (List ℕ)))
    → IsReading version start said all [] → SayOnly version start all said
unfolding Says
reading_all version start said all reading =
    record {
      says = reading_whole version start said all [] said reading refl;
      only = λ other h. sym (reading_only version start said all [] other reading h);
    }

-- why a text is refused may be replaced by something weaker
pub IsNoMemoryOr-weaker : (P Q : Type 0) (fault : TextFault) → (P → Q) → IsNoMemoryOr P fault → IsNoMemoryOr Q fault
IsNoMemoryOr-weaker P Q text_faults.NoMemory f h = tt
IsNoMemoryOr-weaker P Q (text_faults.Line number fault) f h = f h
IsNoMemoryOr-weaker P Q (text_faults.Config error) f h = f h
IsNoMemoryOr-weaker P Q text_faults.CannotWrite f h = absurd h

-- what holds if two facts do
pub on_ok_two : {T E : Type 0} (r : Result T E) (P Q R : Type 0) → (P → Q → R) → OnOk r P → OnOk r Q → OnOk r R
on_ok_two (Ok x) P Q R f h k = f h k
on_ok_two (Err e) P Q R f h k = tt

-- words that begin as a setting write this one alone
pub setting_only : (version : Version) (words : List (List ℕ)) (x : Setting) → BeginsAsSetting words
    → ((other : Setting) → WritesSetting words other → other ≡ x)
    → (line : Line) → WritesLine version words line → line ≡ setting x
setting_only version [] x begins only line written = absurd begins
setting_only version (word ∷ words) x begins only line written =
    let is = only_setting version word words line begins written in
    let writes : WritesSetting (word ∷ words) is.0 = subst (WritesLine version (word ∷ words)) is.1 written in
    is.1 ∙ ap setting (only is.0 writes)

-- a setting was read
pub reading_setting : (version : Version) (start said now : Said) (all left : List (ℕ × List (List ℕ)))
    (s : ℕ × List (List ℕ)) (x : Setting)
    → BeginsAsSetting s.1 → WritesSetting s.1 x → ((other : Setting) → WritesSetting s.1 other → other ≡ x)
    → MaySet said x → now ≡ said_setting said x → IsReading version start said all (s ∷ left)
    → IsReading version start now all left
unfolding MayFollow
reading_setting version start said now all left s x begins written only may is reading =
    rw is (reading_line version start said all left s (setting x) written (setting_only version s.1 x begins only) may
    reading)

-- a setting that may not come next is no next line
pub no_next_setting : (version : Version) (said : Said) (words : List (List ℕ)) (x : Setting) → BeginsAsSetting words
    → ((other : Setting) → WritesSetting words other → other ≡ x) → ¬ MaySet said x → IsNoNextLine version said words
unfolding MayFollow
no_next_setting version said words x begins only may line written follows =
    may (subst (MayFollow said) (setting_only version words x begins only line written) follows)

-- a line that is no setting begins the threads or the outcomes
pub begun_line : (said : Said) (line : ReadLine) → MayFollow said (line_of line)
    → IsBegun (said_line said (line_of line))
unfolding MayFollow
begun_line said (read_lines.Thread core) may =
    let program : CoreId × List Action = (record { 0 = core }, []) in
    omega (arith, length-append said.threads (program ∷ []))
begun_line said (read_lines.Load word name) may =
    omega (
      arith,
      may.0.may_step.begun,
      length-with_step (actions.Access (record { 0 = word }) ops.Load) said.threads,
    )
begun_line said (read_lines.Store word value) may =
    omega (
      arith,
      may.0.may_step.begun,
      length-with_step (actions.Access (record { 0 = word }) (ops.Store value)) said.threads,
    )
begun_line said (read_lines.Add word delta name) may =
    omega (
      arith,
      may.0.may_step.begun,
      length-with_step (actions.Access (record { 0 = word }) (ops.Add delta)) said.threads,
    )
begun_line said (read_lines.Cas word expect new name) may =
    omega (
      arith,
      may.0.may_step.begun,
      length-with_step (actions.Access (record { 0 = word }) (ops.Cas expect new)) said.threads,
    )
begun_line said read_lines.Settle may = omega (arith, may.begun, length-with_step actions.Settle said.threads)
begun_line said (read_lines.Evict line) may =
    omega (arith, may.0.begun, length-with_step (actions.Evict (record { 0 = line })) said.threads)
begun_line said (read_lines.Forbid claims) may =
    let outcome : List Pair = map (pair_of said.names) (claims_of claims.items) in
    omega (arith, length-append said.forbidden (outcome ∷ []))

-- a setting comes before them
pub early_setting : (said : Said) (x : Setting) → MaySet said x → IsEarly said
early_setting said (settings.Config line) may = may
early_setting said (settings.Rounds n) may = may.0
early_setting said (settings.Movers n) may = may.0

pub no_late_setting : (version : Version) (said : Said) (words : List (List ℕ)) → BeginsAsSetting words → IsBegun said
    → IsNoNextLine version said words
unfolding MayFollow
no_late_setting version said [] begins begun line written may = begins
no_late_setting version said (word ∷ words) begins begun line written may =
    let is = only_setting version word words line begins written in
    let sets : MaySet said is.0 = subst (MayFollow said) is.1 may in
    let early = early_setting said is.0 sets in
    omega (arith, begun, ap length early.no_thread, ap length early.no_outcome)

-- if the configuration is invalid, a line that begins as no setting can't come next before the threads
pub no_unchecked_line : (version : Version) (said : Said) (words : List (List ℕ)) → ¬ BeginsAsSetting words
    → said.threads ≡ [] → ¬ IsChecked said.settings.config → IsNoNextLine version said words
unfolding MayFollow
no_unchecked_line version said [] begins none unchecked line written may = no_empty_line version line written
no_unchecked_line version said (word ∷ words) begins none unchecked (setting x) written may =
    begins (setting_name word words x written)
no_unchecked_line version said (word ∷ words) begins none unchecked (thread core) written may = unchecked may.checked
no_unchecked_line version said (word ∷ words) begins none unchecked (load w name) written may =
    omega (arith, may.0.may_step.begun, ap length none)
no_unchecked_line version said (word ∷ words) begins none unchecked (store w value) written may =
    omega (arith, may.0.may_step.begun, ap length none)
no_unchecked_line version said (word ∷ words) begins none unchecked (add w delta name) written may =
    omega (arith, may.0.may_step.begun, ap length none)
no_unchecked_line version said (word ∷ words) begins none unchecked (cas w expect new name) written may =
    omega (arith, may.0.may_step.begun, ap length none)
no_unchecked_line version said (word ∷ words) begins none unchecked settle written may =
    omega (arith, may.begun, ap length none)
no_unchecked_line version said (word ∷ words) begins none unchecked (evict l) written may =
    omega (arith, may.0.begun, ap length none)
no_unchecked_line version said (word ∷ words) begins none unchecked (forbid claims) written may = unchecked may.checked

-- what statements say after others, all say
pub say_behind : (version : Version) (start said : Said) (all left : List (ℕ × List (List ℕ))) (whole : Said)
    → IsReading version start said all left → SayOnly version said left whole → SayOnly version start all whole
say_behind version start said all left whole reading only = record {
  says = reading_whole version start said all left whole reading only.says;
  only = λ other h. only.only other (reading_only version start said all left other reading h);
}

pub nothing_behind : (version : Version) (start said : Said) (all left : List (ℕ × List (List ℕ)))
    → IsReading version start said all left → SayNothing version said left → SayNothing version start all
nothing_behind version start said all left reading nothing whole h checked =
    nothing whole (reading_only version start said all left whole reading h) checked

-- .. and the first invalid one of them is the first of all
pub fault_behind : (version : Version) (start said : Said) (all left : List (ℕ × List (List ℕ))) (number : ℕ)
    → IsReading version start said all left → IsFirstFault (AreLines version said) left number
    → IsFirstFault (AreLines version start) all number
fault_behind version start said all left number reading fault =
    let s : ℕ × List (List ℕ) = (number, fault.words) in
    let to : IsReading version start said (reading.done ++ (fault.before ++ s ∷ [])) (fault.before ++ s ∷ []) =
    record { done = reading.done; split = refl; says = reading.says; only = reading.only } in
    record {
      before = reading.done ++ fault.before;
      words = fault.words;
      behind = fault.behind;
      stands = sym reading.split ∙ (ap (λ ss. reading.done ++ ss) fault.stands
          ∙ sym (append_assoc reading.done fault.before (s ∷ fault.behind)));
      sound = (
        fault.sound.0,
        says_append version start said fault.sound.0 reading.done fault.before reading.says
            fault.sound.1,
      );
      refused = λ h.
          fault.refused (
            h.0,
            reading_only version start said _ _ h.0 to
                (subst (λ ss. Says version start ss h.0) (append_assoc reading.done fault.before (s ∷ [])) h.1),
          );
    }

pub at_fault_behind : (version : Version) (start said : Said) (all left : List (ℕ × List (List ℕ))) (fault : TextFault)
    → IsReading version start said all left → IsAtLine (IsFirstFault (AreLines version said) left) fault
    → IsAtLine (IsFirstFault (AreLines version start) all) fault
at_fault_behind version start said all left text_faults.NoMemory reading at = tt
at_fault_behind version start said all left (text_faults.Line n fault) reading at =
    fault_behind version start said all left n reading at
at_fault_behind version start said all left (text_faults.Config error) reading at = tt
at_fault_behind version start said all left text_faults.CannotWrite reading at = tt

pub says_nothing : (version : Version) (start said : Said) (all left : List (ℕ × List (List ℕ)))
    (s : ℕ × List (List ℕ))
    → IsReading version start said all (s ∷ left) → IsNoNextLine version said s.1 → SayNothing version start all
says_nothing version start said all left s reading none whole h checked =
    reading_stops version start said all left s reading none whole h

-- an invalid configuration, before the first line that is no setting and at the end
pub unchecked_first : (preamble : Preamble) (version : Version) (words : List (List ℕ)) → ¬ BeginsAsSetting words
    → ¬ IsChecked preamble.settings.config → IsNoNextLine version (said_first preamble) words
unfolding said_first
unchecked_first preamble version words begins unchecked =
    no_unchecked_line version (said_first preamble) words begins refl unchecked

pub unchecked_all : (preamble : Preamble) (version : Version) (start : Said) (all : List (ℕ × List (List ℕ)))
    → IsReading version start (said_first preamble) all [] → ¬ IsChecked preamble.settings.config
    → SayNothing version start all
unfolding said_first
unchecked_all preamble version start all reading unchecked whole h checked =
    let same = (reading_all version start (said_first preamble) all reading).only whole h in
    unchecked (subst (λ (s : Said). IsChecked s.settings.config) same checked)

-- a text with a first line is what the others say
pub is_test : (text : List ℕ) (number : ℕ) (first : List (List ℕ)) (rest : List (ℕ × List (List ℕ)))
    (version : Version) (test : LitmusTest)
    → statements_from 0 (lines text) ≡ (number, first) ∷ rest → Writes first (parts_of_first version)
    → SayOnly version said_nothing rest (said_by test) → IsLitmusTest text (said_by test)
unfolding said_by
is_test text number first rest version test statements begins says = record {
  version = version;
  number = number;
  first = first;
  rest = rest;
  statements = statements;
  begins = begins;
  says = says.says;
  checked = test.sound.checked;
}

-- what another reading of the text says, the others say
pub other_test : (text : List ℕ) (number : ℕ) (first : List (List ℕ)) (rest : List (ℕ × List (List ℕ)))
    (version : Version) (whole : Said)
    → statements_from 0 (lines text) ≡ (number, first) ∷ rest
    → ((other : Version) → Writes first (parts_of_first other) → other ≡ version)
    → IsLitmusTest text whole → Says version said_nothing rest whole
other_test text number first rest version whole statements only test =
    let here : ℕ × List (List ℕ) = (number, first) in
    let there : ℕ × List (List ℕ) = (test.number, test.first) in
    let same : here ∷ rest ≡ there ∷ test.rest = sym statements ∙ test.statements in
    let pair : here ≡ there = cc in
    let same_rest : test.rest ≡ rest = cc in
    let same_first : test.first ≡ first = sym (ap (λ (p : ℕ × List (List ℕ)). p.1) pair) in
    let one : test.version ≡ version =
    only test.version (subst (λ ws. Writes ws (parts_of_first test.version)) same_first test.begins) in
    subst (λ v. Says v said_nothing rest whole) one
    (subst (λ ss. Says test.version said_nothing ss whole) same_rest test.says)

-- an invalid line after the first is the text's
pub at_fault : (statements rest : List (ℕ × List (List ℕ))) (number : ℕ) (first : List (List ℕ)) (version : Version)
    (fault : TextFault) → statements ≡ (number, first) ∷ rest → Writes first (parts_of_first version)
    → IsAtLine (IsFirstFault (AreLines version said_nothing) rest) fault → IsAtLine (IsFaultAt statements) fault
at_fault statements rest number first version text_faults.NoMemory is begins at = tt
at_fault statements rest number first version (text_faults.Line n fault) is begins at =
    subst (λ ss. IsFaultAt ss n) (sym is) (inr (version, begins, at))
at_fault statements rest number first version (text_faults.Config error) is begins at = tt
at_fault statements rest number first version text_faults.CannotWrite is begins at = tt

-- a fault that names no line names no wrong one
pub at_no_line : (holds : ℕ → Type 0) (fault : TextFault) → IsAtLine (λ number. ⊥) fault → IsAtLine holds fault
at_no_line holds text_faults.NoMemory at = tt
at_no_line holds (text_faults.Line n fault) at = absurd at
at_no_line holds (text_faults.Config error) at = tt
at_no_line holds text_faults.CannotWrite at = tt

-- if the line that the words write may not come next, the words write none that may
pub no_next : (version : Version) (said : Said) (words : List (List ℕ)) (line : Line)
    → ((other : Line) → WritesLine version words other → other ≡ line) → (fault : TextFault)
    → IsNoMemoryOr (¬ MayFollow said line) fault → IsNoMemoryOr (IsNoNextLine version said words) fault
no_next version said words line only text_faults.NoMemory wrong = tt
no_next version said words line only (text_faults.Line n fault) wrong =
    λ other written may. wrong (subst (MayFollow said) (only other written) may)
no_next version said words line only (text_faults.Config error) wrong =
    λ other written may. wrong (subst (MayFollow said) (only other written) may)
no_next version said words line only text_faults.CannotWrite wrong = wrong
