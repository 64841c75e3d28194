-- Words that write a command.
use Rattle.std.proofs.Common.{◌≡◌, ◌≢◌, ℕ, ◌-◌, ◌<◌, ◌≤◌, List, [], ◌∷◌, Result, IsErrAnd, drop, get_or, take, length}
use Rattle.std.proofs.Common.{map, refl, arith, subst, sym, ◌∙◌}
use Rattle.std.proofs.lemmas.List.{take_all}
use Rattle.std.proofs.lemmas.Result.{err_from_is_err_and}
use Rattle.std.specs.Prelude.{codes}
use Rattle.std.proofs.lemmas.Grind.{common_steps}
use Rattle.address_map.specs.declared.address.CoreId.{CoreId}
use Rattle.address_map.specs.declared.address.LineAddr.{LineAddr}
use Rattle.address_map.specs.declared.address.SliceId.{SliceId}
use Rattle.address_map.specs.declared.address.WordAddr.{WordAddr}
use Rattle.address_map.specs.declared.config.Config.{Config}
use Rattle.address_map.specs.declared.request.Op.{Op}
use Rattle.address_map.specs.declared.request.Request.{Request}
use Rattle.std.specs.Str.Parse.{digits_value}
use Rattle.slice_queues.specs.declared.channel.Pick.{Pick}
use Rattle.litmus_text.specs.declared.command.Command.{Command}
use Rattle.litmus_text.specs.declared.command.Command.TheVariants as commands
use Rattle.litmus_text.specs.declared.fault.LineFault.{LineFault}
use Rattle.litmus_text.specs.declared.fault.LineFault.TheVariants as line_faults
use Rattle.litmus_text.specs.declared.look.Look.TheVariants as looks
use Rattle.litmus_text.specs.declared.look.MachineLook.{MachineLook}
use Rattle.litmus_text.specs.declared.parse.Verb.{Verb}
use Rattle.litmus_text.specs.declared.parse.Verb.TheVariants as verbs
use Rattle.litmus_text.specs.Command.{HasPick, HasTag, IsFaultOfCommand, IsInRange, IsRead, ReadsAs, Says, parts_of}
use Rattle.litmus_text.specs.Command.{parts_of_access, parts_of_op, parts_of_pick}
use Rattle.litmus_text.specs.Form.{Part, Writes, HasForm, IsFaultOf, IsFormFaultOf, key, no_parts, one_part, two_parts}
use Rattle.litmus_text.specs.Look.{name_of_machine_look}
use Rattle.litmus_text.specs.Number.{IsNumber}
use Rattle.litmus_text.specs.Verb.{name_of_verb}
use Rattle.litmus_text.proofs.FaultLemmas.{fault_behind, lacks}
use Rattle.litmus_text.proofs.FormLemmas.{HasForm-Writes}

-- words that begin with the name of no command have the form of none
pub no_command : (name : List ℕ) (rest : List (List ℕ)) → ((verb : Verb) → name ≢ name_of_verb verb)
    → (command : Command) → HasForm (name ∷ rest) (parts_of command) → ⊥
no_command name rest other (commands.Issue core request) w = other verbs.Issue w.0
no_command name rest other (commands.Evict core line) w = other verbs.Evict w.0
no_command name rest other (commands.Deliver pick) w = other verbs.Deliver w.0
no_command name rest other (commands.Hand core slice) w = other verbs.Hand w.0
no_command name rest other (commands.Look (looks.Word word)) w = other verbs.Word w.0
no_command name rest other (commands.Look (looks.State line)) w = other verbs.State w.0
no_command name rest other (commands.Look (looks.Log slice)) w = other verbs.Log w.0
no_command name rest other (commands.Look (looks.Machine look)) w = other (verbs.Machine look) w.0
no_command name rest other (commands.Pump calls) w = other verbs.Pump w.0

-- .. so this is what is wrong with them
pub unnamed_fault : (config : Config) (name : List ℕ) (rest : List (List ℕ))
    → ((verb : Verb) → name ≢ name_of_verb verb)
    → IsFaultOfCommand config (name ∷ rest) line_faults.NotACommand
unfolding IsFaultOf
unnamed_fault config name rest other = no_command name rest other

-- a `?` returns what is wrong with the words
pub reads_none : {config : Config} {words : List (List ℕ)} (fault : LineFault) (r : Result Command LineFault)
    → IsErrAnd r (λ x. x ≡ fault) → IsFaultOfCommand config words fault → ReadsAs config words r
reads_none {config} {words} fault r is wrong =
    let p = err_from_is_err_and r is in
    rw p.1 (record { read = tt; fault = subst (IsFaultOfCommand config words) (sym p.2) wrong })

-- words that are read have no fault
pub refuses : (config : Config) (words : List (List ℕ)) (fault : LineFault) → IsFaultOfCommand config words fault
    → (command : Command) → ¬ IsRead config words command
unfolding IsFaultOf
refuses config words line_faults.NotACommand wrong command read =
    wrong command (HasForm-Writes words (parts_of command) read.written)
refuses config words line_faults.BadNumber wrong command read = wrong.1 command (read.written, read.tag)
refuses config words line_faults.OutOfRange wrong command read = wrong.1 command (read.written, read.tag) read.in_range
refuses config words other wrong command read = wrong

-- ---- what is wrong after a verb is wrong with the command

behind_verb : {X : Type 0} (config : Config) (name : List ℕ) (words : List (List ℕ)) (behind : X → List Part)
    (Has : X → Type 0) (command : X → Command)
    → ((P : Command → Type 0) → ((x : X) → P (command x)) → (c : Command) → HasForm (name ∷ words) (parts_of c) → P c)
    → ((x : X) → parts_of (command x) ≡ key name ∷ behind x) → ((x : X) → HasTag (command x))
    → ((x : X) → IsInRange config (command x) → Has x) → (fault : LineFault)
    → IsFaultOf (λ x. HasForm words (behind x)) (λ x. Writes words (behind x)) Has fault
    → IsFaultOfCommand config (name ∷ words) fault
behind_verb config name words behind Has command only is tag has =
    fault_behind name words behind Has parts_of (Says (name ∷ words)) (IsInRange config) command only is
    (λ x w. (w, tag x)) (λ c s. s.0) has

-- the commands of each verb
pub only_issue : (words : List (List ℕ)) (P : Command → Type 0)
    → ((core : CoreId) (request : Request) → P (commands.Issue core request))
    → (c : Command) → HasForm (codes "issue" ∷ words) (parts_of c) → P c
only_issue words P h c form = grind (arith, common_steps)

pub only_deliver : (words : List (List ℕ)) (P : Command → Type 0) → ((pick : Pick) → P (commands.Deliver pick))
    → (c : Command) → HasForm (codes "deliver" ∷ words) (parts_of c) → P c
only_deliver words P h c form = grind (arith, common_steps)

only_evict : (words : List (List ℕ)) (P : Command → Type 0)
    → ((core : CoreId) (line : LineAddr) → P (commands.Evict core line))
    → (c : Command) → HasForm (codes "evict" ∷ words) (parts_of c) → P c
only_evict words P h c form = grind (arith, common_steps)

only_hand : (words : List (List ℕ)) (P : Command → Type 0)
    → ((core : CoreId) (slice : SliceId) → P (commands.Hand core slice))
    → (c : Command) → HasForm (codes "hand" ∷ words) (parts_of c) → P c
only_hand words P h c form = grind (arith, common_steps)

only_word : (words : List (List ℕ)) (P : Command → Type 0) → ((word : WordAddr) → P (commands.Look (looks.Word word)))
    → (c : Command) → HasForm (codes "word" ∷ words) (parts_of c) → P c
only_word words P h c form = grind (arith, common_steps)

only_state : (words : List (List ℕ)) (P : Command → Type 0)
    → ((line : LineAddr) → P (commands.Look (looks.State line)))
    → (c : Command) → HasForm (codes "state" ∷ words) (parts_of c) → P c
only_state words P h c form = grind (arith, common_steps)

only_log : (words : List (List ℕ)) (P : Command → Type 0) → ((slice : SliceId) → P (commands.Look (looks.Log slice)))
    → (c : Command) → HasForm (codes "log" ∷ words) (parts_of c) → P c
only_log words P h c form = grind (arith, common_steps)

only_machine : (look : MachineLook) (words : List (List ℕ)) (P : Command → Type 0)
    → P (commands.Look (looks.Machine look))
    → (c : Command) → HasForm (name_of_machine_look look ∷ words) (parts_of c) → P c
only_machine look words P h c form = grind (arith, common_steps)

only_pump : (words : List (List ℕ)) (P : Command → Type 0) → ((calls : ℕ) → P (commands.Pump calls))
    → (c : Command) → HasForm (codes "pump" ∷ words) (parts_of c) → P c
only_pump words P h c form = grind (arith, common_steps)

pub deliver_fault : (config : Config) (words : List (List ℕ)) (fault : LineFault)
    → IsFaultOf (λ pick. HasForm words (parts_of_pick pick)) (λ pick. Writes words (parts_of_pick pick))
    (HasPick config) fault
    → IsFaultOfCommand config (codes "deliver" ∷ words) fault
deliver_fault config words =
    behind_verb config (codes "deliver") words parts_of_pick (HasPick config) (λ pick. commands.Deliver pick)
    (only_deliver words) (λ pick. refl) (λ pick. tt) (λ pick has. has)

pub evict_fault : (config : Config) (words : List (List ℕ)) (Has : ℕ × ℕ → Type 0)
    → ((p : ℕ × ℕ) → IsInRange config (commands.Evict (record { 0 = p.0 }) (record { 0 = p.1 })) → Has p)
    → (fault : LineFault)
    → IsFaultOf (λ p. HasForm words (two_parts p)) (λ p. Writes words (two_parts p)) Has fault
    → IsFaultOfCommand config (codes "evict" ∷ words) fault
evict_fault config words Has =
    behind_verb config (codes "evict") words two_parts Has
    (λ p. commands.Evict (record { 0 = p.0 }) (record { 0 = p.1 }))
    (λ P h. only_evict words P (λ core line. h (core.0, line.0))) (λ p. refl) (λ p. tt)

pub hand_fault : (config : Config) (words : List (List ℕ)) (Has : ℕ × ℕ → Type 0)
    → ((p : ℕ × ℕ) → IsInRange config (commands.Hand (record { 0 = p.0 }) (record { 0 = p.1 })) → Has p)
    → (fault : LineFault)
    → IsFaultOf (λ p. HasForm words (two_parts p)) (λ p. Writes words (two_parts p)) Has fault
    → IsFaultOfCommand config (codes "hand" ∷ words) fault
hand_fault config words Has =
    behind_verb config (codes "hand") words two_parts Has (λ p. commands.Hand (record { 0 = p.0 }) (record { 0 = p.1 }))
    (λ P h. only_hand words P (λ core slice. h (core.0, slice.0))) (λ p. refl) (λ p. tt)

pub word_fault : (config : Config) (words : List (List ℕ)) (Has : ℕ → Type 0)
    → ((p : ℕ) → IsInRange config (commands.Look (looks.Word (record { 0 = p }))) → Has p) → (fault : LineFault)
    → IsFaultOf (λ p. HasForm words (one_part p)) (λ p. Writes words (one_part p)) Has fault
    → IsFaultOfCommand config (codes "word" ∷ words) fault
word_fault config words Has =
    behind_verb config (codes "word") words one_part Has (λ p. commands.Look (looks.Word (record { 0 = p })))
    (λ P h. only_word words P (λ word. h word.0)) (λ p. refl) (λ p. tt)

pub state_fault : (config : Config) (words : List (List ℕ)) (Has : ℕ → Type 0)
    → ((p : ℕ) → IsInRange config (commands.Look (looks.State (record { 0 = p }))) → Has p) → (fault : LineFault)
    → IsFaultOf (λ p. HasForm words (one_part p)) (λ p. Writes words (one_part p)) Has fault
    → IsFaultOfCommand config (codes "state" ∷ words) fault
state_fault config words Has =
    behind_verb config (codes "state") words one_part Has (λ p. commands.Look (looks.State (record { 0 = p })))
    (λ P h. only_state words P (λ line. h line.0)) (λ p. refl) (λ p. tt)

pub log_fault : (config : Config) (words : List (List ℕ)) (Has : ℕ → Type 0)
    → ((p : ℕ) → IsInRange config (commands.Look (looks.Log (record { 0 = p }))) → Has p) → (fault : LineFault)
    → IsFaultOf (λ p. HasForm words (one_part p)) (λ p. Writes words (one_part p)) Has fault
    → IsFaultOfCommand config (codes "log" ∷ words) fault
log_fault config words Has =
    behind_verb config (codes "log") words one_part Has (λ p. commands.Look (looks.Log (record { 0 = p })))
    (λ P h. only_log words P (λ slice. h slice.0)) (λ p. refl) (λ p. tt)

pub machine_fault : (look : MachineLook) (config : Config) (words : List (List ℕ)) (Has : Unit {0} → Type 0)
    → ((p : Unit {0}) → IsInRange config (commands.Look (looks.Machine look)) → Has p) → (fault : LineFault)
    → IsFaultOf (λ p. HasForm words (no_parts p)) (λ p. Writes words (no_parts p)) Has fault
    → IsFaultOfCommand config (name_of_machine_look look ∷ words) fault
machine_fault look config words Has =
    behind_verb config (name_of_machine_look look) words no_parts Has (λ p. commands.Look (looks.Machine look))
    (λ P h. only_machine look words P (h tt)) (λ p. refl) (λ p. tt)

pub pump_fault : (config : Config) (words : List (List ℕ)) (Has : ℕ → Type 0)
    → ((p : ℕ) → IsInRange config (commands.Pump p) → Has p) → (fault : LineFault)
    → IsFaultOf (λ p. HasForm words (one_part p)) (λ p. Writes words (one_part p)) Has fault
    → IsFaultOfCommand config (codes "pump" ∷ words) fault
pump_fault config words Has =
    behind_verb config (codes "pump") words one_part Has (λ p. commands.Pump p)
    (λ P h. only_pump words P (λ calls. h calls)) (λ p. refl) (λ p. tt)

-- ---- what is wrong with the words after `issue`: a core, a tag and an access

abbrev issued : CoreId → ℕ → Op → ℕ → Command
issued core tag op word = commands.Issue core (record { op = op; word = record { 0 = word }; tag = tag })

-- there are fewer
pub issue_short : {W : Type 0} (config : Config) (text : W → List ℕ) (words : List W) → length words < 2
    → IsFaultOfCommand config (codes "issue" ∷ map text words) line_faults.NotACommand
unfolding IsFaultOf
issue_short config text [] few =
    λ c f. only_issue [] (λ z. HasForm (codes "issue" ∷ []) (parts_of z) → ⊥) (λ core request form. form.1) c f f
issue_short config text (word ∷ []) few =
    λ c f. only_issue (text word ∷ []) (λ z. HasForm (codes "issue" ∷ text word ∷ []) (parts_of z) → ⊥)
    (λ core request form. form.1) c f f
issue_short config text (word ∷ next ∷ more) few = absurd (omega arith)

-- the access is invalid
pub issue_access : (config : Config) (core tag : List ℕ) (access : List (List ℕ)) (fault : LineFault)
    → IsFormFaultOf parts_of_access access fault → IsFaultOfCommand config (codes "issue" ∷ core ∷ tag ∷ access) fault
unfolding IsFaultOf
issue_access config core tag access line_faults.NotACommand h =
    λ c f. only_issue (core ∷ tag ∷ access) (λ z. HasForm (codes "issue" ∷ core ∷ tag ∷ access) (parts_of z) → ⊥)
    (λ k request form. h (request.op, request.word.0) form.1) c f f
issue_access config core tag access line_faults.BadNumber h = (
  (issued (record { 0 = 0 }) 0 h.0.0.0 h.0.0.1, (refl, h.0.1)),
  λ c s. only_issue (core ∷ tag ∷ access) (λ z. Says (codes "issue" ∷ core ∷ tag ∷ access) z → ⊥)
      (λ k request t. h.1 (request.op, request.word.0) t.0.1.2.2) c
      (HasForm-Writes (codes "issue" ∷ core ∷ tag ∷ access) (parts_of c) s.0) s,
)
issue_access config core tag access line_faults.OutOfRange h = absurd (h.1 h.0.0 h.0.1 tt)
issue_access config core tag access other h = h

-- the core or the tag is no number
pub issue_number : (config : Config) (core tag : List ℕ) (access : List (List ℕ)) (op : Op) (word : ℕ)
    → Writes access (parts_of_op op word) → (IsNumber core → IsNumber tag → digits_value 10 tag < 256 → ⊥)
    → (fault : LineFault) → fault ≡ line_faults.BadNumber
    → IsFaultOfCommand config (codes "issue" ∷ core ∷ tag ∷ access) fault
unfolding IsFaultOf
issue_number config core tag access op word written none fault is =
    subst (IsFaultOfCommand config (codes "issue" ∷ core ∷ tag ∷ access)) (sym is) (
      (issued (record { 0 = 0 }) 0 op word, (refl, HasForm-Writes access (parts_of_op op word) written)),
      λ c s. only_issue (core ∷ tag ∷ access) (λ z. Says (codes "issue" ∷ core ∷ tag ∷ access) z → ⊥)
          (λ k request t. none t.0.1.0 t.0.1.2.0 (subst (λ n. n < 256) (sym t.0.1.2.1) t.1)) c
          (HasForm-Writes (codes "issue" ∷ core ∷ tag ∷ access) (parts_of c) s.0) s,
    )

-- the machine lacks the core
pub issue_lacks : (config : Config) (core tag : List ℕ) (access : List (List ℕ)) (op : Op) (word n : ℕ)
    → Writes access (parts_of_op op word) → IsNumber core → n ≡ digits_value 10 core → IsNumber tag
    → digits_value 10 tag < 256 → ¬ (n < config.cores) → (fault : LineFault) → fault ≡ line_faults.OutOfRange
    → IsFaultOfCommand config (codes "issue" ∷ core ∷ tag ∷ access) fault
issue_lacks config core tag access op word n written number is tagged small none =
    lacks _ _ _ (issued (record { 0 = digits_value 10 core }) (digits_value 10 tag) op word)
    ((refl, (number, refl, (tagged, refl, written))), small)
    (λ c s. only_issue (core ∷ tag ∷ access)
    (λ z. Says (codes "issue" ∷ core ∷ tag ∷ access) z → IsInRange config z → ⊥)
    (λ k request t has. none (subst (λ m. m < config.cores) (sym (is ∙ t.0.1.1)) has)) c
    (HasForm-Writes (codes "issue" ∷ core ∷ tag ∷ access) (parts_of c) s.0) s)

-- the words are these
pub behind_two : {W : Type 0} (text : W → List ℕ) (words : List W) (other : W) → 2 ≤ length words
    → map text words ≡ text (get_or words 0 other) ∷ text (get_or words 1 other)
    ∷ map text (take (length words - 2) (drop 2 words))
behind_two text [] other two = absurd (omega arith)
behind_two text (word ∷ []) other two = absurd (omega arith)
behind_two text (word ∷ next ∷ more) other two =
    rw (take_all (length (word ∷ next ∷ more) - 2) more (omega arith)) refl
