-- What is wrong with words that are no line of a trace.
use Rattle.std.proofs.Common.{◌≡◌, ℕ, ◌<◌, ◌≤◌, List, [], ◌∷◌, ◌++◌, length, sym, refl, subst, inl, inr, arith}
use Rattle.std.proofs.Common.{length-append}
use Rattle.std.specs.Prelude.{codes}
use Rattle.std.proofs.lemmas.Bool.{cases_Bool, cases_eq}
use Rattle.std.specs.Str.{bytes_eq}
use Rattle.std.proofs.lemmas.List.{map-id}
use Rattle.address_map.specs.declared.request.Op.{Op}
use Rattle.slice_log.specs.declared.entry.Entry.{Entry}
use Rattle.litmus_text.specs.declared.fault.LineFault.{LineFault}
use Rattle.litmus_text.specs.declared.fault.LineFault.TheVariants as line_faults
use Rattle.litmus_text.specs.Form.{Part, key, num, Writes, HasForm, IsFaultOf, IsFormFaultOf, two_parts}
use Rattle.litmus_text.specs.Command.{parts_of_access, parts_of_op}
use Rattle.litmus_text.proofs.FaultLemmas.{fault_of_part}
use Rattle.litmus_text.proofs.FormLemmas.{HasForm-Writes, wrong_form}
use Rattle.trace_check.specs.declared.judge.TheConstants.{MOST_WORDS}
use Rattle.trace_check.specs.declared.trace_line.Version.{Version}
use Rattle.trace_check.specs.declared.trace_line.TraceLine.{TraceLine}
use Rattle.trace_check.specs.declared.trace_line.TraceLine.TheVariants as trace_lines
use Rattle.trace_check.specs.TraceLine.{HasFormOf, IsEntryOf, IsFaultOfLine, IsInRange, IsOfVersion, SaysLine}
use Rattle.trace_check.specs.TraceLine.{line_with_since, with_since, parts_of_line}
use Rattle.trace_check.proofs.FormLemmas.{AreWordsOf, access_count, entry_words, two_names}

-- words that say a line have its form
pub says_form : (version : Version) (ws : List (List ℕ)) (line : TraceLine) → SaysLine version ws line
    → HasFormOf version ws line
says_form version ws line s = (HasForm-Writes (line_with_since version ws) (parts_of_line line) s.0, s.1)

-- ---- an initial value

abbrev begins : ℕ × ℕ → TraceLine
begins p = trace_lines.Init (record { 0 = p.0 }) p.1

only_init : (version : Version) (ws : List (List ℕ)) (P : TraceLine → Type 0) → ((p : ℕ × ℕ) → P (begins p))
    → (line : TraceLine) → HasFormOf version (codes "init" ∷ ws) line → P line
only_init version ws P h (trace_lines.Init word value) f = h (word.0, value)
only_init version ws P h (trace_lines.Entry e) f =
    absurd (two_names (codes "init") (codes "init") (codes "entry") refl f.0.0 refl)

pub init_fault : (version : Version) (ws : List (List ℕ)) (fault : LineFault)
    → IsFaultOf (λ p. HasForm ws (two_parts p)) (λ p. Writes ws (two_parts p)) (λ p. p.0 < MOST_WORDS) fault
    → IsFaultOfLine version (codes "init" ∷ ws) fault
unfolding IsInRange
init_fault version ws =
    fault_of_part (λ p. HasForm ws (two_parts p)) (λ p. Writes ws (two_parts p)) (λ p. p.0 < MOST_WORDS)
    (HasFormOf version (codes "init" ∷ ws)) (SaysLine version (codes "init" ∷ ws)) (IsInRange version) begins
    (only_init version ws) (λ p f. ((refl, f), tt)) (λ p f. f.0.1) (λ p w. ((refl, w), tt)) (λ p s. s.0.1)
    (λ p k. k) (says_form version (codes "init" ∷ ws))

-- ---- an entry

-- words after words have the form of parts after parts
HasForm-append : (ws vs : List (List ℕ)) (ps qs : List Part) → HasForm ws ps → HasForm vs qs
    → HasForm (ws ++ vs) (ps ++ qs)
HasForm-append [] vs [] qs h k = k
HasForm-append [] vs (key text ∷ ps) qs h k = absurd h
HasForm-append [] vs (num n ∷ ps) qs h k = absurd h
HasForm-append (w ∷ ws) vs [] qs h k = absurd h
HasForm-append (w ∷ ws) vs (key text ∷ ps) qs h k = (h.0, HasForm-append ws vs ps qs h.1 k)
HasForm-append (w ∷ ws) vs (num n ∷ ps) qs h k = HasForm-append ws vs ps qs h k

-- .. and if there is a word for each of the first, each has its own
HasForm-first : (ws vs : List (List ℕ)) (ps qs : List Part) → length ws ≡ length ps → HasForm (ws ++ vs) (ps ++ qs)
    → HasForm ws ps
HasForm-first [] vs [] qs same h = tt
HasForm-first [] vs (p ∷ ps) qs same h = absurd (omega arith)
HasForm-first (w ∷ ws) vs [] qs same h = absurd (omega arith)
HasForm-first (w ∷ ws) vs (key text ∷ ps) qs same h = (h.0, HasForm-first ws vs ps qs (omega arith) h.1)
HasForm-first (w ∷ ws) vs (num n ∷ ps) qs same h = HasForm-first ws vs ps qs (omega arith) h

-- there is a word for each part
form_for_each : (ws : List (List ℕ)) (ps : List Part) → HasForm ws ps → length ws ≡ length ps
form_for_each ws ps h = elim (cases_eq (length ws) (length ps)) [
  | inl same ↦ same
  | inr other ↦ absurd (wrong_form (λ w. w) ws ps other (rw map-id h))
]

-- the words after its name, of an entry of five numbers and an access
abbrev pub AreParts : Version → List (List ℕ) → List ℕ → List ℕ → List ℕ → List (List ℕ) → List ℕ → List ℕ → Type 0
AreParts version all core seq tag access reply since =
    with_since version all ≡ core ∷ seq ∷ tag ∷ (access ++ reply ∷ since ∷ [])

-- .. have the form of an entry if those of the access have its form
access_form : (core seq tag : List ℕ) (access : List (List ℕ)) (reply since : List ℕ) (e : Entry)
    → HasForm (core ∷ seq ∷ tag ∷ (access ++ reply ∷ since ∷ []))
    (num e.core.0 ∷ num e.seq ∷ num e.tag ∷ (parts_of_op e.op e.word.0 ++ num e.reply ∷ num e.since ∷ []))
    → HasForm access (parts_of_op e.op e.word.0)
access_form core seq tag access reply since e h =
    let op : List Part = parts_of_op e.op e.word.0 in
    let tail : List Part = num e.reply ∷ num e.since ∷ [] in
    let whole : length (access ++ reply ∷ since ∷ []) ≡ length (op ++ tail) =
    form_for_each (access ++ reply ∷ since ∷ []) (op ++ tail) h in
    let same : length access ≡ length op = omega (arith, simp length-append at whole) in
    HasForm-first access (reply ∷ since ∷ []) op tail same h

-- an entry with this access, and zeros for its other numbers
abbrev entry_of : Op → ℕ → Entry
entry_of op word =
    record { op = op; word = record { 0 = word }; seq = 0; reply = 0; since = 0; core = record { 0 = 0 }; tag = 0 }

entry_form : (version : Version) (all : List (List ℕ)) (core seq tag : List ℕ) (access : List (List ℕ))
    (reply since : List ℕ) (op : Op) (word : ℕ) → AreParts version all core seq tag access reply since
    → HasForm access (parts_of_op op word) → IsOfVersion version op
    → HasFormOf version (codes "entry" ∷ all) (trace_lines.Entry (entry_of op word))
entry_form version all core seq tag access reply since op word parts form of =
    let behind = HasForm-append access (reply ∷ since ∷ []) (parts_of_op op word) (num 0 ∷ num 0 ∷ []) form tt in
    ((refl, rw parts behind), of)

-- what words have the form of, or say, that begin with `entry`
only_entry : (version : Version) (all : List (List ℕ)) (P : Entry → Type 0) → ((e : Entry) → P e)
    → (line : TraceLine) → HasFormOf version (codes "entry" ∷ all) line → (e : Entry) × (line ≡ trace_lines.Entry e)
    × P e
only_entry version all P h (trace_lines.Init word value) f =
    absurd (two_names (codes "entry") (codes "entry") (codes "init") refl f.0.0 refl)
only_entry version all P h (trace_lines.Entry e) f = (e, refl, h e)

-- few words have the form of no entry
pub short_fault : (version : Version) (all : List (List ℕ)) → length (with_since version all) < 5
    → IsFaultOfLine version (codes "entry" ∷ all) line_faults.NotACommand
unfolding IsFaultOf
short_fault version all few (trace_lines.Init word value) f =
    two_names (codes "entry") (codes "entry") (codes "init") refl f.0.0 refl
short_fault version all few (trace_lines.Entry e) f =
    let op : List Part = parts_of_op e.op e.word.0 in
    let parts : List Part = num e.core.0 ∷ num e.seq ∷ num e.tag ∷ (op ++ num e.reply ∷ num e.since ∷ []) in
    let whole : length (with_since version all) ≡ length parts = form_for_each (with_since version all) parts f.0.1 in
    let two : 2 ≤ length op = access_count e.op e.word.0 in
    omega (arith, simp length-append at whole)

-- an access that the version can't express, or that is none
pub no_form_fault : (version : Version) (all : List (List ℕ)) (core seq tag : List ℕ) (access : List (List ℕ))
    (reply since : List ℕ) → AreParts version all core seq tag access reply since
    → ((op : Op) (word : ℕ) → HasForm access (parts_of_op op word) → ¬ IsOfVersion version op)
    → IsFaultOfLine version (codes "entry" ∷ all) line_faults.NotACommand
unfolding IsFaultOf
no_form_fault version all core seq tag access reply since parts none (trace_lines.Init word value) f =
    two_names (codes "entry") (codes "entry") (codes "init") refl f.0.0 refl
no_form_fault version all core seq tag access reply since parts none (trace_lines.Entry e) f =
    none e.op e.word.0
    (access_form core seq tag access reply since e
    (subst (λ ws. HasForm ws (num e.core.0 ∷ num e.seq ∷ num e.tag
    ∷ (parts_of_op e.op e.word.0 ++ num e.reply ∷ num e.since ∷ []))) parts f.0.1)) f.1

-- the words of an entry that is said
said_words : (version : Version) (all : List (List ℕ)) (core seq tag : List ℕ) (access : List (List ℕ))
    (reply since : List ℕ) (e : Entry) → AreParts version all core seq tag access reply since
    → SaysLine version (codes "entry" ∷ all) (trace_lines.Entry e)
    → AreWordsOf e (core ∷ seq ∷ tag ∷ []) access (reply ∷ since ∷ [])
said_words version all core seq tag access reply since e parts s =
    entry_words core seq tag access reply since e
    (subst (λ ws. Writes (codes "entry" ∷ ws) (parts_of_line (trace_lines.Entry e))) parts s.0)

-- a number that can't be read
pub number_fault : (version : Version) (all : List (List ℕ)) (core seq tag : List ℕ) (access : List (List ℕ))
    (reply since : List ℕ) (op : Op) (word : ℕ) (fault : LineFault)
    → AreParts version all core seq tag access reply since → HasForm access (parts_of_op op word)
    → IsOfVersion version op
    → ((e : Entry) → ¬ AreWordsOf e (core ∷ seq ∷ tag ∷ []) access (reply ∷ since ∷ []))
    → fault ≡ line_faults.BadNumber → IsFaultOfLine version (codes "entry" ∷ all) fault
unfolding IsFaultOf
number_fault version all core seq tag access reply since op word fault parts form of none is =
    let unsaid : (line : TraceLine) → ¬ SaysLine version (codes "entry" ∷ all) line = λ line s.
    let e = only_entry version all (λ e. Unit {0}) (λ e. tt) line (says_form version (codes "entry" ∷ all) line s) in
    none e.0 (said_words version all core seq tag access reply since e.0 parts
    (subst (SaysLine version (codes "entry" ∷ all)) e.1 s)) in
    let formed = entry_form version all core seq tag access reply since op word parts form of in
    subst (IsFaultOfLine version (codes "entry" ∷ all)) (sym is)
    ((trace_lines.Entry (entry_of op word), formed), unsaid)

-- what is wrong with the access is wrong with the entry, if the version can express it
pub access_fault : (version : Version) (all : List (List ℕ)) (core seq tag : List ℕ) (access : List (List ℕ))
    (reply since : List ℕ) (fault : LineFault) → AreParts version all core seq tag access reply since
    → ((op : Op) (word : ℕ) → HasForm access (parts_of_op op word) → IsOfVersion version op)
    → IsFormFaultOf parts_of_access access fault → IsFaultOfLine version (codes "entry" ∷ all) fault
unfolding IsFaultOf
access_fault version all core seq tag access reply since line_faults.NotACommand parts of h =
    no_form_fault version all core seq tag access reply since parts (λ op word form known. h (op, word) form)
access_fault version all core seq tag access reply since line_faults.BadNumber parts of h =
    number_fault version all core seq tag access reply since h.0.0.0 h.0.0.1 line_faults.BadNumber parts h.0.1
    (of h.0.0.0 h.0.0.1 h.0.1) (λ e words. h.1 (e.op, e.word.0) words.written) refl
access_fault version all core seq tag access reply since line_faults.OutOfRange parts of h = absurd (h.1 h.0.0 h.0.1 tt)
access_fault version all core seq tag access reply since other parts of h = h

-- an entry that names what no trace can
pub range_fault : (version : Version) (all : List (List ℕ)) (core seq tag : List ℕ) (access : List (List ℕ))
    (reply since : List ℕ) (said : Entry) (fault : LineFault) → AreParts version all core seq tag access reply since
    → SaysLine version (codes "entry" ∷ all) (trace_lines.Entry said)
    → ((e : Entry) → AreWordsOf e (core ∷ seq ∷ tag ∷ []) access (reply ∷ since ∷ []) → ¬ IsEntryOf version e)
    → fault ≡ line_faults.OutOfRange → IsFaultOfLine version (codes "entry" ∷ all) fault
unfolding IsFaultOf IsInRange
range_fault version all core seq tag access reply since said fault parts says none is =
    let lacks : (line : TraceLine) → SaysLine version (codes "entry" ∷ all) line → ¬ IsInRange version line = λ line s.
    let e = only_entry version all (λ e. Unit {0}) (λ e. tt) line (says_form version (codes "entry" ∷ all) line s) in
    λ range. none e.0 (said_words version all core seq tag access reply since e.0 parts
    (subst (SaysLine version (codes "entry" ∷ all)) e.1 s)) (subst (IsInRange version) e.1 range) in
    subst (IsFaultOfLine version (codes "entry" ∷ all)) (sym is) ((trace_lines.Entry said, says), lacks)

-- words that have the form of a keyword and more begin with it
first_key : (version : Version) (name : List ℕ) (rest : List (List ℕ)) (text : List ℕ) (ps : List Part)
    → HasForm (line_with_since version (name ∷ rest)) (key text ∷ ps) → name ≡ text
first_key version name rest text ps h = elim (cases_Bool (bytes_eq name (codes "entry"))) [
  | inl is ↦ (rw is at h).0
  | inr other ↦ (rw other at h).0
]

-- words that begin with neither name have the form of no line
pub unnamed_fault : (version : Version) (name : List ℕ) (rest : List (List ℕ)) → (name ≡ codes "init" → ⊥)
    → (name ≡ codes "entry" → ⊥) → IsFaultOfLine version (name ∷ rest) line_faults.NotACommand
unfolding IsFaultOf
unnamed_fault version name rest init entry (trace_lines.Init word value) f =
    init (first_key version name rest (codes "init") (num word.0 ∷ num value ∷ []) f.0)
unnamed_fault version name rest init entry (trace_lines.Entry e) f =
    entry (first_key version name rest (codes "entry") (num e.core.0 ∷ num e.seq ∷ num e.tag
    ∷ (parts_of_op e.op e.word.0 ++ num e.reply ∷ num e.since ∷ [])) f.0)

pub nothing_fault : (version : Version) → IsFaultOfLine version [] line_faults.NotACommand
unfolding IsFaultOf
nothing_fault version (trace_lines.Init word value) f = f.0
nothing_fault version (trace_lines.Entry e) f = f.0
