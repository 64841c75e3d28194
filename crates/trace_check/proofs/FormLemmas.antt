-- How the parts of a trace's lines are written.
use Rattle.std.proofs.Common.{◌≡◌, ℕ, ◌<◌, List, [], ◌∷◌, ◌++◌, length, get_or, eqb, eq-eqb, true, false, sym, refl, ap}
use Rattle.std.proofs.Common.{inl, inr, subst, ◌≤◌, lit≤, length-append, ◌∙◌, arith}
use Rattle.std.specs.Str.Parse.{digits_value}
use Rattle.std.proofs.lemmas.Bool.{cases_eq}
use Rattle.std.proofs.lemmas.List.{map-id}
use Rattle.litmus_text.specs.Number.{IsNumber}
use Rattle.std.specs.Prelude.{codes}
use Rattle.address_map.specs.declared.request.Op.{Op}
use Rattle.address_map.specs.declared.request.Op.TheVariants as ops
use Rattle.litmus_text.specs.Form.{Part, key, num, HasForm, Writes}
use Rattle.litmus_text.specs.Command.{parts_of_op}
use Rattle.litmus_text.proofs.FormLemmas.{wrong_count}
use Rattle.trace_check.specs.declared.judge.TheConstants.{MOST_WORDS}
use Rattle.trace_check.specs.declared.trace_line.Version.{Version}
use Rattle.trace_check.specs.declared.trace_line.Version.TheVariants as versions
use Rattle.slice_log.specs.declared.entry.Entry.{Entry}
use Rattle.trace_check.specs.declared.trace_line.TraceLine.TheVariants as trace_lines
use Rattle.trace_check.specs.TraceLine.{IsOfVersion, BeginsWith, IsInRange, IsEntryOf, IsNoLineOf, with_since}
use Rattle.trace_check.specs.TraceLine.{parts_of_line}

-- words after words write parts after parts
pub Writes-append : (ws vs : List (List ℕ)) (ps qs : List Part) → Writes ws ps → Writes vs qs
    → Writes (ws ++ vs) (ps ++ qs)
Writes-append [] vs [] qs h k = k
Writes-append [] vs (p ∷ ps) qs h k = absurd h
Writes-append (w ∷ ws) vs [] qs h k = absurd h
Writes-append (w ∷ ws) vs (key text ∷ ps) qs h k = (h.0, Writes-append ws vs ps qs h.1 k)
Writes-append (w ∷ ws) vs (num n ∷ ps) qs h k = (h.0, h.1, Writes-append ws vs ps qs h.2 k)

-- words that don't begin with `cas` have the form of no compare-exchange
pub no_compare_exchange : (ws : List (List ℕ)) (op : Op) (word : ℕ) → (BeginsWith (codes "cas") ws → ⊥)
    → HasForm ws (parts_of_op op word)
    → IsOfVersion versions.One op
unfolding parts_of_op
no_compare_exchange ws ops.Load word other form = tt
no_compare_exchange ws (ops.Store value) word other form = tt
no_compare_exchange ws (ops.Add delta) word other form = tt
no_compare_exchange [] (ops.Cas expect new) word other form = form
no_compare_exchange (w ∷ ws) (ops.Cas expect new) word other form = other form.0

-- an entry's words write it if each writes its part
pub entry_written : (all : List (List ℕ)) (core seq tag : List ℕ) (access : List (List ℕ)) (reply since : List ℕ)
    (e : Entry)
    → all ≡ core ∷ seq ∷ tag ∷ (access ++ reply ∷ since ∷ []) → IsNumber core × (e.core.0 ≡ digits_value 10 core)
    → IsNumber seq × (e.seq ≡ digits_value 10 seq) → IsNumber tag × (e.tag ≡ digits_value 10 tag)
    → Writes access (parts_of_op e.op e.word.0) → IsNumber reply × (e.reply ≡ digits_value 10 reply)
    → IsNumber since × (e.since ≡ digits_value 10 since) →
    Writes (codes "entry" ∷ all) (parts_of_line (trace_lines.Entry e))
entry_written all core seq tag access reply since e shape is_core is_seq is_tag is_access is_reply is_since =
    let tail : Writes (reply ∷ since ∷ []) (num e.reply ∷ num e.since ∷ []) =
    (is_reply.0, sym is_reply.1, (is_since.0, sym is_since.1, tt)) in
    let rest = Writes-append access (reply ∷ since ∷ []) (parts_of_op e.op e.word.0)
    (num e.reply ∷ num e.since ∷ []) is_access tail in
    rw shape (refl, (is_core.0, sym is_core.1, (is_seq.0, sym is_seq.1, (is_tag.0, sym is_tag.1, rest))))

-- there is a word for each part
pub word_for_each : (ws : List (List ℕ)) (ps : List Part) → Writes ws ps → length ws ≡ length ps
word_for_each ws ps h = elim (cases_eq (length ws) (length ps)) [
  | inl same ↦ same
  | inr other ↦ absurd (wrong_count (λ w. w) ws ps other (rw map-id h))
]

-- words that write parts after parts write each of them, if there is a word for each of the first
pub Writes-split : (ws vs : List (List ℕ)) (ps qs : List Part) → length ws ≡ length ps → Writes (ws ++ vs) (ps ++ qs)
    → Writes ws ps × Writes vs qs
Writes-split [] vs [] qs same h = (tt, h)
Writes-split [] vs (p ∷ ps) qs same h = absurd (omega arith)
Writes-split (w ∷ ws) vs [] qs same h = absurd (omega arith)
Writes-split (w ∷ ws) vs (key text ∷ ps) qs same h =
    let rest = Writes-split ws vs ps qs (omega arith) h.1 in ((h.0, rest.0), rest.1)
Writes-split (w ∷ ws) vs (num n ∷ ps) qs same h =
    let rest = Writes-split ws vs ps qs (omega arith) h.2 in ((h.0, h.1, rest.0), rest.1)

-- the number after a keyword
second_number : (ws : List (List ℕ)) (text : List ℕ) (n : ℕ) (ps : List Part) → Writes ws (key text ∷ num n ∷ ps)
    → digits_value 10 (get_or ws 1 []) ≡ n
second_number [] text n ps h = absurd h
second_number (w ∷ []) text n ps h = absurd h.1
second_number (w ∷ v ∷ ws) text n ps h = h.1.1

-- the words of an access have its word in the second place
access_word : (ws : List (List ℕ)) (op : Op) (word : ℕ) → Writes ws (parts_of_op op word)
    → digits_value 10 (get_or ws 1 []) ≡ word
unfolding parts_of_op
access_word ws ops.Load word h = second_number ws (codes "load") word [] h
access_word ws (ops.Store value) word h = second_number ws (codes "store") word (num value ∷ []) h
access_word ws (ops.Add delta) word h = second_number ws (codes "add") word (num delta ∷ []) h
access_word ws (ops.Cas expect new) word h = second_number ws (codes "cas") word (num expect ∷ num new ∷ []) h

-- words write accesses of only one word
pub one_word : (ws : List (List ℕ)) (a b : Op) (v w : ℕ) → Writes ws (parts_of_op a v) → Writes ws (parts_of_op b w)
    → v ≡ w
one_word ws a b v w h k = sym (access_word ws a v h) ∙ access_word ws b w k

-- a word isn't two names that begin with different letters
pub two_names : (word a b : List ℕ) → word ≡ a → word ≡ b → eqb (get_or a 0 0) (get_or b 0 0) ≡ false → ⊥
two_names word a b h k other =
    let same : eqb (get_or a 0 0) (get_or b 0 0) ≡ true =
    eq-eqb (get_or a 0 0) (get_or b 0 0) (ap (λ t. get_or t 0 0) (sym h ∙ k)) in cc

-- words that have the form of an access of version 1 don't begin with `cas`
pub begins_otherwise : (ws : List (List ℕ)) (op : Op) (word : ℕ) → HasForm ws (parts_of_op op word)
    → IsOfVersion versions.One op
    → BeginsWith (codes "cas") ws → ⊥
unfolding parts_of_op
begins_otherwise [] op word form of cas = cas
begins_otherwise (w ∷ ws) ops.Load word form of cas = two_names w (codes "load") (codes "cas") form.0 cas refl
begins_otherwise (w ∷ ws) (ops.Store value) word form of cas =
    two_names w (codes "store") (codes "cas") form.0 cas refl
begins_otherwise (w ∷ ws) (ops.Add delta) word form of cas =
    two_names w (codes "add") (codes "cas") form.0 cas refl
begins_otherwise (w ∷ ws) (ops.Cas expect new) word form of cas = absurd of

-- what the words after `init` write of a line
pub init_refused : (version : Version) (ws : List (List ℕ))
    → ((word value : ℕ) → Writes ws (num word ∷ num value ∷ []) → word < MOST_WORDS → ⊥)
    → IsNoLineOf version (codes "init" ∷ ws)
unfolding IsInRange
init_refused version ws none (trace_lines.Init word value) is = none word.0 value is.written.1 is.in_range
init_refused version ws none (trace_lines.Entry e) is =
    two_names (codes "init") (codes "init") (codes "entry") refl is.written.0 refl

-- a word of the number
abbrev pub Spells : List ℕ → ℕ → Type 0
Spells word n = IsNumber word × (digits_value 10 word ≡ n)

-- the words after its name write the entry, one by one
pub record AreWordsOf (e : Entry) (ws : List (List ℕ)) (access : List (List ℕ)) (us : List (List ℕ)) : Type 0 where
  pub core : Spells (get_or ws 0 []) e.core.0
  pub seq : Spells (get_or ws 1 []) e.seq
  pub tag : Spells (get_or ws 2 []) e.tag
  pub written : Writes access (parts_of_op e.op e.word.0)
  pub reply : Spells (get_or us 0 []) e.reply
  pub since : Spells (get_or us 1 []) e.since

-- the words of an entry, one by one
pub entry_words : (core seq tag : List ℕ) (access : List (List ℕ)) (reply since : List ℕ) (e : Entry)
    → Writes (codes "entry" ∷ core ∷ seq ∷ tag ∷ (access ++ reply ∷ since ∷ [])) (parts_of_line (trace_lines.Entry e))
    → AreWordsOf e (core ∷ seq ∷ tag ∷ []) access (reply ∷ since ∷ [])
entry_words core seq tag access reply since e h =
    let op : List Part = parts_of_op e.op e.word.0 in
    let tail : List Part = num e.reply ∷ num e.since ∷ [] in
    let rest : Writes (access ++ reply ∷ since ∷ []) (op ++ tail) = h.1.2.2.2 in
    let whole : length (access ++ reply ∷ since ∷ []) ≡ length (op ++ tail) =
    word_for_each (access ++ reply ∷ since ∷ []) (op ++ tail) rest in
    let same : length access ≡ length op = omega (arith, simp length-append at whole) in
    let parts = Writes-split access (reply ∷ since ∷ []) op tail same rest in
    record {
      core = (h.1.0, h.1.1);
      seq = (h.1.2.0, h.1.2.1);
      tag = (h.1.2.2.0, h.1.2.2.1);
      written = parts.0;
      reply = (parts.1.0, parts.1.1);
      since = (parts.1.2.0, parts.1.2.1);
    }

-- a word that spells one number spells no other
pub one_number : (word : List ℕ) (m n : ℕ) → Spells word m → n ≡ digits_value 10 word → m ≡ n
one_number word m n spells is = sym spells.1 ∙ sym is

-- words that an entry doesn't have write no line after its name
pub entry_refused : (version : Version) (all : List (List ℕ)) (core seq tag : List ℕ) (access : List (List ℕ))
    (reply since : List ℕ)
    → with_since version all ≡ core ∷ seq ∷ tag ∷ (access ++ reply ∷ since ∷ [])
    → ((e : Entry) → AreWordsOf e (core ∷ seq ∷ tag ∷ []) access (reply ∷ since ∷ []) → IsEntryOf version e → ⊥)
    → IsNoLineOf version (codes "entry" ∷ all)
unfolding IsInRange
entry_refused version all core seq tag access reply since shape none (trace_lines.Init word value) is =
    two_names (codes "entry") (codes "entry") (codes "init") refl is.written.0 refl
entry_refused version all core seq tag access reply since shape none (trace_lines.Entry e) is =
    none e (entry_words core seq tag access reply since e
    (subst (λ ws. Writes (codes "entry" ∷ ws) (parts_of_line (trace_lines.Entry e))) shape is.written)) is.in_range

-- an access is of two words at least
pub access_count : (op : Op) (word : ℕ) → 2 ≤ length (parts_of_op op word)
unfolding parts_of_op
access_count ops.Load word = lit≤ tt
access_count (ops.Store value) word = lit≤ tt
access_count (ops.Add delta) word = lit≤ tt
access_count (ops.Cas expect new) word = lit≤ tt

-- few words write no entry
pub entry_too_short : (version : Version) (ws : List (List ℕ)) → length (with_since version ws) < 5
    → IsNoLineOf version (codes "entry" ∷ ws)
entry_too_short version ws few (trace_lines.Init word value) is =
    two_names (codes "entry") (codes "entry") (codes "init") refl is.written.0 refl
entry_too_short version ws few (trace_lines.Entry e) is =
    let op : List Part = parts_of_op e.op e.word.0 in
    let parts : List Part = num e.core.0 ∷ num e.seq ∷ num e.tag ∷ (op ++ num e.reply ∷ num e.since ∷ []) in
    let whole : length (with_since version ws) ≡ length parts =
    word_for_each (with_since version ws) parts is.written.1 in
    let two : 2 ≤ length op = access_count e.op e.word.0 in
    omega (arith, simp length-append at whole)
