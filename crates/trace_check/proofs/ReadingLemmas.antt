-- Words write at most one line, so a text is at most one trace, and has one verdict.
use Rattle.std.proofs.Common.{◌≡◌, ℕ, List, [], ◌∷◌, ◌++◌, get_or, map, refl, sym, ap, subst, ◌∙◌}
use Rattle.std.specs.Prelude.{codes}
use Rattle.address_map.specs.declared.address.CoreId.{CoreId}
use Rattle.address_map.specs.declared.address.WordAddr.{WordAddr}
use Rattle.address_map.specs.declared.request.Op.{Op}
use Rattle.address_map.specs.declared.request.Op.TheVariants as ops
use Rattle.slice_log.specs.declared.entry.Entry.{Entry}
use Rattle.litmus_text.specs.Form.{Part, key, num, Writes}
use Rattle.litmus_text.specs.Command.{parts_of_op}
use Rattle.slice_log.specs.Log.{initially}
use Rattle.trace_check.specs.declared.verdict.Verdict.{Verdict}
use Rattle.trace_check.specs.Verdict.{IsVerdict}
use Rattle.trace_check.specs.declared.trace_line.Version.{Version}
use Rattle.trace_check.specs.declared.trace_line.Version.TheVariants as versions
use Rattle.trace_check.specs.declared.trace_line.TraceLine.{TraceLine}
use Rattle.trace_check.specs.declared.trace_line.TraceLine.TheVariants as trace_lines
use Rattle.trace_check.specs.TraceLine.{line_with_since, parts_of_line, parts_of_first}
use Rattle.trace_check.specs.Trace.{AreLines, body_of, IsJudged}
use Rattle.trace_check.proofs.FormLemmas.{two_names}
use Rattle.trace_check.proofs.ExactLemmas.{one_verdict}

-- the words of the first line name one version
pub one_version : (words : List (List ℕ)) (a b : Version) → Writes words (parts_of_first a)
    → Writes words (parts_of_first b) → a ≡ b
one_version words versions.One versions.One h k = refl
one_version words versions.Two versions.Two h k = refl
one_version [] versions.One versions.Two h k = absurd h
one_version (w ∷ []) versions.One versions.Two h k = absurd h.1
one_version (w ∷ v ∷ ws) versions.One versions.Two h k = absurd (two_names v (codes "1") (codes "2") h.1.0 k.1.0 refl)
one_version [] versions.Two versions.One h k = absurd h
one_version (w ∷ []) versions.Two versions.One h k = absurd h.1
one_version (w ∷ v ∷ ws) versions.Two versions.One h k = absurd (two_names v (codes "2") (codes "1") h.1.0 k.1.0 refl)
one_version words versions.WithoutSince versions.WithoutSince h k = refl
one_version [] versions.One versions.WithoutSince h k = absurd h
one_version (w ∷ []) versions.One versions.WithoutSince h k = absurd h.1
one_version (w ∷ v ∷ ws) versions.One versions.WithoutSince h k =
    absurd (two_names v (codes "1") (codes "no-since") h.1.0 k.1.0 refl)
one_version [] versions.WithoutSince versions.One h k = absurd h
one_version (w ∷ []) versions.WithoutSince versions.One h k = absurd h.1
one_version (w ∷ v ∷ ws) versions.WithoutSince versions.One h k =
    absurd (two_names v (codes "no-since") (codes "1") h.1.0 k.1.0 refl)
one_version [] versions.Two versions.WithoutSince h k = absurd h
one_version (w ∷ []) versions.Two versions.WithoutSince h k = absurd h.1
one_version (w ∷ v ∷ ws) versions.Two versions.WithoutSince h k =
    absurd (two_names v (codes "2") (codes "no-since") h.1.0 k.1.0 refl)
one_version [] versions.WithoutSince versions.Two h k = absurd h
one_version (w ∷ []) versions.WithoutSince versions.Two h k = absurd h.1
one_version (w ∷ v ∷ ws) versions.WithoutSince versions.Two h k =
    absurd (two_names v (codes "no-since") (codes "2") h.1.0 k.1.0 refl)

-- words that write both rests of two lines
record Both (ps qs : List Part) : Type 0 where
  words : List (List ℕ)
  one : Writes words ps
  other : Writes words qs

behind_key : (ws : List (List ℕ)) (s t : List ℕ) (ps qs : List Part) → Writes ws (key s ∷ ps) → Writes ws (key t ∷ qs)
    → Both ps qs
behind_key [] s t ps qs h k = absurd h
behind_key (w ∷ ws) s t ps qs h k = record { words = ws; one = h.1; other = k.1 }

behind_number : (ws : List (List ℕ)) (m n : ℕ) (ps qs : List Part) → Writes ws (num m ∷ ps) → Writes ws (num n ∷ qs)
    → (m ≡ n) × Both ps qs
behind_number [] m n ps qs h k = absurd h
behind_number (w ∷ ws) m n ps qs h k = (sym h.1 ∙ k.1, record { words = ws; one = h.2; other = k.2 })

first_word : (ws : List (List ℕ)) (name : List ℕ) (ps : List Part) → Writes ws (key name ∷ ps) → get_or ws 0 [] ≡ name
first_word [] name ps h = absurd h
first_word (w ∷ ws) name ps h = h.0

-- the name of an access
abbrev name_of_op : Op → List ℕ
name_of_op ops.Load = codes "load"
name_of_op (ops.Store value) = codes "store"
name_of_op (ops.Add delta) = codes "add"
name_of_op (ops.Cas expect new) = codes "cas"

first_of_op : (ws : List (List ℕ)) (op : Op) (word : ℕ) (ps : List Part) → Writes ws (parts_of_op op word ++ ps)
    → get_or ws 0 [] ≡ name_of_op op
unfolding parts_of_op
first_of_op ws ops.Load word ps h = first_word ws (codes "load") (num word ∷ ps) h
first_of_op ws (ops.Store x) word ps h = first_word ws (codes "store") (num word ∷ num x ∷ ps) h
first_of_op ws (ops.Add x) word ps h = first_word ws (codes "add") (num word ∷ num x ∷ ps) h
first_of_op ws (ops.Cas x y) word ps h = first_word ws (codes "cas") (num word ∷ num x ∷ num y ∷ ps) h

-- words write at most one access, at their front
record SameAccess (a b : Op) (v w : ℕ) (ps qs : List Part) : Type 0 where
  op : a ≡ b
  word : v ≡ w
  behind : Both ps qs

one_access : (ws : List (List ℕ)) (a b : Op) (v w : ℕ) (ps qs : List Part) → Writes ws (parts_of_op a v ++ ps)
    → Writes ws (parts_of_op b w ++ qs)
    → SameAccess a b v w ps qs
unfolding parts_of_op
one_access ws ops.Load ops.Load v w ps qs h k =
    let n = behind_key ws (codes "load") (codes "load") (num v ∷ ps) (num w ∷ qs) h k in
    let word = behind_number n.words v w ps qs n.one n.other in
    record { op = refl; word = word.0; behind = word.1 }
one_access ws (ops.Store x) (ops.Store y) v w ps qs h k =
    let n = behind_key ws (codes "store") (codes "store") (num v ∷ num x ∷ ps) (num w ∷ num y ∷ qs) h k in
    let word = behind_number n.words v w (num x ∷ ps) (num y ∷ qs) n.one n.other in
    let value = behind_number word.1.words x y ps qs word.1.one word.1.other in
    record { op = ap ops.Store value.0; word = word.0; behind = value.1 }
one_access ws (ops.Add x) (ops.Add y) v w ps qs h k =
    let n = behind_key ws (codes "add") (codes "add") (num v ∷ num x ∷ ps) (num w ∷ num y ∷ qs) h k in
    let word = behind_number n.words v w (num x ∷ ps) (num y ∷ qs) n.one n.other in
    let delta = behind_number word.1.words x y ps qs word.1.one word.1.other in
    record { op = ap ops.Add delta.0; word = word.0; behind = delta.1 }
one_access ws (ops.Cas x p) (ops.Cas y q) v w ps qs h k =
    let n = behind_key ws (codes "cas") (codes "cas") (num v ∷ num x ∷ num p ∷ ps) (num w ∷ num y ∷ num q ∷ qs) h k in
    let word = behind_number n.words v w (num x ∷ num p ∷ ps) (num y ∷ num q ∷ qs) n.one n.other in
    let expect = behind_number word.1.words x y (num p ∷ ps) (num q ∷ qs) word.1.one word.1.other in
    let new = behind_number expect.1.words p q ps qs expect.1.one expect.1.other in
    record { op = ap (λ e. ops.Cas e p) expect.0 ∙ ap (ops.Cas y) new.0; word = word.0; behind = new.1 }
one_access ws a b v w ps qs h k =
    absurd (two_names (get_or ws 0 []) (name_of_op a) (name_of_op b) (first_of_op ws a v ps h)
    (first_of_op ws b w qs k) refl)

same_word : (a b : WordAddr) → a.0 ≡ b.0 → a ≡ b
same_word a b same = ap (λ (n : ℕ). let w : WordAddr = record { 0 = n } in w) same

same_core : (a b : CoreId) → a.0 ≡ b.0 → a ≡ b
same_core a b same = ap (λ (n : ℕ). let c : CoreId = record { 0 = n } in c) same

abbrev entry : Op → WordAddr → ℕ → ℕ → ℕ → CoreId → ℕ → Entry
entry op word seq reply since core tag =
    record { op = op; word = word; seq = seq; reply = reply; since = since; core = core; tag = tag }

same_entry : (d e : Entry) → d.op ≡ e.op → d.word ≡ e.word → d.seq ≡ e.seq → d.reply ≡ e.reply → d.since ≡ e.since
    → d.core ≡ e.core
    → d.tag ≡ e.tag → d ≡ e
same_entry d e op word seq reply since core tag =
    ap (λ x. entry x d.word d.seq d.reply d.since d.core d.tag) op
    ∙ ap (λ x. entry e.op x d.seq d.reply d.since d.core d.tag) word
    ∙ ap (λ x. entry e.op e.word x d.reply d.since d.core d.tag) seq
    ∙ ap (λ x. entry e.op e.word e.seq x d.since d.core d.tag) reply
    ∙ ap (λ x. entry e.op e.word e.seq e.reply x d.core d.tag) since
    ∙ ap (λ x. entry e.op e.word e.seq e.reply e.since x d.tag) core
    ∙ ap (λ x. entry e.op e.word e.seq e.reply e.since e.core x) tag

-- words write at most one line
pub one_line : (ws : List (List ℕ)) (a b : TraceLine) → Writes ws (parts_of_line a) → Writes ws (parts_of_line b)
    → a ≡ b
one_line ws (trace_lines.Init v x) (trace_lines.Init w y) h k =
    let n = behind_key ws (codes "init") (codes "init") (num v.0 ∷ num x ∷ []) (num w.0 ∷ num y ∷ []) h k in
    let word = behind_number n.words v.0 w.0 (num x ∷ []) (num y ∷ []) n.one n.other in
    let value = behind_number word.1.words x y [] [] word.1.one word.1.other in
    ap (λ u. trace_lines.Init u x) (same_word v w word.0) ∙ ap (trace_lines.Init w) value.0
one_line ws (trace_lines.Entry d) (trace_lines.Entry e) h k =
    let d_ends : List Part = num d.reply ∷ num d.since ∷ [] in
    let e_ends : List Part = num e.reply ∷ num e.since ∷ [] in
    let d_access : List Part = parts_of_op d.op d.word.0 ++ d_ends in
    let e_access : List Part = parts_of_op e.op e.word.0 ++ e_ends in
    let n = behind_key ws (codes "entry") (codes "entry") (num d.core.0 ∷ num d.seq ∷ num d.tag ∷ d_access)
    (num e.core.0 ∷ num e.seq ∷ num e.tag ∷ e_access) h k in
    let core = behind_number n.words d.core.0 e.core.0 (num d.seq ∷ num d.tag ∷ d_access)
    (num e.seq ∷ num e.tag ∷ e_access) n.one n.other in
    let seq = behind_number core.1.words d.seq e.seq (num d.tag ∷ d_access)
    (num e.tag ∷ e_access) core.1.one core.1.other in
    let tag = behind_number seq.1.words d.tag e.tag d_access e_access seq.1.one seq.1.other in
    let access = one_access tag.1.words d.op e.op d.word.0 e.word.0 d_ends e_ends tag.1.one tag.1.other in
    let reply = behind_number access.behind.words d.reply e.reply (num d.since ∷ [])
    (num e.since ∷ []) access.behind.one access.behind.other in
    let since = behind_number reply.1.words d.since e.since [] [] reply.1.one reply.1.other in
    ap trace_lines.Entry
    (same_entry d e access.op (same_word d.word e.word access.word) seq.0 reply.0 since.0
    (same_core d.core e.core core.0) tag.0)
one_line ws (trace_lines.Init v x) (trace_lines.Entry e) h k =
    let tail : List Part =
    num e.core.0 ∷ num e.seq ∷ num e.tag ∷ (parts_of_op e.op e.word.0 ++ num e.reply ∷ num e.since ∷ []) in
    absurd (two_names (get_or ws 0 []) (codes "init") (codes "entry")
    (first_word ws (codes "init") (num v.0 ∷ num x ∷ []) h) (first_word ws (codes "entry") tail k) refl)
one_line ws (trace_lines.Entry d) (trace_lines.Init w y) h k =
    let tail : List Part =
    num d.core.0 ∷ num d.seq ∷ num d.tag ∷ (parts_of_op d.op d.word.0 ++ num d.reply ∷ num d.since ∷ []) in
    absurd (two_names (get_or ws 0 []) (codes "entry") (codes "init") (first_word ws (codes "entry") tail h)
    (first_word ws (codes "init") (num w.0 ∷ num y ∷ []) k) refl)

same_list : {X : Type 0} (x y : X) (xs ys : List X) → x ≡ y → xs ≡ ys → x ∷ xs ≡ y ∷ ys
same_list x y xs ys first rest = cc

-- statements write at most one list of lines
pub same_lines : (version : Version) (ss : List (ℕ × List (List ℕ))) (ks ls : List TraceLine) → AreLines version ss ks
    → AreLines version ss ls → ks ≡ ls
unfolding AreLines
same_lines version [] [] [] h k = refl
same_lines version [] (a ∷ ks) ls h k = absurd h
same_lines version [] [] (b ∷ ls) h k = absurd k
same_lines version (s ∷ ss) [] ls h k = absurd h
same_lines version (s ∷ ss) (a ∷ ks) [] h k = absurd k
same_lines version (s ∷ ss) (a ∷ ks) (b ∷ ls) h k =
    same_list a b ks ls (one_line (line_with_since version s.1) a b h.0.written k.0.written)
    (same_lines version ss ks ls h.1 k.1)

same_entries : (a b : List Entry) → map trace_lines.Entry a ≡ map trace_lines.Entry b → a ≡ b
same_entries [] [] h = refl
same_entries [] (e ∷ b) h = cc
same_entries (d ∷ a) [] h = cc
same_entries (d ∷ a) (e ∷ b) h =
    let first : d ≡ e = cc in
    same_list d e a b first (same_entries a b (cc))

same_pair : (p q : WordAddr × ℕ) → p.0 ≡ q.0 → p.1 ≡ q.1 → p ≡ q
same_pair p q word value = ap (λ w. (w, p.1)) word ∙ ap (λ v. (q.0, v)) value

pub not_both : (word : WordAddr) (value : ℕ) (e : Entry) → trace_lines.Init word value ≡ trace_lines.Entry e → ⊥
not_both word value e h = cc

-- lines are those of one list of initial values and one of entries
pub same_trace : (i j : List (WordAddr × ℕ)) (a b : List Entry) → body_of i a ≡ body_of j b → (i ≡ j) × (a ≡ b)
same_trace [] [] a b h = (refl, same_entries a b h)
same_trace [] (q ∷ j) [] b h = cc
same_trace [] (q ∷ j) (e ∷ a) b h = absurd (not_both q.0 q.1 e (cc))
same_trace (p ∷ i) [] a [] h = cc
same_trace (p ∷ i) [] a (e ∷ b) h = absurd (not_both p.0 p.1 e (cc))
same_trace (p ∷ i) (q ∷ j) a b h =
    let word : p.0 ≡ q.0 = cc in
    let value : p.1 ≡ q.1 = cc in
    let first = same_pair p q word value in
    let rest = same_trace i j a b (cc) in
    (same_list p q i j first rest.0, rest.1)

-- a text has only one verdict
pub one_judgement : (text : List ℕ) (a b : Verdict) → IsJudged text a → IsJudged text b → a ≡ b
one_judgement text a b h k =
    let here : ℕ × List (List ℕ) = (h.trace.number, h.trace.first) in
    let there : ℕ × List (List ℕ) = (k.trace.number, k.trace.first) in
    let same : here ∷ h.trace.rest ≡ there ∷ k.trace.rest = sym h.trace.statements ∙ k.trace.statements in
    let pair : here ≡ there = cc in
    let first : h.trace.first ≡ k.trace.first = ap (λ (p : ℕ × List (List ℕ)). p.1) pair in
    let rest : h.trace.rest ≡ k.trace.rest = cc in
    let version : h.version ≡ k.version =
    one_version k.trace.first h.version k.version
    (subst (λ ws. Writes ws (parts_of_first h.version)) first h.trace.begins) k.trace.begins in
    let written : AreLines k.version k.trace.rest (body_of h.init h.entries) =
    subst (λ ss. AreLines k.version ss (body_of h.init h.entries)) rest
    (subst (λ v. AreLines v h.trace.rest (body_of h.init h.entries)) version h.trace.goes_on.written) in
    let lines = same_lines k.version k.trace.rest (body_of h.init h.entries)
    (body_of k.init k.entries) written k.trace.goes_on.written in
    let trace = same_trace h.init k.init h.entries k.entries lines in
    one_verdict (initially k.init) k.entries a b
    (subst (λ es. IsVerdict (initially k.init) es a) trace.1
    (subst (λ i. IsVerdict (initially i) h.entries a) trace.0 h.is)) k.is
