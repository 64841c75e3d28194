-- A judge knows the log that it took.
use Rattle.std.proofs.Common.{◌≡◌, ℕ, ◌<◌, ◌^◌, ◌/◌, ◌&&◌, cond, eqb, List, [], ◌∷◌, ◌++◌, get_or, Some, None, sym}
use Rattle.std.proofs.Common.{lit<}
use Rattle.std.specs.Prelude.{All}
use Rattle.address_map.specs.declared.address.WordAddr.{WordAddr}
use Rattle.slice_log.specs.Log.{initially}
use Rattle.slice_log.specs.Op.{value_of}
use Rattle.slice_log.specs.declared.entry.Entry.{Entry}
use Rattle.slice_log.proofs.Values.{value-nil}
use Rattle.slice_log.proofs.Pushes.{IsLegal-nil, IsLegal-push, IsOrdered-nil, IsOrdered-push}
use Rattle.trace_check.specs.declared.judge.Judge.{Judge}
use Rattle.trace_check.specs.Verdict.{IsRight}
use Rattle.trace_check.specs.Judge.{Knows}
use Rattle.trace_check.specs.Latest.{latest_of}
use Rattle.trace_check.proofs.SeqLemmas.{greatest-nil, greatest-push}
use Rattle.trace_check.proofs.ValueLemmas.{values-begin, values-take}

pub knows-begin : (was now : Judge) (init : List (WordAddr × ℕ)) (word : WordAddr) (v : ℕ) → v < 2 ^ 64
    → All (λ pair. pair.0.0 < word.0) init → Knows was (initially init) [] → now.latest ≡ was.latest
    → ((w : ℕ) → get_or now.values.items w 0 ≡ cond (eqb word.0 w) v (get_or was.values.items w 0))
    → Knows now (initially (init ++ (word, v) ∷ [])) []
knows-begin was now init word v small below knows same set = record {
  values = values-begin was.values.items now.values.items init word v small below knows.values set;
  greatest = rw same knows.greatest;
  legal = IsLegal-nil (initially (init ++ (word, v) ∷ []));
  ordered = knows.ordered;
}

pub knows-take : (was now : Judge) (initial : ℕ → ℕ) (log : List Entry) (e : Entry) → ((w : ℕ)
    → get_or now.values.items w 0
    ≡ cond (eqb e.word.0 w) (value_of e.op (get_or was.values.items e.word.0 0)) (get_or was.values.items w 0))
    → ((line core : ℕ)
    → latest_of now.latest line core
    ≡ cond (eqb (e.word.0 / 8) line && eqb e.core.0 core) (Some e.seq) (latest_of was.latest line core))
    → Knows was initial log → IsRight initial log e → Knows now initial (log ++ e ∷ [])
knows-take was now initial log e set kept knows right = record {
  values = values-take was.values.items now.values.items initial log e knows.values right.reply set;
  greatest = greatest-push was.latest now.latest log e knows.greatest kept right.order;
  legal = IsLegal-push initial log e knows.legal right.reply;
  ordered = IsOrdered-push log e knows.ordered right.order right.since;
}

pub knows-nothing : (judge : Judge) → judge.values.items ≡ []
    → ((line core : ℕ) → latest_of judge.latest line core ≡ None) → Knows judge (initially []) []
knows-nothing judge no_value no_seq = record {
  values = λ w. rw no_value (sym (value-nil 0 w (lit< tt)));
  greatest = greatest-nil judge.latest no_seq;
  legal = IsLegal-nil (initially []);
  ordered = IsOrdered-nil;
}
