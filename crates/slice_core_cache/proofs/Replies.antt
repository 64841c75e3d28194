-- The tags that name a reply, as a set; and the least reply among those that were looked at.
use Rattle.std.proofs.Common.{◌≡◌, ◌≢◌, ◌↔◌, ◌≤◌, ◌<◌, ℕ, Bool, true, false, List, [], length, get_or, set, replicate}
use Rattle.std.proofs.Common.{Option, Some, None, refl, sym, ◌∙◌, ap, arith, inl, inr}
use Rattle.std.specs.Prelude.{nat_lt, if◌then◌else◌, IfSome}
use Rattle.std.proofs.lemmas.Bool.{cases_Bool, cases_eq, cases_lt, ltb-true, ltb-false}
use Rattle.std.proofs.lemmas.List.{get_or_past, get_or-set_same, get_or-set_other, length-set, get_or-replicate}
use Rattle.std.proofs.lemmas.List.{length-replicate}
use Rattle.address_map.specs.CoreSet.{has, with, without, members, count_of}
use Rattle.address_map.proofs.CoreSets.{has-zero, zero-from_none, has-with_same, has-with_other, has-without_same}
use Rattle.address_map.proofs.CoreSets.{has-without_other}
use Rattle.address_map.proofs.Members.{count_of-without}
use Rattle.slice_core_cache.specs.declared.tags.TagState.{TagState}
use Rattle.slice_core_cache.specs.declared.tags.TagState.TheVariants as tag_states
use Rattle.slice_core_cache.specs.Tags.{earlier, is_performed, tag_in, IsLeastReply, MarksReplies}

-- at first no tag names a reply
pub marks-none : MarksReplies (replicate 64 tag_states.Free) 0
marks-none = record {
  long = length-replicate 64 tag_states.Free;
  marks = λ tag. has-zero tag ∙ sym (ap is_performed (free tag));
}
  where
    free : (tag : ℕ) → get_or (replicate 64 tag_states.Free) tag tag_states.Free ≡ tag_states.Free
    free tag =
        elim (cases_lt tag 64) [
          | inl within ↦ get_or-replicate 64 tag tag_states.Free tag_states.Free within
          | inr past ↦ get_or_past (replicate 64 tag_states.Free) tag tag_states.Free past
        ]

-- the tag names something else now, and the set has it or hasn't
pub marks-put : (states : List TagState) (old new : ℕ) (tag : ℕ) (state : TagState) → MarksReplies states old →
    tag < 64 →
    has new tag ≡ is_performed state → ((other : ℕ) → other ≢ tag → has new other ≡ has old other) →
    MarksReplies (set states tag state) new
marks-put states old new tag state marked below here others = record {
  long = length-set states tag state ∙ marked.long;
  marks = λ other.
      elim (cases_eq other tag) [
        | inl same ↦
            rw (same, get_or-set_same states tag state tag_states.Free (let long = marked.long in omega (arith, long)))
            here
        | inr apart ↦ rw (get_or-set_other states tag other state tag_states.Free apart) (others other apart
            ∙ marked.marks other)
      ];
}

pub marks-with : (states : List TagState) (replies tag : ℕ) (state : TagState) → MarksReplies states replies →
    tag < 64 →
    is_performed state ≡ true → MarksReplies (set states tag state) (with replies tag)
marks-with states replies tag state marked below performed =
    marks-put states replies (with replies tag) tag state marked below (has-with_same replies tag below ∙ sym performed)
    (λ other apart. has-with_other replies tag other apart)

pub marks-without : (states : List TagState) (replies tag : ℕ) (state : TagState) → MarksReplies states replies →
    tag < 64 →
    is_performed state ≡ false → MarksReplies (set states tag state) (without replies tag)
marks-without states replies tag state marked below none =
    marks-put states replies (without replies tag) tag state marked below (has-without_same replies tag ∙ sym none)
    (λ other apart. has-without_other replies tag other apart)

-- a tag that names a reply is one of the 64
pub tag-within : (states : List TagState) (replies tag : ℕ) → MarksReplies states replies → has replies tag ≡ true →
    tag < 64
tag-within states replies tag marked there =
    elim (cases_lt tag (length states)) [
      | inl within ↦ let long = marked.long in omega (arith, long, within)
      | inr past ↦
          let none : false ≡ true = sym (ap is_performed (get_or_past states tag tag_states.Free past))
          ∙ sym (marked.marks tag) ∙ there in
          absurd (cc none)
    ]

-- what a tag that isn't marked doesn't name
silent : (states : List TagState) (replies tag number : ℕ) → MarksReplies states replies → has replies tag ≡ false →
    tag_in states tag ≢ tag_states.Performed number
silent states replies tag number marked missing names =
    let clash : false ≡ true = sym missing ∙ marked.marks tag ∙ ap is_performed names in
    cc clash

-- no tag is marked exactly where none names a reply
pub none-marked : (states : List TagState) (replies : ℕ) → MarksReplies states replies →
    (replies ≡ 0) ↔ IsLeastReply states None
none-marked states replies marked = (
  (λ empty tag number. silent states replies tag number marked (rw empty (has-zero tag))),
  (λ none. zero-from_none replies (λ tag. marked.marks tag ∙ unnamed (tag_in states tag) (none tag))),
)
  where
    unnamed : (state : TagState) → ((number : ℕ) → state ≢ tag_states.Performed number) → is_performed state ≡ false
    unnamed tag_states.Free none = refl
    unnamed tag_states.Open none = refl
    unnamed (tag_states.Performed number) none = absurd (none number refl)

-- ---- the least of those that were looked at

-- of the replies that aren't left to be looked at, this one is the least
abbrev pub IsLeastBut : List TagState → ℕ → Option (ℕ × ℕ) → Type 0
IsLeastBut states rest None = (tag number : ℕ) → has rest tag ≡ false → tag_in states tag ≢ tag_states.Performed number
IsLeastBut states rest (Some least) =
    (tag_in states least.0 ≡ tag_states.Performed least.1)
    × ((tag number : ℕ) → has rest tag ≡ false → tag_in states tag ≡ tag_states.Performed number → least.1 ≤ number)

-- how far the search has come
pub record IsSearched (states : List TagState) (replies rest : ℕ) (least : Option (ℕ × ℕ)) : Type 0 where
  pub marked : MarksReplies states replies
  pub left : (tag : ℕ) → has rest tag ≡ true → has replies tag ≡ true
  pub least_so_far : IsLeastBut states rest least
  pub within : IfSome least (λ found. found.0 < 64)

number_of-Performed : (m n : ℕ) → tag_states.Performed m ≡ tag_states.Performed n → m ≡ n
number_of-Performed m n e = cc

-- one more tag is looked at
pub search-goes_on : (states : List TagState) (replies rest tag : ℕ) (least : Option (ℕ × ℕ)) →
    IsSearched states replies rest least → has rest tag ≡ true →
    IsSearched states replies (without rest tag) (earlier least tag (tag_in states tag))
search-goes_on states replies rest tag least so_far there =
    by (tag_in states tag) refl least so_far.least_so_far so_far.within
  where
    below : tag < 64
    below = tag-within states replies tag so_far.marked (so_far.left tag there)

    performed : (state : TagState) → tag_in states tag ≡ state → is_performed state ≡ true
    performed state is = ap is_performed (sym is) ∙ sym (so_far.marked.marks tag) ∙ so_far.left tag there

    kept : (other : ℕ) → has (without rest tag) other ≡ true → has replies other ≡ true
    kept other e =
        elim (cases_eq other tag) [
          | inl same ↦ let clash : false ≡ true = sym (has-without_same rest tag)
              ∙ ap (has (without rest tag)) (sym same) ∙ e in absurd (cc clash)
          | inr apart ↦ so_far.left other (sym (has-without_other rest tag other apart) ∙ e)
        ]

    before : (other : ℕ) → other ≢ tag → has (without rest tag) other ≡ false → has rest other ≡ false
    before other apart e = sym (has-without_other rest tag other apart) ∙ e

    found : (next : Option (ℕ × ℕ)) → IsLeastBut states (without rest tag) next → IfSome next (λ l. l.0 < 64) →
        IsSearched states replies (without rest tag) next
    found next is within = record { marked = so_far.marked; left = kept; least_so_far = is; within = within }

    by : (state : TagState) → tag_in states tag ≡ state → (least : Option (ℕ × ℕ)) → IsLeastBut states rest least →
        IfSome least (λ l. l.0 < 64) → IsSearched states replies (without rest tag) (earlier least tag state)
    by tag_states.Free is least h within = absurd (let p = performed tag_states.Free is in cc p)
    by tag_states.Open is least h within = absurd (let p = performed tag_states.Open is in cc p)
    by (tag_states.Performed m) is None h within =
        found (Some (tag, m)) (
          is,
          λ other n missing names.
              elim (cases_eq other tag) [
                | inl same ↦
                    let number = number_of-Performed m n (sym is ∙ ap (tag_in states) (sym same)
                    ∙ names) in omega (arith, number)
                | inr apart ↦ absurd (h other n (before other apart missing) names)
              ],
        )
        below
    by (tag_states.Performed m) is (Some l) h within = chosen (nat_lt m l.1) refl
      where
        chosen : (b : Bool) → nat_lt m l.1 ≡ b →
            IsSearched states replies (without rest tag) (if b then Some (tag, m) else Some l)
        chosen true e =
            let less : m < l.1 = ltb-true m l.1 e in
            found (Some (tag, m)) (
              is,
              λ other n missing names.
                  elim (cases_eq other tag) [
                    | inl same ↦
                        let number = number_of-Performed m n (sym is ∙ ap (tag_in states) (sym same)
                        ∙ names) in omega (arith, number)
                    | inr apart ↦ let least = h.1 other n (before other apart missing) names in
                        omega (arith, least, less)
                  ],
            )
            below
        chosen false e =
            let more : l.1 ≤ m = ltb-false m l.1 e in
            found (Some l) (
              h.0,
              λ other n missing names.
                  elim (cases_eq other tag) [
                    | inl same ↦
                        let number = number_of-Performed m n (sym is ∙ ap (tag_in states) (sym same) ∙ names) in
                        omega (arith, number, more)
                    | inr apart ↦ h.1 other n (before other apart missing) names
                  ],
            )
            within

none-left : (rest tag : ℕ) → members rest ≡ [] → tag < 64 → has rest tag ≡ false
unfolding count_of
none-left rest tag empty below =
    elim (cases_Bool (has rest tag)) [
      | inl there ↦
          let more = count_of-without rest tag below there in
          let none : count_of rest ≡ 0 = ap length empty in
          absurd (omega (arith, more, none))
      | inr missing ↦ missing
    ]

-- all tags were looked at
pub search-ends : (states : List TagState) (replies rest : ℕ) (least : Option (ℕ × ℕ)) →
    IsSearched states replies rest least → members rest ≡ [] → IsLeastReply states least
search-ends states replies rest least so_far empty = by least so_far.least_so_far
  where
    gone : (tag : ℕ) → has rest tag ≡ false
    gone tag =
        elim (cases_Bool (has rest tag)) [
          | inl there ↦ none-left rest tag empty (tag-within states replies tag so_far.marked (so_far.left tag there))
          | inr missing ↦ missing
        ]

    by : (least : Option (ℕ × ℕ)) → IsLeastBut states rest least → IsLeastReply states least
    by None h = λ tag number. h tag number (gone tag)
    by (Some l) h = (h.0, λ tag number names. h.1 tag number (gone tag) names)
