-- The first words of the lines that are no settings.
use Rattle.std.specs.Prelude.{ℕ, List, [], ◌∷◌, codes}
use Rattle.litmus_test.specs.declared.keyword.Keyword.{Keyword}
use Rattle.litmus_test.specs.declared.keyword.Keyword.TheVariants as keywords

abbrev pub name_of_keyword : Keyword → List ℕ
name_of_keyword keywords.Thread = codes "thread"
name_of_keyword keywords.Load = codes "load"
name_of_keyword keywords.Store = codes "store"
name_of_keyword keywords.Add = codes "add"
name_of_keyword keywords.Cas = codes "cas"
name_of_keyword keywords.Settle = codes "settle"
name_of_keyword keywords.Evict = codes "evict"
name_of_keyword keywords.Forbid = codes "forbid"

abbrev pub keywords_by_name : List (List ℕ × Keyword)
keywords_by_name =
    (codes "thread", keywords.Thread) ∷ (codes "load", keywords.Load) ∷ (codes "store", keywords.Store)
    ∷ (codes "add", keywords.Add) ∷ (codes "cas", keywords.Cas) ∷ (codes "settle", keywords.Settle)
    ∷ (codes "evict", keywords.Evict) ∷ (codes "forbid", keywords.Forbid) ∷ []
