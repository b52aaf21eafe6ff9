-- The names of references that are nested in others.
use Rattle.std.proofs.Common.{◌≡◌, ℕ, zero, suc, ◌<◌, List, [], ◌∷◌, ◌++◌, length, get_or, drop, refl, ap, ◌∙◌, arith}
use Rattle.std.specs.Prelude.{codes}
use Rattle.px_tables.specs.Metadata.{View}
use Rattle.px_link_tokens.specs.Outside.{nested_name, own_ref_name}

-- the names of the references around one, each with its slash, the outermost first
abbrev pub names_before : View → List ℕ → List ℕ
names_before v [] = []
names_before v (scope ∷ scopes) = (names_before v scopes ++ own_ref_name v scope) ++ codes "/"

pub named : (v : View) (row : ℕ) (scopes : List ℕ) → names_before v scopes ++ own_ref_name v row ≡ nested_name v row scopes
named v row [] = refl
named v row (scope ∷ scopes) = ap (λ text. text ++ codes "/" ++ own_ref_name v row) (named v scope scopes)

-- the name of one more reference
pub one_more_name : (v : View) (scopes : List ℕ) (n scope : ℕ) (text : List ℕ) → n < length scopes → scope ≡ get_or scopes n 0 → text ≡ names_before v (drop (suc n) scopes)
    → (text ++ own_ref_name v scope) ++ codes "/" ≡ names_before v (drop n scopes)
one_more_name v [] n scope text less is e = absurd (omega arith)
one_more_name v (s ∷ scopes) zero scope text less is e = let same : scope ≡ s = is in ap (λ t. (t ++ own_ref_name v scope) ++ codes "/") e ∙ ap (λ r. (names_before v scopes ++ own_ref_name v r) ++ codes "/") same
one_more_name v (s ∷ scopes) (suc n) scope text less is e = one_more_name v scopes n scope text (omega arith) is e
