-- What all of some types are.
use Rattle.std.proofs.Common.{◌≡◌, ℕ, ◌+◌, ◌<◌, ◌≤◌, List, [], ◌∷◌, ◌++◌, length, get_or, drop, append_assoc, append-nil, Option, Some, None, refl, sym, ap, ◌∙◌, subst}
use Rattle.std.specs.List.{AllByRecursion}
use Rattle.std.proofs.lemmas.List.{at_drop_all, at_drop_more}
use Rattle.px_program.proofs.Types.{each-append}
use Rattle.px_sig.specs.declared.sig.SigType.{SigType}
use Rattle.px_tables.specs.Metadata.{View}
use Rattle.px_link_types.specs.Keys.{IsKey}
use Rattle.px_link_types.specs.declared.key.Key.{Key}
use Rattle.px_link_tokens.specs.Operands.{each_known, known_key, with_key}

-- these keys, and then the others
abbrev pub behind : List Key → Option (List Key) → Option (List Key)
behind keys None = None
behind keys (Some others) = Some (keys ++ others)

behind-none : (others : Option (List Key)) → others ≡ behind [] others
behind-none None = refl
behind-none (Some others) = refl

behind-push : (keys : List Key) (key : Key) (others : Option (List Key)) → behind keys (with_key (Some key) others) ≡ behind (keys ++ key ∷ []) others
behind-push keys key None = refl
behind-push keys key (Some others) = ap (λ ks. Some ks) (sym (append_assoc keys (key ∷ []) others))

pub none_yet : (v : View) (types : List SigType) (keys : List Key) → keys ≡ [] → each_known v types ≡ behind keys (each_known v types)
none_yet v types keys are = behind-none (each_known v types) ∙ ap (λ ks. behind ks (each_known v types)) (sym are)

here : (v : View) (types : List SigType) (i : ℕ) (type : SigType) (key : Option Key) → i < length types → type ≡ get_or types i type → key ≡ known_key v type
    → each_known v (drop i types) ≡ with_key key (each_known v (drop (i + 1) types))
here v types i type key less is told =
    at_drop_more (each_known v) types i type less ∙ ap (λ t. with_key (known_key v t) (each_known v (drop (i + 1) types))) (sym is)
    ∙ ap (λ k. with_key k (each_known v (drop (i + 1) types))) (sym told)

-- a type that isn't known
pub unknown_at : (v : View) (types : List SigType) (i : ℕ) (type : SigType) (keys : List Key) → i < length types → type ≡ get_or types i type → None ≡ known_key v type
    → each_known v types ≡ behind keys (each_known v (drop i types)) → None ≡ each_known v types
unknown_at v types i type keys less is told whole = sym (whole ∙ ap (behind keys) (here v types i type None less is told))

-- one that is
pub known_at : (v : View) (types : List SigType) (i : ℕ) (type : SigType) (key : Key) (keys news : List Key) → i < length types → type ≡ get_or types i type → Some key ≡ known_key v type
    → news ≡ keys ++ key ∷ [] → each_known v types ≡ behind keys (each_known v (drop i types)) → each_known v types ≡ behind news (each_known v (drop (i + 1) types))
known_at v types i type key keys news less is told are whole =
    whole ∙ ap (behind keys) (here v types i type (Some key) less is told) ∙ behind-push keys key (each_known v (drop (i + 1) types))
    ∙ ap (λ ks. behind ks (each_known v (drop (i + 1) types))) (sym are)

pub all_known : (v : View) (types : List SigType) (i : ℕ) (keys : List Key) → length types ≤ i → each_known v types ≡ behind keys (each_known v (drop i types)) → Some keys ≡ each_known v types
all_known v types i keys all whole = sym (whole ∙ ap (behind keys) (at_drop_all (each_known v) types i all) ∙ ap (λ ks. Some ks) (append-nil keys))

pub there_more : (v : View) (keys news : List Key) (key : Key) → AllByRecursion (IsKey v) keys → IsKey v key → news ≡ keys ++ key ∷ [] → AllByRecursion (IsKey v) news
there_more v keys news key are is e = subst (AllByRecursion (IsKey v)) (sym e) (each-append (IsKey v) keys (key ∷ []) are (is, tt))
