-- What a stack that comes to an offset changes, and what it leaves.
use Rattle.std.proofs.Common.{◌≡◌, ◌≢◌, ℕ, zero, suc, ◌<◌, ◌⊎◌, inl, inr, true, List, [], ◌∷◌, Option, Some, None, refl, ap, sym, ◌∙◌, subst, arith}
use Rattle.std.specs.Prelude.{◌==◌, slice_set, slice_get}
use Rattle.std.proofs.lemmas.Bool.Decides.{eqb_tells}
use Rattle.px_program.specs.Formed.{AreTypes}
use Rattle.px_program.specs.declared.program.TypeInfo.{TypeInfo}
use Rattle.px_verify_kinds.specs.Heights.{AbsorbsOn, GivenIsAbsorbed, HeightIsBounded, MergesFall, met, met_with, stack_height}
use Rattle.px_verify_kinds.specs.Kinds.{common, merge, merge_kind}
use Rattle.px_verify_kinds.specs.declared.kind.Kind.{Kind}
use Rattle.px_verify_kinds.specs.declared.kind.Kind.TheVariants as kinds
use Rattle.px_verify_rounds.specs.Rounds.{entry_height, potential}
use Rattle.px_verify_rounds.specs.Table.{Table, entry_in, give, met_entry, set_entry, stack_at}

-- LISTS

pub set_same : {X : Type 0} (xs : List X) (at : ℕ) (x : X) → slice_get xs at ≡ Some x → slice_set xs at x ≡ xs
set_same [] at x e = refl
set_same (y ∷ xs) zero x e = let same : y ≡ x = cc (e) in ap (λ z. z ∷ xs) (sym same)
set_same (y ∷ xs) (suc at) x e = ap (λ z. y ∷ z) (set_same xs at x e)

pub get_set : {X : Type 0} (xs : List X) (at : ℕ) (x y : X) → slice_get xs at ≡ Some x → slice_get (slice_set xs at y) at ≡ Some y
get_set [] at x y e = absurd (cc)
get_set (z ∷ xs) zero x y e = refl
get_set (z ∷ xs) (suc at) x y e = get_set xs at x y e

pub get_set_other : {X : Type 0} (xs : List X) (at other : ℕ) (y : X) → other ≢ at → slice_get (slice_set xs at y) other ≡ slice_get xs other
get_set_other [] at other y apart = refl
get_set_other (z ∷ xs) zero zero y apart = absurd (apart refl)
get_set_other (z ∷ xs) zero (suc other) y apart = refl
get_set_other (z ∷ xs) (suc at) zero y apart = refl
get_set_other (z ∷ xs) (suc at) (suc other) y apart = get_set_other xs at other y (λ e. apart (ap suc e))

-- GIVING

pub give_none : (types : List TypeInfo) (given : List Kind) (table : Table) (at : ℕ) → slice_get table at ≡ None → give types given table at ≡ table
give_none types given table at e = rw e refl

pub give_some : (types : List TypeInfo) (given : List Kind) (table : Table) (at : ℕ) (entry : Option (List Kind)) → slice_get table at ≡ Some entry → give types given table at ≡ slice_set table at (met_entry types entry given)
give_some types given table at entry e = rw e refl

pub give_same : (types : List TypeInfo) (given : List Kind) (table : Table) (at : ℕ) (entry : Option (List Kind)) → slice_get table at ≡ Some entry → met_entry types entry given ≡ entry → give types given table at ≡ table
give_same types given table at entry e same = give_some types given table at entry e ∙ ap (slice_set table at) same ∙ set_same table at entry e

-- what the entries say of a stack that changes nothing
EntryAbsorbs : List TypeInfo → List Kind → Option (Option (List Kind)) → Type 0
EntryAbsorbs types given None = Unit {0}
EntryAbsorbs types given (Some entry) = met_entry types entry given ≡ entry

by_get : {X : Type 0} (P : Option X → Type 0) (x : Option X) → ((x ≡ None) → P None) → ((y : X) → x ≡ Some y → P (Some y)) → P x
by_get P None none some = none refl
by_get P (Some y) none some = some y refl

to_entry : (types : List TypeInfo) (given : List Kind) (table : Table) (at : ℕ) → give types given table at ≡ table → EntryAbsorbs types given (slice_get table at)
unfolding EntryAbsorbs
to_entry types given table at still = by_get (EntryAbsorbs types given) (slice_get table at) (λ none. tt)
    (λ entry some.
    let after : slice_get (slice_set table at (met_entry types entry given)) at ≡ Some (met_entry types entry given) = get_set table at entry (met_entry types entry given) some in
    let set : slice_set table at (met_entry types entry given) ≡ table = sym (give_some types given table at entry some) ∙ still in
    cc)

from_entry : (types : List TypeInfo) (given : List Kind) (table : Table) (at : ℕ) → EntryAbsorbs types given (slice_get table at) → give types given table at ≡ table
unfolding EntryAbsorbs
from_entry types given table at = by_get (λ x. EntryAbsorbs types given x → give types given table at ≡ table) (slice_get table at)
    (λ none absorbs. give_none types given table at none)
    (λ entry some absorbs. give_same types given table at entry some absorbs)

-- LAWS OF MERGES

pub record Laws : Type 0 where
  pub falls : MergesFall
  pub given : GivenIsAbsorbed
  pub on : AbsorbsOn
  pub bounded : HeightIsBounded

itself : (n : ℕ) → (n == n) ≡ true
itself n = elim (eqb_tells n n) [
  | inl same ↦ same.0
  | inr apart ↦ absurd (omega (arith, apart.1))
]

common_self : (types : List TypeInfo) (type : ℕ) → common types type type ≡ type
common_self types type = rw (itself type) refl

kind_self : (types : List TypeInfo) (kind : Kind) → merge_kind types kind kind ≡ Some kind
kind_self types kinds.I = refl
kind_self types kinds.L = refl
kind_self types kinds.N = refl
kind_self types kinds.Null = refl
kind_self types (kinds.Ref type) = ap (λ n. Some (kinds.Ref n)) (common_self types type)

pub merge_self : (types : List TypeInfo) (stack : List Kind) → merge types stack stack ≡ Some stack
merge_self types [] = refl
merge_self types (kind ∷ below) = rw (kind_self types kind, merge_self types below) refl

-- ABSORBING

entry_given : (types : List TypeInfo) (entry : Option (List Kind)) (given : List Kind) → Laws → AreTypes types → met_entry types (met_entry types entry given) given ≡ met_entry types entry given
entry_given types None given laws are = ap (λ x. Some (met_with given x)) (merge_self types given)
entry_given types (Some standing) given laws are = ap Some (laws.given types are standing given)

entry_on : (types : List TypeInfo) (entry : Option (List Kind)) (given other : List Kind) → Laws → AreTypes types → met_entry types entry given ≡ entry → met_entry types (met_entry types entry other) given ≡ met_entry types entry other
entry_on types None given other laws are absorbs = absurd (cc)
entry_on types (Some standing) given other laws are absorbs =
    let same : met types standing given ≡ standing = cc in
    ap Some (laws.on types are standing given other same)

-- a stack that comes again changes nothing
pub given_stays : (types : List TypeInfo) (given : List Kind) (table : Table) (at : ℕ) → Laws → AreTypes types → give types given (give types given table at) at ≡ give types given table at
unfolding EntryAbsorbs
given_stays types given table at laws are = by_get (λ x. set_entry table at x (λ entry. met_entry types entry given) ≡ give types given table at → give types given (give types given table at) at ≡ give types given table at) (slice_get table at)
    (λ none e. let same = give_none types given table at none in ap (λ t. give types given t at) same)
    (λ entry some e.
    let set = give_some types given table at entry some in
    let after : slice_get (give types given table at) at ≡ Some (met_entry types entry given) = ap (λ t. slice_get t at) set ∙ get_set table at entry (met_entry types entry given) some in
    give_same types given (give types given table at) at (met_entry types entry given) after (entry_given types entry given laws are))
    refl

-- and stays so, whatever comes to other offsets and to its own
pub stays_on : (types : List TypeInfo) (given other : List Kind) (table : Table) (at to : ℕ) → Laws → AreTypes types → give types given table at ≡ table → give types given (give types other table to) at ≡ give types other table to
unfolding EntryAbsorbs
stays_on types given other table at to laws are still = by_get (λ x. set_entry table to x (λ entry. met_entry types entry other) ≡ give types other table to → give types given (give types other table to) at ≡ give types other table to) (slice_get table to)
    (λ none e. let same = give_none types other table to none in ap (λ t. give types given t at) same ∙ still ∙ sym same)
    (λ entry some e.
    let set : give types other table to ≡ slice_set table to (met_entry types entry other) = give_some types other table to entry some in
    elim (eqb_tells at to) [
      | inl same ↦
          let absorbs : EntryAbsorbs types given (slice_get table at) = to_entry types given table at still in
          let here : slice_get table at ≡ Some entry = ap (slice_get table) same.1 ∙ some in
          let entry_absorbs : met_entry types entry given ≡ entry = subst (EntryAbsorbs types given) here absorbs in
          let after : slice_get (give types other table to) at ≡ Some (met_entry types entry other) = ap (λ t. slice_get t at) set ∙ ap (slice_get (slice_set table to (met_entry types entry other))) same.1 ∙ get_set table to entry (met_entry types entry other) some in
          give_same types given (give types other table to) at (met_entry types entry other) after (entry_on types entry given other laws are entry_absorbs)
      | inr apart ↦
          let after : slice_get (give types other table to) at ≡ slice_get table at = ap (λ t. slice_get t at) set ∙ get_set_other table to at (met_entry types entry other) apart.1 in
          from_entry types given (give types other table to) at (subst (EntryAbsorbs types given) (sym after) (to_entry types given table at still))
    ])
    refl

-- whatever comes to others, the stack at an offset stays
pub stack_apart : (types : List TypeInfo) (given : List Kind) (table : Table) (at other : ℕ) → other ≢ at → stack_at (give types given table at) other ≡ stack_at table other
stack_apart types given table at other apart = by_get (λ x. entry_in (slice_get (set_entry table at x (λ entry. met_entry types entry given)) other) ≡ stack_at table other) (slice_get table at)
    (λ none. refl)
    (λ entry some. ap entry_in (get_set_other table at other (met_entry types entry given) apart))

-- HEIGHTS

entry_falls : (types : List TypeInfo) (most : ℕ) (entry : Option (List Kind)) (given : List Kind) → Laws → AreTypes types → stack_height types given < most → (met_entry types entry given ≡ entry) ⊎ (entry_height types most (met_entry types entry given) < entry_height types most entry)
entry_falls types most None given laws are low = inr low
entry_falls types most (Some standing) given laws are low = by_get (λ x. (Some (met_with standing x) ≡ Some standing) ⊎ (stack_height types (met_with standing x) < stack_height types standing)) (merge types standing given)
    (λ none. inl refl)
    (λ merged some. elim (laws.falls types are standing given merged some) [
      | inl same ↦ inl (ap Some same)
      | inr falls ↦ inr falls
    ])

pub potential_falls : (types : List TypeInfo) (most : ℕ) (table : Table) (at : ℕ) (entry after : Option (List Kind)) → slice_get table at ≡ Some entry → entry_height types most after < entry_height types most entry → potential types most (slice_set table at after) < potential types most table
potential_falls types most [] at entry after e low = absurd (cc)
potential_falls types most (x ∷ table) zero entry after e low = let is : x ≡ entry = cc (e) in rw is (omega arith)
potential_falls types most (x ∷ table) (suc at) entry after e low = omega (arith, potential_falls types most table at entry after e low)
