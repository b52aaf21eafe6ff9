-- What stands where a stack came, and fits it.
use Rattle.std.proofs.Common.{◌≡◌, ◌⊎◌, inl, inr, ℕ, ◌<◌, false, List, [], ◌∷◌, length, Option, Some, refl, ap, sym, ◌∙◌, subst}
use Rattle.std.specs.Prelude.{is_none}
use Rattle.std.specs.List.{AllByRecursion}
use Rattle.px_program.specs.Formed.{AreTypes}
use Rattle.px_program.specs.declared.program.TypeInfo.{TypeInfo}
use Rattle.px_verify_kinds.specs.Heights.{Absorbs, AbsorbsOn, CommonAbove, GivenIsAbsorbed, met, met_with}
use Rattle.px_verify_kinds.specs.Kinds.{merge}
use Rattle.px_verify_kinds.specs.declared.kind.Kind.{Kind}
use Rattle.px_verify_rounds.specs.Table.{Table, begin, clashes, clashes_with, give, met_entry, stack_at}
use Rattle.px_verify.specs.Sound.{Goes}
use Rattle.px_verify.proofs.Finding.{by_option}
use Rattle.px_verify.proofs.Giving.{IsGiven, give_cases, give_length, give_there}

-- what stands there absorbs the stack
pub record Holds (types : List TypeInfo) (table : Table) (at : ℕ) (given : List Kind) : Type 0 where
  pub standing : List Kind
  pub stands : stack_at table at ≡ Some standing
  pub absorbs : Absorbs types standing given

-- where it stays so
pub holds_on : (types : List TypeInfo) → AreTypes types → AbsorbsOn → (given other : List Kind) (table : Table) (at to : ℕ) → Holds types table at given → Holds types (give types other table to) at given
holds_on types are absorbs_on given other table at to holds = by (give_cases types other table to at)
  where
    by : (stack_at (give types other table to) at ≡ stack_at table at) ⊎ IsGiven types other table to at → Holds types (give types other table to) at given
    by (inl same) = record { standing = holds.standing; stands = same ∙ holds.stands; absorbs = holds.absorbs }
    by (inr new) = record {
      standing = met types holds.standing other;
      stands = new.2 ∙ ap (λ (o : Option (List Kind)). met_entry types o other) holds.stands;
      absorbs = absorbs_on types are holds.standing given other holds.absorbs;
    }

-- where nothing merges but itself
abbrev pub AbsorbsFirst : Type 0
AbsorbsFirst = (types : List TypeInfo) → AreTypes types → (stack : List Kind) → Absorbs types stack stack

-- WHERE A STACK COMES

met_holds : (types : List TypeInfo) → AreTypes types → GivenIsAbsorbed → AbsorbsFirst → (given : List Kind) (table : Table) (at : ℕ) → at < length table → Holds types (give types given table at) at given
met_holds types are given_is first given table at within =
    by_option (λ o. stack_at (give types given table at) at ≡ met_entry types o given → Holds types (give types given table at) at given) (stack_at table at)
    (λ _ is. record { standing = given; stands = is; absorbs = first types are given })
    (λ standing _ is. record { standing = met types standing given; stands = is; absorbs = given_is types are standing given })
    (give_there types given table at within)

-- and a quiet one did
pub quiet_holds : (types : List TypeInfo) (given : List Kind) (table : Table) (at : ℕ) → at < length table → give types given table at ≡ table → Holds types table at given
quiet_holds types given table at within quiet =
    by_option (λ o. stack_at table at ≡ o → met_entry types o given ≡ o → Holds types table at given) (stack_at table at)
    (λ _ is still. absurd (cc))
    (λ standing _ is still. record { standing = standing; stands = is; absorbs = inside (met types standing given) standing still })
    refl (sym (give_there types given table at within) ∙ ap (λ (t : Table). stack_at t at) quiet)
  where
    inside : (a b : List Kind) → Some a ≡ Some b → a ≡ b
    inside a b same = cc

-- AT THE STARTS

begin_keeps : (types : List TypeInfo) → AreTypes types → AbsorbsOn → (given : List Kind) (at : ℕ) (table : Table) (starts : List (ℕ × List Kind)) → Holds types table at given → Holds types (begin types table starts) at given
begin_keeps types are absorbs_on given at table [] holds = holds
begin_keeps types are absorbs_on given at table (start ∷ more) holds = begin_keeps types are absorbs_on given at (give types start.1 table start.0) more (holds_on types are absorbs_on given start.1 table at start.0 holds)

pub begin_holds : (types : List TypeInfo) → AreTypes types → GivenIsAbsorbed → AbsorbsOn → AbsorbsFirst → (table : Table) (starts : List (ℕ × List Kind)) → AllByRecursion (λ (start : ℕ × List Kind). start.0 < length table) starts
    → AllByRecursion (λ (start : ℕ × List Kind). Holds types (begin types table starts) start.0 start.1) starts
begin_holds types are given_is absorbs_on first table [] within = tt
begin_holds types are given_is absorbs_on first table (start ∷ more) within = (
  begin_keeps types are absorbs_on start.1 start.0 (give types start.1 table start.0) more (met_holds types are given_is first start.1 table start.0 within.0),
  begin_holds types are given_is absorbs_on first (give types start.1 table start.0) more (same_size (length (give types start.1 table start.0)) (give_length types start.1 table start.0) more within.1),
)
  where
    same_size : (size : ℕ) → size ≡ length table → (starts : List (ℕ × List Kind)) → AllByRecursion (λ (s : ℕ × List Kind). s.0 < length table) starts → AllByRecursion (λ (s : ℕ × List Kind). s.0 < size) starts
    same_size size same starts each = subst (λ (n : ℕ). AllByRecursion (λ (s : ℕ × List Kind). s.0 < n) starts) (sym same) each

-- WHERE IT FITS

-- a stack fits what absorbs it and doesn't clash
pub holds_goes : (types : List TypeInfo) → AreTypes types → CommonAbove → (table : Table) (at : ℕ) (given : List Kind) → (holds : Holds types table at given) → clashes types table at given ≡ false → Goes types table at given
holds_goes types are above table at given holds free =
    let clear : is_none (merge types holds.standing given) ≡ false = subst (λ (o : Option (List Kind)). clashes_with types given o ≡ false) holds.stands free in
    by_option (λ o. merge types holds.standing given ≡ o → is_none o ≡ false → met_with holds.standing o ≡ holds.standing → Goes types table at given) (merge types holds.standing given)
    (λ _ is none same. absurd (cc))
    (λ merged _ is some same. record {
      stack = holds.standing;
      stands = holds.stands;
      fits = (above types are holds.standing given holds.standing (is ∙ ap Some same)).1;
    })
    refl clear holds.absorbs
