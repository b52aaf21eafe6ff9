-- The program of one method is well formed.
use Rattle.std.proofs.Common.{◌≡◌, ℕ, List, [], ◌∷◌, Some, None, refl, ap, sym, subst, ◌∙◌, arith, rules, map}
use Rattle.std.specs.Prelude.{slice_get}
use Rattle.std.specs.List.{AllByRecursion}
use Rattle.px_program.specs.Alone.{alone, array_of, no_layout, types_with}
use Rattle.px_program.specs.Formed.{CanBegin, IsFormedIn, IsInteger, IsWellFormed, Overrides}
use Rattle.px_program.specs.Library.{library_types}
use Rattle.px_program.specs.Overriding.{AreByFirst}
use Rattle.px_program.specs.declared.program.Layout.{Layout}
use Rattle.px_program.specs.declared.program.Method.{Method}
use Rattle.px_program.specs.declared.program.Place.{Place}
use Rattle.px_program.specs.declared.program.Program.{Program}
use Rattle.px_program.specs.declared.program.TypeInfo.{TypeInfo}
use Rattle.px_program.proofs.Types.{AreTypes-types_with, each-append, each-weaken, each_at}

abbrev pub OverridesNothing : TypeInfo → Type 0
OverridesNothing type = type.overrides ≡ []

pub library_overrides_nothing : AllByRecursion OverridesNothing library_types
library_overrides_nothing = search rules

arrays_override_nothing : (elements : List Place) → AllByRecursion OverridesNothing (map array_of elements)
arrays_override_nothing [] = tt
arrays_override_nothing (element ∷ elements) = (refl, arrays_override_nothing elements)

types_override_nothing : (elements : List Place) → AllByRecursion OverridesNothing (types_with elements)
types_override_nothing elements = each-append OverridesNothing library_types (map array_of elements) library_overrides_nothing (arrays_override_nothing elements)

-- nothing is in order
nothing_by_first : (type : TypeInfo) → OverridesNothing type → AreByFirst type.overrides
nothing_by_first type nothing = subst AreByFirst (sym nothing) tt

-- where no type overrides anything, all overrides are as they should be
pub nothing_overridden : (program : Program) → AllByRecursion OverridesNothing program.types → (type : ℕ) (info : TypeInfo) → slice_get program.types type ≡ Some info → AllByRecursion (Overrides program type) info.overrides
nothing_overridden program nothing type info at =
    subst (λ pairs. AllByRecursion (Overrides program type) pairs) (sym (each_at OverridesNothing program.types nothing type info at)) tt

pub alone_formed : (elements : List Place) (method : Method) → AllByRecursion IsInteger elements → CanBegin (alone elements method) method → IsFormedIn (alone elements method) method → IsWellFormed (alone elements method)
alone_formed elements method integers begins formed =
    record {
      types = AreTypes-types_with elements integers;
      few_methods = omega arith;
      entry = record { method = method; at = refl; is = begins };
      methods = (formed, tt);
      overrides = nothing_overridden (alone elements method) (types_override_nothing elements);
      by_first = each-weaken OverridesNothing (λ type. AreByFirst type.overrides) nothing_by_first (types_with elements) (types_override_nothing elements);
    }

pub formed_where_alone : (elements : List Place) (method : Method) (program : Program) → AllByRecursion IsInteger elements → CanBegin (alone elements method) method → IsFormedIn (alone elements method) method → program ≡ alone elements method → IsWellFormed program
formed_where_alone elements method program integers begins formed is = subst IsWellFormed (sym is) (alone_formed elements method integers begins formed)

-- a program of these parts is that of the method alone
pub alone_of : (elements : List Place) (method : Method) (types : List TypeInfo) (methods : List Method) (layout : Layout) → types ≡ types_with elements → methods ≡ method ∷ [] → layout ≡ no_layout → record { types = types; methods = methods; entry = 0; maker = None; layout = layout } ≡ alone elements method
alone_of elements method types methods layout same_types same_methods same_layout =
    ap (λ (it : List TypeInfo). record { types = it; methods = methods; entry = 0; maker = None; layout = layout }) same_types
    ∙ ap (λ (it : List Method). record { types = types_with elements; methods = it; entry = 0; maker = None; layout = layout }) same_methods
    ∙ ap (λ (it : Layout). record { types = types_with elements; methods = method ∷ []; entry = 0; maker = None; layout = it }) same_layout
