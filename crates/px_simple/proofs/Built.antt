-- A static method by itself is well formed in the program of it alone.
use Rattle.std.proofs.Common.{◌≡◌, List, [], ◌∷◌, true, Some, arith, lit<}
use Rattle.std.specs.List.{AllByRecursion}
use Rattle.px_program.specs.declared.program.Method.{Method}
use Rattle.px_program.specs.declared.program.Place.{Place}
use Rattle.px_program.specs.declared.program.Place.TheVariants as places
use Rattle.px_program.specs.declared.program.TypeInfo.{TypeInfo}
use Rattle.px_program.specs.Alone.{alone}
use Rattle.px_program.specs.Formed.{CanBegin, FitsPlace, HasCode, HasOperands, IsFormed, IsFormedIn, IsInteger}

integer_fits : (types : List TypeInfo) (place : Place) → IsInteger place → FitsPlace types place
integer_fits types (places.Ref type) h = absurd h
integer_fits types _ h = tt

integers_fit : (types : List TypeInfo) (all : List Place) → AllByRecursion IsInteger all → AllByRecursion (FitsPlace types) all
integers_fit types [] h = tt
integers_fit types (place ∷ rest) h = (integer_fits types place h.0, integers_fit types rest h.1)

module _ (elements : List Place) (method : Method) (static : method.is_static ≡ true) where
  pub alone_begins : HasCode method → CanBegin (alone elements method) method
  alone_begins some = record { code = some; maker = static }

  -- it returns an int32, and has integer parameters, no locals and no clauses
  pub alone_formed : IsFormed method → AllByRecursion (λ i. HasOperands (alone elements method) i.code) method.code → AllByRecursion IsInteger method.params
      → method.owner ≡ 0 → method.ret ≡ Some places.I4 → method.locals ≡ [] → method.clauses ≡ [] → IsFormedIn (alone elements method) method
  alone_formed formed named params owner ret locals clauses = record {
    formed = formed;
    few_clauses = rw clauses (lit< tt);
    owner = rw owner (omega arith);
    params = integers_fit (alone elements method).types method.params params;
    ret = rw ret tt;
    locals = rw locals tt;
    operands = named;
    classes = rw clauses tt;
  }
