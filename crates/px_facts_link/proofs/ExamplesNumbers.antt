-- How types are numbered, and what a program says of them.
use Rattle.std.proofs.Common.{◌≡◌, List, [], ◌∷◌, ◌++◌, refl, subst, sym, map, true, false, ℕ, Option, Some, None}
use Rattle.std.specs.Prelude.{codes}
use Rattle.px_link_types.specs.Infos.{IsInfoOf}
use Rattle.px_link_types.specs.Keys.{alone}
use Rattle.px_link_types.specs.Numbers.{Numbers, Ends, Passes, Meets, is_numbered, library_keys, own_types, place_in}
use Rattle.px_link_types.specs.declared.key.Key.{Key}
use Rattle.px_link_types.specs.declared.key.Leaf.TheVariants.{Number, Library, Defined}
use Rattle.px_meta.specs.Chains as chains
use Rattle.px_program.specs.declared.program.Place.{Place}
use Rattle.px_program.specs.declared.program.Place.TheVariants as places
use Rattle.px_program.specs.declared.program.Place.TheVariants.{Ref}
use Rattle.px_program.specs.declared.program.TypeInfo.{TypeInfo}
use Rattle.px_sig.specs.declared.sig.Integer.TheVariants.{I4}
use Rattle.px_facts_link.proofs.ShapeAssembly.{arrays, shapes}
use Rattle.px_facts_link.proofs.ExamplesTypes.{no_type_derives_from_string, own_types_of_base, own_types_of_inner, own_types_of_shape}
use Rattle.px_facts_link.proofs.SigWords.{grammar}
use Rattle.px_facts_link.proofs.TableWords.{tables}

-- NUMBERS of types, each as it is first met

-- behind the library: an array of Shape, Shape with its base Base, its field Inner, and the arrays that its fields hold; a static field comes last
abbrev met : List Key
met =
    arrays 1 (Defined 1) ∷ alone (Defined 1) ∷ alone (Defined 2) ∷ alone (Defined 3)
    ∷ arrays 1 (Library 17) ∷ arrays 2 (Number I4) ∷ arrays 1 (Number I4) ∷ []

-- a type that is new is met, and its own types come at once behind it
meets : {keys rest all own : List Key} {key : Key} → is_numbered keys key ≡ false → own_types shapes key ≡ own
    → Numbers shapes (keys ++ key ∷ []) (own ++ rest) all → Numbers shapes keys (key ∷ rest) all
meets {keys} {rest} {all} {own} {key} is_new is behind =
    Meets keys key rest all is_new (subst (λ types. Numbers shapes (keys ++ key ∷ []) (types ++ rest) all) (sym is) behind)

-- what has a number is passed
passes : {keys rest all : List Key} {key : Key} → is_numbered keys key ≡ true → Numbers shapes keys rest all → Numbers shapes keys (key ∷ rest) all
passes {keys} {rest} {all} {key} is_old behind = Passes keys key rest all is_old behind

-- a body that numbers the base last gives arrays of string the number 20, and Base 23
an_array_of_shape_is_met : Numbers shapes library_keys (arrays 1 (Defined 1) ∷ []) (library_keys ++ met)
unfolding tables
an_array_of_shape_is_met =
    meets refl refl (meets refl own_types_of_shape  -- the array, and Shape
    (meets refl own_types_of_base  -- its base
    (passes refl (passes refl (passes refl  -- in Base, Object, an IThing and a Shape
    (meets refl own_types_of_inner  -- an Inner
    (passes refl (passes refl  -- in Inner, Exception and an int32
    (passes refl  -- a Thing
    (meets refl refl (passes refl  -- an array of string
    (passes refl  -- a Point
    (meets refl refl (meets refl refl (passes refl  -- an array of arrays of int32
    (Ends _))))))))))))))))

what_has_a_number_keeps_it : Numbers shapes (library_keys ++ met) (alone (Defined 3) ∷ []) (library_keys ++ met)
what_has_a_number_keeps_it = passes refl (Ends _)

abbrev keys : List Key
keys = library_keys ++ met ++ alone (Defined 6) ∷ []

text_is_met : Numbers shapes (library_keys ++ met) (alone (Defined 6) ∷ []) keys
unfolding tables
text_is_met = meets refl no_type_derives_from_string (passes refl (Ends _))

places_of_keys : map (place_in keys) (alone (Number I4) ∷ alone (Library 17) ∷ alone (Defined 3) ∷ arrays 2 (Number I4) ∷ [])
    ≡ places.I4 ∷ Ref 17 ∷ Ref 21 ∷ Ref 23 ∷ []
places_of_keys = refl

-- WHAT A PROGRAM SAYS of these types, from number 18 on

abbrev array : Place → TypeInfo
array element = record { name = []; base = Some 0; element = Some element; fields = []; statics = []; overrides = [] }

-- a class without static fields
abbrev class : List ℕ → Option ℕ → List Place → TypeInfo
class name base fields = record { name = name; base = base; element = None; fields = fields; statics = []; overrides = [] }

-- an array type has no name; its elements are Shape
-- a body that takes the array for its own element gives Ref 18
an_array_of_shape : IsInfoOf shapes keys 1 (Defined 1) (array (Ref 19))
an_array_of_shape = refl

-- a body that exchanges them gives Ref 23 for its fields
shape : IsInfoOf shapes keys 0 (Defined 1) (record {
  name = codes "Demo.Shape";
  base = Some 20;
  element = None;
  fields = Ref 21 ∷ Ref 0 ∷ Ref 22 ∷ Ref 0 ∷ [];
  statics = Ref 23 ∷ [];
  overrides = [];
})
unfolding grammar tables
shape = record {
  name = record { outers = []; chain = chains.Ends 1 refl; is = refl };
  base = refl;
  element = refl;
  fields = refl;
  statics = refl;
  no_overrides = refl;
}

base : IsInfoOf shapes keys 0 (Defined 2) (class (codes "Demo.Base") (Some 0) (Ref 0 ∷ Ref 19 ∷ []))
unfolding grammar tables
base = record {
  name = record { outers = []; chain = chains.Ends 2 refl; is = refl };
  base = refl;
  element = refl;
  fields = refl;
  statics = refl;
  no_overrides = refl;
}

-- a body that writes its own name for each outer type gives "Inner/Inner"
inner : IsInfoOf shapes keys 0 (Defined 3) (class (codes "Demo.Base/Inner") (Some 1) (places.I4 ∷ []))
unfolding grammar tables
inner = record {
  name = record { outers = 2 ∷ []; chain = chains.GoesOn 3 2 [] refl (chains.Ends 2 refl); is = refl };
  base = refl;
  element = refl;
  fields = refl;
  statics = refl;
  no_overrides = refl;
}

an_array_of_string : IsInfoOf shapes keys 1 (Library 17) (array (Ref 17))
an_array_of_string = refl

an_array_of_arrays : IsInfoOf shapes keys 2 (Number I4) (array (Ref 24))
an_array_of_arrays = refl

an_array_of_int32 : IsInfoOf shapes keys 1 (Number I4) (array places.I4)
an_array_of_int32 = refl

-- a body that lets it derive from String gives Some 17
text : IsInfoOf shapes keys 0 (Defined 6) (class (codes "Demo.Text") (Some 0) [])
unfolding tables
text = record {
  name = record { outers = []; chain = chains.Ends 6 refl; is = refl };
  base = refl;
  element = refl;
  fields = refl;
  statics = refl;
  no_overrides = refl;
}
