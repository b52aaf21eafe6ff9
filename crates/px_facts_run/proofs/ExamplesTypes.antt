-- Types that stand on each other, what fits where, fields and their slots, overriding, and what can be given.
use Rattle.std.proofs.Common.{◌≡◌, inl, inr, ℕ, List, [], ◌∷◌, ◌++◌, Some, None, true, false, codes, refl, arith}
use Rattle.px_program.specs.Alone.{array_of}
use Rattle.px_program.specs.Arguments.{can_be_given}
use Rattle.px_program.specs.Fields.{AreFields, IsSlot}
use Rattle.px_program.specs.Formed.{IsKindOf}
use Rattle.px_program.specs.Kinds.{Fits}
use Rattle.px_program.specs.Library.{library_types}
use Rattle.px_program.specs.Overriding.{overrider_in}
use Rattle.px_program.specs.declared.program.Place.{Place}
use Rattle.px_program.specs.declared.program.Place.TheVariants as places
use Rattle.px_program.specs.declared.program.TypeInfo.{TypeInfo}
use Rattle.px_program.proofs.Fitting.{kind_ends, kind_on}

abbrev class_of : List ℕ → ℕ → List Place → List (ℕ × ℕ) → TypeInfo
class_of name base fields overrides = record { name = name; base = Some base; element = None; fields = fields; statics = []; overrides = overrides }

-- from number 18 on: Animal, Dog on it, Animal[], Dog[], int[], Dog[][] and Animal[][]
abbrev animals : List TypeInfo
animals =
    library_types
    ++ (class_of (codes "Animal") 0 (places.I4 ∷ places.Bool ∷ []) []
    ∷ class_of (codes "Dog") 18 (places.I8 ∷ []) ((3, 5) ∷ (7, 8) ∷ [])
    ∷ array_of (places.Ref 18)
    ∷ array_of (places.Ref 19)
    ∷ array_of places.I4
    ∷ array_of (places.Ref 21)
    ∷ array_of (places.Ref 20)
    ∷ [])

-- kinds

dog_is_animal : IsKindOf animals 19 18
dog_is_animal = record { steps = 1; way = (18, refl, refl) }

overflow_is_exception : IsKindOf animals 5 1
overflow_is_exception = record { steps = 3; way = (3, refl, (2, refl, (1, refl, refl))) }

animal_is_no_dog : IsKindOf animals 18 19 → ⊥
animal_is_no_dog kind =
    let last : 0 ≡ 19 = kind_ends animals 0 19 refl (kind_on animals 18 0 19 refl (λ same. absurd (omega arith)) kind) in
    absurd (omega (arith, last))

-- what fits

dogs_fit_animals : Fits animals 21 20
dogs_fit_animals = record { layers = 1; within = (19, 18, refl, refl, inr dog_is_animal) }

lists_of_dogs_fit : Fits animals 23 24
lists_of_dogs_fit = record { layers = 2; within = (21, 20, refl, refl, (19, 18, refl, refl, inr dog_is_animal)) }

numbers_fit_object : Fits animals 22 0
numbers_fit_object = record { layers = 0; within = inl refl }

-- fields and slots

dog_fields : AreFields animals 19 (places.I4 ∷ places.Bool ∷ places.I8 ∷ [])
dog_fields = record { bases = 18 ∷ 0 ∷ []; chain = (refl, (refl, refl)); are = refl }

own_field_of_dog : IsSlot animals (record { owner = 19; index = 0 }) 2
own_field_of_dog = record { bases = 18 ∷ 0 ∷ []; chain = (refl, (refl, refl)); is = refl }

field_of_animal : IsSlot animals (record { owner = 18; index = 1 }) 1
field_of_animal = record { bases = 0 ∷ []; chain = (refl, refl); is = refl }

-- overriding

dog_overrides : overrider_in animals 19 3 ≡ Some 5
dog_overrides = refl

dog_leaves : overrider_in animals 19 5 ≡ None
dog_leaves = refl

animal_overrides_nothing : overrider_in animals 18 3 ≡ None
animal_overrides_nothing = refl

-- what can be given

numbers_can_be_given : can_be_given animals (places.Ref 22) ≡ true
numbers_can_be_given = refl

animals_cannot : can_be_given animals (places.Ref 20) ≡ false
animals_cannot = refl

text_cannot : can_be_given animals (places.Ref 17) ≡ false
text_cannot = refl

nothing_cannot : can_be_given animals (places.Ref 25) ≡ false
nothing_cannot = refl

word_can_be_given : can_be_given animals places.UN ≡ true
word_can_be_given = refl
