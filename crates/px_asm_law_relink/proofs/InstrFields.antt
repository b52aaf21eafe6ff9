-- Fields that tokens name, read again.
use Rattle.std.proofs.Common.{◌≡◌, ℕ, zero, suc, ◌+◌, ◌≤◌, Bool, true, false, List, [], ◌∷◌, ◌++◌, map, Option, Some, None, refl, sym, ap, ◌∙◌, subst, arith, eqb-true, eq-eqb}
use Rattle.std.specs.Prelude.{◌==◌, ◌&&◌, ◌||◌, not, filter, IfSome, slice_get}
use Rattle.std.specs.List.{AllByRecursion, AllZip, range_with_len}
use Rattle.std.specs.Option.{option_map}
use Rattle.std.proofs.lemmas.Bool.{and_from, and_parts, cond-false, cond-true, cond_both, ne_eqb, not-true, or_right}
use Rattle.std.proofs.lemmas.Option.{same_Some, slice_get-map}
use Rattle.px_meta.specs.Members.{field_sig_at, owner_of}
use Rattle.px_meta.specs.Rows.{IsRow, cell, count_of, fields, is_in, rows_in, some_row}
use Rattle.px_meta.specs.Tokens.{row_in, table_in}
use Rattle.px_link_methods.specs.Codes.{field_among, place_of}
use Rattle.px_link_tokens.specs.Operands.{field_at, field_in, has_initialiser, is_field, is_owned, is_there, operand_of, read_form}
use Rattle.px_link_tokens.specs.declared.operand.Operand.TheVariants as operand
use Rattle.px_program.proofs.Types.{each_at}
use Rattle.px_program.specs.declared.instr.Code.TheVariants as code
use Rattle.px_program.specs.declared.instr.Field.{Field}
use Rattle.px_program.specs.declared.program.Place.{Place}
use Rattle.px_program.specs.declared.program.TypeInfo.{TypeInfo}
use Rattle.px_asm_law_relink.proofs.TypeReads.{some_row_is}
use Rattle.px_sig.specs.declared.sig.SigType.{SigType}
use Rattle.px_tables.specs.Metadata.{View}
use Rattle.px_link_types.specs.declared.key.Key.{Key}
use Rattle.px_link_types.specs.declared.key.Leaf.TheVariants.{Defined}
use Rattle.px_link_types.specs.Keys.{alone, is_class, key_of}
use Rattle.px_link_types.specs.Making.{AreNumberedIn}
use Rattle.px_link_types.specs.Numbers.{base_leaf, field_key, instance_fields, is_field_of, is_numbered, is_static_field, leaf_keys, number_of, place_in, static_fields}
use Rattle.px_link_types.specs.Parts.{asks_for, fields_of, is_kind}
use Rattle.px_link_types.proofs.Closed.{each-back, each-front}
use Rattle.px_link_types.proofs.Formed.{has_by}
use Rattle.px_link_types.proofs.Listed.{fields_are_rows}
use Rattle.px_link_types.proofs.There.{row_there}
use Rattle.px_link.proofs.LinkedOperands.{IsMet as IsMetWith}
use Rattle.px_link.proofs.LinkedProgram.{has_numbered}
use Rattle.px_link.proofs.LinkedTypes.{defined_type}
use Rattle.px_link_methods.proofs.RowPlaces.{at_place_of, beside, in_instance_fields, in_static_fields}
use Rattle.px_asm_law_relink.specs.Again.{Again, first_numbers, key_for, keys_for, type_for}
use Rattle.px_asm_described.specs.Describes.{IsFieldRow, NamesField}
use Rattle.px_asm_law_relink.proofs.InstrInitialisers.{no_initialiser}
use Rattle.px_asm_law_relink.proofs.InstrOperands.{StandsWith}
use Rattle.px_asm_law_relink.proofs.InstrTypes.{own_numbered}
use Rattle.px_asm_law_relink.proofs.TypesAgain.{IsMet, same_number, type_reads, type_stands}

-- LISTS OF ROWS

-- each is at least a number and more than the one before
abbrev Rise : ℕ → List ℕ → Type 0
Rise from [] = Unit {0}
Rise from (x ∷ xs) = (from ≤ x) × Rise (x + 1) xs

rise_later : (from later : ℕ) (xs : List ℕ) → from ≤ later → Rise later xs → Rise from xs
rise_later from later [] less rise = tt
rise_later from later (x ∷ xs) less rise = (omega (arith, less, rise.0), rise.1)

range_rises : (from n : ℕ) → Rise from (range_with_len from n)
range_rises from zero = tt
range_rises from (suc n) = (omega arith, range_rises (from + 1) n)

filter_rises : (p : ℕ → Bool) (from : ℕ) (xs : List ℕ) → Rise from xs → Rise from (filter p xs)
filter_rises p from [] rise = tt
filter_rises p from (x ∷ xs) rise =
    cond_both (p x) (x ∷ filter p xs) (filter p xs) (Rise from) (λ kept. (rise.0, filter_rises p (x + 1) xs rise.1))
    (λ dropped. rise_later from (x + 1) (filter p xs) (omega (arith, rise.0)) (filter_rises p (x + 1) xs rise.1))

least_at : (from : ℕ) (xs : List ℕ) (k row : ℕ) → Rise from xs → slice_get xs k ≡ Some row → from ≤ row
least_at from [] k row rise at = absurd (cc)
least_at from (x ∷ xs) zero row rise at = let same : x ≡ row = cc in omega (arith, same, rise.0)
least_at from (x ∷ xs) (suc k) row rise at = let later = least_at (x + 1) xs k row rise.1 at in omega (arith, later, rise.0)

place_is : (from : ℕ) (xs : List ℕ) (k row : ℕ) → Rise from xs → slice_get xs k ≡ Some row → place_of xs row ≡ k
place_is from [] k row rise at = absurd (cc)
place_is from (x ∷ xs) zero row rise at = let same : x ≡ row = cc in cond-true (x == row) 0 (1 + place_of xs row) (eq-eqb x row same)
place_is from (x ∷ xs) (suc k) row rise at =
    let later = least_at (x + 1) xs k row rise.1 at in
    let place = place_is (x + 1) xs k row rise.1 at in
    cond-false (x == row) 0 (1 + place_of xs row) (ne_eqb x row (λ e. omega (arith, e, later))) ∙ omega (arith, place)

each_passes : (p : ℕ → Bool) (xs : List ℕ) → AllByRecursion (λ x. p x ≡ true) (filter p xs)
each_passes p [] = tt
each_passes p (x ∷ xs) = cond_both (p x) (x ∷ filter p xs) (filter p xs) (AllByRecursion (λ y. p y ≡ true)) (λ passes. (passes, each_passes p xs)) (λ fails. each_passes p xs)

-- A FIELD OF A TYPE

abbrev list_of : View → Bool → ℕ → List ℕ
list_of v static row = fields_of v row static

abbrev places_of : Bool → TypeInfo → List Place
places_of false info = info.fields
places_of true info = info.statics

parts_of : (v : View) (static : Bool) (field : ℕ) → is_field v static field ≡ true
    → (is_kind static (is_static_field v field) ≡ true) × ((not static || not (has_initialiser v (owner_of v fields field))) ≡ true)
parts_of v static field is =
    let owned = is_owned v (not static) (owner_of v fields field) in
    let kind = is_kind static (is_static_field v field) in
    let form = read_form v (field_sig_at v (cell v fields field 2)) in
    let last = and_parts (owned && kind && form) (not static || not (has_initialiser v (owner_of v fields field))) is in
    ((and_parts owned kind (and_parts (owned && kind) form last.0).0).1, last.1)

in_list : (v : View) (static : Bool) (field : ℕ) → IsRow v fields field → is_kind static (is_static_field v field) ≡ true → is_in (list_of v static (owner_of v fields field)) field ≡ true
in_list v false field row kind = in_instance_fields v (owner_of v fields field) field row (eq-eqb (owner_of v fields field) (owner_of v fields field) refl) kind
in_list v true field row kind = in_static_fields v (owner_of v fields field) field row (eq-eqb (owner_of v fields field) (owner_of v fields field) refl) kind

-- what a type of the first assembly has in its fields, as the program says it
first_places : (a : Again) (static : Bool) (owner : ℕ) (met : IsMet a owner) → places_of static (type_stands a owner met).info ≡ map (λ f. place_in a.reads.keys (field_key a.first f)) (list_of a.first static owner)
first_places a static owner met =
    let types = (has_numbered a.first a.from a.name a.p a.reads).types in
    let type = defined_type a.first a.reads.keys a.p.types types owner met in
    let h = type_stands a owner met in
    let same : h.info ≡ type.type = same_Some h.info type.type (sym h.at ∙ type.at) in
    ap (places_of static) same ∙ by_kind static type.type type.fields type.statics
  where
    by_kind : (kind : Bool) (info : TypeInfo) → info.fields ≡ map (λ f. place_in a.reads.keys (field_key a.first f)) (instance_fields a.first owner) → info.statics ≡ map (λ f. place_in a.reads.keys (field_key a.first f)) (static_fields a.first owner)
        → places_of kind info ≡ map (λ f. place_in a.reads.keys (field_key a.first f)) (list_of a.first kind owner)
    by_kind false info instances statics = instances
    by_kind true info instances statics = statics

-- and what the other assembly says
rows_again : (a : Again) (static : Bool) (owner : ℕ) (met : IsMet a owner) → AllZip (IsFieldRow a.p a.v) (places_of static (type_stands a owner met).info) (list_of a.v static (type_for a owner))
rows_again a false owner met = (type_stands a owner met).is.fields
rows_again a true owner met = (type_stands a owner met).is.statics

-- what the fields of a type hold has numbers
held_numbered : (a : Again) (static : Bool) (owner : ℕ) → IsMet a owner → AreNumberedIn a.reads.keys (map (field_key a.first) (list_of a.first static owner))
held_numbered a false owner met =
    let bases = leaf_keys (base_leaf a.first owner) in
    let instances = map (field_key a.first) (instance_fields a.first owner) in
    let statics = map (field_key a.first) (static_fields a.first owner) in
    let numbered : Key → Type 0 = λ key. is_numbered a.reads.keys key ≡ true in
    each-back numbered bases instances (each-front numbered (bases ++ instances) statics (own_numbered a (alone (Defined owner)) met))
held_numbered a true owner met =
    let bases = leaf_keys (base_leaf a.first owner) in
    let instances = map (field_key a.first) (instance_fields a.first owner) in
    let statics = map (field_key a.first) (static_fields a.first owner) in
    let numbered : Key → Type 0 = λ key. is_numbered a.reads.keys key ≡ true in
    each-back numbered (bases ++ instances) statics (own_numbered a (alone (Defined owner)) met)

-- the field of the other assembly that has the place of one of the first
record HasFieldFor (a : Again) (static : Bool) (field other : ℕ) : Type 0 where
  row : IsRow a.v fields other
  owner : owner_of a.v fields other ≡ type_for a (owner_of a.first fields field)
  kind : is_kind static (is_static_field a.v other) ≡ true
  form : read_form a.v (field_sig_at a.v (cell a.v fields other 2)) ≡ true
  place : place_of (list_of a.v static (type_for a (owner_of a.first fields field))) other ≡ place_of (list_of a.first static (owner_of a.first fields field)) field

form_of : (v : View) (other : ℕ) (key : Key) → (type : SigType) → field_sig_at v (cell v fields other 2) ≡ Some type → key_of v type ≡ Some key → read_form v (field_sig_at v (cell v fields other 2)) ≡ true
form_of v other key type has_sig is = ap (read_form v) has_sig ∙ ap is_there is

field_for : (a : Again) (static : Bool) (field other : ℕ) → IsRow a.first fields field → is_kind static (is_static_field a.first field) ≡ true → IsMet a (owner_of a.first fields field)
    → slice_get (list_of a.v static (type_for a (owner_of a.first fields field))) (place_of (list_of a.first static (owner_of a.first fields field)) field) ≡ Some other → HasFieldFor a static field other
field_for a static field other row kind met at =
    let owner = owner_of a.first fields field in
    let index = place_of (list_of a.first static owner) field in
    let here : slice_get (list_of a.first static owner) index ≡ Some field = at_place_of (list_of a.first static owner) field (in_list a.first static field row kind) in
    let hold : ℕ → Place = λ f. place_in a.reads.keys (field_key a.first f) in
    let place : slice_get (places_of static (type_stands a owner met).info) index ≡ Some (hold field) =
    ap (λ ps. slice_get ps index) (first_places a static owner met) ∙ slice_get-map hold (list_of a.first static owner) index ∙ ap (option_map hold) here in
    let found = beside (IsFieldRow a.p a.v) (places_of static (type_stands a owner met).info) (list_of a.v static (type_for a owner)) (rows_again a static owner met) index (hold field) place in
    let same : found.0 ≡ other = same_Some found.0 other (sym found.1.0 ∙ at) in
    let says : IsFieldRow a.p a.v (hold field) other = subst (IsFieldRow a.p a.v (hold field)) same found.1.1 in
    let numbered = each_at (λ key. is_numbered a.reads.keys key ≡ true) (map (field_key a.first) (list_of a.first static owner)) (held_numbered a static owner met) index (field_key a.first field)
    (slice_get-map (field_key a.first) (list_of a.first static owner) index ∙ ap (option_map (field_key a.first)) here) in
    let reads = type_reads a (field_key a.first field) (hold field) says.type numbered refl says.is in
    let passes = and_parts (is_field_of a.v (type_for a owner) other) (is_kind static (is_static_field a.v other))
    (each_at (λ f. asks_for a.v (type_for a owner) static f ≡ true) (list_of a.v static (type_for a owner)) (each_passes (asks_for a.v (type_for a owner) static) (rows_in a.v fields)) index other at) in
    record {
      row = each_at (IsRow a.v fields) (list_of a.v static (type_for a owner)) (fields_are_rows a.v (type_for a owner) static) index other at;
      owner = eqb-true (owner_of a.v fields other) (type_for a owner) passes.0;
      kind = passes.1;
      form = form_of a.v other (key_for a (field_key a.first field)) says.type says.has_sig reads.key_is;
      place = place_is 1 (list_of a.v static (type_for a owner)) index other (filter_rises (asks_for a.v (type_for a owner) static) 1 (rows_in a.v fields) (range_rises 1 (count_of a.v fields))) at;
    }

-- A TOKEN

-- a type that stands for one of the first assembly is a class
pub owned_again : (a : Again) (class : Bool) (type : ℕ) → IsMet a type → is_owned a.v class (type_for a type) ≡ true
owned_again a class type met =
    let other = type_for a type in
    let some : not (other == 0) ≡ true = ap not (ne_eqb other 0 (λ e. omega (arith, e))) in
    and_from (not (other == 0)) (not class || is_class a.v other) some (or_right (not class) (is_class a.v other) (type_stands a type met).is.class)

initialised : (a : Again) (static : Bool) (type : ℕ) → IsMet a type → (not static || not (has_initialiser a.first type)) ≡ true → (not static || not (has_initialiser a.v (type_for a type))) ≡ true
initialised a false type met none = refl
initialised a true type met none = ap not (no_initialiser a type met (not-true (has_initialiser a.first type) none))

is_field_again : (a : Again) (static : Bool) (field other : ℕ) → is_field a.first static field ≡ true → IsMet a (owner_of a.first fields field) → HasFieldFor a static field other → is_field a.v static other ≡ true
is_field_again a static field other is met h =
    let owner = owner_of a.v fields other in
    let owned : is_owned a.v (not static) owner ≡ true = ap (is_owned a.v (not static)) h.owner ∙ owned_again a (not static) (owner_of a.first fields field) met in
    let last : (not static || not (has_initialiser a.v owner)) ≡ true = ap (λ o. not static || not (has_initialiser a.v o)) h.owner ∙ initialised a static (owner_of a.first fields field) met (parts_of a.first static field is).1 in
    let kind = is_kind static (is_static_field a.v other) in
    let form = read_form a.v (field_sig_at a.v (cell a.v fields other 2)) in
    and_from (is_owned a.v (not static) owner && kind && form) (not static || not (has_initialiser a.v owner))
    (and_from (is_owned a.v (not static) owner && kind) form (and_from (is_owned a.v (not static) owner) kind owned h.kind) h.form) last

-- the token names the field
record HasToken (a : Again) (static : Bool) (field at : ℕ) : Type 0 where
  named : field_at a.v static at ≡ Some (operand.Field (row_in at))
  owner : owner_of a.v fields (row_in at) ≡ type_for a (owner_of a.first fields field)
  among : field_among a.v (keys_for a a.reads.keys) (list_of a.v static) (row_in at) ≡ field_among a.first a.reads.keys (list_of a.first static) field

has_token : (a : Again) (static : Bool) (field at : ℕ) → IsRow a.first fields field → is_field a.first static field ≡ true → IsMet a (owner_of a.first fields field)
    → NamesField a.p (list_of a.v static) (field_among a.first a.reads.keys (list_of a.first static) field) at → HasToken a static field at
has_token a static field at row is met names =
    let owner = owner_of a.first fields field in
    let other = row_in at in
    let h = field_for a static field other row (parts_of a.first static field is).0 met names.among in
    let among_of : ℕ → Field = λ o. record { owner = number_of (keys_for a a.reads.keys) (alone (Defined o)); index = place_of (list_of a.v static o) other } in
    let made : ℕ → ℕ → Field = λ number index. record { owner = number; index = index } in
    record {
      named = cond-true (table_in at == fields) (field_in a.v static (some_row a.v fields other)) None (eq-eqb (table_in at) fields names.table)
          ∙ ap (field_in a.v static) (some_row_is a.v fields other h.row)
          ∙ cond-true (is_field a.v static other) (Some (operand.Field other)) None (is_field_again a static field other is met h);
      owner = h.owner;
      among = ap among_of h.owner ∙ ap (λ number. made number (place_of (list_of a.v static (type_for a owner)) other)) (same_number a (alone (Defined owner)) met)
          ∙ ap (made (number_of a.reads.keys (alone (Defined owner)))) h.place;
    }

-- OPCODES

owner_met : (a : Again) (field : ℕ) → IsMetWith a.first (first_numbers a) (operand.Field field) → IsMet a (owner_of a.first fields field)
owner_met a field met = has_by a.reads.keys (alone (Defined (owner_of a.first fields field))) refl met.keys.0

abbrev StandsAs : Again → Bool → ℕ → Type 0
StandsAs a static opcode = (field : ℕ) → IsRow a.first fields field → is_field a.first static field ≡ true → StandsWith a opcode (Some (operand.Field field))

get_field : (a : Again) → StandsAs a false 0x7B
unfolding operand_of
get_field a field row is met = record {
  opcode_is = refl;
  named = λ token names.
      let h = has_token a false field token row is (owner_met a field met) names in
      record {
        other = operand.Field (row_in token);
        at = h.named;
        keys = ap (λ o. alone (Defined o) ∷ []) h.owner;
        targets = refl;
        code = ap (code.Field false) h.among;
      };
}

set_field : (a : Again) → StandsAs a false 0x7D
unfolding operand_of
set_field a field row is met = record {
  opcode_is = refl;
  named = λ token names.
      let h = has_token a false field token row is (owner_met a field met) names in
      record {
        other = operand.Field (row_in token);
        at = h.named;
        keys = ap (λ o. alone (Defined o) ∷ []) h.owner;
        targets = refl;
        code = ap (code.Field true) h.among;
      };
}

get_static : (a : Again) → StandsAs a true 0x7E
unfolding operand_of
get_static a field row is met = record {
  opcode_is = refl;
  named = λ token names.
      let h = has_token a true field token row is (owner_met a field met) names in
      record {
        other = operand.Field (row_in token);
        at = h.named;
        keys = ap (λ o. alone (Defined o) ∷ []) h.owner;
        targets = refl;
        code = ap (code.Static false) h.among;
      };
}

set_static : (a : Again) → StandsAs a true 0x80
unfolding operand_of
set_static a field row is met = record {
  opcode_is = refl;
  named = λ token names.
      let h = has_token a true field token row is (owner_met a field met) names in
      record {
        other = operand.Field (row_in token);
        at = h.named;
        keys = ap (λ o. alone (Defined o) ∷ []) h.owner;
        targets = refl;
        code = ap (code.Static true) h.among;
      };
}

row_stands : (a : Again) (static : Bool) (opcode : ℕ) → StandsAs a static opcode → (row : Option ℕ) → IfSome row (IsRow a.first fields) → StandsWith a opcode (field_in a.first static row)
row_stands a static opcode stands None is = tt
row_stands a static opcode stands (Some row) is = cond_both (is_field a.first static row) (Some (operand.Field row)) None (StandsWith a opcode) (λ e. stands row is e) (λ e. tt)

field_stands : (a : Again) (static : Bool) (opcode : ℕ) → StandsAs a static opcode → (at : ℕ) → StandsWith a opcode (field_at a.first static at)
field_stands a static opcode stands at =
    cond_both (table_in at == fields) (field_in a.first static (some_row a.first fields (row_in at))) None (StandsWith a opcode)
    (λ e. row_stands a static opcode stands (some_row a.first fields (row_in at)) (row_there a.first fields (row_in at))) (λ e. tt)

pub get_field_stands : (a : Again) (at : ℕ) → StandsWith a 0x7B (field_at a.first false at)
get_field_stands a at = field_stands a false 0x7B (get_field a) at

pub set_field_stands : (a : Again) (at : ℕ) → StandsWith a 0x7D (field_at a.first false at)
set_field_stands a at = field_stands a false 0x7D (set_field a) at

pub get_static_stands : (a : Again) (at : ℕ) → StandsWith a 0x7E (field_at a.first true at)
get_static_stands a at = field_stands a true 0x7E (get_static a) at

pub set_static_stands : (a : Again) (at : ℕ) → StandsWith a 0x80 (field_at a.first true at)
set_static_stands a at = field_stands a true 0x80 (set_static a) at
