-- What the codes of a program lead to and name is there.
use Rattle.std.proofs.Common.{◌≡◌, ℕ, ◌+◌, ◌%◌, ◌^◌, ◌<◌, Bool, true, false, List, [], ◌∷◌, length, map, Option, Some, None, refl, sym, ap, subst, ⊎_elim, arith, eqb-true}
use Rattle.std.specs.Prelude.{◌==◌, ◌&&◌, ◌||◌, not, nat_le, nat_lt, if◌then◌else◌, IfSome, codes}
use Rattle.std.specs.List.{AllByRecursion}
use Rattle.std.specs.Str.{bytes_eq}
use Rattle.std.proofs.lemmas.Bool.{and_left, and_parts, cond_both, leb-true, eq-eqb, ne_eqb, or_cases}
use Rattle.std.proofs.lemmas.List.{length-map}
use Rattle.px_blobs.specs.Items.{blob_at}
use Rattle.px_meta.specs.Members.{field_sig_at, method_sig_at, owner_of}
use Rattle.px_meta.specs.Rows.{IsRow, cell, fields, member_refs, methods, some_row}
use Rattle.px_meta.specs.Tokens.{row_in, table_in}
use Rattle.px_link_methods.specs.Codes.{Numbering, code_with, field_among}
use Rattle.px_link_methods.specs.Methods.{sig_at}
use Rattle.px_link_opcodes.proofs.Fitting.{Fits}
use Rattle.px_link_tokens.specs.Operands.{Called, CalledVirtually, Made, Way, ◌else◌, callee_at, check_in, check_of, check_operand, constructor_of, constructor_with, each_known, element_at, field_at, field_in, has_body, has_initialiser, is_bool, is_field, is_owned, is_run, is_void, library_by, library_constructor, library_in, may_be_called, may_take, member_name, method_by, method_in, operand_of, parent_ref, read_form, reference_in, text_at_token, text_of, type_at, type_operand, units_of, virtual_at}
use Rattle.px_link_tokens.specs.declared.operand.Operand.{Operand}
use Rattle.px_link_tokens.specs.declared.operand.Operand.TheVariants as operand
use Rattle.px_pe.specs.Image as pe
use Rattle.px_program.specs.Formed.{FitsPlace, HasField}
use Rattle.px_program.specs.declared.instr.Callee.TheVariants as callees
use Rattle.px_program.specs.declared.instr.Check.{Check}
use Rattle.px_program.specs.declared.instr.Code.TheVariants as code
use Rattle.px_program.specs.declared.program.Program.{Program}
use Rattle.px_sig.specs.declared.sig.MethodSig.{MethodSig}
use Rattle.px_tables.specs.Metadata.{View}
use Rattle.px_link_types.specs.declared.key.Key.{Key}
use Rattle.px_link_types.specs.declared.key.Leaf.TheVariants.{Defined}
use Rattle.px_link_types.specs.Keys.{alone, array_in}
use Rattle.px_link_types.specs.Making.{AreNumberedIn}
use Rattle.px_link_types.specs.Numbers.{field_key, instance_fields, is_field_of, is_integer, is_integer_leaf, is_static_field, place_in, static_fields}
use Rattle.px_link_types.specs.Parts.{is_kind}
use Rattle.px_link_types.proofs.Formed.{has_by, place_fits}
use Rattle.px_link_types.proofs.There.{row_there}
use Rattle.px_link.proofs.LinkedTypes.{HasDefined, defined_type, number_fits}
use Rattle.px_link_methods.proofs.RowPlaces.{in_instance_fields, in_static_fields, place_below}
use Rattle.px_link.proofs.LinkedOperands.{HasLinked, HasNumbered, IsMet, IsType, array_type, has_code, is_instance, no_return, some_body, type_type}

module _ (v : View) (image : pe.View) (n : Numbering) (program : Program) (has : HasNumbered v image n program) (p : ℕ → Bool) where
  -- what an operand is met with, its instruction leads to starts and names well
  abbrev pub FitsWith : ℕ → Option Operand → Type 0
  FitsWith opcode None = Unit {0}
  FitsWith opcode (Some o) = IsMet v n o → Fits p program (code_with v n opcode o)

  -- TEXTS

  text_fits : (opcode : ℕ) (bytes : Option (List ℕ)) → FitsWith opcode (text_of bytes)
  text_fits opcode None = tt
  text_fits opcode (Some bytes) = cond_both (length bytes % 2 == 1) (Some (operand.Text (units_of bytes))) None (FitsWith opcode) (λ e met. record { leads = refl; operands = tt }) (λ e. tt)

  token_fits : (opcode at : ℕ) → FitsWith opcode (text_at_token v at)
  token_fits opcode at = cond_both (table_in at == 0x70) (text_of (blob_at v.user_strings (row_in at))) None (FitsWith opcode) (λ e. text_fits opcode (blob_at v.user_strings (row_in at))) (λ e. tt)

  -- TYPES

  deep : (key : Key) → 0 < key.depth → is_integer key ≡ false
  deep key some = and_left (key.depth == 0) (is_integer_leaf key.leaf) (ne_eqb key.depth 0 (λ e. omega arith))

  new_array : (key : Key) → 0 < key.depth → FitsWith 0x8D (type_operand (Some key))
  new_array key some = λ met. record { leads = refl; operands = array_type v n.keys program.types has.types key some (has_by n.keys key (deep key some) met.keys.0) }

  array_fits : (element : Option Key) → FitsWith 0x8D (type_operand (array_in element))
  array_fits None = tt
  array_fits (Some key) =
      let array : Key = record { depth = key.depth + 1; leaf = key.leaf } in
      cond_both (nat_lt (key.depth + 1) (2 ^ 32)) (Some array) None (λ o. FitsWith 0x8D (type_operand o)) (λ e. new_array array (omega arith)) (λ e. tt)

  load_fits : (key : Option Key) → FitsWith 0xA3 (type_operand key)
  load_fits None = tt
  load_fits (Some key) = λ met. record { leads = refl; operands = place_fits n.keys program.types has.types.count key.depth key.leaf met.keys.0 }

  store_fits : (key : Option Key) → FitsWith 0xA4 (type_operand key)
  store_fits None = tt
  store_fits (Some key) = λ met. record { leads = refl; operands = place_fits n.keys program.types has.types.count key.depth key.leaf met.keys.0 }

  cast_fits : (key : Option Key) → IsType key → FitsWith 0x74 (type_operand key)
  cast_fits None is = tt
  cast_fits (Some key) is = λ met. record { leads = refl; operands = number_fits v n.keys program.types has.types key is met.keys.0 }

  test_fits : (key : Option Key) → IsType key → FitsWith 0x75 (type_operand key)
  test_fits None is = tt
  test_fits (Some key) is = λ met. record { leads = refl; operands = number_fits v n.keys program.types has.types key is met.keys.0 }

  -- FIELDS

  owner_type : (field : ℕ) → IsMet v n (operand.Field field) → HasDefined v n.keys program.types (owner_of v fields field)
  owner_type field met =
      let owner = alone (Defined (owner_of v fields field)) in
      defined_type v n.keys program.types has.types (owner_of v fields field) (has_by n.keys owner refl met.keys.0)

  kind_of_field : (static : Bool) (field : ℕ) → is_field v static field ≡ true → is_kind static (is_static_field v field) ≡ true
  kind_of_field static field is =
      let owned = is_owned v (not static) (owner_of v fields field) in
      let kind = is_kind static (is_static_field v field) in
      let form = read_form v (field_sig_at v (cell v fields field 2)) in
      (and_parts owned kind (and_parts (owned && kind) form (and_parts (owned && kind && form) (not static || not (has_initialiser v (owner_of v fields field))) is).0).0).1

  same_owner : (field : ℕ) → is_field_of v (owner_of v fields field) field ≡ true
  same_owner field = eq-eqb (owner_of v fields field) (owner_of v fields field) refl

  has_instance : (field : ℕ) → IsRow v fields field → is_field v false field ≡ true → IsMet v n (operand.Field field) → HasField (λ t. t.fields) program.types (field_among v n.keys (instance_fields v) field)
  has_instance field row is met =
      let owner = owner_of v fields field in
      let type = owner_type field met in
      record {
        type = type.type;
        at = type.at;
        there = omega (arith, ap length type.fields, length-map (instance_fields v owner) (λ f. place_in n.keys (field_key v f)), place_below (instance_fields v owner) field (in_instance_fields v owner field row (same_owner field) (kind_of_field false field is)));
      }

  has_static : (field : ℕ) → IsRow v fields field → is_field v true field ≡ true → IsMet v n (operand.Field field) → HasField (λ t. t.statics) program.types (field_among v n.keys (static_fields v) field)
  has_static field row is met =
      let owner = owner_of v fields field in
      let type = owner_type field met in
      record {
        type = type.type;
        at = type.at;
        there = omega (arith, ap length type.statics, length-map (static_fields v owner) (λ f. place_in n.keys (field_key v f)), place_below (static_fields v owner) field (in_static_fields v owner field row (same_owner field) (kind_of_field true field is)));
      }

  -- an opcode of fields of instances, or of static ones
  abbrev IsFieldCode : Bool → ℕ → Type 0
  IsFieldCode false opcode = (field : ℕ) → HasField (λ t. t.fields) program.types (field_among v n.keys (instance_fields v) field) → Fits p program (code_with v n opcode (operand.Field field))
  IsFieldCode true opcode = (field : ℕ) → HasField (λ t. t.statics) program.types (field_among v n.keys (static_fields v) field) → Fits p program (code_with v n opcode (operand.Field field))

  one_field : (static : Bool) (opcode field : ℕ) → IsFieldCode static opcode → IsRow v fields field → is_field v static field ≡ true → IsMet v n (operand.Field field) → Fits p program (code_with v n opcode (operand.Field field))
  one_field false opcode field fits row is met = fits field (has_instance field row is met)
  one_field true opcode field fits row is met = fits field (has_static field row is met)

  row_fits : (static : Bool) (opcode : ℕ) → IsFieldCode static opcode → (row : Option ℕ) → IfSome row (IsRow v fields) → FitsWith opcode (field_in v static row)
  row_fits static opcode fits None is = tt
  row_fits static opcode fits (Some row) is = cond_both (is_field v static row) (Some (operand.Field row)) None (FitsWith opcode) (λ e met. one_field static opcode row fits is e met) (λ e. tt)

  field_fits : (static : Bool) (opcode : ℕ) → IsFieldCode static opcode → (at : ℕ) → FitsWith opcode (field_at v static at)
  field_fits static opcode fits at =
      cond_both (table_in at == fields) (field_in v static (some_row v fields (row_in at))) None (FitsWith opcode)
      (λ e. row_fits static opcode fits (some_row v fields (row_in at)) (row_there v fields (row_in at))) (λ e. tt)

  -- METHODS OF THE ASSEMBLY

  -- the method of an opcode is called as may be
  abbrev IsCallCode : Way → ℕ → Type 0
  IsCallCode way opcode = (row : ℕ) (sig : MethodSig) → sig_at v row ≡ Some sig → may_be_called v way row sig ≡ true → HasLinked v image n program row → Fits p program (code_with v n opcode (operand.Method row))

  by_sig : (way : Way) (opcode : ℕ) → IsCallCode way opcode → (row : ℕ) (sig : Option MethodSig) → sig_at v row ≡ sig → FitsWith opcode (method_by v way row sig)
  by_sig way opcode fits row None e = tt
  by_sig way opcode fits row (Some sig) e =
      cond_both (is_run v sig && may_be_called v way row sig) (Some (operand.Method row)) None (FitsWith opcode)
      (λ may met. fits row sig e (and_parts (is_run v sig) (may_be_called v way row sig) may).1 (has.methods row met.methods.0)) (λ not_so. tt)

  method_fits : (way : Way) (opcode : ℕ) → IsCallCode way opcode → (row : Option ℕ) → FitsWith opcode (method_in v way row)
  method_fits way opcode fits None = tt
  method_fits way opcode fits (Some row) = by_sig way opcode fits row (sig_at v row) refl

  called : IsCallCode Called 0x28
  called row sig e may linked =
      let owner = owner_of v methods row in
      let has_one = (and_parts (is_owned v sig.has_this owner) (has_body v row) (and_parts (is_owned v sig.has_this owner && has_body v row) (sig.has_this || not (has_initialiser v owner)) may).0).1 in
      record { leads = refl; operands = record { method = linked.method; at = linked.at; is = has_code v image n program row linked (some_body v row has_one) } }

  called_virtually : IsCallCode CalledVirtually 0x6F
  called_virtually row sig e may linked =
      let this = (and_parts (is_owned v true (owner_of v methods row)) sig.has_this may).1 in
      record { leads = refl; operands = record { method = linked.method; at = linked.at; is = is_instance v n row linked.whole linked.method sig linked.is e this } }

  made : IsCallCode Made 0x73
  made row sig e may linked =
      let owner = owner_of v methods row in
      let owned = is_owned v true owner in
      let body = has_body v row in
      let void = is_void sig.ret in
      let first = (and_parts (owned && body && sig.has_this && void) (not (has_initialiser v owner)) may).0 in
      let second = and_parts (owned && body && sig.has_this) void first in
      let third = and_parts (owned && body) sig.has_this second.0 in
      record {
        leads = refl;
        operands = record {
          method = linked.method;
          at = linked.at;
          is = record {
            instance = is_instance v n row linked.whole linked.method sig linked.is e third.1;
            no_return = no_return v n row linked.whole linked.method sig linked.is e second.1;
            code = has_code v image n program row linked (some_body v row (and_parts owned body third.0).1);
          };
        };
      }

  -- THE LIBRARY

  params_fit : (keys : List Key) → AreNumberedIn n.keys keys → AllByRecursion (FitsPlace program.types) (map (place_in n.keys) keys)
  params_fit [] are = tt
  params_fit (key ∷ keys) are = (place_fits n.keys program.types has.types.count key.depth key.leaf are.0, params_fit keys are.1)

  few_classes : (class : ℕ) (keys : List Key) → may_take class keys ≡ true → class < 17
  few_classes class [] may = omega (arith, leb-true class 16 may)
  few_classes class (key ∷ keys) may =
      let within = (and_parts (nat_le 1 class && nat_le class 16) _ may).0 in
      omega (arith, leb-true class 16 (and_parts (nat_le 1 class) (nat_le class 16) within).1)

  constructor_code : (opcode class : ℕ) (keys : List Key) → class < 17 → IsMet v n (operand.Constructor class keys) → Fits p program (code_with v n opcode (operand.Constructor class keys))
  constructor_code opcode class keys few met =
      let callee = callees.Constructor class (map (place_in n.keys) keys) in
      let params = params_fit keys met.keys.1 in
      cond_both (opcode == 0x73) (code.NewObject callee) (code.Call callee) (Fits p program) (λ e. record { leads = refl; operands = (few, params) }) (λ e. record { leads = refl; operands = (few, params) })

  with_keys : (opcode class : ℕ) (keys : Option (List Key)) → FitsWith opcode (constructor_with class keys)
  with_keys opcode class None = tt
  with_keys opcode class (Some keys) =
      cond_both (may_take class keys) (Some (operand.Constructor class keys)) None (FitsWith opcode) (λ may met. constructor_code opcode class keys (few_classes class keys may) met) (λ e. tt)

  of_class : (opcode : ℕ) (sig : MethodSig) (class : Option ℕ) → FitsWith opcode (constructor_of v sig class)
  of_class opcode sig None = tt
  of_class opcode sig (Some class) =
      cond_both (sig.has_this && sig.plain && is_void sig.ret) (constructor_with class (each_known v sig.params)) None (FitsWith opcode) (λ e. with_keys opcode class (each_known v sig.params)) (λ e. tt)

  constructor_fits : (opcode row : ℕ) (sig : MethodSig) → FitsWith opcode (library_constructor v row sig)
  constructor_fits opcode row sig =
      cond_both (bytes_eq (member_name v row) (codes ".ctor")) (constructor_of v sig (library_in v (parent_ref v row))) None (FitsWith opcode)
      (λ e. of_class opcode sig (library_in v (parent_ref v row))) (λ e. tt)

  a_check : (opcode : ℕ) (check : Option Check) → FitsWith opcode (check_operand check)
  a_check opcode None = tt
  a_check opcode (Some check) = λ met. record { leads = refl; operands = tt }

  check_fits : (opcode row : ℕ) (sig : MethodSig) → FitsWith opcode (check_of v row sig)
  check_fits opcode row sig =
      cond_both (bytes_eq (member_name v row) (codes "IsTrue") && not sig.has_this && sig.plain && is_void sig.ret && is_bool sig.params) (check_operand (check_in v (parent_ref v row))) None (FitsWith opcode)
      (λ e. a_check opcode (check_in v (parent_ref v row))) (λ e. tt)

  first_fits : (opcode : ℕ) (one other : Option Operand) → FitsWith opcode one → FitsWith opcode other → FitsWith opcode (one else other)
  first_fits opcode None other h k = k
  first_fits opcode (Some one) other h k = h

  library_fits : (opcode row : ℕ) (is_made : Bool) (sig : Option MethodSig) → FitsWith opcode (library_by v is_made row sig)
  library_fits opcode row is_made None = tt
  library_fits opcode row true (Some sig) = constructor_fits opcode row sig
  library_fits opcode row false (Some sig) = first_fits opcode (library_constructor v row sig) (check_of v row sig) (constructor_fits opcode row sig) (check_fits opcode row sig)

  reference_fits : (opcode : ℕ) (is_made : Bool) (row : Option ℕ) → FitsWith opcode (reference_in v is_made row)
  reference_fits opcode is_made None = tt
  reference_fits opcode is_made (Some row) = library_fits opcode row is_made (method_sig_at v (cell v member_refs row 2))

  callee_fits : (opcode : ℕ) (is_made : Bool) (at : ℕ) → ((row : Option ℕ) → FitsWith opcode (method_in v (if is_made then Made else Called) row)) → FitsWith opcode (callee_at v is_made at)
  callee_fits opcode is_made at fits =
      let reference = reference_in v is_made (some_row v member_refs (row_in at)) in
      cond_both (table_in at == methods) (method_in v (if is_made then Made else Called) (some_row v methods (row_in at))) (if table_in at == member_refs then reference else None) (FitsWith opcode)
      (λ e. fits (some_row v methods (row_in at)))
      (λ e. cond_both (table_in at == member_refs) reference None (FitsWith opcode) (λ f. reference_fits opcode is_made (some_row v member_refs (row_in at))) (λ f. tt))

  virtual_fits : (at : ℕ) → FitsWith 0x6F (virtual_at v at)
  virtual_fits at =
      cond_both (table_in at == methods) (method_in v CalledVirtually (some_row v methods (row_in at))) None (FitsWith 0x6F) (λ e. method_fits CalledVirtually 0x6F called_virtually (some_row v methods (row_in at))) (λ e. tt)

  -- ALL

  at_code : (opcode other : ℕ) (o : Option Operand) → FitsWith other o → (opcode == other) ≡ true → FitsWith opcode o
  at_code opcode other o fits e = subst (λ k. FitsWith k o) (sym (eqb-true opcode other e)) fits

  at_codes : (opcode one other : ℕ) (o : Option Operand) → FitsWith one o → FitsWith other o → ((opcode == one) || (opcode == other)) ≡ true → FitsWith opcode o
  at_codes opcode one other o fits also e = ⊎_elim (at_code opcode one o fits) (at_code opcode other o also) (or_cases (opcode == one) (opcode == other) e)

  step : (opcode : ℕ) (test : Bool) (one other : Option Operand) → (test ≡ true → FitsWith opcode one) → FitsWith opcode other → FitsWith opcode (if test then one else other)
  step opcode true one other fits later = fits refl
  step opcode false one other fits later = later

  pub operand_fits : (opcode at : ℕ) → FitsWith opcode (operand_of v opcode at)
  unfolding operand_of
  operand_fits opcode at =
      step opcode (opcode == 0x72) _ _ (λ e. token_fits opcode at)
      (step opcode (opcode == 0x8D) _ _ (at_code opcode 0x8D _ (array_fits (element_at v at)))
      (step opcode ((opcode == 0xA3) || (opcode == 0xA4)) _ _ (at_codes opcode 0xA3 0xA4 _ (load_fits (element_at v at)) (store_fits (element_at v at)))
      (step opcode ((opcode == 0x74) || (opcode == 0x75)) _ _ (at_codes opcode 0x74 0x75 _ (cast_fits (type_at v at) (type_type v at)) (test_fits (type_at v at) (type_type v at)))
      (step opcode ((opcode == 0x7B) || (opcode == 0x7D)) _ _
      (at_codes opcode 0x7B 0x7D _ (field_fits false 0x7B (λ field there. record { leads = refl; operands = there }) at) (field_fits false 0x7D (λ field there. record { leads = refl; operands = there }) at))
      (step opcode ((opcode == 0x7E) || (opcode == 0x80)) _ _
      (at_codes opcode 0x7E 0x80 _ (field_fits true 0x7E (λ field there. record { leads = refl; operands = there }) at) (field_fits true 0x80 (λ field there. record { leads = refl; operands = there }) at))
      (step opcode (opcode == 0x28) _ _ (at_code opcode 0x28 _ (callee_fits 0x28 false at (method_fits Called 0x28 called)))
      (step opcode (opcode == 0x6F) _ _ (at_code opcode 0x6F _ (virtual_fits at))
      (step opcode (opcode == 0x73) _ _ (at_code opcode 0x73 _ (callee_fits 0x73 true at (method_fits Made 0x73 made))) tt))))))))
