-- What instructions name, and what overrides it, some type has.
use Rattle.std.proofs.Common.{◌≡◌, ℕ, ◌%◌, ◌^◌, length, Bool, true, false, List, [], ◌∷◌, Option, Some, None, refl, sym, ◌∙◌, eqb-true, subst, inl, inr}
use Rattle.std.specs.Prelude.{◌≢◌, ◌==◌, ◌&&◌, ◌||◌, nat_le, if◌then◌else◌}
use Rattle.std.specs.List.{AllByRecursion}
use Rattle.std.proofs.lemmas.Bool.{and_parts, eqb-false, leb-true, not-true, true≢false}
use Rattle.px_meta.specs.Members.{method_sig_at, owner_of}
use Rattle.px_meta.specs.Overriding.{Behind, Here, IsNearest, MayOverride, Overrides}
use Rattle.px_meta.specs.Rows.{IsRow, cell, count_of, fields, member_refs, methods, some_row}
use Rattle.px_meta.specs.Tokens.{row_in, table_in}
use Rattle.px_link_tokens.specs.Operands.{Called, CalledVirtually, Made, Way, callee_at, check_in, check_of, check_operand, constructor_of, constructor_with, each_known, element_at, field_at, field_in, is_field, is_owned, is_run, library_by, library_constructor, library_in, may_be_called, may_take, method_by, method_in, operand_of, parent_ref, reference_in, text_at_token, text_of, type_at, type_operand, units_of, virtual_at, ◌else◌}
use Rattle.px_link_tokens.specs.declared.operand.Operand.{Operand}
use Rattle.px_link_tokens.specs.declared.operand.Operand.TheVariants as operand
use Rattle.px_program.specs.declared.instr.Check.{Check}
use Rattle.px_sig.specs.declared.sig.MethodSig.{MethodSig}
use Rattle.px_tables.specs.Metadata.{View}
use Rattle.px_link_types.specs.Keys.{array_in}
use Rattle.px_link_types.specs.declared.key.Key.{Key}
use Rattle.px_blobs.specs.Items.{blob_at}
use Rattle.px_code.specs.declared.body.RawInstr.{RawInstr}
use Rattle.px_link_reach.specs.Finding.{is_call}
use Rattle.px_link_reach.specs.Met.{IsOwned, method_in as named_method, operand_at, target_of}
use Rattle.px_link_reach.specs.Overriders.{AreOverriders, Directly, OverridesThrough, Through}

-- OPERANDS

-- only instructions that call name methods, and each that is named some type has
record IsOwnedIn (v : View) (call : Bool) (named : Option Operand) : Type 0 where
  pub called : (row : ℕ) → named ≡ Some (operand.Method row) → call ≡ true
  pub owned : (row : ℕ) → named ≡ Some (operand.Method row) → IsOwned v row

other : (v : View) (call : Bool) (named : Option Operand) → ((row : ℕ) → named ≡ Some (operand.Method row) → ⊥) → IsOwnedIn v call named
other v call named none = record { called = λ row e. absurd (none row e); owned = λ row e. absurd (none row e) }

nothing : (v : View) (call : Bool) → IsOwnedIn v call None
nothing v call = other v call None (λ row e. cc)

either : (v : View) (call b : Bool) (x y : Option Operand) → (b ≡ true → IsOwnedIn v call x) → IsOwnedIn v call y → IsOwnedIn v call (if b then x else y)
either v call true x y is rest = is refl
either v call false x y is rest = rest

where_so : (v : View) (call b : Bool) (x : Option Operand) → (b ≡ true → IsOwnedIn v call x) → IsOwnedIn v call (if b then x else None)
where_so v call b x is = either v call b x None is (nothing v call)

owned_owner : (v : View) (class : Bool) (row : ℕ) → is_owned v class (owner_of v methods row) ≡ true → owner_of v methods row ≢ 0
owned_owner v class row e = eqb-false (owner_of v methods row) 0 (not-true _ (and_parts _ _ e).0)

owned_where : (v : View) (way : Way) (row : ℕ) (sig : MethodSig) → may_be_called v way row sig ≡ true → owner_of v methods row ≢ 0
owned_where v Called row sig e = owned_owner v sig.has_this row (and_parts _ _ (and_parts _ _ e).0).0
owned_where v CalledVirtually row sig e = owned_owner v true row (and_parts _ _ e).0
owned_where v Made row sig e = owned_owner v true row (and_parts _ _ (and_parts _ _ (and_parts _ _ (and_parts _ _ e).0).0).0).0

owned_by : (v : View) (call : Bool) (way : Way) (row : ℕ) (sig : Option MethodSig) → IsRow v methods row → call ≡ true → IsOwnedIn v call (method_by v way row sig)
owned_by v call way row None there calls = nothing v call
owned_by v call way row (Some sig) there calls =
    where_so v call (is_run v sig && may_be_called v way row sig) (Some (operand.Method row))
    (λ e. record { called = λ named same. calls; owned = λ named same. let is : row ≡ named = cc in subst (IsOwned v) is (record { row = there; owned = owned_where v way row sig (and_parts _ _ e).1 }) })

owned_row : (v : View) (call : Bool) (way : Way) (row : ℕ) → call ≡ true → IsOwnedIn v call (method_in v way (some_row v methods row))
owned_row v call way row calls = by (nat_le 1 row && nat_le row (count_of v methods)) refl
  where
    by : (is : Bool) → (nat_le 1 row && nat_le row (count_of v methods)) ≡ is → IsOwnedIn v call (method_in v way (if is then Some row else None))
    by true e = owned_by v call way row (method_sig_at v (cell v methods row 4)) (record { some = leb-true 1 row (and_parts _ _ e).0; few = leb-true row (count_of v methods) (and_parts _ _ e).1 }) calls
    by false e = nothing v call

no_text : (v : View) (call : Bool) (bytes : Option (List ℕ)) → IsOwnedIn v call (text_of bytes)
no_text v call None = nothing v call
no_text v call (Some bytes) = where_so v call (length bytes % 2 == 1) (Some (operand.Text (units_of bytes))) (λ e. other v call (Some (operand.Text (units_of bytes))) (λ row same. cc))

no_type : (v : View) (call : Bool) (key : Option Key) → IsOwnedIn v call (type_operand key)
no_type v call None = nothing v call
no_type v call (Some key) = other v call (Some (operand.Type key)) (λ row same. cc)

no_field : (v : View) (call : Bool) (static : Bool) (row : Option ℕ) → IsOwnedIn v call (field_in v static row)
no_field v call static None = nothing v call
no_field v call static (Some row) = where_so v call (is_field v static row) (Some (operand.Field row)) (λ e. other v call (Some (operand.Field row)) (λ method same. cc))

no_constructor_with : (v : View) (call : Bool) (class : ℕ) (params : Option (List Key)) → IsOwnedIn v call (constructor_with class params)
no_constructor_with v call class None = nothing v call
no_constructor_with v call class (Some params) = where_so v call (may_take class params) (Some (operand.Constructor class params)) (λ e. other v call (Some (operand.Constructor class params)) (λ row same. cc))

no_constructor_of : (v : View) (call : Bool) (sig : MethodSig) (class : Option ℕ) → IsOwnedIn v call (constructor_of v sig class)
no_constructor_of v call sig None = nothing v call
no_constructor_of v call sig (Some class) = where_so v call _ _ (λ e. no_constructor_with v call class (each_known v sig.params))

no_constructor : (v : View) (call : Bool) (row : ℕ) (sig : MethodSig) → IsOwnedIn v call (library_constructor v row sig)
no_constructor v call row sig = where_so v call _ _ (λ e. no_constructor_of v call sig (library_in v (parent_ref v row)))

no_check_operand : (v : View) (call : Bool) (check : Option Check) → IsOwnedIn v call (check_operand check)
no_check_operand v call None = nothing v call
no_check_operand v call (Some check) = other v call (Some (operand.Check check)) (λ row same. cc)

no_check : (v : View) (call : Bool) (row : ℕ) (sig : MethodSig) → IsOwnedIn v call (check_of v row sig)
no_check v call row sig = where_so v call _ _ (λ e. no_check_operand v call (check_in v (parent_ref v row)))

one_or : (v : View) (call : Bool) (x y : Option Operand) → IsOwnedIn v call x → IsOwnedIn v call y → IsOwnedIn v call (x else y)
one_or v call None y is rest = rest
one_or v call (Some x) y is rest = is

no_library : (v : View) (call : Bool) (made : Bool) (row : ℕ) (sig : Option MethodSig) → IsOwnedIn v call (library_by v made row sig)
no_library v call made row None = nothing v call
no_library v call true row (Some sig) = no_constructor v call row sig
no_library v call false row (Some sig) = one_or v call (library_constructor v row sig) (check_of v row sig) (no_constructor v call row sig) (no_check v call row sig)

no_reference : (v : View) (call : Bool) (made : Bool) (row : Option ℕ) → IsOwnedIn v call (reference_in v made row)
no_reference v call made None = nothing v call
no_reference v call made (Some row) = no_library v call made row (method_sig_at v (cell v member_refs row 2))

no_text_at : (v : View) (call : Bool) (at : ℕ) → IsOwnedIn v call (text_at_token v at)
no_text_at v call at = where_so v call (table_in at == 0x70) (text_of (blob_at v.user_strings (row_in at))) (λ e. no_text v call (blob_at v.user_strings (row_in at)))

no_field_at : (v : View) (call : Bool) (static : Bool) (at : ℕ) → IsOwnedIn v call (field_at v static at)
no_field_at v call static at = where_so v call (table_in at == fields) (field_in v static (some_row v fields (row_in at))) (λ e. no_field v call static (some_row v fields (row_in at)))

owned_virtual : (v : View) (call : Bool) (at : ℕ) → call ≡ true → IsOwnedIn v call (virtual_at v at)
owned_virtual v call at calls = where_so v call (table_in at == methods) (method_in v CalledVirtually (some_row v methods (row_in at))) (λ e. owned_row v call CalledVirtually (row_in at) calls)

owned_callee : (v : View) (call : Bool) (made : Bool) (at : ℕ) → call ≡ true → IsOwnedIn v call (callee_at v made at)
owned_callee v call made at calls =
    either v call (table_in at == methods) (method_in v (if made then Made else Called) (some_row v methods (row_in at))) _ (λ e. owned_row v call (if made then Made else Called) (row_in at) calls)
    (where_so v call (table_in at == member_refs) (reference_in v made (some_row v member_refs (row_in at))) (λ e. no_reference v call made (some_row v member_refs (row_in at))))

call_of : (opcode number : ℕ) → is_call number ≡ true → (opcode == number) ≡ true → is_call opcode ≡ true
call_of opcode number is same = subst (λ o. is_call o ≡ true) (sym (eqb-true opcode number same)) is

owned_in : (v : View) (opcode at : ℕ) → IsOwnedIn v (is_call opcode) (operand_of v opcode at)
unfolding operand_of
owned_in v opcode at =
    let call = is_call opcode in
    either v call (opcode == 0x72) (text_at_token v at) _ (λ e. no_text_at v call at)
    (either v call (opcode == 0x8D) (type_operand (array_in (element_at v at))) _ (λ e. no_type v call (array_in (element_at v at)))
    (either v call ((opcode == 0xA3) || (opcode == 0xA4)) (type_operand (element_at v at)) _ (λ e. no_type v call (element_at v at))
    (either v call ((opcode == 0x74) || (opcode == 0x75)) (type_operand (type_at v at)) _ (λ e. no_type v call (type_at v at))
    (either v call ((opcode == 0x7B) || (opcode == 0x7D)) (field_at v false at) _ (λ e. no_field_at v call false at)
    (either v call ((opcode == 0x7E) || (opcode == 0x80)) (field_at v true at) _ (λ e. no_field_at v call true at)
    (either v call (opcode == 0x28) (callee_at v false at) _ (λ e. owned_callee v call false at (call_of opcode 0x28 refl e))
    (either v call (opcode == 0x6F) (virtual_at v at) _ (λ e. owned_virtual v call at (call_of opcode 0x6F refl e))
    (where_so v call (opcode == 0x73) (callee_at v true at) (λ e. owned_callee v call true at (call_of opcode 0x73 refl e))))))))))

-- what an instruction calls some type has
pub owned_operand : (v : View) (opcode at row : ℕ) → operand_of v opcode at ≡ Some (operand.Method row) → IsOwned v row
owned_operand v opcode at row e = (owned_in v opcode at).owned row e

no_method : (named : Option Operand) → ((row : ℕ) → named ≡ Some (operand.Method row) → ⊥) → named_method named ≡ []
no_method None none = refl
no_method (Some (operand.Text units)) none = refl
no_method (Some (operand.Type key)) none = refl
no_method (Some (operand.Field row)) none = refl
no_method (Some (operand.Method row)) none = absurd (none row refl)
no_method (Some (operand.Constructor class params)) none = refl
no_method (Some (operand.Check check)) none = refl

-- an instruction that doesn't call names no method
pub no_target : (v : View) (raw : RawInstr) → is_call raw.opcode ≡ false → target_of v raw ≡ []
no_target v raw none = no_method (operand_at v raw) (λ row e. true≢false (sym ((owned_in v raw.opcode (raw.operand % 2 ^ 32)).called row e) ∙ none))

-- WHAT OVERRIDES

may_owned : (v : View) (method other : ℕ) → MayOverride v method other → IsOwned v method
may_owned v method other may = record { row = may.row; owned = may.owned }

nearest_owned : (v : View) (method type other : ℕ) → IsNearest v method type other → IsOwned v method
nearest_owned v method type other (Here _ base _ is first) = may_owned v method other first.namesake.may
nearest_owned v method type other (Behind _ base _ is none behind) = nearest_owned v method base other behind

overrides_owned : (v : View) (method other : ℕ) → Overrides v method other → IsOwned v method
overrides_owned v method other (inl said) = may_owned v method other said.said.may
overrides_owned v method other (inr named) = nearest_owned v method (owner_of v methods method) other named.nearest

through_owned : (v : View) (method other : ℕ) → OverridesThrough v method other → IsOwned v method
through_owned v method other (Directly _ _ overrides) = overrides_owned v method other overrides
through_owned v method other (Through _ between _ overrides rest) = overrides_owned v method between overrides

each_owned : (v : View) (method : ℕ) (rows : List ℕ) → AllByRecursion (λ other. OverridesThrough v other method) rows → AllByRecursion (IsOwned v) rows
each_owned v method [] all = tt
each_owned v method (row ∷ rows) all = (through_owned v row method all.0, each_owned v method rows all.1)

-- what overrides a method some type has
pub overriders_owned : (v : View) (method : ℕ) (rows : List ℕ) → AreOverriders v method rows → AllByRecursion (IsOwned v) rows
overriders_owned v method rows are = each_owned v method rows are.each
