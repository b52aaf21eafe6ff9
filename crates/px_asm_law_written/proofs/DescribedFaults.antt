-- Nothing is wrong with the rows.
use Rattle.std.proofs.Common.{◌≡◌, ◌⊎◌, inl, ℕ, zero, suc, ◌+◌, ◌-◌, ◌<◌, ◌≤◌, true, List, [], ◌∷◌, codes, length, Option, Some, None, sym, ap, ◌∙◌, subst, ⊎_elim, arith}
use Rattle.std.specs.Prelude.{IfSome, IsSome, slice_get, slice_index}
use Rattle.std.specs.Option.{is_some}
use Rattle.std.proofs.lemmas.Bool.{cases_eq}
use Rattle.std.proofs.lemmas.Option.{same_Some}
use Rattle.px_asm_law_written.proofs.DescribedLists.{before}
use Rattle.px_asm_law_written.proofs.DescribedMembers.{HasTypeAt, fields_before, fields_listed, methods_listed, module_written, type_at, types_written}
use Rattle.px_asm_law_written.proofs.DescribedOwners.{AreListed, module_end, type_end}
use Rattle.px_asm_law_written.proofs.DescribedTypes.{assembly_base, assembly_index, base_is, library_base, library_index, name_readable, no_base_of_module, none_nested}
use Rattle.px_asm_law_written.proofs.DescribedView.{Put, cell_written, put_row, readable, rows_at, sig_written, store, view}
use Rattle.px_asm_law_written.specs.Holds.{IsFieldDef, IsMethodDef, IsSpecRow, IsTypeRef, all_places, all_referred, methods_before}
use Rattle.px_asm_law_written.specs.Store.{IsReference}
use Rattle.px_asm_law_written.specs.Tokens.{fields_of}
use Rattle.px_link_methods.proofs.RowPlaces.{at_place_of, place_below}
use Rattle.px_meta.specs.Chains.{Ends, GoesOn, HasEnd, base_in, outer_of}
use Rattle.px_meta.specs.Faults.{Bases, Field, HasFault, HasLists, HasNames, IsFaultless, IsWholeField, IsWholeMethod, IsWholeReference, Lists, MemberRef, Method, Outers, TypeDef, TypeRef, TypeSpec}
use Rattle.px_meta.specs.Members.{field_sig_at, list_end, list_start, method_sig_at, type_sig_at}
use Rattle.px_meta.specs.Rows.{IsRow, cell, fields, is_in, member_refs, methods, row_by, type_defs, type_refs, type_specs}
use Rattle.px_meta.specs.declared.fault.MetaKind.{MetaKind}
use Rattle.px_link_methods.specs.Codes.{place_of}
use Rattle.px_program.specs.Formed as formed
use Rattle.px_asm_described.specs.Describes.{extends_of}
use Rattle.px_sig.specs.Grammar.{field_sig, method_sig, type_sig}
use Rattle.px_sig.specs.declared.sig.MethodSig.{MethodSig}
use Rattle.px_tables.specs.Metadata.{View}
use Rattle.px_tables.specs.declared.tables.Row.{Row}

-- TYPES

-- a row of TypeDef is that of `<Module>` or that of a type of the layout
type_cases : (a : Put) (P : ℕ → Type 0) → P 1 → ((i : ℕ) → i < length a.p.layout.types → P (i + 2)) → (row : ℕ) → IsRow (view a) type_defs row → P row
type_cases a P first others row is =
    ⊎_elim
    (λ one. subst P one first)
    (λ more.
    let some = is.some in let few = is.few in let all = types_written a in
    let back : (row - 2) + 2 ≡ row = omega (arith, more) in
    subst P back (others (row - 2) (omega (arith, more))))
    (cases_eq 1 row)

module_lists : (v : View) (table n : ℕ) (starts : ℕ → ℕ) → AreListed v table n starts → list_start v table 1 ≤ list_end v table 1
module_lists v table n starts are = let begins = are.module_start in let ends = module_end v table n starts are in omega arith

type_lists : (v : View) (table n : ℕ) (starts : ℕ → ℕ) → AreListed v table n starts → (i : ℕ) → i < n → list_start v table (i + 2) ≤ list_end v table (i + 2)
type_lists v table n starts are i less =
    let begins = are.each i less in let ends = type_end v table n starts are i less in let up = are.rises i (i + 1) (omega arith) in omega arith

lists : (a : Put) (row : ℕ) → IsRow (view a) type_defs row → HasLists (view a) row
lists a =
    let n = length a.p.layout.types in
    type_cases a (HasLists (view a))
    (record { fields = module_lists (view a) fields n (fields_before a) (fields_listed a); methods = module_lists (view a) methods n (methods_before a.p) (methods_listed a) })
    (λ i less. record { fields = type_lists (view a) fields n (fields_before a) (fields_listed a) i less; methods = type_lists (view a) methods n (methods_before a.p) (methods_listed a) i less })

module_names : (a : Put) → HasNames (view a) type_defs 1
module_names a =
    let head = module_written a in
    record {
      name = readable a (slice_index head.row.cells 1) (cell (view a) type_defs 1 1) (codes "<Module>") (cell_written a 0x02 0 1 head.row head.there) head.is.name;
      namespace = readable a (slice_index head.row.cells 2) (cell (view a) type_defs 1 2) [] (cell_written a 0x02 0 2 head.row head.there) head.is.namespace;
    }

type_names : (a : Put) (row : ℕ) → IsRow (view a) type_defs row → HasNames (view a) type_defs row
type_names a = type_cases a (HasNames (view a) type_defs) (module_names a) (λ i less. name_readable a i (type_at a i less))

-- BASES

chain_ends : (a : Put) (behind : List ℕ) (i : ℕ) → (found : HasTypeAt a i) → formed.IsChain (formed.base_of a.p.types) found.type behind → HasEnd (base_in (view a)) (i + 2)
chain_ends a [] i found chain =
    let none : found.assembly.info.base ≡ None = sym (ap formed.base_in found.assembly.at) ∙ chain in
    record { behind = []; chain = Ends (i + 2) (ap (row_by (view a) type_defs 2) (base_is a i found ∙ ap (extends_of a.p) none)) }
chain_ends a (base ∷ rest) i found chain =
    let some : found.assembly.info.base ≡ Some base = sym (ap formed.base_in found.assembly.at) ∙ chain.0 in
    let index : cell (view a) type_defs (i + 2) 3 ≡ extends_of a.p (Some base) = base_is a i found ∙ ap (extends_of a.p) some in
    ⊎_elim
    (λ library. record { behind = []; chain = Ends (i + 2) (ap (row_by (view a) type_defs 2) (index ∙ library_index a.p base library) ∙ library_base (view a) base) })
    (λ own.
    let j = place_of a.p.layout.types base in
    let below = place_below a.p.layout.types base own.1 in
    let next = type_at a j below in
    let same : next.type ≡ base = same_Some next.type base (sym next.at ∙ at_place_of a.p.layout.types base own.1) in
    let later = chain_ends a rest j next (subst (λ t. formed.IsChain (formed.base_of a.p.types) t rest) (sym same) chain.1) in
    let all = types_written a in
    let on : base_in (view a) (i + 2) ≡ Some (j + 2) = ap (row_by (view a) type_defs 2) (index ∙ assembly_index a.p base own.0) ∙ assembly_base (view a) (j + 2) (omega arith) (omega arith) in
    record { behind = (j + 2) ∷ later.behind; chain = GoesOn (i + 2) (j + 2) later.behind on later.chain })
    (let known = found.assembly.base in subst (λ o. IfSome o (λ b. (b < 17) ⊎ ((18 ≤ b) × (is_in a.p.layout.types b ≡ true)))) some known)

bases_end : (a : Put) (row : ℕ) → IsRow (view a) type_defs row → HasEnd (base_in (view a)) row
bases_end a =
    type_cases a (HasEnd (base_in (view a)))
    (record { behind = []; chain = Ends 1 (no_base_of_module a) })
    (λ i less. let found = type_at a i less in let chain = a.writable.formed.types.bases found.type in chain_ends a chain.behind i found chain.chain)

outers_end : (a : Put) (row : ℕ) → HasEnd (outer_of (view a)) row
outers_end a row = record { behind = []; chain = Ends row (none_nested a row) }

-- NAMES AND SIGNATURES

reference_names : (a : Put) (row : ℕ) → IsRow (view a) type_refs row → HasNames (view a) type_refs row
reference_names a at is =
    let put = put_row a 0x01 at is in
    let found = before (IsTypeRef (store a)) all_referred (rows_at a 0x01) a.written.holds.type_refs put.n put.row put.there in
    let cells = λ (k : ℕ). cell_written a 0x01 put.n k put.row put.there in
    subst (HasNames (view a) type_refs) (sym put.is) (record {
      name = readable a (slice_index put.row.cells 1) (cell (view a) type_refs (put.n + 1) 1) found.0.name (cells 1) found.1.1.name;
      namespace = readable a (slice_index put.row.cells 2) (cell (view a) type_refs (put.n + 1) 2) found.0.namespace (cells 2) found.1.1.namespace;
    })

some_by : {X : Type 0} (o : Option X) (x : X) → o ≡ Some x → IsSome o
some_by o x e = ap is_some e

whole_field : (a : Put) (row : ℕ) → IsRow (view a) fields row → IsWholeField (view a) row
whole_field a at is =
    let put = put_row a 0x04 at is in
    let found = before (IsFieldDef a.p (store a)) (fields_of a.p a.p.layout.types) (rows_at a 0x04) a.written.holds.fields put.n put.row put.there in
    let cells = λ (k : ℕ). cell_written a 0x04 put.n k put.row put.there in
    subst (IsWholeField (view a)) (sym put.is) (record {
      name = readable a (slice_index put.row.cells 1) (cell (view a) fields (put.n + 1) 1) found.1.1.some_name (cells 1) found.1.1.name;
      sig = some_by (field_sig_at (view a) (cell (view a) fields (put.n + 1) 2)) found.1.1.type (sig_written a field_sig (slice_index put.row.cells 2) (cell (view a) fields (put.n + 1) 2) found.1.1.type (cells 2) found.1.1.sig);
    })

whole_method : (a : Put) (row : ℕ) → IsRow (view a) methods row → IsWholeMethod (view a) row
whole_method a at is =
    let put = put_row a 0x06 at is in
    let found = before (IsMethodDef a.p (store a) a.bodies) a.p.layout.methods (rows_at a 0x06) a.written.holds.methods put.n put.row put.there in
    let cells = λ (k : ℕ). cell_written a 0x06 put.n k put.row put.there in
    subst (IsWholeMethod (view a)) (sym put.is) (record {
      name = readable a (slice_index put.row.cells 3) (cell (view a) methods (put.n + 1) 3) found.1.1.own (cells 3) found.1.1.name;
      sig = some_by (method_sig_at (view a) (cell (view a) methods (put.n + 1) 4)) found.1.1.sig (sig_written a method_sig (slice_index put.row.cells 4) (cell (view a) methods (put.n + 1) 4) found.1.1.sig (cells 4) found.1.1.has_sig);
    })

spec_read : (a : Put) (row : ℕ) → IsRow (view a) type_specs row → IsSome (type_sig_at (view a) (cell (view a) type_specs row 0))
spec_read a at is =
    let put = put_row a 0x1B at is in
    let found = before (IsSpecRow a.p (store a)) (all_places a.p) (rows_at a 0x1B) a.written.holds.specs put.n put.row put.there in
    subst (λ r. IsSome (type_sig_at (view a) (cell (view a) type_specs r 0))) (sym put.is)
    (some_by (type_sig_at (view a) (cell (view a) type_specs (put.n + 1) 0)) found.1.1.type
    (sig_written a type_sig (slice_index put.row.cells 0) (cell (view a) type_specs (put.n + 1) 0) found.1.1.type (cell_written a 0x1B put.n 0 put.row put.there) found.1.1.sig))

-- some reference stands in a row of MemberRef
record IsSomeReference (a : Put) (row : Row) : Type 0 where
  parent : ℕ
  name : List ℕ
  sig : MethodSig
  is : IsReference (store a) parent name sig row

some_reference : (a : Put) (n : ℕ) (row : Row) → slice_get (store a).references n ≡ Some row → IsSomeReference a row
some_reference a zero row at =
    let checks = a.written.holds.references.checks in
    let same = same_Some checks.assume row (sym (ap (λ rows. slice_get rows 0) checks.are) ∙ at) in
    subst (IsSomeReference a) same (record { parent = 19; name = _; sig = _; is = checks.assume_is })
some_reference a (suc zero) row at =
    let checks = a.written.holds.references.checks in
    let same = same_Some checks.assert row (sym (ap (λ rows. slice_get rows 1) checks.are) ∙ at) in
    subst (IsSomeReference a) same (record { parent = 20; name = _; sig = _; is = checks.assert_is })
some_reference a (suc (suc n)) row at =
    let two : n + 2 ≡ suc (suc n) = omega arith in
    let other = a.written.holds.references.others n row (ap (slice_get (store a).references) two ∙ at) in
    record { parent = other.class + 1; name = _; sig = _; is = other.is.is }

whole_reference : (a : Put) (row : ℕ) → IsRow (view a) member_refs row → IsWholeReference (view a) row
whole_reference a at is =
    let put = put_row a 0x0A at is in
    let some = some_reference a put.n put.row (sym (ap (λ rows. slice_get rows put.n) a.written.holds.references_are) ∙ put.there) in
    let cells = λ (k : ℕ). cell_written a 0x0A put.n k put.row put.there in
    subst (IsWholeReference (view a)) (sym put.is) (record {
      name = readable a (slice_index put.row.cells 1) (cell (view a) member_refs (put.n + 1) 1) some.name (cells 1) some.is.name_is;
      sig = inl (some_by (method_sig_at (view a) (cell (view a) member_refs (put.n + 1) 2)) some.sig (sig_written a method_sig (slice_index put.row.cells 2) (cell (view a) member_refs (put.n + 1) 2) some.sig (cells 2) some.is.sig_is));
    })

-- ALL

no_fault : (a : Put) (kind : MetaKind) (table row : ℕ) → HasFault (view a) kind table row → ⊥
no_fault a _ _ _ (Lists row is bad) = bad (lists a row is)
no_fault a _ _ _ (TypeRef row is bad) = bad (reference_names a row is)
no_fault a _ _ _ (TypeDef row is bad) = bad (type_names a row is)
no_fault a _ _ _ (Field row is bad) = bad (whole_field a row is)
no_fault a _ _ _ (Method row is bad) = bad (whole_method a row is)
no_fault a _ _ _ (MemberRef row is bad) = bad (whole_reference a row is)
no_fault a _ _ _ (TypeSpec row is bad) = bad (spec_read a row is)
no_fault a _ _ _ (Bases row is bad) = bad (bases_end a row is)
no_fault a _ _ _ (Outers row is bad) = bad (outers_end a row)

pub faultless : (a : Put) → IsFaultless (view a)
faultless a = no_fault a
