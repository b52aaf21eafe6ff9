-- What rows and bodies say of heaps and of references lasts, whatever is added behind these.
use Rattle.std.proofs.Common.{◌≡◌, ℕ, zero, suc, ◌+◌, ◌<◌, List, [], ◌∷◌, ◌++◌, length, take, drop, get_or, Ok, Some, sym, ap, ◌∙◌, subst, append_assoc, arith, length-append}
use Rattle.std.specs.Prelude.{Bool, slice_get}
use Rattle.std.specs.List.{AllZip}
use Rattle.std.proofs.lemmas.List.{drop-append-le}
use Rattle.px_code.specs.Body.{body_of}
use Rattle.px_code.specs.declared.body.Body.{Body}
use Rattle.px_asm_heaps.specs.Heaps.{Grows}
use Rattle.px_link_methods.proofs.Pieces.{zipped_more}
use Rattle.px_program.specs.declared.instr.Callee.{Callee}
use Rattle.px_program.specs.declared.instr.Callee.TheVariants as callees
use Rattle.px_program.specs.declared.instr.Code.{Code}
use Rattle.px_program.specs.declared.instr.Code.TheVariants as code
use Rattle.px_program.specs.declared.instr.ElementForm.TheVariants as form
use Rattle.px_program.specs.declared.instr.Instr.{Instr}
use Rattle.px_program.specs.declared.instr.Move.TheVariants as move
use Rattle.px_program.specs.declared.program.Method.{Method}
use Rattle.px_program.specs.declared.program.Place.{Place}
use Rattle.px_program.specs.declared.program.Program.{Program}
use Rattle.px_program.specs.declared.program.TypeInfo.{TypeInfo}
use Rattle.px_asm_described.specs.Describes.{method_row}
use Rattle.px_sig.specs.declared.sig.MethodSig.{MethodSig}
use Rattle.px_tables.specs.declared.tables.Row.{Row}
use Rattle.px_asm_store.proofs.StoreStays.{grows_on, sig_stays, string_stays, text_stays}
use Rattle.px_asm_law_written.specs.Holds.{HasCode, IsAddress, IsBodyIn, IsFieldDef, IsInstrIn, IsLocals, IsSpecRow, IsTypeDef, IsTypeRef, IsModule, Referred}
use Rattle.px_asm_law_written.specs.Store.{AreReferences, IsConstructorRow, IsReference, Store, StoreGrows}
use Rattle.px_asm_rows.specs.Tables.{HasAddress, HeapsGrow, IsTypeDefOf}
use Rattle.px_asm_law_written.specs.Tokens.{CalleeHas, HasConstructor, HasTokenIn}

-- PAIRS

pub zip_weaker : {X Y : Type 0} (R S : X → Y → Type 0) → ((x : X) (y : Y) → R x y → S x y) → (xs : List X) (ys : List Y) → AllZip R xs ys → AllZip S xs ys
zip_weaker R S weaker [] [] are = tt
zip_weaker R S weaker [] (y ∷ ys) are = absurd are
zip_weaker R S weaker (x ∷ xs) [] are = absurd are
zip_weaker R S weaker (x ∷ xs) (y ∷ ys) are = (weaker x y are.0, zip_weaker R S weaker xs ys are.1)

-- one more pair, where the pairs before it last
pub zipped_grown : {X Y : Type 0} (R S : X → Y → Type 0) → ((x : X) (y : Y) → R x y → S x y) → (xs : List X) (i : ℕ) (x : X) (ys news : List Y) (y : Y) → AllZip R (take i xs) ys → i < length xs → x ≡ get_or xs i x → S x y → news ≡ ys ++ y ∷ [] → AllZip S (take (i + 1) xs) news
zipped_grown R S weaker xs i x ys news y are less is holds e = zipped_more S xs i x ys news y (zip_weaker R S weaker (take i xs) ys are) less is holds e

-- GROWTH

pub heaps : (old new : Store) → StoreGrows old new → HeapsGrow old new
heaps old new g = record { strings = g.strings; blob = g.blob }

pub heaps_grow_twice : (a b c : Store) → HeapsGrow a b → HeapsGrow b c → HeapsGrow a c
heaps_grow_twice a b c first second = record { strings = grows_on a.strings b.strings c.strings first.strings second.strings; blob = grows_on a.blob b.blob c.blob first.blob second.blob }

-- ROWS

pub table_stays_type_ref : (old new : Store) → HeapsGrow old new → (referred : Referred) (row : Row) → IsTypeRef old referred row → IsTypeRef new referred row
table_stays_type_ref old new g referred row is = record {
  scope = is.scope;
  name = string_stays old.strings new.strings g.strings _ referred.name is.name;
  namespace = string_stays old.strings new.strings g.strings _ referred.namespace is.namespace;
}

pub table_stays_module : (old new : Store) → HeapsGrow old new → (row : Row) → IsModule old row → IsModule new row
table_stays_module old new g row is = record {
  name = string_stays old.strings new.strings g.strings _ _ is.name;
  namespace = string_stays old.strings new.strings g.strings _ _ is.namespace;
  no_base = is.no_base;
  fields = is.fields;
  methods = is.methods;
}

pub table_stays_type_def : (p : Program) (old new : Store) → HeapsGrow old new → (i : ℕ) (info : TypeInfo) (row : Row) → IsTypeDef p old i info row → IsTypeDef p new i info row
table_stays_type_def p old new g i info row is = record {
  class = is.class;
  name = is.name;
  namespace = is.namespace;
  name_is = string_stays old.strings new.strings g.strings _ is.name is.name_is;
  namespace_is = string_stays old.strings new.strings g.strings _ is.namespace is.namespace_is;
  full = is.full;
  base = is.base;
  fields = is.fields;
  methods = is.methods;
}

pub table_stays_type_def_of : (p : Program) (old new : Store) → HeapsGrow old new → (number : ℕ) (row : Row) → IsTypeDefOf p old number row → IsTypeDefOf p new number row
table_stays_type_def_of p old new g number row is = record { is = λ info at. table_stays_type_def p old new g _ info row (is.is info at) }

pub table_stays_field : (p : Program) (old new : Store) → HeapsGrow old new → (field : Bool × Place) (row : Row) → IsFieldDef p old field row → IsFieldDef p new field row
table_stays_field p old new g field row is = record {
  static = is.static;
  some_name = is.some_name;
  name = string_stays old.strings new.strings g.strings _ is.some_name is.name;
  type = is.type;
  sig = sig_stays _ old.blob new.blob g.blob _ is.type is.sig;
  is = is.is;
}

pub table_stays_locals : (p : Program) (old new : Store) → HeapsGrow old new → (number : ℕ) (row : Row) → IsLocals p old number row → IsLocals p new number row
table_stays_locals p old new g number row is = record {
  method = is.method;
  at = is.at;
  types = is.types;
  sig = sig_stays _ old.blob new.blob g.blob _ is.types is.sig;
  are = is.are;
}

pub table_stays_spec : (p : Program) (old new : Store) → HeapsGrow old new → (place : Place) (row : Row) → IsSpecRow p old place row → IsSpecRow p new place row
table_stays_spec p old new g place row is = record { type = is.type; sig = sig_stays _ old.blob new.blob g.blob _ is.type is.sig; is = is.is }

-- REFERENCES

reference_stays : (old new : Store) → HeapsGrow old new → (parent : ℕ) (name : List ℕ) (sig : MethodSig) (row : Row) → IsReference old parent name sig row → IsReference new parent name sig row
reference_stays old new g parent name sig row is = record {
  parent_is = is.parent_is;
  name_is = string_stays old.strings new.strings g.strings _ name is.name_is;
  sig_is = sig_stays _ old.blob new.blob g.blob _ sig is.sig_is;
  zeros = is.zeros;
}

constructor_stays : (p : Program) (old new : Store) → HeapsGrow old new → (class : ℕ) (params : List Place) (row : Row) → IsConstructorRow p old class params row → IsConstructorRow p new class params row
constructor_stays p old new g class params row is = record { types = is.types; takes = is.takes; is = reference_stays old new g _ _ _ row is.is }

-- references as they are, where the heaps grow
pub table_stays_references : (p : Program) (old new : Store) → HeapsGrow old new → new.references ≡ old.references → AreReferences p old → AreReferences p new
table_stays_references p old new g same are = record {
  checks = record {
    assume = are.checks.assume;
    assert = are.checks.assert;
    others = are.checks.others;
    are = same ∙ are.checks.are;
    assume_is = reference_stays old new g _ _ _ _ are.checks.assume_is;
    assert_is = reference_stays old new g _ _ _ _ are.checks.assert_is;
  };
  others = λ n row at. (let any = are.others n row (subst (λ rows. slice_get rows (n + 2) ≡ Some row) same at) in record {
    class = any.class;
    few = any.few;
    params = any.params;
    is = constructor_stays p old new g any.class any.params row any.is;
  });
}

-- TOKENS

pub got_in_front : {X : Type 0} (xs ys : List X) (n : ℕ) (x : X) → slice_get xs n ≡ Some x → slice_get (xs ++ ys) n ≡ Some x
got_in_front [] ys n x at = absurd (cc)
got_in_front (z ∷ xs) ys zero x at = at
got_in_front (z ∷ xs) ys (suc n) x at = got_in_front xs ys n x at

constructor_at_stays : (p : Program) (old new : Store) → StoreGrows old new → (class : ℕ) (params : List Place) (at : ℕ) → HasConstructor p old class params at → HasConstructor p new class params at
constructor_at_stays p old new g class params at has = record {
  table = has.table;
  n = has.n;
  row_is = has.row_is;
  row = has.row;
  there = subst (λ rows. slice_get rows has.n ≡ Some has.row) (sym g.references.is) (got_in_front old.references g.references.more has.n has.row has.there);
  is = constructor_stays p old new (heaps old new g) class params has.row has.is;
}

callee_stays : (p : Program) (old new : Store) → StoreGrows old new → (callee : Callee) (at : ℕ) → CalleeHas p old callee at → CalleeHas p new callee at
callee_stays p old new g (callees.Method method) at has = has
callee_stays p old new g (callees.Constructor class params) at has = constructor_at_stays p old new g class params at has

pub token_stays : (p : Program) (old new : Store) → StoreGrows old new → (c : Code) (at : ℕ) → HasTokenIn p old c at → HasTokenIn p new c at
token_stays p old new g (code.Move (move.Text units)) at has = record { table = has.table; stands = text_stays old.texts new.texts g.texts _ units has.stands }
token_stays p old new g (code.Call callee) at has = callee_stays p old new g callee at has
token_stays p old new g (code.NewObject callee) at has = callee_stays p old new g callee at has
token_stays p old new g (code.NewArray array) at has = has
token_stays p old new g (code.Element store (form.Typed place)) at has = has
token_stays p old new g (code.Cast throws class) at has = has
token_stays p old new g (code.Field store field) at has = has
token_stays p old new g (code.Static store field) at has = has
token_stays p old new g (code.CallVirtual method) at has = has
token_stays p old new g (code.Check check) at has = has
token_stays p old new g _ at has = has

-- BODIES

body_stays : (p : Program) (old new : Store) → StoreGrows old new → (row : ℕ) (method : Method) (body : Body) → IsBodyIn p old row method body → IsBodyIn p new row method body
body_stays p old new g row method body is = record {
  formed = is.formed;
  max_stack = is.max_stack;
  locals = is.locals;
  code = zip_weaker (IsInstrIn p old) (IsInstrIn p new) (λ instr raw in'. record { token = in'.token; fits = in'.fits; is = in'.is; has = token_stays p old new g instr.code in'.token in'.has }) method.code body.code is.code;
  clauses = is.clauses;
}

code_stays : (p : Program) (old new : Store) → StoreGrows old new → (before after : List ℕ) → Grows before after → (row : ℕ) (method : Method) (address : ℕ) → HasCode p old before row method address → HasCode p new after row method address
code_stays p old new g before after more row method address has = record {
  at = has.at;
  is = has.is;
  body = record {
    within = omega (arith, ap length more.is, length-append before more.more, has.body.within);
    body = has.body.body;
    read = λ rest. (let e : drop has.at before ++ (more.more ++ rest) ≡ drop has.at after ++ rest =
        sym (append_assoc (drop has.at before) more.more rest) ∙ ap (λ l. l ++ rest) (sym (drop-append-le has.at before more.more (omega (arith, has.body.within))) ∙ ap (drop has.at) (sym more.is))
        in subst (λ bytes. body_of bytes ≡ Ok has.body.body) e (has.body.read (more.more ++ rest)));
    is = body_stays p old new g row method has.body.body has.body.is;
  };
}

address_stays : (p : Program) (old new : Store) → StoreGrows old new → (before after : List ℕ) → Grows before after → (row : ℕ) (method : Method) (instrs : List Instr) (address : ℕ) → IsAddress p old before row method instrs address → IsAddress p new after row method instrs address
address_stays p old new g before after more row method [] address is = is
address_stays p old new g before after more row method (instr ∷ instrs) address is = code_stays p old new g before after more row method address is

pub table_stays_address : (p : Program) (old new : Store) → StoreGrows old new → (before after : List ℕ) → Grows before after → (number address : ℕ) → HasAddress p old before number address → HasAddress p new after number address
table_stays_address p old new g before after more number address has = record { is = λ method at. address_stays p old new g before after more (method_row p number) method method.code address (has.is method at) }
