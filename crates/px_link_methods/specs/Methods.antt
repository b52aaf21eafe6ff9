-- The methods of a program, from those of an assembly and their bodies (Partition II, 22.26, 23.2 and 25.4).
use Rattle.std.specs.Prelude.{◌≡◌, ℕ, ◌==◌, not, if◌then◌else◌, List, [], ◌∷◌, ◌++◌, codes, map, Option, Some, None, slice_get}
use Rattle.std.specs.List.{AllZip, flat_map, zip}
use Rattle.px_code.specs.declared.body.RawClause.{RawClause}
use Rattle.px_code.specs.declared.body.RawInstr.{RawInstr}
use Rattle.px_meta.specs.FullNames.{IsTypeName}
use Rattle.px_meta.specs.Members.{method_sig_at, owner_of}
use Rattle.px_meta.specs.Rows.{cell, fields, methods, text_at}
use Rattle.px_link_tokens.specs.Operands.{is_void}
use Rattle.px_link_tokens.specs.declared.operand.Operand.{Operand}
use Rattle.px_link_tokens.specs.declared.operand.Operand.TheVariants as operand
use Rattle.px_program.specs.declared.program.Clause.{Clause}
use Rattle.px_program.specs.declared.program.ClauseKind.{ClauseKind}
use Rattle.px_program.specs.declared.program.ClauseKind.TheVariants as kinds
use Rattle.px_program.specs.declared.program.Method.{Method}
use Rattle.px_program.specs.declared.program.Place.{Place}
use Rattle.px_link_reach.specs.Met.{operand_at}
use Rattle.px_link_reach.specs.declared.body.Whole.{Whole}
use Rattle.px_sig.specs.declared.sig.MethodSig.{MethodSig}
use Rattle.px_sig.specs.declared.sig.SigType.{SigType}
use Rattle.px_tables.specs.Metadata.{View}
use Rattle.px_link_types.specs.Keys.{alone, class_of, place_key}
use Rattle.px_link_types.specs.Numbers.{leaf_keys, number_of, place_in}
use Rattle.px_link_types.specs.declared.key.Key.{Key}
use Rattle.px_link_types.specs.declared.key.Leaf.{Leaf}
use Rattle.px_link_types.specs.declared.key.Leaf.TheVariants.{Library, Defined}
use Rattle.px_link_methods.specs.Codes.{IsInstr, Numbering, owner_number}
use Rattle.px_link_methods.specs.Slots.{forms_of}

-- CLAUSES

-- the class that a catch is for, where it is known; a catch of any other matches nothing
abbrev pub caught : View → RawClause → Option Leaf
caught v raw = if raw.flags == 0 then class_of v raw.class else None

abbrev pub class_number : List Key → Option Leaf → Option ℕ
class_number keys None = None
class_number keys (Some leaf) = Some (number_of keys (alone leaf))

-- the kind of a clause by its flags
abbrev pub kind_of : ℕ → ClauseKind
kind_of flags = if flags == 0 then kinds.Catch else if flags == 1 then kinds.Filter else if flags == 2 then kinds.Finally else kinds.Fault

-- a clause for a class of this number, and of none where nothing matches
abbrev pub clause_of : Option ℕ → RawClause → Clause
clause_of class raw = record { kind = kind_of raw.flags; from = raw.from; to = raw.to; start = raw.start; stop = raw.stop; class = class }

abbrev pub linked_clause : View → List Key → RawClause → Clause
linked_clause v keys raw = clause_of (class_number keys (caught v raw)) raw

-- TYPES THAT ARE MET

abbrev pub keys_of_operand : View → Option Operand → List Key
keys_of_operand v (Some (operand.Type key)) = key ∷ []
keys_of_operand v (Some (operand.Field field)) = alone (Defined (owner_of v fields field)) ∷ []
keys_of_operand v (Some (operand.Constructor class params)) = alone (Library class) ∷ params
keys_of_operand v _ = []

abbrev pub keys_of_instr : View → RawInstr → List Key
keys_of_instr v raw = keys_of_operand v (operand_at v raw)

abbrev pub keys_of_clause : View → RawClause → List Key
keys_of_clause v raw = leaf_keys (caught v raw)

abbrev pub keys_of_sig : View → Option MethodSig → List Key
keys_of_sig v None = []
keys_of_sig v (Some sig) = map (place_key v) sig.params ++ (place_key v sig.ret ∷ [])

abbrev pub keys_of_body : View → Whole → List Key
keys_of_body v whole = map (place_key v) whole.locals ++ (flat_map (keys_of_instr v) whole.body.code ++ flat_map (keys_of_clause v) whole.body.clauses)

abbrev pub sig_at : View → ℕ → Option MethodSig
sig_at v method = method_sig_at v (cell v methods method 4)

-- the types that a method meets, in order: its owner, those of its parameters, its return and its locals, those that its instructions name, and the classes
-- of its clauses
abbrev pub met_by : View → ℕ × Whole → List Key
met_by v method = alone (Defined (owner_of v methods method.0)) ∷ (keys_of_sig v (sig_at v method.0) ++ keys_of_body v method.1)

abbrev pub met_by_all : View → List ℕ → List Whole → List Key
met_by_all v rows bodies = flat_map (met_by v) (zip rows bodies)

-- METHODS

abbrev pub place_of_type : View → List Key → SigType → Place
place_of_type v keys type = place_in keys (place_key v type)

abbrev pub return_place : View → List Key → SigType → Option Place
return_place v keys type = if is_void type then None else Some (place_of_type v keys type)

-- the name of a method that some type has
pub record IsMethodName (v : View) (method : ℕ) (name : List ℕ) : Type 0 where
  pub type : List ℕ
  pub type_is : IsTypeName v (owner_of v methods method) type
  pub is : name ≡ type ++ codes "::" ++ text_at v (cell v methods method 3)

-- a method of a program, from its row and its body; its receiver isn't among its parameters
pub record IsMethod (v : View) (n : Numbering) (row : ℕ) (whole : Whole) (method : Method) : Type 0 where
  pub sig : MethodSig
  pub has_sig : sig_at v row ≡ Some sig
  pub name : IsMethodName v row method.name
  pub owner : method.owner ≡ owner_number v n.keys (owner_of v methods row)
  pub is_static : method.is_static ≡ not sig.has_this
  pub params : method.params ≡ map (place_of_type v n.keys) sig.params
  pub ret : method.ret ≡ return_place v n.keys sig.ret
  pub locals : method.locals ≡ map (place_of_type v n.keys) whole.locals
  pub max_stack : method.max_stack ≡ whole.body.max_stack
  pub code : AllZip (IsInstr v n (forms_of v sig whole.locals)) whole.body.code method.code
  pub clauses : method.clauses ≡ map (linked_clause v n.keys) whole.body.clauses

-- the methods of a program in the order of their rows
abbrev pub AreMethods : View → Numbering → List Whole → List Method → Type 0
AreMethods v n bodies made = AllZip (λ pair method. IsMethod v n pair.0 pair.1 method) (zip n.rows bodies) made

-- methods with one address have one body
abbrev pub AreByAddress : View → List ℕ → List Whole → Type 0
AreByAddress v rows bodies = (k j one other : ℕ) (body another : Whole) → slice_get rows k ≡ Some one → slice_get rows j ≡ Some other → slice_get bodies k ≡ Some body → slice_get bodies j ≡ Some another
    → cell v methods one 0 ≡ cell v methods other 0 → body ≡ another
