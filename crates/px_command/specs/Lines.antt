-- The one line of every answer that is no report.
use Rattle.std.specs.Prelude.{ℕ, List, [], ◌∷◌, ◌++◌, codes, decimal}
use Rattle.std.specs.List.{flat_map}
use Rattle.px_code.specs.declared.body.BodyKind.{BodyKind}
use Rattle.px_code.specs.declared.body.BodyKind.TheVariants as body_kinds
use Rattle.px_io.specs.Pieces.{name_text}
use Rattle.px_meta.specs.declared.fault.MetaKind.{MetaKind}
use Rattle.px_meta.specs.declared.fault.MetaKind.TheVariants as meta_kinds
use Rattle.px_pe.specs.declared.fault.PeKind.{PeKind}
use Rattle.px_pe.specs.declared.fault.PeKind.TheVariants as pe_kinds
use Rattle.px_tables.specs.declared.fault.TableKind.{TableKind}
use Rattle.px_tables.specs.declared.fault.TableKind.TheVariants as table_kinds
use Rattle.px_verify_flow.specs.declared.fault.VerifyKind.{VerifyKind}
use Rattle.px_verify_flow.specs.declared.fault.VerifyKind.TheVariants as verify_kinds
use Rattle.px_verify_kinds.specs.declared.kind.Kind.{Kind}
use Rattle.px_verify_kinds.specs.declared.kind.Kind.TheVariants as kinds
use Rattle.px_command_answers.specs.declared.answer.Refusal.{Refusal}
use Rattle.px_command_answers.specs.declared.answer.Refusal.TheVariants as refusals

unfoldable pub usage_line : ℕ → List ℕ
usage_line n = codes "usage word " ++ (decimal n ++ (codes "\n" ++ []))

unfoldable pub no_file_line : List ℕ → List ℕ
no_file_line name = codes "no file " ++ (name_text name ++ (codes "\n" ++ []))

unfoldable pub read_fault_line : List ℕ → List ℕ
read_fault_line name = codes "read fault " ++ (name_text name ++ (codes "\n" ++ []))

unfoldable pub too_long_line : List ℕ
too_long_line = codes "refused file TooLong\n" ++ []

abbrev pub pe_kind_text : PeKind → List ℕ
pe_kind_text pe_kinds.NotPe = codes "NotPe"
pe_kind_text pe_kinds.Cut = codes "Cut"
pe_kind_text pe_kinds.NoCliHeader = codes "NoCliHeader"
pe_kind_text pe_kinds.BadSections = codes "BadSections"
pe_kind_text pe_kinds.MetadataOutside = codes "MetadataOutside"

unfoldable pub pe_line : PeKind → ℕ → List ℕ
pe_line kind at = codes "refused pe " ++ (pe_kind_text kind ++ (codes " at " ++ (decimal at ++ (codes "\n" ++ []))))

abbrev pub table_kind_text : TableKind → List ℕ
table_kind_text table_kinds.BadRoot = codes "BadRoot"
table_kind_text table_kinds.NoStream = codes "NoStream"
table_kind_text table_kinds.BadVersion = codes "BadVersion"
table_kind_text table_kinds.UnknownTable = codes "UnknownTable"
table_kind_text table_kinds.Cut = codes "Cut"
table_kind_text table_kinds.BadIndex = codes "BadIndex"

-- places count from the metadata's start
unfoldable pub tables_line : TableKind → ℕ → List ℕ
tables_line kind at = codes "refused tables " ++ (table_kind_text kind ++ (codes " at " ++ (decimal at ++ (codes "\n" ++ []))))

abbrev pub meta_kind_text : MetaKind → List ℕ
meta_kind_text meta_kinds.BadList = codes "BadList"
meta_kind_text meta_kinds.BadToken = codes "BadToken"
meta_kind_text meta_kinds.CycleOfBases = codes "CycleOfBases"

unfoldable pub meta_line : MetaKind → ℕ → List ℕ
meta_line kind token = codes "refused meta " ++ (meta_kind_text kind ++ (codes " token " ++ (decimal token ++ (codes "\n" ++ []))))

unfoldable pub no_method_line : List ℕ
no_method_line = codes "refused method NoMethod\n" ++ []

unfoldable pub ambiguous_line : List ℕ
ambiguous_line = codes "refused method Ambiguous\n" ++ []

unfoldable pub no_body_line : List ℕ
no_body_line = codes "refused method NoBody\n" ++ []

unfoldable pub bad_parameter_line : ℕ → List ℕ
bad_parameter_line number = codes "refused method BadParameter " ++ (decimal number ++ (codes "\n" ++ []))

unfoldable pub no_maker_line : List ℕ
no_maker_line = codes "refused method NoMaker\n" ++ []

abbrev pub body_kind_text : BodyKind → List ℕ
body_kind_text body_kinds.BadHeader = codes "BadHeader"
body_kind_text body_kinds.Cut = codes "Cut"
body_kind_text body_kinds.BadTarget = codes "BadTarget"
body_kind_text body_kinds.BadOpcode = codes "BadOpcode"
body_kind_text body_kinds.BadClause = codes "BadClause"

unfoldable pub body_line : BodyKind → ℕ → ℕ → List ℕ
body_line kind at method = codes "refused body " ++ (body_kind_text kind ++ (codes " at " ++ (decimal at ++ (codes " method " ++ (decimal method ++ (codes "\n" ++ []))))))

unfoldable pub raw_locals_line : List ℕ
raw_locals_line = codes "refused method RawLocals\n" ++ []

abbrev pub verify_kind_text : VerifyKind → List ℕ
verify_kind_text verify_kinds.Underflow = codes "Underflow"
verify_kind_text verify_kinds.Mismatch = codes "Mismatch"
verify_kind_text verify_kinds.BadRet = codes "BadRet"
verify_kind_text verify_kinds.BadLeave = codes "BadLeave"
verify_kind_text verify_kinds.Depth = codes "Depth"
verify_kind_text verify_kinds.FallsOff = codes "FallsOff"
verify_kind_text verify_kinds.BadMerge = codes "BadMerge"

-- what a place of the stack holds
abbrev pub kind_text : Kind → List ℕ
kind_text kinds.I = codes "i"
kind_text kinds.L = codes "l"
kind_text kinds.N = codes "n"
kind_text (kinds.Ref type) = codes "r"
kind_text kinds.Null = codes "null"

-- a further kind
abbrev pub other_text : Kind → List ℕ
other_text kind = codes "," ++ (kind_text kind ++ [])

-- the kinds, the bottom first, or `-` where there are none
abbrev pub stack_text : List Kind → List ℕ
stack_text [] = codes "-"
stack_text (kind ∷ above) = kind_text kind ++ flat_map other_text above

unfoldable pub verify_front : VerifyKind → ℕ → ℕ → List ℕ
verify_front kind method offset = codes "refused verify " ++ (verify_kind_text kind ++ (codes " method " ++ (decimal method ++ (codes " offset " ++ (decimal offset ++ (codes " stack " ++ []))))))

abbrev pub verify_line : ℕ → ℕ → List Kind → VerifyKind → List ℕ
verify_line method offset stack kind = verify_front kind method offset ++ (stack_text stack ++ codes "\n")

unfoldable pub domain_line : ℕ → List ℕ
domain_line at = codes "refused domain at " ++ (decimal at ++ (codes "\n" ++ []))

unfoldable pub unsupported_line : List ℕ
unsupported_line = codes "refused unsupported\n" ++ []

-- the line of a refusal
abbrev pub refusal_line : Refusal → List ℕ
refusal_line (refusals.Pe fault) = pe_line fault.kind fault.at
refusal_line (refusals.Tables fault) = tables_line fault.kind fault.at
refusal_line (refusals.Meta kind token) = meta_line kind token
refusal_line refusals.NoMethod = no_method_line
refusal_line refusals.Ambiguous = ambiguous_line
refusal_line refusals.NoBody = no_body_line
refusal_line (refusals.BadParameter number) = bad_parameter_line number
refusal_line refusals.NoMaker = no_maker_line
refusal_line (refusals.Body kind at method) = body_line kind at method
refusal_line refusals.RawLocals = raw_locals_line
refusal_line (refusals.Verify method offset stack kind) = verify_line method offset stack kind
refusal_line (refusals.Domain at) = domain_line at
refusal_line refusals.Unsupported = unsupported_line
