-- The bodies of methods, with the types of their locals (Partition II, 22.26, 22.36 and 25.4).
use Rattle.std.specs.Prelude.{ℕ, ◌==◌, false, if◌then◌else◌, List, [], Option, Some, None, Result, Ok, Err, take, drop}
use Rattle.px_blobs.specs.Items.{blob_at}
use Rattle.px_code.specs.Body.{body_of}
use Rattle.px_code.specs.Reading.{PlacedFault}
use Rattle.px_reading.specs.Reading.{◌>>=◌}
use Rattle.px_code.specs.declared.body.Body.{Body}
use Rattle.px_code.specs.declared.body.BodyKind.TheVariants.{BadHeader, Cut}
use Rattle.px_meta.specs.Members.{read_of}
use Rattle.px_meta.specs.Rows.{cell, methods, some_row}
use Rattle.px_meta.specs.Tokens.{row_in, table_in}
use Rattle.px_pe.specs.Image as pe
use Rattle.px_pe.specs.Section.{rest_at}
use Rattle.px_pe.specs.declared.section.Span.{Span}
use Rattle.px_sig.specs.Grammar.{locals_sig}
use Rattle.px_sig.specs.declared.sig.SigType.{SigType}
use Rattle.px_tables.specs.Metadata.{View}
use Rattle.px_link_reach.specs.declared.body.Whole.{Whole}

-- the number of the table of signatures that stand alone
abbrev pub stand_alone_sigs : ℕ
stand_alone_sigs = 0x11

abbrev pub locals_in : View → Option ℕ → Option (List SigType)
locals_in v None = None
locals_in v (Some row) = read_of locals_sig (blob_at v.blob (cell v stand_alone_sigs row 0))

-- the types of locals whose signature a token names
abbrev pub locals_at : View → ℕ → Option (List SigType)
locals_at v at = if table_in at == stand_alone_sigs then locals_in v (some_row v stand_alone_sigs (row_in at)) else None

-- a body whose token of locals names no signature of locals is refused at that token
abbrev pub with_locals : Body → Option (List SigType) → Result Whole PlacedFault
with_locals body None = Err (BadHeader, 8)
with_locals body (Some locals) = Ok (record { body = body; locals = locals })

abbrev pub whole_of : View → Body → Result Whole PlacedFault
whole_of v body = if body.locals_token == 0 then with_locals body (Some []) else with_locals body (locals_at v body.locals_token)

-- the body at a place of the file, up to the end of the section that holds it
abbrev pub body_in : List ℕ → Option Span → Result Body PlacedFault
body_in bytes None = Err (Cut, 0)
body_in bytes (Some span) = body_of (take span.len (drop span.start bytes))

abbrev pub body_at : pe.View → ℕ → Result Body PlacedFault
body_at image rva = body_in image.bytes (rest_at image.sections rva)

-- a method without a body has no instructions
abbrev pub no_body : Whole
no_body = record { body = record { max_stack = 0; init_locals = false; locals_token = 0; code = []; clauses = [] }; locals = [] }

-- the body of a method, by its row
abbrev pub whole_at : View → pe.View → ℕ → Result Whole PlacedFault
whole_at v image method = if cell v methods method 0 == 0 then Ok no_body else (body_at image (cell v methods method 0) >>= whole_of v)
