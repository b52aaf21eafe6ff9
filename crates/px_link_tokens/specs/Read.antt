-- What is asked of members, by what was read of their rows.
use Rattle.std.specs.Prelude.{◌==◌, ◌&&◌, ◌||◌, not, Bool, true}
use Rattle.px_meta.specs.declared.meta.MetaField.{MetaField}
use Rattle.px_meta.specs.declared.meta.MetaMethod.{MetaMethod}
use Rattle.px_tables.specs.Counts.{has_bit}
use Rattle.px_tables.specs.Metadata.{View}
use Rattle.px_link_types.specs.Keys.{key_of}
use Rattle.px_link_types.specs.Parts.{is_kind}
use Rattle.px_link_tokens.specs.Operands.{Way, Called, CalledVirtually, Made, has_initialiser, is_owned, is_run, is_there, is_void}

-- a field that is static or not, as asked, and that holds what is of a form that is run
abbrev pub is_asked : View → Bool → MetaField → Bool
is_asked v static field = is_kind static (has_bit field.flags 4) && is_there (key_of v field.sig)

-- a field that can be run on
abbrev pub is_run_field : View → Bool → MetaField → Bool
is_run_field v static field =
    is_owned v (not static) field.owner && is_asked v static field && (not static || not (has_initialiser v field.owner))

-- a method that may be called in a way
abbrev pub takes_call : View → Way → MetaMethod → Bool
takes_call v Called method =
    is_owned v method.sig.has_this method.owner && not (method.rva == 0) && (method.sig.has_this || not (has_initialiser v method.owner))
takes_call v CalledVirtually method = is_owned v true method.owner && method.sig.has_this
takes_call v Made method =
    is_owned v true method.owner && not (method.rva == 0) && method.sig.has_this && is_void method.sig.ret && not (has_initialiser v method.owner)

abbrev pub fits_call : View → Way → MetaMethod → Bool
fits_call v way method = is_run v method.sig && takes_call v way method
