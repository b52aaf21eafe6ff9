-- What the parts promise of members and their names.
use Rattle.std.specs.Prelude.{ℕ, if◌then◌else◌, Option, Some, None}
use Rattle.px_code.specs.Body.{is_among, with_token}
use Rattle.px_meta.specs.Rows.{IsRow, type_defs, type_refs}
use Rattle.px_tables.specs.Metadata.{View}
use Rattle.px_link_tokens.specs.declared.member.Parent.{Parent}
use Rattle.px_link_tokens.specs.declared.member.Parent.TheVariants.{Defined, Referred}
use Rattle.px_link_tokens.specs.declared.member.TypeMember.{TypeMember}
use Rattle.px_link_tokens.specs.Outside.{Member, member_at}

-- a member with the bytes of its name
abbrev pub member_of : TypeMember → Member
member_of m = record { parent = m.parent; name = m.name.now }

abbrev pub said : Option TypeMember → Option Member
said None = None
said (Some m) = Some (member_of m)

-- the row of a type is there
abbrev pub IsParent : View → Parent → Type 0
IsParent v (Defined row) = IsRow v type_defs row
IsParent v (Referred row) = IsRow v type_refs row

-- the member that gives its name to an instruction
abbrev pub member_by : View → ℕ → ℕ → Option Member
member_by v opcode at = if is_among with_token opcode then member_at v opcode at else None
