-- The names of instructions that aren't run, by their opcodes and tokens.
use Rattle.std.proofs.Common.{[], ◌∷◌, refl}
use Rattle.std.specs.Prelude.{codes}
use Rattle.px_link_tokens.specs.Outside as around
use Rattle.px_link_tokens.specs.Outside.{IsOutsideName, IsRefName}
use Rattle.px_meta.specs.Chains as chains
use Rattle.px_meta.specs.FullNames.{IsTypeName}
use Rattle.px_facts_link.proofs.NameAssembly.{names}
use Rattle.px_facts_link.proofs.TableWords.{tables}

-- TYPES: of the assembly, and of others

outer : IsTypeName names 1 (codes "Near.Outer")
unfolding tables
outer = record { outers = []; chain = chains.Ends 1 refl; is = refl }

inner : IsTypeName names 2 (codes "Near.Outer/Inner")
unfolding tables
inner = record { outers = 1 ∷ []; chain = chains.GoesOn 2 1 [] refl (chains.Ends 1 refl); is = refl }

-- a body that takes the rows of other assemblies for what types are nested in gives "Guest", and one that writes a dot "Far.Host.Guest"
guest : IsRefName names 2 (codes "Far.Host/Guest")
unfolding tables
guest = record { scopes = 1 ∷ []; around = around.GoesOn [] 2 1 [] refl refl (around.Ends (2 ∷ []) 1 refl); is = refl }

-- each of One and Two is in the other; a body that sees no way back doesn't end
one : IsRefName names 3 (codes "Two/Far.One")
unfolding tables
one = record { scopes = 4 ∷ []; around = around.GoesOn [] 3 4 [] refl refl (around.ComesBack (3 ∷ []) 4 3 refl refl); is = refl }

-- METHODS that give their names: those that `callvirt` names, and those without a body

a_method_that_is_called_virtually : IsOutsideName names 0x6F 0x0600_0002 (codes "Near.Outer/Inner::Run")
unfolding tables
a_method_that_is_called_virtually = record { type = codes "Near.Outer/Inner"; type_is = inner; is = refl }

a_method_without_a_body : IsOutsideName names 0xFE06 0x0600_0002 (codes "Near.Outer/Inner::Run")
unfolding tables
a_method_without_a_body = record { type = codes "Near.Outer/Inner"; type_is = inner; is = refl }

a_method_of_no_type : IsOutsideName names 0x28 0x0600_0001 (codes "opcode-28")
unfolding tables
a_method_of_no_type = refl

no_such_method : IsOutsideName names 0x28 0x0600_0003 (codes "opcode-28")
unfolding tables
no_such_method = refl

-- REFERENCES to members, which give their names where the parent is a type

a_member_of_a_nested_type : IsOutsideName names 0x28 0x0A00_0001 (codes "Far.Host/Guest::Visit")
unfolding tables
a_member_of_a_nested_type = record { type = codes "Far.Host/Guest"; type_is = guest; is = refl }

a_member_of_a_type_in_itself : IsOutsideName names 0x28 0x0A00_0002 (codes "Two/Far.One::Turn")
unfolding tables
a_member_of_a_type_in_itself = record { type = codes "Two/Far.One"; type_is = one; is = refl }

-- a body that takes a TypeSpec for a type of another assembly gives "Far.Host::Get"
a_member_of_a_type_spec : IsOutsideName names 0x28 0x0A00_0003 (codes "opcode-28")
unfolding tables
a_member_of_a_type_spec = refl

a_member_of_this_assembly : IsOutsideName names 0x28 0x0A00_0004 (codes "Near.Outer::Walk")
unfolding tables
a_member_of_this_assembly = record { type = codes "Near.Outer"; type_is = outer; is = refl }

no_such_reference : IsOutsideName names 0x28 0x0A00_0000 (codes "opcode-28")
unfolding tables
no_such_reference = refl

-- ALL ELSE goes by its opcode

a_field : IsOutsideName names 0x7B 0x0400_0002 (codes "opcode-7B")
unfolding tables
a_field = refl

a_field_of_no_type : IsOutsideName names 0x7B 0x0400_0001 (codes "opcode-7B")
unfolding tables
a_field_of_no_type = refl

a_type : IsOutsideName names 0xD0 0x0200_0001 (codes "opcode-D0")
unfolding tables
a_type = refl

-- the number of a parameter is no token
an_address_of_a_parameter : IsOutsideName names 0x0F 0x0600_0002 (codes "opcode-0F")
unfolding tables
an_address_of_a_parameter = refl
