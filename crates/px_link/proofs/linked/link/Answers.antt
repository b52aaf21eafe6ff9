use Rattle.std.proofs.Common.{subst}
use Rattle.px_program.specs.Arguments.{AreGiven, arguments_of}
use Rattle.px_program.specs.Formed.{IsWellFormed}
use Rattle.px_link.specs.Link.{Blames}
use Rattle.px_link.proofs.Entries.{passed_on, starts_owned}
use Rattle.px_link.proofs.Linking.{linked_formed, linked_given, of_linked}
use Rattle.px_link.proofs.linked.link.Goals as goal

pub returns-in_err-entry-clause-fault : goal.returns-in_err-entry-clause-fault
returns-in_err-entry-clause-fault c =
    let gives = c.from_residual.ensures in
    let told = c.in_err-entry.ensures in
    passed_on (Blames c.args.meta.now c.args.image.now c.args.name.now) c.from_residual.result c.in_err-entry.field-0.0 gives.1
    (subst (λ n. Blames c.args.meta.now c.args.image.now n c.in_err-entry.field-0.0) c.as_bytes.ensures.value (told.fault c.args.image.now))

pub linked-requires : goal.linked-requires
linked-requires c = let is = c.in_ok-entry.ensures in starts_owned c.args.meta.now c.as_bytes.result.now c.in_ok-entry.entry is.entry

pub returns-clause-well_formed : goal.returns-clause-well_formed
returns-clause-well_formed c =
    let all = c.linked.ensures in
    let found = c.in_ok-entry.ensures in
    of_linked IsWellFormed c.args.meta.now c.args.image.now c.as_bytes.result.now c.linked.result (linked_formed c.args.meta.now c.args.image.now c.as_bytes.result.now) (all.program c.as_bytes.result.now found.entry)

pub returns-clause-arguments : goal.returns-clause-arguments
returns-clause-arguments c =
    let all = c.linked.ensures in
    let found = c.in_ok-entry.ensures in
    of_linked (λ program. AreGiven program.types (arguments_of program)) c.args.meta.now c.args.image.now c.as_bytes.result.now c.linked.result (linked_given c.args.meta.now c.args.image.now c.as_bytes.result.now) (all.program c.as_bytes.result.now found.entry)
