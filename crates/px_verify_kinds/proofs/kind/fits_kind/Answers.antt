use Rattle.px_verify_kinds.proofs.Lines.{fits_refs}
use Rattle.px_verify_kinds.proofs.kind.fits_kind.Goals as goal

pub returns-in-Ref-Ref : goal.returns-in-Ref-Ref
returns-in-Ref-Ref c = fits_refs c.args.program.now.types c.requires.types c.args.kind c.args.wanted c.in-Ref-Ref.class c.in-Ref-Ref.other c.fits.result c.in-Ref-Ref.is-0 c.in-Ref-Ref.is-1 c.fits.ensures
