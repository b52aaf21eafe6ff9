use Rattle.std.proofs.Common.{◌∙◌, sym}
use Rattle.px_asm_image.proofs.Fitting.{fits_back, fits_right}
use Rattle.px_asm_image.proofs.content.Content.fits.Goals as goal

pub returns : goal.returns
returns c = (λ passed. fits_right c.args.self.now (sym c.content_fits.ensures ∙ passed), λ fit. c.content_fits.ensures ∙ fits_back c.args.self.now fit)
