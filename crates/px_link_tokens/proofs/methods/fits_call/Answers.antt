use Rattle.std.proofs.Common.{sym, ap, ◌∙◌}
use Rattle.std.specs.Prelude.{◌&&◌}
use Rattle.px_link_tokens.specs.Named.{way_of}
use Rattle.px_link_tokens.specs.Operands.{is_run}
use Rattle.px_link_tokens.specs.Read.{takes_call}
use Rattle.px_link_tokens.proofs.methods.fits_call.Goals as goal

pub returns-then-is_run : goal.returns-then-is_run
returns-then-is_run c =
    let v = c.args.tokens.now in
    let method = c.args.method.now in
    c.takes_call.ensures ∙ ap (λ run. run && takes_call v (way_of c.args.way) method) (sym c.if-is_run.true ∙ c.is_run.ensures ∙ ap (λ meta. is_run meta c.get.result.now) c.meta.ensures ∙ ap (is_run v) c.get.ensures)

pub returns-else-is_run : goal.returns-else-is_run
returns-else-is_run c =
    let v = c.args.tokens.now in
    let method = c.args.method.now in
    c.if-is_run.false ∙ ap (λ run. run && takes_call v (way_of c.args.way) method) (sym c.if-is_run.false ∙ c.is_run.ensures ∙ ap (λ meta. is_run meta c.get.result.now) c.meta.ensures ∙ ap (is_run v) c.get.ensures)
