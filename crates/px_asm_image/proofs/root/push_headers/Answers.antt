use Rattle.std.proofs.Common.{◌∙◌}
use Rattle.std.proofs.lemmas.Result.{on_ok_weaker}
use Rattle.px_asm_image.proofs.Pushed.{headers_pushed}
use Rattle.px_asm_image.proofs.root.push_headers.Goals as goal

pub returns : goal.returns
returns c =
    on_ok_weaker c.push_header-4.result (λ is. is ∙ headers_pushed c.args.tables.now c.args.strings.now c.args.user_strings.now c.args.blob.now _ _ _ _ _ _ _
    c.padded-second.ensures.padded c.padded.ensures.padded c.padded-2.ensures.padded c.in_ok-push_header.ensures c.in_ok-push_header-2.ensures c.in_ok-push_header-3.ensures) c.push_header-4.ensures
