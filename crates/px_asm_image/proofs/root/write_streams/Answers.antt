use Rattle.px_asm_image.proofs.Pushed.{streams_pushed}
use Rattle.px_asm_image.proofs.root.write_streams.Goals as goal

pub returns : goal.returns
returns c =
    streams_pushed c.args.tables.now c.args.strings.now c.args.user_strings.now c.args.blob.now _ _ _ _ _ _ c.in_ok-out.ensures.items
    c.in_ok-push_headers.ensures c.in_ok-push_padded.ensures c.in_ok-push_padded-2.ensures c.in_ok-push_padded-3.ensures c.in_ok-push_padded-4.ensures
