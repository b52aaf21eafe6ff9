use Rattle.std.proofs.Common.{sym, take}
use Rattle.px_blobs.specs.Items.{IsStringAt}
use Rattle.px_blobs.proofs.Texts.{none_at, no_text, text_stands, checked}
use Rattle.px_blobs.proofs.items.string_at.Goals as goal

pub returns-in_err-end : goal.returns-in_err-end
returns-in_err-end c =
    let bytes = c.bytes_from-bytes in
    rw c.from_residual.ensures (none_at c.args.heap.now c.args.at bytes.result.now bytes.ensures (sym c.in_err-end.ensures))

pub returns : goal.returns
returns c =
    let heap = c.args.heap.now in
    let at = c.args.at in
    let bytes = c.bytes_from-bytes in
    let end = c.in_ok-end.end in
    let found = sym c.in_ok-end.ensures in
    rw c.ok.ensures.value
    (checked (λ s. s.now) (λ text. IsStringAt heap at text) _ _ (take end bytes.result.now) c.from_utf8.result c.from_utf8.ensures.cases
    (text_stands heap at bytes.result.now end bytes.ensures found) (no_text heap at bytes.result.now end bytes.ensures found))
