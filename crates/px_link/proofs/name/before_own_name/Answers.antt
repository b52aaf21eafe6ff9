use Rattle.px_link.proofs.Naming.{own_told}
use Rattle.px_link.proofs.name.before_own_name.Goals as goal

pub returns : goal.returns
returns c =
    own_told c.args.meta.now c.args.row c.args.text.now c.as_bytes.result.now c.as_bytes-2.result.now c.before_name.result c.type_at-own.result.now c.type_at-own.ensures c.as_bytes.ensures.value c.as_bytes-2.ensures.value c.before_name.ensures
