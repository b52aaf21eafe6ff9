use Rattle.px_asm_store.proofs.StoreStays.{references_stay}
use Rattle.px_asm_tokens.proofs.tokens.text_token.Goals as goal

pub returns-clause-kept : goal.returns-clause-kept
returns-clause-kept c = references_stay c.args.rows.now c.args.store.now c.text.new.self c.in_ok-text.ensures.grows c.in_ok-text.ensures.references c.requires.before
