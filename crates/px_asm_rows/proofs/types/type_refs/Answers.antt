use Rattle.px_asm_rows.proofs.TableTypes.{table_all_refs}
use Rattle.px_asm_rows.proofs.types.type_refs.Goals as goal

pub returns-clause-are : goal.returns-clause-are
returns-clause-are c = table_all_refs c.library_refs.new.store c.checker_refs.new.store c.in_ok-checkers.ensures.grows c.in_ok-made.made.items c.in_ok-checkers.checkers.items c.append.new.self.items c.in_ok-made.ensures.are c.in_ok-checkers.ensures.are c.in_ok-append.ensures.items
