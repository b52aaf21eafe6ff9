use Rattle.std.proofs.Common.{[], get_or, ap, ◌∙◌, arith}
use Rattle.px_asm.proofs.TableHolds.{table_earlier, table_later}
use Rattle.px_asm.proofs.tables.listed.Goals as goal

pub returns : goal.returns
returns c = record {
  type_refs = table_earlier (c.put-10.new.tables) (c.put-11.new.tables) 35 (c.args.made.assembly_refs) c.in_ok-put-11.ensures 1 (omega arith) ∙ table_earlier (c.put-9.new.tables) (c.put-10.new.tables) 32 (c.args.made.assembly) c.in_ok-put-10.ensures 1 (omega arith) ∙ table_earlier (c.put-8.new.tables) (c.put-9.new.tables) 27 (c.args.made.specs) c.in_ok-put-9.ensures 1 (omega arith) ∙ table_earlier (c.put-7.new.tables) (c.put-8.new.tables) 25 (c.args.made.impls) c.in_ok-put-8.ensures 1 (omega arith) ∙ table_earlier (c.put-6.new.tables) (c.put-7.new.tables) 17 (c.args.made.locals) c.in_ok-put-7.ensures 1 (omega arith) ∙ table_earlier (c.put-5.new.tables) (c.put-6.new.tables) 10 (c.args.references) c.in_ok-put-6.ensures 1 (omega arith) ∙ table_earlier (c.put-4.new.tables) (c.put-5.new.tables) 6 (c.args.made.methods) c.in_ok-put-5.ensures 1 (omega arith) ∙ table_earlier (c.put-3.new.tables) (c.put-4.new.tables) 4 (c.args.made.fields) c.in_ok-put-4.ensures 1 (omega arith) ∙ table_earlier (c.put-2.new.tables) (c.put-3.new.tables) 2 (c.args.made.type_defs) c.in_ok-put-3.ensures 1 (omega arith) ∙ c.in_ok-put-2.ensures.there;
  type_defs = table_earlier (c.put-10.new.tables) (c.put-11.new.tables) 35 (c.args.made.assembly_refs) c.in_ok-put-11.ensures 2 (omega arith) ∙ table_earlier (c.put-9.new.tables) (c.put-10.new.tables) 32 (c.args.made.assembly) c.in_ok-put-10.ensures 2 (omega arith) ∙ table_earlier (c.put-8.new.tables) (c.put-9.new.tables) 27 (c.args.made.specs) c.in_ok-put-9.ensures 2 (omega arith) ∙ table_earlier (c.put-7.new.tables) (c.put-8.new.tables) 25 (c.args.made.impls) c.in_ok-put-8.ensures 2 (omega arith) ∙ table_earlier (c.put-6.new.tables) (c.put-7.new.tables) 17 (c.args.made.locals) c.in_ok-put-7.ensures 2 (omega arith) ∙ table_earlier (c.put-5.new.tables) (c.put-6.new.tables) 10 (c.args.references) c.in_ok-put-6.ensures 2 (omega arith) ∙ table_earlier (c.put-4.new.tables) (c.put-5.new.tables) 6 (c.args.made.methods) c.in_ok-put-5.ensures 2 (omega arith) ∙ table_earlier (c.put-3.new.tables) (c.put-4.new.tables) 4 (c.args.made.fields) c.in_ok-put-4.ensures 2 (omega arith) ∙ c.in_ok-put-3.ensures.there;
  fields = table_earlier (c.put-10.new.tables) (c.put-11.new.tables) 35 (c.args.made.assembly_refs) c.in_ok-put-11.ensures 4 (omega arith) ∙ table_earlier (c.put-9.new.tables) (c.put-10.new.tables) 32 (c.args.made.assembly) c.in_ok-put-10.ensures 4 (omega arith) ∙ table_earlier (c.put-8.new.tables) (c.put-9.new.tables) 27 (c.args.made.specs) c.in_ok-put-9.ensures 4 (omega arith) ∙ table_earlier (c.put-7.new.tables) (c.put-8.new.tables) 25 (c.args.made.impls) c.in_ok-put-8.ensures 4 (omega arith) ∙ table_earlier (c.put-6.new.tables) (c.put-7.new.tables) 17 (c.args.made.locals) c.in_ok-put-7.ensures 4 (omega arith) ∙ table_earlier (c.put-5.new.tables) (c.put-6.new.tables) 10 (c.args.references) c.in_ok-put-6.ensures 4 (omega arith) ∙ table_earlier (c.put-4.new.tables) (c.put-5.new.tables) 6 (c.args.made.methods) c.in_ok-put-5.ensures 4 (omega arith) ∙ c.in_ok-put-4.ensures.there;
  methods = table_earlier (c.put-10.new.tables) (c.put-11.new.tables) 35 (c.args.made.assembly_refs) c.in_ok-put-11.ensures 6 (omega arith) ∙ table_earlier (c.put-9.new.tables) (c.put-10.new.tables) 32 (c.args.made.assembly) c.in_ok-put-10.ensures 6 (omega arith) ∙ table_earlier (c.put-8.new.tables) (c.put-9.new.tables) 27 (c.args.made.specs) c.in_ok-put-9.ensures 6 (omega arith) ∙ table_earlier (c.put-7.new.tables) (c.put-8.new.tables) 25 (c.args.made.impls) c.in_ok-put-8.ensures 6 (omega arith) ∙ table_earlier (c.put-6.new.tables) (c.put-7.new.tables) 17 (c.args.made.locals) c.in_ok-put-7.ensures 6 (omega arith) ∙ table_earlier (c.put-5.new.tables) (c.put-6.new.tables) 10 (c.args.references) c.in_ok-put-6.ensures 6 (omega arith) ∙ c.in_ok-put-5.ensures.there;
  references_are = table_earlier (c.put-10.new.tables) (c.put-11.new.tables) 35 (c.args.made.assembly_refs) c.in_ok-put-11.ensures 10 (omega arith) ∙ table_earlier (c.put-9.new.tables) (c.put-10.new.tables) 32 (c.args.made.assembly) c.in_ok-put-10.ensures 10 (omega arith) ∙ table_earlier (c.put-8.new.tables) (c.put-9.new.tables) 27 (c.args.made.specs) c.in_ok-put-9.ensures 10 (omega arith) ∙ table_earlier (c.put-7.new.tables) (c.put-8.new.tables) 25 (c.args.made.impls) c.in_ok-put-8.ensures 10 (omega arith) ∙ table_earlier (c.put-6.new.tables) (c.put-7.new.tables) 17 (c.args.made.locals) c.in_ok-put-7.ensures 10 (omega arith) ∙ c.in_ok-put-6.ensures.there;
  locals = table_earlier (c.put-10.new.tables) (c.put-11.new.tables) 35 (c.args.made.assembly_refs) c.in_ok-put-11.ensures 17 (omega arith) ∙ table_earlier (c.put-9.new.tables) (c.put-10.new.tables) 32 (c.args.made.assembly) c.in_ok-put-10.ensures 17 (omega arith) ∙ table_earlier (c.put-8.new.tables) (c.put-9.new.tables) 27 (c.args.made.specs) c.in_ok-put-9.ensures 17 (omega arith) ∙ table_earlier (c.put-7.new.tables) (c.put-8.new.tables) 25 (c.args.made.impls) c.in_ok-put-8.ensures 17 (omega arith) ∙ c.in_ok-put-7.ensures.there;
  impls = table_earlier (c.put-10.new.tables) (c.put-11.new.tables) 35 (c.args.made.assembly_refs) c.in_ok-put-11.ensures 25 (omega arith) ∙ table_earlier (c.put-9.new.tables) (c.put-10.new.tables) 32 (c.args.made.assembly) c.in_ok-put-10.ensures 25 (omega arith) ∙ table_earlier (c.put-8.new.tables) (c.put-9.new.tables) 27 (c.args.made.specs) c.in_ok-put-9.ensures 25 (omega arith) ∙ c.in_ok-put-8.ensures.there;
  specs = table_earlier (c.put-10.new.tables) (c.put-11.new.tables) 35 (c.args.made.assembly_refs) c.in_ok-put-11.ensures 27 (omega arith) ∙ table_earlier (c.put-9.new.tables) (c.put-10.new.tables) 32 (c.args.made.assembly) c.in_ok-put-10.ensures 27 (omega arith) ∙ c.in_ok-put-9.ensures.there;
  no_nested = table_later (c.put-10.new.tables) (c.put-11.new.tables) 35 (c.args.made.assembly_refs) c.in_ok-put-11.ensures 41 (omega arith) ∙ table_later (c.put-9.new.tables) (c.put-10.new.tables) 32 (c.args.made.assembly) c.in_ok-put-10.ensures 41 (omega arith) ∙ table_later (c.put-8.new.tables) (c.put-9.new.tables) 27 (c.args.made.specs) c.in_ok-put-9.ensures 41 (omega arith) ∙ table_later (c.put-7.new.tables) (c.put-8.new.tables) 25 (c.args.made.impls) c.in_ok-put-8.ensures 41 (omega arith) ∙ table_later (c.put-6.new.tables) (c.put-7.new.tables) 17 (c.args.made.locals) c.in_ok-put-7.ensures 41 (omega arith) ∙ table_later (c.put-5.new.tables) (c.put-6.new.tables) 10 (c.args.references) c.in_ok-put-6.ensures 41 (omega arith) ∙ table_later (c.put-4.new.tables) (c.put-5.new.tables) 6 (c.args.made.methods) c.in_ok-put-5.ensures 41 (omega arith) ∙ table_later (c.put-3.new.tables) (c.put-4.new.tables) 4 (c.args.made.fields) c.in_ok-put-4.ensures 41 (omega arith) ∙ table_later (c.put-2.new.tables) (c.put-3.new.tables) 2 (c.args.made.type_defs) c.in_ok-put-3.ensures 41 (omega arith) ∙ table_later (c.put.new.tables) (c.put-2.new.tables) 1 (c.args.made.type_refs) c.in_ok-put-2.ensures 41 (omega arith) ∙ table_later (c.new-tables.result) (c.put.new.tables) 0 (c.args.made.module) c.in_ok-put.ensures 41 (omega arith) ∙ ap (λ l. get_or l 41 []) c.new-tables.ensures;
}
