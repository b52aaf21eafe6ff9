-- A program that was linked and runs whole can be written.
use Rattle.std.proofs.Common.{◌<◌, sym, ◌∙◌, subst}
use Rattle.std.specs.Option.{unwrap_or}
use Rattle.std.specs.List.{AllByRecursion}
use Rattle.px_link.specs.Layout.{type_row}
use Rattle.px_asm_law_relink.proofs.WritingClauses.{clauses_are}
use Rattle.px_asm_law_relink.proofs.WritingInstrs.{raws_are}
use Rattle.px_asm_law_relink.proofs.WritingMethods.{as_many, count_is, each_below, numbers_once, slots_are, slots_below}
use Rattle.px_asm_law_relink.proofs.WritingOwners.{by_owner, owners_are}
use Rattle.px_asm_law_relink.proofs.WritingTypes.{all_types, rising_once, types_are}
use Rattle.px_asm_law_relink.specs.Laws.{LinkedIsWritable}

pub linked_is_writable : LinkedIsWritable
linked_is_writable p linked runs =
    let reads = linked.assembly.reads in
    let rows = reads.reached.rows in
    record {
      formed = linked.formed;
      types = types_are p linked;
      all_types = all_types p linked;
      types_once = rising_once (λ n. unwrap_or (type_row reads.keys n) 0) p.layout.types reads.layout.types.rising;
      methods_count = as_many rows p.layout.methods reads.layout.methods ∙ sym (count_is linked);
      methods = subst (λ count. AllByRecursion (λ number. number < count) p.layout.methods) (sym (count_is linked)) (each_below rows p.layout.methods reads.layout.methods);
      methods_once = numbers_once rows p.layout.methods reads.layout.methods;
      owners = owners_are p linked;
      by_owner = by_owner p linked;
      slots_count = slots_are linked;
      slots = slots_below linked;
      raws = raws_are p linked runs;
      clauses = clauses_are p linked;
    }
