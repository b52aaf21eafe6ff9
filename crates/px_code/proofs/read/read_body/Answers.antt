use Rattle.std.proofs.Common.{sym, ap, ◌∙◌}
use Rattle.std.specs.List.{list_all}
use Rattle.px_code.specs.Body.{first_bad, is_placed}
use Rattle.px_code.proofs.read.read_body.Goals as goal

pub returns-in_ok-clauses-in-None-clause-formed : goal.returns-in_ok-clauses-in-None-clause-formed
returns-in_ok-clauses-in-None-clause-formed c = record {
  some = rw c.from_vec.ensures (c.in_ok-instrs.ensures.some c.in_ok-header.ensures.some);
  follow = rw c.from_vec.ensures c.in_ok-instrs.ensures.follow;
  lead = ap first_bad (c.from_vec.ensures ∙ sym c.as_slice.ensures.value) ∙ sym c.in-None.ensures.first;
  ranges = ap (λ instrs. list_all (is_placed instrs) c.from_vec-in-None.result) (c.from_vec.ensures ∙ sym c.as_slice-in-None.ensures.value)
      ∙ ap (list_all (is_placed c.as_slice-in-None.result.now)) c.from_vec-in-None.ensures ∙ c.in_ok-clauses-in-None.ensures.placed;
  few = rw c.from_vec-in-None.ensures c.in_ok-clauses-in-None.ensures.few;
}
