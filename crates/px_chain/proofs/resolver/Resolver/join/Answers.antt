use Rattle.std.proofs.Common.{◌∙◌, ap, length}
use Rattle.px_chain.proofs.Marking.{all_written}
use Rattle.px_chain.proofs.resolver.Resolver.join.Goals as goal

pub invariant_of-self : goal.invariant_of-self
invariant_of-self c =
    let same = c.mark.auto.marks ∙ ap length c.deref_mut.ensures.value in
    rw (all_written c.self.inside.marks.items c.mark.new.marks c.self.inside.marks.len c.self.inside.marks.ok.0 same) (c.mark.ensures.listed _ (rw c.deref_mut.ensures.value c.self.invariant))
