use Rattle.std.proofs.Common.{◌≡◌, None, arith, ap, ◌∙◌, subst, sym, List, Option, map}
use Rattle.std.specs.Prelude.{replicate}
use Rattle.std.specs.List.{AllByRecursion}
use Rattle.px_program.specs.Formed.{end_of}
use Rattle.px_verify_kinds.specs.Stacks.{IsStackIn, kinds_in}
use Rattle.px_verify_kinds.specs.declared.stacks.Stack.{Stack}
use Rattle.px_verify_rounds.proofs.Begins.{none_read, none_there}
use Rattle.px_verify_rounds.proofs.rounds.untyped.Goals as goal

pub returns-clause-table : goal.returns-clause-table
returns-clause-table c =
    let at : c.loop.counter ≡ c.end_of-end.result = omega arith in
    let code : c.end_of-end.result ≡ end_of c.args.method.now.code = c.end_of-end.ensures ∙ ap end_of c.as_slice.ensures in
    ap (map (kinds_in c.new.result)) c.loop.invariant ∙ none_read c.new.result c.loop.counter ∙ ap (λ n. replicate n None) (at ∙ code)

pub returns-clause-valid : goal.returns-clause-valid
returns-clause-valid c = subst (λ (entries : List (Option Stack)). AllByRecursion (IsStackIn c.new.result) entries) (sym c.loop.invariant) (none_there c.new.result c.loop.counter)
