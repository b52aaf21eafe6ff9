use Rattle.std.proofs.Common.{◌≡◌, ◌∷◌, sym, ◌∙◌, subst}
use Rattle.px_link_reach.specs.Met as reach
use Rattle.px_link_reach.specs.Met.{IsReached}
use Rattle.px_link_reach.specs.Overriders.{AreLists}
use Rattle.px_link.specs.Link.{Blames, rows_of}
use Rattle.px_link.specs.Parts.{IsEntryOf, IsLinked}
use Rattle.px_link.proofs.Linking.{bad_body}
use Rattle.px_link.proofs.linked.linked.Goals as goal
use Rattle.px_link.proofs.linked.linked.Goals.{After-deref}

lists_are : (c : After-deref) → AreLists c.args.meta.now c.in_ok-overriding.overriding.lists
lists_are c = subst (λ v. AreLists v c.in_ok-overriding.overriding.lists) c.in_ok-overriding.ensures (subst (λ o. AreLists o.tables o.lists) c.overriding.view_is c.overriding.invariant)

starts_are : (c : After-deref) → c.deref.result.now ≡ c.args.entry.now.method ∷ rows_of c.args.entry.now.maker
starts_are c = c.deref.ensures.value ∙ c.in_ok-starts.ensures

pub returns-in-Err-clause-fault : goal.returns-in-Err-clause-fault
returns-in-Err-clause-fault c = λ name is.
    let before = (goal.at.returns-in-Err-clause-fault c).After-deref in
    let v = c.args.meta.now in
    let lists = c.in_ok-overriding.overriding.lists in
    let refused = subst (λ x. reach.Blames x c.args.image.now lists (c.args.entry.now.method ∷ rows_of c.args.entry.now.maker) c.in-Err.fault) c.in_ok-tokens.ensures
    (subst (λ starts. reach.Blames c.in_ok-tokens.tokens c.args.image.now lists starts c.in-Err.fault) (starts_are before) c.in-Err.ensures.fault) in
    subst (λ f. Blames v c.args.image.now name f) (sym c.fault_of.ensures) (bad_body v c.args.image.now name c.args.entry.now lists c.in-Err.fault is (lists_are before) refused)

pub returns-clause-program : goal.returns-clause-program
returns-clause-program c = λ name is.
    let before = (goal.at.returns-clause-program c).After-deref in
    let lists = c.in_ok-overriding.overriding.lists in
    let tokens_is = c.in_ok-tokens.ensures in
    let reached = subst (λ starts. IsReached c.in_ok-tokens.tokens c.args.image.now lists starts c.in-Ok.reached) (starts_are before) c.in-Ok.ensures.reached in
    subst (λ x. IsLinked x c.args.image.now name c.in_ok-program_of.field-0) tokens_is
    (c.in_ok-program_of.ensures c.args.image.now name (subst (λ x. IsEntryOf x name c.args.entry.now) (sym tokens_is) is) reached)
