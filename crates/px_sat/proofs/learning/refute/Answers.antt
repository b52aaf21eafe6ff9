use Rattle.std.proofs.Common.{◌≡◌, ◌∙◌, ◌++◌, [], List, ℕ, ap, sym, false, true}
use Rattle.std.proofs.lemmas.Result.{IfOk-weaker}
use Rattle.px_chain.specs.Clause.{clause_of, complement, has}
use Rattle.px_chain.specs.Resolution.{Derives}
use Rattle.px_chain.proofs.Members.{clause_of-ascending}
use Rattle.px_sat.specs.Learning.{IsChain}
use Rattle.px_sat.proofs.Tracing.{derives_by, nothing_left, reason-within, traced-pass, traced-resolve, traced-start, undecided-reason}
use Rattle.px_sat.proofs.learning.refute.Goals as goal
use Rattle.px_sat.proofs.learning.refute.Goals.{After-finish}

pub loop-x-init : goal.loop-x-init
loop-x-init c =
    let clause : c.join.new.self.clause ≡ c.clause.result.now =
    c.in_ok-join.ensures.clause ∙ ap (λ (front : List ℕ). clause_of (front ++ c.clause.result.now)) c.requires.empty ∙ clause_of-ascending c.clause.result.now c.clause.ensures.ascends in (
      rw (clause, c.assigned-left.ensures.literals, c.new-rest.ensures.items)
          (traced-start c.args.trail.now c.args.conflict c.clause.result.now c.requires.is_false c.clause.ensures.clause c.clause.ensures.ascends),
      c.join.ensures.vars ∙ c.requires.vars,
      c.join.ensures.vars,
    )

pub loop-x-preserved-then-not-has : goal.loop-x-preserved-then-not-has
loop-x-preserved-then-not-has c =
    let out : has c.loop-x.resolver.clause (complement c.in-Some.x.now) ≡ false =
    ap (λ l. has c.loop-x.resolver.clause l) (sym c.complement.ensures) ∙ sym c.has.ensures.has ∙ c.if-not-has.true in (
      traced-pass c.args.trail.now c.args.conflict c.loop-x.rest.items c.loop-x.left.now c.loop-x.resolver.clause c.in-Some.earlier.now c.in-Some.x.now c.loop-x.invariant.0 c.in-Some.ensures.cases.0 out,
      c.loop-x.invariant.1,
      c.loop-x.invariant.2,
    )

pub unreachable-requires : goal.unreachable-requires
unreachable-requires c =
    let here : has c.loop-x.resolver.clause (complement c.in-Some.x.now) ≡ true =
    ap (λ l. has c.loop-x.resolver.clause l) (sym c.complement.ensures) ∙ sym c.has.ensures.has ∙ c.if-not-has.false in
    undecided-reason c.args.trail.now c.args.conflict c.loop-x.rest.items c.loop-x.left.now c.loop-x.resolver.clause c.in-Some.earlier.now c.in-Some.x.now c.loop-x.invariant.0 c.in-Some.ensures.cases.0
    c.assigned-left.ensures.formed here c.requires.undecided (sym c.reason.ensures.reason ∙ c.in_default-reason.is)

pub clause-requires-in-Some : goal.clause-requires-in-Some
clause-requires-in-Some c =
    let here : has c.loop-x.resolver.clause (complement c.in-Some.x.now) ≡ true =
    ap (λ l. has c.loop-x.resolver.clause l) (sym c.complement.ensures) ∙ sym c.has.ensures.has ∙ c.if-not-has.false in
    reason-within c.args.trail.now c.args.conflict c.loop-x.rest.items c.loop-x.left.now c.loop-x.resolver.clause c.in-Some.earlier.now c.in-Some.x.now c.loop-x.invariant.0 c.in-Some.ensures.cases.0
    c.assigned-left.ensures.formed here c.in-Some-reason.number (sym c.reason.ensures.reason ∙ c.in-Some-reason.is)

pub loop-x-preserved : goal.loop-x-preserved
loop-x-preserved c =
    let here : has c.loop-x.resolver.clause (complement c.in-Some.x.now) ≡ true =
    ap (λ l. has c.loop-x.resolver.clause l) (sym c.complement.ensures) ∙ sym c.has.ensures.has ∙ c.if-not-has.false in (
      rw c.in_ok-push.ensures.items
          (traced-resolve c.args.trail.now c.args.conflict c.loop-x.rest.items c.loop-x.left.now c.loop-x.resolver.clause c.in-Some.earlier.now c.in-Some.x.now c.loop-x.invariant.0 c.in-Some.ensures.cases.0
          c.assigned-left.ensures.formed here c.in-Some-reason.number (sym c.reason.ensures.reason ∙ c.in-Some-reason.is) c.clause-in-Some.result.now c.clause-in-Some.ensures.clause
          c.in_ok-resolve.field-0 c.resolve.new.self.clause c.in_ok-resolve.ensures.resolves),
      c.resolve.ensures.vars ∙ c.loop-x.invariant.1,
      c.resolve.ensures.vars ∙ c.loop-x.invariant.2,
    )

empty : (c : After-finish) → c.loop-x.resolver.clause ≡ []
empty c = nothing_left c.loop-x.left.now c.loop-x.resolver.clause c.in_default.ensures.cases c.loop-x.invariant.0.all_false

pub returns-clause-derives : goal.returns-clause-derives
returns-clause-derives c =
    IfOk-weaker c.finish.result (IsChain c.loop-x.resolver.vars c.args.conflict c.loop-x.rest.items c.loop-x.resolver.clause) (Derives c.args.trail.now.clauses)
    (λ chain is. derives_by c.args.trail.now.clauses chain c.args.conflict c.loop-x.rest.items c.loop-x.resolver.clause is.first_is is.rest_is is.claim_is c.loop-x.invariant.0.ascends c.loop-x.invariant.0.gives)
    c.finish.ensures.chain

pub returns-clause-empty_claim : goal.returns-clause-empty_claim
returns-clause-empty_claim c =
    IfOk-weaker c.finish.result (IsChain c.loop-x.resolver.vars c.args.conflict c.loop-x.rest.items c.loop-x.resolver.clause) _
    (λ chain is. is.claim_is ∙ empty (goal.at.returns-clause-empty_claim c).After-finish)
    c.finish.ensures.chain
