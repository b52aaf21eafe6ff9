use Rattle.std.proofs.Common.{◌≡◌, ◌∙◌, ◌++◌, ◌+◌, ◌<◌, List, ℕ, length, ap, sym, subst, false, true, arith}
use Rattle.std.proofs.lemmas.Result.{IfOk-weaker}
use Rattle.px_chain.specs.Clause.{clause_of, complement, has}
use Rattle.px_chain.proofs.Members.{clause_of-ascending}
use Rattle.px_sat.specs.Learning.{IsChain}
use Rattle.px_sat.proofs.Entries.{genuine_by}
use Rattle.px_sat.proofs.Opening.{next_reason, some_open-start, open_in}
use Rattle.px_sat.proofs.Tracing.{nothing_left, reason-within, traced-pass, traced-start}
use Rattle.px_sat.proofs.Turns.{learns_by, open-none, open-start, turns_to}
use Rattle.px_sat.proofs.learning.learn.Goals as goal

pub loop-open-init : goal.loop-open-init
loop-open-init c =
    let v = c.args.trail.now in
    let clause = c.clause-clause.result.now in
    let made : c.join.new.self.clause ≡ clause =
    c.in_ok-join.ensures.clause ∙ ap (λ (front : List ℕ). clause_of (front ++ clause)) c.requires.empty ∙ clause_of-ascending clause c.clause-clause.ensures.ascends in
    let start = traced-start v c.args.conflict clause c.requires.is_false c.clause-clause.ensures.clause c.clause-clause.ensures.ascends in
    let counted = c.count_new-open.ensures ∙ open-start v (length c.args.decisions.now + 1) c.args.resolver.now.clause clause c.assigned-left.ensures.formed c.requires.empty c.clause-clause.ensures.ascends start.all_false in
    let some = some_open-start v c.args.decisions.now c.requires.last.0 c.requires.last.1 c.assigned-left.ensures.formed c.args.conflict clause c.clause-clause.ensures.clause start.all_false in
    record {
      traced = rw (made, c.assigned-left.ensures.literals, c.new-rest.ensures.items) start;
      count = rw made counted;
      some = omega (arith, counted, some);
      vars = c.join.ensures.vars ∙ c.requires.vars;
      same = c.join.ensures.vars;
    }

pub unreachable-requires : goal.unreachable-requires
unreachable-requires c =
    let empty = nothing_left c.loop-open.left.now c.loop-open.resolver.clause c.in_default.ensures.cases c.loop-open.invariant.traced.all_false in
    let none = open-none c.args.trail.now (length c.args.decisions.now + 1) c.loop-open.resolver.clause empty in
    omega (arith, none, c.loop-open.invariant.count, c.loop-open-test.true)

pub loop-open-preserved-then-not-has : goal.loop-open-preserved-then-not-has
loop-open-preserved-then-not-has c =
    let out : has c.loop-open.resolver.clause (complement c.in-Some.x.now) ≡ false =
    ap (λ l. has c.loop-open.resolver.clause l) (sym c.complement.ensures) ∙ sym c.has.ensures.has ∙ c.if-not-has.true in
    record {
      traced = traced-pass c.args.trail.now c.args.conflict c.loop-open.rest.items c.loop-open.left.now c.loop-open.resolver.clause c.in-Some.earlier.now c.in-Some.x.now c.loop-open.invariant.traced
          c.in-Some.ensures.cases.0 out;
      count = c.loop-open.invariant.count;
      some = c.loop-open.invariant.some;
      vars = c.loop-open.invariant.vars;
      same = c.loop-open.invariant.same;
    }

pub unreachable-requires-in_default-reason : goal.unreachable-requires-in_default-reason
unreachable-requires-in_default-reason c =
    let several : 1 < open_in c.args.trail.now (length c.args.decisions.now + 1) c.loop-open.resolver.clause = subst (λ n. 1 < n) c.loop-open.invariant.count c.loop-open-test.true in
    next_reason c.args.trail.now c.args.decisions.now c.requires.last.0 c.requires.last.1 c.assigned-left.ensures.formed c.args.conflict c.loop-open.rest.items c.loop-open.left.now
    c.loop-open.resolver.clause c.in-Some.earlier.now c.in-Some.x.now c.loop-open.invariant.traced c.in-Some.ensures.cases.0 several (sym c.reason.ensures.reason ∙ c.in_default-reason.is)

pub clause-reason-requires : goal.clause-reason-requires
clause-reason-requires c =
    let here : has c.loop-open.resolver.clause (complement c.in-Some.x.now) ≡ true =
    ap (λ l. has c.loop-open.resolver.clause l) (sym c.complement.ensures) ∙ sym c.has.ensures.has ∙ c.if-not-has.false in
    reason-within c.args.trail.now c.args.conflict c.loop-open.rest.items c.loop-open.left.now c.loop-open.resolver.clause c.in-Some.earlier.now c.in-Some.x.now c.loop-open.invariant.traced
    c.in-Some.ensures.cases.0 c.assigned-left.ensures.formed here c.in-Some-reason.number (sym c.reason.ensures.reason ∙ c.in-Some-reason.is)

pub loop-open-preserved : goal.loop-open-preserved
loop-open-preserved c =
    let here : has c.loop-open.resolver.clause (complement c.in-Some.x.now) ≡ true =
    ap (λ l. has c.loop-open.resolver.clause l) (sym c.complement.ensures) ∙ sym c.has.ensures.has ∙ c.if-not-has.false in
    let several : 1 < open_in c.args.trail.now (length c.args.decisions.now + 1) c.loop-open.resolver.clause = subst (λ n. 1 < n) c.loop-open.invariant.count c.loop-open-test.true in
    let turn = turns_to c.args.trail.now c.args.decisions.now c.requires.last.0 c.requires.last.1 c.assigned-left.ensures.formed c.args.conflict c.loop-open.rest.items c.loop-open.left.now
    c.loop-open.resolver.clause c.in-Some.earlier.now c.in-Some.x.now c.loop-open.invariant.traced c.in-Some.ensures.cases.0 several here c.in-Some-reason.number
    (sym c.reason.ensures.reason ∙ c.in-Some-reason.is) c.clause-reason.result.now c.clause-reason.ensures.clause c.clause-reason.ensures.ascends c.in_ok-resolve.field-0 c.resolve.new.self.clause
    c.in_ok-resolve.ensures.resolves in
    record {
      traced = rw c.in_ok-push.ensures.items turn.traced;
      count = omega (arith, turn.count, c.loop-open.invariant.count, c.count_new.ensures, c.loop-open-test.true);
      some = omega (arith, turn.count, turn.some, c.loop-open.invariant.count, c.count_new.ensures, c.loop-open-test.true);
      vars = c.resolve.ensures.vars ∙ c.loop-open.invariant.vars;
      same = c.resolve.ensures.vars ∙ c.loop-open.invariant.same;
    }

pub returns-clause-genuine : goal.returns-clause-genuine
returns-clause-genuine c =
    let one : open_in c.args.trail.now (length c.args.decisions.now + 1) c.loop-open.resolver.clause ≡ 1 = omega (arith, c.loop-open.invariant.count, c.loop-open.invariant.some, c.loop-open-test.false) in
    λ last was.
    IfOk-weaker c.finish.result (IsChain c.loop-open.resolver.vars c.args.conflict c.loop-open.rest.items c.loop-open.resolver.clause) _
    (λ chain is. genuine_by c.args.trail.now c.args.decisions.now last was c.assigned-left.ensures.formed c.args.conflict c.requires.is_false chain
    (learns_by c.args.trail.now c.args.decisions.now last was c.assigned-left.ensures.formed c.loop-open.resolver.vars c.args.conflict c.loop-open.rest.items
    c.loop-open.left.now c.loop-open.resolver.clause c.loop-open.invariant.traced one c.loop-open.invariant.vars chain is))
    c.finish.ensures.chain
