use Rattle.std.proofs.Common.{◌∙◌, ◌++◌, ◌∷◌, [], Some, set, ap, arith}
use Rattle.px_chain.specs.Clause.{variable_of}
use Rattle.px_trail.specs.declared.assignment.Known.{Known}
use Rattle.px_trail.specs.Assignment.{StepsOver, steps_in}
use Rattle.px_trail.specs.Trail.{Step}
use Rattle.px_trail.proofs.Tables.{IsKept-push, level_for_one, may_come, room_for_one, steps_in-push}
use Rattle.px_trail.proofs.assignment.PartialAssignment.assign.Goals as goal

pub next_level-level-requires : goal.next_level-level-requires
next_level-level-requires c =
    let may = may_come c.args.self.now c.self.inside.table.items c.self.inside.literals.items c.args.literal c.self.view_is c.requires.over c.requires.unassigned in
    level_for_one _ c.self.inside.table.items c.self.inside.literals.items c.self.inside.decided c.args.literal c.self.invariant may.over may.unassigned

pub push_reserved-requires : goal.push_reserved-requires
push_reserved-requires c =
    let may = may_come c.args.self.now c.self.inside.table.items c.self.inside.literals.items c.args.literal c.self.view_is c.requires.over c.requires.unassigned in
    let room = room_for_one _ c.self.inside.table.items c.self.inside.literals.items c.self.inside.decided c.args.literal c.self.invariant may.over may.unassigned in
    omega (arith, c.self.inside.literals.ok.0, room)

pub invariant_of-self : goal.invariant_of-self
invariant_of-self c =
    let may = may_come c.args.self.now c.self.inside.table.items c.self.inside.literals.items c.args.literal c.self.view_is c.requires.over c.requires.unassigned in
    let k : Known = record { literal = c.args.literal; level = c.next_level-level.result; reason = c.args.reason } in
    rw (c.push_reserved.ensures.items, c.push_reserved.ensures.capacity)
    (IsKept-push _ c.self.inside.table.items c.self.inside.literals.items c.self.inside.decided k c.self.invariant may.over may.unassigned c.next_level-level.ensures)

pub returns-clause-formed : goal.returns-clause-formed
returns-clause-formed c =
    let may = may_come c.args.self.now c.self.inside.table.items c.self.inside.literals.items c.args.literal c.self.view_is c.requires.over c.requires.unassigned in
    let k : Known = record { literal = c.args.literal; level = c.next_level-level.result; reason = c.args.reason } in
    rw c.push_reserved.ensures.items
    (IsKept-push _ c.self.inside.table.items c.self.inside.literals.items c.self.inside.decided k c.self.invariant may.over may.unassigned c.next_level-level.ensures).formed

pub returns-clause-steps : goal.returns-clause-steps
returns-clause-steps c =
    let may = may_come c.args.self.now c.self.inside.table.items c.self.inside.literals.items c.args.literal c.self.view_is c.requires.over c.requires.unassigned in
    let k : Known = record { literal = c.args.literal; level = c.next_level-level.result; reason = c.args.reason } in
    let s : Step = record { literal = c.args.literal; reason = c.args.reason } in
    ap (steps_in (set c.self.inside.table.items (variable_of c.args.literal) (Some k))) c.push_reserved.ensures.items
    ∙ steps_in-push c.self.inside.table.items c.self.inside.literals.items k may.over may.unassigned
    ∙ ap (λ (a : StepsOver). a.steps ++ s ∷ []) c.self.view_is
