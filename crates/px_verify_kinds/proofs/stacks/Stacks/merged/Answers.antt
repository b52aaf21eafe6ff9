use Rattle.std.proofs.Common.{◌≡◌, ◌∙◌, sym, subst}
use Rattle.std.specs.Prelude.{◌||◌, not}
use Rattle.px_verify_kinds.specs.Stacks.{kinds_of}
use Rattle.px_verify_kinds.proofs.Walked.{Walked, alike_when, differs_when, no_first, one_stack, walked_clash, walked_long, walked_step, when_none}
use Rattle.px_verify_kinds.proofs.stacks.Stacks.merged.Goals as goal
use Rattle.px_verify_kinds.proofs.stacks.Stacks.merged.Goals.{in_default-via-in-Some+in_default, in_default-via-in_default}

pub returns-in_default : goal.returns-in_default
returns-in_default c =
    let types = c.args.program.now.types in
    let cells = c.args.self.now in
    elim c.in_default.branch [
      | in_default-via-in-Some+in_default w ↦
          walked_long types (kinds_of cells c.args.standing) (kinds_of cells c.args.given) c.loop-at.kinds.items c.loop-at.changes (kinds_of cells c.loop-at.at) (kinds_of cells c.loop-at.other) (kinds_of cells w.in_default.field-0-0.1) w.in_default.field-0-0.0
          c.loop-at.invariant.walked w.in_default.ensures.kinds w.in_default.ensures'.kinds
      | in_default-via-in_default w ↦
          no_first types cells (kinds_of cells c.args.standing) (kinds_of cells c.args.given) c.loop-at.kinds.items c.loop-at.changes c.loop-at.at c.loop-at.other c.loop-at.invariant.walked
          (when_none _ _ c.pop.result c.pop.ensures.kinds w.in_default.is-0) (when_none _ _ c.pop.result c.pop.ensures.there w.in_default.is-0) c.pop-in-loop-at.result c.pop-in-loop-at.ensures.kinds c.pop-in-loop-at.ensures.there c.loop-at-test.true
    ]

pub returns-in_default-merge_kind : goal.returns-in_default-merge_kind
returns-in_default-merge_kind c =
    let cells = c.args.self.now in
    walked_clash c.args.program.now.types (kinds_of cells c.args.standing) (kinds_of cells c.args.given) c.loop-at.kinds.items c.loop-at.changes (kinds_of cells c.loop-at.at) (kinds_of cells c.loop-at.other)
    (kinds_of cells c.in-Some-Some.top.1) (kinds_of cells c.in-Some-Some.given_top.1) c.in-Some-Some.top.0 c.in-Some-Some.given_top.0 c.loop-at.invariant.walked c.in-Some-Some.ensures.kinds c.in-Some-Some.ensures'.kinds
    (sym c.merge_kind.ensures ∙ c.in_default-merge_kind.is)

pub loop-at-preserved : goal.loop-at-preserved
loop-at-preserved c =
    let cells = c.args.self.now in
    record {
      there = c.in-Some-Some.ensures.there;
      given = c.in-Some-Some.ensures'.there;
      walked = let found = walked_step c.args.program.now.types (kinds_of cells c.args.standing) (kinds_of cells c.args.given) c.loop-at.kinds.items c.loop-at.changes (kinds_of cells c.loop-at.at) (kinds_of cells c.loop-at.other)
          (kinds_of cells c.in-Some-Some.top.1) (kinds_of cells c.in-Some-Some.given_top.1) c.in-Some-Some.top.0 c.in-Some-Some.given_top.0 c.in-Some.kind (not c.is_same-stays.result) c.loop-at.invariant.walked c.in-Some-Some.ensures.kinds c.in-Some-Some.ensures'.kinds
          (sym c.merge_kind.ensures ∙ c.in-Some.is) (λ h same. differs_when c.is_same-stays.result (c.in-Some.kind ≡ c.in-Some-Some.top.0) c.is_same-stays.ensures h same) (λ h. alike_when c.is_same-stays.result (c.in-Some.kind ≡ c.in-Some-Some.top.0) c.is_same-stays.ensures h) in
          subst (λ items. Walked c.args.program.now.types (kinds_of cells c.args.standing) (kinds_of cells c.args.given) items (c.loop-at.changes || not c.is_same-stays.result) (kinds_of cells c.in-Some-Some.top.1) (kinds_of cells c.in-Some-Some.given_top.1)) (sym c.in_ok-push.ensures.items) found;
    }

pub returns : goal.returns
returns c = one_stack c.args.program.now.types c.requires.types c.args.self.now c.args.standing c.args.given c.loop-at.kinds.items c.loop-at.changes c.loop-at.at c.loop-at.other c.loop-at.invariant.there c.loop-at.invariant.walked c.loop-at-test.false
