use Rattle.std.proofs.Common.{◌≡◌, ◌+◌, ◌^◌, ◌<◌, length, vec_len, arith, rules}
use Rattle.std.proofs.lemmas.List.{nil_from_length}
use Rattle.px_link_types.proofs.Visiting.{all_visited, smaller, under_way_next}
use Rattle.px_link_types.proofs.numbers.number_all.Goals as goal

pub loop-key-smaller : goal.loop-key-smaller
loop-key-smaller c =
    let popped = c.in-Some.ensures in
    let went = c.in_ok-number_next.ensures in
    let next = c.number_next.new.pending in
    let fits : vec_len next < 2 ^ 64 = search rules in
    let are : vec_len next ≡ length next.items = search rules in
    let was : vec_len c.loop-key.pending ≡ length c.pop.new.self.items + 1 = omega (arith, popped.len, c.pop.new.self.ok.0) in
    smaller c.args.meta.now c.loop-key.keys.keys c.pop.new.self.items c.number_next.new.keys.keys next.items c.in-Some.key (vec_len c.loop-key.pending) (vec_len next)
    went.visits c.loop-key.invariant.few fits are was

pub loop-key-preserved : goal.loop-key-preserved
loop-key-preserved c =
    let popped = c.in-Some.ensures in
    let went = c.in_ok-number_next.ensures in
    under_way_next c.args.meta.now c.args.keys.now.keys c.args.met.now c.loop-key.keys.keys c.pop.new.self.items c.loop-key.pending.items c.number_next.new.keys.keys c.number_next.new.pending.items c.in-Some.key
    popped.items c.loop-key.invariant went.visits went.begins went.few

pub returns-clause-numbers : goal.returns-clause-numbers
returns-clause-numbers c =
    let none = c.in_default.ensures in
    let empty = nil_from_length c.loop-key.pending.items (omega (arith, none.cases, c.loop-key.pending.ok.0)) in
    all_visited c.args.meta.now c.args.keys.now.keys c.args.met.now c.loop-key.keys.keys c.loop-key.pending.items empty c.loop-key.invariant
