use Rattle.px_link_types.proofs.Derived.{next_library}
use Rattle.px_link_types.proofs.numbers.add_library.Goals as goal

pub loop-number-preserved : goal.loop-number-preserved
loop-number-preserved c =
    let inserted = c.in_ok-insert.ensures in
    next_library c.loop-number.number c.loop-number.keys.keys c.insert.new.self.keys c.loop-number-test.true c.loop-number.invariant inserted.keys
