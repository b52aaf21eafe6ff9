use Rattle.std.proofs.Common.{◌≡◌, ◌<◌, sym, subst, [], drop, length, get_or, drop_of_length-le, arith}
use Rattle.std.proofs.lemmas.List.{length_push}
use Rattle.std.proofs.lemmas.Slice.Zip.{zip_end, zip_turn}
use Rattle.px_gates.specs.Circuit.{with_circuit}
use Rattle.px_gates.specs.Sum.{sum_bits, sum_carry, sum_circuit}
use Rattle.px_gates.proofs.Adding.{HasAdded, HasAdded-all, HasAdded-more, HasAdded-none, adder_over}
use Rattle.px_gates.proofs.gates.Gates.sum.Goals as goal
use Rattle.px_gates.proofs.gates.Gates.sum.Goals.{In-None, In-Some}

-- this turn's bits are those of the place
turn : (c : In-Some) → (length c.loop-x_bit.yielded < length c.args.x.now) × (length c.loop-x_bit.yielded < length c.args.y.now)
    × (c.in-Some.x_bit.now ≡ get_or c.args.x.now (length c.loop-x_bit.yielded) 0) × (c.in-Some.y_bit.now ≡ get_or c.args.y.now (length c.loop-x_bit.yielded) 0)
turn c =
    let t = zip_turn c.args.x.now c.args.y.now c.loop-x_bit.yielded c.into_iter-x_bit-iterator.result c.loop-x_bit.x_bit-iterator c.next.new.self c.next.result (cc) (cc) c.loop-x_bit.yielded_by (c.in-Some.x_bit, c.in-Some.y_bit) c.in-Some.is c.next.ensures.steps in
    (t.0, t.1, t.2 0, t.3 0)

pub full_adder-requires-clause-few : goal.full_adder-requires-clause-few
full_adder-requires-clause-few c =
    let t = turn (goal.at.full_adder-requires-clause-few c).In-Some in
    let vars = c.loop-x_bit.invariant.added.vars in
    let few = c.requires.few in
    omega (arith, t.0)

pub full_adder-requires-clause-over : goal.full_adder-requires-clause-over
full_adder-requires-clause-over c =
    let t = turn (goal.at.full_adder-requires-clause-over c).In-Some in
    adder_over c.args.self.now c.args.x.now c.args.y.now c.args.carry (length c.loop-x_bit.yielded) c.loop-x_bit.self c.loop-x_bit.bits.items c.loop-x_bit.carry c.in-Some.x_bit.now c.in-Some.y_bit.now
    c.loop-x_bit.invariant.added c.requires.x_over c.requires.y_over t.0 t.1 t.2 t.3

pub loop-x_bit-init : goal.loop-x_bit-init
loop-x_bit-init c = record {
  added = subst (λ bits. HasAdded c.args.self.now c.args.x.now c.args.y.now c.args.carry 0 c.args.self.now bits c.args.carry) (sym c.in_ok-bits.ensures.items)
      (HasAdded-none c.args.self.now c.args.x.now c.args.y.now c.args.carry c.requires.carry_over.0);
  filled = c.in_ok-bits.ensures.len;
  room = c.in_ok-bits.ensures.capacity;
}

pub loop-x_bit-preserved : goal.loop-x_bit-preserved
loop-x_bit-preserved c =
    let k = length c.loop-x_bit.yielded in
    let one = length_push c.loop-x_bit.yielded (c.in-Some.x_bit, c.in-Some.y_bit) in
    let t = turn (goal.at.loop-x_bit-preserved c).In-Some in
    let added = HasAdded-more c.args.self.now c.args.x.now c.args.y.now c.args.carry k c.loop-x_bit.self c.loop-x_bit.bits.items c.loop-x_bit.carry c.in-Some.x_bit.now c.in-Some.y_bit.now
    c.in_ok-bit.bit c.in_ok-bit.above c.full_adder.new.self c.loop-x_bit.invariant.added t.0 t.1 t.2 t.3 c.in_ok-bit.ensures.bit c.in_ok-bit.ensures.carry c.in_ok-bit.ensures.made in
    record {
      added = rw (one, c.push_reserved.ensures.items) added;
      filled = let before = c.loop-x_bit.invariant.filled in let now = c.push_reserved.ensures.len in omega arith;
      room = let before = c.loop-x_bit.invariant.room in let now = c.push_reserved.ensures.capacity in omega arith;
    }

pub push_reserved-requires : goal.push_reserved-requires
push_reserved-requires c =
    let t = turn (goal.at.push_reserved-requires c).In-Some in
    let filled = c.loop-x_bit.invariant.filled in
    let room = c.loop-x_bit.invariant.room in
    omega (arith, t.0)

-- the loop went over all places
all : (c : In-None) → drop (length c.loop-x_bit.yielded) c.args.x.now ≡ []
all c =
    let n = zip_end c.args.x.now c.args.y.now c.loop-x_bit.yielded c.into_iter-x_bit-iterator.result c.loop-x_bit.x_bit-iterator c.next.new.self c.next.result (cc) (cc) c.loop-x_bit.yielded_by c.in-None.is c.next.ensures.steps in
    drop_of_length-le c.args.x.now (omega (arith, n, c.requires.width))

whole : (c : In-None) → (c.loop-x_bit.bits.items ≡ sum_bits c.args.self.now.vars (length c.args.x.now))
    × (c.loop-x_bit.carry ≡ sum_carry c.args.self.now.vars (length c.args.x.now) c.args.carry)
    × (c.loop-x_bit.self ≡ with_circuit c.args.self.now (sum_circuit c.args.self.now.vars c.args.x.now c.args.y.now c.args.carry))
whole c =
    HasAdded-all c.args.self.now c.args.x.now c.args.y.now c.args.carry (length c.loop-x_bit.yielded) c.loop-x_bit.self c.loop-x_bit.bits.items c.loop-x_bit.carry c.loop-x_bit.invariant.added (all c)

pub returns-clause-bits : goal.returns-clause-bits
returns-clause-bits c = (whole c).0

pub returns-clause-carry : goal.returns-clause-carry
returns-clause-carry c = (whole c).1

pub returns-clause-made : goal.returns-clause-made
returns-clause-made c = (whole c).2
