use Rattle.std.proofs.Common.{◌≡◌, ◌≤◌, ◌<◌, ◌+◌, ◌-◌, ◌*◌, ◌^◌, ℕ, length, drop, subst, sym, arith, ◌∙◌, length-drop}
use Rattle.std.proofs.lemmas.List.{get_or-drop}
use Rattle.std.specs.Prelude.{slice_index}
use Rattle.byteorder.specs.Endian.{little_from}
use Rattle.byteorder.specs.Numbers.{little_from-lt, little_from-take}
use Rattle.px_code.proofs.Little.{byte_bits, little_is}
use Rattle.px_code.proofs.bytes.number_at.Goals as goal

pub returns-clause-number : goal.returns-clause-number
returns-clause-number c =
    c.read_uint.ensures
    ∙ little_from-take 0 c.args.size (length c.args.bytes.now - c.args.at) (drop c.args.at c.args.bytes.now) (omega (arith, c.requires.inside))
    ∙ little_is c.args.size (drop c.args.at c.args.bytes.now) (omega (arith, length-drop {A = ℕ}, c.requires.inside))

pub returns-clause-bound : goal.returns-clause-bound
returns-clause-bound c =
    let bytes = drop c.args.at c.args.bytes.now in
    let read : c.read_uint.result ≡ little_from 0 c.args.size bytes =
    c.read_uint.ensures ∙ little_from-take 0 c.args.size (length c.args.bytes.now - c.args.at) bytes (omega (arith, c.requires.inside)) in
    let each : (k : ℕ) → slice_index bytes k < 256 =
    λ k. subst (λ byte. byte < 256) (sym (get_or-drop c.args.at c.args.bytes.now k 0)) (omega (arith, c.type_inv.bytes (c.args.at + k))) in
    subst (λ most. c.read_uint.result < most) (byte_bits c.args.size)
    (subst (λ n. n < 256 ^ c.args.size) (sym read) (little_from-lt 0 c.args.size bytes each))
