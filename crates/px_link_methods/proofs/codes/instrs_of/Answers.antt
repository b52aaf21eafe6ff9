use Rattle.std.proofs.Common.{◌≡◌, true, refl}
use Rattle.px_meta.specs.Rows.{is_in}
use Rattle.px_link_reach.specs.Met.{target_of}
use Rattle.px_link_types.specs.Numbers.{is_numbered}
use Rattle.px_link_methods.specs.Codes.{IsInstr}
use Rattle.px_link_methods.specs.Methods.{keys_of_instr}
use Rattle.px_link_methods.proofs.Pieces.{piece_of, zipped_more}
use Rattle.px_link_methods.proofs.codes.instrs_of.Goals as goal

pub code_of-requires-clause-types : goal.code_of-requires-clause-types
code_of-requires-clause-types c =
    piece_of (λ key. is_numbered c.args.types.now.keys key ≡ true) (keys_of_instr c.args.tokens.now) c.args.raws.now c.loop-raw.raw-index c.raw-item.result c.requires.types c.loop-raw-test.true c.raw-item.is

pub code_of-requires-clause-methods : goal.code_of-requires-clause-methods
code_of-requires-clause-methods c =
    piece_of (λ row. is_in c.args.rows.now.keys row ≡ true) (target_of c.args.tokens.now) c.args.raws.now c.loop-raw.raw-index c.raw-item.result c.requires.methods c.loop-raw-test.true c.raw-item.is

pub loop-raw-preserved : goal.loop-raw-preserved
loop-raw-preserved c =
    let pushed = c.in_ok-push.ensures in
    zipped_more (IsInstr c.args.tokens.now (record { keys = c.args.types.now.keys; rows = c.args.rows.now.keys }) c.args.forms.now) c.args.raws.now c.loop-raw.raw-index c.raw-item.result c.loop-raw.instrs.items c.push.new.self.items _
    c.loop-raw.invariant c.loop-raw-test.true c.raw-item.is (record { offset = refl; next = refl; code = c.in_ok-code_of.ensures }) pushed.items
