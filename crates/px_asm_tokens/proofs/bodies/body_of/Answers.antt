use Rattle.std.proofs.Common.{◌≡◌, subst, refl}
use Rattle.std.specs.List.{AllZip}
use Rattle.px_asm_described.specs.Describes.{raw_clause}
use Rattle.px_asm_law_written.specs.Holds.{IsInstrIn}
use Rattle.px_asm_tokens.proofs.BodyFormed.{all_encodable, is_body}
use Rattle.px_asm_tokens.proofs.bodies.body_of.Goals as goal

pub returns : goal.returns
returns c =
    let p = c.args.rows.now in
    let s = c.raws_of.new.store in
    let method = c.args.method.now in
    let code = subst (λ xs. AllZip (IsInstrIn p s) xs c.in_ok-code.code) c.as_slice.ensures c.in_ok-code.ensures.are in
    let clauses = subst (λ xs. AllZip (λ clause raw. raw ≡ raw_clause p clause) xs c.in_ok-clauses.clauses) c.as_slice-2.ensures c.in_ok-clauses.ensures in
    record {
      is = is_body p s c.args.row method _ c.requires.code c.requires.formed c.requires.clauses refl refl code clauses;
      encodable = all_encodable p s method.code c.in_ok-code.code code;
      grows = c.in_ok-code.ensures.grows;
      kept = c.in_ok-code.ensures.kept;
    }
