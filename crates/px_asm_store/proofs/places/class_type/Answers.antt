use Rattle.std.proofs.Common.{◌≢◌, refl, ap, ◌∙◌, arith}
use Rattle.px_asm_heaps.specs.Spelling.{is_class_token}
use Rattle.px_program.specs.declared.program.Place.TheVariants as places
use Rattle.px_asm_described.specs.Describes.{IsTypeOf}
use Rattle.px_sig.specs.Grammar.{plain_type}
use Rattle.px_sig.specs.declared.sig.SigLeaf.TheVariants.{Class}
use Rattle.px_asm_store.proofs.PlaceTypes.{class_spelled, is_class, typed}
use Rattle.px_asm_store.proofs.places.class_type.Goals as goal

pub returns-in-0-clause-is : goal.returns-in-0-clause-is
returns-in-0-clause-is c = IsTypeOf.IsObject _ _ (ap (λ n. places.Ref n) c.in-0.is) refl

pub returns-in-17-clause-is : goal.returns-in-17-clause-is
returns-in-17-clause-is c = IsTypeOf.IsText _ _ (ap (λ n. places.Ref n) c.in-17.is) refl

pub returns-in_default-clause-is : goal.returns-in_default-clause-is
returns-in_default-clause-is c =
    let p = c.args.rows.now in
    let class = c.args.class in
    let first : class ≢ 0 = omega arith in
    let last : class ≢ 17 = omega arith in
    IsTypeOf.IsOther class (places.Ref class) _ first last (is_class p class c.requires.room last c.requires.there c.requires.leaf) refl (ap (λ at. plain_type (Class at)) c.class_token.ensures)

pub returns-in_default-clause-spelled : goal.returns-in_default-clause-spelled
returns-in_default-clause-spelled c =
    let p = c.args.rows.now in
    ap is_class_token c.class_token.ensures ∙ class_spelled p c.args.class c.requires.room (typed p c.args.class c.requires.room c.requires.leaf)
