use Rattle.std.proofs.Common.{refl}
use Rattle.px_asm_described.specs.Describes.{IsTypeOf}
use Rattle.px_sig.specs.declared.sig.Integer.TheVariants as integers
use Rattle.px_asm_store.proofs.places.leaf_type.Goals as goal

pub returns-in-Bool-clause-is : goal.returns-in-Bool-clause-is
returns-in-Bool-clause-is c = IsTypeOf.IsNumber integers.Bool _ _ c.in-Bool.is refl

pub returns-in-Char-clause-is : goal.returns-in-Char-clause-is
returns-in-Char-clause-is c = IsTypeOf.IsNumber integers.Char _ _ c.in-Char.is refl

pub returns-in-I1-clause-is : goal.returns-in-I1-clause-is
returns-in-I1-clause-is c = IsTypeOf.IsNumber integers.I1 _ _ c.in-I1.is refl

pub returns-in-U1-clause-is : goal.returns-in-U1-clause-is
returns-in-U1-clause-is c = IsTypeOf.IsNumber integers.U1 _ _ c.in-U1.is refl

pub returns-in-I2-clause-is : goal.returns-in-I2-clause-is
returns-in-I2-clause-is c = IsTypeOf.IsNumber integers.I2 _ _ c.in-I2.is refl

pub returns-in-U2-clause-is : goal.returns-in-U2-clause-is
returns-in-U2-clause-is c = IsTypeOf.IsNumber integers.U2 _ _ c.in-U2.is refl

pub returns-in-I4-clause-is : goal.returns-in-I4-clause-is
returns-in-I4-clause-is c = IsTypeOf.IsNumber integers.I4 _ _ c.in-I4.is refl

pub returns-in-U4-clause-is : goal.returns-in-U4-clause-is
returns-in-U4-clause-is c = IsTypeOf.IsNumber integers.U4 _ _ c.in-U4.is refl

pub returns-in-I8-clause-is : goal.returns-in-I8-clause-is
returns-in-I8-clause-is c = IsTypeOf.IsNumber integers.I8 _ _ c.in-I8.is refl

pub returns-in-U8-clause-is : goal.returns-in-U8-clause-is
returns-in-U8-clause-is c = IsTypeOf.IsNumber integers.U8 _ _ c.in-U8.is refl

pub returns-in-N-clause-is : goal.returns-in-N-clause-is
returns-in-N-clause-is c = IsTypeOf.IsNumber integers.N _ _ c.in-N.is refl

pub returns-in-UN-clause-is : goal.returns-in-UN-clause-is
returns-in-UN-clause-is c = IsTypeOf.IsNumber integers.UN _ _ c.in-UN.is refl
