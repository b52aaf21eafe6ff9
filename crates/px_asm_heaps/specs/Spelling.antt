-- The types and signatures that are written (Partition II, 23.2).
use Rattle.std.specs.Prelude.{◌≡◌, ℕ, ◌/◌, ◌^◌, ◌==◌, ◌||◌, Bool, true, false}
use Rattle.std.specs.List.{list_all}
use Rattle.px_sig.specs.declared.sig.MethodSig.{MethodSig}
use Rattle.px_sig.specs.declared.sig.SigLeaf.{SigLeaf}
use Rattle.px_sig.specs.declared.sig.SigLeaf.TheVariants.{Class, Other}
use Rattle.px_sig.specs.declared.sig.SigType.{SigType}

-- the token of a row of TypeRef, TypeDef or TypeSpec
abbrev pub is_class_token : ℕ → Bool
is_class_token at = (at / 2 ^ 24 == 0x01) || (at / 2 ^ 24 == 0x02) || (at / 2 ^ 24 == 0x1B)

-- a leaf of a form that is written: all its parts are known
abbrev pub is_leaf_spelled : SigLeaf → Bool
is_leaf_spelled (Class at) = is_class_token at
is_leaf_spelled Other = false
is_leaf_spelled _ = true

-- a type of a form that is written
abbrev pub is_spelled : SigType → Bool
is_spelled type = is_leaf_spelled type.leaf

-- a plain signature whose types are written
pub record IsSpelledSig (sig : MethodSig) : Type 0 where
  pub plain : sig.plain ≡ true
  pub ret : is_spelled sig.ret ≡ true
  pub params : list_all is_spelled sig.params ≡ true
