-- References to members: the checks come first, and constructors of the library behind them.
use Rattle.std.proofs.Common.{◌≢◌, ℕ, zero, suc, List, [], ◌∷◌, ◌++◌, refl, arith}
use Rattle.std.specs.Char.{encode_utf8}
use Rattle.std.specs.List.{AllByRecursion}
use Rattle.std.specs.Prelude.{All, codes}
use Rattle.px_asm_described.specs.Describes.{IsText}
use Rattle.px_asm_heaps.specs.Heaps.{HasBlob, HasString}
use Rattle.px_asm_heaps.specs.Numbers.{number_bytes}
use Rattle.px_asm_heaps.proofs.Stands.{blob_stands}
use Rattle.px_sig.specs.Grammar.{method_sig}
use Rattle.px_asm_law_written.specs.Store.{HasSig, check_sig, constructor_sig, HasChecks, Store}
use Rattle.px_asm_law_written.specs.Tokens.{HasConstructor}
use Rattle.px_program.specs.declared.program.Place.TheVariants.{Ref}
use Rattle.px_tables.specs.declared.tables.Row.{Row}
use Rattle.px_facts_asm.proofs.ExampleProgram.{example}
use Rattle.px_facts_link.proofs.SigWords.{grammar, string}

-- what holds of each element holds of all
all_of : {X : Type 0} (Is : X → Type 0) (xs : List X) → AllByRecursion Is xs → All Is xs
all_of Is [] each k d less = absurd (omega arith)
all_of Is (x ∷ xs) each zero d less = each.0
all_of Is (x ∷ xs) each (suc k) d less = all_of Is xs each.1 k d (omega arith)

-- a row of MemberRef, by its parent, the place of its name, and that of its signature
abbrev reference : ℕ → ℕ → ℕ → Row
reference parent name sig = record { cells = parent ∷ name ∷ sig ∷ 0 ∷ 0 ∷ 0 ∷ 0 ∷ 0 ∷ 0 ∷ [] }

abbrev takes_bool : List ℕ
takes_bool = 0x00 ∷ 0x01 ∷ 0x01 ∷ 0x02 ∷ []

abbrev takes_text : List ℕ
takes_text = 0x20 ∷ 0x01 ∷ 0x01 ∷ 0x0E ∷ []

-- IsTrue stands at 1, and .ctor at 8; the signatures at 1 and 6
abbrev store : Store
store = record {
  strings = 0 ∷ codes "IsTrue" ++ 0 ∷ codes ".ctor" ++ 0 ∷ [];
  texts = 0 ∷ [];
  blob = 0 ∷ 4 ∷ takes_bool ++ 4 ∷ takes_text;
  references = reference 153 1 1 ∷ reference 161 1 1 ∷ reference 17 8 6 ∷ [];
}

is_true : HasString store.strings 1 (codes "IsTrue")
unfolding encode_utf8
is_true rest = record {
  rest = codes ".ctor" ++ 0 ∷ rest;
  stands = refl;
  no_zero = all_of (λ (byte : ℕ). byte ≢ 0) (codes "IsTrue")
      ((λ e. omega arith), ((λ e. omega arith), ((λ e. omega arith), ((λ e. omega arith), ((λ e. omega arith), ((λ e. omega arith), tt))))));
  utf8 = (codes "IsTrue", (refl, refl));
}

constructor : HasString store.strings 8 (codes ".ctor")
unfolding encode_utf8
constructor rest = record {
  rest = rest;
  stands = refl;
  no_zero = all_of (λ (byte : ℕ). byte ≢ 0) (codes ".ctor")
      ((λ e. omega arith), ((λ e. omega arith), ((λ e. omega arith), ((λ e. omega arith), ((λ e. omega arith), tt)))));
  utf8 = (codes ".ctor", (refl, refl));
}

takes_bool_at_1 : HasBlob store.blob 1 takes_bool
unfolding number_bytes
takes_bool_at_1 rest = blob_stands (0 ∷ 4 ∷ takes_bool) (0 ∷ []) takes_bool 1 refl refl (omega arith) (4 ∷ takes_text ++ rest)

takes_text_at_6 : HasBlob store.blob 6 takes_text
unfolding number_bytes
takes_text_at_6 = blob_stands store.blob (0 ∷ 4 ∷ takes_bool) takes_text 6 refl refl (omega arith)

sig_of_checks : HasSig method_sig store.blob 1 check_sig
unfolding grammar
sig_of_checks = record { blob = takes_bool; stands = takes_bool_at_1; reads = refl }

sig_of_constructor : HasSig method_sig store.blob 6 (constructor_sig (string ∷ []))
unfolding grammar
sig_of_constructor = record { blob = takes_text; stands = takes_text_at_6; reads = refl }

-- PexAssume and PexAssert have the rows 19 and 20 of TypeRef
the_checks : HasChecks store
the_checks = record {
  assume = reference 153 1 1;
  assert = reference 161 1 1;
  others = reference 17 8 6 ∷ [];
  are = refl;
  assume_is = record { parent_is = refl; name_is = is_true; sig_is = sig_of_checks; zeros = refl };
  assert_is = record { parent_is = refl; name_is = is_true; sig_is = sig_of_checks; zeros = refl };
}

-- the constructor of `System.Exception`, which has row 2 of TypeRef, that takes a string: a body that takes the type before gives 9 for its parent
the_constructor_behind_them : HasConstructor example store 1 (Ref 17 ∷ []) 0x0A00_0003
the_constructor_behind_them = record {
  table = refl;
  n = 2;
  row_is = refl;
  row = reference 17 8 6;
  there = refl;
  is = record {
    types = string ∷ [];
    takes = (IsText _ _ refl refl, tt);
    is = record { parent_is = refl; name_is = constructor; sig_is = sig_of_constructor; zeros = refl };
  };
}
