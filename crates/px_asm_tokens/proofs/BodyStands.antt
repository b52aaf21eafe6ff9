-- A body that was added stands at its address.
use Rattle.std.proofs.Common.{◌≡◌, ◌≢◌, ℕ, ◌+◌, ◌<◌, List, [], ◌∷◌, ◌++◌, Some, Result, Ok, Err, length, drop, refl, sym, ap, ◌∙◌, arith, length-append, append-nil, get_or}
use Rattle.std.specs.Prelude.{IfOk, OnOk, slice_get}
use Rattle.std.proofs.lemmas.Option.{get_or_from_slice_get}
use Rattle.px_code.specs.Body.{body_of}
use Rattle.px_code.specs.declared.body.Body.{Body}
use Rattle.px_asm_image.specs.Image.{first_body}
use Rattle.px_program.specs.declared.instr.Instr.{Instr}
use Rattle.px_program.specs.declared.program.Method.{Method}
use Rattle.px_program.specs.declared.program.Program.{Program}
use Rattle.px_asm_law_written.specs.Holds.{HasBodyAt, HasCode, IsAddress, IsBodyIn}
use Rattle.px_asm_law_written.specs.Store.{Store}

-- nothing reads as a body
some_bytes : (bytes : List ℕ) (body : Body) → body_of bytes ≡ Ok body → 0 < length bytes
unfolding body_of
some_bytes [] body reads = absurd (cc)
some_bytes (byte ∷ bytes) body reads = omega arith

drop-front : (xs ys : List ℕ) → drop (length xs) (xs ++ ys) ≡ ys
drop-front [] ys = refl
drop-front (x ∷ xs) ys = drop-front xs ys

module _ (p : Program) (s : Store) (row : ℕ) (method : Method) (body : Body) (is : IsBodyIn p s row method body) where
  has_body : (old new bytes : List ℕ) → new ≡ old ++ bytes → ((rest : List ℕ) → body_of (bytes ++ rest) ≡ Ok body) → HasBodyAt p s new row method (length old)
  has_body old new bytes added reads = record {
    within = omega (arith, ap length added, length-append old bytes, some_bytes bytes body (ap body_of (sym (append-nil bytes)) ∙ reads []));
    body = body;
    read = λ rest. ap (λ xs. body_of (drop (length old) xs ++ rest)) added ∙ ap (λ xs. body_of (xs ++ rest)) (drop-front old bytes) ∙ reads rest;
    is = is;
  }

  by_code : (bodies : List ℕ) (code : List Instr) (address : ℕ) → code ≢ [] → HasCode p s bodies row method address → IsAddress p s bodies row method code address
  by_code bodies [] address some has = absurd (some refl)
  by_code bodies (instr ∷ instrs) address some has = has

  pub added_at : {E : Type 0} (old new bytes : List ℕ) (result : Result ℕ E) → method.code ≢ [] → ((rest : List ℕ) → body_of (bytes ++ rest) ≡ Ok body) → OnOk result (new ≡ old ++ bytes) → IfOk result (λ address. address ≡ first_body + length old)
      → IfOk result (IsAddress p s new row method method.code)
  added_at old new bytes (Ok address) some reads added at = by_code new method.code address some (record { at = length old; is = at; body = has_body old new bytes added reads })
  added_at old new bytes (Err e) some reads added at = tt

-- the item that was read
pub read_there : {X : Type 0} (xs ys : List X) (i : ℕ) (x y : X) → xs ≡ ys → slice_get ys i ≡ Some y → x ≡ get_or xs i x → x ≡ y
read_there xs ys i x y same at is = is ∙ ap (λ l. get_or l i x) same ∙ get_or_from_slice_get ys i y x at
