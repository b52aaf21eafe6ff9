-- What is owed behind the first bytes of generic types and of function pointers leads to their end.
use Rattle.std.proofs.Common.{◌≡◌, ℕ, suc, ◌+◌, List, Result, Ok, Err, false, refl, sym, ◌∙◌, arith}
use Rattle.px_reading.specs.Reading.{Read, ◌>>=◌}
use Rattle.px_sig.specs.Grammar.{Front, byte_where, front_at, is_callee_kind, is_named, many, method_at, number_at, other, plain_type, token_at, type_at, type_behind}
use Rattle.px_sig.specs.Parts.{behind, behind_owed, behind_type, times}
use Rattle.px_sig.specs.declared.form.Form.TheVariants.{Instance, Function}
use Rattle.px_sig.specs.declared.sig.SigLeaf.TheVariants.{Other}
use Rattle.px_sig.specs.declared.sig.SigType.{SigType}
use Rattle.px_sig.specs.declared.sig.MethodSig.{MethodSig}
use Rattle.px_sig.proofs.Many.{times_many, behind_same, and_no_more}

-- the signature of these parts
abbrev finished : Front → SigType → Read (List SigType) → Result (Read MethodSig) ℕ
finished front ret params = Ok (record { value = record { has_this = front.has_this; plain = front.plain; ret = ret; params = params.value }; end = params.end })

pub instance_owed : (blob : List ℕ) (at : ℕ) (kind token count : Read ℕ) → byte_where is_named blob at ≡ Ok kind → token_at blob kind.end ≡ Ok token → number_at blob token.end ≡ Ok count
    → behind (type_behind (type_at blob) blob Instance at) ≡ behind_owed blob (record { types = count.value; shape = false }) count.end
unfolding type_behind behind_owed
instance_owed blob at kind token count a b c =
    rw (a, b, c)
    (behind_same (many (type_at blob) count.value count.end) (λ _. plain_type Other) ∙ times_many (type_at blob) count.value count.end ∙ sym (and_no_more (times (behind_type blob) count.value count.end)))

pub function_owed : (blob : List ℕ) (at : ℕ) (front : Read Front) → front_at is_callee_kind blob at ≡ Ok front
    → behind (type_behind (type_at blob) blob Function at) ≡ behind_owed blob (record { types = front.value.count + 1; shape = false }) front.end
unfolding type_behind behind_owed method_at
function_owed blob at front a =
    let more : front.value.count + 1 ≡ suc front.value.count = omega arith in
    rw (a, more) (by_ret (type_at blob front.end) ∙ sym (and_no_more (times (behind_type blob) (suc front.value.count) front.end)))
  where
    by_params : (p : Result (Read (List SigType)) ℕ) (ret : SigType)
        → behind ((p >>= finished front.value ret) >>= λ method. other method.end) ≡ behind p
    by_params (Ok params) ret = refl
    by_params (Err at) ret = refl

    by_ret : (r : Result (Read SigType) ℕ)
        → behind ((r >>= λ ret. many (type_at blob) front.value.count ret.end >>= finished front.value ret.value) >>= λ method. other method.end)
        ≡ behind r >>= times (behind_type blob) front.value.count
    by_ret (Ok ret) = by_params (many (type_at blob) front.value.count ret.end) ret.value ∙ times_many (type_at blob) front.value.count ret.end
    by_ret (Err at) = refl
