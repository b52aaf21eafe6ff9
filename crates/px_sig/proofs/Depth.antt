-- A type is read as its first byte and what stands behind it, however deep it is nested.
use Rattle.std.proofs.Common.{◌≡◌, ℕ, zero, suc, ◌+◌, ◌≤◌, List, ◌∷◌, length, Result, Ok, Err, Bool, true, false, Option, Some, None, refl, sym, ap, ◌∙◌, subst, arith}
use Rattle.std.specs.Prelude.{nat_lt, if◌then◌else◌}
use Rattle.std.proofs.lemmas.Bool.{le-ltb}
use Rattle.px_blobs.specs.Items.{Compressed, compressed_at}
use Rattle.px_reading.specs.Reading.{Read, ◌>>=◌}
use Rattle.px_sig.specs.Grammar.{byte_at, byte_where, form_at, form_of, front_at, generic_at, is_callee_kind, is_generic, is_named, known, many, method_at, nested_type_at, number_at, number_behind, numbers_at, other, shape_at, token_at, token_of, type_at, type_behind}
use Rattle.px_sig.specs.declared.form.Form.{Form}
use Rattle.px_sig.specs.declared.form.Form.TheVariants.{Alone, Class, Value, Variable, Modifier, Pinned, Array, Outer, General, Instance, Function}
use Rattle.px_sig.specs.declared.sig.SigType.{SigType}
use Rattle.px_sig.specs.declared.sig.MethodSig.{MethodSig}

-- what is read ends at the place or later
abbrev pub Grown : {A : Type 0} → (A → ℕ) → ℕ → Result A ℕ → Type 0
Grown {A} end at r = (x : A) → r ≡ Ok x → at ≤ end x

abbrev end_of : {X : Type 0} → Read X → ℕ
end_of x = x.end

abbrev here : ℕ → ℕ
here at = at

then_grown : {A B : Type 0} (a : A → ℕ) (b : B → ℕ) (at : ℕ) (r : Result A ℕ) (f : A → Result B ℕ) → Grown a at r → ((x : A) → Grown b (a x) (f x)) → Grown b at (r >>= f)
then_grown a b at (Ok x) f first next y is = let p = first x refl in let q = next x y is in omega (arith, p, q)
then_grown a b at (Err place) f first next y is = absurd (cc)

made_grown : {A : Type 0} (a : A → ℕ) (at : ℕ) (x : A) → at ≤ a x → Grown a at (Ok x)
made_grown a at x le y is = let same : x ≡ y = cc in subst (λ z. at ≤ a z) same le

pub then_same : {A B : Type 0} (r : Result A ℕ) (f g : A → Result B ℕ) → ((x : A) → r ≡ Ok x → f x ≡ g x) → (r >>= f) ≡ (r >>= g)
then_same (Ok x) f g same = same x refl
then_same (Err at) f g same = refl

known_grown : {X : Type 0} (o : Option X) (end at : ℕ) → Grown end_of end (known o end at)
known_grown (Some x) end at = made_grown end_of end _ (omega arith)
known_grown None end at = λ y is. absurd (cc)

test_grown : {A : Type 0} (a : A → ℕ) (at place : ℕ) (b : Bool) (r : Result A ℕ) → Grown a at r → Grown a at (if b then r else Err place)
test_grown a at place true r grown = grown
test_grown a at place false r grown = λ y is. absurd (cc)

byte_grown : (blob : List ℕ) (at : ℕ) → Grown end_of (at + 1) (byte_at blob at)
unfolding byte_at
byte_grown blob at = test_grown end_of (at + 1) at (nat_lt at (length blob)) _ (made_grown end_of (at + 1) _ (omega arith))

form_grown : (blob : List ℕ) (at : ℕ) → Grown end_of (at + 1) (form_at blob at)
unfolding form_at
form_grown blob at = then_grown end_of end_of (at + 1) (byte_at blob at) _ (byte_grown blob at) (λ code. known_grown (form_of code.value) code.end at)

where_grown : (test : ℕ → Bool) (blob : List ℕ) (at : ℕ) → Grown end_of at (byte_where test blob at)
unfolding byte_where
where_grown test blob at =
    then_grown end_of end_of at (byte_at blob at) _ (λ x is. omega (arith, byte_grown blob at x is))
    (λ byte. test_grown end_of byte.end at (test byte.value) (Ok byte) (made_grown end_of byte.end byte (omega arith)))

number_grown : (blob : List ℕ) (at : ℕ) → Grown end_of at (number_at blob at)
unfolding number_at
number_grown blob at = by_number (compressed_at blob at)
  where
    by_number : (o : Option Compressed) → Grown end_of at (number_behind o at)
    by_number (Some c) = made_grown end_of at _ (omega arith)
    by_number None = λ y is. absurd (cc)

token_grown : (blob : List ℕ) (at : ℕ) → Grown end_of at (token_at blob at)
unfolding token_at
token_grown blob at = then_grown end_of end_of at (number_at blob at) _ (number_grown blob at) (λ index. known_grown (token_of index.value) index.end at)

-- so many readings
many_grown : {X : Type 0} (read : ℕ → Result (Read X) ℕ) → ((at : ℕ) → Grown end_of at (read at)) → (count at : ℕ) → Grown end_of at (many read count at)
many_grown read grown zero at = made_grown end_of at _ (omega arith)
many_grown {X} read grown (suc count) at = each (many_grown read grown count)
  where
    each : ((place : ℕ) → Grown end_of place (many read count place)) → Grown end_of at (many read (suc count) at)
    each later =
        then_grown end_of end_of at (read at) _ (grown at)
        (λ first. then_grown end_of end_of first.end (many read count first.end) _ (later first.end) (λ others. made_grown end_of others.end _ (omega arith)))

numbers_grown : (blob : List ℕ) (at : ℕ) → Grown end_of at (numbers_at blob at)
unfolding numbers_at
numbers_grown blob at = then_grown end_of end_of at (number_at blob at) _ (number_grown blob at) (λ count. many_grown (number_at blob) (number_grown blob) count.value count.end)

shape_grown : (blob : List ℕ) (at : ℕ) → Grown here at (shape_at blob at)
unfolding shape_at
shape_grown blob at =
    then_grown end_of here at (number_at blob at) _ (number_grown blob at)
    (λ rank. then_grown end_of here rank.end (numbers_at blob rank.end) _ (numbers_grown blob rank.end)
    (λ sizes. then_grown end_of here sizes.end (numbers_at blob sizes.end) _ (numbers_grown blob sizes.end) (λ bounds. made_grown here bounds.end bounds.end (omega arith))))

generic_grown : (kind : ℕ) (blob : List ℕ) (at : ℕ) → Grown here at (generic_at kind blob at)
unfolding generic_at
generic_grown kind blob at = by_test (is_generic kind)
  where
    by_test : (b : Bool) → Grown here at (if b then (number_at blob at >>= λ count. Ok count.end) else Ok at)
    by_test true = then_grown end_of here at (number_at blob at) _ (number_grown blob at) (λ count. made_grown here count.end count.end (omega arith))
    by_test false = made_grown here at at (omega arith)

front_grown : (test : ℕ → Bool) (blob : List ℕ) (at : ℕ) → Grown end_of at (front_at test blob at)
unfolding front_at
front_grown test blob at =
    then_grown end_of end_of at (byte_where test blob at) _ (where_grown test blob at)
    (λ kind. then_grown here end_of kind.end (generic_at kind.value blob kind.end) _ (generic_grown kind.value blob kind.end)
    (λ start. then_grown end_of end_of start (number_at blob start) _ (number_grown blob start) (λ count. made_grown end_of count.end _ (omega arith))))

-- the types that lie in a type are read from places behind it
method_grown : (test : ℕ → Bool) (type : ℕ → Result (Read SigType) ℕ) (blob : List ℕ) → ((at : ℕ) → Grown end_of at (type at)) → (at : ℕ) → Grown end_of at (method_at test type blob at)
unfolding method_at
method_grown test type blob grown at =
    then_grown end_of end_of at (front_at test blob at) _ (front_grown test blob at)
    (λ front. then_grown end_of end_of front.end (type front.end) _ (grown front.end)
    (λ ret. then_grown end_of end_of ret.end (many type front.value.count ret.end) _ (many_grown type grown front.value.count ret.end) (λ params. made_grown end_of params.end _ (omega arith))))

other_grown : (at : ℕ) → Grown end_of at (other at)
other_grown at = made_grown end_of at _ (omega arith)

behind_grown : (type : ℕ → Result (Read SigType) ℕ) (blob : List ℕ) → ((at : ℕ) → Grown end_of at (type at)) → (form : Form) (at : ℕ) → Grown end_of at (type_behind type blob form at)
unfolding type_behind
behind_grown type blob grown (Alone itself) at = made_grown end_of at _ (omega arith)
behind_grown type blob grown Class at = then_grown end_of end_of at (token_at blob at) _ (token_grown blob at) (λ token. made_grown end_of token.end _ (omega arith))
behind_grown type blob grown Value at = then_grown end_of end_of at (token_at blob at) _ (token_grown blob at) (λ token. other_grown token.end)
behind_grown type blob grown Variable at = then_grown end_of end_of at (number_at blob at) _ (number_grown blob at) (λ number. other_grown number.end)
behind_grown type blob grown Modifier at = then_grown end_of end_of at (token_at blob at) _ (token_grown blob at) (λ token. grown token.end)
behind_grown type blob grown Pinned at = grown at
behind_grown type blob grown Array at = then_grown end_of end_of at (type at) _ (grown at) (λ element. made_grown end_of element.end _ (omega arith))
behind_grown type blob grown Outer at = then_grown end_of end_of at (type at) _ (grown at) (λ inner. other_grown inner.end)
behind_grown type blob grown General at =
    then_grown end_of end_of at (type at) _ (grown at) (λ element. then_grown here end_of element.end (shape_at blob element.end) _ (shape_grown blob element.end) (λ end. other_grown end))
behind_grown type blob grown Instance at =
    then_grown end_of end_of at (byte_where is_named blob at) _ (where_grown is_named blob at)
    (λ code. then_grown end_of end_of code.end (token_at blob code.end) _ (token_grown blob code.end)
    (λ token. then_grown end_of end_of token.end (number_at blob token.end) _ (number_grown blob token.end)
    (λ count. then_grown end_of end_of count.end (many type count.value count.end) _ (many_grown type grown count.value count.end) (λ arguments. other_grown arguments.end))))
behind_grown type blob grown Function at = then_grown end_of end_of at (method_at is_callee_kind type blob at) _ (method_grown is_callee_kind type blob grown at) (λ method. other_grown method.end)

pub type_grown : (depth : ℕ) (blob : List ℕ) (at : ℕ) → Grown end_of at (nested_type_at depth blob at)
type_grown zero blob at = λ y is. absurd (cc)
type_grown (suc depth) blob at =
    let inner = behind_grown (nested_type_at depth blob) blob (type_grown depth blob) in
    then_grown end_of end_of at (form_at blob at) _ (λ x is. omega (arith, form_grown blob at x is)) (λ form. inner form.value form.end)

-- two readings that agree from a place on
abbrev Agree : {X : Type 0} → ℕ → (ℕ → Result (Read X) ℕ) → (ℕ → Result (Read X) ℕ) → Type 0
Agree from f g = (at : ℕ) → from ≤ at → f at ≡ g at

-- the same reading first, and then the same from a place on
past_same : {A B : Type 0} (a : A → ℕ) (from at : ℕ) (r : Result A ℕ) (f g : A → Result B ℕ) → Grown a at r → from ≤ at → ((x : A) → from ≤ a x → f x ≡ g x) → (r >>= f) ≡ (r >>= g)
past_same a from at r f g grown le next = then_same r f g (λ x is. let more = grown x is in next x (omega (arith, more)))

-- two readings that agree first, and then the same from a place on
after_same : {X B : Type 0} (from : ℕ) (type other' : ℕ → Result (Read X) ℕ) → ((at : ℕ) → Grown end_of at (type at)) → Agree from type other'
    → (at : ℕ) (f g : Read X → Result B ℕ) → from ≤ at → ((x : Read X) → from ≤ x.end → f x ≡ g x) → (type at >>= f) ≡ (other' at >>= g)
after_same from type other' grown agree at f g le next = past_same end_of from at (type at) f g (grown at) le next ∙ ap (λ r. r >>= g) (agree at le)

many_same : {X : Type 0} (from : ℕ) (type other' : ℕ → Result (Read X) ℕ) → ((at : ℕ) → Grown end_of at (type at)) → Agree from type other'
    → (count at : ℕ) → from ≤ at → many type count at ≡ many other' count at
many_same from type other' grown agree zero at le = refl
many_same {X} from type other' grown agree (suc count) at le = each (many_same from type other' grown agree count)
  where
    each : ((place : ℕ) → from ≤ place → many type count place ≡ many other' count place) → many type (suc count) at ≡ many other' (suc count) at
    each later =
        after_same from type other' grown agree at _ _ le
        (λ first more. ap (λ (r : Result (Read (List X)) ℕ). r >>= λ others. Ok (record { value = first.value ∷ others.value; end = others.end })) (later first.end more))

method_same : (test : ℕ → Bool) (from : ℕ) (type other' : ℕ → Result (Read SigType) ℕ) (blob : List ℕ) → ((at : ℕ) → Grown end_of at (type at)) → Agree from type other'
    → (at : ℕ) → from ≤ at → method_at test type blob at ≡ method_at test other' blob at
unfolding method_at
method_same test from type other' blob grown agree at le =
    past_same end_of from at (front_at test blob at) _ _ (front_grown test blob at) le
    (λ front more. after_same from type other' grown agree front.end _ _ more
    (λ ret enough'. ap (λ (r : Result (Read (List SigType)) ℕ). r >>= λ params.
    Ok (record { value = record { has_this = front.value.has_this; plain = front.value.plain; ret = ret.value; params = params.value }; end = params.end }))
    (many_same from type other' grown agree front.value.count ret.end enough')))

behind_same : (from : ℕ) (type other' : ℕ → Result (Read SigType) ℕ) (blob : List ℕ) → ((at : ℕ) → Grown end_of at (type at)) → Agree from type other'
    → (form : Form) (at : ℕ) → from ≤ at → type_behind type blob form at ≡ type_behind other' blob form at
unfolding type_behind
behind_same from type other' blob grown agree (Alone itself) at le = refl
behind_same from type other' blob grown agree Class at le = refl
behind_same from type other' blob grown agree Value at le = refl
behind_same from type other' blob grown agree Variable at le = refl
behind_same from type other' blob grown agree Modifier at le = past_same end_of from at (token_at blob at) _ _ (token_grown blob at) le (λ token more. agree token.end more)
behind_same from type other' blob grown agree Pinned at le = agree at le
behind_same from type other' blob grown agree Array at le = after_same from type other' grown agree at _ _ le (λ x more. refl)
behind_same from type other' blob grown agree Outer at le = after_same from type other' grown agree at _ _ le (λ x more. refl)
behind_same from type other' blob grown agree General at le = after_same from type other' grown agree at _ _ le (λ x more. refl)
behind_same from type other' blob grown agree Instance at le =
    past_same end_of from at (byte_where is_named blob at) _ _ (where_grown is_named blob at) le
    (λ code more. past_same end_of from code.end (token_at blob code.end) _ _ (token_grown blob code.end) more
    (λ token more'. past_same end_of from token.end (number_at blob token.end) _ _ (number_grown blob token.end) more'
    (λ count more''. ap (λ (r : Result (Read (List SigType)) ℕ). r >>= λ arguments. other arguments.end) (many_same from type other' grown agree count.value count.end more''))))
behind_same from type other' blob grown agree Function at le = ap (λ (r : Result (Read MethodSig) ℕ). r >>= λ method. other method.end) (method_same is_callee_kind from type other' blob grown agree at le)

-- no type is nested deeper than there are bytes left
enough : (depth : ℕ) (blob : List ℕ) (at : ℕ) → length blob ≤ at + depth → nested_type_at (suc depth) blob at ≡ nested_type_at depth blob at
unfolding form_at byte_at
enough zero blob at room = let none : length blob ≤ at = omega arith in rw (le-ltb at (length blob) none) refl
enough (suc depth) blob at room =
    then_same (form_at blob at) _ _
    (λ form is. behind_same (at + 1) (nested_type_at (suc depth) blob) (nested_type_at depth blob) blob (type_grown (suc depth) blob) (λ place later. enough depth blob place (omega (arith, later))) form.value form.end (form_grown blob at form is))

-- a type is its first byte and what stands behind it
pub unroll : (blob : List ℕ) (at : ℕ) → type_at blob at ≡ form_at blob at >>= λ form. type_behind (type_at blob) blob form.value form.end
unroll blob at = sym (enough (length blob) blob at (omega arith))
