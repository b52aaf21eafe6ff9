-- Methods that share all but their names, and their owners where they are static.
use Rattle.std.proofs.Common.{◌≡◌, ◌⊎◌, inl, inr, ℕ, zero, suc, ◌+◌, ◌<◌, Bool, true, false, cond, List, [], ◌∷◌, ◌++◌, Option, Some, None, take, length, Result, Ok, Err, refl, sym, ap, ◌∙◌, subst, ⊎_elim, arith}
use Rattle.std.specs.Prelude.{not, slice_get, OnOk}
use Rattle.std.specs.BTreeMap.{BTreeMap, Updates, get, is_at}
use Rattle.std.specs.List.{AllZip, zip}
use Rattle.std.specs.Map.{lookup}
use Rattle.std.specs.Ordering.{nat_cmp, ordering_then}
use Rattle.std.specs.declared.cmp.Ordering.{Ordering}
use Rattle.std.specs.declared.cmp.Ordering.TheVariants.{Equal, Greater, Less}
use Rattle.std.proofs.lemmas.Bool.{cases_Bool, cond-false, cond-true}
use Rattle.std.proofs.lemmas.List.{length-take-le, take_more}
use Rattle.std.proofs.lemmas.Map.Lookups.{exact_unsigned}
use Rattle.std.proofs.lemmas.Option.{same_Some}
use Rattle.std.proofs.lemmas.Slice.Zip.{AllZip-long}
use Rattle.px_meta.specs.Members.{method_sig_at, owner_of}
use Rattle.px_meta.specs.Rows.{cell, methods}
use Rattle.px_program.specs.Alike.{renamed}
use Rattle.px_program.specs.declared.program.Method.{Method}
use Rattle.px_link_reach.specs.declared.body.Whole.{Whole}
use Rattle.px_tables.specs.Metadata.{View}
use Rattle.px_link_types.specs.declared.key.Key.{Key}
use Rattle.px_link_methods.specs.Codes.{Numbering, owner_number}
use Rattle.px_link_methods.specs.Methods.{AreByAddress, IsMethod, IsMethodName, sig_at}
use Rattle.px_link_methods.specs.Parts.{IsFirstLike, IsRenamed, by_likeness, likeness, receiver_by}
use Rattle.px_link_methods.proofs.Passing.{equal_by}
use Rattle.px_link_methods.proofs.Pieces.{IsPair, pair_at, unzipped, zipped_more}
use Rattle.px_link_methods.proofs.RowPlaces.{beside}

-- THE MAP

then_equal : (first later : Ordering) → ordering_then first later ≡ Equal → (first ≡ Equal) × (later ≡ Equal)
then_equal Less later is = absurd (cc)
then_equal Equal later is = (refl, is)
then_equal Greater later is = absurd (cc)

-- the order tells likenesses apart
same_likeness : (one other : ℕ × ℕ × ℕ) → is_at (by_likeness one) other ≡ true → other ≡ one
same_likeness one other is =
    let all = then_equal (ordering_then (nat_cmp one.0 other.0) (nat_cmp one.1 other.1)) (nat_cmp one.2 other.2) (equal_by (by_likeness one other) is) in
    let front = then_equal (nat_cmp one.0 other.0) (nat_cmp one.1 other.1) all.0 in
    let first = exact_unsigned one.0 other.0 front.0 in
    let second = exact_unsigned one.1 other.1 front.1 in
    let third = exact_unsigned one.2 other.2 all.1 in
    ap (λ x. (x, other.1, other.2)) (sym first) ∙ ap (λ x. (one.0, x, other.2)) (sym second) ∙ ap (λ x. (one.0, one.1, x)) (sym third)

-- a likeness that is there
pub found_first : (firsts : BTreeMap (ℕ × ℕ × ℕ) ℕ) (like : ℕ × ℕ × ℕ) (next number : ℕ) → get by_likeness firsts like ≡ Some number → IsFirstLike firsts firsts like next (Some number)
found_first firsts like next number is = record { found = is; kept = λ other n there. inl there }

-- a likeness that is new
pub kept_first : (before after : BTreeMap (ℕ × ℕ × ℕ) ℕ) (like : ℕ × ℕ × ℕ) (next : ℕ) → Updates by_likeness before after like (Some next) → IsFirstLike before after like next None
kept_first before after like next updates = record {
  found = tt;
  kept = λ other number there.
      let is = sym (updates.0 other) ∙ there in
      ⊎_elim
      (λ same. inr (same_likeness like other same, sym (same_Some next number (sym (cond-true (is_at (by_likeness like) other) (Some next) (get by_likeness before other) same) ∙ is))))
      (λ differs. inl (sym (cond-false (is_at (by_likeness like) other) (Some next) (get by_likeness before other) differs) ∙ is))
      (cases_Bool (is_at (by_likeness like) other));
}

-- METHODS

-- what is made for one row serves another that shares body and signature, under a name and an owner of its own
pub made_like : (v : View) (n : Numbering) (one row : ℕ) (whole : Whole) (method : Method) (name : List ℕ) → IsMethod v n one whole method → sig_at v one ≡ sig_at v row → IsMethodName v row name
    → IsMethod v n row whole (renamed method name (owner_number v n.keys (owner_of v methods row)))
made_like v n one row whole method name made same name_is = record {
  sig = made.sig;
  has_sig = sym same ∙ made.has_sig;
  name = name_is;
  owner = refl;
  is_static = made.is_static;
  params = made.params;
  ret = made.ret;
  locals = made.locals;
  max_stack = made.max_stack;
  code = made.code;
  clauses = made.clauses;
}

abbrev IsOwnedAs : View → List Key → Method → ℕ → Type 0
IsOwnedAs v keys method owner = (method.is_static ≡ true) ⊎ (method.owner ≡ owner_number v keys owner)

owned_by : (v : View) (keys : List Key) (method : Method) (has_this : Bool) (one other : ℕ) → method.is_static ≡ not has_this → method.owner ≡ owner_number v keys one → cond has_this one 0 ≡ cond has_this other 0 → IsOwnedAs v keys method other
owned_by v keys method true one other static owner same = inr (owner ∙ ap (owner_number v keys) same)
owned_by v keys method false one other static owner same = inl static

-- what is shared with a row of the same likeness is its receiver too
pub owned_like : (v : View) (n : Numbering) (one row : ℕ) (whole : Whole) (method : Method) → IsMethod v n one whole method → sig_at v one ≡ sig_at v row
    → receiver_by (sig_at v one) (owner_of v methods one) ≡ receiver_by (sig_at v row) (owner_of v methods row) → IsOwnedAs v n.keys method (owner_of v methods row)
owned_like v n one row whole method made same receivers =
    let known = subst (λ s. receiver_by s (owner_of v methods one) ≡ receiver_by (sig_at v row) (owner_of v methods row)) made.has_sig receivers in
    let both = subst (λ s. receiver_by (Some made.sig) (owner_of v methods one) ≡ receiver_by s (owner_of v methods row)) (sym same ∙ made.has_sig) known in
    owned_by v n.keys method made.sig.has_this (owner_of v methods one) (owner_of v methods row) made.is_static made.owner both

-- UNDER WAY

abbrev Made : View → Numbering → ℕ × Whole → Method → Type 0
Made v n pair method = IsMethod v n pair.0 pair.1 method

-- the first of some likeness, by its number
pub record IsFirstOf (v : View) (pairs : List (ℕ × Whole)) (like : ℕ × ℕ × ℕ) (number : ℕ) : Type 0 where
  pub pair : ℕ × Whole
  pub there : slice_get pairs number ≡ Some pair
  pub like_is : likeness v pair.0 ≡ like

-- the methods of some rows and bodies, and of each likeness that they have the first
pub record AreMade (v : View) (n : Numbering) (pairs : List (ℕ × Whole)) (made : List Method) (firsts : BTreeMap (ℕ × ℕ × ℕ) ℕ) : Type 0 where
  pub methods_are : AllZip (λ pair method. IsMethod v n pair.0 pair.1 method) pairs made
  pub firsts_are : (like : ℕ × ℕ × ℕ) (number : ℕ) → get by_likeness firsts like ≡ Some number → IsFirstOf v pairs like number

pub none_made : (v : View) (n : Numbering) (pairs : List (ℕ × Whole)) (made : List Method) (firsts : BTreeMap (ℕ × ℕ × ℕ) ℕ) → made ≡ [] → firsts.entries ≡ [] → AreMade v n (take 0 pairs) made firsts
none_made v n pairs made firsts none empty = record {
  methods_are = subst (AllZip (Made v n) []) (sym none) tt;
  firsts_are = λ like number there. absurd (let is = subst (λ es. lookup (is_at (by_likeness like)) es ≡ Some number) empty there in cc);
}

-- a method that a row can share all with but its name
pub record IsShared (v : View) (n : Numbering) (made : List Method) (row : ℕ) (whole : Whole) (number : ℕ) : Type 0 where
  pub one : ℕ
  pub method : Method
  pub there : slice_get made number ≡ Some method
  pub is : IsMethod v n one whole method
  pub sig : sig_at v one ≡ sig_at v row
  pub receiver : receiver_by (sig_at v one) (owner_of v methods one) ≡ receiver_by (sig_at v row) (owner_of v methods row)

taken : {X : Type 0} (xs : List X) (k i : ℕ) (x : X) → slice_get (take k xs) i ≡ Some x → slice_get xs i ≡ Some x
taken xs zero i x at = absurd (cc)
taken [] (suc k) i x at = at
taken (y ∷ xs) (suc k) zero x at = at
taken (y ∷ xs) (suc k) (suc i) x at = taken xs k i x at

still_there : {X : Type 0} (xs more : List X) (k : ℕ) (x : X) → slice_get xs k ≡ Some x → slice_get (xs ++ more) k ≡ Some x
still_there [] more k x at = absurd (cc)
still_there (y ∷ xs) more zero x at = at
still_there (y ∷ xs) more (suc k) x at = still_there xs more k x at

last_there : {X : Type 0} (xs : List X) (x : X) → slice_get (xs ++ x ∷ []) (length xs) ≡ Some x
last_there [] x = refl
last_there (y ∷ xs) x = last_there xs x

-- the first of a row's likeness can be shared with, since methods with one address have one body
pub shares : (v : View) (n : Numbering) (bodies : List Whole) (k row : ℕ) (whole : Whole) (made : List Method) (firsts : BTreeMap (ℕ × ℕ × ℕ) ℕ) (number : ℕ) → AreByAddress v n.rows bodies → IsPair n.rows bodies k row whole
    → AreMade v n (take k (zip n.rows bodies)) made firsts → get by_likeness firsts (likeness v row) ≡ Some number → IsShared v n made row whole number
shares v n bodies k row whole made firsts number shared pair are found =
    let pairs = zip n.rows bodies in
    let at = pair_at n.rows bodies k row whole pair in
    let first = are.firsts_are (likeness v row) number found in
    let one = first.pair.0 in
    let apart = unzipped n.rows bodies number first.pair (taken pairs k number first.pair first.there) in
    let address : cell v methods one 0 ≡ cell v methods row 0 = ap (λ (l : ℕ × ℕ × ℕ). l.0) first.like_is in
    let place : cell v methods one 4 ≡ cell v methods row 4 = ap (λ (l : ℕ × ℕ × ℕ). l.1) first.like_is in
    let same_body = shared number k one row first.pair.1 whole apart.0 at.0 apart.1 at.1 address in
    let method = beside (Made v n) (take k pairs) made are.methods_are number first.pair first.there in
    record {
      one = one;
      method = method.0;
      there = method.1.0;
      is = subst (λ w. IsMethod v n one w method.0) same_body method.1.1;
      sig = ap (method_sig_at v) place;
      receiver = ap (λ (l : ℕ × ℕ × ℕ). l.2) first.like_is;
    }

firsts_more : (v : View) (done : List (ℕ × Whole)) (row : ℕ) (whole : Whole) (next : ℕ) (before after : BTreeMap (ℕ × ℕ × ℕ) ℕ) (first : Option ℕ)
    → ((like : ℕ × ℕ × ℕ) (number : ℕ) → get by_likeness before like ≡ Some number → IsFirstOf v done like number) → next ≡ length done → IsFirstLike before after (likeness v row) next first
    → (like : ℕ × ℕ × ℕ) (number : ℕ) → get by_likeness after like ≡ Some number → IsFirstOf v (done ++ (row, whole) ∷ []) like number
firsts_more v done row whole next before after first are last kept like number there =
    ⊎_elim
    (λ old. let of = are like number old in record { pair = of.pair; there = still_there done ((row, whole) ∷ []) number of.pair of.there; like_is = of.like_is })
    (λ new. record { pair = (row, whole); there = subst (λ k. slice_get (done ++ (row, whole) ∷ []) k ≡ Some (row, whole)) (sym (new.1 ∙ last)) (last_there done (row, whole)); like_is = sym new.0 })
    (kept.kept like number there)

-- one more method
pub one_more_made : (v : View) (n : Numbering) (bodies : List Whole) (k row : ℕ) (whole : Whole) (made news : List Method) (method : Method) (next : ℕ) (before after : BTreeMap (ℕ × ℕ × ℕ) ℕ) (first : Option ℕ)
    → AreMade v n (take k (zip n.rows bodies)) made before → IsPair n.rows bodies k row whole → next ≡ length made → IsFirstLike before after (likeness v row) next first → IsMethod v n row whole method → news ≡ made ++ method ∷ []
    → AreMade v n (take (k + 1) (zip n.rows bodies)) news after
one_more_made v n bodies k row whole made news method next before after first are pair last kept is pushed =
    let pairs = zip n.rows bodies in
    let more : take (k + 1) pairs ≡ take k pairs ++ (row, whole) ∷ [] = take_more pairs k (row, whole) pair.within ∙ ap (λ p. take k pairs ++ p ∷ []) (sym pair.is) in
    let size = last ∙ AllZip-long (Made v n) (take k pairs) made are.methods_are in
    record {
      methods_are = zipped_more (Made v n) pairs k (row, whole) made news method are.methods_are pair.within pair.is is pushed;
      firsts_are = subst (λ l. (like : ℕ × ℕ × ℕ) (number : ℕ) → get by_likeness after like ≡ Some number → IsFirstOf v l like number) (sym more) (firsts_more v (take k pairs) row whole next before after first are.firsts_are size kept);
    }

-- WHAT THE STEPS NEED

pub pushed_renamed : {E : Type 0} (v : View) (keys : List Key) (row : ℕ) (method : Method) (before after : List Method) (name : List ℕ) (owner : ℕ) (r : Result (Unit {0}) E) → IsMethodName v row name → owner ≡ owner_number v keys (owner_of v methods row)
    → OnOk r (after ≡ before ++ renamed method name owner ∷ []) → OnOk r (IsRenamed v keys row method before after)
pushed_renamed v keys row method before after name owner (Ok done) named is pushed = record { name = name; name_is = named; is = pushed ∙ ap (λ o. before ++ renamed method name o ∷ []) is }
pushed_renamed v keys row method before after name owner (Err fault) named is pushed = tt

-- there are no more methods than pairs
pub few_made : (v : View) (n : Numbering) (pairs : List (ℕ × Whole)) (k : ℕ) (made : List Method) (firsts : BTreeMap (ℕ × ℕ × ℕ) ℕ) → AreMade v n (take k pairs) made firsts → k < length pairs → length made ≡ k
few_made v n pairs k made firsts are less = AllZip-long (Made v n) (take k pairs) made are.methods_are ∙ length-take-le k pairs (omega arith)

-- the owner of a method that is shared with
pub shared_owner : (v : View) (n : Numbering) (made : List Method) (row : ℕ) (whole : Whole) (number : ℕ) → IsShared v n made row whole number
    → (method : Method) → slice_get made number ≡ Some method → (method.is_static ≡ true) ⊎ (method.owner ≡ owner_number v n.keys (owner_of v methods row))
shared_owner v n made row whole number shared method at =
    let same = same_Some shared.method method (sym shared.there ∙ at) in
    subst (λ (m : Method). IsOwnedAs v n.keys m (owner_of v methods row)) same (owned_like v n shared.one row whole shared.method shared.is shared.sig shared.receiver)

-- one more method that shares
pub one_more_shared : (v : View) (n : Numbering) (bodies : List Whole) (k row : ℕ) (whole : Whole) (made news : List Method) (next number : ℕ) (before after : BTreeMap (ℕ × ℕ × ℕ) ℕ) (first : Option ℕ) → AreMade v n (take k (zip n.rows bodies)) made before
    → IsPair n.rows bodies k row whole → next ≡ length made → IsFirstLike before after (likeness v row) next first → IsShared v n made row whole number
    → ((method : Method) → slice_get made number ≡ Some method → IsRenamed v n.keys row method made news) → AreMade v n (take (k + 1) (zip n.rows bodies)) news after
one_more_shared v n bodies k row whole made news next number before after first are pair last kept shared pushes =
    let pushed = pushes shared.method shared.there in
    one_more_made v n bodies k row whole made news (renamed shared.method pushed.name (owner_number v n.keys (owner_of v methods row))) next before after first are pair last kept
    (made_like v n shared.one row whole shared.method pushed.name shared.is shared.sig pushed.name_is) pushed.is
