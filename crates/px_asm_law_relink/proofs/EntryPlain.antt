-- The signatures of all methods that are reached are plain.
use Rattle.std.proofs.Common.{◌≡◌, ℕ, ◌+◌, ◌%◌, ◌^◌, Bool, true, false, List, [], ◌∷◌, ◌++◌, length, take, Option, Some, None, Result, Ok, Err, refl, sym, ◌∙◌, subst, eqb-true, inl, inr, ⊎_elim, arith}
use Rattle.std.specs.Prelude.{◌-◌, ◌==◌, ◌&&◌, ◌||◌, codes, find, not, if◌then◌else◌}
use Rattle.std.specs.List.{AllByRecursion, flat_map}
use Rattle.std.specs.Str.{bytes_eq}
use Rattle.std.proofs.lemmas.Bool.{and_parts, cases_Bool, cond_both, or_cases}
use Rattle.std.proofs.lemmas.Option.{same_Some, slice_get-get_or}
use Rattle.px_code.specs.Reading.{PlacedFault}
use Rattle.px_code.specs.declared.body.RawInstr.{RawInstr}
use Rattle.px_link_methods.proofs.RowPlaces.{found_passes, one_of_each}
use Rattle.px_link.specs.Link.{is_maker, is_nil, maker_in, maker_of, rows_of, starts_of, takes_nothing}
use Rattle.px_meta.specs.Members.{method_sig_at, owner_of}
use Rattle.px_meta.specs.Overriding.{Behind, Here, IsNearest, MayOverride, Overrides}
use Rattle.px_meta.specs.Rows.{cell, is_in, member_refs, methods, rows_in, some_row, text_at}
use Rattle.px_meta.specs.Tokens.{row_in, table_in}
use Rattle.px_link_methods.specs.Methods.{sig_at}
use Rattle.px_link_tokens.specs.Operands.{Called, CalledVirtually, Made, Way, callee_at, check_in, check_of, check_operand, constructor_of, constructor_with, each_known, is_run, is_void, library_by, library_constructor, library_in, may_be_called, may_take, method_by, method_in, operand_of, parent_ref, reference_in, virtual_at, ◌else◌}
use Rattle.px_link_tokens.specs.declared.operand.Operand.{Operand}
use Rattle.px_link_tokens.specs.declared.operand.Operand.TheVariants as operand
use Rattle.px_pe.specs.Image as pe
use Rattle.px_program.proofs.Types.{each-append}
use Rattle.px_program.specs.declared.instr.Check.{Check}
use Rattle.px_link_reach.proofs.Owned.{no_target, owned_operand}
use Rattle.px_link_reach.proofs.Sets.{in_once}
use Rattle.px_link_reach.specs.Bodies.{whole_at}
use Rattle.px_link_reach.specs.Finding.{is_call}
use Rattle.px_link_reach.specs.Met.{IsOwned, calls_at, calls_of, each_once, in_body, method_in as named_method, operand_at, target_of, with_overriders}
use Rattle.px_link_reach.specs.Overriders.{AreLists, AreOverriders, Directly, OverridesThrough, Through, overriders_in}
use Rattle.px_link_reach.specs.declared.body.Whole.{Whole}
use Rattle.px_sig.specs.declared.sig.MethodSig.{MethodSig}
use Rattle.px_tables.specs.Metadata.{View}
use Rattle.px_link_types.specs.Keys.{is_class}
use Rattle.px_link_types.specs.declared.key.Key.{Key}
use Rattle.px_asm_law_relink.specs.Again.{Again}

-- the signature of a method, where it has one, is plain
pub record IsPlain (v : View) (row : ℕ) : Type 0 where
  pub plain : (sig : MethodSig) → sig_at v row ≡ Some sig → sig.plain ≡ true

plain_by : (v : View) (row : ℕ) (sig : MethodSig) → sig_at v row ≡ Some sig → sig.plain ≡ true → IsPlain v row
plain_by v row sig has plain = record { plain = λ other e. let same : sig ≡ other = same_Some sig other (sym has ∙ e) in subst (λ (s : MethodSig). s.plain ≡ true) same plain }

-- WHAT INSTRUCTIONS NAME

record IsPlainIn (v : View) (named : Option Operand) : Type 0 where
  pub plain : (row : ℕ) → named ≡ Some (operand.Method row) → IsPlain v row

other : (v : View) (named : Option Operand) → ((row : ℕ) → named ≡ Some (operand.Method row) → ⊥) → IsPlainIn v named
other v named none = record { plain = λ row e. absurd (none row e) }

nothing : (v : View) → IsPlainIn v None
nothing v = other v None (λ row e. cc)

either : (v : View) (b : Bool) (x y : Option Operand) → (b ≡ true → IsPlainIn v x) → IsPlainIn v y → IsPlainIn v (if b then x else y)
either v true x y is rest = is refl
either v false x y is rest = rest

where_so : (v : View) (b : Bool) (x : Option Operand) → (b ≡ true → IsPlainIn v x) → IsPlainIn v (if b then x else None)
where_so v b x is = either v b x None is (nothing v)

run_plain : (v : View) (sig : MethodSig) → is_run v sig ≡ true → sig.plain ≡ true
run_plain v sig is = (and_parts _ _ (and_parts _ _ is).0).0

method_plain : (v : View) (way : Way) (row : ℕ) (sig : Option MethodSig) → sig_at v row ≡ sig → IsPlainIn v (method_by v way row sig)
method_plain v way row None e = nothing v
method_plain v way row (Some sig) e =
    where_so v (is_run v sig && may_be_called v way row sig) (Some (operand.Method row))
    (λ may. record { plain = λ named same. let is : row ≡ named = cc in subst (IsPlain v) is (plain_by v row sig e (run_plain v sig (and_parts _ _ may).0)) })

row_plain : (v : View) (way : Way) (row : Option ℕ) → IsPlainIn v (method_in v way row)
row_plain v way None = nothing v
row_plain v way (Some row) = method_plain v way row (sig_at v row) refl

no_constructor_with : (v : View) (class : ℕ) (params : Option (List Key)) → IsPlainIn v (constructor_with class params)
no_constructor_with v class None = nothing v
no_constructor_with v class (Some params) = where_so v (may_take class params) (Some (operand.Constructor class params)) (λ e. other v (Some (operand.Constructor class params)) (λ row same. cc))

no_constructor_of : (v : View) (sig : MethodSig) (class : Option ℕ) → IsPlainIn v (constructor_of v sig class)
no_constructor_of v sig None = nothing v
no_constructor_of v sig (Some class) = where_so v _ _ (λ e. no_constructor_with v class (each_known v sig.params))

no_constructor : (v : View) (row : ℕ) (sig : MethodSig) → IsPlainIn v (library_constructor v row sig)
no_constructor v row sig = where_so v _ _ (λ e. no_constructor_of v sig (library_in v (parent_ref v row)))

no_check_operand : (v : View) (check : Option Check) → IsPlainIn v (check_operand check)
no_check_operand v None = nothing v
no_check_operand v (Some check) = other v (Some (operand.Check check)) (λ row same. cc)

no_check : (v : View) (row : ℕ) (sig : MethodSig) → IsPlainIn v (check_of v row sig)
no_check v row sig = where_so v _ _ (λ e. no_check_operand v (check_in v (parent_ref v row)))

one_or : (v : View) (x y : Option Operand) → IsPlainIn v x → IsPlainIn v y → IsPlainIn v (x else y)
one_or v None y is rest = rest
one_or v (Some x) y is rest = is

no_library : (v : View) (made : Bool) (row : ℕ) (sig : Option MethodSig) → IsPlainIn v (library_by v made row sig)
no_library v made row None = nothing v
no_library v true row (Some sig) = no_constructor v row sig
no_library v false row (Some sig) = one_or v (library_constructor v row sig) (check_of v row sig) (no_constructor v row sig) (no_check v row sig)

no_reference : (v : View) (made : Bool) (row : Option ℕ) → IsPlainIn v (reference_in v made row)
no_reference v made None = nothing v
no_reference v made (Some row) = no_library v made row (method_sig_at v (cell v member_refs row 2))

callee_plain : (v : View) (made : Bool) (at : ℕ) → IsPlainIn v (callee_at v made at)
callee_plain v made at =
    either v (table_in at == methods) (method_in v (if made then Made else Called) (some_row v methods (row_in at))) _ (λ e. row_plain v (if made then Made else Called) (some_row v methods (row_in at)))
    (where_so v (table_in at == member_refs) (reference_in v made (some_row v member_refs (row_in at))) (λ e. no_reference v made (some_row v member_refs (row_in at))))

virtual_plain : (v : View) (at : ℕ) → IsPlainIn v (virtual_at v at)
virtual_plain v at = where_so v (table_in at == methods) (method_in v CalledVirtually (some_row v methods (row_in at))) (λ e. row_plain v CalledVirtually (some_row v methods (row_in at)))

call_plain : (v : View) (at : ℕ) → IsPlainIn v (operand_of v 0x28 at)
unfolding operand_of
call_plain v at = callee_plain v false at

call_virtual_plain : (v : View) (at : ℕ) → IsPlainIn v (operand_of v 0x6F at)
unfolding operand_of
call_virtual_plain v at = virtual_plain v at

new_plain : (v : View) (at : ℕ) → IsPlainIn v (operand_of v 0x73 at)
unfolding operand_of
new_plain v at = callee_plain v true at

operand_plain : (v : View) (opcode at : ℕ) → is_call opcode ≡ true → IsPlainIn v (operand_of v opcode at)
operand_plain v opcode at is =
    let of = λ (number : ℕ) (same : (opcode == number) ≡ true) (plain : IsPlainIn v (operand_of v number at)). subst (λ o. IsPlainIn v (operand_of v o at)) (sym (eqb-true opcode number same)) plain in
    ⊎_elim
    (λ first. ⊎_elim (λ call. of 0x28 call (call_plain v at)) (λ virtual. of 0x6F virtual (call_virtual_plain v at)) (or_cases (opcode == 0x28) (opcode == 0x6F) first))
    (λ made. of 0x73 made (new_plain v at))
    (or_cases ((opcode == 0x28) || (opcode == 0x6F)) (opcode == 0x73) is)

-- a method that is called
record IsCalled (v : View) (row : ℕ) : Type 0 where
  pub owned : IsOwned v row
  pub plain : IsPlain v row

named_called : (v : View) (named : Option Operand) → ((row : ℕ) → named ≡ Some (operand.Method row) → IsCalled v row) → AllByRecursion (IsCalled v) (named_method named)
named_called v None is = tt
named_called v (Some (operand.Text units)) is = tt
named_called v (Some (operand.Type key)) is = tt
named_called v (Some (operand.Field row)) is = tt
named_called v (Some (operand.Method row)) is = (is row refl, tt)
named_called v (Some (operand.Constructor class params)) is = tt
named_called v (Some (operand.Check check)) is = tt

targets_called : (v : View) (raw : RawInstr) → AllByRecursion (IsCalled v) (target_of v raw)
targets_called v raw =
    ⊎_elim
    (λ is. named_called v (operand_at v raw) (λ row e. record {
      owned = owned_operand v raw.opcode (raw.operand % 2 ^ 32) row e;
      plain = (operand_plain v raw.opcode (raw.operand % 2 ^ 32) is).plain row e;
    }))
    (λ none. subst (AllByRecursion (IsCalled v)) (sym (no_target v raw none)) tt)
    (cases_Bool (is_call raw.opcode))

-- WHAT OVERRIDES

may_plain : (v : View) (method target : ℕ) → MayOverride v method target → IsPlain v target → IsPlain v method
may_plain v method target may plain = plain_by v method may.sig may.has_sig (plain.plain may.sig may.other_has_sig)

nearest_plain : (v : View) (method type target : ℕ) → IsNearest v method type target → IsPlain v target → IsPlain v method
nearest_plain v method type target (Here _ base _ is first) plain = may_plain v method target first.namesake.may plain
nearest_plain v method type target (Behind _ base _ is none behind) plain = nearest_plain v method base target behind plain

overrides_plain : (v : View) (method target : ℕ) → Overrides v method target → IsPlain v target → IsPlain v method
overrides_plain v method target (inl said) plain = may_plain v method target said.said.may plain
overrides_plain v method target (inr named) plain = nearest_plain v method (owner_of v methods method) target named.nearest plain

through_plain : (v : View) (method target : ℕ) → OverridesThrough v method target → IsPlain v target → IsPlain v method
through_plain v method target (Directly _ _ overrides) plain = overrides_plain v method target overrides plain
through_plain v method target (Through _ between _ overrides rest) plain = overrides_plain v method between overrides (through_plain v between target rest plain)

each_plain : (v : View) (target : ℕ) (rows : List ℕ) → IsPlain v target → AllByRecursion (λ method. OverridesThrough v method target) rows → AllByRecursion (IsPlain v) rows
each_plain v target [] plain all = tt
each_plain v target (row ∷ rows) plain all = (through_plain v row target all.0 plain, each_plain v target rows plain all.1)

overriders_plain : (v : View) (lists : List (List ℕ)) (target : ℕ) → AreLists v lists → IsCalled v target → AllByRecursion (IsPlain v) (overriders_in lists target)
overriders_plain v lists target are called =
    let there = called.owned.row in
    let some = there.some in
    let few = there.few in
    let count = are.count in
    let same : (target - 1) + 1 ≡ target = omega arith in
    let list = are.each (target - 1) (overriders_in lists target) (slice_get-get_or lists (target - 1) [] (omega arith)) in
    each_plain v target (overriders_in lists target) called.plain (subst (λ t. AreOverriders v t (overriders_in lists target)) same list).each

-- WHAT IS REACHED

followed_plain : (v : View) (lists : List (List ℕ)) (targets : List ℕ) → AreLists v lists → AllByRecursion (IsCalled v) targets → AllByRecursion (IsPlain v) (flat_map (with_overriders lists) targets)
followed_plain v lists [] are called = tt
followed_plain v lists (target ∷ targets) are called =
    (called.0.plain, each-append (IsPlain v) (overriders_in lists target) (flat_map (with_overriders lists) targets) (overriders_plain v lists target are called.0) (followed_plain v lists targets are called.1))

alone_plain : (v : View) (targets : List ℕ) → AllByRecursion (IsCalled v) targets → AllByRecursion (IsPlain v) targets
alone_plain v [] called = tt
alone_plain v (target ∷ targets) called = (called.0.plain, alone_plain v targets called.1)

calls_plain : (v : View) (lists : List (List ℕ)) (targets : List ℕ) (virtual : Bool) → AreLists v lists → AllByRecursion (IsCalled v) targets
    → AllByRecursion (IsPlain v) (if virtual then flat_map (with_overriders lists) targets else targets)
calls_plain v lists targets true are called = followed_plain v lists targets are called
calls_plain v lists targets false are called = alone_plain v targets called

code_plain : (v : View) (lists : List (List ℕ)) (code : List RawInstr) → AreLists v lists → AllByRecursion (IsPlain v) (flat_map (calls_of v lists) code)
code_plain v lists [] are = tt
code_plain v lists (raw ∷ code) are =
    each-append (IsPlain v) (calls_of v lists raw) (flat_map (calls_of v lists) code) (calls_plain v lists (target_of v raw) (raw.opcode == 0x6F) are (targets_called v raw)) (code_plain v lists code are)

body_plain : (v : View) (lists : List (List ℕ)) (read : Result Whole PlacedFault) → AreLists v lists → AllByRecursion (IsPlain v) (in_body (calls_of v lists) read)
body_plain v lists (Ok whole) are = code_plain v lists whole.body.code are
body_plain v lists (Err fault) are = tt

pub all_calls_plain : (v : View) (image : pe.View) (lists : List (List ℕ)) (rows : List ℕ) → AreLists v lists → AllByRecursion (IsPlain v) (flat_map (calls_at v image lists) rows)
all_calls_plain v image lists [] are = tt
all_calls_plain v image lists (row ∷ rows) are =
    each-append (IsPlain v) (calls_at v image lists row) (flat_map (calls_at v image lists) rows) (body_plain v lists (whole_at v image row) are) (all_calls_plain v image lists rows are)

-- WHAT A PROGRAM STARTS WITH

-- a maker that was found
pub record IsMakerIn (v : View) (type maker : ℕ) : Type 0 where
  pub class : is_class v type ≡ true
  pub found : find (is_maker v type) (rows_in v methods) ≡ Some maker

pub maker_found : (v : View) (type maker : ℕ) → maker_in v type ≡ Some maker → IsMakerIn v type maker
maker_found v type maker =
    cond_both (is_class v type) (find (is_maker v type) (rows_in v methods)) None (λ o. o ≡ Some maker → IsMakerIn v type maker)
    (λ class found. record { class = class; found = found }) (λ other found. absurd (cc))

takes_plain : (v : View) (row : ℕ) (sig : Option MethodSig) → sig_at v row ≡ sig → takes_nothing sig ≡ true → IsPlain v row
takes_plain v row None e is = absurd (cc)
takes_plain v row (Some sig) e is = plain_by v row sig e (and_parts sig.has_this sig.plain (and_parts (sig.has_this && sig.plain) (is_void sig.ret) (and_parts (sig.has_this && sig.plain && is_void sig.ret) (is_nil sig.params) is).0).0).1

maker_plain : (v : View) (type maker : ℕ) → IsMakerIn v type maker → IsPlain v maker
maker_plain v type maker is =
    takes_plain v maker (sig_at v maker) refl
    (and_parts ((owner_of v methods maker == type) && bytes_eq (text_at v (cell v methods maker 3)) (codes ".ctor") && not (cell v methods maker 0 == 0)) (takes_nothing (sig_at v maker))
    (found_passes (is_maker v type) (rows_in v methods) maker is.found)).1

rows_plain : (v : View) (type : ℕ) (maker : Option ℕ) → maker_in v type ≡ maker → AllByRecursion (IsPlain v) (rows_of maker)
rows_plain v type None e = tt
rows_plain v type (Some maker) e = (maker_plain v type maker (maker_found v type maker e), tt)

makers_plain : (v : View) (method : ℕ) (sig : MethodSig) → AllByRecursion (IsPlain v) (rows_of (maker_of v method sig))
makers_plain v method sig =
    cond_both sig.has_this (maker_in v (owner_of v methods method)) None (λ o. AllByRecursion (IsPlain v) (rows_of o)) (λ this. rows_plain v (owner_of v methods method) (maker_in v (owner_of v methods method)) refl) (λ static. tt)

starts_plain : (a : Again) → AllByRecursion (IsPlain a.first) (starts_of a.first a.reads.method a.reads.sig)
starts_plain a = (plain_by a.first a.reads.method a.reads.sig a.reads.entry.found.has_sig a.reads.entry.found.plain, makers_plain a.first a.reads.method a.reads.sig)

-- the signature of a method that is reached is plain
pub reached_plain : (a : Again) (row : ℕ) → is_in a.reads.reached.rows row ≡ true → IsPlain a.first row
reached_plain a row reached =
    let rows = a.reads.reached.rows in
    let calls = calls_at a.first a.from a.reads.lists in
    let starts = starts_of a.first a.reads.method a.reads.sig in
    let all : rows ≡ each_once (starts ++ flat_map calls (take (length rows) rows)) = a.reads.is_reached.met.same in
    one_of_each (IsPlain a.first) (starts ++ flat_map calls (take (length rows) rows)) row
    (each-append (IsPlain a.first) starts (flat_map calls (take (length rows) rows)) (starts_plain a) (all_calls_plain a.first a.from a.reads.lists (take (length rows) rows) a.reads.overriding))
    (in_once (starts ++ flat_map calls (take (length rows) rows)) row (subst (λ l. is_in l row ≡ true) all reached))
