-- The entry of a program and its maker, found again.
use Rattle.std.proofs.Common.{◌≡◌, true, Option, Some, None, refl, sym, ap, ◌∙◌, subst}
use Rattle.std.specs.Prelude.{◌||◌, not}
use Rattle.std.specs.List.{AllZip}
use Rattle.std.specs.Option.{option_map}
use Rattle.std.proofs.lemmas.Option.{same_Some}
use Rattle.px_link.specs.Link.{IsEntry, IsFound, first_unfit, has_maker, maker_of}
use Rattle.px_link_tokens.specs.Operands.{is_there}
use Rattle.px_sig.specs.declared.sig.MethodSig.{MethodSig}
use Rattle.px_asm_law_relink.specs.Again.{Again, method_for}
use Rattle.px_asm_described.specs.Describes.{IsTypeOf}
use Rattle.px_asm_law_relink.specs.Linked.{entry_name}
use Rattle.px_asm_law_relink.proofs.EntryArguments.{fit_again}
use Rattle.px_asm_law_relink.proofs.EntryMaker.{entry_maker, has_body_again}
use Rattle.px_asm_law_relink.proofs.EntryNames.{entry_reached, only_entry}
use Rattle.px_asm_law_relink.proofs.MethodBodies.{all_met, numbered_parts}
use Rattle.px_asm_law_relink.proofs.MethodStands.{IsSigAgain, sig_again}
use Rattle.px_asm_law_relink.proofs.Standing.{HasMethodFor, method_stands}

pub record HasEntry (a : Again) : Type 0 where
  pub sig : MethodSig
  pub is : IsEntry a.v (entry_name a.p) (method_for a a.reads.method) sig
  pub maker : maker_of a.v (method_for a a.reads.method) sig ≡ option_map (method_for a) (maker_of a.first a.reads.method a.reads.sig)

entry_sig : (a : Again) → (has : HasMethodFor a a.reads.method) → has.is_method.sig ≡ a.reads.sig
entry_sig a has = same_Some has.is_method.sig a.reads.sig (sym has.is_method.has_sig ∙ a.reads.entry.found.has_sig)

found_again : (a : Again) → (has : HasMethodFor a a.reads.method) → IsFound a.v (entry_name a.p) (method_for a a.reads.method) has.is.sig
found_again a has = record {
  only = only_entry a has;
  has_sig = has.is.has_sig;
  plain = has.is.sig_is.plain;
  has_body = has_body_again a a.reads.method has a.reads.entry.found.has_body;
}

entry_fit : (a : Again) → (has : HasMethodFor a a.reads.method) → first_unfit has.is.sig.params ≡ None
entry_fit a has =
    let first = has.is_method.sig in
    let numbers = numbered_parts a a.reads.method first has.whole has.is_method.has_sig (all_met a a.reads.method (entry_reached a) has) in
    fit_again a first.params has.is.sig.params (ap (λ (s : MethodSig). first_unfit s.params) (entry_sig a has) ∙ a.reads.entry.fit) numbers.params
    (subst (λ l. AllZip (IsTypeOf a.p) l has.is.sig.params) has.is_method.params has.is.sig_is.params)

there-map : {X Y : Type 0} (f : X → Y) (o : Option X) → is_there (option_map f o) ≡ is_there o
there-map f None = refl
there-map f (Some x) = refl

entry_made : (a : Again) → (has : HasMethodFor a a.reads.method) → IsSigAgain a has.is_method.sig has.is.sig
    → maker_of a.v (method_for a a.reads.method) has.is.sig ≡ option_map (method_for a) (maker_of a.first a.reads.method a.reads.sig) → has_maker a.v (method_for a a.reads.method) has.is.sig ≡ true
entry_made a has again maker =
    ap (λ b. not b || is_there (maker_of a.v (method_for a a.reads.method) has.is.sig)) (again.this ∙ ap (λ (s : MethodSig). s.has_this) (entry_sig a has))
    ∙ ap (λ o. not a.reads.sig.has_this || is_there o) maker
    ∙ ap (λ b. not a.reads.sig.has_this || b) (there-map (method_for a) (maker_of a.first a.reads.method a.reads.sig))
    ∙ a.reads.entry.made

pub entry_again : (a : Again) → HasEntry a
entry_again a =
    let has = method_stands a a.reads.method (entry_reached a) in
    let again = sig_again a a.reads.method (entry_reached a) has in
    let maker = entry_maker a has (entry_sig a has) again in
    record {
      sig = has.is.sig;
      is = record { found = found_again a has; fit = entry_fit a has; made = entry_made a has again maker };
      maker = maker;
    }
