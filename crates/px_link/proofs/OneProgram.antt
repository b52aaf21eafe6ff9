-- A file stands for one program by each name, and isn't refused for a cause other than memory where it does.
use Rattle.std.proofs.Common.{◌≡◌, ℕ, List, Option, Some, None, refl, sym, ap, ◌∙◌, subst, ⊎_elim}
use Rattle.std.proofs.lemmas.Bool.{true≢false}
use Rattle.std.proofs.lemmas.Option.{same_Some}
use Rattle.px_code.specs.declared.body.BodyFault.{BodyFault}
use Rattle.px_code.specs.declared.body.BodyFault.TheVariants as body_faults
use Rattle.px_code.specs.Reading.{PlacedFault}
use Rattle.px_link_methods.specs.Codes.{Numbering}
use Rattle.px_link_methods.specs.Methods.{AreMethods, met_by_all, sig_at}
use Rattle.px_meta.specs.Rows.{cell, methods}
use Rattle.px_link_reach.specs.Met.{IsFirstRefused, IsReached}
use Rattle.px_link_reach.specs.declared.methods.Reached.{Reached}
use Rattle.px_link_types.specs.Numbers.{Numbers, library_keys}
use Rattle.px_link_types.specs.declared.key.Key.{Key}
use Rattle.px_pe.specs.Image as pe
use Rattle.px_program.specs.declared.program.Program.{Program}
use Rattle.px_sig.specs.declared.sig.MethodSig.{MethodSig}
use Rattle.px_tables.specs.Metadata.{View}
use Rattle.px_link.specs.Layout.{IsLayout}
use Rattle.px_link.specs.Link.{AreTwo, Blames, BlamesBody, HasBadBody, HasBadParameter, HasNoBody, HasNoMaker, IsFound, Reads, first_unfit, has_maker, maker_number, maker_of, starts_of}
use Rattle.px_link.specs.One.{ReadsOne, ReadsOrBlames}
use Rattle.px_link.specs.Overrides.{AreLinkedTypes, in_order}
use Rattle.px_link.specs.declared.fault.LinkFault.{LinkFault}
use Rattle.px_link.specs.declared.fault.LinkFault.TheVariants as faults
use Rattle.px_link.proofs.OneKeys.{one_numbering}
use Rattle.px_link.proofs.OneLayout.{one_layout}
use Rattle.px_link.proofs.OneMethods.{one_linked_methods}
use Rattle.px_link.proofs.OneOverriders.{one_lists}
use Rattle.px_link.proofs.OneReached.{never_refused, one_reached}
use Rattle.px_link.proofs.OneTypes.{one_linked_types}

-- THE ENTRY

-- the method that a name finds is one
one_found : (v : View) (name : List ℕ) (method other : ℕ) (sig other_sig : MethodSig) → IsFound v name method sig → IsFound v name other other_sig → method ≡ other
one_found v name method other sig other_sig found other_found = other_found.only.only method found.only.named

found_sig : (v : View) (name : List ℕ) (method other : ℕ) (sig other_sig : MethodSig) → IsFound v name method sig → IsFound v name other other_sig → sig ≡ other_sig
found_sig v name method other sig other_sig found other_found =
    same_Some sig other_sig (sym found.has_sig ∙ ap (sig_at v) (one_found v name method other sig other_sig found other_found) ∙ other_found.has_sig)

-- THE PROGRAM

same_program : (one other : Program) → one.types ≡ other.types → one.methods ≡ other.methods → one.entry ≡ other.entry → one.maker ≡ other.maker → one.layout ≡ other.layout → one ≡ other
same_program one other types methods entry maker layout = λ i. record { types = types i; methods = methods i; entry = entry i; maker = maker i; layout = layout i }

module _ (v : View) (image : pe.View) (name : List ℕ) (one other : Program) (r : Reads v image name one) (s : Reads v image name other) where
  same_entry : s.method ≡ r.method
  same_entry = one_found v name s.method r.method s.sig r.sig s.entry.found r.entry.found

  same_sig : s.sig ≡ r.sig
  same_sig = found_sig v name s.method r.method s.sig r.sig s.entry.found r.entry.found

  same_lists : s.lists ≡ r.lists
  same_lists = one_lists v s.lists r.lists s.overriding r.overriding

  same_starts : starts_of v s.method s.sig ≡ starts_of v r.method r.sig
  same_starts = ap (λ method. starts_of v method s.sig) same_entry ∙ ap (starts_of v r.method) same_sig

  -- what the second reading reaches, by what the first begins with
  reached_there : IsReached v image r.lists (starts_of v r.method r.sig) s.reached
  reached_there =
      subst (λ starts. IsReached v image r.lists starts s.reached) same_starts (subst (λ lists. IsReached v image lists (starts_of v s.method s.sig) s.reached) same_lists s.is_reached)

  all_reached : s.reached ≡ r.reached
  all_reached = one_reached v image r.lists (starts_of v r.method r.sig) s.reached r.reached reached_there r.is_reached

  same_keys : s.keys ≡ r.keys
  same_keys =
      one_numbering v library_keys (met_by_all v r.reached.rows r.reached.bodies) s.keys r.keys
      (subst (λ (reached : Reached). Numbers v library_keys (met_by_all v reached.rows reached.bodies) s.keys) all_reached s.numbers) r.numbers

  abbrev numbering : List Key → Reached → Numbering
  numbering keys reached = record { keys = keys; rows = reached.rows }

  -- what a program has by the numbers of the second reading, it has by those of the first
  by_these : (P : Numbering → List (List ℕ) → Reached → Type 0) → P (numbering s.keys s.reached) s.lists s.reached → P (numbering r.keys r.reached) r.lists r.reached
  by_these P holds =
      subst (λ reached. P (numbering r.keys reached) r.lists reached) all_reached
      (subst (λ keys. P (numbering keys s.reached) r.lists s.reached) same_keys (subst (λ lists. P (numbering s.keys s.reached) lists s.reached) same_lists holds))

  one_program : one ≡ other
  one_program =
      let n = numbering r.keys r.reached in
      same_program one other
      (one_linked_types v n r.lists (in_order r.reached.rows r.reached.virtual_targets) one.types other.types r.types (by_these (λ m lists reached. AreLinkedTypes v m lists (in_order reached.rows reached.virtual_targets) other.types) s.types))
      (one_linked_methods v n r.reached.bodies one.methods other.methods r.methods (by_these (λ m lists reached. AreMethods v m reached.bodies other.methods) s.methods))
      (r.entry_is ∙ sym s.entry_is)
      (r.maker_is ∙ ap (λ (reached : Reached). maker_number reached.rows (maker_of v r.method r.sig)) (sym all_reached) ∙ ap (λ method. maker_number s.reached.rows (maker_of v method r.sig)) (sym same_entry)
      ∙ ap (λ sig. maker_number s.reached.rows (maker_of v s.method sig)) (sym same_sig) ∙ sym s.maker_is)
      (one_layout v n one.layout other.layout r.layout (by_these (λ m lists reached. IsLayout v m other.layout) s.layout))

pub reads_one : ReadsOne
reads_one v image name one other r s = one_program v image name one other r s

-- NOT BOTH

module _ (v : View) (image : pe.View) (name : List ℕ) (program : Program) (r : Reads v image name program) where
  found_here : IsFound v name r.method r.sig
  found_here = r.entry.found

  not_two : AreTwo v name → ⊥
  not_two two = two.apart (found_here.only.only two.first two.named ∙ sym (found_here.only.only two.second two.named_too))

  not_without_body : HasNoBody v name → ⊥
  not_without_body none =
      let same : none.method ≡ r.method = found_here.only.only none.method none.only.named in
      let sig : none.sig ≡ r.sig = same_Some none.sig r.sig (sym none.has_sig ∙ ap (sig_at v) same ∙ found_here.has_sig) in
      ⊎_elim
      (λ empty. found_here.has_body (ap (λ method. cell v methods method 0) (sym same) ∙ empty))
      (λ other. true≢false (sym found_here.plain ∙ ap (λ (s : MethodSig). s.plain) (sym sig) ∙ other))
      none.no_body

  not_unfit : (number : ℕ) → HasBadParameter v name number → ⊥
  not_unfit number bad =
      let sig = found_sig v name bad.method r.method bad.sig r.sig bad.found found_here in
      let both : ◌≡◌ {A = Option ℕ} (Some number) None = sym bad.unfit ∙ ap (λ (s : MethodSig). first_unfit s.params) sig ∙ r.entry.fit in
      absurd (cc)

  not_without_maker : HasNoMaker v name → ⊥
  not_without_maker none =
      let same = one_found v name none.method r.method none.sig r.sig none.found found_here in
      let sig = found_sig v name none.method r.method none.sig r.sig none.found found_here in
      true≢false (sym r.entry.made ∙ ap (λ method. has_maker v method r.sig) (sym same) ∙ ap (has_maker v none.method) (sym sig) ∙ none.no_maker)

  not_refused : (fault : PlacedFault) (number : ℕ) → HasBadBody v image name fault number → ⊥
  not_refused fault number bad =
      let same : bad.method ≡ r.method = one_found v name bad.method r.method bad.sig r.sig bad.entry.found found_here in
      let sig : bad.sig ≡ r.sig = found_sig v name bad.method r.method bad.sig r.sig bad.entry.found found_here in
      let lists : bad.lists ≡ r.lists = one_lists v bad.lists r.lists bad.overriding r.overriding in
      let starts : starts_of v bad.method bad.sig ≡ starts_of v r.method r.sig = ap (λ method. starts_of v method bad.sig) same ∙ ap (starts_of v r.method) sig in
      let refused : IsFirstRefused v image r.lists (starts_of v r.method r.sig) number fault =
      subst (λ l. IsFirstRefused v image r.lists l number fault) starts (subst (λ l. IsFirstRefused v image l (starts_of v bad.method bad.sig) number fault) lists bad.refused) in
      never_refused v image r.lists (starts_of v r.method r.sig) r.reached number fault r.is_reached refused

  not_blamed : (fault : BodyFault) (number : ℕ) → BlamesBody v image name fault number → ⊥
  not_blamed body_faults.Memory number blamed = blamed
  not_blamed (body_faults.Bad kind at) number blamed = not_refused (kind, at) number blamed

  only_memory : (fault : LinkFault) → Blames v image name fault → fault ≡ faults.Memory
  only_memory faults.Memory blamed = refl
  only_memory faults.NoMethod blamed = absurd (blamed r.method found_here.only.named)
  only_memory faults.Ambiguous blamed = absurd (not_two blamed)
  only_memory faults.NoBody blamed = absurd (not_without_body blamed)
  only_memory (faults.BadParameter number) blamed = absurd (not_unfit number blamed)
  only_memory faults.NoMaker blamed = absurd (not_without_maker blamed)
  only_memory (faults.BadBody fault number) blamed = absurd (not_blamed fault number blamed)

pub reads_or_blames : ReadsOrBlames
reads_or_blames v image name program fault r blamed = only_memory v image name program r fault blamed
